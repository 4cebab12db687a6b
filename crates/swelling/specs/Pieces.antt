-- The nodes of an index with several rows more, level by level, as one pass can make them. A working notion, on which no promise rests. Over the
-- distance d between rows, and the words w of the old index. Assumes nothing.
use Rattle.std.specs.Prelude.{◌+◌, ◌-◌, suc, zero, ℕ, eqb, leb, length, cond, List, [], ◌++◌, ◌∷◌, map}
use Rattle.appending.specs.Append.{lowest_at, twice}
use Rattle.laws.specs.Lists.{each, head, keep, range}
use Rattle.limits.specs.Limits.{max_depth}
use Rattle.measure.specs.Table.{between, rows_of}
use Rattle.swelling.specs.Swell.{parts, reach_taking}
use Rattle.tree.specs.Build.{reach}
use Rattle.tree.specs.Encode.{Node, node_words, pair_words}
use Rattle.tree.specs.Grove.{Reach, members#, reach#}
use Rattle.words.specs.Shape.{inner}
use Rattle.words.specs.Words.{child#, circles#, count#, first#, l#, m#, n#}

-- what waits on a level, each with the position where it starts: an old inner node with the rows that it takes; a run that has grown row by row, and
-- how far it reaches; or a leaf that stays one, with its reach and its members
pub data Piece : Type 0 where
  old : ℕ → ℕ → List ℕ → Piece
  grown : ℕ → Reach → List ℕ → Piece
  settled : ℕ → Reach → List (ℕ × ℕ) → Piece

-- where it starts
abbrev pub start_of : Piece → ℕ
start_of (old s o zs) = s
start_of (grown s R run) = s
start_of (settled s R es) = s

-- the pieces of runs that follow each other from position s on
abbrev pub grown_from : (ℕ → ℕ → ℕ) → ℕ → List (List ℕ) → List Piece
grown_from d s [] = []
grown_from d s (q ∷ qs) = grown s (reach d q) q ∷ grown_from d (s + length q) qs

module _ (d : ℕ → ℕ → ℕ) (w : List ℕ) where
  -- old leaf o at position s with the rows that it takes: where it takes one it is measured, and one in which a row stands twice is not split
  abbrev pub leaf_piece : ℕ → ℕ → List ℕ → Piece
  leaf_piece s o [] = settled s (reach# w o) (members# w o)
  leaf_piece s o (z ∷ zs) =
      let run : List ℕ = map (λ e. e.0) (members# w o) ++ z ∷ zs in
      let own : Reach = reach_taking (length (members# w o)) (reach# w o) (map (d (head run)) (z ∷ zs)) in
      cond (twice run) (settled s own (map (λ i. (i, d (head run) i)) run)) (grown s own run)

  -- any old node
  abbrev pub piece_of : ℕ → ℕ → List ℕ → Piece
  piece_of s o zs = cond (inner w o) (old s o zs) (leaf_piece s o zs)

  -- which of old node o's children takes row z
  abbrev pub kid_for : ℕ → ℕ → ℕ
  kid_for o z = lowest_at (map (λ f. d f z) (map (first# w) (range (child# w o) (m# w))))

  -- j old nodes from number o on, side by side from position s on; each takes the rows whose place is its own, and the first's is k
  abbrev pub kids_from : (ℕ → ℕ) → List ℕ → ℕ → ℕ → ℕ → ℕ → List Piece
  kids_from place zs s o k zero = []
  kids_from place zs s o k (suc j) =
      let here : List ℕ = keep (λ z. eqb (place z) k) zs in
      piece_of s o here ∷ kids_from place zs (s + (count# w o + length here)) (suc o) (suc k) j

  -- the pieces that a piece is opened into
  abbrev pub opens : Piece → List Piece
  opens (old s o zs) = kids_from (kid_for o) zs s (child# w o) 0 (m# w)
  opens (grown s R run) = cond (leb (length run) (l# w)) [] (grown_from d s (parts d (m# w) (l# w) run))
  opens (settled s R es) = []

  -- its words while it waits, but for the first child's number
  abbrev pub waiting : Piece → ℕ → Node
  waiting (old s o zs) next = (s, count# w o + length zs, next, reach_taking (count# w o) (reach# w o) (map (d (first# w o)) zs))
  waiting (grown s R run) next = (s, length run, cond (leb (length run) (l# w)) 0 next, R)
  waiting (settled s R es) next = (s, length es, 0, R)

  -- on the last level there are no children
  abbrev pub lastly : Piece → Node
  lastly (old s o zs) = waiting (old s o zs) 0
  lastly (grown s R run) = (s, length run, 0, R)
  lastly (settled s R es) = (s, length es, 0, R)

  -- the nodes of a level; `next` is the number of its first child
  unfoldable pub level_from : ℕ → List Piece → List Node
  level_from next [] = []
  level_from next (q ∷ qs) = waiting q next ∷ level_from (next + length (opens q)) qs

  -- the level below
  abbrev pub open_all : List Piece → List Piece
  open_all qs = each opens qs

  -- the nodes of a level and of the `deep` levels below it
  unfoldable pub levels_from : ℕ → ℕ → List Piece → List Node
  levels_from zero next qs = map lastly qs
  levels_from (suc deep) next qs = level_from next qs ++ levels_from deep (next + length (open_all qs)) (open_all qs)

  -- the members of a leaf
  abbrev pub own_members : Piece → List (ℕ × ℕ)
  own_members (old s o zs) = []
  own_members (grown s R run) = map (λ i. (i, d (head run) i)) run
  own_members (settled s R es) = es

  -- the members of a piece with at most `deep` levels below it, in the order of their positions: its own, or those that it is opened into
  unfoldable pub members_from : ℕ → Piece → List (ℕ × ℕ)
  members_from zero q = own_members q
  members_from (suc deep) (old s o zs) = each (λ q. members_from deep q) (opens (old s o zs))
  members_from (suc deep) (settled s R es) = es
  members_from (suc deep) (grown s R run) =
      let below : List (ℕ × ℕ) = each (λ q. members_from deep q) (grown_from d s (parts d (m# w) (l# w) run)) in
      cond (leb (length run) (l# w)) (own_members (grown s R run)) below

-- an index of c columns in edition 2, by its nodes and its members
abbrev pub written : ℕ → ℕ → ℕ → ℕ → List Node → List (ℕ × ℕ) → List ℕ
written c o m l ns ms =
    (2 ∷ length ms ∷ c ∷ m ∷ l ∷ length ns ∷ 1 ∷ o ∷ []) ++ (each (node_words 2) ns ++ each pair_words ms)

-- the words that a pass over the levels writes of the index w, which has a row, with all of the table's rows in it that it has not
abbrev pub by_levels : List ℕ → ℕ → List ℕ → List ℕ
by_levels T c w =
    let root : Piece = piece_of (between T c (circles# w)) w 0 0 (range (n# w) (rows_of T c - n# w)) in
    written c (circles# w) (m# w) (l# w) (levels_from (between T c (circles# w)) w max_depth 1 (root ∷ []))
    (members_from (between T c (circles# w)) w max_depth root)
