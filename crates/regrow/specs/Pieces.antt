-- A tree of which most nodes are those of an old index, and one is grown anew from a run: level by level, as the code makes it. A working notion, on
-- which no promise rests. Assumes nothing.
use Rattle.std.specs.Prelude.{◌+◌, ◌≤◌, suc, zero, ℕ, eqb, leb, length, cond, List, [], ◌++◌, ◌∷◌, map, ◌≡◌}
use Rattle.copies.specs.Copies.{copied}
use Rattle.growing.specs.Levels.{Able, Item, placed}
use Rattle.laws.specs.Every.{Every}
use Rattle.laws.specs.Lists.{each, range}
use Rattle.measure.specs.Table.{between}
use Rattle.tree.specs.Build.{reach, split}
use Rattle.tree.specs.Encode.{Node}
use Rattle.tree.specs.Grove.{Reach}
use Rattle.words.specs.Words.{c#, circles#, m#}

-- ---- the work at hand
-- the distance, how many centres, how many rows a run may have that is not split, an old node's words while it waits, the node that is grown anew,
-- and its run
pub record Job : Type 0 where
  pub d : ℕ → ℕ → ℕ
  pub m : ℕ
  pub limit : ℕ
  pub copy : ℕ → Node
  pub v : ℕ
  pub run : List ℕ

-- that of an index and a table
abbrev pub job_of : List ℕ → List ℕ → ℕ → ℕ → ℕ → List ℕ → Job
job_of t w v added limit run =
    record { d = between t (c# w) (circles# w); m = m# w; limit = limit; copy = copied (between t (c# w) (circles# w)) w v added; v = v; run = run }

-- ---- the pieces of a level
-- a node of the old index that stays; or a run of the workspace, with its start and how far its node reaches
pub data Piece : Type 0 where
  kept : ℕ → Piece
  fresh : ℕ → Reach → List ℕ → Piece

-- a run's piece
abbrev pub fresh_of : (ℕ → ℕ → ℕ) → Item → Piece
fresh_of d q = fresh q.0 (reach d q.1) q.1

-- its words while it waits: the first child's number is that of the old index, 0 where there is none
abbrev pub pending : Job → Piece → Node
pending j (kept o) = j.copy o
pending j (fresh s R r) = (s, length r, 0, R)

-- old node o's piece
abbrev pub piece : Job → ℕ → Piece
piece j o = cond (eqb o j.v) (fresh (j.copy j.v).0 (j.copy j.v).3 j.run) (kept o)

-- the pieces that a piece is opened into: none where it is a leaf
abbrev pub parts : Job → Piece → List Piece
parts j (kept o) = cond (eqb (j.copy o).2 0) [] (map (piece j) (range (j.copy o).2 j.m))
parts j (fresh s R r) = cond (leb (length r) j.limit) [] (map (fresh_of j.d) (placed s (split j.d j.m r)))

-- a node's words once its pieces are known; `next` is the number of the first of them
abbrev pub with_kids : ℕ → Node → List Piece → Node
with_kids next x [] = x
with_kids next x (p ∷ ps) = (x.0, x.1, next, x.3)

-- the nodes of a level; `next` is the number of its first child
unfoldable pub level_out_lem : Job → ℕ → List Piece → List Node
level_out_lem j next [] = []
level_out_lem j next (q ∷ qs) = with_kids next (pending j q) (parts j q) ∷ level_out_lem j (next + length (parts j q)) qs

-- the level below
abbrev pub next_level : Job → List Piece → List Piece
next_level j qs = each (parts j) qs

-- the nodes of a level and of the `deep` levels below it
unfoldable pub all_nodes : Job → ℕ → ℕ → List Piece → List Node
all_nodes j zero next qs = map (pending j) qs
all_nodes j (suc deep) next qs = level_out_lem j next qs ++ all_nodes j deep (next + length (next_level j qs)) (next_level j qs)

-- ---- the runs among the pieces
-- those of a level
abbrev pub run_of : Piece → List Item
run_of (kept o) = []
run_of (fresh s R r) = (s, r) ∷ []

abbrev pub runs_of : List Piece → List Item
runs_of qs = each run_of qs

-- those that a piece with `deep` levels below it comes to, with the levels that are below them
unfoldable pub due : Job → ℕ → Piece → List (ℕ × Item)
due j zero (kept o) = []
due j zero (fresh s R r) = (0, (s, r)) ∷ []
due j (suc deep) (kept o) = each (λ q. due j deep q) (cond (eqb (j.copy o).2 0) [] (map (piece j) (range (j.copy o).2 j.m)))
due j (suc deep) (fresh s R r) = (suc deep, (s, r)) ∷ []

-- old nodes that can stay: `deep` levels below; there are `many` old nodes
unfoldable pub Sound : Job → ℕ → ℕ → Piece → Type 0
Sound j many zero (kept o) = (j.copy o).2 ≡ 0
Sound j many zero (fresh s R r) = Unit {0}
Sound j many (suc deep) (kept o) =
    ((j.copy o).2 ≡ 0 → (j.copy o).1 ≤ j.limit)
    × (((j.copy o).2 ≡ 0 → ⊥) → ((j.copy o).2 + j.m ≤ many) × Every (λ q. Sound j many deep q) (map (piece j) (range (j.copy o).2 j.m)))
Sound j many (suc deep) (fresh s R r) = Unit {0}

-- ---- what the tree needs of the old nodes
-- pieces whose runs follow each other from position s to e
abbrev pub Follow : Job → ℕ → List Piece → ℕ → Type 0
Follow j s [] e = s ≡ e
Follow j s (q ∷ qs) e = ((pending j q).0 ≡ s) × Follow j (s + (pending j q).1) qs e

-- an old node that can stay, as above; no run is empty, a leaf's members `es` are as many as it counts, and children's runs follow each other
unfoldable pub Fitting : Job → (ℕ → List (ℕ × ℕ)) → ℕ → ℕ → Piece → Type 0
Fitting j es many zero (kept o) = ((j.copy o).2 ≡ 0) × (1 ≤ (j.copy o).1) × (length (es o) ≡ (j.copy o).1)
Fitting j es many zero (fresh s R r) = Able j.limit r
Fitting j es many (suc deep) (kept o) =
    (1 ≤ (j.copy o).1)
    × ((j.copy o).2 ≡ 0 → ((j.copy o).1 ≤ j.limit) × (length (es o) ≡ (j.copy o).1))
    × (((j.copy o).2 ≡ 0 → ⊥)
    → ((j.copy o).2 + j.m ≤ many)
    × Follow j (j.copy o).0 (map (piece j) (range (j.copy o).2 j.m)) ((j.copy o).0 + (j.copy o).1)
    × Every (λ q. Fitting j es many deep q) (map (piece j) (range (j.copy o).2 j.m)))
Fitting j es many (suc deep) (fresh s R r) = Able j.limit r
