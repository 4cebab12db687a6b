-- What pins the definitions where no theorem does, computed: ties, rounding, a home bound that D meets, what a stray is, the widened words, what only
-- the inner reach closes. The whole table, with 01's own cases, is that of crate cases. Assumes nothing.
use Rattle.std.specs.Prelude.{ℕ, eqb, length, set, Bool, ◌&&◌, false, List, [], ◌∷◌, map}
use Rattle.laws.specs.Lists.{each, has, range, same}
use Rattle.laws.specs.Upto.{sum_to}
use Rattle.limits.specs.Said.{said}
use Rattle.measure.specs.Distance.{l1}
use Rattle.measure.specs.Table.{between, from}
use Rattle.tree.specs.Build.{build, choose, grow, split}
use Rattle.tree.specs.Check.{again, faults, strays, wrong_dist, wrong_inner, wrong_radius}
use Rattle.tree.specs.Encode.{broods, encode, family, level_nodes, nodes, numbered, pair_words}
use Rattle.tree.specs.Grove.{tree_at, tree_of}
use Rattle.tree.specs.Homes.{homes, homes_in}
use Rattle.tree.specs.Nearest.{answers, measured, near_how, passes}
use Rattle.tree.specs.Radius.{inside, marks, marks_in, radius_how}
use Rattle.tree.specs.Widen.{widen}
use Rattle.words.specs.Words.{nodes#, n#, row#}

-- the five rows. Every case has one column, m = 2 and l = 2
abbrev pub five : List ℕ
five = 0 ∷ 1 ∷ 10 ∷ 11 ∷ 20 ∷ []

-- the index of the five rows
abbrev pub five_words : List ℕ
five_words =
    2 ∷ 5 ∷ 1 ∷ 2 ∷ 2 ∷ 5 ∷ 1 ∷ 0
    ∷ 0 ∷ 5 ∷ 1 ∷ 20 ∷ 1
    ∷ 0 ∷ 3 ∷ 3 ∷ 10 ∷ 1
    ∷ 3 ∷ 2 ∷ 0 ∷ 9 ∷ 9
    ∷ 0 ∷ 2 ∷ 0 ∷ 1 ∷ 1
    ∷ 2 ∷ 1 ∷ 0 ∷ 0 ∷ 0
    ∷ 0 ∷ 0 ∷ 1 ∷ 1 ∷ 2 ∷ 0 ∷ 4 ∷ 0 ∷ 3 ∷ 9 ∷ []

-- the same as an old card has it, in edition 1
abbrev pub old_words : List ℕ
old_words =
    1 ∷ 5 ∷ 1 ∷ 2 ∷ 2 ∷ 5 ∷ 1 ∷ 0
    ∷ 0 ∷ 5 ∷ 1 ∷ 20
    ∷ 0 ∷ 3 ∷ 3 ∷ 10
    ∷ 3 ∷ 2 ∷ 0 ∷ 9
    ∷ 0 ∷ 2 ∷ 0 ∷ 1
    ∷ 2 ∷ 1 ∷ 0 ∷ 0
    ∷ 0 ∷ 0 ∷ 1 ∷ 1 ∷ 2 ∷ 0 ∷ 4 ∷ 0 ∷ 3 ∷ 9 ∷ []

-- the same rows with 10 and 11 exchanged: row 3, at 11, stands with the centre 0 and is closer to 20
abbrev pub stray_words : List ℕ
stray_words =
    2 ∷ 5 ∷ 1 ∷ 2 ∷ 2 ∷ 5 ∷ 1 ∷ 0
    ∷ 0 ∷ 5 ∷ 1 ∷ 20 ∷ 1
    ∷ 0 ∷ 3 ∷ 3 ∷ 11 ∷ 1
    ∷ 3 ∷ 2 ∷ 0 ∷ 10 ∷ 10
    ∷ 0 ∷ 2 ∷ 0 ∷ 1 ∷ 1
    ∷ 2 ∷ 1 ∷ 0 ∷ 0 ∷ 0
    ∷ 0 ∷ 0 ∷ 1 ∷ 1 ∷ 3 ∷ 0 ∷ 4 ∷ 0 ∷ 2 ∷ 10 ∷ []

-- what the definitions give for a table
pub data Case : Type 0 where
  -- it is built to these words, in which no fault is found
  words : List ℕ → List ℕ → Case
  -- it is built to this order of rows and this N
  order : List ℕ → List ℕ → ℕ → Case
  -- query and r give these how-bytes, in and measured, no row being withdrawn
  radius : List ℕ → ℕ → ℕ → List ℕ → ℕ → ℕ → Case
  -- query and w give these answers, and measured
  nearest : List ℕ → ℕ → ℕ → List (ℕ × ℕ) → ℕ → Case
  -- query and w give these how-bytes
  near : List ℕ → ℕ → ℕ → List ℕ → Case
  -- the rows of the list being withdrawn, query and w give these answers and how-bytes
  without : List ℕ → List ℕ → ℕ → ℕ → List (ℕ × ℕ) → List ℕ → Case
  -- the edition 1 words of an old card are widened to these, in which no fault is found
  old : List ℕ → List ℕ → List ℕ → Case
  -- where the one column is a circle: query and r give these how-bytes, and query and w these answers
  round : List ℕ → ℕ → ℕ → List ℕ → ℕ → List (ℕ × ℕ) → Case
  -- for the five rows: the first fault in these words is this one, at these places
  found : List ℕ → ℕ → ℕ → ℕ → Case

-- no row is withdrawn
abbrev pub none : ℕ → Bool
none i = false

-- a case comes out as it says
unfoldable pub right : Case → Bool
unfolding sum_to l1 between from again wrong_dist wrong_radius wrong_inner widen strays faults tree_at tree_of family broods level_nodes nodes
    numbered encode choose split grow build homes_in homes answers passes near_how marks_in marks radius_how
right (words T w) = same (build T 1 0 2 2 2) w && eqb (said (faults (between T 1 0) w)).0 0
right (order T is N) = let w = build T 1 0 2 2 2 in same (map (row# w) (range 0 (n# w))) is && eqb (nodes# w) N
right (radius T q r how i k) =
    let h = radius_how (from T 1 0 (q ∷ [])) r none (length T) (tree_of (build T 1 0 2 2 2)) in
    same h how && eqb (inside h) i && eqb (measured h) k
right (nearest T q w as' k) =
    let x = from T 1 0 (q ∷ []) in
    same (each pair_words (answers x none (length T) w)) (each pair_words as')
    && eqb (measured (near_how x none (length T) (tree_of (build T 1 0 2 2 2)) w)) k
right (near T q w how) = same (near_how (from T 1 0 (q ∷ [])) none (length T) (tree_of (build T 1 0 2 2 2)) w) how
right (without T out q w as' how) =
    let x = from T 1 0 (q ∷ []) in
    same (each pair_words (answers x (λ i. has i out) (length T) w)) (each pair_words as')
    && same (near_how x (λ i. has i out) (length T) (tree_of (build T 1 0 2 2 2)) w) how
right (round T q r how w as') =
    let x = from T 1 1 (q ∷ []) in
    same (radius_how x r none (length T) (tree_of (build T 1 1 2 2 2))) how && same (each pair_words (answers x none (length T) w)) (each pair_words as')
right (old T v w) = same (widen (between T 1 0) v) w && eqb (said (faults (between T 1 0) w)).0 0
right (found w k p p') = let s = said (faults (between five 1 0) w) in eqb s.0 k && eqb s.1 p && eqb s.2 p'

-- what is built and widened: rows as far and as close as each other, and an old card of five rows and of none
abbrev pub grown : List Case
grown =
    order (7 ∷ 7 ∷ 7 ∷ 7 ∷ []) (0 ∷ 3 ∷ 2 ∷ 1 ∷ []) 5
    ∷ words five five_words
    ∷ old five old_words five_words
    ∷ old [] (1 ∷ 0 ∷ 1 ∷ 2 ∷ 2 ∷ 0 ∷ 1 ∷ 0 ∷ []) (2 ∷ 0 ∷ 1 ∷ 2 ∷ 2 ∷ 0 ∷ 1 ∷ 0 ∷ [])
    ∷ []

-- radius: (x - y)/2 is rounded up; less is measured for a greater r; a group that only its inner reach closes
abbrev pub swept : List Case
swept =
    radius (4 ∷ 2 ∷ 2 ∷ 6 ∷ 7 ∷ []) 6 0 (1 ∷ 0 ∷ 0 ∷ 3 ∷ 1 ∷ []) 1 3
    ∷ radius five 0 19 (3 ∷ 2 ∷ 2 ∷ 3 ∷ 1 ∷ []) 4 3
    ∷ radius (4 ∷ 2 ∷ 2 ∷ 8 ∷ []) 5 0 (1 ∷ 0 ∷ 0 ∷ 1 ∷ []) 0 2
    ∷ []

-- nearest: home bounds that D meets, one that passes it, and a group that only its inner reach closes
abbrev pub sought : List Case
sought =
    near (6 ∷ 9 ∷ 5 ∷ 3 ∷ 0 ∷ []) 10 1 (1 ∷ 3 ∷ 0 ∷ 0 ∷ 1 ∷ [])
    ∷ near five 6 2 (1 ∷ 3 ∷ 3 ∷ 1 ∷ 1 ∷ [])
    ∷ near (0 ∷ 10 ∷ 20 ∷ []) 0 1 (3 ∷ 0 ∷ 1 ∷ [])
    ∷ near (7 ∷ 4 ∷ 4 ∷ 1 ∷ []) 7 1 (3 ∷ 0 ∷ 0 ∷ 1 ∷ [])
    ∷ []

-- across the seam: two passes at 359.5 and 0.5 degrees are near to each other, and one at 359 is near to both
abbrev pub seam : List Case
seam =
    round (3_595 ∷ 5 ∷ 1_800 ∷ 3_590 ∷ []) 0 5 (3 ∷ 3 ∷ 1 ∷ 1 ∷ []) 2 ((0, 5) ∷ (1, 5) ∷ [])
    ∷ round (3_595 ∷ 5 ∷ 1_800 ∷ 3_590 ∷ []) 3_595 10 (3 ∷ 2 ∷ 1 ∷ 2 ∷ []) 3 ((0, 0) ∷ (3, 5) ∷ (1, 10) ∷ [])
    ∷ []

-- nearest, with rows withdrawn: the next best is given; all are measured where fewer remain than are wanted, also where none does
abbrev pub withdrawn : List Case
withdrawn =
    without five (2 ∷ []) 9 1 ((3, 2) ∷ []) (1 ∷ 0 ∷ 1 ∷ 3 ∷ 1 ∷ [])
    ∷ without five (2 ∷ []) 9 9 ((3, 2) ∷ (1, 8) ∷ (0, 9) ∷ (4, 11) ∷ []) (3 ∷ 3 ∷ 1 ∷ 3 ∷ 3 ∷ [])
    ∷ without five (2 ∷ []) 9 5 ((3, 2) ∷ (1, 8) ∷ (0, 9) ∷ (4, 11) ∷ []) (3 ∷ 3 ∷ 1 ∷ 3 ∷ 3 ∷ [])
    ∷ without five (0 ∷ []) 5 2 ((1, 4) ∷ (2, 5) ∷ []) (1 ∷ 3 ∷ 3 ∷ 0 ∷ 1 ∷ [])
    ∷ without five (0 ∷ 1 ∷ 2 ∷ 3 ∷ 4 ∷ []) 9 1 [] (1 ∷ 1 ∷ 1 ∷ 1 ∷ 1 ∷ [])
    ∷ []

-- each fault of the full check; a radius and an inner reach may be neither less nor more
abbrev pub checked : List Case
checked =
    found (set five_words 35 0) 10 1 0
    ∷ found (set five_words 36 2) 11 1 0
    ∷ found (set five_words 11 19) 12 0 0
    ∷ found (set five_words 11 21) 12 0 0
    ∷ found (set five_words 12 0) 12 0 0
    ∷ found (set five_words 12 2) 12 0 0
    ∷ found stray_words 13 0 2
    ∷ []
