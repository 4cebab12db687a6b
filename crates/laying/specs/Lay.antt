-- A leaf's run with the new row, laid in the workspace: 02, R-2. A working notion, on which no promise rests. Assumes nothing.
use Rattle.std.specs.Prelude.{◌%◌, ◌*◌, ◌+◌, ◌<◌, ◌≤◌, ℕ, eqb, leb, drop, length, take, Bool, ◌||◌, cond, List, [], ◌++◌, ◌∷◌, map, ◌≡◌}
use Rattle.appending.specs.Append.{Ascends, orderly, twice}
use Rattle.laws.specs.Bags.{SameBag}
use Rattle.laws.specs.Lists.{each, head, rest}
use Rattle.leafward.specs.Way.{NewRow}
use Rattle.limits.specs.Limits.{max_rows}
use Rattle.measure.specs.Table.{between}
use Rattle.queue.specs.Queue.{Queue, entries}
use Rattle.rounds.specs.Stretch.{stretch}
use Rattle.split.specs.Runs.{laid, rows}
use Rattle.words.specs.InShape.{InShape}
use Rattle.words.specs.Words.{nodes#, circles#, count#, l#, n#, row#, run#, start#}

-- ---- the run
-- the rows of leaf v in their order, and row z
abbrev pub with_row : List ℕ → ℕ → ℕ → List ℕ
with_row w v z = map (row# w) (run# w v) ++ z ∷ []

-- the leaf is not split: it has at most l rows then, or no level is left below it, or a row stands twice
unfoldable pub unsplit : List ℕ → ℕ → ℕ → ℕ → Bool
unsplit w v left z = leb (length (with_row w v z)) (l# w) || eqb left 0 || twice (with_row w v z)

-- the run as it is to be laid: row z last, or all behind the first ascending where the leaf is split
unfoldable pub ready : List ℕ → ℕ → ℕ → ℕ → List ℕ
ready w v left z = cond (unsplit w v left z) (with_row w v z) (orderly (with_row w v z))

-- ---- the workspace
-- its first half: three words for each row of the index and the new one
abbrev pub half : List ℕ → ℕ
half w = 3 * (n# w + 1)

-- v is a node of an index in shape, and the workspace has two halves
pub record TwoHalves (w : List ℕ) (v : ℕ) (work : List ℕ) : Type 0 where
  pub shape : InShape w
  pub there : v < nodes# w
  pub halves : half w + half w ≤ length work

-- so it is, and the table has the rows of the index and row z
pub record Laying (t : List ℕ) (c : ℕ) (w : List ℕ) (z v : ℕ) (work : List ℕ) : Type 0 where
  pub space : TwoHalves w v work
  pub lent : NewRow t c w z
  pub small : z ≤ max_rows

-- the entries of the rows xs at the distances f, all of centre a, written over the words h from lo on
abbrev pub written : (ℕ → ℕ) → ℕ → ℕ → List ℕ → List ℕ → List ℕ
written f a lo xs h = take lo h ++ (each (λ i. i ∷ f i ∷ a ∷ []) xs ++ drop (lo + 3 * length xs) h)

-- a run is written where node v's starts; the rest of the first half is as it was
pub record Over (d : ℕ → ℕ → ℕ) (w : List ℕ) (v : ℕ) (run work work' : List ℕ) : Type 0 where
  pub first : take (half w) work' ≡ written (d (head run)) (head run) (3 * start# w v) run (take (half w) work)
  pub long : length work' ≡ length work

-- the rows of leaf v in their order, and row z behind them
abbrev pub Stored : List ℕ → ℕ → List ℕ → ℕ → ℕ → List ℕ → List ℕ → Type 0
Stored t c w v z work work' = Over (between t c (circles# w)) w v (with_row w v z) work work'

-- leaf v's first, and its other rows and row z ascending
abbrev pub Sorted : List ℕ → ℕ → List ℕ → ℕ → ℕ → List ℕ → List ℕ → Type 0
Sorted t c w v z work work' = Over (between t c (circles# w)) w v (orderly (with_row w v z)) work work'

-- the rows behind node v's first, and row z, are a queue in the second half; the first half is as it was
pub record Lined (w : List ℕ) (v z : ℕ) (work work' : List ℕ) : Type 0 where
  pub queue : Queue work' (half w) (count# w v)
  pub bag : SameBag (entries work' (half w) (count# w v)) (rest (with_row w v z))
  pub first : take (half w) work' ≡ take (half w) work
  pub long : length work' ≡ length work

-- the same, of what was in the workspace before
abbrev pub Waiting : List ℕ → ℕ → ℕ → List ℕ → Type 0
Waiting w v z work = Lined w v z work work

-- whole entries, and the rows behind the first ascend
pub record Ordered (part : List ℕ) : Type 0 where
  pub some : 3 ≤ length part
  pub whole : length part % 3 ≡ 0
  pub ascends : Ascends (rest (rows part))

-- WHAT IS LAID: whether the leaf is not split, and its run where it starts; the rest of the first half is as it was
pub record Lays (t : List ℕ) (c : ℕ) (w : List ℕ) (v left z : ℕ) (work work' : List ℕ) (r : Bool) : Type 0 where
  pub said : r ≡ unsplit w v left z
  pub run : stretch work' (3 * start# w v) (3 * start# w v + 3 * (count# w v + 1)) ≡ laid (between t c (circles# w)) (ready w v left z)
  pub before : take (3 * start# w v) work' ≡ take (3 * start# w v) work
  pub behind : stretch work' (3 * start# w v + 3 * (count# w v + 1)) (half w) ≡ stretch work (3 * start# w v + 3 * (count# w v + 1)) (half w)
  pub long : length work' ≡ length work
