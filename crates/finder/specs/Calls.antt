-- What the two calls leave, for every input. Assumes nothing.
use Rattle.std.specs.Prelude.{min, ℕ, length, take, List, ◌≡◌}
use Rattle.build.specs.Calls.{Builds}
use Rattle.measure.specs.Table.{rows_of}
use Rattle.nearest.specs.Calls.{Answered}
use Rattle.nearest_steps.specs.Asked.{asks, lends}
use Rattle.query_refusals.specs.Numbers.{said_of}
use Rattle.several_queries.specs.Searched.{Asked}

-- what the index is built with: the centres of an inner node
abbrev pub centres : ℕ
centres = 2

-- and the rows of a leaf
abbrev pub leaf_rows : ℕ
leaf_rows = 1_024

-- ---- marking
-- the set o of circles; the queries qs and r that are asked about, and the set s of rows withdrawn; room, workspace, how-bytes and marks before and
-- after; the number and the two counts. The index of the table is built into the room; the number of the build is `made`
pub record Near (t : List ℕ) (c o : ℕ) (qs : List ℕ) (r : ℕ) (s room room' work work' how how' marks marks' : List ℕ) (number in# met : ℕ) : Type 0 where
  pub made : ℕ
  pub words : ℕ
  pub nodes : ℕ
  pub built : Builds t c o 2 centres leaf_rows room work room' work' made words nodes
  -- a build that is refused is the answer
  pub unbuilt : (made ≡ 0 → ⊥) → number ≡ made
  -- else rooms that are too short, queries that are not right, or a set that is not
  pub said : made ≡ 0 → number ≡ said_of t c o qs s (length how) (length marks)
  -- a refusal has zero counts, and changes neither how-bytes nor marks
  pub refused : (number ≡ 0 → ⊥) → (in# ≡ 0) × (met ≡ 0) × (how' ≡ how) × (marks' ≡ marks)
  -- else the built words are searched for each query, within r
  pub asked : number ≡ 0 → Asked t c (take words room') qs r s (rows_of qs c) how how' marks marks' in# met

-- ---- finding
-- the set o of circles; the query q and how many are wanted, and the set s of rows withdrawn; room, workspace, how-bytes, rows and distances before
-- and after; the number and the counts. The index is built as for marking, and leaves the workspace `cleared`
pub record Finds (t : List ℕ) (c o : ℕ) (q : List ℕ) (w : ℕ) (s room room' work work' how how' rs rs' ds ds' : List ℕ) (number given met : ℕ) : Type 0 where
  pub made : ℕ
  pub words : ℕ
  pub nodes : ℕ
  pub cleared : List ℕ
  pub built : Builds t c o 2 centres leaf_rows room work room' cleared made words nodes
  -- a build that is refused is the answer
  pub refused : (made ≡ 0 → ⊥) → (number ≡ made) × (given ≡ 0) × (met ≡ 0) × (work' ≡ cleared) × (how' ≡ how) × (rs' ≡ rs) × (ds' ≡ ds)
  -- else the built words are searched for the w nearest to the query
  pub answered : made ≡ 0
      → Answered (asks t c (take words room') q w s) (min (length rs) (length ds)) (lends rs ds how cleared) (lends rs' ds' how' work') number given met
