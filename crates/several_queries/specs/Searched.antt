-- Several searches over one index, one after the other, and what they found put together. Assumes nothing.
use Rattle.std.specs.Prelude.{◌≤◌, suc, zero, ℕ, leb, drop, get_or, length, replicate, Bool, ◌||◌, cond, false, List, ◌++◌, ◌≡◌}
use Rattle.joined_marks.specs.Firsts.{first_of}
use Rattle.laws.specs.Upto.{sum_to}
use Rattle.limits.specs.Limits.{max_rows}
use Rattle.marking.specs.Written.{write}
use Rattle.measure.specs.Table.{from, row, rows_of}
use Rattle.rowset.specs.Sets.{is_in_lem}
use Rattle.tree.specs.Grove.{tree_of}
use Rattle.tree.specs.Nearest.{measured}
use Rattle.tree.specs.Radius.{marks, veiled}
use Rattle.tree.specs.Tested.{Tested}
use Rattle.words.specs.Words.{circles#, n#}

-- f j for some j below k
unfoldable pub some_to : (ℕ → Bool) → ℕ → Bool
some_to f zero = false
some_to f (suc k) = some_to f k || f k

module _ (t : List ℕ) (c : ℕ) (w qs : List ℕ) (r : ℕ) (s : List ℕ) where
  -- the how-bytes of the search for query k, within r, the rows of the set s being withdrawn: 01, Radius r, and 02, R-5
  unfoldable pub how_of : ℕ → List ℕ
  how_of k = write (veiled (is_in_lem s) (marks (from t c (circles# w) (row qs c k)) r (tree_of w))) (replicate (n# w) 0)

  -- how many rows it measures
  unfoldable pub measured_by : ℕ → ℕ
  measured_by k = measured (how_of k)

  -- search j has row i in
  abbrev pub has_in : ℕ → ℕ → Bool
  has_in i j = leb 2 (get_or (how_of j) i 0)

  -- 1 where one of the first k searches has row i in, else 0
  unfoldable pub mark_of : ℕ → ℕ → ℕ
  mark_of k i = cond (some_to (has_in i) k) 1 0

  -- the how-bytes behind k searches are those of the last
  unfoldable pub how_after : ℕ → List ℕ → List ℕ
  how_after zero how = how
  how_after (suc k) how = how_of k ++ drop (n# w) how

-- the first k queries are searched for: how-bytes and marks before and after, how many rows are marked, and how many distances this took
pub record Asked (t : List ℕ) (c : ℕ) (w qs : List ℕ) (r : ℕ) (s : List ℕ) (k : ℕ) (how how' marks marks' : List ℕ) (in# met : ℕ) : Type 0 where
  pub bytes : how' ≡ how_after t c w qs r s k how
  -- each row has its mark, and what lies beyond the rows stays
  pub marked : marks' ≡ first_of (mark_of t c w qs r s k) (n# w) ++ drop (n# w) marks
  -- a row is counted once, however many queries it is near to
  pub inside : in# ≡ sum_to (mark_of t c w qs r s k) (n# w)
  pub measures : met ≡ sum_to (measured_by t c w qs r s) k

-- the index w is in shape and edition 2, and table, queries, how-bytes and marks fit it; the marks are zero
pub record Fit (w t : List ℕ) (c : ℕ) (qs how marks : List ℕ) : Type 0 where
  pub tested : Tested w t c
  pub some : 1 ≤ c
  pub queries : rows_of qs c ≤ max_rows
  pub bytes : n# w ≤ length how
  pub room : n# w ≤ length marks
  pub zeros : marks ≡ replicate (n# w) 0 ++ drop (n# w) marks
