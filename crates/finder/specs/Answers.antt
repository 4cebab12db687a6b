-- What an answer with the number 0 says, in the analyst's words. Assumes nothing.
use Rattle.std.specs.Prelude.{◌<◌, ◌≤◌, min, ℕ, get_or, length, take, false, List, map, ◌↔◌, ◌≡◌}
use Rattle.measure.specs.Table.{from, row, rows_of}
use Rattle.rowset.specs.Sets.{is_in_lem}
use Rattle.tree.specs.Nearest.{answers, remaining}

-- row i is within r of one of the first k queries
pub record Within (t : List ℕ) (c o : ℕ) (qs : List ℕ) (r k i : ℕ) : Type 0 where
  pub query : ℕ
  pub there : query < k
  pub near : from t c o (row qs c query) i ≤ r

-- a row has the mark 1 exactly if it is not withdrawn and is within r of one query at least, else 0
pub record Alike (t : List ℕ) (c o : ℕ) (qs : List ℕ) (r : ℕ) (s marks : List ℕ) : Type 0 where
  pub near : (i : ℕ) → i < rows_of t c → (get_or marks i 0 ≡ 1) ↔ ((is_in_lem s i ≡ false) × Within t c o qs r (rows_of qs c) i)
  pub far : (i : ℕ) → i < rows_of t c → get_or marks i 0 ≤ 1

-- the first `given` rows and distances are the w nearest to the query of all rows that are not withdrawn, by distance and then by row number
pub record Closest (t : List ℕ) (c o : ℕ) (q : List ℕ) (w : ℕ) (s rows distances : List ℕ) (given : ℕ) : Type 0 where
  pub few : (given ≤ length rows) × (given ≤ length distances)
  pub count : given ≡ min w (remaining (is_in_lem s) (rows_of t c))
  pub rows# : take given rows ≡ map (λ a. a.0) (answers (from t c o q) (is_in_lem s) (rows_of t c) w)
  pub distances# : take given distances ≡ map (λ a. a.1) (answers (from t c o q) (is_in_lem s) (rows_of t c) w)
