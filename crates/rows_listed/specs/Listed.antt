-- The rows measured, listed in the workspace: by the list a search can be undone without a pass over all rows. Assumes nothing.
use Rattle.std.specs.Prelude.{◌+◌, ◌-◌, ◌<◌, ◌≤◌, ℕ, ltb, get_or, length, set, cond, List, ◌≡◌}
use Rattle.frontier.specs.Workspace.{met_at, work_words}
use Rattle.laws.specs.Outside.{Outside}
use Rattle.laws.specs.Upto.{sum_to}
use Rattle.limits.specs.Limits.{max_rows}
use Rattle.words.specs.Words.{at}

-- no row of n is marked
abbrev pub Blank : ℕ → List ℕ → Type 0
Blank n how = (r : ℕ) → r < n → at how r ≡ 0

-- f of a row that is marked, else 0
abbrev pub if_marked : List ℕ → (ℕ → ℕ) → ℕ → ℕ
if_marked how f r = cond (ltb 0 (at how r)) (f r) 0

-- Of n rows those that are marked are listed, each once, `met` of them: whatever is summed, it is the same over the list and over the rows marked.
-- This holds on every index in shape, whether or not a row stands there twice.
pub record Listed (n : ℕ) (how work : List ℕ) (met : ℕ) : Type 0 where
  pub rows : (f : ℕ → ℕ) → sum_to (λ (i : ℕ). f (get_or work (met_at n + i) 0)) met ≡ sum_to (if_marked how f) n
  pub bytes : n ≤ length how
  pub words : work_words n ≤ length work
  pub small : n ≤ max_rows

-- the same, told by the word behind the list, as the search holds it
pub record ListedTo (n : ℕ) (how work : List ℕ) (next : ℕ) : Type 0 where
  pub start : met_at n ≤ next
  pub listed : Listed n how work (next - met_at n)

-- Row r is marked, and listed with the others; no other word is touched but those of the list.
pub record Marked (n r : ℕ) (how how' work work' : List ℕ) (next' : ℕ) : Type 0 where
  pub byte : how' ≡ set how r 1
  pub outside : Outside work work' (met_at n) (work_words n)
  pub listed : ListedTo n how' work' next'
