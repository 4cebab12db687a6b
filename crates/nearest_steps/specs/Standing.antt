-- What a search knows between two steps: which rows are measured, how far they are, and the best of them. A working notion, on which
-- no promise rests. Assumes nothing.
use Rattle.std.specs.Prelude.{◌*◌, ◌+◌, ◌-◌, ◌<◌, ◌≤◌, ℕ, get_or, length, Bool, cond, List, ◌≡◌}
use Rattle.answers_held.specs.Answers.{BestHeld, row_of, stray}
use Rattle.best_first.specs.Search.{both}
use Rattle.frontier.specs.Workspace.{distances_at, kept, work_words}
use Rattle.index_space.specs.Items.{left_of, live_of}
use Rattle.laws.specs.Bags.{total}
use Rattle.laws.specs.Upto.{sum_to}
use Rattle.limits.specs.Limits.{max_columns, max_distance, max_rows}
use Rattle.measure.specs.Table.{from}
use Rattle.queue.specs.Queue.{Queue, entries}
use Rattle.words.specs.Words.{at}

-- Of n rows at x, at most w are held, none of them withdrawn and all of them marked. This holds on every index in shape, whether or not a row stands
-- there twice.
pub record Stands (x : ℕ → ℕ) (gone : ℕ → Bool) (n w : ℕ) (how work : List ℕ) (held : ℕ) : Type 0 where
  pub queue : Queue work (3 * n) held
  pub most : held ≤ w
  pub own : total (stray x n) (entries work (3 * n) held) ≡ 0
  pub remain : total (λ (e : ℕ). cond (gone (row_of e)) 1 0) (entries work (3 * n) held) ≡ 0
  pub marked : total (λ (e : ℕ). 1 - at how (row_of e)) (entries work (3 * n) held) ≡ 0
  pub near : (r : ℕ) → r < n → 0 < at how r → x r ≤ max_distance
  pub bits : (r : ℕ) → r < n → at how r ≤ 1
  pub bytes : n ≤ length how
  pub room : work_words n ≤ length work
  pub wanted : (1 ≤ w) × (w ≤ n)
  pub small : n ≤ max_rows

-- The how-bytes from n on and the words beyond the workspace are as they were.
pub record Since (n : ℕ) (how how' work work' : List ℕ) : Type 0 where
  pub bytes : length how' ≡ length how
  pub words : length work' ≡ length work
  pub past : (i : ℕ) → n ≤ i → at how' i ≡ at how i
  pub over : (i : ℕ) → work_words n ≤ i → get_or work' i 0 ≡ get_or work i 0

-- The rows that are measured and remain: those that can be held.
abbrev pub met_of : (ℕ → Bool) → List ℕ → ℕ → ℕ
met_of gone how = both (at how) (live_of gone)

-- The rows of g are measured besides, and no distance that was kept is lost; at most those that remain were entered, and where fewer than w are
-- held even then, each of them was. The last
-- promise is for indexes in which no row stands twice: where the best were held and the rows of g are new, the best are held again.
pub record Grew (x : ℕ → ℕ) (gone : ℕ → Bool) (n w : ℕ) (how how' work work' : List ℕ) (held held' : ℕ) (g : ℕ → ℕ) : Type 0 where
  pub stands : Stands x gone n w how' work' held'
  pub keeps : (r : ℕ) → r < n → kept work n r ≡ x r → kept work' n r ≡ x r
  pub since : Since n how how' work work'
  pub most : held' ≤ held + sum_to (left_of gone g) n
  pub more : held' < w → held' ≡ held + sum_to (left_of gone g) n
  pub best : BestHeld x (met_of gone how) n work (3 * n) w held → ((r : ℕ) → r < n → at how r + g r ≤ 1)
      → BestHeld x (met_of gone how') n work' (3 * n) w held' × ((r : ℕ) → at how' r ≡ at how r + g r)

-- and the frontier's words are as they were
pub record GrewAlone (x : ℕ → ℕ) (gone : ℕ → Bool) (n w : ℕ) (how how' work work' : List ℕ) (held held' : ℕ) (g : ℕ → ℕ) : Type 0 where
  pub grew : Grew x gone n w how how' work work' held held' g
  pub front : (i : ℕ) → i < distances_at n → get_or work' i 0 ≡ get_or work i 0

-- and the distances of the rows of g, which are centres, are kept
pub record GrewCentres (x : ℕ → ℕ) (gone : ℕ → Bool) (n w : ℕ) (how how' work work' : List ℕ) (held held' : ℕ) (g : ℕ → ℕ) : Type 0 where
  pub alone : GrewAlone x gone n w how how' work work' held held' g
  pub seen : (r : ℕ) → r < n → 0 < g r → kept work' n r ≡ x r

-- n rows of the table t, of c columns, of which the set o are circles, can be measured from the query q
pub record Ready (t : List ℕ) (c o : ℕ) (q : List ℕ) (gone : ℕ → Bool) (n w : ℕ) (how work : List ℕ) (held : ℕ) : Type 0 where
  pub stands : Stands (from t c o q) gone n w how work held
  pub columns : c ≤ max_columns
  pub table : c * n ≤ length t
  pub query : length q ≡ c
