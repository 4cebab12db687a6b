-- What becomes of the answers as a row is measured. A working notion, on which no promise rests. Assumes nothing.
use Rattle.std.specs.Prelude.{◌*◌, ◌+◌, ◌<◌, ◌≤◌, ℕ, Bool, cond, List, ◌≡◌}
use Rattle.answers_held.specs.Answers.{BestHeld, row_of, stray, turned}
use Rattle.index_space.specs.Items.{left_of, live_of}
use Rattle.laws.specs.Bags.{is, total}
use Rattle.laws.specs.Outside.{Outside}
use Rattle.limits.specs.Limits.{max_distance}
use Rattle.nearest_steps.specs.Standing.{Stands}
use Rattle.queue.specs.Queue.{Queue, entries}

-- at most it is entered, and where it remains and fewer than w are held even then, it is; where it is new, the best are held again
pub record Handled (x : ℕ → ℕ) (gone : ℕ → Bool) (n w r : ℕ) (work work' : List ℕ) (held held' : ℕ) : Type 0 where
  pub queue : Queue work' (3 * n) held'
  pub most : held' ≤ w
  pub own : total (stray x n) (entries work' (3 * n) held') ≡ 0
  pub remain : total (λ (e : ℕ). cond (gone (row_of e)) 1 0) (entries work' (3 * n) held') ≡ 0
  -- what neither the row nor any that was held has, none has then
  pub none : (f : ℕ → ℕ) → f (turned r (x r)) ≡ 0 → total f (entries work (3 * n) held) ≡ 0 → total f (entries work' (3 * n) held') ≡ 0
  pub outside : Outside work work' (3 * n) (3 * n + (w + w))
  pub up : held' ≤ held + live_of gone r
  pub more : held' < w → held' ≡ held + live_of gone r
  pub best : (m m' : ℕ → ℕ) → BestHeld x m n work (3 * n) w held → m r ≡ 0 → ((s : ℕ) → m' s ≡ m s + left_of gone (λ (s : ℕ). is s r) s)
      → BestHeld x m' n work' (3 * n) w held'

-- row r is entered at the distance d, unless it is withdrawn, whatever the distances of the others and the how-bytes
abbrev pub Enters : (ℕ → Bool) → ℕ → ℕ → ℕ → ℕ → List ℕ → List ℕ → ℕ → ℕ → Type 0
Enters gone n w r d work work' held held' =
    (x : ℕ → ℕ) (how : List ℕ) → Stands x gone n w how work held → d ≡ x r → d ≤ max_distance → Handled x gone n w r work work' held held'
