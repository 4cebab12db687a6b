-- The counts of a nearest search: where the caller has room of his own beside rows and distances, each holds the answers. Assumes nothing.
use Prim.Native.Nat.{◌<◌, ◌^◌, ◌≤◌, min, ℕ}
use Rattle.nearest.proofs.Promises.{nearest_small}
use Rattle.nearest.specs.Calls.{Answered}
use Rattle.nearest_steps.specs.Asked.{NearestAsked, NearestLent}
use lib.ListN.{length}
use mathlib.Core.Path.{◌≡◌}
use native.Mathlib.Omega.{arith}

-- there is room in each, before and after
pub given_each : {asked : NearestAsked} {own : ℕ} {lent lent' : NearestLent} {number given met : ℕ}
    → Answered asked (min own (min (length lent.rows) (length lent.distances))) lent lent' number given met
    → length lent'.rows ≡ length lent.rows → length lent'.distances ≡ length lent.distances → (given ≤ own) × (given ≤ length lent'.rows) × (given ≤ length lent'.distances)
given_each s er ed =
    let g = (nearest_small s).2 in
    (omega arith, omega arith, omega arith)

-- a number of 32 bits is one of 64
pub widens : (k : ℕ) → k < 2 ^ 32 → k < 2 ^ 64
widens k h = omega arith
