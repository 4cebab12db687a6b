-- What a nearest call gives, by its result: no answers and no rows measured where it is refused. Assumes nothing.
use Rattle.std.specs.Prelude.{ℕ, Result, Ok, Err}
use Rattle.limits.specs.declared.refusal.Refusal.{Refusal}
use Rattle.nearest.specs.declared.Given.{Given}

-- how many answers
abbrev pub given_of : Result Given Refusal → ℕ
given_of (Ok g) = g.given
given_of (Err r) = 0

-- how many rows were measured
abbrev pub measured_of : Result Given Refusal → ℕ
measured_of (Ok g) = g.measured
measured_of (Err r) = 0
