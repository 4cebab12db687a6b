-- The workspace: 01, Numbers given back, the last paragraph. Assumes nothing.
use Rattle.std.specs.Prelude.{ℕ, eqb, Bool, ◌||◌}
use Rattle.limits.specs.Limits.{within}

-- 0, and 10 to 13, clear the workspace; every other number leaves it
abbrev pub clears : ℕ → Bool
clears number = eqb number 0 || within 10 13 number
