-- A buffer whose front is zero. Assumes nothing.
use Rattle.std.specs.Prelude.{ℕ, drop, replicate, List, ◌++◌}

-- the first n zero, the rest as it was
abbrev pub wiped : ℕ → List ℕ → List ℕ
wiped n l = replicate n 0 ++ drop n l
