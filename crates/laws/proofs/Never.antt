-- False is not true. Assumes nothing.
use lib.Dec.{T}
use mathlib.Core.Bool.{false, true}
use mathlib.Core.Path.{◌≡◌, subst, sym}

-- a test that passes and fails never is
pub never : {A : Type 0} → false ≡ true → A
never e = absurd (subst T (sym e) tt)
