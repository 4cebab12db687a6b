-- What the constructor of the parameters answers, in 01's number and values. Assumes nothing.
use Rattle.std.specs.Prelude.{ℕ, eqb, Bool, ◌&&◌, cond, Option, Some, None}
use Rattle.limits.specs.Limits.{circles_ok_lem, share_ok_lem}
use Rattle.limits.specs.declared.Params.{Params}

-- a number, and three values
abbrev pub Choice : Type 0
Choice = ℕ × ℕ × ℕ × ℕ

-- each case's number and values: 0 with m, l and the circles, or 2 with zeros
abbrev pub told : Option Params → Choice
told (Some p) = (0, p.centres, p.leaf, p.circles)
told None = (2, 0, 0, 0)

-- 2 is not given: m and l are in range (01), no bit of the circles is at or above the columns (02, R-1), and the edition is 2 (02, R-11)
abbrev pub choice_ok : ℕ → ℕ → ℕ → ℕ → ℕ → Bool
choice_ok c m l o e = share_ok_lem m l && circles_ok_lem c o && eqb e 2

-- what is answered to a table of c columns
abbrev pub chosen : ℕ → ℕ → ℕ → ℕ → ℕ → Choice
chosen c m l o e = cond (choice_ok c m l o e) (0, m, l, o) (2, 0, 0, 0)
