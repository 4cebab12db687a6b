-- Why queries are not searched for: what 0 says. Assumes nothing.
use Prim.Native.Nat.{◌%◌, ◌/◌, ◌≤◌, ℕ}
use Rattle.limits.specs.Limits.{max_rows}
use Rattle.query_refusals.specs.Numbers.{asks, said_near}
use borrow.Author.Tests.{eqb-true, leb-true, ltb-false}
use lib.Dec.{eqb, leb, ltb}
use mathlib.Core.Bool.{Bool, ◌&&◌, ◌||◌, cond, false, true}
use mathlib.Core.Path.{◌∙◌, ◌≡◌, ap₂, refl}
use native.Mathlib.Omega.{arith}

-- of tests that are known
pub told_of : (n c asked how marks why : ℕ) (off bad off' bad' : Bool) → why ≡ said_near n c asked how marks off bad → off ≡ off' → bad ≡ bad'
    → why ≡ said_near n c asked how marks off' bad'
told_of n c asked how marks why off bad off' bad' e f g = e ∙ ap₂ (λ (x y : Bool). said_near n c asked how marks x y) f g

-- ---- what 0 says
-- the rooms are long enough, and there are queries, not more than an index has rows, each whole and on its circles
pub asked_well : (n c asked how marks : ℕ) (off bad : Bool) → said_near n c asked how marks off bad ≡ 0
    → (n ≤ how) × (n ≤ marks) × (1 ≤ asked / c) × (asked / c ≤ max_rows) × (asked % c ≡ 0) × (off ≡ false)
unfolding said_near asks
asked_well n c asked how marks off bad z =
    go (ltb how n) (ltb marks n) (eqb (asked % c) 0) (leb 1 (asked / c)) (leb (asked / c) max_rows) off bad refl refl refl refl refl refl z
  where
    go : (a b d e f x y : Bool) → ltb how n ≡ a → ltb marks n ≡ b → eqb (asked % c) 0 ≡ d → leb 1 (asked / c) ≡ e → leb (asked / c) max_rows ≡ f → off ≡ x
        → cond {A = ℕ} (a || b) 5 (cond (d && (e && f)) (cond x 19 (cond y 20 0)) 6) ≡ 0
        → (n ≤ how) × (n ≤ marks) × (1 ≤ asked / c) × (asked / c ≤ max_rows) × (asked % c ≡ 0) × (off ≡ false)
    go false false true true true false y p q s u v o e =
        (ltb-false how n p, ltb-false marks n q, leb-true 1 (asked / c) u, leb-true (asked / c) max_rows v, eqb-true (asked % c) 0 s, o)
    go false false true true true true y p q s u v o z = absurd (omega arith)
    go true b d e f x y p q s u v o z = absurd (omega arith)
    go false true d e f x y p q s u v o z = absurd (omega arith)
    go false false false e f x y p q s u v o z = absurd (omega arith)
    go false false true false f x y p q s u v o z = absurd (omega arith)
    go false false true true false x y p q s u v o z = absurd (omega arith)
