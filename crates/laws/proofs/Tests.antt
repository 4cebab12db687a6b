-- Tests: what a passed or a failed one says, and the two parts of a conjunction and of a disjunction. Assumes nothing.
use Prim.Native.Nat.{ℕ}
use borrow.Author.Tests.{not-false, not-true}
use lib.Dec.{T, eqb, eqb_refl}
use mathlib.Core.Bool.{Bool, ◌&&◌, ◌||◌, false, not, or-true, true}
use mathlib.Core.Path.{◌∙◌, ◌≡◌, refl, subst, sym}

-- ---- a Bool that is true, as a fact
-- a test that is true holds
pub holds : (b : Bool) → b ≡ true → T b
holds b e = subst T (sym e) tt

-- and one that holds is true
pub is_true : (b : Bool) → T b → b ≡ true
is_true true t = refl
is_true false t = absurd t

-- one that cannot hold is false
pub refute : (b : Bool) → (T b → ⊥) → false ≡ b
refute true h = absurd (h tt)
refute false h = refl

-- equal numbers pass the test of equality
pub eq_test : (a b : ℕ) → a ≡ b → T (eqb a b)
eq_test a b e = subst (λ (k : ℕ). T (eqb a k)) e (eqb_refl a)

-- ---- a conjunction and its parts
-- both parts hold, so the first does
pub and_l : (a b : Bool) → T (a && b) → T a
and_l true b t = tt
and_l false b t = t

-- and the second
pub and_r : (a b : Bool) → T (a && b) → T b
and_r true b t = t
and_r false b t = absurd t

-- each part holds, so both do
pub and_of : (a b : Bool) → T a → T b → T (a && b)
and_of true b t u = u
and_of false b t u = absurd t

-- the second part fails where the first one passes
pub and_second : (a b : Bool) → (a && b) ≡ false → a ≡ true → b ≡ false
and_second true b e p = e
and_second false b e p = absurd (subst T (sym p) tt)

-- they do not hold both where the second fails whenever the first holds
pub and_none : (a b : Bool) → (a ≡ true → b ≡ false) → (a && b) ≡ false
and_none true b f = f refl
and_none false b f = refl

-- a test that stops at its first part, and one that goes on
pub stop : {a : Bool} (b : Bool) → a ≡ false → false ≡ (a && b)
stop b e = rw e

-- the first part holds: the second decides
pub go_on : {a b r : Bool} → a ≡ true → r ≡ b → r ≡ (a && b)
go_on e q = rw e q

-- ---- a disjunction and its parts
-- it passes where the first part does
pub or_l : (a b : Bool) → a ≡ true → (a || b) ≡ true
or_l a b e = rw e

-- or the second
pub or_r : (a b : Bool) → b ≡ true → (a || b) ≡ true
or_r a b e = rw e (or-true a)

-- it fails where both parts do
pub or_none : (a b : Bool) → a ≡ false → b ≡ false → (a || b) ≡ false
or_none a b e f = rw (e, f)

-- and only there
pub or_parts : (a b : Bool) → (a || b) ≡ false → (a ≡ false) × (b ≡ false)
or_parts true b e = absurd (subst T e tt)
or_parts false b e = (refl, e)

-- ---- a function's answer r, that is the test a, read where the code took `!r` or left it
-- taken: the test fails
pub no : {r a : Bool} → r ≡ a → not r ≡ true → a ≡ false
no {r} e t = sym e ∙ not-true r t

-- left: it passes
pub yes : {r a : Bool} → r ≡ a → not r ≡ false → a ≡ true
yes {r} e t = sym e ∙ not-false r t

-- taken, where the test is of two numbers, read as x and y
pub no_at : (f : ℕ → ℕ → Bool) {r : Bool} {a b x y : ℕ} → r ≡ f x y → x ≡ a → y ≡ b → not r ≡ true → f a b ≡ false
no_at f {r} e p q t = rw (← p, ← q) (no e t)

-- left, where it is
pub yes-at : (f : ℕ → ℕ → Bool) {r : Bool} {a b x y : ℕ} → r ≡ f x y → x ≡ a → y ≡ b → not r ≡ false → f a b ≡ true
yes-at f {r} e p q t = rw (← p, ← q) (yes e t)
