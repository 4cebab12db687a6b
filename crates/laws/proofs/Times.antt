-- How often a number stands in a list, and what is looked up beside it. Assumes nothing.
use Prim.Native.Nat.{◌+◌, ◌<◌, ◌≤◌, suc, zero, ℕ}
use Rattle.laws.specs.Every.{Every}
use Rattle.laws.proofs.Lists.{map-append, tally_append}
use Rattle.laws.specs.Lists.{any, head, look, range, rest, tally, times}
use borrow.Author.Tests.{eq-eqb, eqb-true}
use lib.Dec.{T, eqb}
use lib.ListN.{length}
use mathlib.Core.Bool.{Bool, ◌||◌, cond, false, true}
use mathlib.Core.List.{List, [], ◌++◌, ◌∷◌, map}
use mathlib.Core.Path.{◌≡◌, refl, subst, sym}
use native.Mathlib.Nat.{not-suc-le-zero}
use native.Mathlib.Omega.{arith}

-- the numbers of a list of pairs
abbrev pub lefts : {B : Type 0} → List (ℕ × B) → List ℕ
lefts ps = map (λ p. p.0) ps

-- a list's head and its rest
pub times-split : (i : ℕ) (xs : List ℕ) → 1 ≤ length xs → times i xs ≡ times i (head xs ∷ []) + times i (rest xs)
times-split i [] h = absurd (not-suc-le-zero h)
times-split i (x ∷ xs) h = omega arith

-- how many rows of two lists of pairs pass
pub tally_lefts : {B : Type 0} (f : ℕ → Bool) (xs ys : List (ℕ × B)) → tally f (lefts (xs ++ ys)) ≡ tally f (lefts xs) + tally f (lefts ys)
tally_lefts f xs ys = rw (map-append, tally_append)

-- not there exactly if it stands there 0 times
pub not_any : (i : ℕ) (xs : List ℕ) → any (eqb i) xs ≡ false → times i xs ≡ 0
not_any i [] e = refl
not_any i (x ∷ xs) e = go (λ q. not_any i xs q) (eqb i x) e
  where
    go : (any (eqb i) xs ≡ false → times i xs ≡ 0) → (b : Bool) → (b || any (eqb i) xs) ≡ false → cond b 1 0 + times i xs ≡ 0
    go f true e = absurd (subst T e tt)
    go f false e = omega (arith, f e)

-- and the other way
pub zero_any : (i : ℕ) (xs : List ℕ) → times i xs ≡ 0 → any (eqb i) xs ≡ false
zero_any i [] h = refl
zero_any i (x ∷ xs) h = go (λ q. zero_any i xs q) (eqb i x) h
  where
    go : (times i xs ≡ 0 → any (eqb i) xs ≡ false) → (b : Bool) → cond b 1 0 + times i xs ≡ 0 → (b || any (eqb i) xs) ≡ false
    go f true h = absurd (omega arith)
    go f false h = f (omega arith)

-- a range has no number twice
pub range-times : (i a n : ℕ) → times i (range a n) ≤ 1
range-times i a n = (go i a n).0
  where
    go : (i a n : ℕ) → (times i (range a n) ≤ 1) × (i < a → times i (range a n) ≡ 0)
    go i a zero = (omega arith, λ h. refl)
    go i a (suc n) = step (eqb i a) refl (go i (suc a) n)
      where
        step : (b : Bool) → eqb i a ≡ b → (times i (range (suc a) n) ≤ 1) × (i < suc a → times i (range (suc a) n) ≡ 0)
            → (cond b 1 0 + times i (range (suc a) n) ≤ 1) × (i < a → cond b 1 0 + times i (range (suc a) n) ≡ 0)
        step true e h = let q = eqb-true i a e in (omega (arith, h.1 (omega arith)), λ k. absurd (omega arith))
        step false e h = (omega arith, λ k. omega (arith, h.1 (omega arith)))

-- ---- a fact of every element, at a number that stands there
-- it holds there
pub times_every : (P : ℕ → Type 0) (xs : List ℕ) → Every P xs → (i : ℕ) → 1 ≤ times i xs → P i
times_every P [] h i k = absurd (not-suc-le-zero k)
times_every P (x ∷ xs) h i k = go (λ q. times_every P xs h.1 i q) (eqb i x) refl k
  where
    go : (1 ≤ times i xs → P i) → (b : Bool) → eqb i x ≡ b → 1 ≤ cond b 1 0 + times i xs → P i
    go f true e k = subst P (sym (eqb-true i x e)) h.0
    go f false e k = f (omega arith)

-- and one of each that stands there is one of every element
every_times : (P : ℕ → Type 0) (xs : List ℕ) → ((i : ℕ) → 1 ≤ times i xs → P i) → Every P xs
every_times P [] f = tt
every_times P (x ∷ xs) f = (f x (rw (eq-eqb x x refl) (omega arith)), every_times P xs (λ i k. f i (omega arith)))

-- the same rows, in another order
pub every_same : (P : ℕ → Type 0) (xs ys : List ℕ) → ((i : ℕ) → times i ys ≡ times i xs) → Every P xs → Every P ys
every_same P xs ys e h = every_times P ys (λ i k. times_every P xs h i (omega (arith, e i)))

-- a fact of every pair holds of what is looked up
pub look-fact : (P : ℕ × ℕ → Type 0) (i : ℕ) (ms : List (ℕ × ℕ)) → Every P ms → 1 ≤ times i (lefts ms) → P (i, look i ms)
look-fact P i [] h k = absurd (not-suc-le-zero k)
look-fact P i (m ∷ ms) h k = go (eqb i m.0) refl (λ q. look-fact P i ms h.1 q) k
  where
    go : (b : Bool) → eqb i m.0 ≡ b → (1 ≤ times i (lefts ms) → P (i, look i ms)) → 1 ≤ cond b 1 0 + times i (lefts ms)
        → P (i, cond b m.1 (look i ms))
    go true e f k = subst (λ j. P (j, m.1)) (sym (eqb-true i m.0 e)) h.0
    go false e f k = f (omega arith)

-- and the other way, where no number stands there twice
pub look_every : (P : ℕ × ℕ → Type 0) (ms : List (ℕ × ℕ)) → ((i : ℕ) → times i (lefts ms) ≤ 1)
    → ((i : ℕ) → 1 ≤ times i (lefts ms) → P (i, look i ms)) → Every P ms
look_every P [] o f = tt
look_every P (m ∷ ms) o f = (at_head, look_every P ms (λ i. less i (o i)) (λ i k. go i k (eqb i m.0) refl (o i) (f i)))
  where
    self : eqb m.0 m.0 ≡ true
    self = eq-eqb m.0 m.0 refl

    at_head : P m
    at_head =
        subst (λ b. P (m.0, cond b m.1 (look m.0 ms))) self
        (f m.0 (subst (λ b. 1 ≤ cond b 1 0 + times m.0 (lefts ms)) (sym self) (omega arith)))

    less : (i : ℕ) → cond (eqb i m.0) 1 0 + times i (lefts ms) ≤ 1 → times i (lefts ms) ≤ 1
    less i q = omega arith

    go : (i : ℕ) → 1 ≤ times i (lefts ms) → (b : Bool) → eqb i m.0 ≡ b → cond b 1 0 + times i (lefts ms) ≤ 1
        → (1 ≤ cond b 1 0 + times i (lefts ms) → P (i, cond b m.1 (look i ms))) → P (i, look i ms)
    go i k true e q g = absurd (omega arith)
    go i k false e q g = g (omega arith)
