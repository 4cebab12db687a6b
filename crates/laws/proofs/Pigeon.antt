-- n different numbers below n are all of them. Assumes nothing.
use Prim.Native.Nat.{◌+◌, ◌<◌, ◌≤◌, suc, zero, ℕ}
use Rattle.laws.specs.Every.{Every}
use Rattle.laws.specs.Lists.{times}
use borrow.Author.Tests.{eqb-false, eqb-true, ne_eqb}
use lib.Dec.{eqb}
use lib.ListN.{length}
use mathlib.Core.Bool.{Bool, cond, false, true}
use mathlib.Core.List.{List, [], ◌∷◌}
use mathlib.Core.Logic.{◌≢◌}
use mathlib.Core.Path.{◌∙◌, ◌≡◌, ap, refl, subst, sym}
use native.Mathlib.Nat.{not-suc-le-zero}
use native.Mathlib.Omega.{arith}

-- how many of xs are below n, number by number
total : ℕ → List ℕ → ℕ
total zero xs = 0
total (suc n) xs = total n xs + times n xs

-- none of no numbers
total_nil : (n : ℕ) → total n [] ≡ 0
unfolding total
total_nil zero = refl
total_nil (suc n) = omega (arith, total_nil n)

-- one more number that is not below n does not count
total_over : (n x : ℕ) (xs : List ℕ) → n ≤ x → total n (x ∷ xs) ≡ total n xs
unfolding total
total_over zero x xs h = refl
total_over (suc n) x xs h =
    let e : cond {A = ℕ} (eqb n x) 1 0 ≡ 0 = ap (λ b. cond {A = ℕ} b 1 0) (ne_eqb n x (λ q. omega arith)) in
    omega (arith, total_over n x xs (omega arith))

-- one more number below n counts once
total_cons : (n x : ℕ) (xs : List ℕ) → x < n → total n (x ∷ xs) ≡ suc (total n xs)
unfolding total
total_cons zero x xs h = absurd (not-suc-le-zero h)
total_cons (suc n) x xs h = go (λ q. total_cons n x xs q) (eqb n x) refl
  where
    go : (x < n → total n (x ∷ xs) ≡ suc (total n xs)) → (b : Bool) → eqb n x ≡ b
        → total n (x ∷ xs) + (cond b 1 0 + times n xs) ≡ suc (total n xs + times n xs)
    go f true e = let q : n ≡ x = eqb-true n x e in omega (arith, total_over n x xs (omega arith))
    go f false e =
        let q : x ≢ n = λ p. eqb-false n x e (sym p) in
        omega (arith, f (omega arith))

-- with all below n all are counted
total_all : (n : ℕ) (xs : List ℕ) → Every (λ x. x < n) xs → total n xs ≡ length xs
total_all n [] h = total_nil n
total_all n (x ∷ xs) h = total_cons n x xs h.0 ∙ ap suc (total_all n xs h.1)

-- with none twice there are at most n
total_le : (n : ℕ) (xs : List ℕ) → ((i : ℕ) → times i xs ≤ 1) → total n xs ≤ n
unfolding total
total_le zero xs f = omega arith
total_le (suc n) xs f = omega (arith, total_le n xs f, f n)

-- and fewer, if one number below n is missing
total_miss : (n i : ℕ) (xs : List ℕ) → ((i : ℕ) → times i xs ≤ 1) → i < n → times i xs ≡ 0 → total n xs < n
unfolding total
total_miss zero i xs f h e = absurd (not-suc-le-zero h)
total_miss (suc n) i xs f h e = go (λ q. total_miss n i xs f q e) (eqb i n) refl
  where
    go : (i < n → total n xs < n) → (b : Bool) → eqb i n ≡ b → total n xs + times n xs < suc n
    go g true p = let q : times n xs ≡ 0 = subst (λ k. times k xs ≡ 0) (eqb-true i n p) e in omega (arith, total_le n xs f)
    go g false p = let q : i ≢ n = eqb-false i n p in omega (arith, g (omega arith), f n)

-- n NUMBERS BELOW n, NONE OF THEM TWICE: EACH NUMBER BELOW n IS THERE ONCE
pub pigeon : (n : ℕ) (xs : List ℕ) → length xs ≡ n → Every (λ x. x < n) xs → ((i : ℕ) → times i xs ≤ 1) → (i : ℕ) → i < n → times i xs ≡ 1
pigeon n xs e h f i k = go (times i xs) refl
  where
    go : (t : ℕ) → times i xs ≡ t → times i xs ≡ 1
    go zero p = absurd (omega (arith, total_miss n i xs f k p, total_all n xs h))
    go (suc t) p = omega (arith, f i)
