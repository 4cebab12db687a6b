-- Laws of the shared functions on lists. Assumes nothing.
use Prim.Native.Nat.{◌+◌, ◌≤◌, min, suc, zero, ℕ}
use Rattle.laws.specs.Lists.{least, lower, lowest, rest, tally}
use borrow.Author.Tests.{lt-leb}
use lib.ListN.{length, take}
use mathlib.Core.Bool.{Bool, cond, false, true}
use mathlib.Core.List.{List, [], ◌++◌, ◌∷◌, map}
use mathlib.Core.Path.{◌≡◌, ap, refl}
use native.Mathlib.Omega.{arith}

-- ---- map
module _ {A B : Type 0} (f : A → B) where
  -- two lists mapped, one after the other
  pub map-append : (xs ys : List A) → map f (xs ++ ys) ≡ map f xs ++ map f ys
  map-append [] ys = refl
  map-append (x ∷ xs) ys = ap (λ zs. f x ∷ zs) (map-append xs ys)

-- all but the first, mapped before or after
pub rest_map : {A B : Type 0} (f : A → B) (xs : List A) → rest (map f xs) ≡ map f (rest xs)
rest_map f [] = refl
rest_map f (x ∷ xs) = refl

-- one function after another, in one pass or in two
pub map-map : {A B C : Type 0} (f : B → C) (g : A → B) (xs : List A) → map (λ a. f (g a)) xs ≡ map f (map g xs)
map-map f g [] = refl
map-map f g (x ∷ xs) = ap (λ l. f (g x) ∷ l) (map-map f g xs)

-- a list mapped by nothing is the list
pub map_id : (xs : List ℕ) → map (λ i. i) xs ≡ xs
map_id [] = refl
map_id (x ∷ xs) = ap (λ zs. x ∷ zs) (map_id xs)

-- numbers paired with anything are the numbers
pub paired : {A B : Type 0} (f : A → ℕ) (v : A → B) (xs : List A) → map (λ p. p.0) (map {B = ℕ × B} (λ a. (f a, v a)) xs) ≡ map f xs
paired f v [] = refl
paired f v (x ∷ xs) = ap (λ zs. f x ∷ zs) (paired f v xs)

-- ---- tally
-- how many of two lists pass
pub tally_append : {A : Type 0} (f : A → Bool) (xs ys : List A) → tally f (xs ++ ys) ≡ tally f xs + tally f ys
tally_append f [] ys = omega arith
tally_append f (x ∷ xs) ys = omega (arith, tally_append f xs ys)

-- everything passes the test that is always true
pub tally_length : {A : Type 0} (xs : List A) → tally (λ a. true) xs ≡ length xs
tally_length [] = refl
tally_length (x ∷ xs) = omega (arith, tally_length xs)

-- of the first k, no more than k pass
pub tally_take : {A : Type 0} (f : A → Bool) (k : ℕ) (xs : List A) → tally f (take k xs) ≤ k
tally_take f zero xs = omega arith
tally_take f (suc k) [] = omega arith
tally_take f (suc k) (x ∷ xs) = go (f x) (tally_take f k xs)
  where
    go : (b : Bool) → tally f (take k xs) ≤ k → cond b 1 0 + tally f (take k xs) ≤ suc k
    go true h = omega arith
    go false h = omega arith

-- ---- the least number
-- of y and some numbers, one more at the end
least-last : (y : ℕ) (xs : List ℕ) (x : ℕ) → least y (xs ++ x ∷ []) ≡ min (least y xs) x
least-last y [] x = omega arith
least-last y (z ∷ xs) x = omega (arith, least-last y xs x)

-- of some numbers, one more at the end
pub lowest-last : (xs : List ℕ) (x : ℕ) → lowest (xs ++ x ∷ []) ≡ lower (length xs + 1) (lowest xs) x
lowest-last [] x = refl
lowest-last (y ∷ xs) x = rw (lt-leb (length (y ∷ xs) + 1) 1 (omega arith)) (least-last y xs x)
