-- Laws of the elements that a test keeps. Assumes nothing.
use Prim.Native.Nat.{◌+◌, ℕ}
use Rattle.laws.specs.Bags.{total}
use Rattle.laws.specs.Every.{Every}
use Rattle.laws.specs.Lists.{keep}
use mathlib.Core.Bool.{Bool, cond, false, not, true}
use mathlib.Core.List.{List, [], ◌∷◌}
use mathlib.Core.Path.{◌≡◌, refl}
use native.Mathlib.Omega.{arith}

module _ {A : Type 0} where
  -- a total over those kept is one over all that counts the others for nothing
  pub total-keep : (f : A → ℕ) (p : A → Bool) (xs : List A) → total f (keep p xs) ≡ total (λ (a : A). cond (p a) (f a) 0) xs
  total-keep f p [] = refl
  total-keep f p (x ∷ xs) = go (p x) (total-keep f p xs)
    where
      go : (b : Bool) → total f (keep p xs) ≡ total (λ (a : A). cond (p a) (f a) 0) xs
          → total f (cond b (x ∷ keep p xs) (keep p xs)) ≡ cond b (f x) 0 + total (λ (a : A). cond (p a) (f a) 0) xs
      go true e = omega arith
      go false e = omega arith

  -- those kept and the others are all
  pub total-parted : (f : A → ℕ) (p : A → Bool) (xs : List A) → total f (keep p xs) + total f (keep (λ (a : A). not (p a)) xs) ≡ total f xs
  total-parted f p [] = refl
  total-parted f p (x ∷ xs) = go (p x) (total-parted f p xs)
    where
      others : List A
      others = keep (λ (a : A). not (p a)) xs

      go : (b : Bool) → total f (keep p xs) + total f others ≡ total f xs
          → total f (cond b (x ∷ keep p xs) (keep p xs)) + total f (cond (not b) (x ∷ others) others) ≡ f x + total f xs
      go true e = omega (arith, e)
      go false e = omega (arith, e)

  -- what holds of each that passes holds of each that is kept
  pub keep-every : (p : A → Bool) (Q : A → Type 0) (xs : List A) → Every (λ a. p a ≡ true → Q a) xs → Every Q (keep p xs)
  keep-every p Q [] h = tt
  keep-every p Q (x ∷ xs) h = go (p x) refl (keep-every p Q xs h.1)
    where
      go : (b : Bool) → p x ≡ b → Every Q (keep p xs) → Every Q (cond b (x ∷ keep p xs) (keep p xs))
      go true e k = (h.0 e, k)
      go false e k = k
