-- What is made of each element of a list: by functions that agree, a list at a time, and of numbers counted from another start. Assumes nothing.
use Prim.Native.Nat.{◌+◌, suc, zero, ℕ}
use Rattle.laws.proofs.Every.{every-all}
use Rattle.laws.specs.Every.{Every}
use Rattle.laws.specs.Lists.{each, range}
use mathlib.Core.List.{List, [], ◌++◌, ◌∷◌, map}
use mathlib.Core.Path.{◌∙◌, ◌≡◌, ap, ap₂, refl, sym}
use native.Mathlib.Omega.{arith}

-- functions that agree on the elements make the same of them
pub map_same : {A B : Type 0} (f g : A → B) (xs : List A) → Every (λ a. f a ≡ g a) xs → map f xs ≡ map g xs
map_same f g [] h = refl
map_same f g (x ∷ xs) h = ap₂ (λ y ys. y ∷ ys) h.0 (map_same f g xs h.1)

-- and so do functions that agree everywhere
pub map_agree : {A B : Type 0} (f g : A → B) → ((a : A) → f a ≡ g a) → (xs : List A) → map f xs ≡ map g xs
map_agree f g h xs = map_same f g xs (every-all (λ a. f a ≡ g a) h xs)

-- one for each element is a list of one for each
pub map_each : {A B : Type 0} (f : A → B) (xs : List A) → map f xs ≡ each (λ a. f a ∷ []) xs
map_each f [] = refl
map_each f (x ∷ xs) = ap (λ l. f x ∷ l) (map_each f xs)

-- numbers from b on with a added are the numbers from a + b on
pub each_shift : {A : Type 0} (f : ℕ → List A) (a b n : ℕ) → each (λ j. f (a + j)) (range b n) ≡ each f (range (a + b) n)
each_shift f a b zero = refl
each_shift f a b (suc n) =
    let e : a + suc b ≡ suc (a + b) = omega arith in
    ap (λ l. f (a + b) ++ l) (each_shift f a (suc b) n ∙ ap (λ (k : ℕ). each f (range k n)) e)

-- the same with one for each
pub map_shift : {A : Type 0} (f : ℕ → A) (a b n : ℕ) → map (λ j. f (a + j)) (range b n) ≡ map f (range (a + b) n)
map_shift f a b n =
    map_each (λ j. f (a + j)) (range b n) ∙ each_shift (λ k. f k ∷ []) a b n ∙ sym (map_each f (range (a + b) n))
