-- Laws of totals over a list, and of bags. Assumes nothing.
use Prim.Native.Nat.{◌+◌, ◌<◌, ◌≤◌, suc, zero, ℕ}
use Rattle.laws.proofs.Sums.{sum_from}
use Rattle.laws.specs.Bags.{SameBag, is, total, upto}
use Rattle.laws.specs.Lists.{range, times}
use Rattle.laws.specs.Upto.{sum_to}
use borrow.Author.Tests.{eqb-false, eqb-true}
use lib.Dec.{eqb}
use mathlib.Core.Bool.{Bool, cond, false, true}
use mathlib.Core.List.{List, [], ◌++◌, ◌∷◌, map}
use mathlib.Core.Path.{◌∙◌, ◌≡◌, ap₂, refl, sym}
use native.Mathlib.Decide.{dec_lt}
use native.Mathlib.Omega.{arith}

module _ {A : Type 0} where
  -- the total over two lists, one after the other, is the sum of the two
  pub total-append : (f : A → ℕ) (xs ys : List A) → total f (xs ++ ys) ≡ total f xs + total f ys
  total-append f [] ys = omega arith
  total-append f (x ∷ xs) ys = omega (arith, total-append f xs ys)

  -- where no element has h, totals compare as f and g do at elements that have no h
  pub total_le : (f g h : A → ℕ) (xs : List A) → ((a : A) → h a ≡ 0 → f a ≤ g a) → total h xs ≡ 0 → total f xs ≤ total g xs
  total_le f g h [] k e = omega arith
  total_le f g h (x ∷ xs) k e = omega (arith, k x (omega arith), total_le f g h xs k (omega arith))

  -- no element has f, if one with no h cannot have it and none has h
  pub total-none : (f h : A → ℕ) (xs : List A) → ((a : A) → h a ≡ 0 → 0 < f a → ⊥) → total h xs ≡ 0 → total f xs ≡ 0
  total-none f h xs k e = omega (arith, total_le f h h xs (λ a z. at a z (dec_lt 0 (f a))) e)
    where
      at : (a : A) → h a ≡ 0 → Dec (0 < f a) → f a ≤ h a
      at a z (yes p) = absurd (k a z p)
      at a z (no p) = omega arith

  -- having neither f nor g
  pub total-neither : (f g : A → ℕ) (xs : List A) → total f xs ≡ 0 → total g xs ≡ 0 → total (λ (a : A). f a + g a) xs ≡ 0
  total-neither f g [] e d = refl
  total-neither f g (x ∷ xs) e d = omega (arith, total-neither f g xs (omega arith) (omega arith))

  -- the total over f 0 .. f (k - 1) as a sum
  pub total-upto : (f : A → ℕ) (g : ℕ → A) (k : ℕ) → total f (upto g k) ≡ sum_to (λ (j : ℕ). f (g j)) k
  unfolding sum_to
  total-upto f g zero = refl
  total-upto f g (suc k) = omega (arith, total-upto f g k)

  -- functions that agree below k list the same
  pub upto-same : (f g : ℕ → A) (k : ℕ) → ((j : ℕ) → j < k → f j ≡ g j) → upto f k ≡ upto g k
  upto-same f g zero h = refl
  upto-same f g (suc k) h = ap₂ (λ (x : A) (xs : List A). x ∷ xs) (h k (omega arith)) (upto-same f g k (λ j l. h j (omega arith)))

module _ {A B : Type 0} where
  -- the total over a mapped list is that of the weight after the function
  pub total-map : (f : B → ℕ) (g : A → B) (xs : List A) → total f (map g xs) ≡ total (λ (a : A). f (g a)) xs
  total-map f g [] = refl
  total-map f g (x ∷ xs) = omega (arith, total-map f g xs)

  -- one bag mapped is one bag
  pub same_map : (g : A → B) (xs ys : List A) → SameBag xs ys → SameBag (map g xs) (map g ys)
  same_map g xs ys s f = total-map f g xs ∙ s (λ (a : A). f (g a)) ∙ sym (total-map f g ys)

-- the total over a range as a sum
pub total_range : (f : ℕ → ℕ) (a k : ℕ) → total f (range a k) ≡ sum_to (λ (j : ℕ). f (a + j)) k
unfolding sum_to
total_range f a zero = refl
total_range f a (suc k) = omega (arith, sum_from f a k, total_range f (suc a) k)

-- how often i stands in a list is the total of the weight `is i`
pub times_total : (i : ℕ) (xs : List ℕ) → times i xs ≡ total (is i) xs
times_total i [] = refl
times_total i (x ∷ xs) = go (eqb i x) refl (times_total i xs)
  where
    go : (b : Bool) → eqb i x ≡ b → times i xs ≡ total (is i) xs → cond b 1 0 + times i xs ≡ is i x + total (is i) xs
    go true e ih = omega (arith, eqb-true i x e)
    go false e ih = let d = eqb-false i x e in omega arith
