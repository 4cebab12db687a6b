-- When a list that is kept, mapped or joined is empty. Assumes nothing.
use Rattle.laws.specs.Every.{Every}
use Rattle.laws.specs.Lists.{any, each, keep}
use lib.Dec.{T}
use mathlib.Core.Bool.{Bool, ◌||◌, cond, false, true}
use mathlib.Core.List.{List, [], ◌++◌, ◌∷◌, cons≢nil, map}
use mathlib.Core.Path.{◌∙◌, ◌≡◌, ap, refl, subst}

module _ {A : Type 0} where
  -- two lists that are empty together: the first one is
  pub append-nil-l : (xs ys : List A) → xs ++ ys ≡ [] → xs ≡ []
  append-nil-l [] ys e = refl
  append-nil-l (x ∷ xs) ys e = absurd (cons≢nil e)

  -- and the second
  pub append-nil-r : (xs ys : List A) → xs ++ ys ≡ [] → ys ≡ []
  append-nil-r [] ys e = e
  append-nil-r (x ∷ xs) ys e = absurd (cons≢nil e)

  -- none is kept exactly if every one fails
  pub keep-nil : (f : A → Bool) (xs : List A) → keep f xs ≡ [] → Every (λ a. f a ≡ false) xs
  keep-nil f [] e = tt
  keep-nil f (x ∷ xs) e = go (λ q. keep-nil f xs q) (f x) refl e
    where
      go : (keep f xs ≡ [] → Every (λ a. f a ≡ false) xs) → (b : Bool) → f x ≡ b → cond b (x ∷ keep f xs) (keep f xs) ≡ []
          → (f x ≡ false) × Every (λ a. f a ≡ false) xs
      go ih true p e = absurd (cons≢nil e)
      go ih false p e = (p, ih e)

  -- and the other way
  pub keep-none : (f : A → Bool) (xs : List A) → Every (λ a. f a ≡ false) xs → keep f xs ≡ []
  keep-none f [] h = refl
  keep-none f (x ∷ xs) h = rw h.0 (keep-none f xs h.1)

  -- no test passes exactly if every one fails
  pub any_false : (f : A → Bool) (xs : List A) → any f xs ≡ false → Every (λ a. f a ≡ false) xs
  any_false f [] e = tt
  any_false f (x ∷ xs) e = go (λ q. any_false f xs q) (f x) refl e
    where
      go : (any f xs ≡ false → Every (λ a. f a ≡ false) xs) → (b : Bool) → f x ≡ b → (b || any f xs) ≡ false
          → (f x ≡ false) × Every (λ a. f a ≡ false) xs
      go ih true p e = absurd (subst T e tt)
      go ih false p e = (p, ih e)

  -- and the other way
  pub any_none : (f : A → Bool) (xs : List A) → Every (λ a. f a ≡ false) xs → any f xs ≡ false
  any_none f [] h = refl
  any_none f (x ∷ xs) h = rw h.0 (any_none f xs h.1)

module _ {A B : Type 0} where
  -- a list is empty where it is when mapped
  pub map-nil : (f : A → B) (xs : List A) → map f xs ≡ [] → xs ≡ []
  map-nil f [] e = refl
  map-nil f (x ∷ xs) e = absurd (cons≢nil e)

  -- the joined lists are empty exactly if each is
  pub each_nil : (f : A → List B) (xs : List A) → each f xs ≡ [] → Every (λ a. f a ≡ []) xs
  each_nil f [] e = tt
  each_nil f (x ∷ xs) e = (append-nil-l (f x) (each f xs) e, each_nil f xs (append-nil-r (f x) (each f xs) e))

  -- and the other way
  pub each_none : (f : A → List B) (xs : List A) → Every (λ a. f a ≡ []) xs → each f xs ≡ []
  each_none f [] h = refl
  each_none f (x ∷ xs) h = ap (λ l. l ++ each f xs) h.0 ∙ each_none f xs h.1
