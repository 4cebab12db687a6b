-- Laws of a fact of every element. Assumes nothing.
use Prim.Native.Nat.{◌≤◌, min, suc, zero, ℕ}
use Rattle.laws.proofs.Tests.{and_l, and_of, and_r}
use Rattle.laws.specs.Every.{Every}
use Rattle.laws.specs.Lists.{all, greatest, has, head, keep, least, lowest, rest}
use borrow.Author.Tests.{eqb-true}
use lib.Dec.{T, eqb}
use lib.ListN.{drop, length, take}
use mathlib.Core.Bool.{Bool, ◌||◌, cond, false, true}
use mathlib.Core.List.{List, [], ◌++◌, ◌∷◌, map}
use mathlib.Core.Path.{◌≡◌, ap₂, refl, subst, sym}
use native.Mathlib.Nat.{not-suc-le-zero}
use native.Mathlib.Omega.{arith}

module _ {A : Type 0} where
  -- a fact of every element of two lists is one of both together
  pub every_append : (P : A → Type 0) (xs ys : List A) → Every P xs → Every P ys → Every P (xs ++ ys)
  every_append P [] ys h k = k
  every_append P (x ∷ xs) ys h k = (h.0, every_append P xs ys h.1 k)

  -- and one of both together is one of the first
  pub every-left : (P : A → Type 0) (xs ys : List A) → Every P (xs ++ ys) → Every P xs
  every-left P [] ys h = tt
  every-left P (x ∷ xs) ys h = (h.0, every-left P xs ys h.1)

  -- and of the second
  pub every-right : (P : A → Type 0) (xs ys : List A) → Every P (xs ++ ys) → Every P ys
  every-right P [] ys h = h
  every-right P (x ∷ xs) ys h = every-right P xs ys h.1

  -- a fact of every element is one of all but the first
  pub every_rest : (P : A → Type 0) (xs : List A) → Every P xs → Every P (rest xs)
  every_rest P [] h = tt
  every_rest P (x ∷ xs) h = h.1

  -- of the first k
  pub every_take : (P : A → Type 0) (k : ℕ) (xs : List A) → Every P xs → Every P (take k xs)
  every_take P zero xs h = tt
  every_take P (suc k) [] h = tt
  every_take P (suc k) (x ∷ xs) h = (h.0, every_take P k xs h.1)

  -- of all but the first k
  pub every_drop : (P : A → Type 0) (k : ℕ) (xs : List A) → Every P xs → Every P (drop k xs)
  every_drop P zero xs h = h
  every_drop P (suc k) [] h = tt
  every_drop P (suc k) (x ∷ xs) h = every_drop P k xs h.1

  -- of those that are kept
  pub every-keep : (P : A → Type 0) (p : A → Bool) (xs : List A) → Every P xs → Every P (keep p xs)
  every-keep P p [] h = tt
  every-keep P p (a ∷ xs) h = go (p a) (every-keep P p xs h.1)
    where
      go : (b : Bool) → Every P (keep p xs) → Every P (cond b (a ∷ keep p xs) (keep p xs))
      go true k = (h.0, k)
      go false k = k

  -- a fact that follows from another, at every element
  pub every_of : (P Q : A → Type 0) → ((a : A) → P a → Q a) → (xs : List A) → Every P xs → Every Q xs
  every_of P Q f [] h = tt
  every_of P Q f (x ∷ xs) h = (f x h.0, every_of P Q f xs h.1)

  -- a fact that follows from two others, at every element
  pub every-both : (P Q R : A → Type 0) → ((a : A) → P a → Q a → R a) → (xs : List A) → Every P xs → Every Q xs → Every R xs
  every-both P Q R f [] h k = tt
  every-both P Q R f (x ∷ xs) h k = (f x h.0 k.0, every-both P Q R f xs h.1 k.1)

  -- a fact of everything, at every element
  pub every-all : (P : A → Type 0) → ((a : A) → P a) → (xs : List A) → Every P xs
  every-all P f [] = tt
  every-all P f (x ∷ xs) = (f x, every-all P f xs)

  -- the test `all`, as a fact of every element
  pub all-every : (f : A → Bool) (xs : List A) → T (all f xs) → Every (λ a. T (f a)) xs
  all-every f [] t = tt
  all-every f (x ∷ xs) t = (and_l (f x) (all f xs) t, all-every f xs (and_r (f x) (all f xs) t))

  -- and the other way
  pub all_of : (f : A → Bool) (xs : List A) → Every (λ a. T (f a)) xs → T (all f xs)
  all_of f [] h = tt
  all_of f (x ∷ xs) h = and_of (f x) (all f xs) h.0 (all_of f xs h.1)

module _ {A B : Type 0} where
  -- a fact of f x at every element x is one of every element mapped
  pub every_map : (P : B → Type 0) (f : A → B) (xs : List A) → Every (λ a. P (f a)) xs → Every P (map f xs)
  every_map P f [] h = tt
  every_map P f (x ∷ xs) h = (h.0, every_map P f xs h.1)

  -- and the other way
  pub every-unmap : (P : B → Type 0) (f : A → B) (xs : List A) → Every P (map f xs) → Every (λ a. P (f a)) xs
  every-unmap P f [] h = tt
  every-unmap P f (x ∷ xs) h = (h.0, every-unmap P f xs h.1)

-- a fact of every element is one of the head, where there is one
pub every_head : (P : ℕ → Type 0) (xs : List ℕ) → 1 ≤ length xs → Every P xs → P (head xs)
every_head P [] w h = absurd (not-suc-le-zero w)
every_head P (x ∷ xs) w h = h.0

-- no number is above the greatest
pub greatest_le : (xs : List ℕ) → Every (λ a. a ≤ greatest xs) xs
greatest_le [] = tt
greatest_le (x ∷ xs) = (omega arith, every_of (λ a. a ≤ greatest xs) (λ a. a ≤ greatest (x ∷ xs)) (λ a h. omega arith) xs (greatest_le xs))

-- and it is at most what every number is
pub greatest_under : (b : ℕ) (xs : List ℕ) → Every (λ a. a ≤ b) xs → greatest xs ≤ b
greatest_under b [] h = omega arith
greatest_under b (x ∷ xs) h = omega (arith, greatest_under b xs h.1, h.0)

-- no number is below the least
least_le : (v : ℕ) (xs : List ℕ) → (least v xs ≤ v) × Every (λ x. least v xs ≤ x) xs
least_le v [] = (omega arith, tt)
least_le v (x ∷ xs) =
    let p = least_le v xs in
    (omega (arith, p.0), (omega arith, every_of (λ z. least v xs ≤ z) (λ z. min x (least v xs) ≤ z) (λ z h. omega arith) xs p.1))

-- nor below the lowest
pub lowest_le : (xs : List ℕ) → Every (λ x. lowest xs ≤ x) xs
lowest_le [] = tt
lowest_le (x ∷ xs) = least_le x xs

-- what is at most every number is at most the least
least-over : (b v : ℕ) (xs : List ℕ) → b ≤ v → Every (λ x. b ≤ x) xs → b ≤ least v xs
least-over b v [] h hs = h
least-over b v (x ∷ xs) h hs = omega (arith, least-over b v xs h hs.1, hs.0)

-- and, where there is one, the lowest
pub lowest-over : (b : ℕ) (xs : List ℕ) → 1 ≤ length xs → Every (λ x. b ≤ x) xs → b ≤ lowest xs
lowest-over b [] h hs = absurd (not-suc-le-zero h)
lowest-over b (x ∷ xs) h hs = least-over b x xs hs.0 hs.1

-- the lowest is at most what every number is
pub lowest_under : (b : ℕ) (xs : List ℕ) → Every (λ x. x ≤ b) xs → lowest xs ≤ b
lowest_under b [] h = omega arith
lowest_under b (x ∷ xs) h = omega (arith, (least_le x xs).0, h.0)

-- a fact of every element is one of each that the list has
pub has_every : (P : ℕ → Type 0) (i : ℕ) (xs : List ℕ) → Every P xs → has i xs ≡ true → P i
has_every P i [] h e = absurd (subst T (sym e) tt)
has_every P i (x ∷ xs) h e = go (λ q. has_every P i xs h.1 q) (eqb i x) refl e
  where
    go : (has i xs ≡ true → P i) → (b : Bool) → eqb i x ≡ b → (b || has i xs) ≡ true → P i
    go f true q e = subst P (sym (eqb-true i x q)) h.0
    go f false q e = f e
