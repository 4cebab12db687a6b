-- Lists joined from parts: what is done to each part, and the parts read back. Assumes nothing.
use Prim.Native.Nat.{◌+◌, ℕ}
use Rattle.laws.specs.Lists.{each, keep}
use lib.ListN.{drop, length, length-append, take, take-append-drop}
use lib.Seq.{drop_at, take_at}
use mathlib.Core.Bool.{Bool, cond, false, true}
use mathlib.Core.List.{List, [], ◌++◌, ◌∷◌, append_assoc}
use mathlib.Core.Path.{◌∙◌, ◌≡◌, ap, ap₂, refl, sym}

-- the lists of two lists' elements, one after the other
pub each_append : {A B : Type 0} (g : A → List B) (xs ys : List A) → each g (xs ++ ys) ≡ each g xs ++ each g ys
each_append g [] ys = refl
each_append {A} {B} g (x ∷ xs) ys = ap (λ (zs : List B). g x ++ zs) (each_append g xs ys) ∙ sym (append_assoc (g x) (each g xs) (each g ys))

-- what is kept of two lists, one after the other
pub keep_append : {A : Type 0} (f : A → Bool) (xs ys : List A) → keep f (xs ++ ys) ≡ keep f xs ++ keep f ys
keep_append f [] ys = refl
keep_append {A} f (x ∷ xs) ys = go (f x) (keep_append f xs ys)
  where
    go : (b : Bool) → keep f (xs ++ ys) ≡ keep f xs ++ keep f ys
        → cond b (x ∷ keep f (xs ++ ys)) (keep f (xs ++ ys)) ≡ cond b (x ∷ keep f xs) (keep f xs) ++ keep f ys
    go true h = ap (λ (zs : List A). x ∷ zs) h
    go false h = h

-- ---- a list whose first N words are three parts, of which two are a and b long
module _ (w X Y Z : List ℕ) (N a b : ℕ) (front : take N w ≡ X ++ (Y ++ Z)) (la : length X ≡ a) (lb : length Y ≡ b) where
  -- the whole list: the three parts, and what follows them
  whole : w ≡ X ++ (Y ++ (Z ++ drop N w))
  whole =
      sym (take-append-drop N w) ∙ ap (λ (l : List ℕ). l ++ drop N w) front ∙ append_assoc X (Y ++ Z) (drop N w)
      ∙ ap (λ (l : List ℕ). X ++ l) (append_assoc Y Z (drop N w))

  -- the first part, read back
  pub part-one : take a w ≡ X
  part-one = ap (take a) whole ∙ take_at X (Y ++ (Z ++ drop N w)) a la

  -- what stands behind the first part
  behind : drop a w ≡ Y ++ (Z ++ drop N w)
  behind = ap (drop a) whole ∙ drop_at X (Y ++ (Z ++ drop N w)) a la

  -- the second part, read back
  pub part-two : take b (drop a w) ≡ Y
  part-two = ap (take b) behind ∙ take_at Y (Z ++ drop N w) b lb

  -- the third part, read back
  pub part-three : (k : ℕ) → length Z ≡ k → take k (drop (a + b) w) ≡ Z
  part-three k lz =
      ap (take k) (ap (drop (a + b)) (whole ∙ sym (append_assoc X Y (Z ++ drop N w)))
      ∙ drop_at (X ++ Y) (Z ++ drop N w) (a + b) (length-append X Y ∙ ap₂ ◌+◌ la lb))
      ∙ take_at Z (drop N w) k lz
