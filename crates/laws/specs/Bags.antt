-- Bags: lists taken without their order, known by weights. A weight gives each element a number; two lists are the same bag where every weight has
-- the same total over both. "No element has f" is `total f xs ≡ 0`. A working notion, on which no promise rests. Assumes nothing.
use Rattle.std.specs.Prelude.{◌+◌, ◌-◌, suc, zero, ℕ, List, [], ◌∷◌, ◌≡◌}
use Rattle.laws.specs.Lists.{gap}

-- 1 where k is x, else 0
abbrev pub is : ℕ → ℕ → ℕ
is k x = 1 - gap k x

module _ {A : Type 0} where
  -- the total of a weight over a list
  abbrev pub total : (A → ℕ) → List A → ℕ
  total f [] = 0
  total f (x ∷ xs) = f x + total f xs

  -- the two lists are one bag
  abbrev pub SameBag : List A → List A → Type 0
  SameBag xs ys = (f : A → ℕ) → total f xs ≡ total f ys

  -- f (k - 1), .., f 1, f 0
  abbrev pub upto : (ℕ → A) → ℕ → List A
  upto f zero = []
  upto f (suc k) = f k ∷ upto f k
