-- Lists and numbers: the few functions that the definitions of all crates share. Assumes nothing.
use Rattle.std.specs.Prelude.{◌+◌, ◌-◌, max, min, suc, zero, ℕ, eqb, leb, Bool, ◌&&◌, ◌||◌, cond, false, true}
use mathlib.Core.List.{List, [], ◌++◌, ◌∷◌, foldr}

-- the absolute difference: `-` stops at 0, so one of the two parts is 0
abbrev pub gap : ℕ → ℕ → ℕ
gap a b = (a - b) + (b - a)

-- k numbers from a: a, a + 1, ..
abbrev pub range : ℕ → ℕ → List ℕ
range a zero = []
range a (suc k) = a ∷ range (suc a) k

module _ {A : Type 0} where
  -- the test passes at every element
  abbrev pub all : (A → Bool) → List A → Bool
  all f [] = true
  all f (x ∷ xs) = f x && all f xs

  -- the test passes at one element or more
  abbrev pub any : (A → Bool) → List A → Bool
  any f [] = false
  any f (x ∷ xs) = f x || any f xs

  -- the elements that pass, in their order
  abbrev pub keep : (A → Bool) → List A → List A
  keep f [] = []
  keep f (x ∷ xs) = cond (f x) (x ∷ keep f xs) (keep f xs)

  -- how many pass
  abbrev pub tally : (A → Bool) → List A → ℕ
  tally f [] = 0
  tally f (x ∷ xs) = cond (f x) 1 0 + tally f xs

  -- all but the first
  abbrev pub rest : List A → List A
  rest [] = []
  rest (x ∷ xs) = xs

module _ {A B : Type 0} where
  -- the lists f x, one after the other
  abbrev pub each : (A → List B) → List A → List B
  each f [] = []
  each f (x ∷ xs) = f x ++ each f xs

-- the lists, one after the other
abbrev pub joined : List (List ℕ) → List ℕ
joined xss = each (λ xs. xs) xss

-- i stands in the list
abbrev pub has : ℕ → List ℕ → Bool
has i xs = any (eqb i) xs

-- how often i stands in the list
abbrev pub times : ℕ → List ℕ → ℕ
times i xs = tally (eqb i) xs

-- without the first i
abbrev pub without : ℕ → List ℕ → List ℕ
without i [] = []
without i (x ∷ xs) = cond (eqb i x) xs (x ∷ without i xs)

-- the first number, 0 where there is none
abbrev pub head : List ℕ → ℕ
head [] = 0
head (x ∷ xs) = x

-- the last number, 0 where there is none
abbrev pub last : List ℕ → ℕ
last [] = 0
last (x ∷ []) = x
last (x ∷ y ∷ xs) = last (y ∷ xs)

-- the greatest number, 0 where there is none
abbrev pub greatest : List ℕ → ℕ
greatest xs = foldr max 0 xs

-- the least of x and the numbers xs
abbrev pub least : ℕ → List ℕ → ℕ
least x xs = foldr min x xs

-- the least number, 0 where there is none
abbrev pub lowest : List ℕ → ℕ
lowest [] = 0
lowest (x ∷ xs) = least x xs

-- the least of k numbers, of which x is the last and `low` the least of those before it: the first is the least
abbrev pub lower : ℕ → ℕ → ℕ → ℕ
lower k low x = cond (leb k 1) x (min low x)

-- the two lists are equal
abbrev pub same : List ℕ → List ℕ → Bool
same [] [] = true
same [] (y ∷ ys) = false
same (x ∷ xs) [] = false
same (x ∷ xs) (y ∷ ys) = eqb x y && same xs ys

-- what stands beside i in a list of pairs, 0 where i is not there
abbrev pub look : ℕ → List (ℕ × ℕ) → ℕ
look i [] = 0
look i (p ∷ ps) = cond (eqb i p.0) p.1 (look i ps)
