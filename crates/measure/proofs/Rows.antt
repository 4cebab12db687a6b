-- A row as a part of its table, and a distance column by column. Assumes nothing.
use Prim.Native.Nat.{◌*◌, ◌+◌, ◌-◌, ◌<◌, ◌^◌, ◌≤◌, min, suc, zero, ℕ}
use Rattle.laws.proofs.Sums.{sum_below-same, sum_next, sum_none}
use Rattle.laws.specs.Lists.{gap}
use Rattle.laws.specs.Upto.{sum_to}
use Rattle.measure.specs.Distance.{apart, circle, is_circle_lem, l1}
use Rattle.measure.specs.Table.{between, from, row}
use Rattle.measure.specs.Turns.{turn_of}
use borrow.Author.Tests.{eqb-true}
use lib.Dec.{T, eqb, leb}
use lib.ListN.{drop, get_or, length, length-drop, length-take, take}
use mathlib.Core.Bool.{Bool, ◌&&◌, cond, false, true}
use mathlib.Core.List.{List}
use mathlib.Core.Path.{◌∙◌, ◌≡◌, ap, ap₂, refl, subst, sym}
use native.Mathlib.Nat.{add-sub_cancel_left, mul-le-mul_left, mul-suc, zero-div}
use native.Mathlib.Omega.{arith}

-- the part from c * i to c * i + c
pub row_part : (T : List ℕ) (c i : ℕ) → take (c * i + c - c * i) (drop (c * i) T) ≡ row T c i
row_part T c i = rw add-sub_cancel_left

-- a row that lies in the table has c numbers
pub row-length : (T : List ℕ) (c i : ℕ) → c * i + c ≤ length T → length (row T c i) ≡ c
row-length T c i h = simp (length-take, length-drop) (omega arith)

-- row i of n lies in the table
pub row_ends : (c n i : ℕ) → i < n → c * i + c ≤ c * n
row_ends c n i h = subst (λ (k : ℕ). k ≤ c * n) (mul-suc c i) (mul-le-mul_left c h)

-- ---- circles
-- where no bit is on no column is a circle
pub no_circle : (j : ℕ) → is_circle_lem 0 j ≡ false
no_circle j = rw (zero-div (2 ^ j)) refl

-- OLD IMAGES MEAN WHAT THEY MEANT: with no circle the distance is the sum of the differences
pub no_circles : (c : ℕ) (a b : List ℕ) → l1 c 0 a b ≡ sum_to (λ j. gap (get_or a j 0) (get_or b j 0)) c
unfolding l1
no_circles c a b =
    sum_below-same (λ j. apart (is_circle_lem 0 j) (get_or a j 0) (get_or b j 0)) (λ j. gap (get_or a j 0) (get_or b j 0)) c
    (λ j h. ap (λ (t : Bool). apart t (get_or a j 0) (get_or b j 0)) (no_circle j))

-- how many go round, from the column's bit
pub turn_of_lem : (b r : ℕ) → b < 2 → r ≡ 131_070 - 127_470 * b → r ≡ cond (eqb b 1) circle 131_070
turn_of_lem zero r h e = e
turn_of_lem (suc zero) r h e = e
turn_of_lem (suc (suc b)) r h e = absurd (omega arith)

-- two numbers of 16 bits are apart the shorter way round that many
apart_turn : (round : Bool) (g : ℕ) → g ≤ 65535 → min g (cond round circle 131_070 - g) ≡ cond round (min g (circle - g)) g
apart_turn true g h = refl
apart_turn false g h = omega arith

-- ---- a distance, column by column
module _ (o : ℕ) (a b : List ℕ) where
  -- over no column
  pub l1-none : l1 0 o a b ≡ 0
  unfolding l1
  l1-none = sum_none (λ j. apart (is_circle_lem o j) (get_or a j 0) (get_or b j 0))

  -- over one more
  pub l1-next : (i : ℕ) → l1 (i + 1) o a b ≡ l1 i o a b + apart (is_circle_lem o i) (get_or a i 0) (get_or b i 0)
  unfolding l1
  l1-next i = sum_next (λ j. apart (is_circle_lem o j) (get_or a j 0) (get_or b j 0)) i

  -- the same, by how many go round in it
  pub l1-turn : (i : ℕ) → gap (get_or a i 0) (get_or b i 0) ≤ 65535
      → l1 (i + 1) o a b ≡ l1 i o a b + min (gap (get_or a i 0) (get_or b i 0)) (turn_of o i - gap (get_or a i 0) (get_or b i 0))
  l1-turn i h = rw (apart_turn (is_circle_lem o i) (gap (get_or a i 0) (get_or b i 0)) h) (l1-next i)

-- over one more, where no column is a circle
pub l1-next-plain : (a b : List ℕ) (i : ℕ) → l1 (i + 1) 0 a b ≡ l1 i 0 a b + gap (get_or a i 0) (get_or b i 0)
l1-next-plain a b i = l1-next 0 a b i ∙ ap (λ (t : Bool). l1 i 0 a b + apart t (get_or a i 0) (get_or b i 0)) (no_circle i)

-- the test for few plain columns says that the set of circles is empty
pub none_few : (o k : ℕ) → (eqb o 0 && leb k 6) ≡ true → 0 ≡ o
none_few o k t = go (eqb o 0) (leb k 6) refl t
  where
    go : (a b : Bool) → eqb o 0 ≡ a → (a && b) ≡ true → 0 ≡ o
    go true b e h = sym (eqb-true o 0 e)
    go false b e h = absurd (subst T (sym h) tt)

-- where the set of circles is empty, the plain sum is the distance
pub by-none : (k o : ℕ) (a b : List ℕ) {r : ℕ} → 0 ≡ o → r ≡ l1 k 0 a b → r ≡ l1 k o a b
by-none k o a b none m = m ∙ ap (λ (o : ℕ). l1 k o a b) none

-- ---- a distance r that was measured from a part of the table
module _ (T : List ℕ) (c o j : ℕ) {r : ℕ} {b : List ℕ} (B : b ≡ row T c j) where
  -- the query's
  pub from-query : (q : List ℕ) → length q ≡ c → r ≡ l1 (length q) o q b → r ≡ from T c o q j
  unfolding from
  from-query q e m = m ∙ ap₂ (λ (k : ℕ) (l : List ℕ). l1 k o q l) e B

  -- that of row i
  pub between-rows : (i : ℕ) {a : List ℕ} → (a ≡ row T c i) × (length a ≡ c) → r ≡ l1 (length a) o a b → r ≡ between T c o i j
  unfolding between
  between-rows i {a} A m = m ∙ ap₂ (λ (k : ℕ) (l : List ℕ). l1 k o a l) A.1 B ∙ ap (λ (l : List ℕ). l1 c o l (row T c j)) A.0
