-- A distance under a ceiling: 02, R-8. Assumes nothing.
use Prim.Native.Nat.{◌*◌, ◌+◌, ◌-◌, ◌<◌, ◌≤◌, min, suc, zero, ℕ}
use Rattle.laws.proofs.Sums.{sum_most, sum_part}
use Rattle.limits.specs.Limits.{max_columns, max_distance}
use Rattle.measure.proofs.Metric.{apart-most}
use Rattle.measure.proofs.Rows.{from-query, l1-next}
use Rattle.measure.specs.Distance.{apart, capped, is_circle_lem, l1}
use Rattle.measure.specs.Table.{from, row}
use lib.ListN.{drop, get_or, length, take}
use lib.Seq.{get_or-drop}
use mathlib.Core.List.{List, [], ◌∷◌}
use mathlib.Core.Logic.{◌↔◌}
use mathlib.Core.Path.{◌∙◌, ◌≡◌, ap, refl, subst, sym}
use native.Mathlib.Nat.{mul-le-mul_left}
use native.Mathlib.Numerals.{add-one}
use native.Mathlib.Omega.{arith}

-- over more columns a distance is no less
pub l1_grows : (o : ℕ) (a b : List ℕ) (i k : ℕ) → l1 i o a b ≤ l1 (i + k) o a b
l1_grows o a b i zero =
    let e : i + 0 ≡ i = omega arith in
    rw e (omega arith)
l1_grows o a b i (suc k) =
    let e : i + suc k ≡ i + k + 1 = omega arith in
    rw e (omega (arith, l1-next o a b (i + k), l1_grows o a b i k))

-- over some of the columns they are as far apart as one more than the ceiling, and so they are over all
pub too_far : (o : ℕ) (a b : List ℕ) (i c k over d : ℕ) → over ≡ min k max_distance + 1 → d ≡ l1 i o a b → i ≤ c → over ≤ d
    → over ≡ capped k (l1 c o a b)
too_far o a b i c k over d e h m far =
    let j : i + (c - i) ≡ c = omega arith in
    let g : l1 i o a b ≤ l1 c o a b = subst (λ (z : ℕ). l1 i o a b ≤ l1 z o a b) j (l1_grows o a b i (c - i)) in
    omega (arith, e, h, g)

-- rows of 16-bit numbers are at most 1,048,560 apart
pub l1_bounded : (c o : ℕ) (a b : List ℕ) → c ≤ max_columns → ((j : ℕ) → get_or a j 0 ≤ 65535) → ((j : ℕ) → get_or b j 0 ≤ 65535) → l1 c o a b ≤ max_distance
unfolding l1
l1_bounded c o a b h ha hb =
    omega (
      arith,
      sum_most (λ j. apart (is_circle_lem o j) (get_or a j 0) (get_or b j 0)) 65535
          (λ j. apart-most (is_circle_lem o j) (get_or a j 0) (get_or b j 0) 65535 (ha j) (hb j)) c,
      mul-le-mul_left 65535 h,
    )

-- what is taken from a list is no greater than what the list has
take_small : (m c : ℕ) (xs : List ℕ) (j : ℕ) → ((j : ℕ) → get_or xs j 0 ≤ m) → get_or (take c xs) j 0 ≤ m
take_small m zero xs j h = omega arith
take_small m (suc c) [] j h = h j
take_small m (suc c) (x ∷ xs) zero h = h 0
take_small m (suc c) (x ∷ xs) (suc j) h = take_small m c xs j (λ j. h (suc j))

-- so is a query of a row of 16-bit numbers
pub from_bounded : (T q : List ℕ) (c o i : ℕ) → c ≤ max_columns → ((j : ℕ) → get_or T j 0 ≤ 65535) → ((j : ℕ) → get_or q j 0 ≤ 65535)
    → from T c o q i ≤ max_distance
unfolding from
from_bounded T q c o i h ht hq =
    l1_bounded c o q (row T c i) h hq
    (λ j. take_small 65535 c (drop (c * i) T) j (λ j. subst (λ v. v ≤ 65535) (sym (get_or-drop (c * i) T j 0)) (ht (c * i + j))))

-- ---- the ceiling
-- the lesser of the distance and one more than the ceiling is what is given
pub capped_of : (k over d e r : ℕ) → over ≡ min k max_distance + 1 → e ≡ d → r ≡ min e over → r ≡ capped k d
capped_of k over d e r h m l = omega arith

-- where the set of circles is empty, what is given of the plain sum is given of the distance
pub by_no_circle : (k c o : ℕ) (a b : List ℕ) {r : ℕ} → 0 ≡ o → r ≡ capped k (l1 c 0 a b) → r ≡ capped k (l1 c o a b)
by_no_circle k c o a b none m = m ∙ ap (λ (o : ℕ). capped k (l1 c o a b)) none

-- what is given of a row that is a part of the table is given of the query's distance
pub capped-from : (k : ℕ) (T : List ℕ) (c o j : ℕ) {r : ℕ} {b : List ℕ} → b ≡ row T c j → (q : List ℕ) → length q ≡ c
    → r ≡ capped k (l1 (length q) o q b) → r ≡ capped k (from T c o q j)
capped-from k T c o j {r} {b} B q e m = m ∙ ap (capped k) (from-query T c o j B q e refl)

-- a distance within the ceiling is given as it is
pub capped_met : (k top d : ℕ) → top ≡ min k max_distance → d ≤ top → d ≡ capped k d
capped_met k top d e h = omega arith

-- one beyond it is given as one more than the ceiling
pub capped-over : (k top d : ℕ) → top ≡ min k max_distance → top < d → top + 1 ≡ capped k d
capped-over k top d e h = omega arith

-- WHAT IS GIVEN IS AT MOST THE CEILING EXACTLY IF THE DISTANCE IS
pub capped-within : (k d : ℕ) → d ≤ max_distance → (capped k d ≤ k) ↔ (d ≤ k)
capped-within k d h = (λ u. omega arith, λ u. omega arith)
