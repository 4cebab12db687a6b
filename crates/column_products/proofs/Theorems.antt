-- The theorems on a choice of columns: no second outcome fits, and the distance of two rows is the one asked for. Assumes nothing.
use Prim.Native.Nat.{◌*◌, ◌+◌, ◌-◌, ◌<◌, ◌≤◌, suc, zero, ℕ}
use Rattle.column_products.proofs.Choosing.{row_small}
use Rattle.column_products.proofs.Items.{items_at}
use Rattle.column_products.proofs.Laying.{chosen-length, rows-length, table-length}
use Rattle.column_products.specs.Chosen.{Chooses, apart_by, chosen_row_lem, chosen_table, fitting, most, over_in, over_row, rows_by, times_factor}
use Rattle.laws.proofs.Sums.{sum_below-same}
use Rattle.laws.specs.Lists.{gap}
use Rattle.laws.specs.Upto.{sum_to}
use Rattle.measure.specs.Distance.{apart, is_circle_lem, l1}
use Rattle.measure.specs.Table.{Round, between, row}
use borrow.Author.Tests.{ltb-false}
use lib.Dec.{ltb}
use lib.ListN.{drop, get_or, length, take}
use lib.Seq.{drop_at, take_at}
use mathlib.Core.Bool.{Bool, cond, false, true}
use mathlib.Core.List.{List, [], ◌++◌, append_assoc, append-nil}
use mathlib.Core.Logic.{by_cases}
use mathlib.Core.Path.{◌∙◌, ◌≡◌, ap, ap₂, refl, sym}
use native.Mathlib.Decide.{dec_le, dec_lt, ℕ_discrete}
use native.Mathlib.Nat.{add-mul, mul_comm}
use native.Mathlib.Omega.{arith}

-- ---- rows one after the other, by their number
-- row i of them
rows_at : (f : ℕ → List ℕ) (k : ℕ) → ((i : ℕ) → length (f i) ≡ k) → (n i : ℕ) (z : List ℕ) → i < n → row (rows_by f n ++ z) k i ≡ f i
unfolding rows_by
rows_at f k h zero i z l = absurd (omega arith)
rows_at f k h (suc n) i z l =
    by_cases (dec_lt i n) (λ m. ap (λ (x : List ℕ). row x k i) (append_assoc (rows_by f n) (f n) z) ∙ rows_at f k h n i (f n ++ z) m)
    (λ m.
    let e : n ≡ i = omega arith in
    ap (λ (x : List ℕ). row x k i) (append_assoc (rows_by f n) (f n) z)
    ∙ ap (take k) (drop_at (rows_by f n) (f n ++ z) (k * i) (rows-length f k h n ∙ ap (λ (x : ℕ). k * x) e))
    ∙ take_at (f n) z k (h n)
    ∙ ap f e)

-- THE ROWS OF THE TABLE OF THE CHOSEN COLUMNS ARE THE CHOSEN ROWS
pub chosen-rows : (t : List ℕ) (c : ℕ) (chosen factors : List ℕ) (k n i : ℕ) → i < n
    → row (chosen_table t c chosen factors k n) k i ≡ chosen_row_lem (row t c i) chosen factors k
unfolding chosen_table
chosen-rows t c chosen factors k n i h =
    let f : ℕ → List ℕ = λ j. chosen_row_lem (row t c j) chosen factors k in
    ap (λ (x : List ℕ). row x k i) (sym (append-nil (rows_by f n))) ∙ rows_at f k (λ j. chosen-length t c chosen factors k (row t c j)) n i [] h

-- the number at place x of such a row
pub chosen_at : (t : List ℕ) (c : ℕ) (chosen factors : List ℕ) (k n i x : ℕ) → i < n → x < k
    → get_or (row (chosen_table t c chosen factors k n) k i) x 0 ≡ times_factor (row t c i) chosen factors x
unfolding chosen_row_lem
chosen_at t c chosen factors k n i x h l =
    ap (λ (r : List ℕ). get_or r x 0) (chosen-rows t c chosen factors k n i h ∙ sym (append-nil (chosen_row_lem (row t c i) chosen factors k)))
    ∙ items_at (times_factor (row t c i) chosen factors) k x [] l

-- ---- their distance
-- the difference of two products with one factor
gap-times : (a b f : ℕ) → gap (a * f) (b * f) ≡ f * gap a b
gap-times a b f = by_cases (dec_le a b) (λ h. less a b h) (λ h. turn (a * f) (b * f) ∙ less b a (omega arith) ∙ ap (λ (x : ℕ). f * x) (turn b a))
  where
    turn : (x y : ℕ) → gap x y ≡ gap y x
    turn x y = omega arith

    less : (a b : ℕ) → a ≤ b → gap (a * f) (b * f) ≡ f * gap a b
    less a b h =
        let e : b ≡ a + (b - a) = omega arith in
        let g : gap a b ≡ b - a = omega arith in
        let q : b * f ≡ a * f + (b - a) * f = ap (λ (x : ℕ). x * f) e ∙ add-mul a (b - a) f in
        let r : f * gap a b ≡ (b - a) * f = ap (λ (x : ℕ). f * x) g ∙ mul_comm f (b - a) in
        omega (arith, q, r)

-- what two products with one factor are apart in a column
apart-times : (round : Bool) (a b f : ℕ) → apart round (a * f) (b * f) ≡ apart_by round f a b
apart-times false a b f = gap-times a b f
apart-times true a b f = refl

-- THE DISTANCE OF TWO ROWS OVER THE CHOSEN COLUMNS IS THE SUM OF WHAT THEY ARE APART IN EACH WITH ITS FACTOR, for any set of circles
pub chosen-between : (t : List ℕ) (c o : ℕ) (chosen factors : List ℕ) (k n i j : ℕ) → i < n → j < n
    → between (chosen_table t c chosen factors k n) k o i j
    ≡ sum_to (λ x. apart_by (is_circle_lem o x) (get_or factors x 0) (get_or (row t c i) (get_or chosen x 0) 0) (get_or (row t c j) (get_or chosen x 0) 0)) k
unfolding between l1
chosen-between t c o chosen factors k n i j h g =
    sum_below-same (λ x. apart (is_circle_lem o x) (get_or (row (chosen_table t c chosen factors k n) k i) x 0) (get_or (row (chosen_table t c chosen factors k n) k j) x 0))
    (λ x. apart_by (is_circle_lem o x) (get_or factors x 0) (get_or (row t c i) (get_or chosen x 0) 0) (get_or (row t c j) (get_or chosen x 0) 0)) k
    (λ x l.
    ap₂ (apart (is_circle_lem o x)) (chosen_at t c chosen factors k n i x h l) (chosen_at t c chosen factors k n j x g l)
    ∙ apart-times (is_circle_lem o x) (get_or (row t c i) (get_or chosen x 0) 0) (get_or (row t c j) (get_or chosen x 0) 0) (get_or factors x 0))

-- ---- the call
-- on 0 no row has a product that is too great
none_over : (a : Bool) (v n : ℕ) {number : ℕ} → number ≡ cond a (cond (ltb v n) 2 0) 1 → number ≡ 0 → n ≤ v
none_over a v n e z = go a (ltb v n) refl (sym e ∙ z)
  where
    go : (a b : Bool) → ltb v n ≡ b → ◌≡◌ {A = ℕ} (cond a (cond b 2 0) 1) 0 → n ≤ v
    go true true p e = absurd (omega (arith, e))
    go true false p e = ltb-false v n p
    go false b p e = absurd (omega (arith, e))

module _ {t : List ℕ} {c n o : ℕ} {chosen factors : List ℕ} {k : ℕ} where
  -- WHAT STANDS AT THE FRONT OF THE TABLE ON 0
  pub chosen-front : {t' : List ℕ} {number r j : ℕ} → Chooses t t' c n o chosen factors k number r j → number ≡ 0
      → take (k * n) t' ≡ chosen_table t c chosen factors k n
  chosen-front x z =
      ap (take (k * n)) (x.done z)
      ∙ take_at (chosen_table t c chosen factors k n) (drop (k * n) t) (k * n) (table-length t c chosen factors k n)

  -- ON 0 EVERY ROW STANDS ON ITS CIRCLES, so that no search refuses the table for them
  pub chosen-round : {t' : List ℕ} {number r j : ℕ} → Chooses t t' c n o chosen factors k number r j → number ≡ 0 → (i : ℕ) → i < n
      → Round k o (row (chosen_table t c chosen factors k n) k i)
  chosen-round x z i l y m round =
      let s = row_small t c o chosen factors k n i y (none_over (fitting (length t) c n chosen k) (over_row t c o chosen factors k n) n x.said z) l m in
      let e = chosen_at t c chosen factors k n i y l m in
      let q : most o y ≡ 3_599 = rw round refl in
      omega (arith, s, e, q)

  -- NO SECOND OUTCOME FITS
  pub choose-only : {t₁ t₂ : List ℕ} {number₁ r₁ j₁ number₂ r₂ j₂ : ℕ} → Chooses t t₁ c n o chosen factors k number₁ r₁ j₁
      → Chooses t t₂ c n o chosen factors k number₂ r₂ j₂ → (number₁ ≡ number₂) × (r₁ ≡ r₂) × (j₁ ≡ j₂) × (t₁ ≡ t₂)
  choose-only {t₁} {t₂} {number₁} {r₁} {j₁} {number₂} {r₂} {j₂} a b =
      let e : number₁ ≡ number₂ = a.said ∙ sym b.said in
      let p = places (ℕ_discrete number₁ 2) e in (e, p.0, p.1, tables (ℕ_discrete number₁ 0) e)
    where
      places : Dec (number₁ ≡ 2) → number₁ ≡ number₂ → (r₁ ≡ r₂) × (j₁ ≡ j₂)
      places (yes z) e =
          let x = a.where# z in
          let y = b.where# (sym e ∙ z) in
          let r : r₁ ≡ r₂ = x.0 ∙ sym y.0 in
          (r, x.1 ∙ ap (λ (i : ℕ). over_in (row t c i) o chosen factors k) r ∙ sym y.1)
      places (no z) e =
          let x = a.nowhere z in
          let y = b.nowhere (λ q. z (e ∙ q)) in
          (x.0 ∙ sym y.0, x.1 ∙ sym y.1)

      tables : Dec (number₁ ≡ 0) → number₁ ≡ number₂ → t₁ ≡ t₂
      tables (yes z) e = a.done z ∙ sym (b.done (sym e ∙ z))
      tables (no z) e = a.refused z ∙ sym (b.refused (λ q. z (e ∙ q)))
