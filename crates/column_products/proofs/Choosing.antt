-- A choice of columns, tested: which of them are none, and which products are too great. Assumes nothing.
use Prim.Native.Nat.{◌*◌, ◌+◌, ◌/◌, ◌<◌, ◌≤◌, suc, zero, ℕ}
use Rattle.column_products.proofs.Firsts.{first_below, first-here, first-none, first_on}
use Rattle.std.specs.Prelude.{EachIndex, IsTrue, ◌↔◌}
use Rattle.column_products.specs.Chosen.{Choice, Chooses, SmallRows, chosen_table, fitting, most, outside, over_in, over_row, times_factor}
use Rattle.limits.specs.Limits.{columns_ok_lem, max_columns, within}
use Rattle.measure.proofs.Rows.{row_ends}
use Rattle.measure.specs.Distance.{is_circle_lem}
use Rattle.measure.specs.Table.{row}
use borrow.Author.Tests.{le-leb, le-ltb, leb-false, leb-true, lt-leb, lt-ltb, ltb-false}
use lib.Dec.{T, leb, ltb}
use lib.ListN.{drop, get_or, length, take}
use lib.Seq.{length-take-le}
use Rattle.std.proofs.lemmas.List.{get_or-take}
use mathlib.Core.Bool.{Bool, ◌&&◌, cond, false, true}
use mathlib.Core.List.{List, ◌++◌}
use mathlib.Core.Path.{◌∙◌, ◌≡◌, ap, refl, subst, sym}
use native.Mathlib.Nat.{div-lt_iff_lt-mul, mul_comm, mul-div-le, mul-le-mul_left}
use native.Mathlib.Numerals.{add-one}
use native.Mathlib.Omega.{arith}

-- ---- chosen columns that are none
module _ (c : ℕ) (chosen : List ℕ) where
  -- before the first
  pub outside-none : outside c chosen 0 ≡ 0
  unfolding outside
  outside-none = first-none (λ (j : ℕ). leb c (get_or chosen j 0))

  -- one that is
  pub outside-on : {j : ℕ} → outside c chosen j ≡ j → get_or chosen j 0 < c → outside c chosen (j + 1) ≡ j + 1
  unfolding outside
  outside-on {j} e h = first_on (λ (i : ℕ). leb c (get_or chosen i 0)) e (lt-leb c (get_or chosen j 0) h)

  -- all of k are
  outside-all : (k : ℕ) → ((j : ℕ) → j < k → get_or chosen j 0 < c) → outside c chosen k ≡ k
  outside-all zero h = outside-none
  outside-all (suc k) h = rw add-one at (outside-on (outside-all k (λ j l. h j (omega arith))) (h k (omega arith)))

  -- up to k each is below c where none before it is not
  inside-each : (k : ℕ) → k ≤ outside c chosen k → (j : ℕ) → j < k → get_or chosen j 0 < c
  unfolding outside
  inside-each k h j l = leb-false c (get_or chosen j 0) (first_below (λ (i : ℕ). leb c (get_or chosen i 0)) k j (omega arith))

  -- a test that tells whether each of the k chosen is below c
  pub inside-told : (k : ℕ) → k ≤ length chosen → {r : Bool} → IsTrue r ↔ EachIndex (take k chosen) (λ j. get_or (take k chosen) j 0 < c)
      → r ≡ leb k (outside c chosen k)
  inside-told k f {r} h = go r (leb k (outside c chosen k)) refl refl
    where
      long : length (take k chosen) ≡ k
      long = length-take-le k chosen f

      all : r ≡ true → outside c chosen k ≡ k
      all e = outside-all k (λ j l. subst (λ (x : ℕ). x < c) (get_or-take k chosen j 0 l) (h.0 e j (omega (arith, long))))

      each : k ≤ outside c chosen k → r ≡ true
      each l = h.1 (λ j m. subst (λ (x : ℕ). x < c) (sym (get_or-take k chosen j 0 (omega (arith, long)))) (inside-each k l j (omega (arith, long))))

      go : (a b : Bool) → r ≡ a → leb k (outside c chosen k) ≡ b → r ≡ leb k (outside c chosen k)
      go true b p q = p ∙ sym (le-leb k (outside c chosen k) (omega (arith, all p)))
      go false true p q = each (leb-true k (outside c chosen k) q) ∙ sym q
      go false false p q = p ∙ sym q

  -- so each is below c
  pub inside_of : (k : ℕ) → k ≤ max_columns → k ≤ outside c chosen k → Choice c chosen k
  inside_of k f h = record { few = f; inside = inside-each k h }

-- the same of a row of that length
pub choice_of : {c : ℕ} {chosen : List ℕ} {k : ℕ} (r : List ℕ) → Choice c chosen k → length r ≡ c → Choice (length r) chosen k
choice_of {chosen = chosen} {k} r C e = subst (λ (x : ℕ). Choice x chosen k) (sym e) C

-- ---- products that are too great
module _ (r : List ℕ) (o : ℕ) (chosen factors : List ℕ) where
  -- before the first
  pub over_none : over_in r o chosen factors 0 ≡ 0
  unfolding over_in
  over_none = first-none (λ (j : ℕ). ltb (most o j) (times_factor r chosen factors j))

  -- one that is not
  pub over-on : {j v : ℕ} → over_in r o chosen factors j ≡ j → v ≡ most o j → times_factor r chosen factors j ≤ v → over_in r o chosen factors (j + 1) ≡ j + 1
  unfolding over_in
  over-on {j} e m h =
      first_on (λ (i : ℕ). ltb (most o i) (times_factor r chosen factors i)) e (le-ltb (most o j) (times_factor r chosen factors j) (subst (λ (x : ℕ). times_factor r chosen factors j ≤ x) m h))

  -- the first that is
  pub over-here : {j v : ℕ} (k : ℕ) → over_in r o chosen factors j ≡ j → v ≡ most o j → v < times_factor r chosen factors j → j < k → j ≡ over_in r o chosen factors k
  unfolding over_in
  over-here {j} k e m h l =
      sym
      (first-here (λ (i : ℕ). ltb (most o i) (times_factor r chosen factors i)) k e
      (lt-ltb (most o j) (times_factor r chosen factors j) (subst (λ (x : ℕ). x < times_factor r chosen factors j) m h)) l)

  -- none is
  pub over-end : {j : ℕ} (k : ℕ) → over_in r o chosen factors j ≡ j → j ≤ k → k ≤ j → k ≡ over_in r o chosen factors k
  over-end {j} k e a b =
      let q : j ≡ k = omega arith in
      subst (λ (x : ℕ). x ≡ over_in r o chosen factors x) q (sym e)

-- i of n rows are passed by
pub record Passed (t : List ℕ) (c n o : ℕ) (chosen factors : List ℕ) (k i : ℕ) : Type 0 where
  pub bound : i ≤ n
  pub choice : Choice c chosen k
  pub room : c * n ≤ length t
  pub none : over_row t c o chosen factors k i ≡ i

module _ {t : List ℕ} {c n o : ℕ} {chosen factors : List ℕ} {k : ℕ} where
  -- none
  pub passed_start : Choice c chosen k → c * n ≤ length t → Passed t c n o chosen factors k 0
  unfolding over_row
  passed_start C h =
      record { bound = omega arith; choice = C; room = h; none = first-none (λ (i : ℕ). ltb (over_in (row t c i) o chosen factors k) k) }

  module _ {i : ℕ} (P : Passed t c n o chosen factors k i) where
    -- the next stands in the table
    pub passed-there : i < n → c * i + c ≤ length t
    passed-there l = omega (arith, row_ends c n i l, P.room)

    module _ {r : List ℕ} {v : ℕ} (l : i < n) (e : r ≡ row t c i) (f : v ≡ over_in r o chosen factors k) where
      -- what was found of the row
      found_of : v ≡ over_in (row t c i) o chosen factors k
      found_of = f ∙ ap (λ (x : List ℕ). over_in x o chosen factors k) e

      -- one more
      pub passed-next : k ≤ v → Passed t c n o chosen factors k (i + 1)
      unfolding over_row
      passed-next h =
          record {
            bound = omega arith;
            choice = P.choice;
            room = P.room;
            none = first_on (λ (j : ℕ). ltb (over_in (row t c j) o chosen factors k) k) P.none
                (le-ltb (over_in (row t c i) o chosen factors k) k (omega (arith, found_of)));
          }

      -- the first with such a product
      pub passed_here : v < k → i ≡ over_row t c o chosen factors k n
      unfolding over_row
      passed_here h =
          sym
          (first-here (λ (j : ℕ). ltb (over_in (row t c j) o chosen factors k) k) n P.none
          (lt-ltb (over_in (row t c i) o chosen factors k) k (omega (arith, found_of))) l)

    -- there is none
    pub passed-all : n ≤ i → n ≡ over_row t c o chosen factors k n
    passed-all h =
        let q : i ≡ n = omega (arith, P.bound) in
        subst (λ (x : ℕ). x ≡ over_row t c o chosen factors k x) q (sym P.none)

-- ---- products that are small enough
-- none is more than a table holds
most_small : (b : Bool) → cond b 3_599 65_535 ≤ 65535
most_small true = omega arith
most_small false = omega arith

-- no product of a row is above the most
pub product_small : (r : List ℕ) (o : ℕ) (chosen factors : List ℕ) (k j : ℕ) → k ≤ over_in r o chosen factors k → j < k
    → times_factor r chosen factors j ≤ most o j
unfolding over_in
product_small r o chosen factors k j h l =
    ltb-false (most o j) (times_factor r chosen factors j) (first_below (λ (i : ℕ). ltb (most o i) (times_factor r chosen factors i)) k j (omega arith))

-- the same of a row of the table
pub row_small : (t : List ℕ) (c o : ℕ) (chosen factors : List ℕ) (k n i j : ℕ) → n ≤ over_row t c o chosen factors k n → i < n → j < k
    → times_factor (row t c i) chosen factors j ≤ most o j
unfolding over_row
row_small t c o chosen factors k n i j h l =
    product_small (row t c i) o chosen factors k j
    (ltb-false (over_in (row t c i) o chosen factors k) k (first_below (λ (x : ℕ). ltb (over_in (row t c x) o chosen factors k) k) n i (omega arith)))

-- a search for the first such row that has come to the end
pub all_passed : {v w n : ℕ} → v ≡ w → n ≤ v → n ≤ w
all_passed e h = omega (arith, e)

-- so a table holds them
pub rows_small : (t : List ℕ) (c o : ℕ) (chosen factors : List ℕ) (k n : ℕ) → n ≤ over_row t c o chosen factors k n → SmallRows t c chosen factors k n
rows_small t c o chosen factors k n h i l j m = omega (arith, row_small t c o chosen factors k n i j h l m, most_small (is_circle_lem o j))

-- ---- the tests
-- a number that lies within two bounds
pub within_both : (low high x : ℕ) → within low high x ≡ true → (low ≤ x) × (x ≤ high)
within_both low high x e = go (leb low x) (leb x high) refl refl e
  where
    go : (a b : Bool) → leb low x ≡ a → leb x high ≡ b → (a && b) ≡ true → (low ≤ x) × (x ≤ high)
    go true true p q e = (leb-true low x p, leb-true x high q)
    go true false p q e = absurd (subst T (sym e) tt)
    go false b p q e = absurd (subst T (sym e) tt)

module _ (long c n : ℕ) (chosen : List ℕ) (k : ℕ) where
  -- the columns are none
  pub unfit-columns : columns_ok_lem c ≡ false → false ≡ fitting long c n chosen k
  unfolding fitting
  unfit-columns e = rw e refl

  module _ (a : columns_ok_lem c ≡ true) where
    -- none, or more than there are, are chosen
    pub unfit-count : within 1 c k ≡ false → false ≡ fitting long c n chosen k
    unfolding fitting
    unfit-count e = rw (a, e) refl

    module _ (b : within 1 c k ≡ true) (some : 1 ≤ c) where
      -- the table has fewer rows
      pub unfit-rows : long / c < n → false ≡ fitting long c n chosen k
      unfolding fitting
      unfit-rows h =
          rw (a, b, lt-leb (c * n) long (omega (arith, mul_comm n c, (div-lt_iff_lt-mul {k = c} {x = long} {y = n} some).0 h))) refl

      -- it has them: the chosen columns decide
      pub fit-by : {v : ℕ} → n ≤ long / c → v ≡ outside c chosen k → leb k v ≡ fitting long c n chosen k
      unfolding fitting
      fit-by h e = rw (a, b, le-leb (c * n) long (omega (arith, mul-le-mul_left c h, mul-div-le long c)), e) refl

-- what a choice that fits says
pub record Fit (long c n : ℕ) (chosen : List ℕ) (k : ℕ) : Type 0 where
  pub choice : Choice c chosen k
  pub some : 1 ≤ c
  pub narrow : k ≤ c
  pub room : c * n ≤ long

pub fit_of : (long c n : ℕ) (chosen : List ℕ) (k : ℕ) → fitting long c n chosen k ≡ true → Fit long c n chosen k
unfolding fitting
fit_of long c n chosen k e =
    go (leb 1 c) (leb c max_columns) (leb 1 k) (leb k c) (leb (c * n) long) (leb k (outside c chosen k)) refl refl refl refl refl refl e
  where
    go : (a b d f g h : Bool) → leb 1 c ≡ a → leb c max_columns ≡ b → leb 1 k ≡ d → leb k c ≡ f → leb (c * n) long ≡ g → leb k (outside c chosen k) ≡ h
        → ((a && b) && ((d && f) && (g && h))) ≡ true → Fit long c n chosen k
    go true true true true true true p q r s u v e =
        record {
          choice = inside_of c chosen k (omega (arith, leb-true k c s, leb-true c max_columns q)) (leb-true k (outside c chosen k) v);
          some = leb-true 1 c p;
          narrow = leb-true k c s;
          room = leb-true (c * n) long u;
        }
    go false b d f g h p q r s u v e = absurd (subst T (sym e) tt)
    go true false d f g h p q r s u v e = absurd (subst T (sym e) tt)
    go true true false f g h p q r s u v e = absurd (subst T (sym e) tt)
    go true true true false g h p q r s u v e = absurd (subst T (sym e) tt)
    go true true true true false h p q r s u v e = absurd (subst T (sym e) tt)
    go true true true true true false p q r s u v e = absurd (subst T (sym e) tt)

-- ---- the call's outcomes
module _ {t : List ℕ} {c n o : ℕ} {chosen factors : List ℕ} {k : ℕ} where
  -- no choice
  pub chose_none : fitting (length t) c n chosen k ≡ false → Chooses t t c n o chosen factors k 1 0 0
  chose_none e =
      record {
        said = rw e refl;
        where# = λ z. absurd (omega (arith, z));
        nowhere = λ z. (refl, refl);
        done = λ z. absurd (omega (arith, z));
        refused = λ z. refl;
      }

  module _ (e : fitting (length t) c n chosen k ≡ true) {v : ℕ} (f : v ≡ over_row t c o chosen factors k n) where
    -- a product too great
    pub chose-over : {r : List ℕ} {u : ℕ} → v < n → r ≡ row t c v → u ≡ over_in r o chosen factors k → Chooses t t c n o chosen factors k 2 v u
    chose-over {r} {u} l q p =
        record {
          said = rw (e, lt-ltb (over_row t c o chosen factors k n) n (omega (arith, f))) refl;
          where# = λ z. (f, p ∙ ap (λ (x : List ℕ). over_in x o chosen factors k) q);
          nowhere = λ z. absurd (z refl);
          done = λ z. absurd (omega (arith, z));
          refused = λ z. refl;
        }

    -- done
    pub chose-done : {t' : List ℕ} → n ≤ v → t' ≡ chosen_table t c chosen factors k n ++ drop (k * n) t → Chooses t t' c n o chosen factors k 0 0 0
    chose-done h q =
        record {
          said = rw (e, le-ltb (over_row t c o chosen factors k n) n (omega (arith, f))) refl;
          where# = λ z. absurd (omega (arith, z));
          nowhere = λ z. (refl, refl);
          done = λ z. q;
          refused = λ z. absurd (z refl);
        }
