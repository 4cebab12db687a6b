-- What a call to strike or to restore leaves, by its number, and that no second outcome fits. Assumes nothing.
use Prim.Native.Nat.{◌<◌, ◌≤◌, ℕ}
use Rattle.laws.proofs.Never.{never}
use Rattle.limits.proofs.Faults.{fault-first, fault-next, fault-none, fault-not, number_of}
use Rattle.limits.specs.Said.{fault, said}
use Rattle.orders.proofs.Striking.{SetOf, in_ordered, ordered-set}
use Rattle.orders.specs.Orders.{Order, Orders, names, ordered, row_of, said_order, wants}
use Rattle.rowset.proofs.Refused.{right-has}
use Rattle.rowset.proofs.Rows.{Has}
use Rattle.rowset.specs.Sets.{Narrow, is_in_lem, set_bad_lem}
use borrow.Author.Tests.{eq-eqb, eqb-false, eqb-true, le-leb, leb-false, lt-leb, ne_eqb}
use lib.Dec.{eqb, leb}
use mathlib.Core.Bool.{Bool, cond, false, true}
use mathlib.Core.List.{List}
use mathlib.Core.Path.{◌∙◌, ◌≡◌, ap, refl, subst, sym}
use native.Mathlib.Omega.{arith}

-- ---- the number, one law for each return of the code
module _ (s : List ℕ) (n r : ℕ) where
  -- the set is refused
  pub twenty : set_bad_lem s n ≡ true → 20 ≡ (said_order s n r).0
  unfolding said_order
  twenty e = ap number_of (fault-first 20 (fault 26 (leb n r)) e)

  -- it is not, so that the row decides
  by_row : set_bad_lem s n ≡ false → (said (fault 26 (leb n r))).0 ≡ (said_order s n r).0
  unfolding said_order
  by_row e = ap number_of (fault-next 20 (fault 26 (leb n r)) e)

  -- the row is refused
  pub twenty-six : set_bad_lem s n ≡ false → n ≤ r → 26 ≡ (said_order s n r).0
  twenty-six e h = rw (le-leb n r h) at (by_row e)

  -- nothing is
  pub none_said : set_bad_lem s n ≡ false → r < n → 0 ≡ (said_order s n r).0
  none_said e h = rw (lt-leb n r h) at (by_row e)

  -- the same with the places, of which none is named
  pub set_says : set_bad_lem s n ≡ true → (20, 0, 0) ≡ said_order s n r
  unfolding said_order
  set_says e = fault-first 20 (fault 26 (leb n r)) e

  pub row_says : set_bad_lem s n ≡ false → {b : Bool} → leb n r ≡ b → said (fault 26 b) ≡ said_order s n r
  unfolding said_order
  row_says e h = ap (λ b. said (fault 26 b)) (sym h) ∙ fault-next 20 (fault 26 (leb n r)) e

  -- with 0 nothing is wrong
  pub clear : (said_order s n r).0 ≡ 0 → (set_bad_lem s n ≡ false) × (r < n)
  unfolding said_order
  clear z =
      let parts = fault-none 20 (set_bad_lem s n) (fault 26 (leb n r)) (omega arith) z in
      (parts.0, leb-false n r (fault-not 26 (leb n r) (omega arith) parts.1))

  -- and row r's bit stands in the set
  pub clear-has : (said_order s n r).0 ≡ 0 → Has s r
  clear-has z = let c = clear z in right-has s n c.0 r c.1

-- ---- the contract is met
-- by a refusal
pub refused_order : {s : List ℕ} {n number : ℕ} (o : Order) → Narrow s → number ≡ (said_order s n (row_of o)).0 → (number ≡ 0 → ⊥) → Orders s s n o number
refused_order {s} {number = number} o narrow q h =
    record { said = q; set = sym (ap (λ (t : Bool). cond t (ordered s o) s) (ne_eqb number 0 h)); narrow = narrow }

-- by an order that was carried out, past a test that gave 0
pub done_order : {s s' : List ℕ} {n number k : ℕ} (o : Order) → Narrow s → number ≡ (said_order s n (row_of o)).0 → number ≡ 0 → k ≡ 0 → s' ≡ ordered s o
    → Orders s s' n o k
done_order {s} {k = k} o narrow q z e h =
    record { said = e ∙ sym z ∙ q; set = h ∙ sym (ap (λ (t : Bool). cond t (ordered s o) s) (eq-eqb k 0 e)); narrow = narrow }

-- ---- what an outcome says
module _ {s s' : List ℕ} {n number : ℕ} {o : Order} (O : Orders s s' n o number) where
  -- ON 0 THE SET WAS ONE OF n ROWS, THE ROW IS BELOW n, AND THE ORDER IS CARRIED OUT
  pub orders-done : number ≡ 0 → SetOf n s × (row_of o < n) × (s' ≡ ordered s o)
  orders-done z =
      let c = clear s n (row_of o) (sym O.said ∙ z) in (
        record { narrow = O.narrow; right = c.0 },
        c.1,
        O.set ∙ ap (λ (t : Bool). cond t (ordered s o) s) (eq-eqb number 0 z),
      )

  -- ON A REFUSAL IT IS AS IT WAS
  pub orders-refused : (number ≡ 0 → ⊥) → s' ≡ s
  orders-refused h = O.set ∙ ap (λ (t : Bool). cond t (ordered s o) s) (ne_eqb number 0 h)

  -- a set of n rows stays one
  pub orders-set : SetOf n s → SetOf n s'
  orders-set S = go (eqb number 0) refl
    where
      go : (t : Bool) → eqb number 0 ≡ t → SetOf n s'
      go true e = let d = orders-done (eqb-true number 0 e) in subst (SetOf n) (sym d.2) (ordered-set o S d.1)
      go false e = subst (SetOf n) (sym (orders-refused (eqb-false number 0 e))) S

  -- A CALL LEAVES A SET THAT IS REFUSED WHERE THE ONE LENT WAS, AND NOT WHERE IT WAS NOT
  pub orders-keep : set_bad_lem s' n ≡ set_bad_lem s n
  orders-keep = go (set_bad_lem s n) refl
    where
      go : (t : Bool) → set_bad_lem s n ≡ t → set_bad_lem s' n ≡ t
      go true e = ap (λ (l : List ℕ). set_bad_lem l n) (orders-refused (λ z. never (sym (orders-done z).0.right ∙ e))) ∙ e
      go false e = (orders-set (record { narrow = O.narrow; right = e })).right

  -- of a row below n: as the order wants it, where it is the one named, and else as it was
  pub orders-in : SetOf n s → (i : ℕ) → i < n → is_in_lem s' i ≡ cond (names i o) (wants o) (is_in_lem s i)
  orders-in S i h = go (eqb number 0) refl
    where
      go : (t : Bool) → eqb number 0 ≡ t → is_in_lem s' i ≡ cond (names i o) (wants o) (is_in_lem s i)
      go true e =
          let d = orders-done (eqb-true number 0 e) in
          ap (λ (l : List ℕ). is_in_lem l i) d.2 ∙ in_ordered s o i (right-has s n S.right (row_of o) d.1)
      go false e =
          let other : names i o ≡ false = ne_eqb i (row_of o) (λ q. eqb-false number 0 e (O.said ∙ sym (none_said s n (row_of o) S.right (omega arith)))) in
          ap (λ (l : List ℕ). is_in_lem l i) (orders-refused (eqb-false number 0 e)) ∙ sym (ap (λ (t : Bool). cond t (wants o) (is_in_lem s i)) other)

-- NO SECOND OUTCOME FITS
pub orders_only : (s a b : List ℕ) (n j k : ℕ) (o : Order) → Orders s a n o j → Orders s b n o k → (j ≡ k) × (a ≡ b)
orders_only s a b n j k o O Q =
    let e : j ≡ k = O.said ∙ sym Q.said in
    (e, O.set ∙ ap (λ (i : ℕ). cond (eqb i 0) (ordered s o) s) e ∙ sym Q.set)
