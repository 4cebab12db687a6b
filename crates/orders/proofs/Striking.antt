-- 02, R-12 over sets: what orders on rows below n do to a set of n rows. Assumes nothing.
use Prim.Native.Nat.{◌<◌, ℕ}
use Rattle.laws.proofs.Every.{every_map}
use Rattle.laws.proofs.Never.{never}
use Rattle.laws.specs.Every.{Every}
use Rattle.laws.specs.Lists.{has, keep}
use Rattle.orders.proofs.Alike.{alike_mixed, alike_offices, alike_strikes, alike_swap, alike_twice}
use Rattle.orders.specs.Orders.{Agreed, Alike, Mixed, Order, after, names, ordered, restoring, row_of, standing, striking, wants}
use Rattle.rowset.proofs.Refused.{right-above, right-has, right-length, right_of}
use Rattle.rowset.proofs.Rows.{Has, in_restored, in_struck, restored-length, restored_narrow, same_rows, struck-length, struck_narrow}
use Rattle.rowset.specs.Sets.{Narrow, is_in_lem, restored, set_bad_lem, struck}
use borrow.Author.Tests.{eq-eqb, ne_eqb}
use lib.ListN.{length}
use mathlib.Core.Bool.{Bool, cond, false, true}
use mathlib.Core.List.{List, [], ◌∷◌, map}
use mathlib.Core.Path.{◌∙◌, ◌≡◌, ap, refl, sym}
use native.Mathlib.Decide.{dec_lt}
use native.Mathlib.Omega.{arith}

-- ---- one order
-- THE ROW IS AS THE ORDER WANTS IT, AND EVERY OTHER IS AS IT WAS
pub in_ordered : (s : List ℕ) (o : Order) (i : ℕ) → Has s (row_of o) → is_in_lem (ordered s o) i ≡ cond (names i o) (wants o) (is_in_lem s i)
in_ordered s (striking r) i h = in_struck s r i h
in_ordered s (restoring r) i h = in_restored s r i h

-- as many words
ordered-length : (s : List ℕ) (o : Order) → length (ordered s o) ≡ length s
ordered-length s (striking r) = struck-length s r
ordered-length s (restoring r) = restored-length s r

-- of 32 bits
ordered_narrow : (s : List ℕ) (o : Order) → Narrow s → Narrow (ordered s o)
ordered_narrow s (striking r) h = struck_narrow s r h
ordered_narrow s (restoring r) h = restored_narrow s r h

-- ---- a set of n rows: words of 32 bits that 20 does not meet
pub record SetOf (n : ℕ) (s : List ℕ) : Type 0 where
  pub narrow : Narrow s
  pub right : set_bad_lem s n ≡ false

-- all orders name rows below n
abbrev pub Below : ℕ → List Order → Type 0
Below n os = Every (λ o. row_of o < n) os

-- AN ORDER BELOW n LEAVES A SET OF n ROWS
pub ordered-set : {n : ℕ} {s : List ℕ} (o : Order) → SetOf n s → row_of o < n → SetOf n (ordered s o)
ordered-set {n} {s} o S h = record {
  narrow = ordered_narrow s o S.narrow;
  right = right_of (ordered s o) n (ordered-length s o ∙ right-length s n S.right) (λ i l.
      let other : names i o ≡ false = ne_eqb i (row_of o) (λ e. omega arith) in
      in_ordered s o i (right-has s n S.right (row_of o) h) ∙ ap (λ (t : Bool). cond t (wants o) (is_in_lem s i)) other ∙ right-above s n S.right i l);
}

-- TWO SETS OF n ROWS THAT HAVE THE SAME ROWS BELOW n ARE ONE
pub same_set : {n : ℕ} {s t : List ℕ} → SetOf n s → SetOf n t → ((i : ℕ) → i < n → is_in_lem s i ≡ is_in_lem t i) → s ≡ t
same_set {n} {s} {t} S Q h =
    same_rows s t S.narrow Q.narrow (right-length s n S.right ∙ sym (right-length t n Q.right)) (λ i. go i (dec_lt i n))
  where
    go : (i : ℕ) → Dec (i < n) → is_in_lem s i ≡ is_in_lem t i
    go i (yes l) = h i l
    go i (no l) = right-above s n S.right i (omega arith) ∙ sym (right-above t n Q.right i (omega arith))

-- ---- orders, one behind the other
-- they leave a set of n rows
after-set : {n : ℕ} {s : List ℕ} (os : List Order) → SetOf n s → Below n os → SetOf n (after s os)
after-set [] S h = S
after-set {n = n} {s = s} (o ∷ os) S h = after-set {n = n} {s = ordered s o} os (ordered-set o S h.0) h.1

-- of each row the last one that names it decides
pub in_after : {n : ℕ} {s : List ℕ} (os : List Order) → SetOf n s → Below n os → (i : ℕ) → is_in_lem (after s os) i ≡ standing i os (is_in_lem s i)
in_after [] S h i = refl
in_after {n = n} {s = s} (o ∷ os) S h i =
    in_after {n = n} {s = ordered s o} os (ordered-set o S h.0) h.1 i ∙ ap (standing i os) (in_ordered s o i (right-has s n S.right (row_of o) h.0))

module _ {n : ℕ} {s : List ℕ} (S : SetOf n s) where
  -- ORDERS THAT DECIDE THE SAME OF EVERY ROW GIVE THE SAME SET
  pub same_after : (os ps : List Order) → Below n os → Below n ps → Alike os ps → after s os ≡ after s ps
  same_after os ps h k alike =
      same_set (after-set os S h) (after-set ps S k) (λ i l. in_after os S h i ∙ alike i (is_in_lem s i) ∙ sym (in_after ps S k i))

  -- ---- R-12's LAWS
  -- STRIKING TWICE IS STRIKING ONCE
  pub strike-twice : (r : ℕ) → r < n → struck (struck s r) r ≡ struck s r
  strike-twice r h = same_after (striking r ∷ striking r ∷ []) (striking r ∷ []) (h, (h, tt)) (h, tt) (alike_twice (striking r))

  -- STRIKES OF ANY TWO ROWS MAY CHANGE PLACES
  pub strikes-swap : (r q : ℕ) → r < n → q < n → struck (struck s r) q ≡ struck (struck s q) r
  strikes-swap r q h k =
      same_after (striking r ∷ striking q ∷ []) (striking q ∷ striking r ∷ []) (h, (k, tt)) (k, (h, tt)) (alike_swap (striking r) (striking q) (λ e. refl))

  -- STRIKES OF THE SAME ROWS MAY COME IN ANY ORDER, each as often as one likes
  pub strikes-any-order : (rs qs : List ℕ) → Every (λ r. r < n) rs → Every (λ q. q < n) qs → ((i : ℕ) → has i rs ≡ has i qs)
      → after s (map striking rs) ≡ after s (map striking qs)
  strikes-any-order rs qs h k same =
      same_after (map striking rs) (map striking qs) (every_map (λ o. row_of o < n) striking rs h) (every_map (λ o. row_of o < n) striking qs k)
      (alike_strikes rs qs same)

  -- AFTER A STRIKE AND THEN A RESTORE OF ONE ROW IT IS NOT WITHDRAWN, whether or not it was so before, AND NO OTHER ROW HAS CHANGED
  pub strike-restore : (r : ℕ) → r < n
      → (is_in_lem (restored (struck s r) r) r ≡ false) × ((i : ℕ) → (i ≡ r → ⊥) → is_in_lem (restored (struck s r) r) i ≡ is_in_lem s i)
  strike-restore r h = (
    in_after both S (h, (h, tt)) r ∙ ap (λ (t : Bool). cond t false (cond t true (is_in_lem s r))) (eq-eqb r r refl),
    λ i d. in_after both S (h, (h, tt)) i ∙ ap (λ (t : Bool). cond t false (cond t true (is_in_lem s i))) (ne_eqb i r d),
  )
    where
      both : List Order
      both = striking r ∷ restoring r ∷ []

  -- A STRIKE AND A RESTORE OF DIFFERENT ROWS MAY CHANGE PLACES
  pub strike-restore-swap : (r q : ℕ) → (r ≡ q → ⊥) → r < n → q < n → restored (struck s r) q ≡ struck (restored s q) r
  strike-restore-swap r q d h k =
      same_after (striking r ∷ restoring q ∷ []) (restoring q ∷ striking r ∷ []) (h, (k, tt)) (k, (h, tt))
      (alike_swap (striking r) (restoring q) (λ e. absurd (d e)))

  -- MIXED ORDERS GIVE THE SAME SET HOWEVER THEY COME, where each row's own ones keep their sequence
  pub orders-mixed : (os ps : List Order) → Below n os → Below n ps → ((i : ℕ) → keep (names i) os ≡ keep (names i) ps) → after s os ≡ after s ps
  orders-mixed os ps h k same = same_after os ps h k (alike_mixed os ps same)

  -- SO DO THE ORDERS OF TWO OFFICES, however they are mixed, where no order of the one contradicts one of the other
  pub offices-mixed : {xs ys os ps : List Order} → Below n os → Below n ps → Agreed xs ys → Mixed xs ys os → Mixed xs ys ps → after s os ≡ after s ps
  offices-mixed {os = os} {ps} h k agreed m q = same_after os ps h k (alike_offices agreed m q)

  -- A STRIKE AND A RESTORE OF ONE ROW MAY NOT CHANGE PLACES: of no set and no row do they give the same
  pub never-swapped : (r : ℕ) → r < n → restored (struck s r) r ≡ struck (restored s r) r → ⊥
  never-swapped r h e =
      never (sym (strike-restore r h).0 ∙ ap (λ (t : List ℕ). is_in_lem t r) e ∙ in_after (restoring r ∷ striking r ∷ []) S (h, (h, tt)) r
      ∙ ap (λ (t : Bool). cond t true (cond t false (is_in_lem s r))) (eq-eqb r r refl))
