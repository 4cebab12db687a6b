-- 02, R-12 over outcomes of the calls, whatever their numbers: the laws ask nothing of set, n or rows. Assumes nothing.
use Prim.Native.Nat.{◌<◌, ℕ}
use Rattle.laws.proofs.Never.{never}
use Rattle.laws.specs.Lists.{has, keep}
use Rattle.limits.specs.Said.{fault, said}
use Rattle.orders.proofs.Alike.{alike_mixed, alike_offices, alike_strikes, alike_swap, alike_twice}
use Rattle.orders.proofs.Outcomes.{orders-done, orders-in, orders-keep, orders-refused, orders-set}
use Rattle.orders.proofs.Striking.{SetOf, never-swapped, same_set, strike-restore}
use Rattle.orders.specs.Orders.{Agree, Agreed, Alike, Carried, Mixed, Order, Orders, done, names, next, restoring, row_of, said_order, standing, striking}
use Rattle.rowset.specs.Sets.{Narrow, is_in_lem, restored, set_bad_lem, struck}
use lib.Dec.{leb}
use mathlib.Core.Bool.{Bool, false, true}
use mathlib.Core.List.{List, ◌++◌, ◌∷◌, map}
use mathlib.Core.Path.{◌∙◌, ◌≡◌, ap, refl, sym}

-- ---- calls, one behind the other
-- the set is refused with 20 afterwards exactly where it was before
pub carried_keep : {n : ℕ} {s t : List ℕ} {os : List Order} → Carried n s os t → set_bad_lem t n ≡ set_bad_lem s n
carried_keep done = refl
carried_keep (next O c) = carried_keep c ∙ orders-keep O

-- EACH CALL GIVES THE NUMBER THAT IT WOULD HAVE GIVEN AS THE FIRST
pub carried_said : {n number : ℕ} {s t u : List ℕ} {os : List Order} {o : Order} → Carried n s os t → Orders t u n o number
    → number ≡ (said_order s n (row_of o)).0
unfolding said_order
carried_said {n} {o = o} c O = O.said ∙ ap (λ (b : Bool). (said (fault 20 b ++ fault 26 (leb n (row_of o)))).0) (carried_keep c)

-- a set that is refused is never changed
carried_refused : {n : ℕ} {s t : List ℕ} {os : List Order} → set_bad_lem s n ≡ true → Carried n s os t → t ≡ s
carried_refused e done = refl
carried_refused e (next O c) =
    carried_refused (orders-keep O ∙ e) c ∙ orders-refused O (λ z. never (sym (orders-done O z).0.right ∙ e))

-- a set of n rows stays one
carried_set : {n : ℕ} {s t : List ℕ} {os : List Order} → SetOf n s → Carried n s os t → SetOf n t
carried_set S done = S
carried_set S (next O c) = carried_set (orders-set O S) c

-- OF EACH ROW BELOW n THE LAST CALL THAT NAMES IT DECIDES
pub carried_in : {n : ℕ} {s t : List ℕ} {os : List Order} → SetOf n s → Carried n s os t → (i : ℕ) → i < n → is_in_lem t i ≡ standing i os (is_in_lem s i)
carried_in S done i h = refl
carried_in {os = o ∷ os} S (next O c) i h = carried_in (orders-set O S) c i h ∙ ap (standing i os) (orders-in O S i h)

-- orders that decide the same of every row, on words of 32 bits
narrowed : {n : ℕ} {s a b : List ℕ} {os ps : List Order} → Alike os ps → Narrow s → Carried n s os a → Carried n s ps b → a ≡ b
narrowed {n} {s} {a} {b} alike narrow c d = go (set_bad_lem s n) refl
  where
    go : (t : Bool) → set_bad_lem s n ≡ t → a ≡ b
    go true e = carried_refused e c ∙ sym (carried_refused e d)
    go false e =
        let S : SetOf n s = record { narrow = narrow; right = e } in
        same_set (carried_set S c) (carried_set S d) (λ i h. carried_in S c i h ∙ alike i (is_in_lem s i) ∙ sym (carried_in S d i h))

-- ORDERS THAT DECIDE THE SAME OF EVERY ROW LEAVE THE SAME SET
pub calls_alike : {n : ℕ} {s a b : List ℕ} {os ps : List Order} → Alike os ps → Carried n s os a → Carried n s ps b → a ≡ b
calls_alike alike done done = refl
calls_alike alike done (next O d) = narrowed alike O.narrow done (next O d)
calls_alike alike (next O c) d = narrowed alike O.narrow (next O c) d

-- ---- R-12's LAWS
module _ {n : ℕ} {s : List ℕ} where
  -- STRIKING TWICE IS STRIKING ONCE
  pub calls-strike-twice : {j k r : ℕ} {a b : List ℕ} → Orders s a n (striking r) j → Orders a b n (striking r) k → (k ≡ j) × (b ≡ a)
  calls-strike-twice {r = r} O P =
      (carried_said (next O done) P ∙ sym O.said, calls_alike (alike_twice (striking r)) (next O (next P done)) (next O done))

  -- two orders in either sequence: the same two numbers, and the same set
  swapped : {j j' k k' : ℕ} {a b c d : List ℕ} {o p : Order} → Agree o p
      → Orders s a n o j → Orders a b n p k → Orders s c n p k' → Orders c d n o j' → (j ≡ j') × (k ≡ k') × (b ≡ d)
  swapped {o = o} {p} agree O P Q R = (
    O.said ∙ sym (carried_said (next Q done) R),
    carried_said (next O done) P ∙ sym Q.said,
    calls_alike (alike_swap o p agree) (next O (next P done)) (next Q (next R done)),
  )

  -- STRIKES OF ANY TWO ROWS MAY CHANGE PLACES
  pub calls-strikes-swap : {j j' k k' r q : ℕ} {a b c d : List ℕ}
      → Orders s a n (striking r) j → Orders a b n (striking q) k → Orders s c n (striking q) k' → Orders c d n (striking r) j'
      → (j ≡ j') × (k ≡ k') × (b ≡ d)
  calls-strikes-swap = swapped (λ e. refl)

  -- A STRIKE AND A RESTORE OF DIFFERENT ROWS MAY CHANGE PLACES
  pub calls-strike-restore-swap : {j j' k k' r q : ℕ} {a b c d : List ℕ} → (r ≡ q → ⊥)
      → Orders s a n (striking r) j → Orders a b n (restoring q) k → Orders s c n (restoring q) k' → Orders c d n (striking r) j'
      → (j ≡ j') × (k ≡ k') × (b ≡ d)
  calls-strike-restore-swap d = swapped (λ e. absurd (d e))

  -- STRIKES OF THE SAME ROWS MAY COME IN ANY ORDER, each as often as one likes
  pub calls-any-order : {a b : List ℕ} (rs qs : List ℕ) → ((i : ℕ) → has i rs ≡ has i qs)
      → Carried n s (map striking rs) a → Carried n s (map striking qs) b → a ≡ b
  calls-any-order rs qs same = calls_alike (alike_strikes rs qs same)

  -- MIXED ORDERS GIVE THE SAME SET HOWEVER THEY COME, where each row's own ones keep their sequence
  pub calls-mixed : {a b : List ℕ} {os ps : List Order} → ((i : ℕ) → keep (names i) os ≡ keep (names i) ps) → Carried n s os a → Carried n s ps b → a ≡ b
  calls-mixed {os = os} {ps} same = calls_alike (alike_mixed os ps same)

  -- SO DO THE ORDERS OF TWO OFFICES, however they are mixed, where no order of the one contradicts one of the other
  pub calls-offices : {a b : List ℕ} {xs ys os ps : List Order} → Agreed xs ys → Mixed xs ys os → Mixed xs ys ps
      → Carried n s os a → Carried n s ps b → a ≡ b
  calls-offices agreed m k = calls_alike (alike_offices agreed m k)

  -- ---- where the first call gave 0, so that its row is below n and the set one of n rows
  module _ {k r : ℕ} {a b : List ℕ} (O : Orders s a n (striking r) 0) (P : Orders a b n (restoring r) k) where
    -- the restore gives 0 as well
    both-done : k ≡ 0
    both-done = carried_said (next O done) P ∙ sym O.said

    -- and leaves what the definitions say
    both_left : b ≡ restored (struck s r) r
    both_left = (orders-done P both-done).2 ∙ ap (λ (l : List ℕ). restored l r) (orders-done O refl).2

    -- AFTER A STRIKE AND THEN A RESTORE OF ONE ROW IT IS NOT WITHDRAWN, whether or not it was so before, AND NO OTHER ROW HAS CHANGED
    pub calls-strike-restore : (k ≡ 0) × (is_in_lem b r ≡ false) × ((i : ℕ) → (i ≡ r → ⊥) → is_in_lem b i ≡ is_in_lem s i)
    calls-strike-restore =
        let d = orders-done O refl in
        let law = strike-restore d.0 r d.1 in
        (both-done, ap (λ (l : List ℕ). is_in_lem l r) both_left ∙ law.0, λ i q. ap (λ (l : List ℕ). is_in_lem l i) both_left ∙ law.1 i q)

    -- A STRIKE AND A RESTORE OF ONE ROW MAY NOT CHANGE PLACES: the two sets that they leave differ
    pub calls-never-swapped : {c d : List ℕ} {i j : ℕ} → Orders s c n (restoring r) i → Orders c d n (striking r) j → b ≡ d → ⊥
    calls-never-swapped {i = i} {j} Q R e =
        let first : i ≡ 0 = Q.said ∙ sym O.said in
        let second : j ≡ 0 = carried_said (next Q done) R ∙ sym O.said in
        let start = orders-done O refl in
        never-swapped start.0 r start.1
        (sym both_left ∙ e ∙ (orders-done R second).2 ∙ ap (λ (l : List ℕ). struck l r) (orders-done Q first).2)
