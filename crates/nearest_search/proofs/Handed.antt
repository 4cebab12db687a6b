-- The answers handed out, place by place: what holds of them on every index in shape. Assumes nothing.
use Prim.Native.Nat.{◌-◌, ◌<◌, ◌≤◌, min, suc, zero, ℕ}
use Rattle.answers_held.proofs.Handouts.{both_zero, falling-sorted}
use Rattle.answers_held.proofs.RowEntries.{entry-own, pair}
use Rattle.answers_held.specs.Answers.{distance_of, row_of, stray}
use Rattle.answers_held.specs.Giving.{Falling}
use Rattle.laws.specs.Bags.{total}
use Rattle.laws.specs.Every.{Every}
use Rattle.laws.specs.Lists.{has}
use Rattle.nearest_search.specs.Found.{SoundAnswers}
use Rattle.nearest_steps.specs.Asked.{NearestLent}
use Rattle.tree.proofs.Sorted.{Le, Sorted}
use Rattle.tree.specs.Nearest.{is_measured}
use Rattle.words.specs.Words.{at}
use borrow.Author.Tests.{ne_eqb}
use lib.Dec.{T, ltb}
use lib.ListN.{drop, get_or, length, length-map, take}
use lib.Seq.{take_at}
use mathlib.Core.Bool.{Bool, ◌||◌, cond, false, true}
use mathlib.Core.List.{List, [], ◌++◌, ◌∷◌, map}
use mathlib.Core.Logic.{◌↔◌}
use mathlib.Core.Path.{◌∙◌, ◌≡◌, ap, refl, subst, sym}
use native.Mathlib.Decide.{ℕ_discrete}
use native.Mathlib.Omega.{arith}

-- ---- by places
-- what f reads of the entries stands at their places
put_at : (f : ℕ → ℕ) (s l : List ℕ) (j : ℕ) → j < length l → at (map f l ++ s) j ≡ f (get_or l j 0)
put_at f s [] j h = absurd (omega arith)
put_at f s (e ∷ l) zero h = refl
put_at f s (e ∷ l) (suc j) h = put_at f s l j (omega arith)

-- where no entry has f, none at any place has it
none-at : (f : ℕ → ℕ) (l : List ℕ) (j : ℕ) → j < length l → total f l ≡ 0 → f (get_or l j 0) ≡ 0
none-at f [] j h z = absurd (omega arith)
none-at f (e ∷ l) zero h z = (both_zero (f e) (total f l) z).0
none-at f (e ∷ l) (suc j) h z = none-at f l j (omega arith) (both_zero (f e) (total f l) z).1

-- what holds of every answer holds at any place
every_place : (Q : ℕ × ℕ → Type 0) (l : List ℕ) → Every Q (map pair l) → (j : ℕ) → j < length l → Q (pair (get_or l j 0))
every_place Q [] s j h = absurd (omega arith)
every_place Q (e ∷ l) s zero h = s.0
every_place Q (e ∷ l) s (suc j) h = every_place Q l s.1 j (omega arith)

-- in order, the one at an earlier place is no worse
order_at : (l : List ℕ) → Sorted (map pair l) → (i j : ℕ) → i < j → j < length l → Le (pair (get_or l i 0)) (pair (get_or l j 0))
order_at [] s i j h k = absurd (omega arith)
order_at (e ∷ l) s i zero h k = absurd (omega arith)
order_at (e ∷ l) s zero (suc j) h k = every_place (Le (pair e)) l s.0 j (omega arith)
order_at (e ∷ l) s (suc i) (suc j) h k = order_at l s.1 i j (omega arith) (omega arith)

-- the order, of numbers known by equations
order_is : {a b c d a' b' c' d' : ℕ} → a' ≡ a → b' ≡ b → c' ≡ c → d' ≡ d → (a ≤ b) × (a ≡ b → c ≤ d) → (a' ≤ b') × (a' ≡ b' → c' ≤ d')
order_is ea eb ec ed h = (omega (arith, h.0), λ q. omega (arith, h.1 (omega arith)))

-- a how-byte that was 0 or 1, and is 3 where the row is an answer
three : (b : Bool) (v v' : ℕ) → v ≤ 1 → v' ≡ cond b 3 v → ((v' ≡ 3) ↔ T b) × ((v' ≡ 3 → ⊥) → v' ≤ 1)
three true v v' h e = ((λ z. tt, λ t. e), λ n. absurd (n e))
three false v v' h e = ((λ z. absurd (omega arith), λ t. absurd t), λ n. omega arith)

-- it is marked then as it was, where an answer was, and says measured where it is
pub given_byte : (b : Bool) (v v' : ℕ) → v ≤ 1 → (b ≡ true → 1 - v ≡ 0) → v' ≡ cond b 3 v → (ltb 0 v' ≡ ltb 0 v) × (is_measured v' ≡ ltb 0 v')
given_byte b zero v' h m e = subst (λ (v' : ℕ). (ltb 0 v' ≡ false) × (is_measured v' ≡ ltb 0 v')) (sym e) (go b m)
  where
    go : (b : Bool) → (b ≡ true → 1 - zero ≡ 0) → (ltb 0 (cond b 3 0) ≡ false) × (is_measured (cond b 3 0) ≡ ltb 0 (cond b 3 0))
    go true m = absurd (omega (arith, m refl))
    go false m = (refl, refl)
given_byte b (suc zero) v' h m e = subst (λ (v' : ℕ). (ltb 0 v' ≡ true) × (is_measured v' ≡ ltb 0 v')) (sym e) (go b)
  where
    go : (b : Bool) → (ltb 0 (cond b 3 1) ≡ true) × (is_measured (cond b 3 1) ≡ ltb 0 (cond b 3 1))
    go true = (refl, refl)
    go false = (refl, refl)
given_byte b (suc (suc v)) v' h m e = absurd (omega arith)

-- where no row handed out has f, one that is handed out has not
pub given_some : (f : ℕ → ℕ) (l : List ℕ) → total (λ (e : ℕ). f (row_of e)) l ≡ 0 → (i : ℕ) → has i (map row_of l) ≡ true → f i ≡ 0
given_some f [] z i h = absurd (false-true h)
  where
    false-true : false ≡ true → ⊥
    false-true e = omega (arith, ap (λ (b : Bool). cond {A = ℕ} b 1 0) e)
given_some f (e ∷ l) z i h = go (ℕ_discrete i (row_of e)) (λ q. given_some f l (omega arith) i q)
  where
    go : Dec (i ≡ row_of e) → (has i (map row_of l) ≡ true → f i ≡ 0) → f i ≡ 0
    go (yes q) ih = omega (arith, ap f q)
    go (no q) ih = ih (sym (ap (λ (b : Bool). b || has i (map row_of l)) (ne_eqb i (row_of e) q)) ∙ h)

-- a test that counts nothing fails
not-gone : (b : Bool) → cond {A = ℕ} b 1 0 ≡ 0 → b ≡ false
not-gone true e = absurd (omega arith)
not-gone false e = refl

-- ---- the entries l are handed out, each that of a row that remains, none less than those after it
module _ (x : ℕ → ℕ) (gone : ℕ → Bool) (n k : ℕ) (l : List ℕ) (long : length l ≡ k) (own : total (stray x n) l ≡ 0)
    (remain : total (λ (e : ℕ). cond (gone (row_of e)) 1 0) l ≡ 0) (fall : Falling l) where
  -- WHAT IS HANDED OUT IS SOUND: rows with their distances, in order, and their how-bytes 3
  pub sound-of : (left wanted : ℕ) (b b' : NearestLent) → k ≡ min wanted left
      → b'.rows ≡ map row_of l ++ drop k b.rows → b'.distances ≡ map distance_of l ++ drop k b.distances
      → ((i : ℕ) → i < n → at b.how i ≤ 1) → ((i : ℕ) → at b'.how i ≡ cond (has i (map row_of l)) 3 (at b.how i))
      → SoundAnswers x gone n left wanted b' k
  sound-of left wanted b b' count er ed bits marked = record {
    count = count;
    own = λ j h.
        let o = entry-own x n (get_or l j 0) (none-at (stray x n) l j (omega arith) own) in
        (subst (λ (r : ℕ). r < n) (sym (row_at j h)) o.0, distance-at j h ∙ o.1 ∙ ap x (sym (row_at j h)));
    remain = λ j h.
        ap gone (row_at j h) ∙ not-gone (gone (row_of (get_or l j 0))) (none-at (λ (e : ℕ). cond (gone (row_of e)) 1 0) l j (omega arith) remain);
    order = λ i j h p.
        let before : i < k = omega arith in
        order_is (distance-at i before) (distance-at j p) (row_at i before) (row_at j p)
        (order_at l (falling-sorted x n l own fall) i j h (omega arith));
    marks = λ i h.
        subst (λ (u : Bool). ((at b'.how i ≡ 3) ↔ T u) × ((at b'.how i ≡ 3 → ⊥) → at b'.how i ≤ 1)) (sym (ap (has i) given-rows))
        (three (has i (map row_of l)) (at b.how i) (at b'.how i) (bits i h) (marked i));
  }
    where
      row_at : (j : ℕ) → j < k → at b'.rows j ≡ row_of (get_or l j 0)
      row_at j h = ap (λ (s : List ℕ). at s j) er ∙ put_at row_of (drop k b.rows) l j (omega arith)

      distance-at : (j : ℕ) → j < k → at b'.distances j ≡ distance_of (get_or l j 0)
      distance-at j h = ap (λ (s : List ℕ). at s j) ed ∙ put_at distance_of (drop k b.distances) l j (omega arith)

      given-rows : take k b'.rows ≡ map row_of l
      given-rows = ap (take k) er ∙ take_at (map row_of l) (drop k b.rows) k (length-map l row_of ∙ long)
