-- The first k of rows in order, and the first of more: what grows with k. Assumes nothing.
use Prim.Native.Nat.{◌<◌, ◌≤◌, min, suc, zero, ℕ}
use Rattle.laws.proofs.Tests.{or_l, or_r}
use Rattle.laws.proofs.Times.{lefts}
use Rattle.laws.specs.Lists.{has, look}
use Rattle.tree.proofs.Answers.{answers_length, near-at}
use Rattle.tree.proofs.Sorted.{Sorted, sort_sorted, sorted_take, under_last}
use Rattle.tree.specs.Grove.{Grove}
use Rattle.tree.specs.Homes.{homes}
use Rattle.tree.specs.Nearest.{answers, candidates, is_measured, last_distance, near_how, passes, remaining, sort}
use borrow.Author.Tests.{le-leb, leb-true, lt-ltb, ltb-true}
use lib.Dec.{T, eqb, leb, ltb}
use lib.ListN.{get_or, length, take}
use lib.Seq.{take-take}
use mathlib.Core.Bool.{Bool, ◌||◌, cond, false, true}
use mathlib.Core.List.{List, [], ◌++◌, ◌∷◌, map}
use mathlib.Core.Path.{◌∙◌, ◌≡◌, ap, refl, subst, sym}
use native.Mathlib.Omega.{arith}

-- ---- of any rows, whichever are candidates
-- of rows in order, the last of the first k is no farther than that of more
last_grows : (s : List (ℕ × ℕ)) (k k' : ℕ) → Sorted s → k ≤ k' → last_distance (take k s) ≤ last_distance (take k' s)
last_grows s zero k' o h = omega arith
last_grows [] (suc k) k' o h = omega arith
last_grows (a ∷ s) (suc k) zero o h = omega arith
last_grows (a ∷ s) (suc zero) (suc k') o h = (under_last (take (suc k') (a ∷ s)) (sorted_take (suc k') (a ∷ s) o)).0
last_grows (a ∷ []) (suc (suc k)) (suc k') o h = (under_last (take (suc k') (a ∷ [])) (sorted_take (suc k') (a ∷ []) o)).0
last_grows (a ∷ b ∷ s) (suc (suc k)) (suc zero) o h = omega arith
last_grows (a ∷ b ∷ s) (suc (suc k)) (suc (suc k')) o h = last_grows (b ∷ s) (suc k) (suc k') o.1 (omega arith)

-- a row among the first k is among the first of more
has_more : (i : ℕ) (s : List (ℕ × ℕ)) (k k' : ℕ) → k ≤ k' → has i (lefts (take k s)) ≡ true → has i (lefts (take k' s)) ≡ true
has_more i s zero k' h e = absurd (subst T (sym e) tt)
has_more i s (suc k) zero h e = absurd (omega arith)
has_more i [] (suc k) (suc k') h e = e
has_more i (a ∷ s) (suc k) (suc k') h e = go (eqb i a.0) (has_more i s k k' (omega arith)) e
  where
    go : (b : Bool) → (has i (lefts (take k s)) ≡ true → has i (lefts (take k' s)) ≡ true) → (b || has i (lefts (take k s))) ≡ true
        → (b || has i (lefts (take k' s))) ≡ true
    go true f e = refl
    go false f e = f e

-- of n rows, a home bound b that passes for k wanted, with the last at D, passes for more, with the last no nearer
pass_still : (n k k' b D D' : ℕ) → k ≤ k' → D ≤ D' → (ltb n k || leb b D) ≡ true → (ltb n k' || leb b D') ≡ true
pass_still n k k' b D D' more far e = go (ltb n k) (leb b D) refl refl e
  where
    go : (p q : Bool) → ltb n k ≡ p → leb b D ≡ q → (p || q) ≡ true → (ltb n k' || leb b D') ≡ true
    go true q ep eq e = or_l (ltb n k') (leb b D') (lt-ltb n k' (omega (arith, ltb-true n k ep)))
    go false true ep eq e = or_r (ltb n k') (leb b D') (le-leb b D' (omega (arith, leb-true b D eq)))
    go false false ep eq e = absurd (subst T (sym e) tt)

-- a how-byte by whether its row is an answer and whether its home bound passes: where both stay, measured stays measured
still-measured : (a b a' b' : Bool) → (a ≡ true → a' ≡ true) → (b ≡ true → b' ≡ true) → T (is_measured (cond a 3 (cond b 1 0)))
    → T (is_measured (cond a' 3 (cond b' 1 0)))
still-measured a b true b' f g m = tt
still-measured true b false b' f g m = absurd (subst T (sym (f refl)) tt)
still-measured false true false true f g m = tt
still-measured false true false false f g m = absurd (subst T (sym (g refl)) tt)
still-measured false false false b' f g m = absurd m

-- the first of what is made of a list, whatever stands behind it
first_made : {A : Type 0} (f : ℕ × ℕ → A) (g : ℕ) (s : List (ℕ × ℕ)) (z : List A) → g ≤ length s → take g (map f s ++ z) ≡ map f (take g s)
first_made f zero s z h = refl
first_made f (suc g) [] z h = absurd (omega arith)
first_made {A} f (suc g) (a ∷ s) z h = ap (λ (l : List A). f a ∷ l) (first_made f g s z (omega arith))

-- as many as were taken, taken again
take_again : {A : Type 0} (k : ℕ) (s : List A) → take (length (take k s)) s ≡ take k s
take_again zero s = refl
take_again (suc k) [] = refl
take_again {A} (suc k) (a ∷ s) = ap (λ (l : List A). a ∷ l) (take_again k s)

-- ---- of the answers of n rows at x, of which some are withdrawn
module _ (x : ℕ → ℕ) (gone : ℕ → Bool) (n : ℕ) where
  -- THE FIRST k OF MORE ANSWERS ARE THE k
  pub answers-first : (k k' : ℕ) → k ≤ k' → take k (answers x gone n k') ≡ answers x gone n k
  unfolding answers
  answers-first k k' h = take-take k k' (sort (candidates x gone n)) h

  -- an answer stays one
  pub answer-stays : (i k k' : ℕ) → k ≤ k' → has i (lefts (answers x gone n k)) ≡ true → has i (lefts (answers x gone n k')) ≡ true
  unfolding answers
  answer-stays i k k' h = has_more i (sort (candidates x gone n)) k k' h

  -- D does not fall
  pub last_more : (k k' : ℕ) → k ≤ k' → last_distance (answers x gone n k) ≤ last_distance (answers x gone n k')
  unfolding answers
  last_more k k' h = last_grows (sort (candidates x gone n)) k k' (sort_sorted (candidates x gone n)) h

  -- A HOME BOUND THAT PASSES FOR k PASSES FOR MORE
  pub passes-more : (k k' b : ℕ) → k ≤ k' → passes x gone n k b ≡ true → passes x gone n k' b ≡ true
  unfolding passes
  passes-more k k' b h = pass_still (length (candidates x gone n)) k k' b (last_distance (answers x gone n k)) (last_distance (answers x gone n k')) h (last_more k k' h)

  -- A ROW MEASURED FOR k IS MEASURED FOR MORE
  pub measured-still : (t : Grove) (k k' i : ℕ) → k ≤ k' → i < n → T (is_measured (get_or (near_how x gone n t k) i 0))
      → T (is_measured (get_or (near_how x gone n t k') i 0))
  measured-still t k k' i more h m =
      let b : ℕ = look i (homes x t) in
      subst (λ (v : ℕ). T (is_measured v)) (sym (near-at x gone n t k' i h))
      (still-measured (has i (lefts (answers x gone n k))) (passes x gone n k b) (has i (lefts (answers x gone n k'))) (passes x gone n k' b) (answer-stays i k k' more)
      (passes-more k k' b more) (subst (λ (v : ℕ). T (is_measured v)) (near-at x gone n t k i h) m))

  -- what is handed out of the answers, in any form f: what stands in front of l, before z
  first_out : {A : Type 0} {l : List A} (f : ℕ × ℕ → A) (k k' g : ℕ) (z : List A) → k ≤ k' → g ≡ min k (remaining gone n)
      → l ≡ map f (answers x gone n k') ++ z → take g l ≡ map f (answers x gone n k)
  first_out f k k' g z more e out =
      let whole : g ≡ length (take k (answers x gone n k')) =
      e ∙ sym (answers_length x gone n k) ∙ ap (λ (s : List (ℕ × ℕ)). length s) (sym (answers-first k k' more)) in
      ap (take g) out ∙ first_made f g (answers x gone n k') z (omega (arith, answers_length x gone n k'))
      ∙ ap (λ (s : List (ℕ × ℕ)). map f s)
      (ap (λ (j : ℕ). take j (answers x gone n k')) whole ∙ take_again k (answers x gone n k') ∙ answers-first k k' more)

  -- IN ANY FORM, THE FIRST OF MORE ARE THE FEWER
  pub same_first : {A : Type 0} {l l' : List A} (f : ℕ × ℕ → A) (k k' g : ℕ) (z z' : List A) → k ≤ k' → g ≡ min k (remaining gone n)
      → l ≡ map f (answers x gone n k) ++ z → l' ≡ map f (answers x gone n k') ++ z' → take g l' ≡ take g l
  same_first f k k' g z z' more e out out' = first_out f k k' g z' more e out' ∙ sym (first_out f k k g z (omega arith) e out)
