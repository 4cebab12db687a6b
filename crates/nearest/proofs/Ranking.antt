-- A row that remains is among the answers exactly if fewer of those that remain come before it than are wanted. Assumes nothing.
use Prim.Native.Nat.{◌+◌, ◌<◌, ◌≤◌, suc, zero, ℕ}
use Rattle.index_space.proofs.Ranks.{over-rows, total_sort}
use Rattle.index_space.specs.Items.{left_of}
use Rattle.laws.proofs.Bags.{total-map}
use Rattle.laws.proofs.Every.{every-both, every-keep, every_map, every_of, every_take, has_every}
use Rattle.laws.proofs.Keeping.{keep-every}
use Rattle.laws.proofs.Ones.{is-not, is_self}
use Rattle.laws.proofs.Ranges.{at_every}
use Rattle.laws.proofs.Sums.{sum_part}
use Rattle.laws.proofs.Tests.{holds, or_l}
use Rattle.laws.specs.Bags.{is, total}
use Rattle.laws.specs.Every.{Every}
use Rattle.laws.specs.Lists.{has, keep, range, tally}
use Rattle.nearest.specs.Ranked.{ahead}
use Rattle.tree.proofs.Sorted.{Le, Sorted, sort_every, sort_sorted}
use Rattle.tree.specs.Nearest.{answers, candidates, sort}
use borrow.Author.Tests.{eq-eqb, eqb-true, le-ltb, lt-ltb, ltb-false, ne_eqb, not-true}
use lib.Dec.{T, eqb, ltb}
use lib.ListN.{take}
use mathlib.Core.Bool.{Bool, ◌&&◌, ◌||◌, cond, false, not, true}
use mathlib.Core.List.{List, [], ◌∷◌, map}
use mathlib.Core.Logic.{◌↔◌}
use mathlib.Core.Path.{◌∙◌, ◌≡◌, ap, refl, subst, sym}
use native.Mathlib.Decide.{ℕ_discrete}
use native.Mathlib.Omega.{arith}

-- ---- what comes before row i at the distance d
-- 1 where an answer does
abbrev earlier : ℕ → ℕ → ℕ × ℕ → ℕ
earlier i d b = cond (ltb b.1 d || (eqb b.1 d && ltb b.0 i)) 1 0

-- one that is no better does not
not_earlier : (i d : ℕ) (b : ℕ × ℕ) → Le (i, d) b → earlier i d b ≡ 0
not_earlier i d b h =
    none (ltb b.1 d) (eqb b.1 d) (ltb b.0 i) (le-ltb b.1 d h.0) (λ e. le-ltb b.0 i (h.1 (sym (eqb-true b.1 d e))))
  where
    none : (p q r : Bool) → p ≡ false → (q ≡ true → r ≡ false) → cond {A = ℕ} (p || (q && r)) 1 0 ≡ 0
    none true q r e f = absurd (subst T e tt)
    none false true true e f = absurd (subst T (f refl) tt)
    none false true false e f = refl
    none false false r e f = refl

-- another row that is no worse does
is_earlier : (i d : ℕ) (b : ℕ × ℕ) → Le b (i, d) → (b.0 ≡ i → ⊥) → earlier i d b ≡ 1
is_earlier i d b h ne = some (ltb b.1 d) (eqb b.1 d) (ltb b.0 i) tied
  where
    some : (p q r : Bool) → (p ≡ false → (q ≡ true) × (r ≡ true)) → cond {A = ℕ} (p || (q && r)) 1 0 ≡ 1
    some true q r f = refl
    some false q r f = ap (λ (a : Bool). cond {A = ℕ} (a && r) 1 0) (f refl).0 ∙ ap (λ (a : Bool). cond {A = ℕ} a 1 0) (f refl).1

    lower : (a : ℕ) → a ≤ i → (a ≡ i → ⊥) → a < i
    lower a l n = omega arith

    tied : ltb b.1 d ≡ false → (eqb b.1 d ≡ true) × (ltb b.0 i ≡ true)
    tied e =
        let q : b.1 ≡ d = omega (arith, h.0, ltb-false b.1 d e) in
        (eq-eqb b.1 d q, lt-ltb b.0 i (lower b.0 (h.1 q) ne))

-- none of those that are no better does
none_earlier : (i d : ℕ) (s : List (ℕ × ℕ)) → Every (Le (i, d)) s → total (earlier i d) s ≡ 0
none_earlier i d [] h = refl
none_earlier i d (b ∷ s) h = omega (arith, not_earlier i d b h.0, none_earlier i d s h.1)

-- ---- in a list in order
-- what holds where row i stands, wherever that is, holds if it stands there
stands_in : (i : ℕ) (Q : Type 0) (s : List (ℕ × ℕ)) → Every (λ b. b.0 ≡ i → Q) s → 0 < total (λ (b : ℕ × ℕ). is i b.0) s → Q
stands_in i Q [] h p = absurd (omega arith)
stands_in i Q (b ∷ s) h p = go (ℕ_discrete b.0 i) (λ p. stands_in i Q s h.1 p)
  where
    go : Dec (b.0 ≡ i) → (0 < total (λ (b : ℕ × ℕ). is i b.0) s → Q) → Q
    go (yes e) ih = h.0 e
    go (no n) ih = ih (omega (arith, is-not i b.0 (λ e. n (sym e))))

-- ROW i, WHICH STANDS THERE AND AT NO DISTANCE BUT d, IS AMONG THE FIRST k EXACTLY IF FEWER THAN k COME BEFORE IT
ranked : (i d : ℕ) (s : List (ℕ × ℕ)) → Sorted s → Every (λ b. b.0 ≡ i → b.1 ≡ d) s → 0 < total (λ (b : ℕ × ℕ). is i b.0) s → (k : ℕ)
    → T (has i (map (λ a. a.0) (take k s))) ↔ (total (earlier i d) s < k)
ranked i d [] o e p k = absurd (omega arith)
ranked i d (b ∷ s) o e p zero = (λ t. absurd t, λ h. absurd (omega arith))
ranked i d (b ∷ s) o e p (suc k) = go (ℕ_discrete b.0 i) (λ p. ranked i d s o.1 e.1 p k)
  where
    go : Dec (b.0 ≡ i) → (0 < total (λ (b : ℕ × ℕ). is i b.0) s → T (has i (map (λ a. a.0) (take k s))) ↔ (total (earlier i d) s < k))
        → T (eqb i b.0 || has i (map (λ a. a.0) (take k s))) ↔ (earlier i d b + total (earlier i d) s < suc k)
    go (yes q) ih =
        let at : b.1 ≡ d = e.0 q in
        let here = not_earlier i d b (omega arith, λ h. omega arith) in
        let behind =
        none_earlier i d s (every_of (Le b) (Le (i, d)) (λ c l. (omega (arith, l.0), λ h. omega (arith, l.1 (omega arith)))) s o.0) in
        let others : Bool = has i (map (λ a. a.0) (take k s)) in
        (λ t. omega (arith, here, behind), λ h. holds (eqb i b.0 || others) (or_l (eqb i b.0) others (eq-eqb i b.0 (sym q))))
    go (no q) ih =
        let ne : i ≡ b.0 → ⊥ = λ z. q (sym z) in
        let there : 0 < total (λ (b : ℕ × ℕ). is i b.0) s = omega (arith, is-not i b.0 ne) in
        let l : Le b (i, d) =
        stands_in i (Le b (i, d)) s
        (every-both (Le b) (λ c. c.0 ≡ i → c.1 ≡ d) (λ c. c.0 ≡ i → Le b (i, d))
        (λ c l f g. (omega (arith, l.0, f g), λ h. omega (arith, l.1 (omega (arith, f g)), g))) s o.0 e.1) there in
        let one = is_earlier i d b l q in
        let r = ih there in
        let same = ap (λ (a : Bool). a || has i (map (λ a. a.0) (take k s))) (ne_eqb i b.0 ne) in
        (λ t. omega (arith, one, r.0 (subst T same t)), λ h. subst T (sym same) (r.1 (omega (arith, one))))

-- ---- among the rows that remain of n rows at x
-- how many are kept and pass, as a total over those kept
tally_kept : (p t : ℕ → Bool) (is : List ℕ) → total (λ (j : ℕ). cond {A = ℕ} (t j) 1 0) (keep p is) ≡ tally (λ j. p j && t j) is
tally_kept p t [] = refl
tally_kept p t (i ∷ is) = go (p i) (t i) refl (tally_kept p t is)
  where
    go : (a b : Bool) → t i ≡ b → total (λ (j : ℕ). cond {A = ℕ} (t j) 1 0) (keep p is) ≡ tally (λ j. p j && t j) is
        → total (λ (j : ℕ). cond {A = ℕ} (t j) 1 0) (cond a (i ∷ keep p is) (keep p is)) ≡ cond {A = ℕ} (a && b) 1 0 + tally (λ j. p j && t j) is
    go true b e ih = omega (arith, ih, ap (λ (b : Bool). cond {A = ℕ} b 1 0) e)
    go false b e ih = omega (arith, ih)

-- NO ANSWER IS WITHDRAWN
pub answers_remain : (x : ℕ → ℕ) (gone : ℕ → Bool) (n wanted i : ℕ) → has i (map (λ a. a.0) (answers x gone n wanted)) ≡ true → gone i ≡ false
unfolding answers
answers_remain x gone n wanted i e =
    let all : List (ℕ × ℕ) = sort (candidates x gone n) in
    has_every (λ i. gone i ≡ false) i (map (λ a. a.0) (take wanted all))
    (every_map (λ i. gone i ≡ false) (λ a. a.0) (take wanted all)
    (every_take (λ a. gone a.0 ≡ false) wanted all
    (sort_every (λ a. gone a.0 ≡ false) (candidates x gone n)
    (every_map (λ a. gone a.0 ≡ false) (λ i. (i, x i)) (keep (λ i. not (gone i)) (range 0 n))
    (keep-every (λ i. not (gone i)) (λ i. gone i ≡ false) (range 0 n)
    (at_every (λ i. not (gone i) ≡ true → gone i ≡ false) n (λ i l. not-true (gone i))))))))
    e

module _ (x : ℕ → ℕ) (gone : ℕ → Bool) (n i : ℕ) (low : i < n) (stays : gone i ≡ false) where
  -- all that remain in order
  abbrev all : List (ℕ × ℕ)
  all = sort (candidates x gone n)

  -- as many of them come before row i as of the rows
  count-ahead : total (earlier i (x i)) all ≡ ahead x gone n i
  count-ahead =
      total_sort (earlier i (x i)) (candidates x gone n)
      ∙ total-map (earlier i (x i)) (λ j. (j, x j)) (keep (λ j. not (gone j)) (range 0 n))
      ∙ tally_kept (λ j. not (gone j)) (λ j. ltb (x j) (x i) || (eqb (x j) (x i) && ltb j i)) (range 0 n)

  -- A ROW THAT REMAINS IS AMONG THE ANSWERS EXACTLY IF FEWER COME BEFORE IT THAN ARE WANTED
  pub answers-ranked : (wanted : ℕ) → T (has i (map (λ a. a.0) (answers x gone n wanted))) ↔ (ahead x gone n i < wanted)
  unfolding answers
  answers-ranked wanted =
      let g : ℕ × ℕ → ℕ = λ (b : ℕ × ℕ). is i b.0 in
      let there : 0 < total g all =
      omega (
        arith,
        total_sort g (candidates x gone n),
        over-rows x gone n g,
        sum_part (left_of gone (is i)) n i low,
        ap (λ (b : Bool). cond b 0 (is i i)) stays,
        is_self i,
      ) in
      let at : Every (λ b. b.0 ≡ i → b.1 ≡ x i) all =
      sort_every (λ b. b.0 ≡ i → b.1 ≡ x i) (candidates x gone n)
      (every_map (λ b. b.0 ≡ i → b.1 ≡ x i) (λ j. (j, x j)) (keep (λ j. not (gone j)) (range 0 n))
      (every-keep (λ j. j ≡ i → x j ≡ x i) (λ j. not (gone j)) (range 0 n) (at_every (λ j. j ≡ i → x j ≡ x i) n (λ j l e. ap x e)))) in
      let r = ranked i (x i) all (sort_sorted (candidates x gone n)) at there wanted in
      (λ t. omega (arith, r.0 t, count-ahead), λ h. r.1 (omega (arith, count-ahead)))
