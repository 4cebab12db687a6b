-- Each row is marked exactly once, and the how-byte of a row is its mark. Assumes nothing.
use Prim.Native.Nat.{◌+◌, ◌<◌, ℕ}
use Rattle.laws.proofs.Lists.{map-append, map_id, paired, tally_append}
use Rattle.laws.proofs.Ranges.{get_d_range}
use Rattle.laws.proofs.Times.{lefts, tally_lefts, times-split}
use Rattle.laws.specs.Lists.{look, rest, times}
use Rattle.tree.proofs.Full.{Full, first-row}
use Rattle.tree.proofs.Veiled.{look-veiled}
use Rattle.tree.specs.Grove.{Grove, Reach, bare, entries, first, firsts, fork, leaf, rows_in}
use Rattle.tree.specs.Homes.{child_bound_lem, nearest_of}
use Rattle.tree.specs.Radius.{by_distance, in_leaf_lem, marks, marks_in, radius_how, shown, veiled, visit}
use lib.Dec.{eqb, leb, ltb}
use lib.ListN.{get_or}
use mathlib.Core.Bool.{Bool, cond, false, true}
use mathlib.Core.List.{List, [], ◌++◌, ◌∷◌, map}
use mathlib.Core.Path.{◌∙◌, ◌≡◌, ap, refl}
use native.Mathlib.Nat.{not-suc-le-zero}
use native.Mathlib.Omega.{arith}

module _ (x : ℕ → ℕ) (r : ℕ) where
  -- swept, closed or opened, a node's other rows are each marked once
  visit-rows : (i xf : ℕ) (R : Reach) (b : ℕ) (others : List ℕ) (opened : List (ℕ × ℕ)) → times i (map (λ p. p.0) opened) ≡ times i others
      → times i (map (λ p. p.0) (visit x r xf R b others opened)) ≡ times i others
  visit-rows i xf R b others opened h = go (leb (xf + R.outer) r) (ltb r b)
    where
      go : (s t : Bool) → times i (map (λ p. p.0) (cond s (map (λ i. (i, 2)) others) (cond t (map (λ i. (i, 0)) others) opened))) ≡ times i others
      go true t = simp (paired, map_id)
      go false true = simp (paired, map_id)
      go false false = h

  -- below the nodes of a grove, every row but their firsts is marked once
  marksIn-rows : (i : ℕ) (β : ℕ → Reach → ℕ) (g : Grove) → Full g
      → times i (map (λ p. p.0) (marks_in x r β g)) + times i (firsts g) ≡ times i (rows_in g)
  unfolding marks_in
  marksIn-rows i β bare w = refl
  marksIn-rows i β (leaf R [] g) w = absurd (not-suc-le-zero w.0)
  marksIn-rows i β (leaf R (e ∷ es) g) w =
      let f : ℕ = e.0 in
      let opened : List (ℕ × ℕ) = map (λ e. (e.0, in_leaf_lem x r f e)) es in
      omega (
        arith,
        tally_lefts (eqb i) (visit x r (x f) R (β (x f) R) (lefts es) opened) (marks_in x r β g),
        visit-rows i (x f) R (β (x f) R) (lefts es) opened (ap (times i) (paired (λ e. e.0) (in_leaf_lem x r f) es)),
        marksIn-rows i β g w.1,
        tally_lefts (eqb i) es (entries g),
      )
  marksIn-rows i β (fork R ks g) w =
      let f : ℕ = first ks in
      let b : ℕ = β (x f) R in
      let centres : List (ℕ × ℕ) = map (λ i. (i, by_distance x r i)) (rest (firsts ks)) in
      let below : List (ℕ × ℕ) = marks_in x r (child_bound_lem b (nearest_of x ks)) ks in
      let s = first-row ks w.1 w.0 in
      let opens : times i (map (λ p. p.0) (centres ++ below)) ≡ times i (rest (rows_in ks)) =
      omega (
        arith,
        tally_lefts (eqb i) centres below,
        ap (times i) (paired (λ i. i) (by_distance x r) (rest (firsts ks)) ∙ map_id (rest (firsts ks))),
        marksIn-rows i (child_bound_lem b (nearest_of x ks)) ks w.1,
        times-split i (firsts ks) w.0,
        times-split i (rows_in ks) s.0,
        ap (λ k. times i (k ∷ [])) s.1,
      ) in
      omega (
        arith,
        tally_lefts (eqb i) (visit x r (x f) R b (rest (rows_in ks)) (centres ++ below)) (marks_in x r β g),
        visit-rows i (x f) R b (rest (rows_in ks)) (centres ++ below) opens,
        marksIn-rows i β g w.2,
        tally_lefts (eqb i) (entries ks) (entries g),
        times-split i (rows_in ks) s.0,
        ap (λ k. times i (k ∷ [])) s.1,
      )

  -- THE MARKED ROWS ARE THE TREE'S ROWS
  pub marks-rows : (i : ℕ) (t : Grove) → Full t → times i (map (λ p. p.0) (marks x r t)) ≡ times i (rows_in t)
  unfolding marks
  marks-rows i t w = simp (map-append, tally_append, paired, map_id) (omega (arith, marksIn-rows i (λ x R. 0) t w))

-- the how-byte of row i is its mark, as far as it is shown
pub how_at : (x : ℕ → ℕ) (r : ℕ) (gone : ℕ → Bool) (n : ℕ) (t : Grove) (i : ℕ) → i < n
    → get_or (radius_how x r gone n t) i 0 ≡ (shown gone (i, look i (marks x r t))).1
unfolding radius_how
how_at x r gone n t i h =
    get_d_range (λ i. look i (veiled gone (marks x r t))) 0 n i h ∙ ap (λ k. look k (veiled gone (marks x r t))) (omega arith)
    ∙ look-veiled gone i (marks x r t)
