-- Each row has exactly one home: the homes' rows are the tree's rows, each as often. Assumes nothing.
use Prim.Native.Nat.{◌+◌, ℕ}
use Rattle.laws.proofs.Lists.{map-append, map_id, paired, tally_append}
use Rattle.laws.proofs.Times.{tally_lefts, times-split}
use Rattle.laws.specs.Lists.{times}
use Rattle.tree.proofs.Full.{Full}
use Rattle.tree.specs.Grove.{Grove, Reach, bare, entries, first, firsts, fork, leaf, rows_in}
use Rattle.tree.specs.Homes.{child_bound_lem, homes, homes_in, nearest_of}
use lib.Dec.{eqb}
use mathlib.Core.List.{[], ◌∷◌, map}
use mathlib.Core.Path.{◌≡◌, refl}
use native.Mathlib.Nat.{not-suc-le-zero}
use native.Mathlib.Omega.{arith}

module _ (x : ℕ → ℕ) where
  -- below the nodes of a grove, every row but their firsts is at home once
  homesIn-rows : (i : ℕ) (β : ℕ → Reach → ℕ) (g : Grove) → Full g
      → times i (map (λ p. p.0) (homes_in x β g)) + times i (firsts g) ≡ times i (rows_in g)
  unfolding homes_in
  homesIn-rows i β bare w = refl
  homesIn-rows i β (leaf R [] g) w = absurd (not-suc-le-zero w.0)
  homesIn-rows i β (leaf R (e ∷ es) g) w =
      simp (map-append, tally_append, paired) (omega (arith, homesIn-rows i β g w.1, tally_lefts (eqb i) es (entries g)))
  homesIn-rows i β (fork R ks g) w =
      simp (map-append, tally_append, paired, map_id)
      (omega (
        arith,
        times-split i (firsts ks) w.0,
        homesIn-rows i (child_bound_lem (β (x (first ks)) R) (nearest_of x ks)) ks w.1,
        homesIn-rows i β g w.2,
        tally_lefts (eqb i) (entries ks) (entries g),
      ))

  -- THE HOMES' ROWS ARE THE TREE'S ROWS
  pub homes-rows : (i : ℕ) (t : Grove) → Full t → times i (map (λ p. p.0) (homes x t)) ≡ times i (rows_in t)
  unfolding homes
  homes-rows i t w = simp (map-append, tally_append, paired, map_id) (omega (arith, homesIn-rows i (λ x R. 0) t w))
