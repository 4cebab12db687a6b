-- The pass for 11: leaf by leaf, the least of the firsts. Assumes nothing.
use Prim.Native.Nat.{◌+◌, ◌<◌, ◌≤◌, min, ℕ}
use Rattle.reach.proofs.Searches.{least_more, run_end, run-stop}
use Rattle.stored_distances.specs.Leaves.{leaf_wrong_lem}
use Rattle.laws.proofs.First.{first-none, first-same, search-on}
use Rattle.laws.specs.First.{First}
use Rattle.laws.specs.Lists.{any, range}
use Rattle.tree.proofs.NoFaults.{in_run_lem}
use Rattle.tree.specs.Check.{in_run, wrong_dist}
use Rattle.words.specs.Shape.{inner}
use Rattle.words.specs.Words.{nodes#, count#, dist#, first#, n#, row#, start#}
use borrow.Author.Tests.{eq-eqb, ne_eqb}
use lib.Dec.{eqb}
use mathlib.Core.Bool.{Bool, and-false, false, not, true}
use mathlib.Core.List.{List}
use mathlib.Core.Path.{◌∙◌, ◌≡◌, ap, refl, subst, sym}
use native.Mathlib.Nat.{zero-add}
use native.Mathlib.Omega.{arith}

module _ (d : ℕ → ℕ → ℕ) (w : List ℕ) where
  -- ---- one node
  -- an inner node has no wrong distance
  pub none-inner : (k : ℕ) → inner w k ≡ true → (p : ℕ) → leaf_wrong_lem d w k p ≡ false
  unfolding leaf_wrong_lem
  none-inner k e p = rw e

  -- a leaf has none outside its run
  leaf-outside : (k p : ℕ) → in_run w p k ≡ false → leaf_wrong_lem d w k p ≡ false
  unfolding leaf_wrong_lem
  leaf-outside k p e = rw e (rw (and-false (not (inner w k))))

  -- in a leaf's run the stored distance is held to that from the leaf's first
  leaf-here : (k p : ℕ) → inner w k ≡ false → in_run w p k ≡ true → leaf_wrong_lem d w k p ≡ not (eqb (dist# w p) (d (first# w k) (row# w p)))
  unfolding leaf_wrong_lem
  leaf-here k p e h = rw (e, h)

  -- the search of leaf k's run, at position p
  module _ (k p : ℕ) (F : First (leaf_wrong_lem d w k) (start# w k) p p) where
    -- f is the leaf's first, s the distance stored at p, and a the one measured
    module _ {f s a : ℕ} (leaf : inner w k ≡ false) (inside : p < start# w k + count# w k) (ef : f ≡ first# w k) (es : s ≡ dist# w p)
        (ea : a ≡ d f (row# w p)) where
      -- the test at p is whether the two differ
      wrong-is : leaf_wrong_lem d w k p ≡ not (eqb s a)
      wrong-is = leaf-here k p leaf (in_run_lem w p k F.from inside) ∙ rw (es, ea, ef)

      -- they are the same: the search goes on
      pub leaf-on : s ≡ a → First (leaf_wrong_lem d w k) (start# w k) (p + 1) (p + 1)
      leaf-on e = search-on (leaf_wrong_lem d w k) (start# w k) p F (wrong-is ∙ ap not (eq-eqb s a e))

      -- they differ: p is the leaf's lowest wrong position
      pub leaf-stop : start# w k + count# w k ≤ n# w → (s ≡ a → ⊥) → First (leaf_wrong_lem d w k) 0 (n# w) p
      leaf-stop high e =
          run-stop w k (leaf_wrong_lem d w k) (leaf-outside k) p F 0 (n# w) (omega arith) high inside (wrong-is ∙ ap not (ne_eqb s a e))

    -- the run is over: the leaf has no wrong position
    pub leaf-end : p ≡ start# w k + count# w k → First (leaf_wrong_lem d w k) 0 (n# w) (n# w)
    leaf-end e = run_end w k (leaf_wrong_lem d w k) (leaf-outside k) p F 0 (n# w) (omega arith) e

  -- ---- all nodes
  -- a leaf among the first k nodes has position p, and its stored distance is wrong
  abbrev pub wrong_to : ℕ → ℕ → Bool
  wrong_to k p = any (λ j. leaf_wrong_lem d w j p) (range 0 k)

  -- with no node passed no position is wrong
  pub distances-start : First (wrong_to 0) 0 (n# w) (n# w)
  distances-start = first-none (wrong_to 0) 0 (n# w) (omega arith) (λ p. refl)

  -- one node more: the lowest wrong position is the lesser of that so far and of the node's
  pub distances_more : (k a b : ℕ) → First (wrong_to k) 0 (n# w) a → First (leaf_wrong_lem d w k) 0 (n# w) b
      → First (wrong_to (k + 1)) 0 (n# w) (min a b)
  distances_more k a b F G =
      least_more (leaf_wrong_lem d w) 0 k 0 (n# w) a b F (subst (λ (i : ℕ). First (leaf_wrong_lem d w i) 0 (n# w) b) (sym (zero-add k)) G)

  -- with all nodes passed it is the lowest of all
  pub distances-done : (k a : ℕ) → k ≡ nodes# w → First (wrong_to k) 0 (n# w) a → First (wrong_dist d w) 0 (n# w) a
  unfolding wrong_dist leaf_wrong_lem
  distances-done k a e F = first-same (wrong_to k) (wrong_dist d w) 0 (n# w) a (λ p. ap (λ i. wrong_to i p) e) F
