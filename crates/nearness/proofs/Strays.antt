-- The pass for 13: in each node, child by child, the least of the firsts. Assumes nothing.
use Prim.Native.Nat.{◌+◌, ◌-◌, ◌<◌, ◌≤◌, min, ℕ}
use Rattle.child_strays.specs.Strays.{FirstIn, kid_strays}
use Rattle.reach.proofs.Searches.{least_more}
use Rattle.nearness.specs.Strays.{all_strays, node_strays}
use Rattle.laws.proofs.First.{first-at-end, first-empty, first-kept, first-none, first-same, range_on, range-over}
use Rattle.laws.specs.Lists.{any, each, keep, range}
use Rattle.limits.specs.Said.{Said, said}
use Rattle.tree.specs.Check.{strays}
use Rattle.words.specs.Shape.{inner}
use Rattle.words.specs.Words.{nodes#, child#, count#, m#, run#, start#}
use mathlib.Core.Bool.{Bool, false, true}
use mathlib.Core.List.{List, [], ◌++◌, ◌∷◌, map}
use mathlib.Core.Path.{◌∙◌, ◌≡◌, ap, refl}
use native.Mathlib.Omega.{arith}

module _ (d : ℕ → ℕ → ℕ) (w : List ℕ) where
  -- ---- all children of node k
  -- position p strays from one of the first a children
  abbrev pub strays_to : ℕ → ℕ → ℕ → Bool
  strays_to k a p = any (λ j. kid_strays d w k j p) (range (child# w k) a)

  -- with no child passed no position strays
  pub near-start : (k : ℕ) → FirstIn w k (strays_to k 0) (start# w k + count# w k)
  near-start k = first-none (strays_to k 0) (start# w k) (start# w k + count# w k) (omega arith) (λ p. refl)

  -- one child more: the lowest position that strays is the lesser of that so far and of the child's
  pub near-more : (k a x y : ℕ) → FirstIn w k (strays_to k a) x → FirstIn w k (kid_strays d w k (child# w k + a)) y
      → FirstIn w k (strays_to k (a + 1)) (min x y)
  near-more k a x y F G = least_more (kid_strays d w k) (child# w k) a (start# w k) (start# w k + count# w k) x y F G

  -- an inner node's test is that of all its children
  strays-inner : (k p : ℕ) → inner w k ≡ true → strays_to k (m# w) p ≡ strays d w k p
  unfolding strays kid_strays
  strays-inner k p e = rw e

  -- a leaf's fails
  strays-leaf : (k p : ℕ) → inner w k ≡ false → strays d w k p ≡ false
  unfolding strays
  strays-leaf k p e = rw e

  -- with all children of an inner node passed, the lowest position is the node's
  pub near-done : (k a x : ℕ) → inner w k ≡ true → a ≡ m# w → FirstIn w k (strays_to k a) x → FirstIn w k (strays d w k) x
  near-done k a x e q F =
      first-same (strays_to k a) (strays d w k) (start# w k) (start# w k + count# w k) x (λ p. ap (λ i. strays_to k i p) q ∙ strays-inner k p e) F

  -- no position strays in a leaf
  pub near-leaf : (k : ℕ) → inner w k ≡ false → FirstIn w k (strays d w k) (start# w k + count# w k)
  near-leaf k e = first-none (strays d w k) (start# w k) (start# w k + count# w k) (omega arith) (λ p. strays-leaf k p e)

  -- ---- all nodes
  -- the first fault of the nodes from k on
  abbrev pub said_from : ℕ → Said
  said_from k = said (each (node_strays d w) (range k (nodes# w - k)))

  -- from node 0 on it is the first of all
  pub nodes-start : said (all_strays d w) ≡ said_from 0
  unfolding all_strays
  nodes-start =
      let e : nodes# w ≡ nodes# w - 0 = omega arith in
      ap (λ n. said (each (node_strays d w) (range 0 n))) e

  -- node k, and the nodes after it
  module _ (k : ℕ) (h : k < nodes# w) where
    -- where node k's positions that stray are ps, its faults come first and those of the nodes after it follow
    one_on : (ps : List ℕ) → keep (strays d w k) (run# w k) ≡ ps
        → said_from k ≡ said (map (λ p. (13, k, p)) ps ++ each (node_strays d w) (range (k + 1) (nodes# w - (k + 1))))
    unfolding node_strays
    one_on ps e =
        ap (λ l. said (each (node_strays d w) l)) (range_on k (nodes# w) h)
        ∙ ap (λ l. said (map (λ p. (13, k, p)) l ++ each (node_strays d w) (range (k + 1) (nodes# w - (k + 1))))) e

    -- none strays: the first fault is that of the nodes after it
    pub nodes-on : (r : ℕ) → start# w k + count# w k ≤ r → FirstIn w k (strays d w k) r → said_from k ≡ said_from (k + 1)
    nodes-on r q F =
        one_on []
        (first-empty (strays d w k) (start# w k) (count# w k) (first-at-end (strays d w k) (start# w k) (start# w k + count# w k) r q F))

    -- r strays first: it is named with its node
    pub nodes-stop : (r : ℕ) → r < start# w k + count# w k → FirstIn w k (strays d w k) r → said_from k ≡ (13, k, r)
    nodes-stop r q F = one_on (r ∷ _) (first-kept (strays d w k) (count# w k) (start# w k) (start# w k + count# w k) r refl q F)

  -- with no node left there is none
  pub nodes-over : (k : ℕ) → nodes# w ≤ k → said_from k ≡ (0, 0, 0)
  nodes-over k h = ap (λ l. said (each (node_strays d w) l)) (range-over k (nodes# w) h)
