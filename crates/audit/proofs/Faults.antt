-- The passes one after the other: the first that finds a fault gives the number and the place. Assumes nothing.
use Prim.Native.Nat.{◌*◌, ◌+◌, ◌<◌, ◌≤◌, ℕ}
use Rattle.audit.specs.Passes.{measured_faults}
use Rattle.laws.proofs.Every.{every_append, every-keep, every_map}
use Rattle.laws.proofs.First.{first-at-end, first-empty, first-kept}
use Rattle.laws.proofs.Ranges.{at_every, range-every}
use Rattle.laws.specs.Every.{Every}
use Rattle.laws.specs.First.{First}
use Rattle.laws.specs.Lists.{each, keep, range}
use Rattle.limits.specs.Limits.{max_rows, within}
use Rattle.limits.specs.Said.{Said, said}
use Rattle.nearness.specs.Strays.{all_strays, node_strays}
use Rattle.tree.specs.Check.{again, faults, strays, wrong_dist, wrong_reach_lem}
use Rattle.words.specs.InShape.{InShape}
use Rattle.words.specs.Words.{nodes#, count#, n#, start#}
use mathlib.Core.Bool.{Bool, true}
use mathlib.Core.List.{List, [], ◌++◌, ◌∷◌, append_assoc, map}
use mathlib.Core.Path.{◌∙◌, ◌≡◌, ap, refl, subst, sym}
use native.Mathlib.Nat.{zero-add}
use native.Mathlib.Omega.{arith}

-- ---- one pass over 0 .. n, whose first find is r, and the faults of the passes after it
module _ (f : ℕ → Bool) (g : ℕ → Said) (n r : ℕ) (more : List Said) (F : First f 0 n r) where
  -- it found one: that is said
  pass-found : r < n → said (map g (keep f (range 0 n)) ++ more) ≡ g r
  pass-found h = ap (λ l. said (map g l ++ more)) (first-kept f n 0 n r (zero-add n) h F)

  -- it found none: what the others found is said
  pass-none : n ≤ r → said (map g (keep f (range 0 n)) ++ more) ≡ said more
  pass-none h =
      ap (λ l. said (map g l ++ more))
      (first-empty f 0 n (subst (λ k. First f 0 k k) (sym (zero-add n)) (first-at-end f 0 n r h F)))

-- ---- the faults, pass by pass
-- 10, of all positions
abbrev again_faults : List ℕ → List Said
again_faults w = map (λ p. (10, p, 0)) (keep (again w) (range 0 (n# w)))

module _ (d : ℕ → ℕ → ℕ) (w : List ℕ) where
  -- 11, of all positions
  abbrev distance_faults : List Said
  distance_faults = map (λ p. (11, p, 0)) (keep (wrong_dist d w) (range 0 (n# w)))

  -- 12, of all nodes
  abbrev radius_faults : List Said
  radius_faults = map (λ k. (12, k, 0)) (keep (wrong_reach_lem d w) (range 0 (nodes# w)))

  -- 10 comes first, then what distances show
  faults-are : faults d w ≡ again_faults w ++ measured_faults d w
  unfolding faults measured_faults all_strays node_strays
  faults-are =
      append_assoc (again_faults w ++ distance_faults) radius_faults (all_strays d w)
      ∙ append_assoc (again_faults w) distance_faults (radius_faults ++ all_strays d w)

  -- p is the lowest position with a row number again, or n
  module _ (p : ℕ) (F : First (again w) 0 (n# w) p) where
    -- there is one: 10 is said, at p
    pub again-found : p < n# w → (10, p, 0) ≡ said (faults d w)
    again-found h = sym (ap said faults-are ∙ pass-found (again w) (λ p. (10, p, 0)) (n# w) p (measured_faults d w) F h)

    -- there is none: what distances show is said
    pub again-none : n# w ≤ p → said (measured_faults d w) ≡ said (faults d w)
    again-none h = sym (ap said faults-are ∙ pass-none (again w) (λ p. (10, p, 0)) (n# w) p (measured_faults d w) F h)

  -- p is the lowest position with a wrong distance, or n
  module _ (p : ℕ) (F : First (wrong_dist d w) 0 (n# w) p) where
    -- there is one: 11 is said, at p
    pub distance-found : p < n# w → (11, p, 0) ≡ said (measured_faults d w)
    unfolding measured_faults
    distance-found h = sym (pass-found (wrong_dist d w) (λ p. (11, p, 0)) (n# w) p (radius_faults ++ all_strays d w) F h)

    -- there is none, and k is the lowest node with a wrong radius, or N
    module _ (k : ℕ) (G : First (wrong_reach_lem d w) 0 (nodes# w) k) (past : n# w ≤ p) where
      -- what the passes after the first say
      distance_none : said (measured_faults d w) ≡ said (radius_faults ++ all_strays d w)
      unfolding measured_faults
      distance_none = pass-none (wrong_dist d w) (λ p. (11, p, 0)) (n# w) p (radius_faults ++ all_strays d w) F past

      -- there is such a node: 12 is said, at k
      pub radius-found : k < nodes# w → (12, k, 0) ≡ said (measured_faults d w)
      radius-found h = sym (distance_none ∙ pass-found (wrong_reach_lem d w) (λ k. (12, k, 0)) (nodes# w) k (all_strays d w) G h)

      -- there is none: what 13 finds is said
      pub radius-none : nodes# w ≤ k → said (all_strays d w) ≡ said (measured_faults d w)
      radius-none h = sym (distance_none ∙ pass-none (wrong_reach_lem d w) (λ k. (12, k, 0)) (nodes# w) k (all_strays d w) G h)

-- ---- a fact P of every fault
module _ {A B : Type 0} where
  -- a fact of every element of each list is one of all the lists, one after the other
  every-each : (P : B → Type 0) (f : A → List B) (xs : List A) → Every (λ a. Every P (f a)) xs → Every P (each f xs)
  every-each P f [] h = tt
  every-each P f (x ∷ xs) h = every_append P (f x) (each f xs) h.0 (every-each P f xs h.1)

module _ (P : Said → Type 0) where
  -- what holds of each fault that a pass over n places from a on could find holds of each that it finds
  one-pass : (g : ℕ → Said) (f : ℕ → Bool) (a n : ℕ) → ((i : ℕ) → i < n → P (g (a + i))) → Every P (map g (keep f (range a n)))
  one-pass g f a n h = every_map P g (keep f (range a n)) (every-keep (λ p. P (g p)) f (range a n) (range-every (λ p. P (g p)) a n h))

  -- the same from place 0 on
  from_zero : (g : ℕ → Said) (f : ℕ → Bool) (n : ℕ) → ((i : ℕ) → i < n → P (g i)) → Every P (map g (keep f (range 0 n)))
  from_zero g f n h = one-pass g f 0 n (λ i l. rw (zero-add i) (h i l))

  -- WHAT HOLDS OF EACH FAULT THAT THERE COULD BE HOLDS OF EACH THAT THERE IS
  every-fault : (d : ℕ → ℕ → ℕ) (w : List ℕ) → ((p : ℕ) → p < n# w → P (10, p, 0) × P (11, p, 0)) → ((k : ℕ) → k < nodes# w → P (12, k, 0))
      → ((k i : ℕ) → k < nodes# w → i < count# w k → P (13, k, start# w k + i)) → Every P (faults d w)
  unfolding measured_faults all_strays node_strays
  every-fault d w at_place at-node at-member =
      subst (Every P) (sym (faults-are d w))
      (every_append P (again_faults w) (measured_faults d w) (from_zero (λ p. (10, p, 0)) (again w) (n# w) (λ p h. (at_place p h).0))
      (every_append P (distance_faults d w) (radius_faults d w ++ all_strays d w)
      (from_zero (λ p. (11, p, 0)) (wrong_dist d w) (n# w) (λ p h. (at_place p h).1))
      (every_append P (radius_faults d w) (all_strays d w) (from_zero (λ k. (12, k, 0)) (wrong_reach_lem d w) (nodes# w) at-node)
      (every-each P (node_strays d w) (range 0 (nodes# w))
      (at_every (λ k. Every P (node_strays d w k)) (nodes# w)
      (λ k h. one-pass (λ p. (13, k, p)) (strays d w k) (start# w k) (count# w k) (λ i l. at-member k i h l)))))))

-- the number is one of the passes'
abbrev pub Late : Said → Type 0
Late s = within 10 13 s.0 ≡ true

-- every fault's is
pub faults_late : (d : ℕ → ℕ → ℕ) (w : List ℕ) → Every Late (faults d w)
faults_late d w = every-fault Late d w (λ p h. (refl, refl)) (λ k h. refl) (λ k i h l. refl)

-- the places are those of an index in shape: a node or a position, and a position
abbrev pub Small : Said → Type 0
Small s = (s.1 ≤ 2 * max_rows) × (s.2 ≤ max_rows)

-- every fault's are
pub faults_small : (d : ℕ → ℕ → ℕ) (w : List ℕ) → InShape w → Every Small (faults d w)
faults_small d w S =
    every-fault Small d w (λ p h. ((omega (arith, S.whole.rows), omega arith), (omega (arith, S.whole.rows), omega arith)))
    (λ k h. (omega (arith, S.whole.nodes, S.whole.rows), omega arith))
    (λ k i h l. (omega (arith, S.whole.nodes, S.whole.rows), omega (arith, (S.node k h).run, S.whole.rows)))
