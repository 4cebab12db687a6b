-- A tree that fits its table, and bounds that are not above any distance. Assumes nothing.
use Prim.Native.Nat.{◌*◌, ◌+◌, ◌-◌, ◌≤◌, max, ℕ}
use Rattle.laws.proofs.Every.{every-all, every_append, every-both, every_map, every_of, every_rest, every-unmap}
use Rattle.laws.proofs.Times.{lefts}
use Rattle.laws.specs.Every.{Every}
use Rattle.laws.specs.Lists.{head, least, rest}
use Rattle.measure.specs.Space.{Point}
use Rattle.tree.proofs.Full.{Full, Others, firsts_rest, others_rest}
use Rattle.tree.specs.Grove.{Grove, Reach, bare, first, firsts, fork, leaf, rows_in}
use Rattle.tree.specs.Homes.{child_bound_lem, homes, homes_in, nearest_of, row_bound}
use mathlib.Core.List.{List, [], ◌++◌, ◌∷◌, map}
use mathlib.Core.Path.{◌≡◌}
use native.Mathlib.Omega.{arith}

module _ (d : ℕ → ℕ → ℕ) where
  -- each row of each node is as close to the node's first as to any of the centres cs
  abbrev pub Close : List ℕ → Grove → Type 0
  Close cs bare = Unit {0}
  Close cs (leaf R es g) = Every (λ i. Every (λ c. d (head (lefts es)) i ≤ d c i) cs) (lefts es) × Close cs g
  Close cs (fork R ks g) = Every (λ i. Every (λ c. d (first ks) i ≤ d c i) cs) (rows_in ks) × Close cs g

  -- of a run with the first f, no row is farther than R allows, and none but the first is nearer
  pub record Reaches (R : Reach) (f : ℕ) (is : List ℕ) : Type 0 where
    pub up : Every (λ i. d f i ≤ R.outer) is
    pub low : Every (λ i. R.inner ≤ d f i) (rest is)

  -- stored distances are right, no reach is broken, and each row is with its closest centre
  abbrev pub Sound : Grove → Type 0
  Sound bare = Unit {0}
  Sound (leaf R es g) =
      Every (λ e. d (head (lefts es)) e.0 ≡ e.1) es × Reaches R (head (lefts es)) (lefts es) × Sound g
  Sound (fork R ks g) = Close (firsts ks) ks × Reaches R (first ks) (rows_in ks) × Sound ks × Sound g

module _ (x : ℕ → ℕ) where
  -- no row of a node but its first is closer than the node's bound
  abbrev pub Valid : (ℕ → Reach → ℕ) → Grove → Type 0
  Valid β bare = Unit {0}
  Valid β (leaf R es g) = Every (λ i. β (x (head (lefts es))) R ≤ x i) (rest (lefts es)) × Valid β g
  Valid β (fork R ks g) = Every (λ i. β (x (first ks)) R ≤ x i) (rest (rows_in ks)) × Valid β g

  -- the bound 0
  pub valid-zero : (g : Grove) → Valid (λ x R. 0) g
  valid-zero bare = tt
  valid-zero (leaf R es g) = (every-all (λ i. 0 ≤ x i) (λ i. omega arith) (rest (lefts es)), valid-zero g)
  valid-zero (fork R ks g) = (every-all (λ i. 0 ≤ x i) (λ i. omega arith) (rest (rows_in ks)), valid-zero g)

  -- what is at most a more than each distance is at most a more than the least
  under-least : (k a v : ℕ) (cs : List ℕ) → k ≤ a + v → Every (λ c. k ≤ a + x c) cs → k ≤ a + least v (map x cs)
  under-least k a v [] h hs = h
  under-least k a v (c ∷ cs) h hs = omega (arith, under-least k a v cs h hs.1)

-- the greatest of four numbers is at most v where each is
four : (b p q s v : ℕ) → b ≤ v → p ≤ v → q ≤ v → s ≤ v → max b (max (max p q) s) ≤ v
four b p q s v hb hp hq hs = omega arith

-- a list's rows but the first
rests : (P : ℕ → Type 0) (es : List (ℕ × ℕ)) → Every P (rest (lefts es)) → Every P (lefts (rest es))
rests P [] h = tt
rests P (e ∷ es) h = h

module _ (d : ℕ → ℕ → ℕ) (x : ℕ → ℕ) (M : Point d x) where
  -- one row of a child but its first: the four parts of its bound
  row-bound : (b : ℕ) (R : Reach) (f i c : ℕ) (cs : List ℕ) → b ≤ x i → d f i ≤ R.outer → R.inner ≤ d f i → Every (λ c. d f i ≤ d c i) (c ∷ cs)
      → child_bound_lem b (least (x c) (map x (c ∷ cs))) (x f) R ≤ x i
  row-bound b R f i c cs hb hR hr hc =
      let near : x f ≤ 2 * x i + least (x c) (map x (c ∷ cs)) =
      under-least x (x f) (2 * x i) (x c) (c ∷ cs)
      (omega (arith, M.down f i, M.across c i, hc.0))
      (every_of (λ e. d f i ≤ d e i) (λ e. x f ≤ 2 * x i + x e) (λ e h. omega (arith, M.down f i, M.across e i)) (c ∷ cs) hc) in
      four _ _ _ _ (x i) (omega arith) (omega (arith, M.down f i)) (omega (arith, M.across f i)) (omega arith)

  -- the rows of one child but its first f, with its reach R
  kid : (b : ℕ) (R : Reach) (f c : ℕ) (cs is : List ℕ) → Every (λ i. b ≤ x i) is → Every (λ i. d f i ≤ R.outer) is → Every (λ i. R.inner ≤ d f i) is
      → Every (λ i. Every (λ c. d f i ≤ d c i) (c ∷ cs)) is → Every (λ i. child_bound_lem b (least (x c) (map x (c ∷ cs))) (x f) R ≤ x i) is
  kid b R f c cs [] hb hR hr hc = tt
  kid b R f c cs (i ∷ is) hb hR hr hc =
      (row-bound b R f i c cs hb.0 hR.0 hr.0 hc.0, kid b R f c cs is hb.1 hR.1 hr.1 hc.1)

  -- a child's bound is at most the distance of each of its members
  valid-kids : (b c : ℕ) (cs : List ℕ) (g : Grove) → Others (λ i. b ≤ x i) g → Close d (c ∷ cs) g → Sound d g
      → Valid x (child_bound_lem b (least (x c) (map x (c ∷ cs)))) g
  valid-kids b c cs bare hb hc hs = tt
  valid-kids b c cs (leaf R es g) hb hc hs = (
    kid b R (head (lefts es)) c cs (rest (lefts es)) hb.0 (every_rest (λ i. d (head (lefts es)) i ≤ R.outer) (lefts es) hs.1.up) hs.1.low
        (every_rest (λ i. Every (λ c. d (head (lefts es)) i ≤ d c i) (c ∷ cs)) (lefts es) hc.0),
    valid-kids b c cs g hb.1 hc.1 hs.2,
  )
  valid-kids b c cs (fork R ks g) hb hc hs = (
    kid b R (first ks) c cs (rest (rows_in ks)) hb.0 (every_rest (λ i. d (first ks) i ≤ R.outer) (rows_in ks) hs.1.up) hs.1.low
        (every_rest (λ i. Every (λ c. d (first ks) i ≤ d c i) (c ∷ cs)) (rows_in ks) hc.0),
    valid-kids b c cs g hb.1 hc.1 hs.3,
  )

  -- the children of an inner node with bound b
  pub valid-under : (b : ℕ) (ks : Grove) → Full ks → Every (λ i. b ≤ x i) (rest (rows_in ks)) → Close d (firsts ks) ks → Sound d ks
      → Valid x (child_bound_lem b (nearest_of x ks)) ks
  valid-under b bare w hb hc hs = tt
  valid-under b (leaf R es g) w hb hc hs = valid-kids b (head (lefts es)) (firsts g) (leaf R es g) (others_rest (λ i. b ≤ x i) (leaf R es g) w hb) hc hs
  valid-under b (fork R ks g) w hb hc hs = valid-kids b (first ks) (firsts g) (fork R ks g) (others_rest (λ i. b ≤ x i) (fork R ks g) w hb) hc hs

  -- no row is closer than its home bound
  homesIn-below : (β : ℕ → Reach → ℕ) (g : Grove) → Full g → Sound d g → Valid x β g → Every (λ h. h.1 ≤ x h.0) (homes_in x β g)
  unfolding homes_in
  homesIn-below β bare w hs hv = tt
  homesIn-below β (leaf R es g) w hs hv =
      let f : ℕ = head (lefts es) in
      every_append (λ h. h.1 ≤ x h.0) (map (λ e. (e.0, row_bound x (β (x f) R) f e)) (rest es)) (homes_in x β g)
      (every_map (λ h. h.1 ≤ x h.0) (λ e. (e.0, row_bound x (β (x f) R) f e)) (rest es)
      (every-both (λ e. β (x f) R ≤ x e.0) (λ e. d f e.0 ≡ e.1) (λ e. row_bound x (β (x f) R) f e ≤ x e.0)
      (λ e h k. omega (arith, M.up f e.0, M.down f e.0, M.across f e.0)) (rest es)
      (every-unmap (λ i. β (x f) R ≤ x i) (λ e. e.0) (rest es) (rests (λ i. β (x f) R ≤ x i) es hv.0))
      (every_rest (λ e. d f e.0 ≡ e.1) es hs.0)))
      (homesIn-below β g w.1 hs.2 hv.1)
  homesIn-below β (fork R ks g) w hs hv =
      let b : ℕ = β (x (first ks)) R in
      every_append (λ h. h.1 ≤ x h.0) (map (λ f. (f, b)) (rest (firsts ks)) ++ homes_in x (child_bound_lem b (nearest_of x ks)) ks) (homes_in x β g)
      (every_append (λ h. h.1 ≤ x h.0) (map (λ f. (f, b)) (rest (firsts ks))) (homes_in x (child_bound_lem b (nearest_of x ks)) ks)
      (every_map (λ h. h.1 ≤ x h.0) (λ f. (f, b)) (rest (firsts ks))
      (firsts_rest (λ i. b ≤ x i) ks w.1 hv.0))
      (homesIn-below (child_bound_lem b (nearest_of x ks)) ks w.1 hs.2 (valid-under b ks w.1 hv.0 hs.0 hs.2)))
      (homesIn-below β g w.2 hs.3 hv.1)

  -- NO ROW OF THE TREE IS CLOSER THAN ITS HOME BOUND
  pub homes-below : (t : Grove) → Full t → Sound d t → Every (λ h. h.1 ≤ x h.0) (homes x t)
  unfolding homes
  homes-below t w hs =
      every_append (λ h. h.1 ≤ x h.0) (map (λ f. (f, 0)) (firsts t)) (homes_in x (λ x R. 0) t)
      (every_map (λ h. h.1 ≤ x h.0) (λ f. (f, 0)) (firsts t) (every-all (λ f. 0 ≤ x f) (λ f. omega arith) (firsts t)))
      (homesIn-below (λ x R. 0) t w hs (valid-zero x t))
