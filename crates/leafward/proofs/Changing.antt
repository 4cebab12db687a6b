-- A tree that takes one row more is the tree of the index with one leaf changed, and farther reaches on the way to it. Assumes nothing.
use Prim.Native.Nat.{◌+◌, ◌<◌, ◌≤◌, suc, zero, ℕ}
use Rattle.appending.proofs.Lowest.{lowest_there}
use Rattle.appending.proofs.Read.{forest}
use Rattle.appending.specs.Append.{join, lodge, lowest_at, reach_with}
use Rattle.laws.proofs.Lists.{map-map}
use Rattle.laws.proofs.Maps.{map_shift}
use Rattle.laws.proofs.Ranges.{range_length}
use Rattle.laws.specs.Lists.{range}
use Rattle.leafward.proofs.Walking.{way_end, way_step}
use Rattle.leafward.specs.Changed.{Holds, NewReach, changed_at}
use Rattle.leafward.specs.Way.{LeafFound, closest_kid, left_at, to_kid, way_to}
use Rattle.limits.specs.Limits.{max_depth}
use Rattle.tree.proofs.Forks.{as-fork, as-leaf, fork_node, kids-first, kids_at, leaf_node, no-levels}
use Rattle.tree.proofs.Members.{entries_at, kids-entries, kids-firsts}
use Rattle.tree.proofs.Rows.{by_root}
use Rattle.tree.specs.Grove.{Grove, Reach, bare, entries, first, firsts, fork, leaf, members#, reach#, tree_at, tree_of}
use Rattle.words.proofs.Tiles.{tile-head, tile-part, tile-tail}
use Rattle.words.specs.InShape.{InShape}
use Rattle.words.specs.Shape.{inner, tile}
use Rattle.words.specs.Words.{nodes#, child#, count#, dist#, first#, l#, m#, row#, start#}
use borrow.Author.Tests.{eq-eqb, ne_eqb}
use lib.Dec.{T}
use lib.ListN.{length, length-map}
use mathlib.Core.Bool.{Bool, cond, false, true}
use mathlib.Core.List.{List, foldr, map}
use mathlib.Core.Path.{◌∙◌, ◌≡◌, ap, ap₂, refl, subst, sym}
use native.Mathlib.Nat.{add-suc, add-zero, not-suc-le-zero, suc-add}
use native.Mathlib.Omega.{arith}

module _ (d : ℕ → ℕ → ℕ) (w : List ℕ) (S : InShape w) (z : ℕ) where
  -- ---- where the way leads
  -- the closest child is one of the children
  closest-there : (k : ℕ) → closest_kid d w z k < m# w
  unfolding closest_kid
  closest-there k =
      let xs : List ℕ = map (to_kid d w z k) (range 0 (m# w)) in
      let n : length xs ≡ m# w = length-map (range 0 (m# w)) (to_kid d w z k) ∙ range_length 0 (m# w) in
      omega (arith, lowest_there xs (omega (arith, S.whole.fan.0)))

  -- node v comes at node k or after it, and node k's run holds its
  record Under (k v : ℕ) : Type 0 where
    there : v < nodes# w
    later : k ≤ v
    holds : Holds w v k

  -- so does the leaf that the way leads to
  way-under : (deep k : ℕ) → k < nodes# w → Under k (way_to d w z deep k)
  unfolding way_to
  way-under zero k h = record { there = h; later = omega arith; holds = (omega arith, omega arith) }
  way-under (suc deep) k h = go (λ j q. way-under deep j q) (inner w k) refl
    where
      j : ℕ
      j = child# w k + closest_kid d w z k

      go : ((j : ℕ) → j < nodes# w → Under j (way_to d w z deep j)) → (b : Bool) → inner w k ≡ b → Under k (cond b (way_to d w z deep j) k)
      go ih true e =
          let K = (S.node k h).kids e in
          let c = closest-there k in
          let U = ih j (omega (arith, K.inside)) in
          let P = K.part (closest_kid d w z k) c in
          record {
            there = U.there;
            later = omega (arith, U.later, K.later);
            holds = (omega (arith, P, U.holds), omega (arith, P, U.holds));
          }
      go ih false e = record { there = h; later = omega arith; holds = (omega arith, omega arith) }

  -- the closest of the children's centres
  closest-kid : (deep k : ℕ) → k < nodes# w → inner w k ≡ true → lowest_at (map (λ f. d f z) (firsts (kids_at w deep k))) ≡ closest_kid d w z k
  unfolding closest_kid
  closest-kid deep k h e =
      let f : ℕ → ℕ = λ i. d (first# w i) z in
      ap (λ (l : List ℕ). lowest_at (map (λ i. d i z) l)) (kids-firsts w S deep (child# w k) (m# w) ((S.node k h).kids e).inside)
      ∙ ap lowest_at (sym (map-map (λ i. d i z) (first# w) (range (child# w k) (m# w)))
      ∙ ap (λ (i : ℕ). map f (range i (m# w))) (sym (add-zero (child# w k))) ∙ sym (map_shift f (child# w k) 0 (m# w)))

  -- an inner node's children have its rows
  kids-count : (deep k : ℕ) → k < nodes# w → inner w k ≡ true → length (entries (kids_at w deep k)) ≡ count# w k
  kids-count deep k h e =
      let K = (S.node k h).kids e in
      ap length (kids-entries w S (tree_at w deep) (entries_at w S deep) (child# w k) (m# w) (start# w k) (count# w k) K.inside K.tiled)
      ∙ length-map (range (start# w k) (count# w k)) (λ p. (row# w p, dist# w p)) ∙ range_length (start# w k) (count# w k)

  -- a node before the one that takes the row stays
  join-past : (deep at k : ℕ) (g : Grove)
      → join d (m# w) (l# w) z deep (suc at) (tree_at w deep k g) ≡ tree_at w deep k (join d (m# w) (l# w) z deep at g)
  unfolding join tree_at
  join-past zero at k g = refl
  join-past (suc deep) at k g = go (inner w k)
    where
      go : (b : Bool) → join d (m# w) (l# w) z (suc deep) (suc at) (cond b (fork_node w deep k g) (leaf_node w k g))
          ≡ cond b (fork_node w deep k (join d (m# w) (l# w) z (suc deep) at g)) (leaf_node w k (join d (m# w) (l# w) z (suc deep) at g))
      go true = refl
      go false = refl

  -- ---- the tree with node v changed
  module _ (v : ℕ) (R : ℕ → Reach) (anew : ℕ → Grove → Grove) (Q : NewReach d w z v R) where
    abbrev A : ℕ → ℕ → Grove → Grove
    A deep k g = changed_at w R v anew deep k g

    -- node v itself
    changed-there : (deep k : ℕ) (g : Grove) → k ≡ v → A deep k g ≡ anew deep g
    unfolding changed_at
    changed-there zero k g e = rw (eq-eqb k v e) refl
    changed-there (suc deep) k g e = rw (eq-eqb k v e) refl

    -- a node whose run does not hold node v's is not node v
    other : (k : ℕ) → (Holds w v k → ⊥) → k ≡ v → ⊥
    other k o e = o (omega (arith, ap (start# w) e), omega (arith, ap (start# w) e, ap (count# w) e))

    -- nodes side by side stay where each does
    kids-stay : (deep : ℕ) → ((k : ℕ) (g : Grove) → k < nodes# w → (Holds w v k → ⊥) → A deep k g ≡ tree_at w deep k g)
        → (j n : ℕ) → j + n ≤ nodes# w → ((i : ℕ) → i < n → Holds w v (j + i) → ⊥) → foldr (A deep) bare (range j n) ≡ forest w deep j n
    kids-stay deep ih j zero h o = refl
    kids-stay deep ih j (suc n) h o =
        ih j (foldr (A deep) bare (range (suc j) n)) (omega arith) (rw (add-zero j) at (o 0 (omega arith)))
        ∙ ap (tree_at w deep j) (kids-stay deep ih (suc j) n (omega arith) (λ i q. rw (add-suc j i, ← suc-add j i) at (o (suc i) (omega arith))))

    -- A NODE WHOSE RUN DOES NOT HOLD NODE V'S STAYS
    node_stays : (deep k : ℕ) (g : Grove) → k < nodes# w → (Holds w v k → ⊥) → A deep k g ≡ tree_at w deep k g
    unfolding changed_at tree_at
    node_stays zero k g h o = rw (ne_eqb k v (other k o), Q.off k h o) refl
    node_stays (suc deep) k g h o =
        ap (λ (b : Bool). cond b (anew (suc deep) g) (cond (inner w k) (fork (R k) (foldr (A deep) bare (range (child# w k) (m# w))) g)
        (leaf (R k) (members# w k) g))) (ne_eqb k v (other k o))
        ∙ go (λ j f q u. node_stays deep j f q u) (inner w k) refl
      where
        go : ((k : ℕ) (g : Grove) → k < nodes# w → (Holds w v k → ⊥) → A deep k g ≡ tree_at w deep k g) → (b : Bool) → inner w k ≡ b
            → cond b (fork (R k) (foldr (A deep) bare (range (child# w k) (m# w))) g) (leaf (R k) (members# w k) g)
            ≡ cond b (fork_node w deep k g) (leaf_node w k g)
        go ih true e =
            let K = (S.node k h).kids e in
            ap₂ (λ (r : Reach) (ks : Grove). fork r ks g) (Q.off k h o)
            (kids-stay deep ih (child# w k) (m# w) K.inside
            (λ i q u. o (omega (arith, K.part i q, u), omega (arith, K.part i q, u))))
        go ih false e = ap (λ (r : Reach). leaf r (members# w k) g) (Q.off k h o)

    -- ---- the nodes on the way
    module _ (left : ℕ) (new : (g : Grove) → anew left g ≡ lodge d (m# w) (l# w) z left (reach# w v) (members# w v) g) where
      -- node v is where the way leads from node k
      abbrev Leads : ℕ → ℕ → Type 0
      Leads deep k = (v ≡ way_to d w z deep k) × (left ≡ left_at d w z deep k)

      -- node k's run holds node v's then
      leads-under : (deep k : ℕ) → k < nodes# w → Leads deep k → Under k v
      leads-under deep k h e = subst (Under k) (sym e.0) (way-under deep k h)

      -- the leaf
      leaf-joined : (deep k : ℕ) (g : Grove) → v ≡ k → left ≡ deep
          → lodge d (m# w) (l# w) z deep (reach# w k) (members# w k) g ≡ A deep k g
      leaf-joined deep k g e f =
          ap (λ (i : ℕ). lodge d (m# w) (l# w) z deep (reach# w i) (members# w i) g) (sym e)
          ∙ ap (λ (i : ℕ). lodge d (m# w) (l# w) z i (reach# w v) (members# w v) g) (sym f)
          ∙ sym (new g) ∙ ap (λ (i : ℕ). anew i g) f ∙ sym (changed-there deep k g (sym e))

      -- of nodes side by side one leads to node v, and the others stand apart from it
      kids-joined : (deep : ℕ) → ((k : ℕ) (g : Grove) → k < nodes# w → Leads deep k → join d (m# w) (l# w) z deep 0 (tree_at w deep k g) ≡ A deep k g)
          → (j n at s e : ℕ) → j + n ≤ nodes# w → at < n → T (tile w j n s e) → Leads deep (j + at)
          → join d (m# w) (l# w) z deep at (forest w deep j n) ≡ foldr (A deep) bare (range j n)
      kids-joined deep ih j zero at s e h q t u = absurd (not-suc-le-zero q)
      kids-joined deep ih j (suc n) zero s e h q t u =
          let u' : Leads deep j = rw (add-zero j) at u in
          let U = leads-under deep j (omega arith) u' in
          let some : 1 ≤ count# w v = (S.node v U.there).some in
          ih j (forest w deep (suc j) n) (omega arith) u'
          ∙ ap (A deep j) (sym (kids-stay deep (node_stays deep) (suc j) n (omega arith)
          (λ i p o. omega (
            arith,
            tile-head w j n s e t,
            tile-part w (suc j) n (s + count# w j) e i p (tile-tail w j n s e t),
            U.holds,
            o,
          ))))
      kids-joined deep ih j (suc n) (suc at) s e h q t u =
          let u' : Leads deep (suc j + at) = rw (suc-add j at, ← add-suc j at) u in
          let U = leads-under deep (suc j + at) (omega arith) u' in
          let some : 1 ≤ count# w v = (S.node v U.there).some in
          let p = tile-part w (suc j) n (s + count# w j) e at (omega arith) (tile-tail w j n s e t) in
          join-past deep at j (forest w deep (suc j) n)
          ∙ sym (node_stays deep j (join d (m# w) (l# w) z deep at (forest w deep (suc j) n)) (omega arith)
          (λ o. omega (arith, tile-head w j n s e t, p, U.holds, o)))
          ∙ ap (A deep j) (kids-joined deep ih (suc j) n at (s + count# w j) e (omega arith) (omega arith) (tile-tail w j n s e t) u')

      -- a node that leads to node v
      node-joined : (deep k : ℕ) (g : Grove) → k < nodes# w → Leads deep k → join d (m# w) (l# w) z deep 0 (tree_at w deep k g) ≡ A deep k g
      unfolding join changed_at
      node-joined zero k g h u =
          ap (join d (m# w) (l# w) z 0 0) (no-levels w k g) ∙ leaf-joined 0 k g (u.0 ∙ at_zero.0) (u.1 ∙ at_zero.1)
        where
          at_zero : (way_to d w z 0 k ≡ k) × (left_at d w z 0 k ≡ 0)
          at_zero = unfold way_to left_at in (refl, refl)
      node-joined (suc deep) k g h u = go (λ j f q p. node-joined deep j f q p) (inner w k) refl
        where
          go : ((k : ℕ) (g : Grove) → k < nodes# w → Leads deep k → join d (m# w) (l# w) z deep 0 (tree_at w deep k g) ≡ A deep k g)
              → (b : Bool) → inner w k ≡ b → join d (m# w) (l# w) z (suc deep) 0 (tree_at w (suc deep) k g) ≡ A (suc deep) k g
          go ih true e =
              let K = (S.node k h).kids e in
              let s = way_step d w z deep k e in
              let at : ℕ = closest_kid d w z k in
              let u' : Leads deep (child# w k + at) = (u.0 ∙ s.0, u.1 ∙ s.1) in
              let U = leads-under deep (child# w k + at) (omega (arith, K.inside, closest-there k)) u' in
              let ks : Grove = kids_at w deep k in
              let own : reach_with (length (entries ks)) (reach# w k) (d (first ks) z) ≡ R k =
              ap₂ (λ (a b : ℕ). reach_with a (reach# w k) (d b z)) (kids-count deep k h e) (kids-first w S deep k h e)
              ∙ sym (Q.on k h (leads-under (suc deep) k h u).holds) in
              let below : join d (m# w) (l# w) z deep (lowest_at (map (λ f. d f z) (firsts ks))) ks ≡ foldr (A deep) bare (range (child# w k) (m# w)) =
              ap (λ (i : ℕ). join d (m# w) (l# w) z deep i ks) (closest-kid deep k h e)
              ∙ kids-joined deep ih (child# w k) (m# w) at (start# w k) (start# w k + count# w k) K.inside (closest-there k) K.tiled u' in
              ap (join d (m# w) (l# w) z (suc deep) 0) (as-fork w deep k g e)
              ∙ ap₂ (λ (r : Reach) (x : Grove). fork r x g) own below
              ∙ sym (rw (ne_eqb k v (λ q. omega (arith, K.later, U.later)), e) refl)
          go ih false e =
              let s = way_end d w z (suc deep) k e in
              ap (join d (m# w) (l# w) z (suc deep) 0) (as-leaf w (suc deep) k g e) ∙ leaf-joined (suc deep) k g (u.0 ∙ s.0) (u.1 ∙ s.1)

      -- THE TREE THAT TAKES ROW Z: the leaf at the end of the way is another, the nodes whose run holds its reach to the row, and all else stays
      pub join-changed : 1 ≤ nodes# w → LeafFound d w z v left
          → join d (m# w) (l# w) z max_depth 0 (tree_of w) ≡ changed_at w R v anew max_depth 0 bare
      join-changed h F =
          by_root (λ g. join d (m# w) (l# w) z max_depth 0 g ≡ A max_depth 0 bare) w
          (λ q. node-joined max_depth 0 bare q (F.node, F.levels)) (λ e. absurd (omega arith))
