-- What the code does at a node is what is written there: it sweeps, closes, opens a leaf or opens an inner node. Assumes nothing.
use Prim.Native.Nat.{◌+◌, ◌-◌, ◌<◌, ◌≤◌, suc, ℕ}
use Rattle.descending.proofs.Nodes.{inner_opened, leaf_opened, node-any, node-inner, node-leaf, rest#, visit-at}
use Rattle.descending.specs.Descent.{kid_marks, node_marks}
use Rattle.fates.specs.Settling.{Settled, fate_of_lem}
use Rattle.fates.specs.declared.Fate.TheVariants.{Closed, Opened, Swept}
use Rattle.fates.specs.declared.Fate.{Fate}
use Rattle.laws.proofs.Lists.{map-map}
use Rattle.laws.proofs.Maps.{each_shift, map_each}
use Rattle.laws.specs.Lists.{each, range}
use Rattle.leaf_decision.specs.Decision.{leaf_at}
use Rattle.limits.specs.Limits.{max_depth}
use Rattle.marking.proofs.Listed.{leaves-as, leaves_none, leaves-out, leaves-same, leaves-then, told-swept}
use Rattle.marking.specs.Listed.{Leaves, span, told}
use Rattle.marking.specs.Marks.{centre_at, first_at, least_from, swept_at}
use Rattle.marking.specs.Written.{write}
use Rattle.tree.proofs.Members.{firsts_at}
use Rattle.tree.proofs.Rows.{by_root}
use Rattle.tree.specs.Grove.{Grove, bare, reach#, tree_at, tree_of}
use Rattle.tree.specs.Homes.{child_bound_lem}
use Rattle.tree.specs.Radius.{by_distance, marks, marks_in, veiled}
use Rattle.words.specs.InShape.{InShape}
use Rattle.words.specs.Shape.{inner}
use Rattle.words.specs.Words.{nodes#, child#, count#, m#, radius#, row#, start#}
use mathlib.Core.Bool.{Bool, false, true}
use mathlib.Core.List.{List, [], ◌++◌, ◌∷◌, map}
use mathlib.Core.Path.{◌∙◌, ◌≡◌, ap, ap₂, refl, sym}
use native.Mathlib.Nat.{add-zero}
use native.Mathlib.Numerals.{add-one}
use native.Mathlib.Omega.{arith}

-- marks of 0 leave nothing
leaves_nothing : (gone : ℕ → Bool) (x : ℕ → ℕ) (is : List ℕ) {h l : List ℕ} → Leaves gone x (map (λ i. (i, 0)) is) h h l l
leaves_nothing gone x [] = leaves_none gone x
leaves_nothing gone x (i ∷ is) = leaves-then gone x ((i, 0) ∷ []) (map (λ i. (i, 0)) is) (leaves-out gone x i) (leaves_nothing gone x is)

module _ (w : List ℕ) where
  -- the positions of a run but the first
  span_run : (f : ℕ → List (ℕ × ℕ)) (k : ℕ) → span f (start# w k + 1) (start# w k + count# w k) ≡ each f (rest# w k)
  unfolding span
  span_run f k =
      let e : start# w k + count# w k - (start# w k + 1) ≡ count# w k - 1 = omega arith in
      ap₂ (λ s c. each f (range s c)) (add-one (start# w k)) e

module _ (gone : ℕ → Bool) (x : ℕ → ℕ) (r : ℕ) (w : List ℕ) (S : InShape w) (deep k b : ℕ) (low : k < nodes# w) {d : ℕ} (dist : d ≡ first_at x w k) where
  -- SWEPT OR CLOSED: what was stored at once is all
  pub settled-did : (v : Fate) → v ≡ fate_of_lem d (radius# w k) b r → (v ≡ Opened → ⊥) → {h h' l l' : List ℕ} → Settled gone w k v h h' l l'
      → Leaves gone x (node_marks x r w deep k b) h h' l l'
  settled-did Swept f o {h} {h'} {l} {l'} did =
      let run = span_run w (swept_at w) k in
      let at : Leaves gone x (each (swept_at w) (rest# w k)) h h' l l' =
      record {
        bytes = did.bytes ∙ ap (λ t. write (veiled gone t) h) run;
        rows = did.rows ∙ ap (λ t. told (λ (i : ℕ). 0) (veiled gone t) l) run ∙ told-swept gone (λ (i : ℕ). 0) x (row# w) (rest# w k) l;
      } in
      node-any x r w S (λ t. Leaves gone x t h h' l l') deep k b low
      (λ q. leaves-as gone x
      (sym (visit-at x r w k b q dist f ∙ sym (map-map (λ i. (i, 2)) (row# w) (rest# w k)) ∙ map_each (λ p. (row# w p, 2)) (rest# w k))) at)
  settled-did Closed f o {h} {h'} {l} {l'} did =
      node-any x r w S (λ t. Leaves gone x t h h' l l') deep k b low
      (λ q. leaves-as gone x (sym (visit-at x r w k b q dist f))
      (leaves-same gone x did.0 did.1 (leaves_nothing gone x (map (row# w) (rest# w k)))))
  settled-did Opened f o did = absurd (o refl)

  module _ (fate : Opened ≡ fate_of_lem d (radius# w k) b r) where
    -- AN OPENED LEAF: each row but the first by its verdict
    pub leaf-opened : inner w k ≡ false → span (leaf_at x r w d) (start# w k + 1) (start# w k + count# w k) ≡ node_marks x r w deep k b
    leaf-opened e =
        ap (λ (d : ℕ). span (leaf_at x r w d) (start# w k + 1) (start# w k + count# w k)) dist
        ∙ span_run w (leaf_at x r w (first_at x w k)) k
        ∙ sym (node-leaf x r w S deep k b low e ∙ visit-at x r w k b (leaf_opened x r w k) dist fate)

    -- AN OPENED INNER NODE: the centres but the first, and then each child
    pub inner-opened : (ch : ℕ) → 1 ≤ deep → inner w k ≡ true → ch ≡ child# w k
        → span (λ (j : ℕ). centre_at x r w (ch + j)) 1 (m# w) ++ span (λ (j : ℕ). kid_marks x r w (deep - 1) b ch (ch + j)) 0 (m# w) ≡ node_marks x r w deep k b
    unfolding span
    inner-opened ch l e at =
        let whole : m# w - 0 ≡ m# w = omega arith in
        let kids : ℕ → List (ℕ × ℕ) = kid_marks x r w (deep - 1) b ch in
        ap₂ (λ s t. s ++ t)
        (each_shift (centre_at x r w) ch 1 (m# w - 1) ∙ ap (λ k. each (centre_at x r w) (range k (m# w - 1))) (add-one ch))
        (ap (λ (n : ℕ). each (λ (j : ℕ). kids (ch + j)) (range 0 n)) whole ∙ each_shift kids ch 0 (m# w) ∙ ap (λ k. each kids (range k (m# w))) (add-zero ch))
        ∙ ap (inner_opened x r w (deep - 1) b) at
        ∙ sym (node-inner x r w S deep k b low l e ∙ visit-at x r w k b (inner_opened x r w (deep - 1) b (child# w k)) dist fate)

-- ---- a child
-- its bound is computed from equal parts
pub child_did : (x : ℕ → ℕ) (r : ℕ) (w : List ℕ) (levels b ch j : ℕ) {v y d : ℕ}
    → v ≡ child_bound_lem b y d (reach# w (ch + j)) → y ≡ least_from x w ch → d ≡ first_at x w (ch + j)
    → node_marks x r w levels (ch + j) v ≡ kid_marks x r w levels b ch (ch + j)
child_did x r w levels b ch j e p q =
    ap (λ (v : ℕ). node_marks x r w levels (ch + j) v) (e ∙ ap₂ (λ (y d : ℕ). child_bound_lem b y d (reach# w (ch + j))) p q)

-- ---- the whole search
module _ (x : ℕ → ℕ) (r : ℕ) (w : List ℕ) (S : InShape w) where
  -- with no root there is no mark
  pub root_none : nodes# w ≡ 0 → [] ≡ marks x r (tree_of w)
  unfolding marks marks_in
  root_none e = by_root (λ t. [] ≡ marks x r t) w (λ l. absurd (omega arith)) (λ z. refl)

  -- THE ROOT'S FIRST, AND THEN THE ROOT, IS THE WHOLE SEARCH
  pub root-did : 0 < nodes# w → centre_at x r w 0 ++ node_marks x r w max_depth 0 0 ≡ marks x r (tree_of w)
  unfolding marks node_marks
  root-did l =
      by_root (λ t. centre_at x r w 0 ++ node_marks x r w max_depth 0 0 ≡ marks x r t) w
      (λ l.
      let t : Grove = tree_at w max_depth 0 bare in
      ap (λ fs. map (λ f. (f, by_distance x r f)) fs ++ marks_in x r (λ x R. 0) t) (sym (firsts_at w S max_depth 0 bare l)))
      (λ z. absurd (omega arith))
