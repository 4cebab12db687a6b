-- The nodes level by level are the numbering of 01: what the code makes is `numbered` of the tree that is grown, told over its single
-- nodes. Assumes nothing.
use Prim.Native.Nat.{◌+◌, ◌≤◌, suc, zero, ℕ}
use Rattle.growing.proofs.Items.{placed_long}
use Rattle.growing.specs.Levels.{Item, all_nodes, leaf_node, level_out_lem, next_level, parts, placed}
use Rattle.laws.proofs.Every.{every_append}
use Rattle.laws.proofs.Lists.{map-append, tally_length}
use Rattle.laws.specs.Every.{Every}
use Rattle.levels.proofs.Singles.{numbered-items}
use Rattle.levels.specs.Singles.{Single, kids_of, level_of, levels_of, lower, singles}
use Rattle.limits.specs.Limits.{max_depth}
use Rattle.tree.proofs.Grow.{forest-span, forest-tally, split-length, split_runs, split-tally}
use Rattle.tree.specs.Build.{Run, grow, leaf_of, reach, split}
use Rattle.tree.specs.Encode.{Node, numbered}
use Rattle.tree.specs.Grove.{Grove, bare, entries, fork, rows_in}
use borrow.Author.Tests.{leb-false}
use lib.Dec.{leb}
use lib.ListN.{length, length-map}
use mathlib.Core.Bool.{Bool, cond, false, true}
use mathlib.Core.List.{List, [], ◌++◌, ◌∷◌, foldr, map}
use mathlib.Core.Path.{◌∙◌, ◌≡◌, ap, ap₂, refl, sym}
use native.Mathlib.Nat.{add-zero}
use native.Mathlib.Omega.{arith}

-- the items' runs are not empty, and no row is in one twice
abbrev Runs : List Item → Type 0
Runs qs = Every (λ q. Run q.1) qs

placed-runs : (s : ℕ) (rs : List (List ℕ)) → Every Run rs → Runs (placed s rs)
placed-runs s [] h = tt
placed-runs s (r ∷ rs) h = (h.0, placed-runs (s + length r) rs h.1)

module _ (d : ℕ → ℕ → ℕ) (m l : ℕ) (m1 : 1 ≤ m) (ml : m ≤ l) where
  -- nodes side by side, grown from runs
  abbrev pub forest : ℕ → List (List ℕ) → Grove
  forest deep rs = foldr (grow d m l deep) bare rs

  -- an item's node, grown by itself
  abbrev pub single : ℕ → Item → Single
  single deep q = (q.0, grow d m l deep q.1 bare)

  -- a split run's children have as many rows
  pub inner-long : (deep : ℕ) (run : List ℕ) → Run run → leb (length run) l ≡ false → length (entries (forest deep (split d m run))) ≡ length run
  inner-long deep run r e =
      let k : m ≤ length run = omega (arith, leb-false (length run) l e) in
      let t : Grove = forest deep (split d m run) in
      sym (length-map (entries t) (λ e. e.0)) ∙ sym (tally_length (rows_in t))
      ∙ forest-tally d m l m1 ml deep (λ i. true) (split d m run) (split_runs d m l m1 ml run r k)
      ∙ split-tally d m l m1 ml (λ i. true) run r k ∙ tally_length run

  -- ---- nodes side by side, as single ones
  -- the first of them
  grown-single : (deep s : ℕ) (r : List ℕ) (g : Grove) → Run r
      → singles s (grow d m l deep r g) ≡ single deep (s, r) ∷ singles (s + length r) g
  unfolding singles grow
  grown-single zero s r g h = rw length-map refl
  grown-single (suc deep) s r g h = go (leb (length r) l) refl
    where
      go : (b : Bool) → leb (length r) l ≡ b
          → singles s (cond b (leaf_of d r g) (fork (reach d r) (forest deep (split d m r)) g))
          ≡ (s, cond b (leaf_of d r bare) (fork (reach d r) (forest deep (split d m r)) bare)) ∷ singles (s + length r) g
      go true e = rw length-map refl
      go false e = rw (inner-long deep r h e) refl

  -- all of them
  pub forest-singles : (deep s : ℕ) (rs : List (List ℕ)) → Every Run rs → singles s (forest deep rs) ≡ map (single deep) (placed s rs)
  unfolding singles
  forest-singles deep s [] h = refl
  forest-singles deep s (r ∷ rs) h =
      grown-single deep s r (forest deep rs) h.0 ∙ ap (λ (x : List Single). single deep (s, r) ∷ x) (forest-singles deep (s + length r) rs h.1)

  -- ---- the level below
  -- the children of an item's node are its parts
  item-kids : (deep : ℕ) (q : Item) → Run q.1 → kids_of q.0 (grow d m l (suc deep) q.1 bare) ≡ map (single deep) (parts d m l q)
  unfolding grow
  item-kids deep q h = go (leb (length q.1) l) refl
    where
      go : (b : Bool) → leb (length q.1) l ≡ b
          → kids_of q.0 (cond b (leaf_of d q.1 bare) (fork (reach d q.1) (forest deep (split d m q.1)) bare))
          ≡ map (single deep) (cond b [] (placed q.0 (split d m q.1)))
      go true e = refl
      go false e =
          forest-singles deep q.0 (split d m q.1) (split_runs d m l m1 ml q.1 h (omega (arith, leb-false (length q.1) l e)))

  -- so for a level
  lower-singles : (deep : ℕ) (qs : List Item) → Runs qs → lower (map (single (suc deep)) qs) ≡ map (single deep) (next_level d m l qs)
  lower-singles deep [] h = refl
  lower-singles deep (q ∷ qs) h =
      ap₂ (λ (a b : List Single). a ++ b) (item-kids deep q h.0) (lower-singles deep qs h.1)
      ∙ sym (map-append (single deep) (parts d m l q) (next_level d m l qs))

  -- its runs are not empty, and no row is in one twice
  next-runs : (qs : List Item) → Runs qs → Runs (next_level d m l qs)
  next-runs [] h = tt
  next-runs (q ∷ qs) h = every_append (λ p. Run p.1) (parts d m l q) (next_level d m l qs) (go (leb (length q.1) l) refl) (next-runs qs h.1)
    where
      go : (b : Bool) → leb (length q.1) l ≡ b → Runs (cond b [] (placed q.0 (split d m q.1)))
      go true e = tt
      go false e =
          placed-runs q.0 (split d m q.1) (split_runs d m l m1 ml q.1 h.0 (omega (arith, leb-false (length q.1) l e)))

  -- ---- a level's nodes
  -- while another is below it
  out-singles : (deep next : ℕ) (qs : List Item) → Runs qs → level_of next (map (single (suc deep)) qs) ≡ level_out_lem d m l next qs
  unfolding level_of level_out_lem grow
  out-singles deep next [] h = refl
  out-singles deep next (q ∷ qs) h = go (leb (length q.1) l) refl (λ k. out-singles deep k qs h.1)
    where
      go : (b : Bool) → leb (length q.1) l ≡ b → ((k : ℕ) → level_of k (map (single (suc deep)) qs) ≡ level_out_lem d m l k qs)
          → level_of next ((q.0, cond b (leaf_of d q.1 bare) (fork (reach d q.1) (forest deep (split d m q.1)) bare))
          ∷ map (single (suc deep)) qs)
          ≡ cond b (leaf_node d m l q ∷ level_out_lem d m l next qs) ((q.0, length q.1, next, reach d q.1) ∷ level_out_lem d m l (next + m) qs)
      go true e ih = rw (length-map, add-zero next) (ap (λ (ns : List Node). leaf_node d m l q ∷ ns) (ih next))
      go false e ih =
          let runs = split_runs d m l m1 ml q.1 h.0 (omega (arith, leb-false (length q.1) l e)) in
          let many : length (singles q.0 (forest deep (split d m q.1))) ≡ m =
          ap length (forest-singles deep q.0 (split d m q.1) runs) ∙ length-map (placed q.0 (split d m q.1)) (single deep)
          ∙ placed_long q.0 (split d m q.1) ∙ split-length d m l m1 ml q.1 in
          rw (inner-long deep q.1 h.0 e, many) (ap (λ (ns : List Node). (q.0, length q.1, next, reach d q.1) ∷ ns) (ih (next + m)))

  -- of the last level, all are leaves
  out-leaves : (next : ℕ) (qs : List Item) → level_of next (map (single zero) qs) ≡ map (leaf_node d m l) qs
  unfolding level_of grow
  out-leaves next [] = refl
  out-leaves next (q ∷ qs) = rw (length-map, add-zero next) (ap (λ (ns : List Node). leaf_node d m l q ∷ ns) (out-leaves next qs))

  -- ---- all levels
  -- from a level on, `deep` levels down
  levels-singles : (deep next : ℕ) (qs : List Item) → Runs qs → levels_of deep next (map (single deep) qs) ≡ all_nodes d m l deep next qs
  unfolding levels_of all_nodes
  levels-singles zero next qs h = out-leaves next qs
  levels-singles (suc deep) next qs h =
      let b = lower-singles deep qs h in
      ap₂ (λ (x y : List Node). x ++ y) (out-singles deep next qs h)
      (ap (λ (x : List Single). levels_of deep (next + length x) x) b
      ∙ ap (λ (k : ℕ). levels_of deep (next + k) (map (single deep) (next_level d m l qs))) (length-map (next_level d m l qs) (single deep))
      ∙ levels-singles deep (next + length (next_level d m l qs)) (next_level d m l qs) (next-runs qs h))

  -- THE NODES OF A GROWN ROOT, level by level
  pub numbered-levels : (run : List ℕ) → Run run → numbered (grow d m l max_depth run bare) ≡ all_nodes d m l max_depth 1 ((0, run) ∷ [])
  numbered-levels run r =
      numbered-items (grow d m l max_depth run bare)
      ∙ ap₂ (λ (k : ℕ) (x : List Single). levels_of max_depth k x) (forest-span d m l m1 ml max_depth (run ∷ []))
      (forest-singles max_depth 0 (run ∷ []) (r, tt))
      ∙ levels-singles max_depth 1 ((0, run) ∷ []) (r, tt)
