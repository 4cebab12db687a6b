-- Level after level: the nodes and leaves that are still to come make up the whole with those that are there. Assumes nothing.
use Prim.Native.Nat.{◌+◌, ◌-◌, ◌<◌, ◌≤◌, suc, zero, ℕ}
use Rattle.growing.proofs.Tiles.{runs_few}
use Rattle.growing.specs.Rooted.{Layered, Planted, root_item}
use Rattle.growing.specs.Levels.{Item, all_nodes, leaf_node, leaves, level_out_lem, next_level, opened}
use Rattle.growing.specs.Stages.{Fit, Level, Stage, Staged, with_nodes}
use Rattle.laws.proofs.Joins.{each_append}
use Rattle.laws.specs.Lists.{each, range}
use Rattle.limits.specs.Limits.{max_depth}
use Rattle.measure.specs.Table.{between}
use Rattle.split.specs.Runs.{laid}
use Rattle.tree.specs.Build.{split}
use Rattle.tree.specs.Encode.{Node}
use lib.Dec.{leb}
use lib.ListN.{length, length-append, length-map}
use mathlib.Core.Bool.{Bool, cond, false, true}
use mathlib.Core.List.{List, [], ◌++◌, ◌∷◌, append_assoc, append-nil, map}
use mathlib.Core.Path.{◌∙◌, ◌≡◌, ap, ap₂, refl, sym}
use native.Mathlib.Omega.{arith}

-- ---- the leaves of runs, one level down
module _ (d : ℕ → ℕ → ℕ) (m l : ℕ) where
  -- a run of at most l rows is a leaf at any depth
  pub small-leaf : (deep : ℕ) (r : List ℕ) → leb (length r) l ≡ true → leaves d m l deep r ≡ r ∷ []
  unfolding leaves
  small-leaf zero r e = refl
  small-leaf (suc deep) r e = ap (λ (b : Bool). cond b (r ∷ []) (each (leaves d m l deep) (split d m r))) e

  -- the leaves under a run are those under the runs that it leaves one level down
  leaves-opened : (deep : ℕ) (r : List ℕ) → leaves d m l (suc deep) r ≡ each (leaves d m l deep) (opened d m l r)
  unfolding leaves
  leaves-opened deep r = go (leb (length r) l) refl
    where
      go : (b : Bool) → leb (length r) l ≡ b
          → cond b (r ∷ []) (each (leaves d m l deep) (split d m r)) ≡ each (leaves d m l deep) (cond b (r ∷ []) (split d m r))
      go true e = sym (append-nil (leaves d m l deep r) ∙ small-leaf deep r e)
      go false e = refl

  -- so for runs that follow each other
  pub leaves-down : (deep : ℕ) (ts : List (List ℕ)) → each (leaves d m l (suc deep)) ts ≡ each (leaves d m l deep) (each (opened d m l) ts)
  leaves-down deep [] = refl
  leaves-down deep (r ∷ ts) =
      ap₂ (λ (x y : List (List ℕ)). x ++ y) (leaves-opened deep r) (leaves-down deep ts)
      ∙ sym (each_append (leaves d m l deep) (opened d m l r) (each (opened d m l) ts))

  -- where no level is left, each run is a leaf
  pub leaves_none : (ts : List (List ℕ)) → each (leaves d m l 0) ts ≡ ts
  unfolding leaves
  leaves_none [] = refl
  leaves_none (r ∷ ts) = ap (λ (x : List (List ℕ)). r ∷ x) (leaves_none ts)

  -- the nodes of a level, and then those of the levels below it
  nodes_down : (deep hi made : ℕ) (before : List Node) (items : List Item) → made ≡ hi + length (next_level d m l items)
      → before ++ all_nodes d m l (suc deep) hi items ≡ (before ++ level_out_lem d m l hi items) ++ all_nodes d m l deep made (next_level d m l items)
  unfolding all_nodes
  nodes_down deep hi made before items e =
      ap (λ (k : ℕ). before ++ (level_out_lem d m l hi items ++ all_nodes d m l deep k (next_level d m l items))) (sym e)
      ∙ sym (append_assoc before (level_out_lem d m l hi items) (all_nodes d m l deep made (next_level d m l items)))

  -- where no level is left, each item is a leaf
  nodes-none : (hi : ℕ) (items : List Item) → all_nodes d m l 0 hi items ≡ map (leaf_node d m l) items
  unfolding all_nodes
  nodes-none hi items = refl

-- `depth` levels are opened: with what is to come below, the nodes and the leaves are those of the whole tree
pub record Growing (t : List ℕ) (c o m l n : ℕ) (origin room work : List ℕ) (lo hi depth : ℕ) : Type 0 where
  pub before : List Node
  pub items : List Item
  pub tiles : List (List ℕ)
  pub stage : Stage (between t c o) m l n origin before items tiles room work lo hi
  pub nodes : before ++ all_nodes (between t c o) m l (max_depth - depth) hi items ≡ all_nodes (between t c o) m l max_depth 1 (root_item n ∷ [])
  pub below : each (leaves (between t c o) m l (max_depth - depth)) tiles ≡ leaves (between t c o) m l max_depth (range 0 n)

module _ {t : List ℕ} {c o m l n : ℕ} {origin room work : List ℕ} {lo hi depth : ℕ} (inv : Growing t c o m l n origin room work lo hi depth) where
  -- how far two rows are apart
  abbrev d : ℕ → ℕ → ℕ
  d = between t c o

  -- the next level has its items and tiles
  abbrev pub growing-level : Fit t c m l n → Level t c o m l n room work lo hi
  growing-level fit = record { fit = fit; origin = origin; before = inv.before; items = inv.items; tiles = inv.tiles; stage = inv.stage }

  -- the next level is opened
  pub growing-step : {room' work' : List ℕ} {made : ℕ} → Fit t c m l n → depth < max_depth → Staged t c o m l n room work lo hi room' work' made
      → Growing t c o m l n origin room' work' hi made (depth + 1)
  growing-step {made = made} fit h staged =
      let s = staged (growing-level fit) in
      let less : max_depth - depth ≡ suc (max_depth - (depth + 1)) = omega arith in
      record {
        before = inv.before ++ level_out_lem d m l hi inv.items;
        items = next_level d m l inv.items;
        tiles = each (opened d m l) inv.tiles;
        stage = s;
        nodes =
            sym (nodes_down d m l (max_depth - (depth + 1)) hi made inv.before inv.items (omega (arith, s.first, s.last)))
            ∙ ap (λ (k : ℕ). inv.before ++ all_nodes d m l k hi inv.items) (sym less) ∙ inv.nodes;
        below =
            sym (leaves-down d m l (max_depth - (depth + 1)) inv.tiles) ∙ ap (λ (k : ℕ). each (leaves d m l k) inv.tiles) (sym less)
            ∙ inv.below;
      }

  -- all levels are opened
  pub growing-done : max_depth ≤ depth → Layered (between t c o) m l n origin room work hi
  growing-done h =
      let z : max_depth - depth ≡ 0 = omega arith in
      let s = inv.stage in
      let ns : inv.before ++ map (leaf_node d m l) inv.items ≡ all_nodes d m l max_depth 1 (root_item n ∷ []) =
      ap (λ (x : List Node). inv.before ++ x) (sym (nodes-none d m l hi inv.items))
      ∙ ap (λ (k : ℕ). inv.before ++ all_nodes d m l k hi inv.items) (sym z) ∙ inv.nodes in
      let ts : inv.tiles ≡ leaves d m l max_depth (range 0 n) =
      sym (leaves_none d m l inv.tiles) ∙ ap (λ (k : ℕ). each (leaves d m l k) inv.tiles) (sym z) ∙ inv.below in
      record {
        nodes = s.nodes ∙ ap (with_nodes origin) ns;
        count = s.last ∙ sym (ap length (sym ns) ∙ length-append inv.before (map (leaf_node d m l) inv.items)
            ∙ ap (λ (k : ℕ). length inv.before + k) (length-map inv.items (leaf_node d m l)));
        few = omega (arith, s.few, runs_few inv.tiles s.tiled.runs, s.tiled.full);
        tiles = s.tiled.words ∙ ap (each (laid d)) ts;
      }

-- `depth` levels are opened, whatever the room was before the root
abbrev pub Grows : List ℕ → ℕ → ℕ → ℕ → ℕ → ℕ → List ℕ → List ℕ → List ℕ → List ℕ → ℕ → ℕ → ℕ → Type 0
Grows t c o m l n room₀ work₀ room work lo hi depth =
    (g : Planted (between t c o) m l n room₀ work₀) → Growing t c o m l n g.origin room work lo hi depth
