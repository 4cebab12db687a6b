-- The descent by the words of the index: the marks of a node's rows. A working notion, on which no promise rests.
-- Assumes nothing.
use Rattle.std.specs.Prelude.{ℕ, List, map}
use Rattle.fates.specs.declared.Fate.TheVariants.{Closed, Opened, Swept}
use Rattle.fates.specs.declared.Fate.{Fate}
use Rattle.marking.specs.Marks.{first_at, least_from}
use Rattle.tree.specs.Grove.{bare, reach#, tree_at}
use Rattle.tree.specs.Homes.{child_bound_lem}
use Rattle.tree.specs.Radius.{marks_in}

-- the how-bytes of each case for all rows but the first: 2, in unmeasured; 0, out unmeasured; or what opening the node gives
abbrev pub fate_marks : List ℕ → List (ℕ × ℕ) → Fate → List (ℕ × ℕ)
fate_marks others opened Swept = map (λ i. (i, 2)) others
fate_marks others opened Closed = map (λ i. (i, 0)) others
fate_marks others opened Opened = opened

module _ (x : ℕ → ℕ) (r : ℕ) (w : List ℕ) where
  -- the marks of the rows of node k but its first, with the bound b and `levels` left below it
  unfoldable pub node_marks : ℕ → ℕ → ℕ → List (ℕ × ℕ)
  node_marks levels k b = marks_in x r (λ x R. b) (tree_at w levels k bare)

  -- those of node i as one of the children ch, ch + 1, .. of a node with the bound b
  abbrev pub kid_marks : ℕ → ℕ → ℕ → ℕ → List (ℕ × ℕ)
  kid_marks levels b ch i = node_marks levels i (child_bound_lem b (least_from x w ch) (first_at x w i) (reach# w i))
