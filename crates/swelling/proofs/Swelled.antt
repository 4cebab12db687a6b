-- The words of all rows are those of the tree that takes them at once, for every index in shape. Assumes nothing.
use Prim.Native.Nat.{◌-◌, ◌≤◌, ℕ}
use Rattle.appending.proofs.Back.{tree-fits}
use Rattle.appending.proofs.Wellmade.{fine-tree}
use Rattle.laws.specs.Lists.{range}
use Rattle.measure.specs.Table.{between, rows_of}
use Rattle.swelling.proofs.Swollen.{joins-swollen}
use Rattle.swelling.proofs.Turns.{rows-some}
use Rattle.swelling.specs.Rows.{appended_rows}
use Rattle.swelling.specs.Swell.{swollen_tree}
use Rattle.tree.proofs.Rows.{full-tree, rows-low}
use Rattle.tree.specs.Encode.{encode}
use Rattle.tree.specs.Grove.{tree_of}
use Rattle.words.proofs.InShape.{in_shape}
use Rattle.words.specs.InShape.{InShape}
use Rattle.words.specs.Shape.{shape_ok_lem, tree_fits_lem}
use Rattle.words.specs.Words.{circles#, l#, m#, n#, whole_ok}
use lib.Dec as dec
use mathlib.Core.Bool.{true}
use mathlib.Core.List.{List}
use mathlib.Core.Path.{◌∙◌, ◌≡◌, ap}

-- the same where the shape is read node by node
pub shape_at_once : (T : List ℕ) (c : ℕ) (w : List ℕ) (S : InShape w) → dec.T (tree_fits_lem w) → 1 ≤ n# w
    → appended_rows T c w
    ≡ encode 2 c (circles# w) (m# w) (l# w) (swollen_tree (between T c (circles# w)) (m# w) (l# w) (range (n# w) (rows_of T c - n# w)) (tree_of w))
shape_at_once T c w S fits h =
    rows-some T c w h
    ∙ ap (encode 2 c (circles# w) (m# w) (l# w)) (joins-swollen (between T c (circles# w)) (m# w) (l# w) S.whole.fan.0 S.whole.leaf.0
    (n# w) (rows_of T c - n# w) (tree_of w) (fine-tree w S fits) (full-tree w S) (rows-low w S))

-- THE WORDS OF ALL ROWS, WHERE THE INDEX HAS A ROW, ARE THOSE OF THE TREE THAT TAKES THEM AT ONCE
pub rows-at_once : (T : List ℕ) (c : ℕ) (w : List ℕ) → whole_ok w ≡ true → shape_ok_lem w ≡ true → 1 ≤ n# w
    → appended_rows T c w
    ≡ encode 2 c (circles# w) (m# w) (l# w) (swollen_tree (between T c (circles# w)) (m# w) (l# w) (range (n# w) (rows_of T c - n# w)) (tree_of w))
rows-at_once T c w whole shape h = shape_at_once T c w (in_shape w whole shape) (tree-fits w shape) h
