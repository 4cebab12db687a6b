-- Pieces of an index that takes rows that can be opened, and what stands in a piece's place then: 02, R-2. A working notion, on which no promise
-- rests. Assumes nothing.
use Rattle.std.specs.Prelude.{◌*◌, ◌-◌, ◌<◌, ◌≤◌, suc, ℕ, T, leb, drop, length, take, Bool, cond, false, not, true, List, [], ◌++◌, ◌∷◌, ◌≡◌}
use Rattle.appending.specs.Append.{orderly}
use Rattle.laws.specs.Every.{Every}
use Rattle.limits.specs.Limits.{max_depth, max_rows}
use Rattle.lodging.specs.Standing.{New}
use Rattle.measure.specs.Table.{between}
use Rattle.swelling.specs.Pieces.{Piece, grown, old, opens, settled}
use Rattle.tree.specs.Build.{Run}
use Rattle.words.specs.InShape.{InShape, Left}
use Rattle.words.specs.Shape.{inner, level, tree_fits_lem}
use Rattle.words.specs.Words.{nodes#, c#, circles#, edition#, l#, n#}

-- an edition 2 index in shape, and a table of n rows that has all of its rows
pub record Task (t w : List ℕ) (n : ℕ) : Type 0 where
  pub shape : InShape w
  pub tree : T (tree_fits_lem w)
  pub edition : edition# w ≡ 2
  pub more : n# w ≤ n
  pub few : n ≤ max_rows
  pub table : c# w * n ≤ length t

-- a run whose rows behind the first l + 1 are where they are when it is put in order
abbrev pub Late : ℕ → List ℕ → Type 0
Late l run = orderly run ≡ orderly (take (suc l) run) ++ drop (suc l) run

module _ (t w : List ℕ) (n : ℕ) where
  -- with `deep` levels below it: an old inner node of the index with new rows; a run with no row twice, which waits in order; a leaf
  abbrev pub Sound : ℕ → Piece → Type 0
  Sound deep (old s o zs) =
      (o < nodes# w) × (inner w o ≡ true) × Left w deep o × New t (c# w) w zs × Every (λ z. z < n) zs × (o < level w (suc (max_depth - deep)))
  Sound deep (grown s R run) = Run run × Every (λ i. i < n) run × (1 ≤ deep → l# w < length run → Late (l# w) run)
  Sound deep (settled s R es) = 1 ≤ length es

-- it waits to be opened: any other is a leaf
abbrev pub waits : List ℕ → Piece → Bool
waits w (old s o zs) = true
waits w (grown s R run) = not (leb (length run) (l# w))
waits w (settled s R es) = false

-- what stands in its place one level down: a leaf stays
abbrev pub opened : List ℕ → List ℕ → Piece → List Piece
opened t w q = cond (waits w q) (opens (between t (c# w) (circles# w)) w q) (q ∷ [])
