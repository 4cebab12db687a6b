-- What stands in the workspace of a piece of an index that takes rows: 02, R-2. A working notion, on which no promise rests. Assumes nothing.
use Rattle.std.specs.Prelude.{◌%◌, ◌*◌, ◌+◌, ◌<◌, ◌≤◌, ℕ, leb, ltb, drop, length, Bool, ◌||◌, cond, List, [], ◌++◌, ◌∷◌, map, ◌≡◌}
use Rattle.appending.specs.Append.{Ascends, orderly}
use Rattle.laws.specs.Every.{Every}
use Rattle.laws.specs.Lists.{each}
use Rattle.limits.specs.Limits.{max_rows}
use Rattle.measure.specs.Table.{between}
use Rattle.rounds.specs.Entries.{InTable, pairs_in}
use Rattle.split.specs.Runs.{laid, rows}
use Rattle.swelling.specs.Pieces.{Piece, grown, leaf_piece, old, settled}
use Rattle.tree.specs.Encode.{pair_words}
use Rattle.words.specs.InShape.{InShape}
use Rattle.words.specs.Words.{nodes#, at, c#, circles#, count#, dist#, l#, n#, row#, run#, start#}

-- ---- a leaf and the rows that it takes
-- its rows in their order, and those behind them
abbrev pub leaf_run : List ℕ → ℕ → List ℕ → List ℕ
leaf_run w o zs = map (row# w) (run# w o) ++ zs

-- the rows that stand in a part behind node o's own entries
unfoldable pub new_rows : List ℕ → ℕ → List ℕ → List ℕ
new_rows w o part = rows (drop (3 * count# w o) part)

-- the i-th of all of them
unfoldable pub row_of : List ℕ → ℕ → List ℕ → ℕ → ℕ
row_of w o part i = cond (ltb i (count# w o)) (row# w (start# w o + i)) (at part (3 * i))

-- a leaf as it is stored
unfoldable pub kept_words : List ℕ → ℕ → List ℕ
kept_words w o = each (λ p. row# w p ∷ dist# w p ∷ 0 ∷ []) (run# w o)

-- rows that are new to an index, in the order of the table
pub record New (t : List ℕ) (c : ℕ) (w zs : List ℕ) : Type 0 where
  pub ascend : Ascends zs
  pub above : Every (λ z. n# w ≤ z) zs
  pub there : Every (λ z. InTable t c z) zs
  pub few : Every (λ z. z < max_rows) zs

-- node o of an index in shape, and a part with an entry for each of its rows and for each of the new ones
pub record Takes (t : List ℕ) (c : ℕ) (w : List ℕ) (o : ℕ) (part : List ℕ) : Type 0 where
  pub shape : InShape w
  pub columns : c# w ≡ c
  pub there : o < nodes# w
  pub table : c * n# w ≤ length t
  pub whole : length part % 3 ≡ 0
  pub own : 3 * count# w o ≤ length part
  pub few : length part ≤ 3 * max_rows
  pub new : New t c w (new_rows w o part)

-- ---- pieces
module _ (t : List ℕ) (c : ℕ) (w : List ℕ) (last : Bool) where
  -- the words of a piece; `last` says that there is no level below it. Of an old inner node only its new rows are known
  abbrev pub Stands : Piece → List ℕ → Type 0
  Stands (old s o zs) ws = (length ws ≡ 3 * (count# w o + length zs)) × (new_rows w o ws ≡ zs)
  Stands (grown s R run) ws = ws ≡ laid (between t c (circles# w)) (cond (last || leb (length run) (l# w)) run (orderly run))
  Stands (settled s R es) ws = (length ws ≡ 3 * length es) × (pairs_in ws ≡ each pair_words es)

  -- its mark while it waits: 0 for a run, and for a leaf that nobody would split
  abbrev pub mark_of : Piece → ℕ
  mark_of (old s o zs) = o + 1
  mark_of (grown s R run) = 0
  mark_of (settled s R es) = cond (last || leb (length es) (l# w)) 0 4294967295

-- WHAT A LEAF IS LAID AS: its piece, wherever it starts
pub record Lodges (t : List ℕ) (c : ℕ) (w : List ℕ) (o : ℕ) (last : Bool) (part part' : List ℕ) (mark : ℕ) : Type 0 where
  pub stands : (s : ℕ) → Stands t c w last (leaf_piece (between t c (circles# w)) w s o (new_rows w o part)) part'
  pub marked : (s : ℕ) → mark ≡ mark_of t c w last (leaf_piece (between t c (circles# w)) w s o (new_rows w o part))
