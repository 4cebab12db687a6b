-- The new rows of an old inner node, each marked with the child that takes it: 02, R-2. A working notion, on which no promise rests. Assumes nothing.
use Rattle.std.specs.Prelude.{◌%◌, ◌*◌, ◌+◌, ◌<◌, ◌≤◌, ℕ, length, true, List, [], ◌∷◌, ◌≡◌}
use Rattle.laws.specs.Every.{Every}
use Rattle.laws.specs.Lists.{each, greatest, lowest}
use Rattle.limits.specs.Limits.{max_rows}
use Rattle.rounds.specs.Entries.{InTable}
use Rattle.split.specs.Runs.{rows}
use Rattle.swelling.specs.Pieces.{kid_for}
use Rattle.swelling.specs.Swell.{reach_taking}
use Rattle.tree.specs.Grove.{reach#}
use Rattle.words.specs.InShape.{InShape}
use Rattle.words.specs.Shape.{inner}
use Rattle.words.specs.Words.{nodes#, c#, child#, count#, first#, n#}

module _ (d : ℕ → ℕ → ℕ) (w : List ℕ) (o : ℕ) where
  -- a row's entry: its distance from the closest child's first, and that child's place
  abbrev pub mark_entry : ℕ → List ℕ
  mark_entry z = z ∷ d (first# w (child# w o + kid_for d w o z)) z ∷ kid_for d w o z ∷ []

  -- the entries of some rows
  unfoldable pub marked : List ℕ → List ℕ
  marked zs = each mark_entry zs

-- entries of rows of the table, and an inner node of an index in shape
pub record Marks (t : List ℕ) (c : ℕ) (w : List ℕ) (o : ℕ) (part : List ℕ) : Type 0 where
  pub shape : InShape w
  pub columns : c# w ≡ c
  pub there : o < nodes# w
  pub inner : inner w o ≡ true
  pub table : c * n# w ≤ length t
  pub whole : length part % 3 ≡ 0
  pub known : Every (λ z. InTable t c z) (rows part)
  pub few : Every (λ z. z < max_rows) (rows part)
  pub short : length part ≤ 3 * max_rows

-- the two numbers are those of how far node q reaches that takes rows at the distances vs, of which these are the count, the greatest and the least
abbrev pub Reaching : List ℕ → ℕ → ℕ → ℕ → ℕ → ℕ → ℕ → Type 0
Reaching w q count far near radius inner =
    (vs : List ℕ) → count ≡ length vs → far ≡ greatest vs → near ≡ lowest vs
    → (radius ≡ (reach_taking (count# w q) (reach# w q) vs).outer) × (inner ≡ (reach_taking (count# w q) (reach# w q) vs).inner)
