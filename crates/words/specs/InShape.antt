-- What the layers above use of an index in shape: the words' and the shape's tests, read node by node. Assumes nothing.
use Rattle.std.specs.Prelude.{◌*◌, ◌+◌, ◌-◌, ◌<◌, ◌≤◌, ℕ, T, length, false, true, List, ◌≡◌}
use Rattle.limits.specs.Limits.{max_centres, max_columns, max_depth, max_distance, max_leaf, max_rows, min_centres}
use Rattle.words.specs.Shape.{inner, level, tile}
use Rattle.words.specs.Words.{nodes#, c#, child#, count#, dist#, edition#, inner#, l#, m#, n#, radius#, row#, start#, words_of_lem}

-- no word is missing, and the header's numbers are possible
pub record Whole (w : List ℕ) : Type 0 where
  pub words : words_of_lem w ≤ length w
  pub edition : (1 ≤ edition# w) × (edition# w ≤ 2)
  pub rows : n# w ≤ max_rows
  pub columns : (1 ≤ c# w) × (c# w ≤ max_columns)
  pub fan : (min_centres ≤ m# w) × (m# w ≤ max_centres)
  pub leaf : (m# w ≤ l# w) × (l# w ≤ max_leaf)
  pub nodes : nodes# w ≤ 2 * n# w
  pub rooted : 1 ≤ n# w → 1 ≤ nodes# w

-- node k has at most `left` levels below it
abbrev pub Left : List ℕ → ℕ → ℕ → Type 0
Left w left k = (left ≤ max_depth) × (level w (max_depth - left) ≤ k)

-- the children of the inner node k
pub record Kids (w : List ℕ) (k : ℕ) : Type 0 where
  pub inside : child# w k + m# w ≤ nodes# w
  pub later : k < child# w k
  pub tiled : T (tile w (child# w k) (m# w) (start# w k) (start# w k + count# w k))
  pub same : start# w (child# w k) ≡ start# w k
  pub part : (j : ℕ) → j < m# w
      → (start# w k ≤ start# w (child# w k + j)) × (start# w (child# w k + j) + count# w (child# w k + j) ≤ start# w k + count# w k)
  pub deeper : (left : ℕ) → Left w left k → 1 ≤ left
  pub down : (left j : ℕ) → Left w left k → Left w (left - 1) (child# w k + j)

-- node k
pub record Node (w : List ℕ) (k : ℕ) : Type 0 where
  pub some : 1 ≤ count# w k
  pub run : start# w k + count# w k ≤ n# w
  pub near : radius# w k ≤ max_distance
  pub nearer : inner# w k ≤ max_distance
  pub kids : inner w k ≡ true → Kids w k
  pub bottom : Left w 0 k → inner w k ≡ false

-- position p
pub record Place (w : List ℕ) (p : ℕ) : Type 0 where
  pub row : row# w p < n# w
  pub near : dist# w p ≤ max_distance

-- the root
pub record Root (w : List ℕ) : Type 0 where
  pub there : 1 ≤ nodes# w
  pub start : start# w 0 ≡ 0
  pub count : count# w 0 ≡ n# w

-- an index in shape
pub record InShape (w : List ℕ) : Type 0 where
  pub whole : Whole w
  pub root : 1 ≤ n# w → Root w
  pub node : (k : ℕ) → k < nodes# w → Node w k
  pub place : (p : ℕ) → p < n# w → Place w p

-- an index in shape over n rows of c columns
pub record Over (w : List ℕ) (n c : ℕ) : Type 0 where
  pub shape : InShape w
  pub rows : n# w ≡ n
  pub columns : c# w ≡ c
