-- What the full check asks of an index, in 01's words (The tree, Index words, Shape, full check) and 02's, as facts of numbers: no test, no list of
-- faults. The check accepts exactly the indexes that meet these (`accepted-means`, proofs/Meaning). Over the distance d between rows.
-- Assumes nothing.
use Rattle.std.specs.Prelude.{◌%◌, ◌*◌, ◌+◌, ◌-◌, ◌/◌, ◌<◌, ◌^◌, ◌≤◌, suc, zero, ℕ, length, List, ◌≡◌}
use Rattle.limits.specs.Limits.{max_columns, max_depth, max_distance, max_rows}
use Rattle.words.specs.Words.{nodes#, c#, child#, circles#, count#, dist#, edition#, first#, inner#, kind#, l#, m#, n#, radius#, row#, start#, words_of_lem}

-- ---- 01, Index words
-- no word is missing, and the header is possible. Both editions are indexes; that one in memory is of edition 2 is asked by each call
pub record Possible (w : List ℕ) : Type 0 where
  pub header : 8 ≤ length w
  pub whole : words_of_lem w ≤ length w
  pub edition : (1 ≤ edition# w) × (edition# w ≤ 2)
  pub rows : n# w ≤ max_rows
  pub columns : (1 ≤ c# w) × (c# w ≤ max_columns)
  pub fan : (2 ≤ m# w) × (m# w ≤ 64)
  pub leaf : (m# w ≤ l# w) × (l# w ≤ 1_024)
  pub nodes : 1 ≤ n# w → (1 ≤ nodes# w) × (nodes# w ≤ 2 * n# w - 1)
  pub none : n# w ≡ 0 → nodes# w ≡ 0
  pub kind : kind# w ≡ 1
  -- 02, R-1: of the set of circles no bit at or above the number of columns is on
  pub circles : (j : ℕ) → c# w ≤ j → circles# w / 2 ^ j % 2 ≡ 0

-- ---- 01, Shape
-- node k stands at depth e: the root at 0, a child one deeper than its parent
pub data Depth (w : List ℕ) : ℕ → ℕ → Type 0 where
  root : Depth w 0 0
  child : (k e j : ℕ) → Depth w k e → k < nodes# w → 1 ≤ child# w k → j < m# w → Depth w (child# w k + j) (suc e)

-- when the nodes before k have their children, the next child gets the number b: the first one 1, right behind the root; a leaf takes no number, and
-- the m children of an inner node take the next m. So nodes are numbered level by level, children of one node together, in the order of their parents
pub data Numbered (w : List ℕ) : ℕ → ℕ → Type 0 where
  start : Numbered w 0 1
  leaf : (k b : ℕ) → Numbered w k b → child# w k ≡ 0 → Numbered w (suc k) b
  inner : (k b : ℕ) → Numbered w k b → child# w k ≡ b → Numbered w (suc k) (b + m# w)

-- the runs of k nodes from number j on tile the positions s up to e, in order: each starts where the one before it ends
abbrev pub Tiled : List ℕ → ℕ → ℕ → ℕ → ℕ → Type 0
Tiled w j zero s e = s ≡ e
Tiled w j (suc k) s e = (start# w j ≡ s) × Tiled w (suc j) k (s + count# w j) e

-- node k and its depth: its run is not empty and its reaches are in range; with at most l rows or at depth 24 it is a leaf; any other is inner, and
-- its m children's runs tile its own
pub record Ruled (w : List ℕ) (k : ℕ) : Type 0 where
  pub depth : ℕ
  pub stands : Depth w k depth
  pub some : 1 ≤ count# w k
  pub far : radius# w k ≤ max_distance
  pub near : inner# w k ≤ max_distance
  pub few : count# w k ≤ l# w → child# w k ≡ 0
  pub deepest : max_depth ≤ depth → child# w k ≡ 0
  pub other : l# w < count# w k → depth < max_depth
      → (1 ≤ child# w k) × Tiled w (child# w k) (m# w) (start# w k) (start# w k + count# w k)

-- the shape
pub record Shaped (w : List ℕ) : Type 0 where
  -- the root's run, where there is a root, is all n positions
  pub root : 1 ≤ nodes# w → (start# w 0 ≡ 0) × (count# w 0 ≡ n# w)
  -- the numbers of all children, and the root's, are the numbers below N
  pub numbered : 1 ≤ nodes# w → Numbered w (nodes# w) (nodes# w)
  pub node : (k : ℕ) → k < nodes# w → Ruled w k
  pub row : (p : ℕ) → p < n# w → row# w p < n# w
  pub distance : (p : ℕ) → p < n# w → dist# w p ≤ max_distance

-- ---- 01, the full check
-- position p lies in node k's run, so that its row is a member of k
abbrev pub Member : List ℕ → ℕ → ℕ → Type 0
Member w k p = (start# w k ≤ p) × (p < start# w k + count# w k)

-- row i stands at a position
pub record Standing (w : List ℕ) (i : ℕ) : Type 0 where
  pub position : ℕ
  pub inside : position < n# w
  pub is : row# w position ≡ i

module _ (d : ℕ → ℕ → ℕ) (w : List ℕ) where
  -- node k's radius is the greatest distance from its first to any member: none is farther, and one is as far
  pub record Radius (k : ℕ) : Type 0 where
    pub within : (p : ℕ) → Member w k p → d (first# w k) (row# w p) ≤ radius# w k
    pub farthest : ℕ
    pub member : Member w k farthest
    pub reached : d (first# w k) (row# w farthest) ≡ radius# w k

  -- a member of node k other than its first is as near as the inner reach says
  pub record Nearest (k : ℕ) : Type 0 where
    pub nearest : ℕ
    pub member : Member w k nearest
    pub other : start# w k < nearest
    pub reached : d (first# w k) (row# w nearest) ≡ inner# w k

  -- 02, R-4: node k's inner reach is the least distance from its first to another member, 0 where there is none
  pub record InnerReach (k : ℕ) : Type 0 where
    pub alone : count# w k ≡ 1 → inner# w k ≡ 0
    pub within : (p : ℕ) → Member w k p → start# w k < p → inner# w k ≤ d (first# w k) (row# w p)
    pub reached : 2 ≤ count# w k → Nearest k

  -- THE CONDITIONS OF THE FULL CHECK
  pub record Conditions : Type 0 where
    pub words : Possible w
    pub shape : Shaped w
    -- each row stands somewhere, and none at two positions
    pub there : (i : ℕ) → i < n# w → Standing w i
    pub once : (p q : ℕ) → p < n# w → q < n# w → row# w p ≡ row# w q → p ≡ q
    -- the stored distance is that from the first of the leaf
    pub stored : (k p : ℕ) → k < nodes# w → child# w k ≡ 0 → Member w k p → dist# w p ≡ d (first# w k) (row# w p)
    pub radii : (k : ℕ) → k < nodes# w → Radius k
    -- edition 1 has no inner reaches
    pub inners : edition# w ≡ 2 → (k : ℕ) → k < nodes# w → InnerReach k
    -- each member is as close to its own centre, child a's first, as to any other centre of the node above, child b's first
    pub close : (k a b p : ℕ) → k < nodes# w → 1 ≤ child# w k → a < m# w → b < m# w → Member w (child# w k + a) p
        → d (first# w (child# w k + a)) (row# w p) ≤ d (first# w (child# w k + b)) (row# w p)
