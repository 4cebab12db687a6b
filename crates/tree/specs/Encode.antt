-- A tree, numbered and written as index words: 01, The tree, the numbering and Index words. Assumes nothing.
--
-- The five-row tree (rows 0 1 10 11 20, m = 2, l = 2), with R for how far a node reaches:
--     fork R0 (fork R1 (leaf R3 ((0, 0) ∷ (1, 1) ∷ []) (leaf R4 ((2, 0) ∷ []) bare)) (leaf R2 ((4, 0) ∷ (3, 9) ∷ []) bare)) bare
-- Level 0 is one family, the root alone at position 0: node 0 is (0, 5, 1, R0), since span is 1 and so its first child is node 1.
-- Its brood is one family of two at position 0: node 1 is (0, 3, 3, R1), an inner node whose children are numbered from 3 on, and
-- node 2 is (3, 2, 0, R2), a leaf behind the three positions of node 1.
-- The brood of level 1 is that of node 1: node 3 is (0, 2, 0, R3), and node 4 is (2, 1, 0, R4). They have no children.
-- So N is 5, and the positions are the entries in order: 0 0, 1 1, 2 0, 4 0, 3 9.
use Rattle.std.specs.Prelude.{◌+◌, suc, zero, ℕ, eqb, length, cond, List, [], ◌++◌, ◌∷◌}
use Rattle.laws.specs.Lists.{each}
use Rattle.limits.specs.Limits.{max_depth}
use Rattle.tree.specs.Grove.{Grove, Reach, bare, entries, firsts, fork, leaf}

-- a node: start, count, first child's number, and how far it reaches
abbrev pub Node : Type 0
Node = ℕ × ℕ × ℕ × Reach

-- as words; the inner reach in edition 2 alone
abbrev pub node_words : ℕ → Node → List ℕ
node_words e v = v.0 ∷ v.1 ∷ v.2 ∷ v.3.outer ∷ cond (eqb e 2) (v.3.inner ∷ []) []

-- a position's words: row number, distance
abbrev pub pair_words : ℕ × ℕ → List ℕ
pair_words e = e.0 ∷ e.1 ∷ []

-- how many nodes stand side by side
abbrev pub span : Grove → ℕ
span g = length (firsts g)

-- ---- level by level: the children of one node together, in the order of their parents
-- nodes side by side from position s on; `next` is the number of the first child among their children
unfoldable pub family : ℕ → ℕ → Grove → List Node
family next s bare = []
family next s (leaf R es g) = (s, length es, 0, R) ∷ family next (s + length es) g
family next s (fork R ks g) = (s, length (entries ks), next, R) ∷ family (next + span ks) (s + length (entries ks)) g

-- the families of their children, each with its position
unfoldable pub broods : ℕ → Grove → List (ℕ × Grove)
broods s bare = []
broods s (leaf R es g) = broods (s + length es) g
broods s (fork R ks g) = (s, ks) ∷ broods (s + length (entries ks)) g

-- how many nodes some families have, their spans together
abbrev pub spans : List (ℕ × Grove) → ℕ
spans [] = 0
spans (f ∷ fs) = span f.1 + spans fs

-- the nodes of one level, family by family
unfoldable pub level_nodes : ℕ → List (ℕ × Grove) → List Node
level_nodes next [] = []
level_nodes next (f ∷ fs) = family next f.0 f.1 ++ level_nodes (next + spans (broods f.0 f.1)) fs

-- the families of the next level
abbrev pub below : List (ℕ × Grove) → List (ℕ × Grove)
below fs = each (λ f. broods f.0 f.1) fs

-- the nodes of a level and of those below it
unfoldable pub nodes : ℕ → ℕ → List (ℕ × Grove) → List Node
nodes zero next fs = level_nodes next fs
nodes (suc deep) next fs = level_nodes next fs ++ nodes deep (next + spans (below fs)) (below fs)

-- all nodes, in number order
unfoldable pub numbered : Grove → List Node
numbered t = nodes max_depth (span t) ((0, t) ∷ [])

-- the words in edition e, over c columns of which the set o are circles: header, nodes, positions. The tree has the true inner reach
-- and is the same in both editions, so that no theorem exists twice
unfoldable pub encode : ℕ → ℕ → ℕ → ℕ → ℕ → Grove → List ℕ
encode e c o m l t =
    (e ∷ length (entries t) ∷ c ∷ m ∷ l ∷ length (numbered t) ∷ 1 ∷ o ∷ []) ++ (each (node_words e) (numbered t) ++ each pair_words (entries t))
