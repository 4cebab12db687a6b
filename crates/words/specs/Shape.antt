-- The shape: 01, The tree, Shape. What holds of an index's numbers with no table at hand. Assumes nothing.
use Rattle.std.specs.Prelude.{◌+◌, suc, zero, ℕ, eqb, leb, ltb, Bool, ◌&&◌, ◌||◌, cond, not, true, List}
use Rattle.laws.specs.Lists.{all, range}
use Rattle.limits.specs.Limits.{max_depth, max_distance}
use Rattle.words.specs.Words.{nodes#, child#, count#, dist#, inner#, l#, m#, n#, radius#, row#, start#}

-- node k is inner: a leaf has 0 for its first child
abbrev pub inner : List ℕ → ℕ → Bool
inner w k = not (eqb (child# w k) 0)

-- how many children node k has
abbrev pub brood : List ℕ → ℕ → ℕ
brood w k = cond (inner w k) (m# w) 0

-- the number that node k's first child has, if k is inner: after the root come the children of the nodes before k
unfoldable pub born : List ℕ → ℕ → ℕ
born w zero = 1
born w (suc k) = born w k + brood w k

-- the number of the first node at depth d: the first child of the first node a level higher
unfoldable pub level : List ℕ → ℕ → ℕ
level w zero = 0
level w (suc d) = born w (level w d)

-- the runs of k nodes from number j on tile the positions s up to e, in order
unfoldable pub tile : List ℕ → ℕ → ℕ → ℕ → ℕ → Bool
tile w j zero s e = eqb s e
tile w j (suc k) s e = eqb (start# w j) s && tile w (suc j) k (s + count# w j) e

-- node k, whose first child must have the number `next` and which is at depth 24 if `deep`: its run is not empty, its radius is in
-- range; with at most l rows or at depth 24 it is a leaf; any other is inner, and its m children's runs tile its own
abbrev pub node_fits : List ℕ → ℕ → ℕ → Bool → Bool
node_fits w k next deep =
    leb 1 (count# w k) && leb (radius# w k) max_distance && leb (inner# w k) max_distance
    && cond (leb (count# w k) (l# w) || deep) (eqb (child# w k) 0)
    (eqb (child# w k) next && tile w (child# w k) (m# w) (start# w k) (start# w k + count# w k))

-- node k fits where the numbering puts it
unfoldable pub node_ok_lem : List ℕ → ℕ → Bool
node_ok_lem w k = node_fits w k (born w k) (leb (level w max_depth) k)

-- position p: a row number below n, and a distance in range
abbrev pub position_ok : List ℕ → ℕ → Bool
position_ok w p = ltb (row# w p) (n# w) && leb (dist# w p) max_distance

-- the root's run is everything
abbrev pub root_fits_lem : List ℕ → Bool
root_fits_lem w = eqb (start# w 0) 0 && eqb (count# w 0) (n# w)

-- and each of the N nodes but the root is a child of one other. The children of nodes 0 .. k - 1 have the numbers 1 .. born w k - 1, each once
-- and in order, since a node's first child has the number `born` at its own place. So born w N ≡ N says that the children of all nodes are
-- exactly the numbers 1 .. N - 1: a node more would be nobody's child, and a child more would have no words.
abbrev pub root_ok_lem : List ℕ → ℕ → Bool
root_ok_lem w zero = true
root_ok_lem w (suc N) = root_fits_lem w && eqb (born w (suc N)) (suc N)

-- the nodes' part of the shape
abbrev pub tree_fits_lem : List ℕ → Bool
tree_fits_lem w = root_ok_lem w (nodes# w) && all (node_ok_lem w) (range 0 (nodes# w))

-- the whole shape: the nodes, and every position
unfoldable pub shape_ok_lem : List ℕ → Bool
shape_ok_lem w = tree_fits_lem w && all (position_ok w) (range 0 (n# w))
