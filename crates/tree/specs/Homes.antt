-- Bounds and homes: 01, Which rows are measured. Over the distance x of each row from the query. Assumes nothing.
use Rattle.std.specs.Prelude.{◌+◌, ◌-◌, ◌/◌, max, ℕ, List, [], ◌++◌, map}
use Rattle.laws.specs.Lists.{gap, head, least, rest}
use Rattle.tree.specs.Grove.{Grove, Reach, bare, first, firsts, fork, leaf}

-- a child's bound: b is its parent's, y the least distance over the centres, x its own centre's distance, R how far it reaches. It speaks of
-- its members other than the first
abbrev pub child_bound_lem : ℕ → ℕ → ℕ → Reach → ℕ
child_bound_lem b y x R = max b (max (max (x - R.outer) (R.inner - x)) ((x - y + 1) / 2))

module _ (x : ℕ → ℕ) where
  -- the least distance over the centres of an inner node
  abbrev pub nearest_of : Grove → ℕ
  nearest_of ks = least (x (first ks)) (map x (firsts ks))

  -- the bound of a row in a leaf that has the bound b and the first f
  abbrev pub row_bound : ℕ → ℕ → ℕ × ℕ → ℕ
  row_bound b f e = max b (gap (x f) e.1)

  -- Every row but the nodes' firsts, with its home bound. β gives a node's bound from its first's distance and how far it reaches. A centre but
  -- the first is at home in the inner node whose centre it is, at the topmost such; any other row in its leaf.
  -- β is 0 for the root, whatever its reach. For the children of a node with the bound b whose centres are at y at least it is `child_bound_lem b y`.
  -- In the five-row table with query 9 the root's centres, rows 0 and 4, are at 9 and 11, so y is 9 and β is `child_bound_lem 0 9`: node 1, whose first
  -- is at 9 and which reaches from 1 to 10, has the bound 0, and node 2, at 11 and from 9 to 9, has max (11 - 9) ((11 - 9 + 1) / 2) = 2.
  unfoldable pub homes_in : (ℕ → Reach → ℕ) → Grove → List (ℕ × ℕ)
  homes_in β bare = []
  homes_in β (leaf R es g) =
      let f = head (map (λ e. e.0) es) in
      map (λ e. (e.0, row_bound (β (x f) R) f e)) (rest es) ++ homes_in β g
  homes_in β (fork R ks g) =
      let b = β (x (first ks)) R in
      map (λ f. (f, b)) (rest (firsts ks)) ++ homes_in (child_bound_lem b (nearest_of ks)) ks ++ homes_in β g

  -- the root's bound is 0, and so is the home bound of its first
  unfoldable pub homes : Grove → List (ℕ × ℕ)
  homes t = map (λ f. (f, 0)) (firsts t) ++ homes_in (λ x R. 0) t
