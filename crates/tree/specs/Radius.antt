-- The radius search: 01, Which rows are measured, Radius, and 02, R-5. Over the distance x of each row from the query. Assumes nothing.
use Rattle.std.specs.Prelude.{◌%◌, ◌+◌, ℕ, leb, ltb, Bool, cond, List, [], ◌++◌, map}
use Rattle.laws.specs.Lists.{gap, head, look, range, rest, tally}
use Rattle.tree.specs.Grove.{Grove, Reach, bare, first, firsts, fork, leaf, rows_in}
use Rattle.tree.specs.Homes.{child_bound_lem, nearest_of}

-- 02, R-5: a row that is gone is never in: its how-byte is 1 if it was measured, else 0
abbrev pub shown : (ℕ → Bool) → ℕ × ℕ → ℕ × ℕ
shown gone m = (m.0, cond (gone m.0) (m.1 % 2) m.1)

-- the marks of a search that shows no row that is gone
abbrev pub veiled : (ℕ → Bool) → List (ℕ × ℕ) → List (ℕ × ℕ)
veiled gone ms = map (shown gone) ms

module _ (x : ℕ → ℕ) (r : ℕ) where
  -- a measured row: 3 in, 1 out
  abbrev pub by_distance : ℕ → ℕ
  by_distance i = cond (leb (x i) r) 3 1

  -- a row of an opened leaf whose first is f, by its stored distance: 0 out, 2 in, else it is measured
  abbrev pub in_leaf_lem : ℕ → ℕ × ℕ → ℕ
  in_leaf_lem f e = cond (ltb r (gap (x f) e.1)) 0 (cond (leb (x f + e.1) r) 2 (by_distance e.0))

  -- the marks of a node's rows but its first, which is at x: swept, closed or opened, in this order
  abbrev pub visit : ℕ → Reach → ℕ → List ℕ → List (ℕ × ℕ) → List (ℕ × ℕ)
  visit x R b others opened = cond (leb (x + R.outer) r) (map (λ i. (i, 2)) others) (cond (ltb r b) (map (λ i. (i, 0)) others) opened)

  -- every row but the nodes' firsts, with its how-byte; β gives a node's bound. An opened inner node measures every centre.
  -- As in Homes, β is 0 for the root and `child_bound_lem b y` for the children of a node with the bound b. In the five-row table with query 9 and r 1
  -- it is `child_bound_lem 0 9` for nodes 1 and 2: node 2 has the bound 2, which is above r, so it is closed and row 3 gets 0.
  unfoldable pub marks_in : (ℕ → Reach → ℕ) → Grove → List (ℕ × ℕ)
  marks_in β bare = []
  marks_in β (leaf R es g) =
      let f = head (map (λ e. e.0) es) in
      visit (x f) R (β (x f) R) (rest (map (λ e. e.0) es)) (map (λ e. (e.0, in_leaf_lem f e)) (rest es)) ++ marks_in β g
  marks_in β (fork R ks g) =
      let f = first ks in
      visit (x f) R (β (x f) R) (rest (rows_in ks))
      (map (λ i. (i, by_distance i)) (rest (firsts ks)) ++ marks_in (child_bound_lem (β (x f) R) (nearest_of x ks)) ks)
      ++ marks_in β g

  -- the root's first is measured to begin with
  unfoldable pub marks : Grove → List (ℕ × ℕ)
  marks t = map (λ f. (f, by_distance f)) (firsts t) ++ marks_in (λ x R. 0) t

  -- the how-bytes by row number; the rows that are gone are measured as any other, and never in
  unfoldable pub radius_how : (ℕ → Bool) → ℕ → Grove → List ℕ
  radius_how gone n t = map (λ i. look i (veiled gone (marks t))) (range 0 n)

-- how many rows are in
abbrev pub inside : List ℕ → ℕ
inside how = tally (leb 2) how
