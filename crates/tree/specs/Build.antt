-- The tree that the build grows: 01, The tree. Over the distance d between rows. Assumes nothing.
use Rattle.std.specs.Prelude.{◌-◌, ◌≤◌, suc, zero, ℕ, eqb, leb, ltb, length, ◌&&◌, ◌||◌, cond}
use Rattle.laws.specs.Lists.{greatest, head, keep, least, lowest, range, rest, times, without}
use Rattle.limits.specs.Limits.{max_depth}
use Rattle.measure.specs.Table.{between, rows_of}
use Rattle.tree.specs.Encode.{encode}
use Rattle.tree.specs.Grove.{Grove, Reach, bare, fork, leaf}
use mathlib.Core.List.{List, [], ◌++◌, ◌∷◌, foldr, map}

-- a run: not empty, no row twice
abbrev pub Run : List ℕ → Type 0
Run r = (1 ≤ length r) × ((i : ℕ) → times i r ≤ 1)

module _ (d : ℕ → ℕ → ℕ) where
  -- ---- centres
  -- the least distance of row i from the centres so far
  abbrev pub nearness : List ℕ → ℕ → ℕ
  nearness cs i = least (d (head cs) i) (map (λ k. d k i) cs)

  -- of two rows the one farther from the centres, of equals the one with the lower number
  abbrev pub farther : List ℕ → ℕ → ℕ → ℕ
  farther cs i j = cond (ltb (nearness cs j) (nearness cs i) || (eqb (nearness cs j) (nearness cs i) && ltb i j)) i j

  -- the farthest of some rows
  abbrev pub farthest : List ℕ → List ℕ → ℕ
  farthest cs [] = 0
  farthest cs (i ∷ []) = i
  farthest cs (i ∷ j ∷ is) = farther cs i (farthest cs (j ∷ is))

  -- k more centres, one by one the farthest of the rows is; with them the rows that are left
  unfoldable pub choose : ℕ → List ℕ → List ℕ → List ℕ × List ℕ
  choose zero cs is = (cs, is)
  choose (suc k) cs is = let j = farthest cs is in choose k (cs ++ j ∷ []) (without j is)

  -- ---- groups
  -- of two centres the one closer to row i, of equals the earlier
  abbrev pub closer : ℕ → ℕ → ℕ → ℕ
  closer i a b = cond (leb (d a i) (d b i)) a b

  -- the centre whose group row i joins
  abbrev pub closest : List ℕ → ℕ → ℕ
  closest [] i = 0
  closest (a ∷ []) i = a
  closest (a ∷ b ∷ cs) i = closer i a (closest (b ∷ cs) i)

  -- the children's runs: each centre, and behind it the rows of its group in the order of the run
  unfoldable pub split : ℕ → List ℕ → List (List ℕ)
  split m run =
      let p = choose (m - 1) (head run ∷ []) (rest run) in
      map (λ a. a ∷ keep (λ i. eqb (closest p.0 i) a) p.1) p.0

  -- ---- the tree
  -- how far the farthest member is from the run's first
  abbrev pub radius : List ℕ → ℕ
  radius run = greatest (map (d (head run)) run)

  -- 02, R-4: how far the nearest member other than the first is, 0 for a run of one row
  abbrev pub inner_reach : List ℕ → ℕ
  inner_reach run = lowest (map (d (head run)) (rest run))

  -- how far a run reaches
  abbrev pub reach : List ℕ → Reach
  reach run = record { outer = radius run; inner = inner_reach run }

  -- a run's leaf, before the nodes g: each row with its distance from the first
  abbrev pub leaf_of : List ℕ → Grove → Grove
  leaf_of run g = leaf (reach run) (map (λ i. (i, d (head run) i)) run) g

  -- the node of a run with at most `deep` levels below it, before the nodes g: a leaf if it has at most l rows or no level is left
  unfoldable pub grow : ℕ → ℕ → ℕ → List ℕ → Grove → Grove
  grow m l zero run g = leaf_of run g
  grow m l (suc deep) run g =
      let branch = fork (reach run) (foldr (grow m l deep) bare (split m run)) g in
      cond (leb (length run) l) (leaf_of run g) branch

-- the tree of n rows: the root's run is all of them, ascending
abbrev pub plant : (ℕ → ℕ → ℕ) → ℕ → ℕ → ℕ → Grove
plant d m l zero = bare
plant d m l (suc n) = grow d m l max_depth (range 0 (suc n)) bare

-- the index words, in edition e, of a table of c columns of which the set o are circles
unfoldable pub build : List ℕ → ℕ → ℕ → ℕ → ℕ → ℕ → List ℕ
build T c o e m l = encode e c o m l (plant (between T c o) m l (rows_of T c))
