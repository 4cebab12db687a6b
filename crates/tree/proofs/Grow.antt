-- The tree that the build grows is well made: its runs have the rows that there were. Assumes nothing.
use Prim.Native.Nat.{◌+◌, ◌≤◌, suc, zero, ℕ}
use Rattle.laws.proofs.Every.{every-all, every-both, every_map, every_of, greatest_under, lowest_under}
use Rattle.laws.proofs.Lists.{map_id, paired, tally_append, tally_length}
use Rattle.laws.proofs.Shares.{every_∀, part_times}
use Rattle.laws.proofs.Tests.{holds}
use Rattle.laws.proofs.Times.{tally_lefts}
use Rattle.laws.specs.Every.{Every}
use Rattle.laws.specs.Lists.{head, joined, keep, rest, tally, times}
use Rattle.limits.specs.Limits.{max_distance}
use Rattle.tree.proofs.Centres.{chosen, chosen-length, group_of, groups-tally, left, split-is}
use Rattle.tree.proofs.Encode.{Even}
use Rattle.tree.proofs.Full.{Full}
use Rattle.tree.proofs.Shaped.{Fine, Small}
use Rattle.tree.specs.Build.{Run, closest, grow, inner_reach, leaf_of, radius, reach, split}
use Rattle.tree.specs.Encode.{span}
use Rattle.tree.specs.Grove.{Grove, bare, entries, fork, rows_in}
use borrow.Author.Tests.{leb-false}
use lib.Dec.{T, eqb, leb}
use lib.ListN.{length, length-map}
use mathlib.Core.Bool.{Bool, ◌||◌, cond, false, or-true, true}
use mathlib.Core.List.{List, [], ◌∷◌, append-nil, foldr, map}
use mathlib.Core.Path.{◌∙◌, ◌≡◌, ap, refl, subst, sym}
use native.Mathlib.Nat.{add-zero}
use native.Mathlib.Omega.{arith}

-- the rows of a leaf, and of the nodes after it
leaf_tally : (d : ℕ → ℕ → ℕ) (f : ℕ → Bool) (run : List ℕ) (g : Grove) → tally f (rows_in (leaf_of d run g)) ≡ tally f run + tally f (rows_in g)
leaf_tally d f run g =
    tally_lefts f (map (λ i. (i, d (head run) i)) run) (entries g)
    ∙ ap (λ is. tally f is + tally f (rows_in g)) (paired (λ i. i) (d (head run)) run ∙ map_id run)

-- the radius is in range, as all distances are
radius_fine : (d : ℕ → ℕ → ℕ) → ((i j : ℕ) → d i j ≤ max_distance) → (run : List ℕ) → radius d run ≤ max_distance
radius_fine d D run =
    greatest_under max_distance (map (d (head run)) run)
    (every_map (λ a. a ≤ max_distance) (d (head run)) run (every-all (λ i. d (head run) i ≤ max_distance) (λ i. D (head run) i) run))

-- so is the inner reach
inner_fine : (d : ℕ → ℕ → ℕ) → ((i j : ℕ) → d i j ≤ max_distance) → (run : List ℕ) → inner_reach d run ≤ max_distance
inner_fine d D run =
    lowest_under max_distance (map (d (head run)) (rest run))
    (every_map (λ a. a ≤ max_distance) (d (head run)) (rest run)
    (every-all (λ i. d (head run) i ≤ max_distance) (λ i. D (head run) i) (rest run)))

-- and so both
reach_fine : (d : ℕ → ℕ → ℕ) → ((i j : ℕ) → d i j ≤ max_distance) → (run : List ℕ) → Small (reach d run)
reach_fine d D run = (radius_fine d D run, inner_fine d D run)

-- at depth 24 a leaf may have any number of rows
always : (b : Bool) → T (b || true)
always b = holds (b || true) (or-true b)

module _ (d : ℕ → ℕ → ℕ) (m l : ℕ) (m1 : 1 ≤ m) (ml : m ≤ l) where
  -- ---- the split of a run
  -- its runs have its rows
  pub split-tally : (f : ℕ → Bool) (run : List ℕ) → Run run → m ≤ length run → tally f (joined (split d m run)) ≡ tally f run
  split-tally f run r k =
      let cs : List ℕ = chosen d m run in
      ap (λ gs. tally f (joined gs)) (split-is d m run)
      ∙ ap (λ (is : List ℕ). tally f (joined (map (λ a. a ∷ keep (λ i. eqb (closest d cs i) a) is) cs))) (sym (append-nil (left d m run)))
      ∙ groups-tally d m m1 f run [] r k ∙ add-zero (tally f run)

  -- there are m of them
  pub split-length : (run : List ℕ) → length (split d m run) ≡ m
  split-length run = ap length (split-is d m run) ∙ length-map (chosen d m run) (group_of d m run) ∙ chosen-length d m m1 run

  -- none is empty, and no row is in one twice
  pub split_runs : (run : List ℕ) → Run run → m ≤ length run → Every Run (split d m run)
  split_runs run r k =
      every-both (λ q. 1 ≤ length q) (λ q. (i : ℕ) → times i q ≤ 1) Run (λ q a b. (a, b)) (split d m run)
      (subst (Every (λ q. 1 ≤ length q)) (sym (split-is d m run))
      (every_map (λ q. 1 ≤ length q) (group_of d m run) (chosen d m run)
      (every-all (λ a. 1 ≤ length (group_of d m run a)) (λ a. omega arith) (chosen d m run))))
      (every_∀ (λ q i. times i q ≤ 1) (split d m run)
      (λ i. every_of (λ q. times i q ≤ times i (joined (split d m run))) (λ q. times i q ≤ 1)
      (λ q h. omega (arith, split-tally (eqb i) run r k, r.1 i)) (split d m run) (part_times i (split d m run))))

  -- ---- one node
  -- it is one node before the nodes g
  pub grown-span : (deep : ℕ) (run : List ℕ) (g : Grove) → span (grow d m l deep run g) ≡ suc (span g)
  unfolding grow
  grown-span zero run g = refl
  grown-span (suc deep) run g = go (leb (length run) l)
    where
      go : (b : Bool) → span (cond b (leaf_of d run g) (fork (reach d run) (foldr (grow d m l deep) bare (split d m run)) g)) ≡ suc (span g)
      go true = refl
      go false = refl

  -- a run a node
  pub forest-span : (deep : ℕ) (gs : List (List ℕ)) → span (foldr (grow d m l deep) bare gs) ≡ length gs
  forest-span deep [] = refl
  forest-span deep (r ∷ gs) = grown-span deep r (foldr (grow d m l deep) bare gs) ∙ ap suc (forest-span deep gs)

  -- THE ROWS OF A GROWN NODE ARE ITS RUN, in another order
  pub grown-tally : (deep : ℕ) (f : ℕ → Bool) (run : List ℕ) (g : Grove) → Run run
      → tally f (rows_in (grow d m l deep run g)) ≡ tally f run + tally f (rows_in g)
  unfolding grow
  grown-tally zero f run g r = leaf_tally d f run g
  grown-tally (suc deep) f run g r = go (λ f q g k. grown-tally deep f q g k) (leb (length run) l) refl
    where
      forest : ((f : ℕ → Bool) (run : List ℕ) (g : Grove) → Run run → tally f (rows_in (grow d m l deep run g)) ≡ tally f run + tally f (rows_in g))
          → (gs : List (List ℕ)) → Every Run gs → tally f (rows_in (foldr (grow d m l deep) bare gs)) ≡ tally f (joined gs)
      forest ih [] h = refl
      forest ih (q ∷ gs) h = omega (arith, ih f q (foldr (grow d m l deep) bare gs) h.0, forest ih gs h.1, tally_append f q (joined gs))

      go : ((f : ℕ → Bool) (run : List ℕ) (g : Grove) → Run run → tally f (rows_in (grow d m l deep run g)) ≡ tally f run + tally f (rows_in g))
          → (b : Bool) → leb (length run) l ≡ b
          → tally f (rows_in (cond b (leaf_of d run g) (fork (reach d run) (foldr (grow d m l deep) bare (split d m run)) g)))
          ≡ tally f run + tally f (rows_in g)
      go ih true e = leaf_tally d f run g
      go ih false e =
          let k : m ≤ length run = omega (arith, leb-false (length run) l e) in
          let ks : Grove = foldr (grow d m l deep) bare (split d m run) in
          omega (arith, tally_lefts f (entries ks) (entries g), forest ih (split d m run) (split_runs run r k), split-tally f run r k)

  -- the rows of the nodes side by side are their runs'
  pub forest-tally : (deep : ℕ) (f : ℕ → Bool) (gs : List (List ℕ)) → Every Run gs
      → tally f (rows_in (foldr (grow d m l deep) bare gs)) ≡ tally f (joined gs)
  forest-tally deep f [] h = refl
  forest-tally deep f (q ∷ gs) h =
      omega (arith, grown-tally deep f q (foldr (grow d m l deep) bare gs) h.0, forest-tally deep f gs h.1, tally_append f q (joined gs))

  -- each inner node has m children
  pub grown-even : (deep : ℕ) (run : List ℕ) (g : Grove) → Even m g → Even m (grow d m l deep run g)
  unfolding grow
  grown-even zero run g h = h
  grown-even (suc deep) run g h = go (λ q f k. grown-even deep q f k) (leb (length run) l)
    where
      forest : ((run : List ℕ) (g : Grove) → Even m g → Even m (grow d m l deep run g)) → (gs : List (List ℕ))
          → Even m (foldr (grow d m l deep) bare gs)
      forest ih [] = tt
      forest ih (q ∷ gs) = ih q (foldr (grow d m l deep) bare gs) (forest ih gs)

      go : ((run : List ℕ) (g : Grove) → Even m g → Even m (grow d m l deep run g)) → (b : Bool)
          → Even m (cond b (leaf_of d run g) (fork (reach d run) (foldr (grow d m l deep) bare (split d m run)) g))
      go ih true = h
      go ih false = (forest-span deep (split d m run) ∙ split-length run, forest ih (split d m run), h)

  -- the distances are in range
  pub grown-fine : (D : (i j : ℕ) → d i j ≤ max_distance) (deep : ℕ) (run : List ℕ) (g : Grove) → Run run → Fine l deep g
      → Fine l deep (grow d m l deep run g)
  unfolding grow
  grown-fine D zero run g r h = (rw length-map r.0, reach_fine d D run, always (leb (length (map (λ i. (i, d (head run) i)) run)) l), h)
  grown-fine D (suc deep) run g r h = go (λ q f k u. grown-fine D deep q f k u) (leb (length run) l) refl
    where
      forest : ((run : List ℕ) (g : Grove) → Run run → Fine l deep g → Fine l deep (grow d m l deep run g)) → (gs : List (List ℕ)) → Every Run gs
          → Fine l deep (foldr (grow d m l deep) bare gs)
      forest ih [] h = tt
      forest ih (q ∷ gs) h = ih q (foldr (grow d m l deep) bare gs) h.0 (forest ih gs h.1)

      go : ((run : List ℕ) (g : Grove) → Run run → Fine l deep g → Fine l deep (grow d m l deep run g)) → (b : Bool) → leb (length run) l ≡ b
          → Fine l (suc deep) (cond b (leaf_of d run g) (fork (reach d run) (foldr (grow d m l deep) bare (split d m run)) g))
      go ih true e = (rw length-map r.0, reach_fine d D run, rw (length-map, e) tt, h)
      go ih false e =
          let k : m ≤ length run = omega (arith, leb-false (length run) l e) in
          let ks : Grove = foldr (grow d m l deep) bare (split d m run) in
          let n : length (entries ks) ≡ length run =
          sym (length-map (entries ks) (λ e. e.0)) ∙ sym (tally_length (rows_in ks))
          ∙ forest-tally deep (λ i. true) (split d m run) (split_runs run r k)
          ∙ split-tally (λ i. true) run r k ∙ tally_length run in
          (omega (arith, leb-false (length run) l e), reach_fine d D run, forest ih (split d m run) (split_runs run r k), h)

  -- no leaf is empty and no inner node is childless
  pub grown-full : (deep : ℕ) (run : List ℕ) (g : Grove) → Run run → Full g → Full (grow d m l deep run g)
  unfolding grow
  grown-full zero run g r h = (rw length-map r.0, h)
  grown-full (suc deep) run g r h = go (λ q f k u. grown-full deep q f k u) (leb (length run) l) refl
    where
      forest : ((run : List ℕ) (g : Grove) → Run run → Full g → Full (grow d m l deep run g)) → (gs : List (List ℕ)) → Every Run gs
          → Full (foldr (grow d m l deep) bare gs)
      forest ih [] h = tt
      forest ih (q ∷ gs) h = ih q (foldr (grow d m l deep) bare gs) h.0 (forest ih gs h.1)

      go : ((run : List ℕ) (g : Grove) → Run run → Full g → Full (grow d m l deep run g)) → (b : Bool) → leb (length run) l ≡ b
          → Full (cond b (leaf_of d run g) (fork (reach d run) (foldr (grow d m l deep) bare (split d m run)) g))
      go ih true e = (rw length-map r.0, h)
      go ih false e =
          let k : m ≤ length run = omega (arith, leb-false (length run) l e) in (
            omega (arith, forest-span deep (split d m run), split-length run),
            forest ih (split d m run) (split_runs run r k),
            h,
          )

  -- nor among nodes side by side
  pub forest-full : (deep : ℕ) (gs : List (List ℕ)) → Every Run gs → Full (foldr (grow d m l deep) bare gs)
  forest-full deep [] h = tt
  forest-full deep (q ∷ gs) h = grown-full deep q (foldr (grow d m l deep) bare gs) h.0 (forest-full deep gs h.1)
