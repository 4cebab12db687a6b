-- The build keeps each run's rows ascending behind its first. Assumes nothing.
use Prim.Native.Nat.{◌-◌, ◌<◌, suc, zero, ℕ}
use Rattle.laws.proofs.Every.{every-all, every-keep, every_map}
use Rattle.laws.proofs.Lists.{map_id, paired}
use Rattle.laws.proofs.Ranges.{range-every}
use Rattle.laws.specs.Every.{Every}
use Rattle.laws.specs.Lists.{head, keep, range, rest, without}
use Rattle.limits.specs.Limits.{max_depth}
use Rattle.tree.proofs.Centres.{chosen, group_of, left, split-is}
use Rattle.meaning.specs.Ascending.{Ascending, InOrder}
use Rattle.tree.specs.Build.{choose, closest, farthest, grow, leaf_of, plant, reach, split}
use Rattle.tree.specs.Grove.{Grove, bare, fork}
use lib.Dec.{eqb, leb}
use lib.ListN.{length}
use mathlib.Core.Bool.{Bool, cond, false, true}
use mathlib.Core.List.{List, [], ◌++◌, ◌∷◌, foldr}
use mathlib.Core.Path.{◌∙◌, subst, sym}
use native.Mathlib.Omega.{arith}

-- a range ascends
range_ascends : (a n : ℕ) → Ascending (range a n)
range_ascends a zero = tt
range_ascends a (suc n) = (range-every (λ j. a < j) (suc a) n (λ i h. omega arith), range_ascends (suc a) n)

-- what is kept of an ascending list ascends
keep_ascends : (f : ℕ → Bool) (xs : List ℕ) → Ascending xs → Ascending (keep f xs)
keep_ascends f [] h = tt
keep_ascends f (x ∷ xs) h = go (f x) (keep_ascends f xs h.1)
  where
    go : (b : Bool) → Ascending (keep f xs) → Ascending (cond b (x ∷ keep f xs) (keep f xs))
    go true k = (every-keep (λ j. x < j) f xs h.0, k)
    go false k = k

-- a fact of every element is one of all but i
every_without : (P : ℕ → Type 0) (i : ℕ) (xs : List ℕ) → Every P xs → Every P (without i xs)
every_without P i [] h = tt
every_without P i (x ∷ xs) h = go (eqb i x) (every_without P i xs h.1)
  where
    go : (b : Bool) → Every P (without i xs) → Every P (cond b xs (x ∷ without i xs))
    go true k = h.1
    go false k = (h.0, k)

-- an ascending list without i ascends
without_ascends : (i : ℕ) (xs : List ℕ) → Ascending xs → Ascending (without i xs)
without_ascends i [] h = tt
without_ascends i (x ∷ xs) h = go (eqb i x) (without_ascends i xs h.1)
  where
    go : (b : Bool) → Ascending (without i xs) → Ascending (cond b xs (x ∷ without i xs))
    go true k = h.1
    go false k = (every_without (λ j. x < j) i xs h.0, k)

module _ (d : ℕ → ℕ → ℕ) where
  -- the rows that are left when the centres are chosen ascend
  choose_ascends : (k : ℕ) (cs is : List ℕ) → Ascending is → Ascending (choose d k cs is).1
  unfolding choose
  choose_ascends zero cs is h = h
  choose_ascends (suc k) cs is h =
      let j : ℕ = farthest d cs is in choose_ascends k (cs ++ j ∷ []) (without j is) (without_ascends j is h)

  -- SPLIT-ASCENDS: OF A RUN WHOSE ROWS ASCEND BEHIND ITS FIRST, EACH CHILD'S RUN HAS ITS CENTRE FIRST, THEN THE REST BY ASCENDING ROW NUMBER
  pub split-ascends : (m : ℕ) (run : List ℕ) → Ascending (rest run) → Every (λ r. Ascending (rest r)) (split d m run)
  unfolding left
  split-ascends m run h =
      subst (Every (λ r. Ascending (rest r))) (sym (split-is d m run))
      (every_map (λ r. Ascending (rest r)) (group_of d m run) (chosen d m run)
      (every-all (λ a. Ascending (rest (group_of d m run a)))
      (λ a. keep_ascends (λ i. eqb (closest d (chosen d m run) i) a) (left d m run) (choose_ascends (m - 1) (head run ∷ []) (rest run) h))
      (chosen d m run)))

  -- a leaf's rows are its run's
  leaf-ordered : (run : List ℕ) (g : Grove) → Ascending (rest run) → InOrder g → InOrder (leaf_of d run g)
  leaf-ordered run g h k = (subst (λ is. Ascending (rest is)) (sym (paired (λ i. i) (d (head run)) run ∙ map_id run)) h, k)

  -- so it is in each leaf that grows of such a run
  grown-ordered : (m l deep : ℕ) (run : List ℕ) (g : Grove) → Ascending (rest run) → InOrder g → InOrder (grow d m l deep run g)
  unfolding grow
  grown-ordered m l zero run g h k = leaf-ordered run g h k
  grown-ordered m l (suc deep) run g h k = go (λ q f u v. grown-ordered m l deep q f u v) (leb (length run) l)
    where
      forest : ((run : List ℕ) (g : Grove) → Ascending (rest run) → InOrder g → InOrder (grow d m l deep run g)) → (gs : List (List ℕ))
          → Every (λ r. Ascending (rest r)) gs → InOrder (foldr (grow d m l deep) bare gs)
      forest ih [] u = tt
      forest ih (q ∷ gs) u = ih q (foldr (grow d m l deep) bare gs) u.0 (forest ih gs u.1)

      go : ((run : List ℕ) (g : Grove) → Ascending (rest run) → InOrder g → InOrder (grow d m l deep run g)) → (b : Bool)
          → InOrder (cond b (leaf_of d run g) (fork (reach d run) (foldr (grow d m l deep) bare (split d m run)) g))
      go ih true = leaf-ordered run g h k
      go ih false = (forest ih (split d m run) (split-ascends m run h), k)

  -- PLANTED-ORDERED: EACH LEAF OF THE BUILD'S TREE HAS ITS FIRST, THEN THE REST BY ASCENDING ROW NUMBER
  pub planted-ordered : (m l n : ℕ) → InOrder (plant d m l n)
  planted-ordered m l zero = tt
  planted-ordered m l (suc n) = grown-ordered m l max_depth (range 0 (suc n)) bare (range_ascends 1 n) tt
