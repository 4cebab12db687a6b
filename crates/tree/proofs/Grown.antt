-- The tree that the build grows fits its table. Assumes nothing.
use Prim.Native.Nat.{◌-◌, ◌≤◌, suc, zero, ℕ}
use Rattle.laws.proofs.Every.{every-all, every_map, every-unmap, greatest_le, greatest_under, lowest_le, lowest-over}
use Rattle.laws.proofs.Lists.{map_id, paired}
use Rattle.laws.proofs.Times.{every_same, lefts, times-split}
use Rattle.laws.specs.Every.{Every}
use Rattle.laws.specs.Lists.{greatest, head, keep, lowest, rest, times, without}
use Rattle.tree.proofs.Centres.{chosen, closest-least, group_of, left, split-is}
use Rattle.tree.proofs.Full.{first-row}
use Rattle.tree.proofs.Grow.{forest-full, forest-span, forest-tally, split-length, split_runs, split-tally}
use Rattle.tree.proofs.Sound.{Close, Reaches, Sound}
use Rattle.tree.specs.Build.{Run, choose, closest, farthest, grow, inner_reach, leaf_of, radius, reach, split}
use Rattle.tree.specs.Grove.{Grove, Reach, bare, first, firsts, fork, leaf, rows_in}
use borrow.Author.Tests.{eqb-true, leb-false}
use lib.Dec.{eqb, leb}
use lib.ListN.{length}
use mathlib.Core.Bool.{Bool, cond, false, true}
use mathlib.Core.List.{List, [], ◌++◌, ◌∷◌, foldr, map}
use mathlib.Core.Path.{◌∙◌, ◌≡◌, ap, refl, subst, sym}
use native.Mathlib.Omega.{arith}

-- how far rows reach from the first f
abbrev pub Spans : (ℕ → ℕ → ℕ) → Reach → ℕ → List ℕ → Type 0
Spans d R f is = (R.outer ≡ greatest (map (d f) is)) × (R.inner ≡ lowest (map (d f) (rest is)))

-- radii and inner reaches are exact
abbrev pub Tight : (ℕ → ℕ → ℕ) → Grove → Type 0
Tight d bare = Unit {0}
Tight d (leaf R es g) = Spans d R (head (lefts es)) (lefts es) × Tight d g
Tight d (fork R ks g) = Spans d R (first ks) (rows_in ks) × Tight d ks × Tight d g

-- the greatest is the same in any order
pub greatest-same : (f : ℕ → ℕ) (xs ys : List ℕ) → ((i : ℕ) → times i ys ≡ times i xs) → greatest (map f xs) ≡ greatest (map f ys)
greatest-same f xs ys e =
    let a = greatest_under (greatest (map f ys)) (map f xs) (every_map (λ v. v ≤ greatest (map f ys)) f xs
    (every_same (λ i. f i ≤ greatest (map f ys)) ys xs (λ i. sym (e i))
    (every-unmap (λ v. v ≤ greatest (map f ys)) f ys (greatest_le (map f ys))))) in
    let b = greatest_under (greatest (map f xs)) (map f ys) (every_map (λ v. v ≤ greatest (map f xs)) f ys
    (every_same (λ i. f i ≤ greatest (map f xs)) xs ys e (every-unmap (λ v. v ≤ greatest (map f xs)) f xs (greatest_le (map f xs))))) in
    omega arith

-- so is the lowest
pub lowest-same : (f : ℕ → ℕ) (xs ys : List ℕ) → ((i : ℕ) → times i ys ≡ times i xs) → lowest (map f xs) ≡ lowest (map f ys)
lowest-same f [] [] e = refl
lowest-same f [] (y ∷ ys) e = absurd (every_same (λ i. ⊥) [] (y ∷ ys) e tt).0
lowest-same f (x ∷ xs) [] e = absurd (every_same (λ i. ⊥) [] (x ∷ xs) (λ i. sym (e i)) tt).0
lowest-same f (x ∷ xs) (y ∷ ys) e =
    let a = under (x ∷ xs) (y ∷ ys) (omega arith) e in
    let b = under (y ∷ ys) (x ∷ xs) (omega arith) (λ i. sym (e i)) in
    omega arith
  where
    under : (xs ys : List ℕ) → 1 ≤ length (map f ys) → ((i : ℕ) → times i ys ≡ times i xs) → lowest (map f xs) ≤ lowest (map f ys)
    under xs ys h e =
        lowest-over (lowest (map f xs)) (map f ys) h (every_map (λ v. lowest (map f xs) ≤ v) f ys
        (every_same (λ i. lowest (map f xs) ≤ f i) xs ys e (every-unmap (λ v. lowest (map f xs) ≤ v) f xs (lowest_le (map f xs)))))

-- rows but the first are the same in any order, where the first is the same
pub rest_same : (xs ys : List ℕ) → 1 ≤ length xs → 1 ≤ length ys → head ys ≡ head xs → ((i : ℕ) → times i ys ≡ times i xs) → (i : ℕ)
    → times i (rest ys) ≡ times i (rest xs)
rest_same xs ys h k q e i = omega (arith, times-split i xs h, times-split i ys k, e i, ap (λ a. times i (a ∷ [])) q)

-- the rows of a leaf's pairs are its run
rows_paired : (d : ℕ → ℕ → ℕ) (run : List ℕ) → lefts (map (λ i. (i, d (head run) i)) run) ≡ run
rows_paired d run = paired (λ i. i) (d (head run)) run ∙ map_id run

-- the first centre stays the first
choose_head : (d : ℕ → ℕ → ℕ) (k c : ℕ) (cs is : List ℕ) → head (choose d k (c ∷ cs) is).0 ≡ c
unfolding choose
choose_head d zero c cs is = refl
choose_head d (suc k) c cs is = choose_head d k c (cs ++ farthest d (c ∷ cs) is ∷ []) (without (farthest d (c ∷ cs) is) is)

-- the rows of centre a's group have a for their closest centre
keep_closest : (d : ℕ → ℕ → ℕ) (cs : List ℕ) (a : ℕ) (is : List ℕ)
    → Every (λ i. Every (λ c. d a i ≤ d c i) cs) (keep (λ i. eqb (closest d cs i) a) is)
keep_closest d cs a [] = tt
keep_closest d cs a (i ∷ is) = go (eqb (closest d cs i) a) refl (keep_closest d cs a is)
  where
    go : (b : Bool) → eqb (closest d cs i) a ≡ b → Every (λ i. Every (λ c. d a i ≤ d c i) cs) (keep (λ i. eqb (closest d cs i) a) is)
        → Every (λ i. Every (λ c. d a i ≤ d c i) cs) (cond b (i ∷ keep (λ i. eqb (closest d cs i) a) is) (keep (λ i. eqb (closest d cs i) a) is))
    go true e h = (subst (λ k. Every (λ c. d k i ≤ d c i) cs) (eqb-true (closest d cs i) a e) (closest-least d cs i), h)
    go false e h = h

module _ (d : ℕ → ℕ → ℕ) (self : (i : ℕ) → d i i ≡ 0) (m l : ℕ) (m1 : 1 ≤ m) (ml : m ≤ l) where
  -- each row of run r is as close to its head as to any of the centres cs
  abbrev Near : List ℕ → List ℕ → Type 0
  Near cs r = Every (λ i. Every (λ c. d (head r) i ≤ d c i) cs) r

  -- so it is in each run of the split, for the run's centres
  split-near : (run : List ℕ) → Every (Near (chosen d m run)) (split d m run)
  split-near run =
      let cs : List ℕ = chosen d m run in
      subst (Every (Near cs)) (sym (split-is d m run))
      (every_map (Near cs) (group_of d m run) cs
      (every-all (λ a. Near cs (group_of d m run a))
      (λ a. (every-all (λ c. d a a ≤ d c a) (λ c. omega (arith, self a)) cs, keep_closest d cs a (left d m run))) cs))

  -- the runs' heads are the centres
  split-heads : (run : List ℕ) → map head (split d m run) ≡ chosen d m run
  split-heads run = ap (map head) (split-is d m run) ∙ go (chosen d m run)
    where
      go : (cs : List ℕ) → map head (map (group_of d m run) cs) ≡ cs
      go [] = refl
      go (c ∷ cs) = ap (λ k. c ∷ k) (go cs)

  -- a run's first centre is its first
  chosen-head : (run : List ℕ) → head (chosen d m run) ≡ head run
  unfolding chosen
  chosen-head run = choose_head d (m - 1) (head run) [] (rest run)

  -- a grown node's first is its run's head
  pub grown-firsts : (deep : ℕ) (run : List ℕ) (g : Grove) → firsts (grow d m l deep run g) ≡ head run ∷ firsts g
  unfolding grow
  grown-firsts zero run g = ap (λ is. head is ∷ firsts g) (rows_paired d run)
  grown-firsts (suc deep) run g = go (λ q f. grown-firsts deep q f) (leb (length run) l)
    where
      forest : ((run : List ℕ) (g : Grove) → firsts (grow d m l deep run g) ≡ head run ∷ firsts g) → (gs : List (List ℕ))
          → firsts (foldr (grow d m l deep) bare gs) ≡ map head gs
      forest ih [] = refl
      forest ih (q ∷ gs) = ih q (foldr (grow d m l deep) bare gs) ∙ ap (λ k. head q ∷ k) (forest ih gs)

      go : ((run : List ℕ) (g : Grove) → firsts (grow d m l deep run g) ≡ head run ∷ firsts g) → (b : Bool)
          → firsts (cond b (leaf_of d run g) (fork (reach d run) (foldr (grow d m l deep) bare (split d m run)) g)) ≡ head run ∷ firsts g
      go ih true = ap (λ is. head is ∷ firsts g) (rows_paired d run)
      go ih false = ap (λ i. i ∷ firsts g) (ap head (forest ih (split d m run) ∙ split-heads run) ∙ chosen-head run)

  -- the firsts of nodes side by side are their runs' heads
  forest-firsts : (deep : ℕ) (gs : List (List ℕ)) → firsts (foldr (grow d m l deep) bare gs) ≡ map head gs
  forest-firsts deep [] = refl
  forest-firsts deep (q ∷ gs) = grown-firsts deep q (foldr (grow d m l deep) bare gs) ∙ ap (λ k. head q ∷ k) (forest-firsts deep gs)

  -- the children of a run: their rows are the run's, their first is its first
  kids-same : (deep : ℕ) (run : List ℕ) → Run run → m ≤ length run → (i : ℕ)
      → times i (rows_in (foldr (grow d m l deep) bare (split d m run))) ≡ times i run
  kids-same deep run r k i =
      forest-tally d m l m1 ml deep (eqb i) (split d m run) (split_runs d m l m1 ml run r k) ∙ split-tally d m l m1 ml (eqb i) run r k

  -- their first is the run's first
  kids-head : (deep : ℕ) (run : List ℕ) → first (foldr (grow d m l deep) bare (split d m run)) ≡ head run
  kids-head deep run = ap head (forest-firsts deep (split d m run) ∙ split-heads run) ∙ chosen-head run

  -- and so their rows but the first are the run's
  kids-rest : (deep : ℕ) (run : List ℕ) → Run run → m ≤ length run → (i : ℕ)
      → times i (rest (rows_in (foldr (grow d m l deep) bare (split d m run)))) ≡ times i (rest run)
  kids-rest deep run r k =
      let ks : Grove = foldr (grow d m l deep) bare (split d m run) in
      let q = first-row ks (forest-full d m l m1 ml deep (split d m run) (split_runs d m l m1 ml run r k))
      (omega (arith, forest-span d m l m1 ml deep (split d m run), split-length d m l m1 ml run)) in
      rest_same run (rows_in ks) r.0 q.0 (q.1 ∙ kids-head deep run) (kids-same deep run r k)

  -- a run is within its reach
  reaches : (run : List ℕ) → Reaches d (reach d run) (head run) run
  reaches run = record {
    up = every-unmap (λ v. v ≤ radius d run) (d (head run)) run (greatest_le (map (d (head run)) run));
    low = every-unmap (λ v. inner_reach d run ≤ v) (d (head run)) (rest run) (lowest_le (map (d (head run)) (rest run)));
  }

  -- a grown node's rows are as close to its first as its run's were
  pub grown-close : (cs : List ℕ) (deep : ℕ) (run : List ℕ) (g : Grove) → Run run → Near cs run → Close d cs g → Close d cs (grow d m l deep run g)
  unfolding grow
  grown-close cs zero run g r h c = (subst (λ is. Near cs is) (sym (rows_paired d run)) h, c)
  grown-close cs (suc deep) run g r h c = go (leb (length run) l) refl
    where
      go : (b : Bool) → leb (length run) l ≡ b
          → Close d cs (cond b (leaf_of d run g) (fork (reach d run) (foldr (grow d m l deep) bare (split d m run)) g))
      go true e = (subst (λ is. Near cs is) (sym (rows_paired d run)) h, c)
      go false e =
          let k : m ≤ length run = omega (arith, leb-false (length run) l e) in
          let ks : Grove = foldr (grow d m l deep) bare (split d m run) in (
            subst (λ f. Every (λ i. Every (λ c. d f i ≤ d c i) cs) (rows_in ks)) (sym (kids-head deep run))
                (every_same (λ i. Every (λ c. d (head run) i ≤ d c i) cs) run (rows_in ks) (kids-same deep run r k) h),
            c,
          )

  -- so are those of nodes side by side
  forest-close : (cs : List ℕ) (deep : ℕ) (gs : List (List ℕ)) → Every Run gs → Every (Near cs) gs → Close d cs (foldr (grow d m l deep) bare gs)
  forest-close cs deep [] r h = tt
  forest-close cs deep (q ∷ gs) r h = grown-close cs deep q (foldr (grow d m l deep) bare gs) r.0 h.0 (forest-close cs deep gs r.1 h.1)

  -- a leaf's stored distances are right, and none is above its radius
  leaf_sound : (run : List ℕ) (g : Grove) → Sound d g → Sound d (leaf_of d run g)
  leaf_sound run g h =
      let e = sym (rows_paired d run) in (
        subst (λ is. Every (λ (e : ℕ × ℕ). d (head is) e.0 ≡ e.1) (map (λ i. (i, d (head run) i)) run)) e
            (every_map (λ e. d (head run) e.0 ≡ e.1) (λ i. (i, d (head run) i)) run
            (every-all (λ i. d (head run) i ≡ d (head run) i) (λ i. refl) run)),
        subst (λ is. Reaches d (reach d run) (head is) is) e (reaches run),
        h,
      )

  -- its reach is exact
  leaf-spans : (run : List ℕ) → Spans d (reach d run) (head (lefts (map (λ i. (i, d (head run) i)) run))) (lefts (map (λ i. (i, d (head run) i)) run))
  leaf-spans run = subst (λ is. Spans d (reach d run) (head is) is) (sym (rows_paired d run)) (refl, refl)

  -- THE GROWN TREE FITS ITS TABLE, AND ITS REACHES ARE EXACT
  pub grown-sound : (deep : ℕ) (run : List ℕ) (g : Grove) → Run run → Sound d g × Tight d g
      → Sound d (grow d m l deep run g) × Tight d (grow d m l deep run g)
  unfolding grow
  grown-sound zero run g r h = (leaf_sound run g h.0, (leaf-spans run, h.1))
  grown-sound (suc deep) run g r h = go (λ q f k u. grown-sound deep q f k u) (leb (length run) l) refl
    where
      forest : ((run : List ℕ) (g : Grove) → Run run → Sound d g × Tight d g → Sound d (grow d m l deep run g) × Tight d (grow d m l deep run g))
          → (gs : List (List ℕ)) → Every Run gs → Sound d (foldr (grow d m l deep) bare gs) × Tight d (foldr (grow d m l deep) bare gs)
      forest ih [] h = (tt, tt)
      forest ih (q ∷ gs) h = ih q (foldr (grow d m l deep) bare gs) h.0 (forest ih gs h.1)

      go : ((run : List ℕ) (g : Grove) → Run run → Sound d g × Tight d g → Sound d (grow d m l deep run g) × Tight d (grow d m l deep run g))
          → (b : Bool) → leb (length run) l ≡ b
          → Sound d (cond b (leaf_of d run g) (fork (reach d run) (foldr (grow d m l deep) bare (split d m run)) g))
          × Tight d (cond b (leaf_of d run g) (fork (reach d run) (foldr (grow d m l deep) bare (split d m run)) g))
      go ih true e = (leaf_sound run g h.0, (leaf-spans run, h.1))
      go ih false e =
          let k : m ≤ length run = omega (arith, leb-false (length run) l e) in
          let rs = split_runs d m l m1 ml run r k in
          let ks : Grove = foldr (grow d m l deep) bare (split d m run) in
          let f = forest ih (split d m run) rs in
          let same = kids-same deep run r k in
          let others = kids-rest deep run r k in (
            (
              subst (λ cs. Close d cs ks) (sym (forest-firsts deep (split d m run) ∙ split-heads run))
                  (forest-close (chosen d m run) deep (split d m run) rs (split-near run)),
              subst (λ f. Reaches d (reach d run) f (rows_in ks)) (sym (kids-head deep run))
                  (record {
                    up = every_same (λ i. d (head run) i ≤ radius d run) run (rows_in ks) same (reaches run).up;
                    low = every_same (λ i. inner_reach d run ≤ d (head run) i) (rest run) (rest (rows_in ks)) others (reaches run).low;
                  }),
              f.0,
              h.0,
            ),
            (
              subst (λ f. Spans d (reach d run) f (rows_in ks)) (sym (kids-head deep run))
                  (greatest-same (d (head run)) run (rows_in ks) same, lowest-same (d (head run)) (rest run) (rest (rows_in ks)) others),
              f.1,
              h.1,
            ),
          )
