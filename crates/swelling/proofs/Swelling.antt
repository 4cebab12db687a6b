-- The node of a run that has grown row by row: one row joined to it makes that of the run with the row behind. Assumes nothing.
use Prim.Native.Nat.{◌+◌, ◌<◌, ◌≤◌, suc, zero, ℕ}
use Rattle.appending.proofs.Further.{reach-more}
use Rattle.appending.proofs.Lodge.{grow-leaf, laid, lodge-laid, longer, longer_length, ordered, ordered-length, ordered_tally, own, stays}
use Rattle.appending.proofs.Lowest.{head_more, lowest_there, not-twice, times_more}
use Rattle.appending.proofs.Onesplit.{grow-once, split-short}
use Rattle.appending.specs.Append.{join, keep_own, lodge, lowest_at, reach_with}
use Rattle.laws.proofs.Every.{every-both, every_of}
use Rattle.laws.proofs.Lists.{map_id, paired, tally_append, tally_length}
use Rattle.laws.proofs.Maps.{map_same}
use Rattle.laws.proofs.Shares.{bit}
use Rattle.laws.proofs.Tests.{or_none}
use Rattle.laws.proofs.Times.{lefts, tally_lefts}
use Rattle.laws.specs.Every.{Every}
use Rattle.laws.specs.Lists.{head, joined, tally, times}
use Rattle.swelling.proofs.Parting.{centre-once, centres, centres-head, closest-place, early, group_among, others, parts-heads, parts_is, parts_more, parts-once, parts-runs, parts-tally, parts_within}
use Rattle.swelling.specs.Swell.{flat, parts, swell}
use Rattle.tree.proofs.Centres.{chosen-length}
use Rattle.tree.specs.Build.{Run, closest, grow, leaf_of, reach, split}
use Rattle.tree.specs.Grove.{Grove, Reach, bare, entries, firsts, fork, rows_in}
use borrow.Author.Tests.{eq-eqb, eqb-true, le-leb, leb-false, leb-true, lt-leb, ne_eqb}
use lib.Dec.{eqb, leb}
use lib.ListN.{get_or, length, length-append, length-map}
use mathlib.Core.Bool.{Bool, ◌||◌, cond, false, or-true, true}
use mathlib.Core.List.{List, [], ◌++◌, ◌∷◌, append-nil, foldr, map}
use mathlib.Core.Path.{◌∙◌, ◌≡◌, ap, ap₂, refl, subst, sym}
use native.Mathlib.Nat.{not-suc-le-zero}
use native.Mathlib.Omega.{arith}

-- ---- numbers in a list
-- one that does not stand there is none of them
absent : (a : ℕ) (cs : List ℕ) → times a cs ≡ 0 → Every (λ b. eqb a b ≡ false) cs
absent a [] e = tt
absent a (c ∷ cs) e = go (eqb a c) refl (λ q. absent a cs q) e
  where
    go : (s : Bool) → eqb a c ≡ s → (times a cs ≡ 0 → Every (λ b. eqb a b ≡ false) cs) → bit s + times a cs ≡ 0
        → (eqb a c ≡ false) × Every (λ b. eqb a b ≡ false) cs
    go true q ih h = absurd (omega arith)
    go false q ih h = (q, ih (omega arith))

-- one at a place stands there
placed : (a : ℕ) (cs : List ℕ) (at : ℕ) → at < length cs → get_or cs at 0 ≡ a → 1 ≤ times a cs
placed a [] at h e = absurd (not-suc-le-zero h)
placed a (c ∷ cs) zero h e = rw (eq-eqb a c (sym e)) (omega arith)
placed a (c ∷ cs) (suc at) h e = omega (arith, placed a cs at (omega arith) e)

-- a run without the row z, none of its rows twice
abbrev pub Fresh : ℕ → List ℕ → Type 0
Fresh z run = (1 ≤ length run) × ((i : ℕ) → times i (run ++ z ∷ []) ≤ 1)

-- the run is one
pub fresh-run : (z : ℕ) (run : List ℕ) → Fresh z run → Run run
fresh-run z run F = (F.0, λ i. omega (arith, F.1 i, times_more i z run))

-- and the row is not there
pub fresh-none : (z : ℕ) (run : List ℕ) → Fresh z run → times z run ≡ 0
fresh-none z run F = omega (arith, F.1 z, times_more z z run, ap bit (eq-eqb z z refl))

-- the other way
pub run-fresh : (z : ℕ) (run : List ℕ) → Run run → times z run ≡ 0 → Fresh z run
run-fresh z run r e = (r.0, λ i. times-more' i)
  where
    go : (i : ℕ) (s : Bool) → eqb i z ≡ s → times i run + bit s ≤ 1
    go i true q = omega (arith, e, ap (λ (k : ℕ). times k run) (eqb-true i z q))
    go i false q = omega (arith, r.1 i)

    times-more' : (i : ℕ) → times i (run ++ z ∷ []) ≤ 1
    times-more' i = omega (arith, times_more i z run, go i (eqb i z) refl)

module _ (d : ℕ → ℕ → ℕ) where
  -- a run's pairs have its rows
  pub pairs-rows : (run : List ℕ) → lefts (map (λ i. (i, d (head run) i)) run) ≡ run
  pairs-rows run = paired (λ i. i) (d (head run)) run ∙ map_id run

  -- THE REACH OF A RUN WITH ONE ROW MORE
  pub reach-behind : (z : ℕ) (run : List ℕ) → 1 ≤ length run → reach_with (length run) (reach d run) (d (head run) z) ≡ reach d (run ++ z ∷ [])
  reach-behind z run h =
      reach-more d (reach d run) z run (run ++ z ∷ []) h (omega (arith, length-append run (z ∷ []))) (head_more run z h) (λ i. refl) (refl, refl)

module _ (d : ℕ → ℕ → ℕ) (m l : ℕ) where
  -- the nodes of some runs, side by side
  abbrev pub forest : ℕ → List (List ℕ) → Grove
  forest deep gs = foldr (λ q h. swell d m l deep (reach d q) q h) bare gs

  -- a run of at most l rows is a leaf
  pub swell-short : (deep : ℕ) (R : Reach) (run : List ℕ) (g : Grove) → length run ≤ l → swell d m l deep R run g ≡ flat d R run g
  unfolding swell
  swell-short zero R run g h = refl
  swell-short (suc deep) R run g h =
      ap (λ (b : Bool). cond b (flat d R run g) (fork R (forest deep (parts d m l run)) g)) (le-leb (length run) l h)

  -- a longer one with a level below it is split
  pub swell-long : (deep : ℕ) (R : Reach) (run : List ℕ) (g : Grove) → l < length run
      → swell d m l (suc deep) R run g ≡ fork R (forest deep (parts d m l run)) g
  unfolding swell
  swell-long deep R run g h =
      ap (λ (b : Bool). cond b (flat d R run g) (fork R (forest deep (parts d m l run)) g)) (lt-leb (length run) l h)

  -- either way
  by_length : (P : Type 0) (run : List ℕ) → (length run ≤ l → P) → (l < length run → P) → P
  by_length P run short long = go (leb (length run) l) refl
    where
      go : (b : Bool) → leb (length run) l ≡ b → P
      go true e = short (leb-true (length run) l e)
      go false e = long (leb-false (length run) l e)

  -- short runs are leaves side by side
  forest-flat : (deep : ℕ) (gs : List (List ℕ)) → Every (λ q. length q ≤ l) gs → forest deep gs ≡ foldr (leaf_of d) bare gs
  forest-flat deep [] h = refl
  forest-flat deep (q ∷ gs) h = swell-short deep (reach d q) q (forest deep gs) h.0 ∙ ap (leaf_of d q) (forest-flat deep gs h.1)

  -- ---- the firsts
  -- of nodes side by side they are the runs' heads
  forest-firsts-by : (deep : ℕ) → ((R : Reach) (q : List ℕ) (g : Grove) → firsts (swell d m l deep R q g) ≡ head q ∷ firsts g) → (gs : List (List ℕ))
      → firsts (forest deep gs) ≡ map head gs
  forest-firsts-by deep ih [] = refl
  forest-firsts-by deep ih (q ∷ gs) = ih (reach d q) q (forest deep gs) ∙ ap (λ (k : List ℕ). head q ∷ k) (forest-firsts-by deep ih gs)

  -- a leaf's
  pub flat-firsts : (R : Reach) (run : List ℕ) (g : Grove) → firsts (flat d R run g) ≡ head run ∷ firsts g
  flat-firsts R run g = ap (λ (is : List ℕ). head is ∷ firsts g) (pairs-rows d run)

  -- A NODE'S FIRST IS ITS RUN'S
  pub swell-firsts : (deep : ℕ) (R : Reach) (run : List ℕ) (g : Grove) → firsts (swell d m l deep R run g) ≡ head run ∷ firsts g
  unfolding swell
  swell-firsts zero R run g = flat-firsts R run g
  swell-firsts (suc deep) R run g =
      by_length (firsts (swell d m l (suc deep) R run g) ≡ head run ∷ firsts g) run
      (λ h. ap firsts (swell-short (suc deep) R run g h) ∙ flat-firsts R run g)
      (λ h. ap firsts (swell-long deep R run g h)
      ∙ ap (λ (i : ℕ). i ∷ firsts g)
      (ap head (forest-firsts-by deep (λ R q g. swell-firsts deep R q g) (parts d m l run) ∙ parts-heads d m l run) ∙ centres-head d m l run))

  -- of a run's parts they are the centres
  pub kids-firsts : (deep : ℕ) (run : List ℕ) → firsts (forest deep (parts d m l run)) ≡ centres d m l run
  kids-firsts deep run = forest-firsts-by deep (λ R q g. swell-firsts deep R q g) (parts d m l run) ∙ parts-heads d m l run

  module _ (m2 : 2 ≤ m) (ml : m ≤ l) where
    -- m is not 0
    m1 : 1 ≤ m
    m1 = omega arith

    -- ---- the rows
    -- of nodes side by side
    forest-tally-by : (deep : ℕ) (f : ℕ → Bool)
        → ((R : Reach) (q : List ℕ) (g : Grove) → Run q → tally f (rows_in (swell d m l deep R q g)) ≡ tally f q + tally f (rows_in g))
        → (gs : List (List ℕ)) → Every Run gs → tally f (rows_in (forest deep gs)) ≡ tally f (joined gs)
    forest-tally-by deep f ih [] h = refl
    forest-tally-by deep f ih (q ∷ gs) h =
        omega (arith, ih (reach d q) q (forest deep gs) h.0, forest-tally-by deep f ih gs h.1, tally_append f q (joined gs))

    -- of a leaf
    flat-tally : (f : ℕ → Bool) (R : Reach) (run : List ℕ) (g : Grove) → tally f (rows_in (flat d R run g)) ≡ tally f run + tally f (rows_in g)
    flat-tally f R run g =
        tally_lefts f (map (λ i. (i, d (head run) i)) run) (entries g)
        ∙ ap (λ (is : List ℕ). tally f is + tally f (rows_in g)) (pairs-rows d run)

    -- A NODE'S ROWS ARE ITS RUN'S
    pub swell-tally : (deep : ℕ) (f : ℕ → Bool) (R : Reach) (run : List ℕ) (g : Grove) → Run run
        → tally f (rows_in (swell d m l deep R run g)) ≡ tally f run + tally f (rows_in g)
    unfolding swell
    swell-tally zero f R run g r = flat-tally f R run g
    swell-tally (suc deep) f R run g r =
        let P : Type 0 = tally f (rows_in (swell d m l (suc deep) R run g)) ≡ tally f run + tally f (rows_in g) in
        by_length P run
        (λ h. ap (λ (t : Grove). tally f (rows_in t)) (swell-short (suc deep) R run g h) ∙ flat-tally f R run g)
        (λ h. ap (λ (t : Grove). tally f (rows_in t)) (swell-long deep R run g h)
        ∙ tally_lefts f (entries (forest deep (parts d m l run))) (entries g)
        ∙ ap (λ (n : ℕ). n + tally f (rows_in g))
        (forest-tally-by deep f (λ R q g k. swell-tally deep f R q g k) (parts d m l run) (parts-runs d m l m1 ml run r h)
        ∙ parts-tally d m l m1 ml run r h f))

    -- as many members
    pub kids-count : (deep : ℕ) (run : List ℕ) → Run run → l < length run → length (entries (forest deep (parts d m l run))) ≡ length run
    kids-count deep run r h =
        let ks : Grove = forest deep (parts d m l run) in
        let f : ℕ → Bool = λ (i : ℕ). true in
        sym (length-map (entries ks) (λ e. e.0)) ∙ sym (tally_length (rows_in ks))
        ∙ forest-tally-by deep f (λ R q g k. swell-tally deep f R q g k) (parts d m l run) (parts-runs d m l m1 ml run r h)
        ∙ parts-tally d m l m1 ml run r h f ∙ tally_length run

    module _ (z : ℕ) where
      -- ---- a row that one behind takes
      pub swell-after : (deep at : ℕ) (R : Reach) (run : List ℕ) (g : Grove)
          → join d m l z deep (suc at) (swell d m l deep R run g) ≡ swell d m l deep R run (join d m l z deep at g)
      unfolding swell join
      swell-after zero at R run g = refl
      swell-after (suc deep) at R run g = go (leb (length run) l)
        where
          go : (b : Bool) → join d m l z (suc deep) (suc at) (cond b (flat d R run g) (fork R (forest deep (parts d m l run)) g))
              ≡ cond b (flat d R run (join d m l z (suc deep) at g)) (fork R (forest deep (parts d m l run)) (join d m l z (suc deep) at g))
          go true = refl
          go false = refl

      -- ---- a leaf that takes it
      -- with no level below it
      lodge-bottom : (R : Reach) (es : List (ℕ × ℕ)) (g : Grove) → 1 ≤ length (lefts es) → ((i : ℕ) → times i (longer z es) ≤ 1)
          → lodge d m l z 0 R es g ≡ flat d (reach_with (length es) R (d (head (lefts es)) z)) (longer z es) g
      unfolding grow
      lodge-bottom R es g some once =
          lodge-laid d m l z 0 R es g (not-twice (longer z es) once)
          ∙ ap (λ (b : Bool). keep_own (own d m l z R es) (grow d m l 0 (cond b (longer z es) (ordered z es)) g)) (or-true (leb (length (longer z es)) l))
          ∙ ap (λ (i : ℕ). flat d (reach_with (length es) R (d i z)) (longer z es) g) (head_more (lefts es) z some)

      -- with one
      lodge-above : (deep : ℕ) (R : Reach) (es : List (ℕ × ℕ)) (g : Grove) → 1 ≤ length (lefts es) → ((i : ℕ) → times i (longer z es) ≤ 1)
          → length es ≤ l → lodge d m l z (suc deep) R es g ≡ swell d m l (suc deep) (reach_with (length es) R (d (head (lefts es)) z)) (longer z es) g
      lodge-above deep R es g some once few =
          lodge-laid d m l z (suc deep) R es g (not-twice (longer z es) once)
          ∙ ap (λ (i : ℕ). keep_own (reach_with (length es) R (d i z)) (grow d m l (suc deep) (laid d m l z (suc deep) es) g)) (head_more (lefts es) z some)
          ∙ go (leb (length (longer z es)) l) refl
        where
          R' : Reach
          R' = reach_with (length es) R (d (head (lefts es)) z)

          no : eqb (suc deep) 0 ≡ false
          no = ne_eqb (suc deep) 0 (λ q. omega arith)

          go : (b : Bool) → leb (length (longer z es)) l ≡ b
              → keep_own R' (grow d m l (suc deep) (laid d m l z (suc deep) es) g) ≡ swell d m l (suc deep) R' (longer z es) g
          go true e =
              let stay : stays d m l z (suc deep) es ≡ true = ap (λ (b : Bool). b || eqb (suc deep) 0) e in
              ap (λ (b : Bool). keep_own R' (grow d m l (suc deep) (cond b (longer z es) (ordered z es)) g)) stay
              ∙ ap (keep_own R') (sym (grow-leaf d m l z (suc deep) (longer z es) g stay))
              ∙ sym (swell-short (suc deep) R' (longer z es) g (leb-true (length (longer z es)) l e))
          go false e =
              let more : l < length (longer z es) = leb-false (length (longer z es)) l e in
              let len : length (ordered z es) ≡ l + 1 = omega (arith, longer_length z es, ordered-length z es) in
              let r : Run (ordered z es) =
              (omega (arith, ordered-length z es), λ i. omega (arith, once i, ordered_tally z (eqb i) es, times_more i z (lefts es))) in
              let kids : foldr (leaf_of d) bare (split d m (ordered z es)) ≡ forest deep (parts d m l (longer z es)) =
              sym (forest-flat deep (split d m (ordered z es)) (split-short d m l m2 ml (ordered z es) r len))
              ∙ ap (forest deep) (sym (parts-once d m l (longer z es) (omega (arith, longer_length z es)))) in
              ap (λ (b : Bool). keep_own R' (grow d m l (suc deep) (cond b (longer z es) (ordered z es)) g))
              (or_none (leb (length (longer z es)) l) (eqb (suc deep) 0) e no)
              ∙ ap (keep_own R') (grow-once d m l m2 ml deep (ordered z es) g r len) ∙ ap (λ (ks : Grove). fork R' ks g) kids
              ∙ sym (swell-long deep R' (longer z es) g more)

      -- A LEAF OF AT MOST l ROWS, OR WITH NO LEVEL BELOW IT, AND A ROW THAT IT HAS NOT
      pub lodge-swell : (deep : ℕ) (R : Reach) (es : List (ℕ × ℕ)) (g : Grove) → 1 ≤ length (lefts es) → ((i : ℕ) → times i (longer z es) ≤ 1)
          → (1 ≤ deep → length es ≤ l)
          → lodge d m l z deep R es g ≡ swell d m l deep (reach_with (length es) R (d (head (lefts es)) z)) (longer z es) g
      unfolding swell
      lodge-swell zero R es g some once few = lodge-bottom R es g some once
      lodge-swell (suc deep) R es g some once few = lodge-above deep R es g some once (few (omega arith))

      -- ---- a node that takes it
      -- a leaf of a run
      flat-snoc : (deep : ℕ) (R : Reach) (run : List ℕ) (g : Grove) → Fresh z run → (1 ≤ deep → length run ≤ l)
          → lodge d m l z deep R (map (λ i. (i, d (head run) i)) run) g
          ≡ swell d m l deep (reach_with (length run) R (d (head run) z)) (run ++ z ∷ []) g
      flat-snoc deep R run g F few =
          let es : List (ℕ × ℕ) = map (λ i. (i, d (head run) i)) run in
          let rows : lefts es ≡ run = pairs-rows d run in
          let len : length es ≡ length run = length-map run (λ i. (i, d (head run) i)) in
          lodge-swell deep R es g (subst (λ (is : List ℕ). 1 ≤ length is) (sym rows) F.0)
          (subst (λ (is : List ℕ). (i : ℕ) → times i (is ++ z ∷ []) ≤ 1) (sym rows) F.1) (λ h. omega (arith, few h, len))
          ∙ ap₂ (λ (k : ℕ) (is : List ℕ). swell d m l deep (reach_with k R (d (head is) z)) (is ++ z ∷ []) g) len rows

      -- of nodes side by side the one at the centre a
      forest-snoc : (deep : ℕ)
          → ((q : List ℕ) (g : Grove) → Fresh z q → join d m l z deep 0 (swell d m l deep (reach d q) q g)
          ≡ swell d m l deep (reach d (q ++ z ∷ [])) (q ++ z ∷ []) g)
          → (f : ℕ → List ℕ) (a : ℕ) (cs : List ℕ) (at : ℕ) → at < length cs → get_or cs at 0 ≡ a → times a cs ≡ 1 → Every (Fresh z) (map f cs)
          → join d m l z deep at (forest deep (map f cs)) ≡ forest deep (map (λ b. f b ++ cond (eqb a b) (z ∷ []) []) cs)
      forest-snoc deep ih f a [] at h e o F = absurd (not-suc-le-zero h)
      forest-snoc deep ih f a (c ∷ cs) zero h e o F =
          let yes : eqb a c ≡ true = eq-eqb a c (sym e) in
          let none : times a cs ≡ 0 = omega (arith, o, ap bit yes) in
          let same : map (λ b. f b ++ cond (eqb a b) (z ∷ []) []) cs ≡ map f cs =
          map_same (λ b. f b ++ cond (eqb a b) (z ∷ []) []) f cs
          (every_of (λ b. eqb a b ≡ false) (λ b. f b ++ cond (eqb a b) (z ∷ []) [] ≡ f b)
          (λ b q. ap (λ (s : Bool). f b ++ cond s (z ∷ []) []) q ∙ append-nil (f b)) cs (absent a cs none)) in
          ih (f c) (forest deep (map f cs)) F.0
          ∙ ap₂ (λ (s : Bool) (gs : List (List ℕ)). forest deep ((f c ++ cond s (z ∷ []) []) ∷ gs)) (sym yes) (sym same)
      forest-snoc deep ih f a (c ∷ cs) (suc at) h e o F =
          go (eqb a c) refl (placed a cs at (omega arith) e) o (λ u. forest-snoc deep ih f a cs at (omega arith) e u F.1)
        where
          go : (s : Bool) → eqb a c ≡ s → 1 ≤ times a cs → bit s + times a cs ≡ 1
              → (times a cs ≡ 1 → join d m l z deep at (forest deep (map f cs)) ≡ forest deep (map (λ b. f b ++ cond (eqb a b) (z ∷ []) []) cs))
              → join d m l z deep (suc at) (forest deep (map f (c ∷ cs))) ≡ forest deep (map (λ b. f b ++ cond (eqb a b) (z ∷ []) []) (c ∷ cs))
          go true q k o rec = absurd (omega arith)
          go false q k o rec =
              swell-after deep at (reach d (f c)) (f c) (forest deep (map f cs))
              ∙ ap (λ (t : Grove). swell d m l deep (reach d (f c)) (f c) t) (rec (omega arith))
              ∙ ap (λ (q : List ℕ). swell d m l deep (reach d q) q (forest deep (map (λ b. f b ++ cond (eqb a b) (z ∷ []) []) cs)))
              (sym (ap (λ (s : Bool). f c ++ cond s (z ∷ []) []) q ∙ append-nil (f c)))

      -- the parts of a run that takes it
      kids-snoc : (deep : ℕ)
          → ((q : List ℕ) (g : Grove) → Fresh z q → join d m l z deep 0 (swell d m l deep (reach d q) q g)
          ≡ swell d m l deep (reach d (q ++ z ∷ [])) (q ++ z ∷ []) g)
          → (run : List ℕ) → Fresh z run → l < length run
          → join d m l z deep (lowest_at (map (λ f. d f z) (centres d m l run))) (forest deep (parts d m l run))
          ≡ forest deep (parts d m l (run ++ z ∷ []))
      kids-snoc deep ih run F h =
          let r : Run run = fresh-run z run F in
          let cs : List ℕ = centres d m l run in
          let f : ℕ → List ℕ = group_among d m l cs (others d m l run) in
          let xs : List ℕ = map (λ f. d f z) cs in
          let len : length cs ≡ m = chosen-length d m m1 (early d m l run) in
          let n : length xs ≡ length cs = length-map cs (λ f. d f z) in
          let fresh : Every (Fresh z) (parts d m l run) =
          every-both Run (λ q. times z q ≡ 0) (Fresh z) (λ q a b. run-fresh z q a b) (parts d m l run) (parts-runs d m l m1 ml run r h)
          (parts_within d m l m1 ml run r h z (fresh-none z run F)) in
          ap (λ (gs : List (List ℕ)). join d m l z deep (lowest_at xs) (forest deep gs)) (parts_is d m l run)
          ∙ forest-snoc deep ih f (closest d cs z) cs (lowest_at xs) (omega (arith, lowest_there xs (omega arith))) (sym (closest-place d z cs (omega arith)))
          (centre-once d m l m1 ml run r h z) (subst (Every (Fresh z)) (parts_is d m l run) fresh)
          ∙ ap (forest deep) (sym (parts_more d m l run z h))

      -- an inner node that takes it
      fork-snoc : (deep : ℕ)
          → ((q : List ℕ) (g : Grove) → Fresh z q → join d m l z deep 0 (swell d m l deep (reach d q) q g)
          ≡ swell d m l deep (reach d (q ++ z ∷ [])) (q ++ z ∷ []) g)
          → (R : Reach) (run : List ℕ) (g : Grove) → Fresh z run → l < length run
          → join d m l z (suc deep) 0 (fork R (forest deep (parts d m l run)) g)
          ≡ fork (reach_with (length run) R (d (head run) z)) (forest deep (parts d m l (run ++ z ∷ []))) g
      unfolding join
      fork-snoc deep ih R run g F h =
          let ks : Grove = forest deep (parts d m l run) in
          ap₂ (λ (k : ℕ) (cs : List ℕ). fork (reach_with k R (d (head cs) z)) (join d m l z deep (lowest_at (map (λ f. d f z) cs)) ks) g)
          (kids-count deep run (fresh-run z run F) h) (kids-firsts deep run)
          ∙ ap₂ (λ (i : ℕ) (t : Grove). fork (reach_with (length run) R (d i z)) t g) (centres-head d m l run) (kids-snoc deep ih run F h)

      -- A ROW JOINED TO THE NODE OF A RUN MAKES THE NODE OF THE RUN WITH THE ROW BEHIND
      pub swell-snoc : (deep : ℕ) (R : Reach) (run : List ℕ) (g : Grove) → Fresh z run
          → join d m l z deep 0 (swell d m l deep R run g) ≡ swell d m l deep (reach_with (length run) R (d (head run) z)) (run ++ z ∷ []) g
      unfolding swell join
      swell-snoc zero R run g F = flat-snoc 0 R run g F (λ h. absurd (not-suc-le-zero h))
      swell-snoc (suc deep) R run g F =
          let R' : Reach = reach_with (length run) R (d (head run) z) in
          let ih : (q : List ℕ) (g : Grove) → Fresh z q → join d m l z deep 0 (swell d m l deep (reach d q) q g)
          ≡ swell d m l deep (reach d (q ++ z ∷ [])) (q ++ z ∷ []) g =
          λ q g k. swell-snoc deep (reach d q) q g k ∙ ap (λ (S : Reach). swell d m l deep S (q ++ z ∷ []) g) (reach-behind d z q k.0) in
          by_length (join d m l z (suc deep) 0 (swell d m l (suc deep) R run g) ≡ swell d m l (suc deep) R' (run ++ z ∷ []) g) run
          (λ h. ap (join d m l z (suc deep) 0) (swell-short (suc deep) R run g h) ∙ flat-snoc (suc deep) R run g F (λ u. h))
          (λ h. ap (join d m l z (suc deep) 0) (swell-long deep R run g h) ∙ fork-snoc deep ih R run g F h
          ∙ sym (swell-long deep R' (run ++ z ∷ []) g (omega (arith, length-append run (z ∷ [])))))
