-- A tree with several rows more, made in one pass, is the tree with one joined after the other. Assumes nothing.
use Prim.Native.Nat.{◌+◌, ◌<◌, ◌≤◌, max, min, suc, zero, ℕ}
use Rattle.appending.proofs.Lodge.{lodge-twice, longer}
use Rattle.appending.proofs.Lowest.{head_more, not-twice, once_each, times_more, times_none}
use Rattle.appending.specs.Append.{join, lodge, lowest_at, reach_with, twice}
use Rattle.laws.proofs.Every.{every_append, every-keep, every_of}
use Rattle.laws.proofs.Joins.{keep_append}
use Rattle.laws.proofs.Lists.{map-append, tally_length}
use Rattle.laws.proofs.Ranges.{range_append, range-every}
use Rattle.laws.proofs.Shares.{bit}
use Rattle.laws.proofs.Times.{lefts}
use Rattle.laws.specs.Every.{Every}
use Rattle.laws.specs.Lists.{head, keep, range, times}
use Rattle.limits.specs.Limits.{max_depth}
use Rattle.swelling.proofs.Swelling.{flat-firsts, lodge-swell, pairs-rows, run-fresh, swell-after, swell-firsts, swell-snoc, swell-tally}
use Rattle.swelling.specs.Rows.{joins}
use Rattle.swelling.specs.Swell.{flat, lodges, reach_taking, swell, swollen, swollen_tree, towards}
use Rattle.tree.proofs.Full.{Full, rows_left, rows_right}
use Rattle.tree.proofs.Shaped.{Fine}
use Rattle.tree.specs.Grove.{Grove, Reach, bare, entries, first, firsts, fork, leaf, reaching, rows_in}
use borrow.Author.Tests.{eq-eqb, eqb-true, ne_eqb}
use lib.Dec.{T, eqb, leb, leb→le}
use lib.ListN.{length, length-append, length-map}
use mathlib.Core.Bool.{Bool, ◌||◌, cond, false, or-false, true}
use mathlib.Core.List.{List, [], ◌++◌, ◌∷◌, append_assoc, append-nil, map}
use mathlib.Core.Path.{◌∙◌, ◌≡◌, ap, ap₂, refl, subst, sym}
use native.Mathlib.Nat.{add-zero, not-suc-le-zero}
use native.Mathlib.Numerals.{add-one}
use native.Mathlib.Omega.{arith}

-- ---- one more at the end
-- a row that passes is kept last
keep_with : (f : ℕ → Bool) (zs : List ℕ) (z : ℕ) → f z ≡ true → keep f (zs ++ z ∷ []) ≡ keep f zs ++ z ∷ []
keep_with f zs z e = keep_append f zs (z ∷ []) ∙ ap (λ (s : Bool). keep f zs ++ cond s (z ∷ []) []) e

-- one that does not is not
keep-without : (f : ℕ → Bool) (zs : List ℕ) (z : ℕ) → f z ≡ false → keep f (zs ++ z ∷ []) ≡ keep f zs
keep-without f zs z e = keep_append f zs (z ∷ []) ∙ ap (λ (s : Bool). keep f zs ++ cond s (z ∷ []) []) e ∙ append-nil (keep f zs)

-- the reach that takes it last
pub taking_snoc : (k : ℕ) (R : Reach) (vs : List ℕ) (v : ℕ) → reach_taking k R (vs ++ v ∷ []) ≡ reach_with (k + length vs) (reach_taking k R vs) v
taking_snoc k R [] v = ap (λ (n : ℕ). reach_with n R v) (sym (add-zero k))
taking_snoc k R (x ∷ vs) v =
    let count : suc k + length vs ≡ k + length (x ∷ vs) = omega arith in
    taking_snoc (suc k) (reach_with k R x) vs v ∙ ap (λ (n : ℕ). reach_with n (reach_taking (suc k) (reach_with k R x) vs) v) count

-- with two rows or more their number makes no difference to it
reach_many : (a b : ℕ) (R : Reach) (v : ℕ) → 2 ≤ a → 2 ≤ b → reach_with a R v ≡ reach_with b R v
reach_many a b R v h k =
    ap (λ (s : Bool). reaching (max R.outer v) (cond s v (min R.inner v))) (ne_eqb a 1 (λ e. omega arith) ∙ sym (ne_eqb b 1 (λ e. omega arith)))

-- a leaf by the rule of count and depth has at most l rows where a level is left below
few_of : {l : ℕ} (deep n : ℕ) → T (leb n l || eqb deep 0) → 1 ≤ deep → n ≤ l
few_of {l} deep n t h = leb→le n l (subst T (or-false (leb n l)) (subst (λ (b : Bool). T (leb n l || b)) (ne_eqb deep 0 (λ q. omega arith)) t))

-- the first stays
head-before : (xs : List ℕ) (z : ℕ) (zs : List ℕ) → 1 ≤ length xs → head (xs ++ z ∷ zs) ≡ head xs
head-before [] z zs h = absurd (not-suc-le-zero h)
head-before (x ∷ xs) z zs h = refl

-- a row above all others makes none stand twice
twice_more : (run : List ℕ) (z : ℕ) → Every (λ i. i < z) run → twice (run ++ z ∷ []) ≡ twice run
twice_more run z low = go (twice run) refl (twice (run ++ z ∷ [])) refl
  where
    other : (i : ℕ) (s : Bool) → eqb i z ≡ s → times i run ≤ 1 → times i run + bit s ≤ 1
    other i true q h = omega (arith, times_none z run low, ap (λ (k : ℕ). times k run) (eqb-true i z q))
    other i false q h = omega arith

    go : (a : Bool) → twice run ≡ a → (b : Bool) → twice (run ++ z ∷ []) ≡ b → b ≡ a
    go true e true q = refl
    go false e false q = refl
    go true e false q = sym (not-twice run (λ i. omega (arith, times_more i z run, once_each (run ++ z ∷ []) q i))) ∙ e
    go false e true q =
        sym q ∙ not-twice (run ++ z ∷ []) (λ i. omega (arith, times_more i z run, other i (eqb i z) refl (once_each run e i)))

module _ (d : ℕ → ℕ → ℕ) (m l : ℕ) where
  -- a run that takes rows: a leaf where a row stands twice
  abbrev settled : ℕ → Grove → Reach → List ℕ → Grove
  settled deep g R run = cond (twice run) (flat d R run g) (swell d m l deep R run g)

  -- no row more
  pub swollen-none : (deep : ℕ) (place : ℕ → ℕ) (k : ℕ) (g : Grove) → swollen d m l deep place k [] g ≡ g
  unfolding swollen lodges
  swollen-none deep place k bare = refl
  swollen-none deep place k (leaf R es g) = ap (leaf R es) (swollen-none deep place (suc k) g)
  swollen-none zero place k (fork R ks g) = ap (fork R ks) (swollen-none zero place (suc k) g)
  swollen-none (suc deep) place k (fork R ks g) =
      ap₂ (λ (a b : Grove). fork R a b) (swollen-none deep (towards d ks) 0 ks) (swollen-none (suc deep) place (suc k) g)

  -- ---- the firsts stay
  -- a leaf's
  lodges-firsts : (deep : ℕ) (R : Reach) (es : List (ℕ × ℕ)) (zs : List ℕ) (g : Grove) → 1 ≤ length es
      → firsts (lodges d m l deep R es zs g) ≡ head (lefts es) ∷ firsts g
  unfolding lodges
  lodges-firsts deep R es [] g h = refl
  lodges-firsts deep R es (z ∷ zs) g h =
      go (twice (lefts es ++ z ∷ zs)) (reach_taking (length es) R (map (d (head (lefts es ++ z ∷ zs))) (z ∷ zs)))
      ∙ ap (λ (i : ℕ). i ∷ firsts g) (head-before (lefts es) z zs (omega (arith, length-map es (λ e. e.0))))
    where
      go : (b : Bool) (S : Reach) → firsts (cond b (flat d S (lefts es ++ z ∷ zs) g) (swell d m l deep S (lefts es ++ z ∷ zs) g))
          ≡ head (lefts es ++ z ∷ zs) ∷ firsts g
      go true S = flat-firsts d m l S (lefts es ++ z ∷ zs) g
      go false S = swell-firsts d m l deep S (lefts es ++ z ∷ zs) g

  -- those of nodes side by side
  pub swollen-firsts : (deep : ℕ) (place : ℕ → ℕ) (k : ℕ) (zs : List ℕ) (g : Grove) → Full g → firsts (swollen d m l deep place k zs g) ≡ firsts g
  unfolding swollen
  swollen-firsts deep place k zs bare f = refl
  swollen-firsts deep place k zs (leaf R es g) f =
      lodges-firsts deep R es (keep (λ z. eqb (place z) k) zs) (swollen d m l deep place (suc k) zs g) f.0
      ∙ ap (λ (is : List ℕ). head (lefts es) ∷ is) (swollen-firsts deep place (suc k) zs g f.1)
  swollen-firsts zero place k zs (fork R ks g) f = ap (λ (is : List ℕ). first ks ∷ is) (swollen-firsts zero place (suc k) zs g f.2)
  swollen-firsts (suc deep) place k zs (fork R ks g) f =
      ap₂ (λ (is js : List ℕ). head is ∷ js) (swollen-firsts deep (towards d ks) 0 (keep (λ z. eqb (place z) k) zs) ks f.1)
      (swollen-firsts (suc deep) place (suc k) zs g f.2)

  -- ---- a row that goes elsewhere
  swollen-other : (deep : ℕ) (place : ℕ → ℕ) (k : ℕ) (zs : List ℕ) (z : ℕ) (g : Grove) → place z < k
      → swollen d m l deep place k (zs ++ z ∷ []) g ≡ swollen d m l deep place k zs g
  unfolding swollen
  swollen-other deep place k zs z bare h = refl
  swollen-other deep place k zs z (leaf R es g) h =
      ap₂ (λ (ys : List ℕ) (t : Grove). lodges d m l deep R es ys t)
      (keep-without (λ y. eqb (place y) k) zs z (ne_eqb (place z) k (λ q. omega arith))) (swollen-other deep place (suc k) zs z g (omega arith))
  swollen-other zero place k zs z (fork R ks g) h = ap (fork R ks) (swollen-other zero place (suc k) zs z g (omega arith))
  swollen-other (suc deep) place k zs z (fork R ks g) h =
      ap₂ (λ (ys : List ℕ) (t : Grove).
      fork (reach_taking (length (entries ks)) R (map (d (first ks)) ys)) (swollen d m l deep (towards d ks) 0 ys ks) t)
      (keep-without (λ y. eqb (place y) k) zs z (ne_eqb (place z) k (λ q. omega arith))) (swollen-other (suc deep) place (suc k) zs z g (omega arith))

  module _ (m2 : 2 ≤ m) (ml : m ≤ l) where
    -- ---- no member is lost
    -- of a run that takes rows
    settled-count : (deep : ℕ) (g : Grove) (R : Reach) (run : List ℕ) → 1 ≤ length run
        → length (entries (settled deep g R run)) ≡ length run + length (entries g)
    settled-count deep g R run some = go (twice run) refl
      where
        go : (b : Bool) → twice run ≡ b
            → length (entries (cond b (flat d R run g) (swell d m l deep R run g))) ≡ length run + length (entries g)
        go true e =
            let es : List (ℕ × ℕ) = map (λ i. (i, d (head run) i)) run in
            let len : length es ≡ length run = length-map run (λ i. (i, d (head run) i)) in
            omega (arith, length-append es (entries g), len)
        go false e =
            let t : Grove = swell d m l deep R run g in
            omega (
              arith,
              swell-tally d m l m2 ml deep (λ i. true) R run g (some, once_each run e),
              tally_length (rows_in t),
              tally_length (rows_in g),
              tally_length run,
              length-map (entries t) (λ e. e.0),
              length-map (entries g) (λ e. e.0),
            )

    -- of a leaf
    pub lodges-count : (deep : ℕ) (R : Reach) (es : List (ℕ × ℕ)) (zs : List ℕ) (g : Grove)
        → length (entries (lodges d m l deep R es zs g)) ≡ length es + length zs + length (entries g)
    unfolding lodges
    lodges-count deep R es [] g = omega (arith, length-append es (entries g))
    lodges-count deep R es (z ∷ zs) g =
        let run : List ℕ = lefts es ++ z ∷ zs in
        let len : length run ≡ length es + length (z ∷ zs) = omega (arith, length-append (lefts es) (z ∷ zs), length-map es (λ e. e.0)) in
        settled-count deep g (reach_taking (length es) R (map (d (head run)) (z ∷ zs))) run (omega arith)
        ∙ ap (λ (n : ℕ). n + length (entries g)) len

    -- of nodes side by side
    swollen-count : (deep : ℕ) (place : ℕ → ℕ) (k : ℕ) (zs : List ℕ) (g : Grove) → length (entries g) ≤ length (entries (swollen d m l deep place k zs g))
    unfolding swollen
    swollen-count deep place k zs bare = omega arith
    swollen-count deep place k zs (leaf R es g) =
        let t : Grove = swollen d m l deep place (suc k) zs g in
        omega (arith, lodges-count deep R es (keep (λ z. eqb (place z) k) zs) t, swollen-count deep place (suc k) zs g, length-append es (entries g))
    swollen-count zero place k zs (fork R ks g) =
        let t : Grove = swollen d m l zero place (suc k) zs g in
        omega (arith, swollen-count zero place (suc k) zs g, length-append (entries ks) (entries g), length-append (entries ks) (entries t))
    swollen-count (suc deep) place k zs (fork R ks g) =
        let t : Grove = swollen d m l (suc deep) place (suc k) zs g in
        let ks' : Grove = swollen d m l deep (towards d ks) 0 (keep (λ z. eqb (place z) k) zs) ks in
        omega (
          arith,
          swollen-count deep (towards d ks) 0 (keep (λ z. eqb (place z) k) zs) ks,
          swollen-count (suc deep) place (suc k) zs g,
          length-append (entries ks) (entries g),
          length-append (entries ks') (entries t),
        )

    module _ (z : ℕ) where
      -- ---- one row more for a leaf that has taken some
      -- one behind takes it
      lodges-after : (deep at : ℕ) (R : Reach) (es : List (ℕ × ℕ)) (zs : List ℕ) (g : Grove)
          → join d m l z deep (suc at) (lodges d m l deep R es zs g) ≡ lodges d m l deep R es zs (join d m l z deep at g)
      unfolding lodges join
      lodges-after deep at R es [] g = refl
      lodges-after deep at R es (y ∷ ys) g = go (twice (lefts es ++ y ∷ ys)) (reach_taking (length es) R (map (d (head (lefts es ++ y ∷ ys))) (y ∷ ys)))
        where
          go : (b : Bool) (S : Reach)
              → join d m l z deep (suc at) (cond b (flat d S (lefts es ++ y ∷ ys) g) (swell d m l deep S (lefts es ++ y ∷ ys) g))
              ≡ cond b (flat d S (lefts es ++ y ∷ ys) (join d m l z deep at g)) (swell d m l deep S (lefts es ++ y ∷ ys) (join d m l z deep at g))
          go true S = refl
          go false S = swell-after d m l m2 ml z deep at S (lefts es ++ y ∷ ys) g

      -- a run that has taken some
      settled-snoc : (deep : ℕ) (g : Grove) (R : Reach) (run : List ℕ) → 1 ≤ length run → Every (λ i. i < z) run
          → join d m l z deep 0 (settled deep g R run) ≡ settled deep g (reach_with (length run) R (d (head run) z)) (run ++ z ∷ [])
      unfolding join
      settled-snoc deep g R run some low =
          let R' : Reach = reach_with (length run) R (d (head run) z) in
          go (twice run) refl
          ∙ ap (λ (b : Bool). cond b (flat d R' (run ++ z ∷ []) g) (swell d m l deep R' (run ++ z ∷ []) g)) (sym (twice_more run z low))
        where
          es : List (ℕ × ℕ)
          es = map (λ i. (i, d (head run) i)) run

          go : (b : Bool) → twice run ≡ b → join d m l z deep 0 (cond b (flat d R run g) (swell d m l deep R run g))
              ≡ cond b (flat d (reach_with (length run) R (d (head run) z)) (run ++ z ∷ []) g)
              (swell d m l deep (reach_with (length run) R (d (head run) z)) (run ++ z ∷ []) g)
          go true e =
              let rows : lefts es ≡ run = pairs-rows d run in
              let again : twice (longer z es) ≡ true = ap (λ (is : List ℕ). twice (is ++ z ∷ [])) rows ∙ twice_more run z low ∙ e in
              lodge-twice d m l z deep R es g again
              ∙ ap₂ (λ (k : ℕ) (is : List ℕ). flat d (reach_with k R (d (head (is ++ z ∷ [])) z)) (is ++ z ∷ []) g)
              (length-map run (λ i. (i, d (head run) i))) rows
              ∙ ap (λ (i : ℕ). flat d (reach_with (length run) R (d i z)) (run ++ z ∷ []) g) (head_more run z some)
          go false e = swell-snoc d m l m2 ml z deep R run g (run-fresh z run (some, once_each run e) (times_none z run low))

      -- A LEAF THAT HAS TAKEN SOME ROWS TAKES ONE MORE
      lodges-snoc : (deep : ℕ) (R : Reach) (es : List (ℕ × ℕ)) (zs : List ℕ) (g : Grove) → 1 ≤ length es → (1 ≤ deep → length es ≤ l)
          → Every (λ i. i < z) (lefts es) → Every (λ i. i < z) zs
          → join d m l z deep 0 (lodges d m l deep R es zs g) ≡ lodges d m l deep R es (zs ++ z ∷ []) g
      unfolding lodges join
      lodges-snoc deep R es [] g some few low new = go (twice (longer z es)) refl
        where
          rows : 1 ≤ length (lefts es)
          rows = omega (arith, some, length-map es (λ e. e.0))

          go : (b : Bool) → twice (longer z es) ≡ b → lodge d m l z deep R es g
              ≡ cond b (flat d (reach_with (length es) R (d (head (longer z es)) z)) (longer z es) g)
              (swell d m l deep (reach_with (length es) R (d (head (longer z es)) z)) (longer z es) g)
          go true e = lodge-twice d m l z deep R es g e
          go false e =
              lodge-swell d m l m2 ml z deep R es g rows (once_each (longer z es) e) few
              ∙ ap (λ (i : ℕ). swell d m l deep (reach_with (length es) R (d i z)) (longer z es) g) (sym (head_more (lefts es) z rows))
      lodges-snoc deep R es (y ∷ ys) g some few low new =
          let zs : List ℕ = y ∷ ys in
          let run : List ℕ = lefts es ++ zs in
          let run' : List ℕ = lefts es ++ (zs ++ z ∷ []) in
          let rows : length (lefts es) ≡ length es = length-map es (λ e. e.0) in
          let len : length run ≡ length es + length zs = omega (arith, length-append (lefts es) zs) in
          let same : run ++ z ∷ [] ≡ run' = append_assoc (lefts es) zs (z ∷ []) in
          let hd : head run' ≡ head run = ap head (sym same) ∙ head_more run z (omega arith) in
          let own : Reach = reach_taking (length es) R (map (d (head run)) zs) in
          let own' : Reach = reach_taking (length es) R (map (d (head run')) (zs ++ z ∷ [])) in
          let count : length es + length (map (d (head run)) zs) ≡ length run = omega (arith, length-map zs (d (head run))) in
          let taken : reach_with (length run) own (d (head run) z) ≡ own' =
          sym (ap (λ (i : ℕ). reach_taking (length es) R (map (d i) (zs ++ z ∷ []))) hd
          ∙ ap (reach_taking (length es) R) (map-append (d (head run)) zs (z ∷ []))
          ∙ taking_snoc (length es) R (map (d (head run)) zs) (d (head run) z)
          ∙ ap (λ (n : ℕ). reach_with n own (d (head run) z)) count) in
          settled-snoc deep g own run (omega arith) (every_append (λ i. i < z) (lefts es) zs low new)
          ∙ ap₂ (λ (S : Reach) (is : List ℕ). settled deep g S is) taken same

      -- ---- nodes side by side
      -- ONE ROW MORE, WHERE SOME HAVE BEEN TAKEN: it goes on as it would have gone before them
      pub join-swollen : (deep : ℕ) (place : ℕ → ℕ) (k at : ℕ) (zs : List ℕ) (g : Grove) → Fine l deep g → Full g → Every (λ i. i < z) (rows_in g)
          → Every (λ i. i < z) zs → place z ≡ k + at
          → join d m l z deep at (swollen d m l deep place k zs g) ≡ swollen d m l deep place k (zs ++ z ∷ []) g
      unfolding swollen join
      join-swollen deep place k at zs bare fi f low new e = refl
      join-swollen deep place k zero zs (leaf R es g) fi f low new e =
          let here : List ℕ = keep (λ y. eqb (place y) k) zs in
          let t : Grove = swollen d m l deep place (suc k) zs g in
          lodges-snoc deep R es here t fi.0 (few_of deep (length es) fi.2) (rows_left (λ i. i < z) es (entries g) low)
          (every-keep (λ i. i < z) (λ y. eqb (place y) k) zs new)
          ∙ ap₂ (λ (ys : List ℕ) (t : Grove). lodges d m l deep R es ys t) (sym (keep_with (λ y. eqb (place y) k) zs z (eq-eqb (place z) k (omega arith))))
          (sym (swollen-other deep place (suc k) zs z g (omega arith)))
      join-swollen deep place k (suc at) zs (leaf R es g) fi f low new e =
          let here : List ℕ = keep (λ y. eqb (place y) k) zs in
          let t : Grove = swollen d m l deep place (suc k) zs g in
          lodges-after deep at R es here t
          ∙ ap₂ (λ (ys : List ℕ) (t : Grove). lodges d m l deep R es ys t)
          (sym (keep-without (λ y. eqb (place y) k) zs z (ne_eqb (place z) k (λ q. omega arith))))
          (join-swollen deep place (suc k) at zs g fi.3 f.1 (rows_right (λ i. i < z) es (entries g) low) new (omega arith))
      join-swollen zero place k at zs (fork R ks g) fi f low new e = absurd fi
      join-swollen (suc deep) place k zero zs (fork R ks g) fi f low new e =
          let here : List ℕ = keep (λ y. eqb (place y) k) zs in
          let t : Grove = swollen d m l (suc deep) place (suc k) zs g in
          let ks' : Grove = swollen d m l deep (towards d ks) 0 here ks in
          let n : ℕ = length (entries ks) in
          let own : Reach = reach_taking n R (map (d (first ks)) here) in
          let taken : reach_with (length (entries ks')) own (d (first ks) z) ≡ reach_taking n R (map (d (first ks)) (here ++ z ∷ [])) =
          reach_many (length (entries ks')) (n + length (map (d (first ks)) here)) own (d (first ks) z)
          (omega (arith, fi.0, swollen-count deep (towards d ks) 0 here ks)) (omega (arith, fi.0))
          ∙ sym (taking_snoc n R (map (d (first ks)) here) (d (first ks) z))
          ∙ ap (reach_taking n R) (sym (map-append (d (first ks)) here (z ∷ []))) in
          let kids : join d m l z deep (towards d ks z) ks' ≡ swollen d m l deep (towards d ks) 0 (here ++ z ∷ []) ks =
          join-swollen deep (towards d ks) 0 (towards d ks z) here ks fi.2 f.1 (rows_left (λ i. i < z) (entries ks) (entries g) low)
          (every-keep (λ i. i < z) (λ y. eqb (place y) k) zs new) (omega arith) in
          ap (λ (cs : List ℕ). fork (reach_with (length (entries ks')) own (d (head cs) z)) (join d m l z deep (lowest_at (map (λ f. d f z) cs)) ks') t)
          (swollen-firsts deep (towards d ks) 0 here ks f.1)
          ∙ ap₂ (λ (S : Reach) (kt : Grove). fork S kt t) taken kids
          ∙ ap₂ (λ (ys : List ℕ) (t : Grove). fork (reach_taking n R (map (d (first ks)) ys)) (swollen d m l deep (towards d ks) 0 ys ks) t)
          (sym (keep_with (λ y. eqb (place y) k) zs z (eq-eqb (place z) k (omega arith)))) (sym (swollen-other (suc deep) place (suc k) zs z g (omega arith)))
      join-swollen (suc deep) place k (suc at) zs (fork R ks g) fi f low new e =
          ap₂ (λ (ys : List ℕ) (t : Grove). fork (reach_taking (length (entries ks)) R (map (d (first ks)) ys)) (swollen d m l deep (towards d ks) 0 ys ks) t)
          (sym (keep-without (λ y. eqb (place y) k) zs z (ne_eqb (place z) k (λ q. omega arith))))
          (join-swollen (suc deep) place (suc k) at zs g fi.3 f.2 (rows_right (λ i. i < z) (entries ks) (entries g) low) new (omega arith))

    -- ---- the whole tree
    -- one more at the end
    joins-snoc : (zs : List ℕ) (z : ℕ) (t : Grove) → joins d m l (zs ++ z ∷ []) t ≡ join d m l z max_depth 0 (joins d m l zs t)
    unfolding joins
    joins-snoc [] z t = refl
    joins-snoc (y ∷ zs) z t = joins-snoc zs z (join d m l y max_depth 0 t)

    -- ROWS JOINED ONE AFTER THE OTHER MAKE THE TREE THAT TAKES THEM ALL AT ONCE
    pub joins-swollen : (n k : ℕ) (t : Grove) → Fine l max_depth t → Full t → Every (λ i. i < n) (rows_in t)
        → joins d m l (range n k) t ≡ swollen_tree d m l (range n k) t
    unfolding joins
    joins-swollen n zero t fi f low = sym (swollen-none max_depth (λ z. 0) 0 t)
    joins-swollen n (suc k) t fi f low =
        let more : range n (suc k) ≡ range n k ++ (n + k) ∷ [] = ap (range n) (sym (add-one k)) ∙ range_append n k 1 in
        ap (λ (zs : List ℕ). joins d m l zs t) more ∙ joins-snoc (range n k) (n + k) t
        ∙ ap (join d m l (n + k) max_depth 0) (joins-swollen n k t fi f low)
        ∙ join-swollen (n + k) max_depth (λ z. 0) 0 0 (range n k) t fi f (every_of (λ i. i < n) (λ i. i < n + k) (λ i h. omega arith) (rows_in t) low)
        (range-every (λ i. i < n + k) n k (λ i h. omega arith)) refl
        ∙ ap (λ (zs : List ℕ). swollen_tree d m l zs t) (sym more)
