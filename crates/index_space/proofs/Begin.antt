-- A search begins soundly on an index in shape in which each row stands once. Assumes nothing.
use Prim.Native.Nat.{◌+◌, ◌-◌, ◌<◌, ◌≤◌, min, suc, ℕ}
use Rattle.best_first.specs.Search.{Due, Kept, rows_closer}
use Rattle.index_space.proofs.Below.{below}
use Rattle.index_space.proofs.Laws.{bad_of, homes_of, off}
use Rattle.index_space.proofs.Opening.{run-parts}
use Rattle.index_space.specs.Fits.{home_bound}
use Rattle.index_space.specs.Items.{live_of, root_of, space_of, waits_node}
use Rattle.laws.proofs.Bags.{times_total, total-append, total-map, total_range}
use Rattle.laws.proofs.Sums.{sum_below-zero}
use Rattle.laws.proofs.Times.{lefts, look_every, times_every}
use Rattle.laws.specs.Bags.{is, total}
use Rattle.laws.specs.Every.{Every}
use Rattle.laws.specs.Lists.{gap, look, range, times}
use Rattle.laws.specs.Upto.{sum_to}
use Rattle.limits.specs.Limits.{max_depth}
use Rattle.tree.proofs.Homes.{homes-rows}
use Rattle.tree.proofs.Members.{firsts_at}
use Rattle.tree.proofs.Rows.{by_root, full-tree, rows-low, rows-tree}
use Rattle.tree.specs.Grove.{Grove, bare, firsts, rows_in, tree_at, tree_of}
use Rattle.tree.specs.Homes.{homes, homes_in}
use Rattle.words.specs.InShape.{InShape, Root}
use Rattle.words.specs.Words.{nodes#, first#, n#, row#}
use mathlib.Core.Bool.{Bool}
use mathlib.Core.List.{List, [], ◌∷◌, map}
use mathlib.Core.Path.{◌∙◌, ◌≡◌, ap, ap₂, refl, subst, sym}
use native.Mathlib.Decide.{dec_lt}
use native.Mathlib.Omega.{arith}

-- where no element has f, the list has none
total_every : (f : ℕ × ℕ → ℕ) (hs : List (ℕ × ℕ)) → Every (λ h. f h ≡ 0) hs → total f hs ≡ 0
total_every f [] k = refl
total_every f (h ∷ hs) k = omega (arith, k.0, total_every f hs k.1)

module _ (w : List ℕ) (S : InShape w) (some : 1 ≤ n# w) (once : (i : ℕ) → i < n# w → times i (map (row# w) (range 0 (n# w))) ≡ 1) (x : ℕ → ℕ) where
  -- a row's home bound
  abbrev hb : ℕ → ℕ
  hb = home_bound w x

  -- all rows with their home bounds
  abbrev hs : List (ℕ × ℕ)
  hs = homes x (tree_of w)

  -- there is a root
  root-there : 1 ≤ nodes# w
  root-there = (S.root some).there

  -- the tree is read from the root
  tree-root : tree_of w ≡ tree_at w max_depth 0 bare
  tree-root = by_root (λ (g : Grove). g ≡ tree_at w max_depth 0 bare) w (λ h. refl) (λ e. absurd (omega (arith, root-there)))

  -- a row has as many homes as positions
  home-times : (i : ℕ) → times i (lefts hs) ≡ times i (map (row# w) (range 0 (n# w)))
  home-times i = homes-rows x i (tree_of w) (full-tree w S) ∙ ap (times i) (rows-tree w S)

  -- a row that has a home is one of the table
  home-row : (i : ℕ) → 1 ≤ times i (lefts hs) → i < n# w
  home-row i h =
      times_every (λ i. i < n# w) (rows_in (tree_of w)) (rows-low w S) i (omega (arith, homes-rows x i (tree_of w) (full-tree w S)))

  -- no row has two homes
  home-once : (i : ℕ) → times i (lefts hs) ≤ 1
  home-once i = at (dec_lt (times i (lefts hs)) 1)
    where
      at : Dec (times i (lefts hs) < 1) → times i (lefts hs) ≤ 1
      at (yes l) = omega arith
      at (no l) = omega (arith, home-times i, once i (home-row i (omega arith)))

  -- each home is that of a row of the table, with its home bound
  homes-sound : Every (λ h. off w hb h ≡ 0) hs
  homes-sound = look_every (λ h. off w hb h ≡ 0) hs home-once (λ i k. sound (n# w) i (look i hs) (home-row i k))
    where
      sound : (n i v : ℕ) → i < n → (suc i - n) + gap v v ≡ 0
      sound n i v h = omega arith

  -- a tree's homes are its root's first under 0, and those below
  two-parts : (f : ℕ × ℕ → ℕ) (t : Grove)
      → total f (homes x t) ≡ total f (map (λ i. (i, 0)) (firsts t)) + total f (homes_in x (λ u R. 0) t)
  unfolding homes
  two-parts f t = total-append f (map (λ i. (i, 0)) (firsts t)) (homes_in x (λ u R. 0) t)

  -- the homes below the root, whose bound is 0
  below_root : (f : ℕ × ℕ → ℕ) → total f (homes_in x (λ u R. 0) (tree_at w max_depth 0 bare)) ≡ below w x f 0 0
  unfolding below
  below_root f = refl

  -- the root's first has the home bound 0, and all bounds below the root that follow from 0 are home bounds
  root-parts : off w hb (first# w 0, 0) + below w x (off w hb) 0 0 ≡ 0
  root-parts =
      let o : ℕ × ℕ → ℕ = off w hb in
      let t : Grove = tree_at w max_depth 0 bare in
      let e : total o (map (λ i. (i, 0)) (firsts t)) + total o (homes_in x (λ u R. 0) t) ≡ 0 =
      sym (two-parts o t) ∙ ap (λ (t : Grove). total o (homes x t)) (sym tree-root) ∙ total_every o hs homes-sound in
      let a : total o (map (λ i. (i, 0)) (firsts t)) ≡ o (first# w 0, 0) + 0 =
      ap (λ (l : List ℕ). total o (map (λ i. (i, 0)) l)) (firsts_at w S max_depth 0 bare root-there) in
      both (o (first# w 0, 0)) (total o (map (λ i. (i, 0)) (firsts t))) (total o (homes_in x (λ u R. 0) t)) (below w x o 0 0) e a (below_root o)
    where
      both : (a b c d : ℕ) → b + c ≡ 0 → b ≡ a + 0 → c ≡ d → a + d ≡ 0
      both a b c d h e f = omega arith

  -- THE ROOT'S FIRST HAS HOME BOUND 0
  root-home : hb (first# w 0) ≡ 0
  root-home = part (suc (first# w 0) - n# w) (hb (first# w 0)) (below w x (off w hb) 0 0) root-parts
    where
      part : (a b c : ℕ) → a + gap b 0 + c ≡ 0 → b ≡ 0
      part a b c e = omega arith

  -- the root's first is due, however few are wanted
  pub root-due : (gone : ℕ → Bool) (wanted : ℕ) → 1 ≤ wanted → Due (space_of w gone) (homes_of w hb x) wanted x (first# w 0)
  root-due gone wanted h =
      let z : rows_closer (n# w) (live_of gone) x 0 ≡ 0 =
      sum_below-zero (λ (s : ℕ). min (live_of gone s) (0 - x s)) (n# w) (λ j l. omega arith) in
      omega (arith, ap (rows_closer (n# w) (live_of gone) x) root-home)

  -- each row is the root's first or waits below the root
  root-rows : (r : ℕ) → r < n# w → is r (first# w 0) + (waits_node w 0 r + 0) ≡ 1
  root-rows r h =
      let R : Root w = S.root some in
      let f : ℕ → ℕ = λ (p : ℕ). is r (row# w p) in
      omega (
        arith,
        run-parts w 0 r (S.node 0 root-there).some,
        ap₂ (λ (s n : ℕ). sum_to (λ (u : ℕ). f (s + u)) n) R.start R.count,
        total_range f 0 (n# w),
        total-map (is r) (row# w) (range 0 (n# w)),
        times_total r (map (row# w) (range 0 (n# w))),
        once r h,
      )

  -- THE SEARCH BEGINS SOUNDLY, with the root's first measured
  pub begins : (gone : ℕ → Bool) (wanted : ℕ) → 1 ≤ wanted → (m : ℕ → ℕ) → ((r : ℕ) → r < n# w → m r ≡ is r (first# w 0))
      → Kept (space_of w gone) (homes_of w hb x) wanted x (root_of w x ∷ []) m
  begins gone wanted h m e = record { once = λ r l. omega (arith, e r l, root-rows r l); sound = sound; due = λ r l p. due r (omega (arith, e r l)) }
    where
      sound : total (bad_of w hb x) (root_of w x ∷ []) ≡ 0
      sound = root-bad (nodes# w) (x (first# w 0)) (off w hb (first# w 0, 0)) (below w x (off w hb) 0 0) root-there root-parts
        where
          root-bad : (N u a z : ℕ) → 1 ≤ N → a + z ≡ 0 → (1 - N) + gap u u + z + 0 ≡ 0
          root-bad N u a z h e = omega arith

      due : (r : ℕ) → 0 < is r (first# w 0) → Due (space_of w gone) (homes_of w hb x) wanted x r
      due r p =
          let e : first# w 0 ≡ r = omega arith in
          subst (Due (space_of w gone) (homes_of w hb x) wanted x) e (root-due gone wanted h)
