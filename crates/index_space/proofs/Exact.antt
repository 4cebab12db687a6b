-- A run that came to its end has measured exactly the rows whose home bound passes, and its first are the answers: of rows that the index fits,
-- even where the lent rows agree with these only in the rows measured. Assumes nothing.
use Prim.Native.Nat.{◌+◌, ◌<◌, ◌≤◌, min, suc, zero, ℕ}
use Rattle.best_first.proofs.Keeps.{search-keeps}
use Rattle.best_first.proofs.Local.{measured-on-both, search-back}
use Rattle.best_first.specs.Search.{Due, Homes, Kept, Lawful, SearchReach, both}
use Rattle.index_space.proofs.Begin.{begins, root-due}
use Rattle.index_space.proofs.Laws.{bad_of, homes_of, known, lawful, shares}
use Rattle.index_space.proofs.Opening.{item-local}
use Rattle.index_space.proofs.Ranks.{due-passes, last_at, passes-is}
use Rattle.index_space.specs.Fits.{IndexFits, home_bound}
use Rattle.index_space.specs.Items.{IndexItem, live_of, measured_by, node, opened_by, root_of, space_of, waits_of}
use Rattle.index_space.specs.Run.{RunToEnd, SearchRun, in_order}
use Rattle.laws.proofs.Every.{every-keep, every_map}
use Rattle.laws.proofs.Ranges.{at_every}
use Rattle.laws.proofs.Tests.{or_r}
use Rattle.laws.specs.Bags.{SameBag}
use Rattle.laws.specs.Every.{Every}
use Rattle.laws.specs.Lists.{keep, range}
use Rattle.tree.proofs.Sorted.{best_of}
use Rattle.tree.specs.Nearest.{answers, candidates, passes, sort}
use Rattle.words.specs.InShape.{InShape, Root}
use Rattle.words.specs.Words.{first#, n#, start#}
use borrow.Author.Tests.{le-leb, le-ltb, lt-ltb, ltb-true}
use lib.Dec.{leb, ltb}
use lib.ListN.{length, take}
use mathlib.Core.Bool.{Bool, cond, false, not, true}
use mathlib.Core.List.{List, [], ◌∷◌, map}
use mathlib.Core.Path.{◌∙◌, ◌≡◌, ap, ap₂, refl, subst, sym}
use native.Mathlib.Omega.{arith}

-- ---- lists, row by row
-- rows kept by a test, at two distances that agree where it passes
kept_same : (p : ℕ → Bool) (x x' : ℕ → ℕ) (is : List ℕ) → Every (λ i. p i ≡ true → x i ≡ x' i) is
    → keep (λ (a : ℕ × ℕ). p a.0) (map (λ i. (i, x i)) is) ≡ keep (λ (a : ℕ × ℕ). p a.0) (map (λ i. (i, x' i)) is)
kept_same p x x' [] h = refl
kept_same p x x' (i ∷ is) h = go (p i) refl (kept_same p x x' is h.1)
  where
    K : (ℕ → ℕ) → List (ℕ × ℕ)
    K y = keep (λ (a : ℕ × ℕ). p a.0) (map (λ i. (i, y i)) is)

    go : (b : Bool) → p i ≡ b → K x ≡ K x' → cond {A = List (ℕ × ℕ)} b ((i, x i) ∷ K x) (K x) ≡ cond b ((i, x' i) ∷ K x') (K x')
    go true e q = ap₂ {C = List (ℕ × ℕ)} (λ v l. (i, v) ∷ l) (h.0 e) q
    go false e q = q

-- the rows of m that remain: those kept of all rows, or of those that remain
kept_left : (gone : ℕ → Bool) (m x : ℕ → ℕ) (is : List ℕ)
    → keep (λ (a : ℕ × ℕ). ltb 0 (both m (live_of gone) a.0)) (map (λ i. (i, x i)) is)
    ≡ keep (λ (a : ℕ × ℕ). ltb 0 (m a.0)) (map (λ i. (i, x i)) (keep (λ i. not (gone i)) is))
kept_left gone m x [] = refl
kept_left gone m x (i ∷ is) = go (gone i) (kept_left gone m x is)
  where
    A : List (ℕ × ℕ)
    A = keep (λ (a : ℕ × ℕ). ltb 0 (both m (live_of gone) a.0)) (map (λ i. (i, x i)) is)

    B : List ℕ
    B = keep (λ i. not (gone i)) is

    bit : (v : ℕ) → ltb 0 (min v 1) ≡ ltb 0 v
    bit zero = refl
    bit (suc v) = lt-ltb 0 (min (suc v) 1) (omega arith) ∙ sym (lt-ltb 0 (suc v) (omega arith))

    go : (b : Bool) → A ≡ keep (λ (a : ℕ × ℕ). ltb 0 (m a.0)) (map (λ i. (i, x i)) B)
        → cond {A = List (ℕ × ℕ)} (ltb 0 (min (m i) (cond b 0 1))) ((i, x i) ∷ A) A
        ≡ keep (λ (a : ℕ × ℕ). ltb 0 (m a.0)) (map (λ i. (i, x i)) (cond (not b) (i ∷ B) B))
    go true e = ap (λ (t : Bool). cond {A = List (ℕ × ℕ)} t ((i, x i) ∷ A) A) (le-ltb 0 (min (m i) 0) (omega arith)) ∙ e
    go false e =
        ap₂ (λ (t : Bool) (l : List (ℕ × ℕ)). cond {A = List (ℕ × ℕ)} t ((i, x i) ∷ l) l) (bit (m i)) e

-- two tests that pass together are one
test_same : (a b : Bool) → (a ≡ true → b ≡ true) → (b ≡ true → a ≡ true) → a ≡ b
test_same true b f g = sym (f refl)
test_same false true f g = g refl
test_same false false f g = refl

module _ (w : List ℕ) (S : InShape w) (filled : 1 ≤ n# w) (gone : ℕ → Bool) (wanted : ℕ) (some : 1 ≤ wanted) (x x' : ℕ → ℕ)
    (F : IndexFits w gone wanted x x') where
  -- a row's home bound, of the rows that the index fits
  abbrev hb : ℕ → ℕ
  hb = home_bound w x'

  -- where these rows have their homes
  abbrev H : Homes IndexItem
  H = homes_of w hb x'

  -- the space of the index meets the laws of a search, with these rows
  law : Lawful (space_of w gone) H x'
  law = lawful w hb x' S gone F.under

  -- the lent rows agree with these in every row that is due
  agree-due : (r : ℕ) → r < n# w → Due (space_of w gone) H wanted x' r → x r ≡ x' r
  agree-due r h c = F.agree r h ((due-passes x' gone (n# w) wanted some (hb r)).0 c)

  -- what an item opens is the same on both, where they agree in the rows that it measures
  opens-same : (i : IndexItem) → bad_of w hb x' i ≡ 0 → ((r : ℕ) → 0 < measured_by w i r → x r ≡ x' r) → opened_by w x i ≡ opened_by w x' i
  opens-same i g h = item-local w x' x i h

  -- the root waits with its first at the same distance on both
  root-same : root_of w x ≡ root_of w x'
  root-same =
      let R : Root w = S.root filled in
      ap (node 0 0) (agree-due (first# w 0) (S.place (start# w 0) (omega (arith, R.start))).row
      (root-due w S filled F.once x' gone wanted some))

  module _ (q : List IndexItem) (m : ℕ → ℕ) (R : SearchRun w gone wanted x q m) where
    -- the search of these rows begins soundly
    begun : Kept (space_of w gone) H wanted x' (root_of w x' ∷ []) R.start
    begun = begins w S filled F.once x' gone wanted some R.start R.begun

    -- the run on the lent rows began with the root as it waits on these
    reached : SearchReach (space_of w gone) wanted x (root_of w x' ∷ []) R.start q m
    reached = subst (λ (i : IndexItem). SearchReach (space_of w gone) wanted x (i ∷ []) R.start q m) root-same R.reached

    -- A RUN ON THE LENT ROWS KEEPS WHAT A SEARCH OF THE ROWS THAT FIT KEEPS
    pub run-keeps : Kept (space_of w gone) H wanted x' q m
    run-keeps =
        search-keeps (space_of w gone) H wanted x' law (root_of w x' ∷ []) R.start q m begun
        (search-back (space_of w gone) H wanted x' law x agree-due opens-same (known w hb x' S) (root_of w x' ∷ []) R.start q m begun reached)

    -- SO WHAT AN ITEM MEASURES THAT IS TAKEN IS NEW, and no row twice
    pub taken-new : (i : IndexItem) (others : List IndexItem) → SameBag q (i ∷ others) → (r : ℕ) → r < n# w → m r + measured_by w i r ≤ 1
    taken-new i others t r h =
        let K : Kept (space_of w gone) H wanted x' q m = run-keeps in
        omega (
          arith,
          K.once r h,
          t (λ (j : IndexItem). waits_of w j r),
          shares w hb x' S i r (omega (arith, K.sound, t (bad_of w hb x'))),
        )

  module _ (m : ℕ → ℕ) (R : RunToEnd w gone wanted x m) where
    -- THE MEASURED ROWS ARE THOSE WHOSE HOME BOUND PASSES
    pub measured-passes : (r : ℕ) → r < n# w → ltb 0 (m r) ≡ passes x' gone (n# w) wanted (hb r)
    measured-passes r h =
        let a = measured-on-both (space_of w gone) H wanted x' law x agree-due opens-same (known w hb x' S) (root_of w x' ∷ []) R.run.start
        R.waiting m (begun R.waiting m R.run) (reached R.waiting m R.run) R.ended r h in
        let b = due-passes x' gone (n# w) wanted some (hb r) in
        test_same (ltb 0 (m r)) (passes x' gone (n# w) wanted (hb r)) (λ e. b.0 (a.0 (ltb-true 0 (m r) e))) (λ e. lt-ltb 0 (m r) (a.1 (b.1 e)))

    -- the lent rows agree with these in every row measured
    agree-measured : Every (λ i. ltb 0 (m i) ≡ true → x i ≡ x' i) (range 0 (n# w))
    agree-measured = at_every (λ i. ltb 0 (m i) ≡ true → x i ≡ x' i) (n# w) (λ i l e. F.agree i l (sym (measured-passes i l) ∙ e))

    -- a row no farther than the last answer is measured
    near-measured : (r : ℕ) → r < n# w → x' r ≤ last_at x' gone (n# w) wanted → ltb 0 (m r) ≡ true
    near-measured r h l =
        measured-passes r h ∙ passes-is x' gone (n# w) wanted (hb r)
        ∙ or_r (ltb (length (candidates x' gone (n# w))) wanted) (leb (hb r) (last_at x' gone (n# w) wanted))
        (le-leb (hb r) (last_at x' gone (n# w) wanted) (omega (arith, F.under r h)))

    -- THE FIRST OF THE ROWS MEASURED, OF THOSE THAT REMAIN, ARE THE ANSWERS
    pub first-answers : take wanted (in_order x (n# w) (both m (live_of gone))) ≡ answers x' gone (n# w) wanted
    unfolding in_order answers
    first-answers =
        let D : ℕ = last_at x' gone (n# w) wanted in
        let rows : List ℕ = keep (λ i. not (gone i)) (range 0 (n# w)) in
        ap (λ (l : List (ℕ × ℕ)). take wanted (sort l))
        (kept_left gone m x (range 0 (n# w))
        ∙ kept_same (λ i. ltb 0 (m i)) x x' rows
        (every-keep (λ i. ltb 0 (m i) ≡ true → x i ≡ x' i) (λ i. not (gone i)) (range 0 (n# w)) agree-measured))
        ∙ best_of (λ a. ltb 0 (m a.0)) wanted (candidates x' gone (n# w))
        (every_map (λ a. a.1 ≤ D → ltb 0 (m a.0) ≡ true) (λ i. (i, x' i)) rows
        (every-keep (λ i. x' i ≤ D → ltb 0 (m i) ≡ true) (λ i. not (gone i)) (range 0 (n# w))
        (at_every (λ i. x' i ≤ D → ltb 0 (m i) ≡ true) (n# w) near-measured)))
