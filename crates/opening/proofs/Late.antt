-- A run that has grown row by row, put in order: its centres are among the first l + 1, and each part is in order. Assumes nothing.
use Prim.Native.Nat.{◌+◌, ◌-◌, ◌<◌, ◌≤◌, suc, zero, ℕ}
use Rattle.appending.proofs.Lowest.{orderly_ascends, orderly-length}
use Rattle.appending.specs.Append.{Ascends, orderly}
use Rattle.dealing.proofs.Kids.{ascends_keep}
use Rattle.laws.proofs.Every.{every-all, every_append, every-left, every_map, every-right, every_take}
use Rattle.laws.specs.Every.{Every}
use Rattle.laws.specs.Lists.{head, keep, rest, without}
use Rattle.lodging.proofs.Above.{orderly_above, orderly-same}
use Rattle.opening.specs.Sound.{Late}
use Rattle.split.specs.Runs.{split_among}
use Rattle.swelling.proofs.Agreeing.{every_without}
use Rattle.swelling.specs.Swell.{parts}
use Rattle.tree.specs.Build.{choose, closest, farthest}
use lib.Dec.{eqb}
use lib.ListN.{drop, length, take, take-append-drop}
use lib.Seq.{drop-append-add, drop_at, length-take-le, take-append-add, take_at}
use mathlib.Core.Bool.{Bool, cond, false, true}
use mathlib.Core.List.{List, [], ◌++◌, ◌∷◌, append_assoc, map}
use mathlib.Core.Path.{◌∙◌, ◌≡◌, ap, ap₂, refl, subst, sym}
use native.Mathlib.Omega.{arith}

-- ---- rows that ascend
-- without one of the first of them they do
ascends_without : (j : ℕ) (xs ys : List ℕ) → Ascends (xs ++ ys) → Ascends (without j xs ++ ys)
ascends_without j [] ys h = h
ascends_without j (x ∷ xs) ys h = go (eqb j x) (ascends_without j xs ys h.1)
  where
    go : (b : Bool) → Ascends (without j xs ++ ys) → Ascends (cond b xs (x ∷ without j xs) ++ ys)
    go true k = h.1
    go false k = (
      every_append (λ y. x ≤ y) (without j xs) ys (every_without (λ y. x ≤ y) j xs (every-left (λ y. x ≤ y) xs ys h.0))
          (every-right (λ y. x ≤ y) xs ys h.0),
      k,
    )

-- so do those that are left when centres are chosen
choose_ascends : (d : ℕ → ℕ → ℕ) (k : ℕ) (cs is ys : List ℕ) → Ascends (is ++ ys) → Ascends ((choose d k cs is).1 ++ ys)
unfolding choose
choose_ascends d zero cs is ys h = h
choose_ascends d (suc k) cs is ys h =
    let j : ℕ = farthest d cs is in choose_ascends d k (cs ++ j ∷ []) (without j is) ys (ascends_without j is ys h)

-- the first of them do
ascends_take : (k : ℕ) (xs : List ℕ) → Ascends xs → Ascends (take k xs)
ascends_take zero xs h = tt
ascends_take (suc k) [] h = tt
ascends_take (suc k) (x ∷ xs) h = (every_take (λ y. x ≤ y) k xs h.0, ascends_take k xs h.1)

-- the rows behind the first of a list's front
rest_take : (k : ℕ) (xs : List ℕ) → rest (take (suc k) xs) ≡ take k (rest xs)
rest_take zero [] = refl
rest_take zero (x ∷ xs) = refl
rest_take (suc k) [] = refl
rest_take (suc k) (x ∷ xs) = refl

-- the rows behind the first of two lists
rest_append : (xs ys : List ℕ) → 1 ≤ length xs → rest (xs ++ ys) ≡ rest xs ++ ys
rest_append [] ys h = absurd (omega arith)
rest_append (x ∷ xs) ys h = refl

-- a run that ascends behind its first is in order as far as it goes
pub ascends_late : (l : ℕ) (run : List ℕ) → 1 ≤ length run → Ascends (rest run) → Late l run
ascends_late l run h a =
    let some : 1 ≤ length (take (suc l) run) = front run h in
    orderly-same run h a ∙ sym (take-append-drop (suc l) run)
    ∙ ap (λ (x : List ℕ). x ++ drop (suc l) run)
    (sym (orderly-same (take (suc l) run) some (subst Ascends (sym (rest_take l run)) (ascends_take l (rest run) a))))
  where
    front : (xs : List ℕ) → 1 ≤ length xs → 1 ≤ length (take (suc l) xs)
    front [] h = absurd (omega arith)
    front (x ∷ xs) h = omega arith

-- so is one of at most l rows below n, behind which rows from n on ascend
pub above_late : (l n : ℕ) (own zs : List ℕ) → 1 ≤ length own → length own ≤ l → Every (λ x. x < n) own → Ascends zs → Every (λ z. n ≤ z) zs
    → Late l (own ++ zs)
above_late l n own zs some few low a u =
    let k : ℕ = suc l - length own in
    let up : suc l ≡ length own + k = omega arith in
    let front : take (suc l) (own ++ zs) ≡ own ++ take k zs = ap (λ (i : ℕ). take i (own ++ zs)) up ∙ take-append-add own zs k in
    let back : drop (suc l) (own ++ zs) ≡ drop k zs = ap (λ (i : ℕ). drop i (own ++ zs)) up ∙ drop-append-add own zs k in
    orderly_above n own zs some low a u
    ∙ ap (λ (x : List ℕ). orderly own ++ x) (sym (take-append-drop k zs))
    ∙ sym (append_assoc (orderly own) (take k zs) (drop k zs))
    ∙ ap₂ (λ (x y : List ℕ). x ++ y)
    (sym (orderly_above n own (take k zs) some low (ascends_take k zs a) (every_take (λ z. n ≤ z) k zs u)) ∙ ap orderly (sym front)) (sym back)

-- ---- a run of more than l rows that is so
module _ (d : ℕ → ℕ → ℕ) (m l : ℕ) (run : List ℕ) (large : l < length run) (late : Late l run) where
  -- the rows among which the centres are, in order
  abbrev early : List ℕ
  early = orderly (take (suc l) run)

  -- there are l + 1
  early-long : length early ≡ suc l
  early-long = orderly-length (take (suc l) run) (omega (arith, length-take-le (suc l) run large)) ∙ length-take-le (suc l) run large

  -- ITS PARTS ARE THOSE OF THE RUN IN ORDER, WITH THE CENTRES AMONG THE FIRST l + 1
  pub late-parts : parts d m l run ≡ split_among d m (suc l) (orderly run)
  unfolding parts split_among
  late-parts =
      let front : take (suc l) (orderly run) ≡ early = ap (take (suc l)) late ∙ take_at early (drop (suc l) run) (suc l) early-long in
      let back : drop (suc l) (orderly run) ≡ drop (suc l) run = ap (drop (suc l)) late ∙ drop_at early (drop (suc l) run) (suc l) early-long in
      sym (ap₂ (λ (x y : List ℕ). map (λ a. a ∷ keep (λ i. eqb (closest d (choose d (m - 1) (head x ∷ []) (rest x)).0 i) a)
      ((choose d (m - 1) (head x ∷ []) (rest x)).1 ++ y)) (choose d (m - 1) (head x ∷ []) (rest x)).0) front back)

  -- each ascends behind its first
  pub parts-ascend : Every (λ q. Ascends (rest q)) (parts d m l run)
  unfolding parts
  parts-ascend =
      let p : List ℕ × List ℕ = choose d (m - 1) (head early ∷ []) (rest early) in
      let all : Ascends (p.1 ++ drop (suc l) run) =
      choose_ascends d (m - 1) (head early ∷ []) (rest early) (drop (suc l) run)
      (subst Ascends (ap rest late ∙ rest_append early (drop (suc l) run) (omega (arith, early-long))) (orderly_ascends run)) in
      every_map (λ q. Ascends (rest q)) (λ a. a ∷ keep (λ i. eqb (closest d p.0 i) a) (p.1 ++ drop (suc l) run)) p.0
      (every-all (λ a. Ascends (keep (λ i. eqb (closest d p.0 i) a) (p.1 ++ drop (suc l) run)))
      (λ a. ascends_keep (λ i. eqb (closest d p.0 i) a) (p.1 ++ drop (suc l) run) all) p.0)
