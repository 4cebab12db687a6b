-- The children's runs of a run that has grown row by row: they have its rows, and a row more goes to the closest centre's. Assumes nothing.
use Prim.Native.Nat.{◌+◌, ◌-◌, ◌<◌, ◌≤◌, suc, zero, ℕ}
use Rattle.appending.proofs.Lowest.{orderly_tally}
use Rattle.appending.specs.Append.{lowest_at, orderly}
use Rattle.laws.proofs.Every.{every-all, every-both, every_map, every_of}
use Rattle.laws.proofs.Joins.{keep_append}
use Rattle.laws.proofs.Lists.{tally_append}
use Rattle.laws.proofs.Maps.{map_agree}
use Rattle.laws.proofs.Shares.{every_∀, part_times}
use Rattle.laws.specs.Every.{Every}
use Rattle.laws.specs.Lists.{all, head, joined, keep, rest, tally, times, without}
use Rattle.swelling.proofs.Early.{earliest, earliest_long}
use Rattle.swelling.specs.Swell.{parts}
use Rattle.tree.proofs.Centres.{chosen, groups-tally, left, one-centre, split-is}
use Rattle.tree.specs.Build.{Run, choose, closest, farthest, split}
use borrow.Author.Tests.{le-leb, leb-false, leb-true}
use lib.Dec.{eqb, leb}
use lib.ListN.{drop, drop_of_length-le, get_or, length, take, take-append-drop}
use lib.Seq.{drop-append-le, length-take-le, take_all, take-append-le}
use mathlib.Core.Bool.{Bool, ◌&&◌, cond, false, true}
use mathlib.Core.List.{List, [], ◌++◌, ◌∷◌, append_assoc, append-nil, map}
use mathlib.Core.Path.{◌∙◌, ◌≡◌, ap, ap₂, refl, subst, sym}
use native.Mathlib.Nat.{not-suc-le-zero}
use native.Mathlib.Omega.{arith}

-- ---- the closest centre and its place
module _ (d : ℕ → ℕ → ℕ) (z : ℕ) where
  -- v is at most both distances exactly if it is at most the lesser
  both-least : (v a k : ℕ) (s : Bool) → leb (d a z) (d k z) ≡ s → (leb v (d a z) && leb v (d k z)) ≡ leb v (d (cond s a k) z)
  both-least v a k true e = go (leb v (d a z)) refl
    where
      go : (t : Bool) → leb v (d a z) ≡ t → (t && leb v (d k z)) ≡ t
      go true q = le-leb v (d k z) (omega (arith, leb-true v (d a z) q, leb-true (d a z) (d k z) e))
      go false q = refl
  both-least v a k false e = go (leb v (d k z)) refl (leb v (d a z)) refl
    where
      go : (t : Bool) → leb v (d k z) ≡ t → (u : Bool) → leb v (d a z) ≡ u → (u && t) ≡ t
      go true q true p = refl
      go true q false p = absurd (omega (arith, leb-true v (d k z) q, leb-false v (d a z) p, leb-false (d a z) (d k z) e))
      go false q true p = refl
      go false q false p = refl

  -- it is at most all of them exactly if it is at most the closest's
  all-least : (v a : ℕ) (cs : List ℕ) → all (leb v) (map (λ f. d f z) (a ∷ cs)) ≡ leb v (d (closest d (a ∷ cs) z) z)
  all-least v a [] = go (leb v (d a z))
    where
      go : (t : Bool) → (t && true) ≡ t
      go true = refl
      go false = refl
  all-least v a (b ∷ cs) =
      let k : ℕ = closest d (b ∷ cs) z in
      ap (λ (t : Bool). leb v (d a z) && t) (all-least v b cs) ∙ both-least v a k (leb (d a z) (d k z)) refl

  -- THE CLOSEST CENTRE, TIES TO THE EARLIEST, IS THE ONE AT THE LOWEST DISTANCE'S PLACE
  pub closest-place : (cs : List ℕ) → 1 ≤ length cs → closest d cs z ≡ get_or cs (lowest_at (map (λ f. d f z) cs)) 0
  unfolding lowest_at
  closest-place [] h = absurd (not-suc-le-zero h)
  closest-place (a ∷ []) h = refl
  closest-place (a ∷ b ∷ cs) h =
      let p : ℕ = lowest_at (map (λ f. d f z) (b ∷ cs)) in
      let k : ℕ = closest d (b ∷ cs) z in
      go (leb (d a z) (d k z)) (closest-place (b ∷ cs) (omega arith))
      ∙ ap (λ (t : Bool). get_or (a ∷ b ∷ cs) (cond t 0 (suc p)) 0) (sym (all-least (d a z) b cs))
    where
      go : (s : Bool) → closest d (b ∷ cs) z ≡ get_or (b ∷ cs) (lowest_at (map (λ f. d f z) (b ∷ cs))) 0
          → cond s a (closest d (b ∷ cs) z) ≡ get_or (a ∷ b ∷ cs) (cond s 0 (suc (lowest_at (map (λ f. d f z) (b ∷ cs))))) 0
      go true ih = refl
      go false ih = ih

-- the front of a list and the rest of it
tally_cut : (f : ℕ → Bool) (k : ℕ) (xs : List ℕ) → tally f (take k xs) + tally f (drop k xs) ≡ tally f xs
tally_cut f k xs = sym (tally_append f (take k xs) (drop k xs)) ∙ ap (tally f) (take-append-drop k xs)

-- centres that are chosen stand behind those that there are
choose_first : (d : ℕ → ℕ → ℕ) (k c : ℕ) (cs is : List ℕ) → head (choose d k (c ∷ cs) is).0 ≡ c
unfolding choose
choose_first d zero c cs is = refl
choose_first d (suc k) c cs is =
    let j : ℕ = farthest d (c ∷ cs) is in choose_first d k c (cs ++ j ∷ []) (without j is)

module _ (d : ℕ → ℕ → ℕ) (m l : ℕ) where
  -- the rows among which the centres are
  abbrev pub early : List ℕ → List ℕ
  early run = earliest l run

  -- the centres
  abbrev pub centres : List ℕ → List ℕ
  centres run = chosen d m (early run)

  -- all other rows
  abbrev pub others : List ℕ → List ℕ
  others run = left d m (early run) ++ drop (suc l) run

  -- a centre's group of some rows
  abbrev pub group_among : List ℕ → List ℕ → ℕ → List ℕ
  group_among cs is a = a ∷ keep (λ i. eqb (closest d cs i) a) is

  -- the parts are these
  pub parts_is : (run : List ℕ) → parts d m l run ≡ map (group_among (centres run) (others run)) (centres run)
  unfolding parts chosen left
  parts_is run = refl

  -- their heads are the centres
  pub parts-heads : (run : List ℕ) → map head (parts d m l run) ≡ centres run
  parts-heads run = ap (map head) (parts_is run) ∙ go (centres run)
    where
      go : (cs : List ℕ) → map head (map (group_among (centres run) (others run)) cs) ≡ cs
      go [] = refl
      go (c ∷ cs) = ap (λ (k : List ℕ). c ∷ k) (go cs)

  -- the first centre is the run's first
  pub centres-head : (run : List ℕ) → head (centres run) ≡ head run
  unfolding chosen
  centres-head run = choose_first d (m - 1) (head (early run)) [] (rest (early run)) ∙ go run
    where
      go : (xs : List ℕ) → head (early xs) ≡ head xs
      go [] = refl
      go (x ∷ xs) = refl

  -- a run of l + 1 rows has the parts of the build's split
  pub parts-once : (run : List ℕ) → length run ≡ suc l → parts d m l run ≡ split d m (orderly run)
  parts-once run e =
      let front : take (suc l) run ≡ run = take_all (suc l) run (omega arith) in
      let none : drop (suc l) run ≡ [] = drop_of_length-le run {i = suc l} (omega arith) in
      let o : List ℕ = orderly run in
      parts_is run
      ∙ ap₂ (λ (a b : List ℕ). map (group_among (chosen d m (orderly a)) (left d m (orderly a) ++ b)) (chosen d m (orderly a))) front none
      ∙ ap (λ (b : List ℕ). map (group_among (chosen d m o) b) (chosen d m o)) (append-nil (left d m o)) ∙ sym (split-is d m o)

  -- of a run with one row more the closest centre's part has it last
  pub parts_more : (run : List ℕ) (z : ℕ) → l < length run → parts d m l (run ++ z ∷ [])
      ≡ map (λ a. group_among (centres run) (others run) a ++ cond (eqb (closest d (centres run) z) a) (z ∷ []) []) (centres run)
  parts_more run z h =
      let front : early (run ++ z ∷ []) ≡ early run = ap orderly (take-append-le (suc l) run (z ∷ []) h) in
      let cs : List ℕ = centres run in
      let behind : others (run ++ z ∷ []) ≡ others run ++ z ∷ [] =
      ap₂ (λ (a b : List ℕ). left d m a ++ b) front (drop-append-le (suc l) run (z ∷ []) h)
      ∙ sym (append_assoc (left d m (early run)) (drop (suc l) run) (z ∷ [])) in
      parts_is (run ++ z ∷ [])
      ∙ ap₂ (λ (a b : List ℕ). map (group_among (chosen d m a) b) (chosen d m a)) front behind
      ∙ map_agree (group_among cs (others run ++ z ∷ [])) (λ a. group_among cs (others run) a ++ cond (eqb (closest d cs z) a) (z ∷ []) [])
      (λ a. ap (λ (k : List ℕ). a ∷ k) (keep_append (λ i. eqb (closest d cs i) a) (others run) (z ∷ []))) cs

  module _ (m1 : 1 ≤ m) (ml : m ≤ l) (run : List ℕ) (r : Run run) (h : l < length run) where
    -- as many as it had when it was split
    early-length : length (early run) ≡ suc l
    early-length = earliest_long l run h

    -- its rows
    early-tally : (f : ℕ → Bool) → tally f (early run) + tally f (drop (suc l) run) ≡ tally f run
    early-tally f =
        omega (arith, orderly_tally f (take (suc l) run) (omega (arith, length-take-le (suc l) run h)), tally_cut f (suc l) run)

    -- none twice
    pub early-run : Run (early run)
    early-run = (omega (arith, early-length), λ i. omega (arith, early-tally (eqb i), r.1 i))

    -- each row's closest centre is once among the centres
    pub centre-once : (i : ℕ) → times (closest d (centres run) i) (centres run) ≡ 1
    centre-once = one-centre d m m1 (early run) early-run (omega (arith, early-length))

    -- THE PARTS HAVE THE RUN'S ROWS
    pub parts-tally : (f : ℕ → Bool) → tally f (joined (parts d m l run)) ≡ tally f run
    parts-tally f =
        ap (λ gs. tally f (joined gs)) (parts_is run)
        ∙ groups-tally d m m1 f (early run) (drop (suc l) run) early-run (omega (arith, early-length)) ∙ early-tally f

    -- none is empty, and no row is in one twice
    pub parts-runs : Every Run (parts d m l run)
    parts-runs =
        every-both (λ q. 1 ≤ length q) (λ q. (i : ℕ) → times i q ≤ 1) Run (λ q a b. (a, b)) (parts d m l run)
        (subst (Every (λ q. 1 ≤ length q)) (sym (parts_is run))
        (every_map (λ q. 1 ≤ length q) (group_among (centres run) (others run)) (centres run)
        (every-all (λ a. 1 ≤ length (group_among (centres run) (others run) a)) (λ a. omega arith) (centres run))))
        (every_∀ (λ q i. times i q ≤ 1) (parts d m l run)
        (λ i. every_of (λ q. times i q ≤ times i (joined (parts d m l run))) (λ q. times i q ≤ 1)
        (λ q k. omega (arith, parts-tally (eqb i), r.1 i)) (parts d m l run) (part_times i (parts d m l run))))

    -- no row of a part is new to the run
    pub parts_within : (z : ℕ) → times z run ≡ 0 → Every (λ q. times z q ≡ 0) (parts d m l run)
    parts_within z e =
        every_of (λ q. times z q ≤ times z (joined (parts d m l run))) (λ q. times z q ≡ 0)
        (λ q k. omega (arith, parts-tally (eqb z))) (parts d m l run) (part_times z (parts d m l run))
