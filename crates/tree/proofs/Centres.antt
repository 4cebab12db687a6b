-- The centres of a run and the rows that are left: together they are the run's. Assumes nothing.
use Prim.Native.Nat.{◌+◌, ◌-◌, ◌≤◌, suc, zero, ℕ}
use Rattle.laws.proofs.Every.{every_of}
use Rattle.laws.proofs.Lists.{tally_append, tally_length}
use Rattle.laws.proofs.Shares.{heads_tally, share, tally_split, without_tally}
use Rattle.laws.specs.Every.{Every}
use Rattle.laws.specs.Lists.{head, joined, keep, rest, tally, times, without}
use Rattle.tree.specs.Build.{Run, choose, closest, farthest, nearness, split}
use borrow.Author.Tests.{eq-eqb, leb-false, leb-true}
use lib.Dec.{eqb, leb, ltb}
use lib.ListN.{length, length-append}
use mathlib.Core.Bool.{Bool, ◌&&◌, ◌||◌, cond, false, true}
use mathlib.Core.List.{List, [], ◌++◌, ◌∷◌, map}
use mathlib.Core.Path.{◌∙◌, ◌≡◌, ap, refl, sym}
use native.Mathlib.Nat.{not-suc-le-zero}
use native.Mathlib.Omega.{arith}

module _ (d : ℕ → ℕ → ℕ) where
  -- the farthest is one of them
  farthest-in : (cs is : List ℕ) → 1 ≤ length is → 1 ≤ times (farthest d cs is) is
  farthest-in cs [] h = absurd (not-suc-le-zero h)
  farthest-in cs (i ∷ []) h = rw (eq-eqb i i refl) (omega arith)
  farthest-in cs (i ∷ j ∷ is) h =
      go (ltb (nearness d cs k) (nearness d cs i) || (eqb (nearness d cs k) (nearness d cs i) && ltb i k)) (farthest-in cs (j ∷ is) (omega arith))
    where
      k : ℕ
      k = farthest d cs (j ∷ is)

      go : (b : Bool) → 1 ≤ times k (j ∷ is) → 1 ≤ times (cond b i k) (i ∷ j ∷ is)
      go true q = rw (eq-eqb i i refl) (omega arith)
      go false q = omega arith

  -- the centres and what is left are the rows that there were
  choose-tally : (f : ℕ → Bool) (k : ℕ) (cs is : List ℕ) → k ≤ length is
      → tally f (choose d k cs is).0 + tally f (choose d k cs is).1 ≡ tally f cs + tally f is
  unfolding choose
  choose-tally f zero cs is h = refl
  choose-tally f (suc k) cs is h =
      let j : ℕ = farthest d cs is in
      let one = farthest-in cs is (omega arith) in
      let len : length is ≡ 1 + length (without j is) =
      sym (tally_length is) ∙ without_tally (λ a. true) j is one ∙ ap (λ n. 1 + n) (tally_length (without j is)) in
      omega (arith, choose-tally f k (cs ++ j ∷ []) (without j is) (omega arith), tally_append f cs (j ∷ []), without_tally f j is one)

  -- k centres more
  choose-length : (k : ℕ) (cs is : List ℕ) → length (choose d k cs is).0 ≡ k + length cs
  unfolding choose
  choose-length zero cs is = omega arith
  choose-length (suc k) cs is =
      let j : ℕ = farthest d cs is in omega (arith, choose-length k (cs ++ j ∷ []) (without j is), length-append cs (j ∷ []))

  -- a row's closest centre is one of the centres
  closest-in : (cs : List ℕ) (i : ℕ) → 1 ≤ length cs → 1 ≤ times (closest d cs i) cs
  closest-in [] i h = absurd (not-suc-le-zero h)
  closest-in (a ∷ []) i h = rw (eq-eqb a a refl) (omega arith)
  closest-in (a ∷ b ∷ cs) i h = go (leb (d a i) (d k i)) (closest-in (b ∷ cs) i (omega arith))
    where
      k : ℕ
      k = closest d (b ∷ cs) i

      go : (s : Bool) → 1 ≤ times k (b ∷ cs) → 1 ≤ times (cond s a k) (a ∷ b ∷ cs)
      go true q = rw (eq-eqb a a refl) (omega arith)
      go false q = omega arith

  -- and none of them is closer
  pub closest-least : (cs : List ℕ) (i : ℕ) → Every (λ c. d (closest d cs i) i ≤ d c i) cs
  closest-least [] i = tt
  closest-least (a ∷ []) i = (omega arith, tt)
  closest-least (a ∷ b ∷ cs) i = go (leb (d a i) (d k i)) refl (closest-least (b ∷ cs) i)
    where
      k : ℕ
      k = closest d (b ∷ cs) i

      go : (s : Bool) → leb (d a i) (d k i) ≡ s → Every (λ c. d k i ≤ d c i) (b ∷ cs) → Every (λ c. d (cond s a k) i ≤ d c i) (a ∷ b ∷ cs)
      go true e h = (omega arith, every_of (λ c. d k i ≤ d c i) (λ c. d a i ≤ d c i) (λ c q. omega (arith, leb-true (d a i) (d k i) e)) (b ∷ cs) h)
      go false e h = (omega (arith, leb-false (d a i) (d k i) e), h)

module _ (d : ℕ → ℕ → ℕ) (m : ℕ) where
  -- the m centres of a run
  unfoldable pub chosen : List ℕ → List ℕ
  chosen run = (choose d (m - 1) (head run ∷ []) (rest run)).0

  -- the rows that are left
  unfoldable pub left : List ℕ → List ℕ
  left run = (choose d (m - 1) (head run ∷ []) (rest run)).1

  -- the run of centre a: the centre, and behind it the rows left that are closest to it
  abbrev pub group_of : List ℕ → ℕ → List ℕ
  group_of run a = a ∷ keep (λ i. eqb (closest d (chosen run) i) a) (left run)

  -- the split is these
  pub split-is : (run : List ℕ) → split d m run ≡ map (group_of run) (chosen run)
  unfolding split chosen left
  split-is run = refl

  -- a run is its head and its rest
  rest-length : (run : List ℕ) → 1 ≤ length run → length run ≡ 1 + length (rest run)
  rest-length [] h = absurd (not-suc-le-zero h)
  rest-length (x ∷ run) h = omega arith

  -- the centres and the rows left are the run's rows
  chosen-tally : (f : ℕ → Bool) (run : List ℕ) → 1 ≤ length run → m ≤ length run → tally f (chosen run) + tally f (left run) ≡ tally f run
  unfolding chosen left
  chosen-tally f run h k = choose-tally d f (m - 1) (head run ∷ []) (rest run) (omega (arith, rest-length run h)) ∙ tally_split f run h

  module _ (m1 : 1 ≤ m) where
    -- there are m centres
    pub chosen-length : (run : List ℕ) → length (chosen run) ≡ m
    unfolding chosen
    chosen-length run = choose-length d (m - 1) (head run ∷ []) (rest run) ∙ omega arith

    -- each row's closest centre is once among the centres
    pub one-centre : (run : List ℕ) → Run run → m ≤ length run → (i : ℕ) → times (closest d (chosen run) i) (chosen run) ≡ 1
    one-centre run r k i =
        let c : ℕ = closest d (chosen run) i in
        omega (arith, closest-in d (chosen run) i (omega (arith, chosen-length run)), chosen-tally (eqb c) run r.0 k, r.1 c)

    -- the centres' groups of the rows left and of rows that come behind them have all these rows
    pub groups-tally : (f : ℕ → Bool) (run more : List ℕ) → Run run → m ≤ length run
        → tally f (joined (map (λ a. a ∷ keep (λ i. eqb (closest d (chosen run) i) a) (left run ++ more)) (chosen run))) ≡ tally f run + tally f more
    groups-tally f run more r k =
        let cs : List ℕ = chosen run in
        heads_tally f (λ a. keep (λ i. eqb (closest d cs i) a) (left run ++ more)) cs
        ∙ ap (λ n. tally f cs + n) (share f (closest d cs) (left run ++ more) cs (one-centre run r k))
        ∙ omega (arith, tally_append f (left run) more, chosen-tally f run r.0 k)
