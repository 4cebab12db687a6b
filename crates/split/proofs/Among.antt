-- A run whose centres are among its first rows: its children's runs have its rows. Assumes nothing.
use Prim.Native.Nat.{◌*◌, ◌+◌, ◌-◌, ◌≤◌, ℕ}
use Rattle.laws.proofs.Lists.{tally_append, tally_length}
use Rattle.laws.specs.Lists.{each, head, joined, keep, rest, tally}
use Rattle.split.proofs.Held.{chosen, unchosen}
use Rattle.split.proofs.Laid.{runs-long}
use Rattle.split.specs.Runs.{laid, split_among}
use Rattle.tree.proofs.Centres as centres
use Rattle.tree.specs.Build.{Run, choose, closest, split}
use lib.Dec.{eqb}
use lib.ListN.{drop, drop_of_length-le, length, take, take-append-drop}
use lib.Seq.{length-take-le, take_all}
use mathlib.Core.Bool.{Bool, true}
use mathlib.Core.List.{List, [], ◌++◌, ◌∷◌, append-nil, map}
use mathlib.Core.Path.{◌∙◌, ◌≡◌, ap, ap₂, refl, sym}
use native.Mathlib.Omega.{arith}

module _ (d : ℕ → ℕ → ℕ) where
  module _ (m early : ℕ) (run : List ℕ) where
    -- the rows among which the centres are
    abbrev pub fore : List ℕ
    fore = take early run

    -- the centres
    abbrev pub among : List ℕ
    among = chosen d m fore

    -- all other rows
    abbrev pub other : List ℕ
    other = unchosen d m fore ++ drop early run

    -- a centre's run
    abbrev pub among_of : ℕ → List ℕ
    among_of a = a ∷ keep (λ i. eqb (closest d among i) a) other

    -- the children's runs
    pub among-is : split_among d m early run ≡ map among_of among
    unfolding split_among
    among-is = refl

    module _ (one : 1 ≤ m) (some : m ≤ early) (fits : early ≤ length run) where
      -- there are so many early rows
      fore-long : length fore ≡ early
      fore-long = length-take-le early run fits

      -- there are m centres
      pub among-long : length among ≡ m
      unfolding centres.chosen
      among-long = centres.chosen-length d m one fore

      -- THE CHILDREN'S RUNS HAVE THE RUN'S ROWS
      pub among-tally : Run run → (f : ℕ → Bool) → tally f (joined (split_among d m early run)) ≡ tally f run
      unfolding centres.chosen centres.left
      among-tally r f =
          let cut : (f : ℕ → Bool) → tally f fore + tally f (drop early run) ≡ tally f run =
          λ (f : ℕ → Bool). sym (tally_append f fore (drop early run)) ∙ ap (tally f) (take-append-drop early run) in
          let run' : Run fore = (omega (arith, fore-long), λ i. omega (arith, cut (eqb i), r.1 i)) in
          ap (λ gs. tally f (joined gs)) among-is ∙ centres.groups-tally d m one f fore (drop early run) run' (omega (arith, fore-long)) ∙ cut f

      -- as many rows
      pub among-joined : Run run → length (joined (split_among d m early run)) ≡ length run
      among-joined r = sym (tally_length (joined (split_among d m early run))) ∙ among-tally r (λ i. true) ∙ tally_length run

      -- and as many words
      pub among-words-long : Run run → length (each (laid d) (split_among d m early run)) ≡ 3 * length run
      among-words-long r = runs-long d (split_among d m early run) ∙ ap (λ (k : ℕ). 3 * k) (among-joined r)

  -- WHERE ANY ROW MAY BECOME A CENTRE, THEY ARE THE RUNS OF 01's SPLIT
  pub among-all : (m early : ℕ) (run : List ℕ) → early ≡ length run → split_among d m early run ≡ split d m run
  unfolding split_among split
  among-all m early run e =
      let front : take early run ≡ run = take_all early run (omega arith) in
      let none : drop early run ≡ [] = drop_of_length-le run {i = early} (omega arith) in
      let p : List ℕ × List ℕ = choose d (m - 1) (head run ∷ []) (rest run) in
      ap₂ (λ (x y : List ℕ). map (λ a. a ∷ keep (λ i. eqb (closest d (choose d (m - 1) (head x ∷ []) (rest x)).0 i) a)
      ((choose d (m - 1) (head x ∷ []) (rest x)).1 ++ y)) (choose d (m - 1) (head x ∷ []) (rest x)).0) front none
      ∙ ap (λ (y : List ℕ). map (λ a. a ∷ keep (λ i. eqb (closest d p.0 i) a) y) p.0) (append-nil p.1)
