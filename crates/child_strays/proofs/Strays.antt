-- The search for 13 in one child's run. Assumes nothing.
use Prim.Native.Nat.{◌+◌, ◌<◌, ◌≤◌, ℕ}
use Rattle.child_strays.specs.Strays.{FirstIn, closer_than, kid_strays}
use Rattle.laws.proofs.First.{search-on}
use Rattle.laws.specs.First.{First}
use Rattle.laws.specs.Lists.{any, range}
use Rattle.reach.proofs.Searches.{run_end, run-stop}
use Rattle.tree.proofs.NoFaults.{in_run_lem}
use Rattle.tree.specs.Check.{in_run}
use Rattle.words.specs.Words.{child#, count#, first#, m#, row#, start#}
use borrow.Author.Tests.{le-ltb}
use lib.Dec.{ltb}
use mathlib.Core.Bool.{Bool, false, true}
use mathlib.Core.List.{List}
use mathlib.Core.Path.{◌∙◌, ◌≡◌, ap, ap₂, subst, sym}
use native.Mathlib.Omega.{arith}

module _ (d : ℕ → ℕ → ℕ) (w : List ℕ) where
  -- ---- one centre
  -- the row at p is no closer to the centre f than x where f is the row g, from which it is x away
  pub closer-own : (p x f g : ℕ) → f ≡ g → x ≡ d g (row# w p) → false ≡ ltb (d f (row# w p)) x
  closer-own p x f g e q = sym (le-ltb (d f (row# w p)) x (omega (arith, q, ap (λ (k : ℕ). d k (row# w p)) e)))

  -- f is the first of node i
  pub closer-is : (p x i : ℕ) {f : ℕ} → f ≡ first# w i → ltb (d f (row# w p)) x ≡ closer_than d w p x i
  closer-is p x i e = rw e

  -- ---- one child j of node k
  -- no position outside its run strays from it
  kid-outside : (k j p : ℕ) → in_run w p j ≡ false → kid_strays d w k j p ≡ false
  unfolding kid_strays
  kid-outside k j p e = rw e

  -- one in its run does where another of the node's centres is closer
  kid-here : (k j p : ℕ) → in_run w p j ≡ true
      → kid_strays d w k j p ≡ any (closer_than d w p (d (first# w j) (row# w p))) (range (child# w k) (m# w))
  unfolding kid_strays
  kid-here k j p e = rw e

  -- the search of child j's run, at position p
  module _ (k j p : ℕ) (F : First (kid_strays d w k j) (start# w j) p p) where
    -- f is the child's first, x the distance of the row at p, and b whether the centre of one of the m nodes from ch on is closer
    module _ {f x ch : ℕ} {b : Bool} (inside : p < start# w j + count# w j) (ef : f ≡ first# w j) (ex : x ≡ d f (row# w p))
        (ec : ch ≡ child# w k) (eb : b ≡ any (closer_than d w p x) (range ch (m# w))) where
      -- the test at p is b
      strays-is : kid_strays d w k j p ≡ b
      strays-is =
          kid-here k j p (in_run_lem w p j F.from inside)
          ∙ sym (eb ∙ ap₂ (λ y i. any (closer_than d w p y) (range i (m# w))) (ex ∙ ap (λ i. d i (row# w p)) ef) ec)

      -- none is closer: the search goes on
      pub kid-on : b ≡ false → First (kid_strays d w k j) (start# w j) (p + 1) (p + 1)
      kid-on e = search-on (kid_strays d w k j) (start# w j) p F (strays-is ∙ e)

      -- one is closer: p is the child's lowest position that strays
      pub kid-stop : start# w k ≤ start# w j → start# w j + count# w j ≤ start# w k + count# w k → b ≡ true
          → FirstIn w k (kid_strays d w k j) p
      kid-stop low high e =
          run-stop w j (kid_strays d w k j) (kid-outside k j) p F (start# w k) (start# w k + count# w k) low high inside (strays-is ∙ e)

    -- the run is over: no position strays from child j
    pub kid-end : p ≡ start# w j + count# w j → FirstIn w k (kid_strays d w k j) (start# w k + count# w k)
    kid-end e = run_end w j (kid_strays d w k j) (kid-outside k j) p F (start# w k) (start# w k + count# w k) (omega arith) e

  -- child a of node k, whose first child is read as ch, by its number
  pub kid-named : (k a r : ℕ) {ch : ℕ} → ch ≡ child# w k → FirstIn w k (kid_strays d w k (ch + a)) r
      → FirstIn w k (kid_strays d w k (child# w k + a)) r
  kid-named k a r e F = subst (λ (i : ℕ). FirstIn w k (kid_strays d w k (i + a)) r) e F
