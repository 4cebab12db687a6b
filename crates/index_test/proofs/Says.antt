-- What the test of an index says, return by return. Assumes nothing.
use Prim.Native.Nat.{ℕ}
use Rattle.limits.proofs.Faults.{fault-first, fault-next}
use Rattle.limits.specs.Said.{fault, said}
use Rattle.words.specs.Index.{fit_faults}
use Rattle.words.specs.Shape.{shape_ok_lem}
use Rattle.words.specs.Words.{c#, n#}
use borrow.Author.Tests.{eq-eqb, ne_eqb}
use lib.Dec.{eqb}
use mathlib.Core.Bool.{Bool, ◌&&◌, and-false, false, not, true}
use mathlib.Core.List.{List}
use mathlib.Core.Path.{◌∙◌, ◌≡◌, ap, sym}

module _ (whole : Bool) (w : List ℕ) (n c : ℕ) where
  -- one of the parts of 8 fails
  eight : (whole && eqb (n# w) n && eqb (c# w) c) ≡ false → (8, 0, 0) ≡ said (fit_faults whole w n c)
  unfolding fit_faults
  eight e = fault-first 8 (fault 9 (not (shape_ok_lem w))) (ap not e)

  -- words are missing or the header is impossible
  pub says-words : whole ≡ false → (8, 0, 0) ≡ said (fit_faults whole w n c)
  says-words e = eight (rw e)

  -- the index is over another number of rows
  pub says-rows : (n# w ≡ n → ⊥) → (8, 0, 0) ≡ said (fit_faults whole w n c)
  says-rows h = eight (rw (ne_eqb (n# w) n h, and-false whole))

  -- the rows have another number of columns
  pub says-columns : (c# w ≡ c → ⊥) → (8, 0, 0) ≡ said (fit_faults whole w n c)
  says-columns h = eight (rw (ne_eqb (c# w) c h, and-false (whole && eqb (n# w) n)))

  -- past 8 the shape decides
  pub says-shape : whole ≡ true → n# w ≡ n → c# w ≡ c → {b : Bool} → shape_ok_lem w ≡ b → said (fault 9 (not b)) ≡ said (fit_faults whole w n c)
  unfolding fit_faults
  says-shape e p q s =
      let f : (whole && eqb (n# w) n && eqb (c# w) c) ≡ true = rw (e, eq-eqb (n# w) n p, eq-eqb (c# w) c q) in
      ap (λ x. said (fault 9 (not x))) (sym s) ∙ fault-next 8 (fault 9 (not (shape_ok_lem w))) (ap not f)
