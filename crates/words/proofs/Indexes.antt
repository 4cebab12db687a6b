-- An index for a table: one law for each return of the code's test, and what 0 says. Assumes nothing.
use Prim.Native.Nat.{ℕ}
use Rattle.laws.proofs.Every.{every_append}
use Rattle.laws.proofs.Tests.{and_l, and_r, holds, is_true}
use Rattle.laws.specs.Every.{Every}
use Rattle.limits.proofs.Faults.{Early, fault_early, fault-first, fault-next, fault-none, fault-not, number_of}
use Rattle.limits.specs.Said.{Said, fault, said}
use Rattle.words.specs.Index.{fit_faults}
use Rattle.words.specs.Shape.{shape_ok_lem}
use Rattle.words.specs.Words.{c#, n#}
use borrow.Author.Tests.{eq-eqb, ne_eqb, not-false}
use lib.Dec.{eqb, eqb→eq}
use mathlib.Core.Bool.{Bool, ◌&&◌, and-false, false, not, true}
use mathlib.Core.List.{List}
use mathlib.Core.Path.{◌∙◌, ◌≡◌, ap, refl}
use native.Mathlib.Omega.{arith}

-- ---- 8 and 9
module _ (whole : Bool) (w : List ℕ) (n c : ℕ) where
  -- what 8 asks
  abbrev fits : Bool
  fits = whole && eqb (n# w) n && eqb (c# w) c

  -- the fault after it
  abbrev shape_fault : List Said
  shape_fault = fault 9 (not (shape_ok_lem w))

  -- one of the parts of 8 fails
  eight : fits ≡ false → 8 ≡ (said (fit_faults whole w n c)).0
  unfolding fit_faults
  eight e = ap number_of (fault-first 8 shape_fault (ap not e))

  -- words are missing or the header is impossible
  pub eight-words : whole ≡ false → 8 ≡ (said (fit_faults whole w n c)).0
  eight-words e = eight (rw e)

  -- the index is over another number of rows
  pub eight-rows : (n# w ≡ n → ⊥) → 8 ≡ (said (fit_faults whole w n c)).0
  eight-rows h = eight (rw (ne_eqb (n# w) n h, and-false whole))

  -- the rows have another number of columns
  pub eight-columns : (c# w ≡ c → ⊥) → 8 ≡ (said (fit_faults whole w n c)).0
  eight-columns h = eight (rw (ne_eqb (c# w) c h, and-false (whole && eqb (n# w) n)))

  module _ (e : whole ≡ true) (p : n# w ≡ n) (q : c# w ≡ c) where
    -- past 8 the shape decides: it is wrong, or nothing is
    pub by_shape : {b : Bool} → b ≡ shape_ok_lem w → (said (fault 9 (not b))).0 ≡ (said (fit_faults whole w n c)).0
    unfolding fit_faults
    by_shape s =
        let f : fits ≡ true = rw (e, eq-eqb (n# w) n p, eq-eqb (c# w) c q) in
        ap (λ b. (said (fault 9 (not b))).0) s ∙ ap number_of (fault-next 8 shape_fault (ap not f))

  -- 8 and 9 are early
  pub fit-early : Every Early (fit_faults whole w n c)
  unfolding fit_faults
  fit-early =
      every_append Early (fault 8 (not fits)) shape_fault (fault_early 8 (not fits) (omega arith) refl)
      (fault_early 9 (not (shape_ok_lem w)) (omega arith) refl)

  -- with 0 every test is passed
  pub fit-tests : (said (fit_faults whole w n c)).0 ≡ 0 → (whole ≡ true) × (n# w ≡ n) × (c# w ≡ c) × (shape_ok_lem w ≡ true)
  unfolding fit_faults
  fit-tests z =
      let r = eqb (n# w) n in
      let k = eqb (c# w) c in
      let p = fault-none 8 (not fits) shape_fault (omega arith) z in
      let t = holds fits (not-false fits p.0) in
      let u = and_l (whole && r) k t in (
        is_true whole (and_l whole r u),
        eqb→eq (n# w) n (and_r whole r u),
        eqb→eq (c# w) c (and_r (whole && r) k t),
        not-false (shape_ok_lem w) (fault-not 9 (not (shape_ok_lem w)) (omega arith) p.1),
      )
