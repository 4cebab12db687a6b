-- One law for each return of a call's refusal, and what 0 says. Assumes nothing.
use Prim.Native.Nat.{◌/◌, ℕ}
use Rattle.laws.proofs.Every.{every_append}
use Rattle.laws.specs.Every.{Every}
use Rattle.limits.proofs.Faults.{Early, early_numbered, fault_early, fault-not, number_of, says_first, says-next, says_none}
use Rattle.limits.proofs.Numbers.{Passed, numbers_early, numbers-numbered, passed, passed_none}
use Rattle.limits.proofs.Outcomes.{refused_first}
use Rattle.limits.specs.Refusal.{said_by}
use Rattle.limits.specs.declared.refusal.Refusal.{Refusal}
use Rattle.limits.specs.Said.{Said, fault, number_faults, said}
use Rattle.limits.specs.declared.Asked.{Asked}
use Rattle.measure.specs.Table.{off_circle_lem}
use Rattle.refusals.specs.Refused.{call_faults, circle_faults}
use Rattle.words.proofs.Headers.{words-whole}
use Rattle.words.proofs.InShape.{in_shape}
use Rattle.words.proofs.Indexes.{by_shape, fit-early, fit-tests}
use Rattle.words.specs.InShape.{InShape, Over}
use Rattle.words.specs.Index.{index_faults}
use Rattle.words.specs.Shape.{shape_ok_lem}
use Rattle.words.specs.Words.{c#, circles#, edition#, n#, words_ok_lem}
use lib.Dec.{T}
use mathlib.Core.Bool.{Bool, ◌||◌, false, true}
use mathlib.Core.List.{List, ◌++◌}
use mathlib.Core.Path.{◌∙◌, ◌≡◌, ap, ap₂, refl, subst, sym}
use native.Mathlib.Omega.{arith}

-- ---- 19
-- neither of two
or_neither : (a b : Bool) → (a || b) ≡ false → (a ≡ false) × (b ≡ false)
or_neither true b e = absurd (subst T e tt)
or_neither false b e = (refl, e)

module _ (c o : ℕ) (T q : List ℕ) where
  -- one of the two decides
  pub nineteen : {b : Bool} → b ≡ (off_circle_lem c o T || off_circle_lem c o q) → (said (fault 19 b)).0 ≡ (said (circle_faults c o T q)).0
  unfolding circle_faults
  nineteen e = ap (λ b. (said (fault 19 b)).0) e

  -- 19 is early
  pub circle-early : Every Early (circle_faults c o T q)
  unfolding circle_faults
  circle-early = fault_early 19 (off_circle_lem c o T || off_circle_lem c o q) (omega arith) refl

  -- with 0 table and query stand on the circle
  pub circle-tests : (said (circle_faults c o T q)).0 ≡ 0 → (off_circle_lem c o T ≡ false) × (off_circle_lem c o q ≡ false)
  unfolding circle_faults
  circle-tests z = or_neither (off_circle_lem c o T) (off_circle_lem c o q) (fault-not 19 (off_circle_lem c o T || off_circle_lem c o q) (omega arith) z)

  -- and where they do 0 is said
  pub circle-none : off_circle_lem c o T ≡ false → off_circle_lem c o q ≡ false → 0 ≡ (said (circle_faults c o T q)).0
  unfolding circle_faults
  circle-none e f = rw (e, f)

  -- what is said where one of the two decides
  pub circles-say : {b : Bool} → (off_circle_lem c o T || off_circle_lem c o q) ≡ b → said (fault 19 b) ≡ said (circle_faults c o T q)
  unfolding circle_faults
  circles-say e = ap (λ b. said (fault 19 b)) (sym e)

-- ---- the whole call
-- NOTHING REFUSES THE CALL: not what numbers decide, nor what the index decides, nor what the circles decide
pub record Clear (a : Asked) (T w q : List ℕ) : Type 0 where
  pub numbers : Passed a
  pub whole : words_ok_lem w ≡ true
  pub rows : n# w ≡ a.length / a.columns
  pub columns : c# w ≡ a.columns
  pub shape : shape_ok_lem w ≡ true
  pub table : off_circle_lem a.columns (circles# w) T ≡ false
  pub query : off_circle_lem a.columns (circles# w) q ≡ false

module _ (a : Asked) (T w q : List ℕ) where
  -- the index's faults
  abbrev second : List Said
  second = index_faults w (a.length / a.columns) a.columns

  -- and those of the circles
  abbrev third : List Said
  third = circle_faults a.columns (circles# w) T q

  -- none of the index's has the number 0
  second_early : Every Early second
  second_early = fit-early (words_ok_lem w) w (a.length / a.columns) a.columns

  -- numbers refuse the call
  pub by-numbers : {v : ℕ} → v ≡ (said (number_faults a)).0 → (v ≡ 0 → ⊥) → v ≡ (said (call_faults a T w q)).0
  unfolding call_faults
  by-numbers e h = e ∙ ap number_of (says_first (number_faults a) (second ++ third) (λ z. h (e ∙ z)))

  module _ {v : ℕ} (e : v ≡ (said (number_faults a)).0) (z : v ≡ 0) where
    -- they do not, and what is behind them decides
    past-numbers : {i : ℕ} → i ≡ (said (second ++ third)).0 → i ≡ (said (call_faults a T w q)).0
    unfolding call_faults
    past-numbers h = h ∙ ap number_of (says-next (number_faults a) (second ++ third) (numbers-numbered a) (sym e ∙ z))

    module _ {i n c : ℕ} (p : n ≡ a.length / a.columns) (r : c ≡ a.columns) (h : i ≡ (said (index_faults w n c)).0) where
      -- what the code's numbers say of the index
      fit : i ≡ (said second).0
      fit = h ∙ ap₂ (λ (n c : ℕ). (said (index_faults w n c)).0) p r

      -- the index refuses the call
      pub by_index : (i ≡ 0 → ⊥) → i ≡ (said (call_faults a T w q)).0
      by_index k = past-numbers (fit ∙ ap number_of (says_first second third (λ y. k (fit ∙ y))))

      -- it does not, and the circles decide
      pub by-circles : {k o : ℕ} → i ≡ 0 → o ≡ circles# w → k ≡ (said (circle_faults c o T q)).0 → k ≡ (said (call_faults a T w q)).0
      by-circles y g k =
          past-numbers (k ∙ ap₂ (λ (c o : ℕ). (said (circle_faults c o T q)).0) r g
          ∙ ap number_of (says-next second third (early_numbered second second_early) (sym fit ∙ y)))

  -- ---- the same, return by return of the code
  -- what numbers refuse is what the call says
  pub numbers-say : (r : Refusal) → said_by r ≡ said (number_faults a) → said_by r ≡ said (call_faults a T w q)
  unfolding call_faults
  numbers-say r e = refused_first r (number_faults a) (second ++ third) e

  module _ {n c : ℕ} (z : (0, 0, 0) ≡ said (number_faults a)) (p : n ≡ a.length / a.columns) (r : c ≡ a.columns) where
    -- past the numbers
    numbers-past : {s : Said} → s ≡ said (second ++ third) → s ≡ said (call_faults a T w q)
    unfolding call_faults
    numbers-past h = h ∙ says-next (number_faults a) (second ++ third) (numbers-numbered a) (sym (ap number_of z))

    -- what the index refuses
    pub index_says : (r : Refusal) → said_by r ≡ said (index_faults w n c) → said_by r ≡ said (call_faults a T w q)
    index_says x e = numbers-past (refused_first x second third (e ∙ ap₂ (λ (n c : ℕ). said (index_faults w n c)) p r))

    -- and past the index, what the circles say
    pub circles-last : {o : ℕ} {s : Said} → (0, 0, 0) ≡ said (index_faults w n c) → o ≡ circles# w → s ≡ said (circle_faults c o T q)
        → s ≡ said (call_faults a T w q)
    circles-last y g k =
        numbers-past (k ∙ ap₂ (λ (c o : ℕ). said (circle_faults c o T q)) r g
        ∙ says-next second third (early_numbered second second_early) (sym (ap number_of (y ∙ ap₂ (λ (n c : ℕ). said (index_faults w n c)) p r))))

  -- none is found by a full check, and none names a place
  pub call_early : Every Early (call_faults a T w q)
  unfolding call_faults
  call_early =
      every_append Early (number_faults a) (second ++ third) (numbers_early a)
      (every_append Early second third second_early (circle-early a.columns (circles# w) T q))

  -- WITH 0 NOTHING REFUSES THE CALL
  pub clear : (said (call_faults a T w q)).0 ≡ 0 → Clear a T w q
  unfolding call_faults
  clear z =
      let p = says_none (number_faults a) (second ++ third) (numbers-numbered a) z in
      let r = says_none second third (early_numbered second second_early) p.1 in
      let t = fit-tests (words_ok_lem w) w (a.length / a.columns) a.columns r.0 in
      let o = circle-tests a.columns (circles# w) T q r.1 in
      record { numbers = passed a p.0; whole = t.0; rows = t.1; columns = t.2; shape = t.3; table = o.0; query = o.1 }

  -- AND WHERE NOTHING DOES 0 IS SAID
  pub clear_none : Clear a T w q → 0 ≡ (said (call_faults a T w q)).0
  clear_none C =
      by-circles (passed_none a C.numbers) refl refl refl
      (by_shape (words_ok_lem w) w (a.length / a.columns) a.columns C.whole C.rows C.columns (sym C.shape)) refl refl
      (circle-none a.columns (circles# w) T q C.table C.query)

  module _ (C : Clear a T w q) where
    -- the index is in shape
    pub clear-shape : InShape w
    clear-shape = in_shape w (words-whole w C.whole).1 C.shape

    -- of edition 2
    pub clear-edition : edition# w ≡ 2
    clear-edition = (words-whole w C.whole).0

    -- and the table's
    pub clear-over : Over w (a.length / a.columns) a.columns
    clear-over = record { shape = clear-shape; rows = C.rows; columns = C.columns }
