-- What the full check's contract comes to: it settles every outcome, and 0 is given exactly on an accepted index. Assumes nothing.
use Prim.Native.Nat.{◌*◌, ◌<◌, ◌≤◌, ℕ}
use Rattle.audit.proofs.Contract.{said_check_lem, unfound}
use Rattle.audit.proofs.Faults.{Late, Small, faults_late, faults_small}
use Rattle.audit.specs.Calls.{Checks, Passed}
use Rattle.audit_refusals.specs.Numbers.{check_asks, refusals}
use Rattle.audit_refusals.specs.Workspace.{clears}
use Rattle.buffers.specs.Wiped.{wiped}
use Rattle.laws.proofs.Every.{every_of}
use Rattle.laws.specs.Every.{Every}
use Rattle.limits.proofs.Faults.{Early, Numbered, early_numbered, none-listed, number_of, says-next, says_none}
use Rattle.limits.proofs.Numbers.{sized_of}
use Rattle.limits.proofs.Ranges.{within_both}
use Rattle.limits.specs.Limits.{max_rows, within}
use Rattle.limits.specs.Said.{Said, said}
use Rattle.limits.specs.declared.Asked.{Asked}
use Rattle.measure.proofs.OnCircle.{empty_on}
use Rattle.measure.specs.Table.{between, rows_of}
use Rattle.refusals.proofs.Refusals.{call_early, clear, clear_none, clear-shape}
use Rattle.tree.specs.Check.{faults}
use Rattle.words.proofs.Headers.{whole_words, words-whole}
use Rattle.words.specs.Words.{circles#}
use borrow.Author.Tests.{le-ltb, ltb-false}
use lib.Dec.{T}
use lib.ListN.{length}
use mathlib.Core.Bool.{cond, false}
use mathlib.Core.List.{List, [], ◌++◌, ◌∷◌}
use mathlib.Core.Logic.{◌↔◌}
use mathlib.Core.Path.{◌∙◌, ◌≡◌, ap, refl, subst, sym}
use native.Mathlib.Omega.{arith}

-- CHECK-ONLY: NO SECOND OUTCOME FITS
pub check_only : {T : List ℕ} {c : ℕ} {w work work' work'' : List ℕ} {number place second number' place' second' : ℕ}
    → Checks T c w work work' number place second → Checks T c w work work'' number' place' second'
    → (number ≡ number') × (place ≡ place') × (second ≡ second') × (work' ≡ work'')
check_only {T} {c} {w} {work} A B =
    let e = A.said ∙ sym B.said in (
      e,
      A.placed.0 ∙ sym B.placed.0,
      A.placed.1 ∙ sym B.placed.1,
      A.cleared ∙ ap (λ (k : ℕ). cond (clears k) (wiped (6 * rows_of T c) work) work) e ∙ sym B.cleared,
    )

-- ---- refusals, and then faults of the passes
-- no fault of the passes has the number 0
faults_numbered : (d : ℕ → ℕ → ℕ) (w : List ℕ) → Numbered (faults d w)
faults_numbered d w = every_of Late (λ f. 1 ≤ f.0) (λ f h. omega (arith, (within_both 10 13 f.0 h).0)) (faults d w) (faults_late d w)

-- a number that is none of the passes' names no place: it is a refusal's, or 0
none-placed : (l m : List Said) → Every Early l → Every Late m → within 10 13 (said (l ++ m)).0 ≡ false
    → ((said (l ++ m)).1 ≡ 0) × ((said (l ++ m)).2 ≡ 0)
none-placed [] [] h k q = (refl, refl)
none-placed [] (s ∷ m) h k q = absurd (subst T (sym (sym q ∙ k.0)) tt)
none-placed (s ∷ l) m h k q = h.0.placeless

-- the first of faults with small places has small places, and so has 0
first_small : (m : List Said) → Every Small m → Small (said m)
first_small [] h = (omega arith, omega arith)
first_small (s ∷ m) h = h.0

-- a refusal names no place, and with none the first fault's places are small
said_small : (l m : List Said) → Every Early l → (l ≡ [] → Every Small m) → Small (said (l ++ m))
said_small [] m h k = first_small m (k refl)
said_small (s ∷ l) m h k = (omega (arith, h.0.placeless.0), omega (arith, h.0.placeless.1))

-- ---- an outcome of the call
module _ {T : List ℕ} {c : ℕ} {w work work' : List ℕ} {number place second : ℕ} (C : Checks T c w work work' number place second) where
  -- what the call asks of numbers
  abbrev asks : Asked
  asks = check_asks T c (length work)

  -- its refusals
  abbrev early : List Said
  early = refusals T c w (length work)

  -- the faults of its index
  abbrev late : List Said
  late = faults (between T c (circles# w)) w

  -- its number is that of the first refusal, else of the first fault
  number_is : number ≡ (said (early ++ late)).0
  number_is = C.said ∙ ap number_of (said_check_lem T c w (length work))

  -- so is its first place
  place_is : place ≡ (said (early ++ late)).1
  place_is = C.placed.0 ∙ ap (λ (s : Said). s.1) (said_check_lem T c w (length work))

  -- and its second
  second_is : second ≡ (said (early ++ late)).2
  second_is = C.placed.1 ∙ ap (λ (s : Said). s.2) (said_check_lem T c w (length work))

  -- 0 is given: no refusal meets the call, and the index is accepted
  zero-passed : number ≡ 0 → Passed T c w work
  zero-passed z =
      let b = says_none early late (early_numbered early (call_early asks T w [])) (sym number_is ∙ z) in
      let P = clear asks T w [] b.0 in
      let t = P.numbers.table in
      record {
        columns = (t.some, t.few);
        multiple = t.whole;
        few = t.rows;
        room = ltb-false (length work) (6 * rows_of T c) P.numbers.room;
        same_rows = P.rows;
        same_columns = P.columns;
        edition = (words-whole w P.whole).0;
        circled = P.table;
        accepted =
            record {
              words = (words-whole w P.whole).1;
              shape = P.shape;
              sound = none-listed late (faults_numbered (between T c (circles# w)) w) b.1;
            };
      }

  -- no refusal meets the call, and the index is accepted: 0 is given
  passed-zero : Passed T c w work → number ≡ 0
  passed-zero P =
      let A = P.accepted in
      let none = clear_none asks T w [] (record {
        numbers =
            record {
              table = sized_of (length T) c P.columns P.multiple P.few;
              fit = refl;
              room = le-ltb (length work) (6 * rows_of T c) P.room;
              like = refl;
              some = refl;
            };
        whole = whole_words w P.edition A.words;
        rows = P.same_rows;
        columns = P.same_columns;
        shape = A.shape;
        table = P.circled;
        query = empty_on c (circles# w);
      }) in
      number_is ∙ ap number_of (sym (says-next early late (early_numbered early (call_early asks T w [])) (sym none))) ∙ ap (λ l. (said l).0) A.sound

  -- CHECK-EXACT: 0 IS GIVEN EXACTLY WHERE NO REFUSAL MEETS THE CALL, THE INDEX IS THE TABLE'S, AND IT IS ACCEPTED
  pub check-exact : (number ≡ 0) ↔ Passed T c w work
  check-exact = (zero-passed, passed-zero)

  -- CHECK-PLACELESS: 0 AND THE REFUSALS, WHICH ARE NONE OF 10 TO 13, NAME NO PLACE
  pub check-placeless : (10 ≤ number → 13 < number) → (place ≡ 0) × (second ≡ 0)
  check-placeless none =
      let p = none-placed early late (call_early asks T w []) (faults_late (between T c (circles# w)) w) (rw (← number_is) (unfound number none)) in
      (place_is ∙ p.0, second_is ∙ p.1)

  -- CHECK-SMALL: THE FIRST PLACE IS AT MOST TWICE THE MOST ROWS, THE SECOND AT MOST THE MOST ROWS, so that 32 bits hold them
  pub check-small : (place ≤ 2 * max_rows) × (second ≤ max_rows)
  check-small =
      let P = said_small early late (call_early asks T w [])
      (λ z. faults_small (between T c (circles# w)) w (clear-shape asks T w [] (clear asks T w [] (ap (λ l. (said l).0) z)))) in
      (rw place_is P.0, rw second_is P.1)
