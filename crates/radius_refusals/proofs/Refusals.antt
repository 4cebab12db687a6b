-- Why a radius call is refused: one law for each return of the code; what it lends where nothing refuses it, and when that is so. Assumes nothing.
use Prim.Native.Nat.{◌≤◌, ℕ}
use Rattle.limits.proofs.Faults.{Numbered, early_numbered, fault-not, number_of, says-next, says_none}
use Rattle.limits.proofs.Outcomes.{refused_first}
use Rattle.limits.specs.Refusal.{said_by}
use Rattle.limits.specs.declared.refusal.Refusal.{Refusal}
use Rattle.limits.specs.Said.{Said, fault, said}
use Rattle.limits.specs.declared.Asked.{Asked}
use Rattle.marking.specs.Lent.{Lent}
use Rattle.measure.specs.Space.{Point}
use Rattle.measure.specs.Table.{between, from, rows_of}
use Rattle.radius_refusals.specs.Numbers.{radius_asks, said_radius}
use Rattle.refusals.proofs.Refusals.{Clear, call_early, clear, clear_none}
use Rattle.refusals.proofs.Tested.{clear-point, tested}
use Rattle.refusals.specs.Refused.{call_faults}
use Rattle.rowset.specs.Sets.{set_bad_lem}
use Rattle.words.specs.Words.{circles#, n#}
use borrow.Author.Tests.{eqb-true, le-ltb, ltb-false, not-false}
use lib.Dec.{eqb}
use lib.ListN.{length}
use mathlib.Core.Bool.{Bool, false}
use mathlib.Core.List.{List}
use mathlib.Core.Path.{◌∙◌, ◌≡◌, ap, refl, sym}
use native.Mathlib.Omega.{arith}

module _ (T : List ℕ) (c : ℕ) (w q s : List ℕ) (how : ℕ) where
  -- what is asked of numbers
  abbrev asks : Asked
  asks = radius_asks T c q how

  -- what numbers, the index and the circles refuse: none of it has the number 0
  abbrev early : List Said
  early = call_faults asks T w q

  numbered : Numbered early
  numbered = early_numbered early (call_early asks T w q)

  -- what the set refuses comes last
  abbrev last : List Said
  last = fault 20 (set_bad_lem s (rows_of T c))

  -- what one of these refuses is what the call says
  pub call_says : (r : Refusal) → said_by r ≡ said early → said_by r ≡ said_radius T c w q s how
  unfolding said_radius
  call_says r e = refused_first r early last e

  -- past them the set decides
  pub set-says : (0, 0, 0) ≡ said early → {n : ℕ} {b : Bool} → n ≡ rows_of T c → set_bad_lem s n ≡ b → said (fault 20 b) ≡ said_radius T c w q s how
  unfolding said_radius
  set-says z rows bad =
      ap (λ b. said (fault 20 b)) (sym bad ∙ ap (set_bad_lem s) rows) ∙ says-next early last numbered (sym (ap number_of z))

  -- with 0 nothing refuses the call
  pub not-refused : (said_radius T c w q s how).0 ≡ 0 → Clear asks T w q × (set_bad_lem s (rows_of T c) ≡ false)
  unfolding said_radius
  not-refused z =
      let p = says_none early last numbered z in
      (clear asks T w q p.0, fault-not 20 (set_bad_lem s (rows_of T c)) (omega arith) p.1)

-- there is then a how-byte for each row
pub room : (T : List ℕ) (c : ℕ) (w q s h : List ℕ) → (said_radius T c w q s (length h)).0 ≡ 0 → n# w ≤ length h
room T c w q s h z =
    let C = (not-refused T c w q s (length h) z).0 in
    omega (arith, C.rows, ltb-false (length h) (rows_of T c) C.numbers.room)

-- and what is lent fits the index
pub fits : (T : List ℕ) (c : ℕ) (w q s h : List ℕ) → (said_radius T c w q s (length h)).0 ≡ 0 → Lent w T c q h
fits T c w q s h z =
    let a = radius_asks T c q (length h) in
    let C = (not-refused T c w q s (length h) z).0 in
    record {
      tested = tested T c a w q refl refl C;
      query = eqb-true (length q) c (not-false (eqb (length q) c) C.numbers.like);
      how = λ k. room T c w q s h z;
    }

-- and the set is one of its rows
pub set-fits : (T : List ℕ) (c : ℕ) (w q s : List ℕ) (how : ℕ) → (said_radius T c w q s how).0 ≡ 0 → set_bad_lem s (n# w) ≡ false
set-fits T c w q s how z =
    let N = not-refused T c w q s how z in
    ap (set_bad_lem s) N.0.rows ∙ N.1

-- and rows and query are points of one space
pub point : (T : List ℕ) (c : ℕ) (w q s : List ℕ) (how : ℕ) → (said_radius T c w q s how).0 ≡ 0 → Point (between T c (circles# w)) (from T c (circles# w) q)
point T c w q s how z =
    let C = (not-refused T c w q s how z).0 in
    clear-point T c (radius_asks T c q how) w q refl refl C (eqb-true (length q) c (not-false (eqb (length q) c) C.numbers.like))

-- where nothing refuses a call but may be its set, more how-bytes do not either
pub right_call : (T : List ℕ) (c : ℕ) (w q : List ℕ) (few how : ℕ) → Clear (radius_asks T c q few) T w q → rows_of T c ≤ how
    → 0 ≡ (said (call_faults (radius_asks T c q how) T w q)).0
right_call T c w q few how C h =
    clear_none (radius_asks T c q how) T w q
    (record {
      numbers = record { table = C.numbers.table; fit = refl; room = le-ltb how (rows_of T c) h; like = C.numbers.like; some = refl };
      whole = C.whole;
      rows = C.rows;
      columns = C.columns;
      shape = C.shape;
      table = C.table;
      query = C.query;
    })
