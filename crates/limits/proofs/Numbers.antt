-- The refusals that numbers decide: what decides past each part, what holds where none is met, and that none names a place. Assumes nothing.
use Prim.Native.Nat.{◌%◌, ◌*◌, ◌/◌, ◌≤◌, ℕ}
use Rattle.laws.proofs.Every.{every_append}
use Rattle.laws.specs.Every.{Every}
use Rattle.limits.proofs.Faults.{Early, Numbered, early_numbered, fault_early, fault-none, fault-not}
use Rattle.limits.proofs.Ranges.{both-within, columns_are}
use Rattle.limits.specs.Limits.{columns_ok_lem, max_columns, max_rows}
use Rattle.limits.specs.Said.{Said, fault, number_faults, said}
use Rattle.limits.specs.declared.Asked.{Asked}
use borrow.Author.Tests.{eq-eqb, eqb-true, le-ltb, ltb-false, not-false}
use lib.Dec.{eqb, ltb}
use mathlib.Core.Bool.{Bool, false, not, true}
use mathlib.Core.List.{List, ◌++◌}
use mathlib.Core.Path.{◌≡◌, refl}
use native.Mathlib.Nat.{mul-div-le}
use native.Mathlib.Omega.{arith}

-- a table of this length and c columns is right
pub record Sized (length c : ℕ) : Type 0 where
  pub some : 1 ≤ c
  pub few : c ≤ max_columns
  pub whole : length % c ≡ 0
  pub rows : length / c ≤ max_rows
  -- its rows lie in it
  pub inside : c * (length / c) ≤ length

-- it is where 1, 3 and 4 are not given
pub sized_of : (length c : ℕ) → (1 ≤ c) × (c ≤ max_columns) → length % c ≡ 0 → length / c ≤ max_rows → Sized length c
sized_of length c b e h = record { some = b.0; few = b.1; whole = e; rows = h; inside = mul-div-le length c }

-- its columns are right
pub sized_columns : (length c : ℕ) → Sized length c → columns_ok_lem c ≡ true
sized_columns length c S = both-within 1 max_columns c S.some S.few

-- NUMBERS REFUSE NOTHING: the table is right, and no other part is met
pub record Passed (a : Asked) : Type 0 where
  pub table : Sized a.length a.columns
  pub fit : a.unfit ≡ false
  pub room : a.short ≡ false
  pub like : a.unlike ≡ false
  pub some : a.none ≡ false

module _ (a : Asked) where
  -- ---- the parts from each on
  abbrev pub from7 : List Said
  from7 = fault 7 a.none

  abbrev pub from6 : List Said
  from6 = fault 6 a.unlike ++ from7

  abbrev pub from5 : List Said
  from5 = fault 5 a.short ++ from6

  abbrev pub from4 : List Said
  from4 = fault 4 (ltb max_rows (a.length / a.columns)) ++ from5

  abbrev pub from3 : List Said
  from3 = fault 3 (not (eqb (a.length % a.columns) 0)) ++ from4

  abbrev pub from2 : List Said
  from2 = fault 2 a.unfit ++ from3

  -- they are all, from 1 on
  pub from1 : fault 1 (not (columns_ok_lem a.columns)) ++ from2 ≡ number_faults a
  unfolding number_faults
  from1 = refl

  -- ---- all of them
  -- each is early: it names no place, and no pass of a full check finds it
  pub numbers_early : Every Early (number_faults a)
  unfolding number_faults
  numbers_early =
      let e1 = fault_early 1 (not (columns_ok_lem a.columns)) (omega arith) refl in
      let e2 = fault_early 2 a.unfit (omega arith) refl in
      let e3 = fault_early 3 (not (eqb (a.length % a.columns) 0)) (omega arith) refl in
      let e4 = fault_early 4 (ltb max_rows (a.length / a.columns)) (omega arith) refl in
      let e5 = fault_early 5 a.short (omega arith) refl in
      let e6 = fault_early 6 a.unlike (omega arith) refl in
      let e7 = fault_early 7 a.none (omega arith) refl in
      both 1 (not (columns_ok_lem a.columns)) from2 e1
      (both 2 a.unfit from3 e2
      (both 3 (not (eqb (a.length % a.columns) 0)) from4 e3
      (both 4 (ltb max_rows (a.length / a.columns)) from5 e4 (both 5 a.short from6 e5 (both 6 a.unlike from7 e6 e7)))))
    where
      both : (k : ℕ) (b : Bool) (fs : List Said) → Every Early (fault k b) → Every Early fs → Every Early (fault k b ++ fs)
      both k b fs = every_append Early (fault k b) fs

  -- so that none has the number 0
  pub numbers-numbered : Numbered (number_faults a)
  numbers-numbered = early_numbered (number_faults a) numbers_early

  -- WITH 0 NUMBERS REFUSE NOTHING
  pub passed : (said (number_faults a)).0 ≡ 0 → Passed a
  unfolding number_faults
  passed z =
      let columns = columns_ok_lem a.columns in
      let whole = eqb (a.length % a.columns) 0 in
      let many = ltb max_rows (a.length / a.columns) in
      let p1 = fault-none 1 (not columns) from2 (omega arith) z in
      let p2 = fault-none 2 a.unfit from3 (omega arith) p1.1 in
      let p3 = fault-none 3 (not whole) from4 (omega arith) p2.1 in
      let p4 = fault-none 4 many from5 (omega arith) p3.1 in
      let p5 = fault-none 5 a.short from6 (omega arith) p4.1 in
      let p6 = fault-none 6 a.unlike from7 (omega arith) p5.1 in
      record {
        table = sized_of a.length a.columns (columns_are a.columns (not-false columns p1.0))
            (eqb-true (a.length % a.columns) 0 (not-false whole p3.0)) (ltb-false max_rows (a.length / a.columns) p4.0);
        fit = p2.0;
        room = p5.0;
        like = p6.0;
        some = fault-not 7 a.none (omega arith) p6.1;
      }

  -- AND WHERE THEY REFUSE NOTHING 0 IS SAID
  pub passed_none : Passed a → 0 ≡ (said (number_faults a)).0
  unfolding number_faults
  passed_none P =
      rw (
        sized_columns a.length a.columns P.table,
        P.fit,
        eq-eqb (a.length % a.columns) 0 P.table.whole,
        le-ltb max_rows (a.length / a.columns) P.table.rows,
        P.room,
        P.like,
        P.some,
      )
