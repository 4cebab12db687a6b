-- What a build says, by what its parameters answer, and what holds where nothing is refused. Assumes nothing.
use Prim.Native.Nat.{◌*◌, ◌-◌, ◌/◌, ◌≤◌, ℕ}
use Rattle.build_refusals.specs.Numbers.{build_faults, room_of, said_build, short_of, writer_asks}
use Rattle.laws.proofs.Tests.{and_l, and_r, holds, is_true, or_none, or_parts}
use Rattle.limits.proofs.Faults.{fault-not, number_of, says_first, says-next, says_none}
use Rattle.limits.proofs.Numbers.{Passed, Sized, numbers-numbered, passed, passed_none}
use Rattle.limits.specs.Chosen.{choice_ok}
use Rattle.limits.specs.Limits.{circles_ok_lem, max_columns, share_ok_lem}
use Rattle.limits.proofs.Outcomes.{refused_first}
use Rattle.limits.specs.Refusal.{said_by}
use Rattle.limits.specs.declared.refusal.Refusal.{Refusal}
use Rattle.limits.specs.Said.{Said, number_faults, said}
use Rattle.limits.specs.declared.Asked.{Asked}
use Rattle.measure.proofs.OnCircle.{empty_on, round_rows}
use Rattle.measure.specs.Table.{Rounded, off_circle_lem, rows_of}
use Rattle.refusals.specs.Refused.{circle_faults}
use borrow.Author.Tests.{eq-eqb, eqb-true, le-ltb, lt-ltb, ltb-false, ltb-true, not-false}
use lib.Dec.{eqb, ltb}
use lib.ListN.{length}
use mathlib.Core.Bool.{Bool, ◌&&◌, ◌||◌, cond, false, not, true}
use mathlib.Core.List.{List, []}
use mathlib.Core.Path.{◌∙◌, ◌≡◌, ap, refl, sym}
use native.Mathlib.Nat.{mod-add-div}
use native.Mathlib.Omega.{arith}

-- ---- the rooms
-- a room that has the header's words is too short where it is so without them
pub behind_header : (n room : ℕ) → 8 ≤ room → ltb (room - 8) (12 * n) ≡ ltb room (room_of n)
behind_header n room h = go (ltb (room - 8) (12 * n)) refl
  where
    go : (b : Bool) → ltb (room - 8) (12 * n) ≡ b → b ≡ ltb room (room_of n)
    go true e = sym (lt-ltb room (room_of n) (omega (arith, ltb-true (room - 8) (12 * n) e)))
    go false e = sym (le-ltb room (room_of n) (omega (arith, ltb-false (room - 8) (12 * n) e)))

-- rooms that are not too short, and the other way
pub rooms : (n room work : ℕ) → short_of n room work ≡ false → (room_of n ≤ room) × (6 * n ≤ work)
rooms n room work e =
    let o = or_parts (ltb room (room_of n)) (ltb work (6 * n)) e in
    (ltb-false room (room_of n) o.0, ltb-false work (6 * n) o.1)

rooms_of : (n room work : ℕ) → room_of n ≤ room → 6 * n ≤ work → short_of n room work ≡ false
rooms_of n room work a b = or_none (ltb room (room_of n)) (ltb work (6 * n)) (le-ltb room (room_of n) a) (le-ltb work (6 * n) b)

-- ---- what numbers decide
-- what is asked where it is known whether the rooms are too short
abbrev asks_short : ℕ → ℕ → Bool → Bool → Asked
asks_short long c unfit short = record { length = long; columns = c; unfit = unfit; short = short; unlike = false; none = false }

-- what is said of it, by the rows and the rooms
pub writer_says : (long c room work : ℕ) (unfit : Bool) {n : ℕ} {v : Said} {short : Bool} → n ≡ long / c → short ≡ short_of n room work
    → v ≡ said (number_faults (asks_short long c unfit short)) → v ≡ said (number_faults (writer_asks long c unfit room work))
writer_says long c room work unfit e f g =
    g ∙ ap (λ (s : Bool). said (number_faults (asks_short long c unfit s))) (f ∙ ap (λ (k : ℕ). short_of k room work) e)

-- ---- the number, by what decides it
module _ (T : List ℕ) (c o : ℕ) (unfit : Bool) (room work : ℕ) where
  -- what numbers decide
  abbrev first : List Said
  first = number_faults (writer_asks (length T) c unfit room work)

  -- and what the circles decide
  abbrev second : List Said
  second = circle_faults c o T []

  -- numbers refuse the call
  pub by-numbers : {v : ℕ} → v ≡ (said first).0 → (v ≡ 0 → ⊥) → v ≡ (said (build_faults T c o unfit room work)).0
  by-numbers e h = e ∙ ap number_of (says_first first second (λ z. h (e ∙ z)))

  -- they do not, and the circles decide
  pub by-circles : {v k : ℕ} → v ≡ (said first).0 → v ≡ 0 → k ≡ (said second).0 → k ≡ (said (build_faults T c o unfit room work)).0
  by-circles e z h = h ∙ ap number_of (says-next first second (numbers-numbered (writer_asks (length T) c unfit room work)) (sym e ∙ z))

  -- ---- the same, return by return of the code
  -- what numbers refuse is what the call says
  pub numbers-say : (r : Refusal) → said_by r ≡ said first → said_by r ≡ said (build_faults T c o unfit room work)
  numbers-say r e = refused_first r first second e

  -- and past them, what the circles say
  pub circles-last : {s : Said} → (0, 0, 0) ≡ said first → s ≡ said second → s ≡ said (build_faults T c o unfit room work)
  circles-last z h = h ∙ says-next first second (numbers-numbered (writer_asks (length T) c unfit room work)) (sym (ap number_of z))

  -- where they do not, there are few columns
  pub few-columns : {v : ℕ} → v ≡ (said first).0 → v ≡ 0 → c ≤ max_columns
  few-columns e z = (passed (writer_asks (length T) c unfit room work) (sym e ∙ z)).table.few

  -- with 0 numbers refuse nothing, and the table stands on the circle
  both-pass : (said (build_faults T c o unfit room work)).0 ≡ 0 → Passed (writer_asks (length T) c unfit room work) × (off_circle_lem c o T ≡ false)
  unfolding circle_faults
  both-pass z =
      let a : Asked = writer_asks (length T) c unfit room work in
      let off : Bool = off_circle_lem c o T || off_circle_lem c o [] in
      let p = says_none first second (numbers-numbered a) z in
      (passed a p.0, (or_parts (off_circle_lem c o T) (off_circle_lem c o []) (fault-not 19 off (omega arith) p.1)).0)

  -- and where that is so 0 is said
  both-none : Passed (writer_asks (length T) c unfit room work) → off_circle_lem c o T ≡ false → 0 ≡ (said (build_faults T c o unfit room work)).0
  unfolding circle_faults
  both-none P e = by-circles (passed_none (writer_asks (length T) c unfit room work) P) refl (rw (e, empty_on c o))

-- parameters that are refused refuse the call
pub unfit_refused : (T : List ℕ) (c o room work : ℕ) {v : ℕ} → v ≡ (said (build_faults T c o true room work)).0 → v ≡ 0 → ⊥
unfit_refused T c o room work e z = differ (both-pass T c o true room work (sym e ∙ z)).0.fit
  where
    differ : true ≡ false → ⊥
    differ e = omega (arith, ap {B = ℕ} (λ (b : Bool). cond b 1 0) e)

module _ (T : List ℕ) (c o e m l room work : ℕ) where
  -- what is decided, with what the parameters answer, is what is said
  pub says : {b : Bool} {v : ℕ} → choice_ok c m l o e ≡ b → v ≡ (said (build_faults T c o (not b) room work)).0
      → v ≡ (said_build T c o e m l room work).0
  unfolding said_build
  says q h = h ∙ ap (λ b. (said (build_faults T c o (not b) room work)).0) (sym q)

-- ---- none
-- WITH 0 NOTHING IS WRONG: the table, m and l, the circles, the edition, the room and the workspace, and no circular column holds 3,600 or more
pub record Clear (T : List ℕ) (c o e m l room work : ℕ) : Type 0 where
  pub table : Sized (length T) c
  pub share : share_ok_lem m l ≡ true
  pub circles : circles_ok_lem c o ≡ true
  pub edition : e ≡ 2
  pub space : room_of (rows_of T c) ≤ room
  pub words : 6 * rows_of T c ≤ work
  pub on : off_circle_lem c o T ≡ false

module _ (T : List ℕ) (c o e m l room work : ℕ) where
  -- m, l and the circles are in range, and the edition is 2
  abbrev chosen : Bool
  chosen = choice_ok c m l o e

  -- they are where 0 is said
  pub clear : (said_build T c o e m l room work).0 ≡ 0 → Clear T c o e m l room work
  unfolding said_build
  clear z =
      let p = both-pass T c o (not chosen) room work z in
      let P = p.0 in
      let t = holds chosen (not-false chosen P.fit) in
      let s = and_l (share_ok_lem m l && circles_ok_lem c o) (eqb e 2) t in
      let k = rooms (rows_of T c) room work P.room in
      record {
        table = P.table;
        share = is_true (share_ok_lem m l) (and_l (share_ok_lem m l) (circles_ok_lem c o) s);
        circles = is_true (circles_ok_lem c o) (and_r (share_ok_lem m l) (circles_ok_lem c o) s);
        edition = eqb-true e 2 (is_true (eqb e 2) (and_r (share_ok_lem m l && circles_ok_lem c o) (eqb e 2) t));
        space = k.0;
        words = k.1;
        on = p.1;
      }

  -- and where nothing is wrong 0 is said
  pub clear_none : Clear T c o e m l room work → 0 ≡ (said_build T c o e m l room work).0
  unfolding said_build
  clear_none C =
      both-none T c o (not chosen) room work
      (record {
        table = C.table;
        fit = rw (C.share, C.circles, eq-eqb e 2 C.edition);
        room = rooms_of (rows_of T c) room work C.space C.words;
        like = refl;
        some = refl;
      })
      C.on

  -- every row stands on the circle then
  pub clear_round : Clear T c o e m l room work → Rounded T c o
  clear_round C = round_rows T c o (omega (arith, mod-add-div (length T) c, C.table.whole)) C.on
