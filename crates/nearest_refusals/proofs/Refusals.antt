-- Why a nearest call is refused: one law for each return of the code, what it lends where nothing refuses it, and when that is so. Assumes nothing.
use Prim.Native.Nat.{◌*◌, ◌≤◌, min, ℕ}
use Rattle.laws.proofs.Tests.{or_none, or_parts}
use Rattle.limits.proofs.Faults.{Numbered, early_numbered, fault-not, none-listed, number_of, says-next, says_none}
use Rattle.limits.proofs.Outcomes.{refused_first}
use Rattle.limits.specs.Refusal.{said_by}
use Rattle.limits.specs.declared.refusal.Refusal.{Refusal}
use Rattle.limits.specs.Said.{Said, fault, number_faults, said, tabled}
use Rattle.limits.specs.declared.Asked.{Asked}
use Rattle.measure.specs.Table.{rows_of}
use Rattle.nearest_refusals.specs.Numbers.{nearest_asks, nearest_short, said_nearest}
use Rattle.refusals.proofs.Refusals.{Clear, call_early, clear, clear_none}
use Rattle.refusals.specs.Refused.{call_faults}
use Rattle.rowset.specs.Sets.{set_bad_lem}
use Rattle.words.specs.Index.{fit_faults}
use Rattle.words.specs.Words.{words_ok_lem}
use borrow.Author.Tests.{eq-eqb, le-ltb, ltb-false, ne_eqb}
use lib.Dec.{ltb}
use lib.ListN.{length}
use mathlib.Core.Bool.{Bool, ◌||◌, false, not, true}
use mathlib.Core.List.{List, [], ◌∷◌}
use mathlib.Core.Logic.{◌≢◌}
use mathlib.Core.Path.{◌∙◌, ◌≡◌, ap, refl, sym}
use native.Mathlib.Omega.{arith}

-- of several numbers the lowest is said, computed: of a table with no row and a query of one number, the index has no words, and the set has one too
-- many
eight_first : (said_nearest [] 1 [] (5 ∷ []) 1 (0 ∷ []) 0 0 0).0 ≡ 8
unfolding number_faults words_ok_lem fit_faults call_faults set_bad_lem said_nearest
eight_first = refl

-- the rooms that are not too short, and the other way
pub rooms : (n wanted room how work : ℕ) → nearest_short n wanted room how work ≡ false → (min wanted n ≤ room) × (n ≤ how) × (6 * n ≤ work)
rooms n wanted room how work e =
    let p = or_parts (ltb room (min wanted n) || ltb how n) (ltb work (6 * n)) e in
    let o = or_parts (ltb room (min wanted n)) (ltb how n) p.0 in
    (ltb-false room (min wanted n) o.0, ltb-false how n o.1, ltb-false work (6 * n) p.1)

rooms_of : (n wanted room how work : ℕ) → min wanted n ≤ room → n ≤ how → 6 * n ≤ work → nearest_short n wanted room how work ≡ false
rooms_of n wanted room how work a b d =
    or_none (ltb room (min wanted n) || ltb how n) (ltb work (6 * n))
    (or_none (ltb room (min wanted n)) (ltb how n) (le-ltb room (min wanted n) a) (le-ltb how n b)) (le-ltb work (6 * n) d)

-- where the number is 0 nothing is said
nothing-said : (fs : List Said) → Numbered fs → 0 ≡ (said fs).0 → (0, 0, 0) ≡ said fs
nothing-said fs k z = ap said (sym (none-listed fs k (sym z)))

module _ (t : List ℕ) (c : ℕ) (w q : List ℕ) (wanted : ℕ) (s : List ℕ) (room how work : ℕ) where
  -- what is asked of numbers
  abbrev asked : Asked
  asked = nearest_asks t c q wanted room how work

  -- what refuses but for the set
  abbrev call : List Said
  call = call_faults asked t w q

  -- 20
  abbrev last : List Said
  last = fault 20 (set_bad_lem s (rows_of t c))

  -- all but the last are numbered
  numbered : Numbered call
  numbered = early_numbered call (call_early asked t w q)

  -- ---- one law for each return of the code
  -- what numbers, the index or the circles refuse is what the call says
  pub call_says : (r : Refusal) → said_by r ≡ said (call_faults (nearest_asks t c q wanted room how work) t w q) → said_by r ≡ said_nearest t c w q wanted s room how work
  unfolding said_nearest
  call_says r e = refused_first r call last e

  -- they refuse nothing, and the set decides
  pub set-says : (0, 0, 0) ≡ said (call_faults (nearest_asks t c q wanted room how work) t w q) → {n : ℕ} {b : Bool} → n ≡ rows_of t c
      → set_bad_lem s n ≡ b → said (fault 20 b) ≡ said_nearest t c w q wanted s room how work
  unfolding said_nearest
  set-says z rows bad = ap (λ b. said (fault 20 b)) (sym bad ∙ ap (set_bad_lem s) rows) ∙ says-next call last numbered (sym (ap number_of z))

  -- ---- with 0
  -- nothing refuses the call
  pub not-refused : (said_nearest t c w q wanted s room how work).0 ≡ 0 → Clear (nearest_asks t c q wanted room how work) t w q
  unfolding said_nearest
  not-refused z = clear asked t w q (says_none call last numbered z).0

  -- the set has the words for the rows, and no bit that is no row's
  pub set-right : (said_nearest t c w q wanted s room how work).0 ≡ 0 → set_bad_lem s (rows_of t c) ≡ false
  unfolding said_nearest
  set-right z = fault-not 20 (set_bad_lem s (rows_of t c)) (omega arith) (says_none call last numbered z).1

  -- ---- a right table with its index, rooms enough, a query of c numbers, and some wanted
  module _ (C : Clear (tabled (length t) c) t w q) (h : (min wanted (rows_of t c) ≤ room) × (rows_of t c ≤ how) × (6 * rows_of t c ≤ work))
      (e : length q ≡ c)
      (k : wanted ≢ 0) where
    -- only the set can refuse the call
    no_other : (0, 0, 0) ≡ said (call_faults (nearest_asks t c q wanted room how work) t w q)
    no_other =
        nothing-said call numbered (clear_none asked t w q
        (record {
          numbers =
              record {
                table = C.numbers.table;
                fit = refl;
                room = rooms_of (rows_of t c) wanted room how work h.0 h.1 h.2;
                like = ap not (eq-eqb (length q) c e);
                some = ne_eqb wanted 0 k;
              };
          whole = C.whole;
          rows = C.rows;
          columns = C.columns;
          shape = C.shape;
          table = C.table;
          query = C.query;
        }))

    -- a right set does not
    pub taken : set_bad_lem s (rows_of t c) ≡ false → 0 ≡ (said_nearest t c w q wanted s room how work).0
    taken right = ap number_of (set-says (no_other) refl right)

    -- another does
    pub twenty : set_bad_lem s (rows_of t c) ≡ true → 20 ≡ (said_nearest t c w q wanted s room how work).0
    twenty wrong = ap number_of (set-says (no_other) refl wrong)
