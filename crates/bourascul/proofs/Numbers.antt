-- What the searches' numbers rest on: an accepted index is not refused where query and rooms fit, and of the table only its length counts; and D is
-- the last distance given. Assumes nothing.
use Prim.Native.Nat.{◌*◌, ◌/◌, ◌≤◌, min, ℕ}
use Rattle.audit.proofs.Theorems.{check-exact}
use Rattle.audit.specs.Calls.{Checks, Passed}
use Rattle.laws.specs.Lists.{last}
use Rattle.limits.proofs.Faults.{early_numbered, none-listed, number_of, says_first, says-next, says_none}
use Rattle.limits.proofs.Numbers.{passed_none, sized_of}
use Rattle.limits.specs.Said.{Said, fault, said, tabled}
use Rattle.limits.specs.declared.Asked.{Asked}
use Rattle.measure.specs.Table.{off_circle_lem, rows_of}
use Rattle.nearest_refusals.proofs.Refusals as near
use Rattle.nearest.specs.Calls.{Answered}
use Rattle.nearest_refusals.specs.Numbers.{nearest_asks, nearest_short, said_nearest}
use Rattle.nearest_search.specs.Found.{Settled}
use Rattle.nearest_steps.specs.Asked.{NearestLent, asks}
use Rattle.radius_refusals.proofs.Refusals as within-radius
use Rattle.radius.specs.Calls.{Searched}
use Rattle.radius_refusals.specs.Numbers.{radius_asks, said_radius}
use Rattle.refusals.proofs.Refusals.{Clear, by-circles, call_early, clear, clear_none, nineteen}
use Rattle.refusals.specs.Refused.{call_faults}
use Rattle.rowset.specs.Sets.{is_in_lem, set_bad_lem}
use Rattle.tree.proofs.Answers.{answers_length}
use Rattle.tree.specs.Nearest.{answers, last_distance}
use Rattle.words.proofs.Headers.{whole_words}
use Rattle.words.proofs.Indexes.{by_shape}
use Rattle.words.specs.Words.{circles#, n#, words_ok_lem}
use lib.ListN.{drop, length, length-map, take, take-append-drop}
use lib.Seq.{take_at}
use borrow.Author.Tests.{eq-eqb, le-ltb}
use lib.Dec.{eqb}
use mathlib.Core.Bool.{Bool, cond, false, not, true}
use mathlib.Core.List.{List, ◌++◌, map}
use mathlib.Core.Path.{◌∙◌, ◌≡◌, ap, ap₂, refl, sym}
use native.Mathlib.Omega.{arith}

-- ---- an index of which a check gave 0
module _ {t : List ℕ} {c : ℕ} {w work₀ work₁ : List ℕ} {place second : ℕ} (ok : Checks t c w work₀ work₁ 0 place second) where
  -- THE CALL WAS NOT REFUSED, THE INDEX IS THE TABLE'S AND ACCEPTED
  pub passed : Passed t c w work₀
  passed = (check-exact ok).0 refl

  -- no search refuses the table, nor the index
  right : {q : List ℕ} → off_circle_lem c (circles# w) q ≡ false → Clear (tabled (length t) c) t w q
  right on =
      record {
        numbers =
            record {
              table = sized_of (length t) c passed.columns passed.multiple passed.few;
              fit = refl;
              room = refl;
              like = refl;
              some = refl;
            };
        whole = whole_words w passed.edition passed.accepted.words;
        rows = passed.same_rows;
        columns = passed.same_columns;
        shape = passed.accepted.shape;
        table = passed.circled;
        query = on;
      }

  -- A RADIUS SEARCH IS NOT REFUSED WHERE THE QUERY HAS c NUMBERS THAT STAND ON THE CIRCLE, THE SET IS ONE OF n ROWS, AND THERE IS A HOW-BYTE FOR EACH ROW
  pub radius-taken : {q : List ℕ} {r : ℕ} {set before after : List ℕ} {number in# met : ℕ} → Searched t c w q r set before after number in# met
      → length q ≡ c → off_circle_lem c (circles# w) q ≡ false → set_bad_lem set (n# w) ≡ false → n# w ≤ length before → number ≡ 0
  radius-taken {q} {set = set} {before} s e on right-set h =
      let R = right {q = q} on in
      let n = passed.same_rows in
      let none : 0 ≡ (said (call_faults (radius_asks t c q (length before)) t w q)).0 =
      clear_none (radius_asks t c q (length before)) t w q (record {
        numbers =
            record {
              table = R.numbers.table;
              fit = refl;
              room = le-ltb (length before) (rows_of t c) (omega arith);
              like = ap not (eq-eqb (length q) c e);
              some = refl;
            };
        whole = R.whole;
        rows = R.rows;
        columns = R.columns;
        shape = R.shape;
        table = R.table;
        query = R.query;
      }) in
      let early : List Said = call_faults (radius_asks t c q (length before)) t w q in
      let nothing : (0, 0, 0) ≡ said early =
      ap said (sym (none-listed early (early_numbered early (call_early (radius_asks t c q (length before)) t w q)) (sym none))) in
      s.said ∙ sym (ap number_of (within-radius.set-says t c w q set (length before) nothing n right-set))

  -- NOR IS A NEAREST SEARCH WHERE SOME ARE WANTED AND THERE IS ROOM FOR THE ANSWERS, THE HOW-BYTES AND 6n WORDS
  pub nearest-taken : {q set : List ℕ} {wanted room : ℕ} {lent lent' : NearestLent} {number given met : ℕ}
      → Answered (asks t c w q wanted set) room lent lent' number given met → length q ≡ c → off_circle_lem c (circles# w) q ≡ false → set_bad_lem set (n# w) ≡ false
      → 1 ≤ wanted → min wanted (n# w) ≤ room → n# w ≤ length lent.how → 6 * n# w ≤ length lent.work → number ≡ 0
  nearest-taken {q} {set} {wanted} {room} {lent} s e on right-set some a b d =
      let n = passed.same_rows in
      s.said
      ∙ sym (near.taken t c w q wanted set room (length lent.how) (length lent.work) (right on) (omega arith, omega arith, omega arith) e (λ z. omega arith)
      (ap (set_bad_lem set) (sym n) ∙ right-set))

-- ---- D
-- THE LAST DISTANCE GIVEN IS D
pub last-is : {x : ℕ → ℕ} {gone : ℕ → Bool} {w : List ℕ} {wanted : ℕ} {lent lent' : NearestLent} {given : ℕ} → Settled x gone w wanted lent lent' given
    → last (take given lent'.distances) ≡ last_distance (answers x gone (n# w) wanted)
last-is {x} {gone} {w} {wanted} {lent} {given = given} s =
    let A : List (ℕ × ℕ) = answers x gone (n# w) wanted in
    let long : length (map (λ a. a.1) A) ≡ given = length-map A (λ a. a.1) ∙ answers_length x gone (n# w) wanted ∙ sym s.count in
    ap last (ap (take given) s.distances ∙ take_at (map (λ a. a.1) A) (drop given lent.distances) given long)

-- ---- two calls
-- lists that agree up to k and from k on are one
pub both-parts : (k : ℕ) (a b : List ℕ) → take k a ≡ take k b → drop k a ≡ drop k b → a ≡ b
both-parts k a b e d = sym (take-append-drop k a) ∙ ap₂ (λ (x y : List ℕ). x ++ y) e d ∙ take-append-drop k b

-- what is said of two tables that are equally long, where nothing refuses the call on the first: 19 of the second where it does not stand on the
-- circle, and nothing else
elsewhere : (a : Asked) (T T₂ w q : List ℕ) (more : List Said) → (said (call_faults a T w q ++ more)).0 ≡ 0
    → (said (call_faults a T₂ w q ++ more)).0 ≡ cond (off_circle_lem a.columns (circles# w) T₂) 19 0
elsewhere a T T₂ w q more z =
    let p = says_none (call_faults a T w q) more (early_numbered (call_faults a T w q) (call_early a T w q)) z in
    go (clear a T w q p.0) p.1 (off_circle_lem a.columns (circles# w) T₂) refl
  where
    go : Clear a T w q → (said more).0 ≡ 0 → (b : Bool) → off_circle_lem a.columns (circles# w) T₂ ≡ b → (said (call_faults a T₂ w q ++ more)).0 ≡ cond b 19 0
    go C none true e =
        let nineteen-said : 19 ≡ (said (call_faults a T₂ w q)).0 =
        by-circles a T₂ w q (passed_none a C.numbers) refl refl refl
        (by_shape (words_ok_lem w) w (a.length / a.columns) a.columns C.whole C.rows C.columns (sym C.shape)) refl refl
        (nineteen a.columns (circles# w) T₂ q {b = true} (rw e refl)) in
        sym (nineteen-said ∙ ap number_of (says_first (call_faults a T₂ w q) more (λ y. omega (arith, nineteen-said, y))))
    go C none false e =
        let clear₂ : Clear a T₂ w q = record {
          numbers = C.numbers;
          whole = C.whole;
          rows = C.rows;
          columns = C.columns;
          shape = C.shape;
          table = e;
          query = C.query;
        } in
        sym (ap number_of (says-next (call_faults a T₂ w q) more (early_numbered (call_faults a T₂ w q) (call_early a T₂ w q)) (sym (clear_none a T₂ w q clear₂))))
        ∙ none

-- TWO NEAREST SEARCHES ON TABLES THAT ARE EQUALLY LONG, LENT AS MUCH: where the first is not refused, the second is where it is off the circle
pub other_number : {t t₂ : List ℕ} {c : ℕ} {w q set : List ℕ} {wanted room : ℕ} {lent lent' lent₂' : NearestLent} {given met number₂ given₂ met₂ : ℕ}
    → Answered (asks t c w q wanted set) room lent lent' 0 given met → Answered (asks t₂ c w q wanted set) room lent lent₂' number₂ given₂ met₂
    → length t ≡ length t₂ → number₂ ≡ cond (off_circle_lem c (circles# w) t₂) 19 0
unfolding said_nearest
other_number {t} {t₂} {c} {w} {q} {set} {wanted} {room} {lent} s s₂ e =
    let how : ℕ = length lent.how in
    let work : ℕ = length lent.work in
    let asked : ℕ → Asked = λ k. record {
      length = k;
      columns = c;
      unfit = false;
      short = nearest_short (k / c) wanted room how work;
      unlike = not (eqb (length q) c);
      none = eqb wanted 0;
    } in
    s₂.said ∙ ap (λ (k : ℕ). (said (call_faults (asked k) t₂ w q ++ fault 20 (set_bad_lem set (k / c)))).0) (sym e)
    ∙ elsewhere (nearest_asks t c q wanted room how work) t t₂ w q (fault 20 (set_bad_lem set (rows_of t c))) (sym s.said)

-- AND SO OF TWO RADIUS SEARCHES
pub other_radius_number : {t t₂ : List ℕ} {c : ℕ} {w q : List ℕ} {r : ℕ} {set before after after₂ : List ℕ} {in# met number₂ in₂ met₂ : ℕ}
    → Searched t c w q r set before after 0 in# met → Searched t₂ c w q r set before after₂ number₂ in₂ met₂ → length t ≡ length t₂
    → number₂ ≡ cond (off_circle_lem c (circles# w) t₂) 19 0
unfolding said_radius
other_radius_number {t} {t₂} {c} {w} {q} {before = before} s s₂ e =
    s₂.said ∙ rw (← e) (elsewhere (radius_asks t c q (length before)) t t₂ w q _ (sym s.said))
