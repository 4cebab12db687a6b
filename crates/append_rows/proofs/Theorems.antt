-- The theorems on the call: what it wrote is accepted where the old index was, is what one append after the other writes, and no second outcome fits.
-- Assumes nothing.
use Prim.Native.Nat.{◌*◌, ◌+◌, ◌-◌, suc, ℕ}
use Rattle.append.proofs.Growing.{grows-only, grows-refused, grows-there}
use Rattle.append_refusals.proofs.Faults.{Free}
use Rattle.append_rows_refusals.proofs.Refusals.{clear}
use Rattle.append_rows.proofs.First.{none-accepted}
use Rattle.append_rows.proofs.Outcomes.{rows_one}
use Rattle.append_rows.proofs.Turning.{Headed, turns-headed, turns-written}
use Rattle.append_rows.specs.Calls.{AppendsRows}
use Rattle.append_rows.specs.Turns.{AppendsInTurn}
use Rattle.limits.proofs.Numbers.{Sized}
use Rattle.measure.proofs.OnCircle.{round_rows}
use Rattle.measure.specs.Table.{Rounded, between, off_circle_lem, rows_of}
use Rattle.swelling.proofs.Turns.{Part, rows-accepted, rows-in-turn}
use Rattle.swelling.specs.Rows.{appended_rows, first_rows_lem, in_turn}
use Rattle.tree.specs.Build.{build}
use Rattle.tree.specs.Check.{Accepted}
use Rattle.words.proofs.Headers.{words-whole}
use Rattle.words.specs.Words.{circles#, l#, m#, n#}
use borrow.Author.Tests.{leb-false}
use lib.Dec.{leb}
use lib.ListN.{length, take}
use mathlib.Core.Bool.{false}
use mathlib.Core.List.{List}
use mathlib.Core.Logic.{◌≢◌}
use mathlib.Core.Path.{◌∙◌, ◌≡◌, ap, subst, sym}
use native.Mathlib.Nat.{mod-add-div}
use native.Mathlib.Omega.{arith}

module _ {T : List ℕ} {c : ℕ} {w room work room' work' : List ℕ} {number words nodes : ℕ}
    (b : AppendsRows T c w room work room' work' number words nodes) (z : number ≡ 0) where
  -- nothing is refused
  cleared : Free T c w (length room) (length work) (leb (rows_of T c) (n# w)) (n# w)
  cleared = clear T c w (length room) (length work) (sym b.said ∙ z)

  -- no call refuses such a table
  pub append-rows-sized : Sized (length T) c
  append-rows-sized = cleared.table

  -- no circular column holds 3,600 or more
  pub append-rows-on : off_circle_lem c (circles# w) T ≡ false
  append-rows-on = cleared.on

  -- the table has whole rows
  even : length T ≡ c * rows_of T c
  even = omega (arith, mod-add-div (length T) c, cleared.table.whole)

  -- every row stands on the circle, the new ones too
  pub append-rows-round : Rounded T c (circles# w)
  append-rows-round = round_rows T c (circles# w) even cleared.on

  -- the index stands at the front of the room
  pub append-rows-there : take words room' ≡ appended_rows T c w
  append-rows-there = grows-there b z

  -- ON AN EMPTY INDEX ONE ROW GIVES ITS BUILD, with the m, l and circles of its header
  pub append-rows-one : n# w ≡ 0 → rows_of T c ≡ 1 → take words room' ≡ build T c (circles# w) 2 (m# w) (l# w)
  append-rows-one e one = append-rows-there ∙ rows_one T c w e one

  -- the table before the rows came
  abbrev pub older : List ℕ
  older = first_rows_lem T c (n# w)

  -- an index without rows is accepted, so that what follows holds of it
  pub append-rows-none : n# w ≡ 0 → Accepted (between older c (circles# w)) w
  append-rows-none = none-accepted (between older c (circles# w)) w cleared.whole cleared.shape

  module _ (accepted : Accepted (between older c (circles# w)) w) where
    -- rows can be appended to the index in turn
    part : Part T c w
    part =
        record {
          accepted = accepted;
          edition = (words-whole w cleared.whole).0;
          columns = cleared.columns;
          more = leb-false (rows_of T c) (n# w) cleared.some;
          few = cleared.table.rows;
          small = b.narrow;
          round = append-rows-round;
        }

    -- WHERE THE OLD INDEX PASSED THE FULL CHECK WITH THE OLD TABLE, THE NEW ONE PASSES IT WITH THE NEW
    pub append-rows-accepted : Accepted (between T c (circles# w)) (take words room')
    append-rows-accepted = subst (Accepted (between T c (circles# w))) (sym append-rows-there) (rows-accepted part even)

    -- IT IS WHAT ONE CALL OF APPEND AFTER THE OTHER WRITES, EACH LENT THE TABLE'S ROWS AS FAR AS THE ONE THAT IT PUTS IN AND ROOMS FOR THEM
    pub append-rows-in-turn : {w' : List ℕ} → AppendsInTurn T c (rows_of T c - n# w) w w' → w' ≡ take words room'
    append-rows-in-turn {w'} ts =
        turns-written T c (rows_of T c - n# w) w w' part (omega (arith, part.more)) ts ∙ rows-in-turn part ∙ sym append-rows-there

    -- ITS HEADER HAS THE TABLE'S ROWS AND ELSE WHAT THE OLD ONE HAS, AND ASKS FOR JUST THESE WORDS
    pub append-rows-headed : Headed T c (rows_of T c) w (take words room')
    append-rows-headed =
        let k : ℕ = rows_of T c - n# w - 1 in
        let left : suc k ≡ rows_of T c - n# w = omega (arith, part.more) in
        let all : n# w + suc k ≡ rows_of T c = omega (arith, part.more) in
        let same : in_turn T c (suc k) w ≡ take words room' = ap (λ (j : ℕ). in_turn T c j w) left ∙ rows-in-turn part ∙ sym append-rows-there in
        subst (λ (n : ℕ). Headed T c n w (take words room')) all
        (subst (Headed T c (n# w + suc k) w) same (turns-headed T c k w part (omega (arith, all))))

-- ON A REFUSAL NOTHING HAS CHANGED, AND THE COUNTS ARE 0
pub append_rows_refused : {T : List ℕ} {c : ℕ} {w room work room' work' : List ℕ} {number words nodes : ℕ}
    → AppendsRows T c w room work room' work' number words nodes → number ≢ 0 → (words ≡ 0) × (nodes ≡ 0) × (room' ≡ room) × (work' ≡ work)
append_rows_refused b h = grows-refused b h

-- NO SECOND OUTCOME FITS
pub append_rows-only : (T : List ℕ) (c : ℕ) (w room work room₁ work₁ room₂ work₂ : List ℕ) (number₁ words₁ nodes₁ number₂ words₂ nodes₂ : ℕ)
    → AppendsRows T c w room work room₁ work₁ number₁ words₁ nodes₁ → AppendsRows T c w room work room₂ work₂ number₂ words₂ nodes₂
    → (number₁ ≡ number₂) × (words₁ ≡ words₂) × (nodes₁ ≡ nodes₂) × (room₁ ≡ room₂) × (work₁ ≡ work₂)
append_rows-only T c w room work room₁ work₁ room₂ work₂ number₁ words₁ nodes₁ number₂ words₂ nodes₂ a b = grows-only a b
