-- The call's two ends: a refusal, and the index in the room. Assumes nothing.
use Prim.Native.Nat.{ℕ}
use Rattle.card_refusals.proofs.Refusals.{Clear, clear}
use Rattle.card_refusals.specs.Tests.{CardTested, read_total}
use Rattle.card.specs.Calls.{Reads, read_words}
use Rattle.limits.proofs.Outcomes.{said_by-some}
use Rattle.limits.specs.Refusal.{said_by}
use Rattle.limits.specs.declared.refusal.Refusal.{Refusal}
use borrow.Author.Tests.{ne_eqb}
use lib.Dec.{eqb}
use lib.ListN.{drop, length}
use mathlib.Core.Bool.{false}
use mathlib.Core.List.{List, ◌++◌}
use mathlib.Core.Path.{◌≡◌, sym}

-- the tests refused the call: the room is as it was
pub refused : {T : List ℕ} {c : ℕ} {i : List ℕ} (before : List ℕ) (r : Refusal) → CardTested T c i (length before) (said_by r).0 (said_by r).1 0
    → Reads T c i before before (said_by r).0 (said_by r).1 0
refused before r S =
    let some : eqb (said_by r).0 0 ≡ false = ne_eqb (said_by r).0 0 (said_by-some r) in
    record { said = S.said; placed = S.placed; counted = S.counted; lent = rw some }

-- the tests refused nothing, and counted the words
module _ {T : List ℕ} {c : ℕ} {i : List ℕ} {words : ℕ} (before : List ℕ) (S : CardTested T c i (length before) 0 0 words) where
  -- nothing is wrong
  pub passed : Clear T c i (length before)
  passed = clear T c i (length before) (sym S.said)

  -- and the index is put into the room
  pub taken : {after : List ℕ} → after ≡ read_words T c i ++ drop (read_total i) before → Reads T c i before after 0 0 words
  taken q = record { said = S.said; placed = S.placed; counted = S.counted; lent = q }
