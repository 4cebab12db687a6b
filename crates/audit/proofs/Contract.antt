-- The contract: on a refusal, and past all of them. Assumes nothing.
use Prim.Native.Nat.{◌*◌, ◌<◌, ◌≤◌, ℕ}
use Rattle.audit_refusals.proofs.Keeping.{early_keeps}
use Rattle.audit.proofs.Faults.{Late, faults_late}
use Rattle.audit.specs.Calls.{Checks}
use Rattle.audit_refusals.specs.Workspace.{clears}
use Rattle.buffers.specs.Wiped.{wiped}
use Rattle.laws.specs.Every.{Every}
use Rattle.limits.proofs.Faults.{Early, early_numbered, early_unfound, number_of, says_first, says-next}
use Rattle.limits.specs.Limits.{within}
use Rattle.limits.specs.Said.{Said, said}
use Rattle.measure.specs.Table.{between, rows_of}
use Rattle.audit_refusals.specs.Numbers.{check_asks, refusals, said_check}
use Rattle.refusals.proofs.Refusals.{call_early}
use Rattle.tree.specs.Check.{faults}
use Rattle.words.specs.Words.{circles#, n#}
use borrow.Author.Tests.{leb-true, lt-leb}
use lib.Dec.{eqb, leb}
use lib.ListN.{length}
use mathlib.Core.Bool.{Bool, ◌&&◌, cond, false, or-true, true}
use mathlib.Core.List.{List, [], ◌++◌, ◌∷◌}
use mathlib.Core.Path.{◌∙◌, ◌≡◌, ap, refl, sym}
use native.Mathlib.Omega.{arith}

-- THE CALL SAYS ITS FIRST REFUSAL, ELSE ITS FIRST FAULT
pub said_check_lem : (T : List ℕ) (c : ℕ) (w : List ℕ) (room : ℕ)
    → said_check T c w room ≡ said (refusals T c w room ++ faults (between T c (circles# w)) w)
unfolding said_check
said_check_lem T c w room = refl

-- ---- the workspace
-- 0 and the numbers of the passes clear it
late_clears : (l : List Said) → Every Late l → clears (said l).0 ≡ true
late_clears [] h = refl
late_clears (s ∷ l) h = rw h.0 (or-true (eqb s.0 0))

-- a number that is at least 10 only where it is above 13 is none of 10 to 13
pub unfound : (k : ℕ) → (10 ≤ k → 13 < k) → within 10 13 k ≡ false
unfound k h = go (leb 10 k) refl
  where
    go : (b : Bool) → leb 10 k ≡ b → (b && leb k 13) ≡ false
    go true e = lt-leb k 13 (h (leb-true 10 k e))
    go false e = refl

-- ---- the call's two ends
module _ (T : List ℕ) (c : ℕ) (w work : List ℕ) where
  -- its refusals
  abbrev early : List Said
  early = refusals T c w (length work)

  -- its faults
  abbrev late : List Said
  late = faults (between T c (circles# w)) w

  -- a refusal ends it, and the workspace is as it was
  pub refused : (r : Said) → r ≡ said early → (r.0 ≡ 0 → ⊥) → Checks T c w work work r.0 r.1 r.2
  refused r e h =
      let n : r.0 ≡ (said early).0 = ap number_of e in
      let s : r ≡ said_check T c w (length work) = e ∙ says_first early late (λ z. h (n ∙ z)) ∙ sym (said_check_lem T c w (length work)) in
      let all : Every Early early = call_early (check_asks T c (length work)) T w [] in
      record {
        said = ap number_of s;
        placed = (ap (λ (s : Said). s.1) s, ap (λ (s : Said). s.2) s);
        cleared = sym (ap (λ b. cond b (wiped (6 * rows_of T c) work) work) (early_keeps r.0 h (rw n (early_unfound early all))));
      }

  -- with no refusal it says its first fault, and the first 6n words of the workspace are zero
  pub taken : (r : Said) {work' : List ℕ} → (said early).0 ≡ 0 → n# w ≡ rows_of T c → r ≡ said late
      → work' ≡ wiped (6 * n# w) work → Checks T c w work work' r.0 r.1 r.2
  taken r z e says leaves =
      let s : r ≡ said_check T c w (length work) =
      says ∙ says-next early late (early_numbered early (call_early (check_asks T c (length work)) T w [])) z ∙ sym (said_check_lem T c w (length work)) in
      record {
        said = ap number_of s;
        placed = (ap (λ (s : Said). s.1) s, ap (λ (s : Said). s.2) s);
        cleared = leaves ∙ ap (λ (n : ℕ). wiped (6 * n) work) e
            ∙ sym (ap (λ (k : ℕ). cond (clears k) (wiped (6 * rows_of T c) work) work) (ap number_of says)
            ∙ ap (λ b. cond b (wiped (6 * rows_of T c) work) work) (late_clears late (faults_late (between T c (circles# w)) w)));
      }
