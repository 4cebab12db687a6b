-- One append after the other, by its outcomes: each is done, and what the last has written is what all rows at once give. Assumes nothing.
use Prim.Native.Nat.{◌%◌, ◌*◌, ◌+◌, ◌-◌, ◌<◌, ◌≤◌, suc, zero, ℕ}
use Rattle.append.proofs.Growing.{grows-there}
use Rattle.append.specs.Calls.{Appends}
use Rattle.append_refusals.proofs.Refusals.{clear_none}
use Rattle.append_refusals.specs.Numbers.{said_append}
use Rattle.append_rows.specs.Turns.{AppendsInTurn, none, then}
use Rattle.appending.proofs.Appending.{append_header, append_length}
use Rattle.build_refusals.specs.Numbers.{room_of}
use Rattle.limits.proofs.Numbers.{Sized, sized_of}
use Rattle.measure.specs.Table.{rows_of}
use Rattle.refusals.proofs.OffCircle.{circle-means}
use Rattle.swelling.proofs.Turns.{Part, next, onward, rows-in-turn, rows-length, step, then'}
use Rattle.swelling.specs.Rows.{appended_rows, in_turn}
use Rattle.tree.proofs.Accepted.{shape_of}
use Rattle.words.proofs.Headers.{whole_words}
use Rattle.words.specs.InShape.{InShape}
use Rattle.words.specs.Words.{c#, circles#, edition#, l#, m#, n#, words_of_lem}
use lib.ListN.{length, take}
use mathlib.Core.List.{List}
use mathlib.Core.Path.{◌∙◌, ◌≡◌, ap, refl, subst, sym}
use native.Mathlib.Nat.{mul-mod_right}
use native.Mathlib.Omega.{arith}

-- ---- one of them
module _ {T : List ℕ} {c : ℕ} {w : List ℕ} (P : Part T c w) where
  -- there are columns
  wide : (1 ≤ c) × (c ≤ 16)
  wide =
      let S : InShape w = shape_of _ w P.accepted in
      (omega (arith, S.whole.columns.0, P.columns), omega (arith, S.whole.columns.1, P.columns))

  -- its table has whole rows
  even : length (next P) % c ≡ 0
  even = ap (λ (k : ℕ). k % c) (rows-length T c wide.0 (n# w + 1) (omega (arith, P.more))) ∙ mul-mod_right c (n# w + 1)

  -- that many
  sized : Sized (length (next P)) c
  sized = sized_of (length (next P)) c wide even (omega (arith, (step P).rows, P.more, P.few))

  -- with rooms for one row more an append says 0
  pub append-none : {room work : ℕ} → room_of (n# w + 1) ≤ room → 6 * (n# w + 1) ≤ work → 0 ≡ (said_append (next P) c w room work).0
  append-none {room} {work} h q =
      clear_none (next P) c w room work (
      record {
        table = sized;
        space = subst (λ (n : ℕ). room_of n ≤ room) (sym (step P).rows) h;
        words = subst (λ (n : ℕ). 6 * n ≤ work) (sym (step P).rows) q;
        rows = sym (step P).rows;
        columns = P.columns;
        whole = whole_words w P.edition P.accepted.words;
        shape = P.accepted.shape;
        on = (circle-means (next P) c (circles# w) even).1 (step P).round;
      }
      )

  -- and has written the index of one row more
  pub append-writes : {room work room' work' : List ℕ} {number words nodes : ℕ} → Appends (next P) c w room work room' work' number words nodes
      → room_of (n# w + 1) ≤ length room → 6 * (n# w + 1) ≤ length work → take words room' ≡ then' P
  append-writes b h q = grows-there b (b.said ∙ sym (append-none h q))

  -- ALL ROWS AT ONCE GIVE THE SAME WHERE THE FIRST OF THEM HAS GONE IN BY ITSELF
  pub rows-onward : n# w + 1 < rows_of T c → appended_rows T c (then' P) ≡ appended_rows T c w
  unfolding in_turn
  rows-onward h =
      let k : ℕ = rows_of T c - n# (then' P) in
      let e : suc k ≡ rows_of T c - n# w = omega (arith, (append_header (step P)).1) in
      sym (rows-in-turn (onward P h)) ∙ ap (λ (j : ℕ). in_turn T c j w) e ∙ rows-in-turn P

-- ---- all of them
module _ (T : List ℕ) (c : ℕ) where
  -- none has written nothing
  turns-none : {w w' : List ℕ} → AppendsInTurn T c zero w w' → w' ≡ w
  turns-none none = refl

  -- WHAT APPENDS ONE AFTER THE OTHER HAVE WRITTEN AT LAST
  pub turns-written : (k : ℕ) (w w' : List ℕ) (P : Part T c w) → n# w + k ≤ rows_of T c → AppendsInTurn T c k w w' → w' ≡ in_turn T c k w
  unfolding in_turn
  turns-written zero w w' P q none = refl
  turns-written (suc zero) w w' P q (then b r s ts) = turns-none ts ∙ append-writes P b r s
  turns-written (suc (suc k)) w w' P q (then b r s ts) =
      turns-written (suc k) (then' P) w' (onward P (omega arith)) (omega (arith, (append_header (step P)).1))
      (subst (λ (v : List ℕ). AppendsInTurn T c (suc k) v w') (append-writes P b r s) ts)

  -- a header of n rows, and else that of w, which asks for just the words that there are
  abbrev pub Headed : ℕ → List ℕ → List ℕ → Type 0
  Headed n w v = (n# v ≡ n) × (c# v ≡ c) × (m# v ≡ m# w) × (l# v ≡ l# w) × (edition# v ≡ 2) × (length v ≡ words_of_lem v) × (circles# v ≡ circles# w)

  -- THEIR HEADER HAS THESE ROWS MORE, AND ELSE WHAT THE FIRST HAD
  pub turns-headed : (k : ℕ) (w : List ℕ) (P : Part T c w) → n# w + suc k ≤ rows_of T c → Headed (n# w + suc k) w (in_turn T c (suc k) w)
  unfolding in_turn
  turns-headed zero w P q =
      let H = append_header (step P) in
      (H.1 ∙ omega arith, H.2, H.3, H.4, H.0, append_length (step P), H.5)
  turns-headed (suc k) w P q =
      let H = append_header (step P) in
      let I = turns-headed k (then' P) (onward P (omega arith)) (omega (arith, H.1)) in
      (I.0 ∙ omega (arith, H.1), I.1, I.2 ∙ H.3, I.3 ∙ H.4, I.4, I.5, I.6 ∙ H.5)
