-- The theorems on the call: what it wrote is accepted where the old index was, all other groups keep their order, and no second outcome fits.
-- Assumes nothing.
use Prim.Native.Nat.{◌*◌, ◌+◌, ◌≤◌, ℕ}
use Rattle.append_refusals.proofs.Refusals.{Clear, clear}
use Rattle.appending.proofs.Appending.{Longer, append_accepted as words-accepted, append_header, append_length, append_one as words-one, append_order as words-order, longer_of}
use Rattle.appending.proofs.Order.{Order}
use Rattle.appending.specs.Append.{appended}
use Rattle.append.proofs.Growing.{grows-only, grows-refused, grows-there}
use Rattle.append.specs.Calls.{Appends}
use Rattle.laws.specs.Every.{Every}
use Rattle.limits.proofs.Numbers.{Sized}
use Rattle.measure.proofs.OnCircle.{round_rows}
use Rattle.measure.specs.Table.{Rounded, between, off_circle_lem, rows_of}
use Rattle.tree.specs.Build.{build}
use Rattle.tree.specs.Check.{Accepted}
use Rattle.tree.specs.Grove.{tree_of}
use Rattle.words.proofs.Headers.{words-whole}
use Rattle.words.specs.Words.{c#, circles#, edition#, l#, m#, n#, words_of_lem}
use lib.ListN.{drop, length, length-drop, take, take-append-drop}
use lib.Seq.{length-take-le}
use mathlib.Core.Bool.{false}
use mathlib.Core.List.{List, ◌++◌}
use mathlib.Core.Logic.{◌≢◌}
use mathlib.Core.Path.{◌∙◌, ◌≡◌, ap, subst, sym}
use native.Mathlib.Nat.{div-add-mod, mod-add-div, mul-add}
use native.Mathlib.Omega.{arith}

module _ {T : List ℕ} {c : ℕ} {w room work room' work' : List ℕ} {number words nodes : ℕ}
    (b : Appends T c w room work room' work' number words nodes) (z : number ≡ 0) where
  -- nothing is refused
  cleared : Clear T c w (length room) (length work)
  cleared = clear T c w (length room) (length work) (sym b.said ∙ z)

  -- no call refuses such a table
  pub append-sized : Sized (length T) c
  append-sized = cleared.table

  -- no circular column holds 3,600 or more
  pub append-on : off_circle_lem c (circles# w) T ≡ false
  append-on = cleared.on

  -- every row stands on the circle, the new one too
  pub append-round : Rounded T c (circles# w)
  append-round = round_rows T c (circles# w) (omega (arith, mod-add-div (length T) c, cleared.table.whole)) cleared.on

  -- the index stands at the front of the room
  pub append-there : take words room' ≡ appended T c w
  append-there = grows-there b z

  -- ON AN EMPTY INDEX IT IS THE BUILD OF ONE ROW, with the m, l and circles of its header
  pub append_one : n# w ≡ 0 → (rows_of T c ≡ 1) × (take words room' ≡ build T c (circles# w) 2 (m# w) (l# w))
  append_one e = (omega (arith, cleared.rows), append-there ∙ words-one T c w e)

  -- the table before the row came
  abbrev pub older : List ℕ
  older = take (c * n# w) T

  module _ (accepted : Accepted (between older c (circles# w)) w) where
    -- the table has the old one's rows and one more
    longer : Longer (between older c (circles# w)) T c w
    longer =
        let C = cleared in
        let k : ℕ = c * n# w in
        let long : length T ≡ k + c = omega (arith, div-add-mod (length T) c, C.table.whole, ap (λ (i : ℕ). c * i) C.rows, mul-add c (n# w) 1) in
        let parts : older ++ drop k T ≡ T = take-append-drop k T in
        subst (λ (t : List ℕ). Longer (between older c (circles# w)) t c w) parts
        (longer_of older (drop k T) c w accepted (words-whole w C.whole).0 C.columns (length-take-le k T (omega arith))
        (omega (arith, length-drop k T)) (omega (arith, C.rows, C.table.rows)) (subst (Every (λ v. v ≤ 65535)) (sym parts) b.narrow)
        (subst (λ (t : List ℕ). Rounded t c (circles# w)) (sym parts) append-round))

    -- WHERE THE OLD INDEX PASSED THE FULL CHECK WITH THE OLD TABLE, THE NEW ONE PASSES IT WITH THE NEW
    pub append_accepted : Accepted (between T c (circles# w)) (take words room')
    append_accepted = subst (Accepted (between T c (circles# w))) (sym append-there) (words-accepted longer)

    -- ITS HEADER HAS ONE ROW MORE AND ELSE WHAT THE OLD ONE HAS, AND ASKS FOR JUST THESE WORDS
    pub append-headed : (n# (take words room') ≡ rows_of T c) × (c# (take words room') ≡ c) × (m# (take words room') ≡ m# w)
        × (l# (take words room') ≡ l# w) × (edition# (take words room') ≡ 2) × (length (take words room') ≡ words_of_lem (take words room'))
        × (circles# (take words room') ≡ circles# w)
    append-headed =
        let h = append_header longer in
        rw append-there (h.1 ∙ cleared.rows, h.2, h.3, h.4, h.0, append_length longer, h.5)

    -- ONE GROUP TAKES THE ROW, AND IS SPLIT WHERE IT MUST BE; ALL OTHERS STAY AS THEY ARE, IN THEIR ORDER
    pub append_order : 1 ≤ n# w → Order (between T c (circles# w)) (m# w) (l# w) (n# w) 0 (tree_of w) (tree_of (take words room'))
    append_order h = rw append-there (words-order longer h)

-- ON A REFUSAL NOTHING HAS CHANGED, AND THE COUNTS ARE 0
pub append_refused : {T : List ℕ} {c : ℕ} {w room work room' work' : List ℕ} {number words nodes : ℕ}
    → Appends T c w room work room' work' number words nodes → number ≢ 0 → (words ≡ 0) × (nodes ≡ 0) × (room' ≡ room) × (work' ≡ work)
append_refused b h = grows-refused b h

-- NO SECOND OUTCOME FITS
pub append_only : (T : List ℕ) (c : ℕ) (w room work room₁ work₁ room₂ work₂ : List ℕ) (number₁ words₁ nodes₁ number₂ words₂ nodes₂ : ℕ)
    → Appends T c w room work room₁ work₁ number₁ words₁ nodes₁ → Appends T c w room work room₂ work₂ number₂ words₂ nodes₂
    → (number₁ ≡ number₂) × (words₁ ≡ words₂) × (nodes₁ ≡ nodes₂) × (room₁ ≡ room₂) × (work₁ ≡ work₂)
append_only T c w room work room₁ work₁ room₂ work₂ number₁ words₁ nodes₁ number₂ words₂ nodes₂ a b = grows-only a b
