-- What holds of every call that puts rows into an index, whatever it says and whatever words it writes. Assumes nothing.
use Prim.Native.Nat.{◌*◌, ◌+◌, ◌≤◌, ℕ}
use Rattle.append_refusals.proofs.Faults.{Free}
use Rattle.appending.proofs.Appending.{share-ok}
use Rattle.appending.proofs.Back.{header_last}
use Rattle.append.specs.Calls.{Grows}
use Rattle.build.proofs.Outcomes.{small as sixteen}
use Rattle.build.proofs.Small.{build_small}
use Rattle.build.specs.Calls.{Builds}
use Rattle.build_refusals.proofs.Refusals.{clear_none}
use Rattle.build_refusals.specs.Numbers.{said_build}
use Rattle.limits.specs.Limits.{circles_ok_lem, max_rows}
use Rattle.limits.specs.Said.{Said}
use Rattle.measure.specs.Table.{rows_of}
use Rattle.tree.specs.Build.{build}
use Rattle.words.proofs.Headers.{words-whole}
use Rattle.words.proofs.InShape.{in_shape}
use Rattle.words.specs.InShape.{InShape}
use Rattle.words.specs.Words.{nodes#, circles#, l#, m#}
use borrow.Author.Tests.{eq-eqb, ne_eqb}
use lib.Dec.{eqb}
use lib.ListN.{drop, get_or, length, length-append, replicate, take}
use lib.Seq.{length-take-le, take_at}
use mathlib.Core.Bool.{Bool, cond, false, true}
use mathlib.Core.List.{List, ◌++◌}
use mathlib.Core.Logic.{◌≢◌}
use mathlib.Core.Path.{◌∙◌, ◌≡◌, ap, ap₂, refl, subst, sym}
use native.Mathlib.Omega.{arith}

-- where nothing is wrong a build with the header's m, l and circles says 0
pub free_builds : {T : List ℕ} {c : ℕ} {w : List ℕ} {room work : ℕ} {none : Bool} {had : ℕ} → Free T c w room work none had
    → 0 ≡ (said_build T c (circles# w) 2 (m# w) (l# w) room work).0
free_builds {T} {c} {w} {room} {work} F =
    let shape : InShape w = in_shape w (words-whole w F.whole).1 F.shape in
    clear_none T c (circles# w) 2 (m# w) (l# w) room work (
    record {
      table = F.table;
      share = share-ok w shape;
      circles = subst (λ (k : ℕ). circles_ok_lem k (circles# w) ≡ true) F.columns (header_last w (words-whole w F.whole).1).1;
      edition = refl;
      space = F.space;
      words = F.words;
      on = F.on;
    }
    )

module _ {says : List ℕ → ℕ → List ℕ → ℕ → ℕ → Said} {grown : List ℕ → ℕ → List ℕ → List ℕ} where
  -- a refusal: both rooms are as they were, and the counts are 0
  pub refused-grows : {T : List ℕ} {c : ℕ} {w room work : List ℕ} {number : ℕ} → ((i : ℕ) → get_or T i 0 ≤ 65535)
      → number ≡ (says T c w (length room) (length work)).0 → number ≢ 0 → Grows says grown T c w room work room work number 0 0
  refused-grows {T} {number = number} narrow q h =
      let f : eqb number 0 ≡ false = ne_eqb number 0 h in
      record {
        said = q;
        counted = (rw f, rw f);
        index = rw f;
        narrow = sixteen T narrow;
        small = (omega arith, omega arith);
        cleared = rw f;
      }

  -- the build of all rows, where it writes just the words
  pub built-grows : {T : List ℕ} {c : ℕ} {w room work room' work' : List ℕ} {number words nodes : ℕ} → ((i : ℕ) → get_or T i 0 ≤ 65535)
      → (says T c w (length room) (length work)).0 ≡ 0 → 0 ≡ (said_build T c (circles# w) 2 (m# w) (l# w) (length room) (length work)).0
      → grown T c w ≡ build T c (circles# w) 2 (m# w) (l# w)
      → Builds T c (circles# w) 2 (m# w) (l# w) room work room' work' number words nodes
      → Grows says grown T c w room work room' work' number words nodes
  built-grows {T} narrow none builds one B =
      record {
        said = B.said ∙ sym builds ∙ sym none;
        counted = rw one B.counted;
        index = rw one B.index;
        narrow = sixteen T narrow;
        small = build_small B;
        cleared = B.cleared;
      }

  -- k rows, and the words written by a pass that has cleared the part of the workspace which it was lent
  pub passed-grows : {T : List ℕ} {c : ℕ} {w room work room' part' work' : List ℕ} {k nodes words : ℕ} → ((i : ℕ) → get_or T i 0 ≤ 65535)
      → (says T c w (length room) (length work)).0 ≡ 0 → k ≡ rows_of T c → k ≤ max_rows → 6 * k ≤ length work
      → room' ≡ grown T c w ++ drop (length (grown T c w)) room → nodes ≡ nodes# (grown T c w) → nodes ≤ 2 * k
      → length (grown T c w) ≡ 8 + 5 * nodes + 2 * k → part' ≡ replicate (length (take (6 * k) work)) 0
      → work' ≡ part' ++ drop (6 * k) work → words ≡ 8 + 5 * nodes + 2 * k → Grows says grown T c w room work room' work' 0 words nodes
  passed-grows {T} {c} {work = work} {work' = work'} {k = k} narrow none e most long index count few size zeros h q =
      let wiped : work' ≡ replicate (6 * k) 0 ++ drop (6 * k) work =
      h ∙ ap (λ (x : List ℕ). x ++ drop (6 * k) work) (zeros ∙ ap (λ (i : ℕ). replicate i 0) (length-take-le (6 * k) work long)) in
      record {
        said = sym none;
        counted = (omega arith, count);
        index = index;
        narrow = sixteen T narrow;
        small = (omega arith, omega arith);
        cleared = wiped ∙ ap (λ (i : ℕ). replicate (6 * i) 0 ++ drop (6 * i) work) e;
      }

  -- with 0 the words stand at the front of the room
  pub grows-there : {T : List ℕ} {c : ℕ} {w room work room' work' : List ℕ} {number words nodes : ℕ}
      → Grows says grown T c w room work room' work' number words nodes → number ≡ 0 → take words room' ≡ grown T c w
  grows-there {T} {c} {w} {room} {number = number} b z =
      let q : eqb number 0 ≡ true = eq-eqb number 0 z in
      ap₂ take (rw q at b.counted.0) (rw q at b.index)
      ∙ take_at (grown T c w) (drop (length (grown T c w)) room) (length (grown T c w)) refl

  -- they fit it
  pub grows-fits : {T : List ℕ} {c : ℕ} {w room work room' work' : List ℕ} {number words nodes : ℕ}
      → Grows says grown T c w room work room' work' number words nodes → number ≡ 0 → words ≤ length room'
  grows-fits {T} {c} {w} {room} {room' = room'} {number = number} {words} b z =
      let q : eqb number 0 ≡ true = eq-eqb number 0 z in
      let B : List ℕ = grown T c w in
      let i : room' ≡ B ++ drop (length B) room = rw q at b.index in
      let n : words ≡ length B = rw q at b.counted.0 in
      omega (arith, ap length i ∙ length-append B (drop (length B) room))

  -- ON A REFUSAL NOTHING HAS CHANGED, AND THE COUNTS ARE 0
  pub grows-refused : {T : List ℕ} {c : ℕ} {w room work room' work' : List ℕ} {number words nodes : ℕ}
      → Grows says grown T c w room work room' work' number words nodes → number ≢ 0 → (words ≡ 0) × (nodes ≡ 0) × (room' ≡ room) × (work' ≡ work)
  grows-refused {number = number} b h =
      let f : eqb number 0 ≡ false = ne_eqb number 0 h in
      (rw f at b.counted.0, rw f at b.counted.1, rw f at b.index, rw f at b.cleared)

  -- NO SECOND OUTCOME FITS
  pub grows-only : {T : List ℕ} {c : ℕ} {w room work room₁ work₁ room₂ work₂ : List ℕ} {number₁ words₁ nodes₁ number₂ words₂ nodes₂ : ℕ}
      → Grows says grown T c w room work room₁ work₁ number₁ words₁ nodes₁ → Grows says grown T c w room work room₂ work₂ number₂ words₂ nodes₂
      → (number₁ ≡ number₂) × (words₁ ≡ words₂) × (nodes₁ ≡ nodes₂) × (room₁ ≡ room₂) × (work₁ ≡ work₂)
  grows-only {T} {c} {w} {room} {work} {number₁ = number₁} {number₂ = number₂} a b =
      let n : number₁ ≡ number₂ = a.said ∙ sym b.said in
      let B : List ℕ = grown T c w in
      let k : ℕ = 6 * rows_of T c in (
        n,
        a.counted.0 ∙ ap (λ (i : ℕ). cond (eqb i 0) (length B) 0) n ∙ sym b.counted.0,
        a.counted.1 ∙ ap (λ (i : ℕ). cond (eqb i 0) (nodes# B) 0) n ∙ sym b.counted.1,
        a.index ∙ ap (λ (i : ℕ). cond (eqb i 0) (B ++ drop (length B) room) room) n ∙ sym b.index,
        a.cleared ∙ ap (λ (i : ℕ). cond (eqb i 0) (replicate k 0 ++ drop k work) work) n ∙ sym b.cleared,
      )
