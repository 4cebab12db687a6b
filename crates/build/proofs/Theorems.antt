-- The theorems on the call: what it wrote is the table's and accepted, and no second outcome fits. Assumes nothing.
use Prim.Native.Nat.{◌*◌, ℕ}
use Rattle.build_refusals.proofs.Refusals.{clear}
use Rattle.build.specs.Calls.{Builds}
use Rattle.filling.proofs.Whole.{encode-words, positions}
use Rattle.limits.proofs.Numbers.{Sized}
use Rattle.limits.proofs.Ranges.{shared}
use Rattle.limits.specs.Limits.{share_ok_lem}
use Rattle.measure.specs.Table.{between, off_circle_lem, rows_of}
use Rattle.tree.specs.Build.{build, plant}
use Rattle.tree.specs.Check.{Accepted}
use Rattle.tree.specs.Encode.{encode}
use Rattle.words.specs.Words.{nodes#, c#, circles#, edition#, n#, words_of_lem}
use borrow.Author.Tests.{eq-eqb}
use lib.Dec.{eqb}
use lib.ListN.{drop, length, replicate, take}
use lib.Seq.{take_at}
use mathlib.Core.Bool.{cond, false, true}
use mathlib.Core.List.{List, ◌++◌}
use mathlib.Core.Path.{◌∙◌, ◌≡◌, ap, ap₂, refl, sym}
use native.Mathlib.Omega.{arith}

-- ---- the definition's words
module _ (T : List ℕ) (c o m l : ℕ) where
  -- the header has the table's rows and columns, edition 2, and the circles
  headed : share_ok_lem m l ≡ true → (n# (build T c o 2 m l) ≡ rows_of T c) × (c# (build T c o 2 m l) ≡ c) × (edition# (build T c o 2 m l) ≡ 2)
      × (circles# (build T c o 2 m l) ≡ o)
  unfolding build encode
  headed h =
      let s = shared m l h in
      (positions (between T c o) m l (omega (arith, s.two)) s.leafy (rows_of T c), refl, refl, refl)

  -- and asks for just the words that there are
  just-words : length (build T c o 2 m l) ≡ words_of_lem (build T c o 2 m l)
  unfolding build encode
  just-words = encode-words c o m l (plant (between T c o) m l (rows_of T c))

-- ---- the call
module _ (T : List ℕ) (c o e m l : ℕ) (room work : List ℕ) where
  -- the index stands at the front of the room
  index-there : {room' work' : List ℕ} {number words nodes : ℕ} → Builds T c o e m l room work room' work' number words nodes → number ≡ 0
      → take words room' ≡ build T c o 2 m l
  index-there {number = number} b z =
      let q : eqb number 0 ≡ true = eq-eqb number 0 z in
      ap₂ take (rw q at b.counted.0) (rw q at b.index)
      ∙ take_at (build T c o 2 m l) (drop (length (build T c o 2 m l)) room) (length (build T c o 2 m l)) refl

  -- WHAT THE CALL WROTE IS ACCEPTED BY THE FULL CHECK
  pub build-accepted : {room' work' : List ℕ} {number words nodes : ℕ} → Builds T c o e m l room work room' work' number words nodes → number ≡ 0
      → Accepted (between T c o) (take words room')
  build-accepted b z = b.accepted z

  -- WHAT THE CALL WROTE IS THE TABLE'S INDEX: NO CALL REFUSES SUCH A TABLE, THE HEADER HAS ITS ROWS AND COLUMNS, ASKS FOR JUST THESE WORDS, IS
  -- EDITION 2 AND HAS THE CIRCLES, AND THE TABLE STANDS ON THEM
  pub build-headed : {room' work' : List ℕ} {number words nodes : ℕ} → Builds T c o e m l room work room' work' number words nodes → number ≡ 0
      → Sized (length T) c × (n# (take words room') ≡ rows_of T c) × (c# (take words room') ≡ c)
      × (length (take words room') ≡ words_of_lem (take words room')) × (edition# (take words room') ≡ 2) × (circles# (take words room') ≡ o)
      × (off_circle_lem c o T ≡ false)
  build-headed b z =
      let C = clear T c o e m l (length room) (length work) (sym b.said ∙ z) in
      let h = headed T c o m l C.share in
      rw (index-there b z) (C.table, h.0, h.1, just-words T c o m l, h.2, h.3, C.on)

  -- NO SECOND OUTCOME FITS
  pub build-only : (room₁ work₁ room₂ work₂ : List ℕ) (number₁ words₁ nodes₁ number₂ words₂ nodes₂ : ℕ)
      → Builds T c o e m l room work room₁ work₁ number₁ words₁ nodes₁ → Builds T c o e m l room work room₂ work₂ number₂ words₂ nodes₂
      → (number₁ ≡ number₂) × (words₁ ≡ words₂) × (nodes₁ ≡ nodes₂) × (room₁ ≡ room₂) × (work₁ ≡ work₂)
  build-only room₁ work₁ room₂ work₂ number₁ words₁ nodes₁ number₂ words₂ nodes₂ a b =
      let n : number₁ ≡ number₂ = a.said ∙ sym b.said in
      let B : List ℕ = build T c o 2 m l in
      let k : ℕ = 6 * rows_of T c in (
        n,
        a.counted.0 ∙ ap (λ (i : ℕ). cond (eqb i 0) (length B) 0) n ∙ sym b.counted.0,
        a.counted.1 ∙ ap (λ (i : ℕ). cond (eqb i 0) (nodes# B) 0) n ∙ sym b.counted.1,
        a.index ∙ ap (λ (i : ℕ). cond (eqb i 0) (B ++ drop (length B) room) room) n ∙ sym b.index,
        a.cleared ∙ ap (λ (i : ℕ). cond (eqb i 0) (replicate k 0 ++ drop k work) work) n ∙ sym b.cleared,
      )
