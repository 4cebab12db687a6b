-- What is wrong with an image: one law for each return of the code. Assumes nothing.
use Prim.Native.Nat.{◌%◌, ◌/◌, ◌≤◌, ℕ}
use Rattle.blocks.specs.Blocks.{blocks_for_lem, image_words}
use Rattle.blocks.specs.Lowest.{wrong_blocks}
use Rattle.image.specs.Image.{image_faults, image_total}
use Rattle.image.specs.Sound.{Sound, held_faults, rest_zero_lem}
use Rattle.laws.proofs.Every.{every-all, every_append, every_map}
use Rattle.laws.proofs.Tests.{or_l, or_none, or_r}
use Rattle.laws.specs.Lists.{rest}
use Rattle.limits.proofs.Faults.{Numbered, fault-first, fault-next, fault-numbered, number_of}
use Rattle.limits.specs.Said.{Said, fault, said}
use Rattle.words.specs.Words.{card_ok_lem}
use borrow.Author.Tests.{eq-eqb, ne_eqb}
use lib.Dec.{eqb}
use lib.ListN.{length}
use mathlib.Core.Bool.{Bool, ◌||◌, cond, false, not, true}
use mathlib.Core.List.{List, [], ◌++◌, ◌∷◌, append_assoc, map}
use mathlib.Core.Path.{◌∙◌, ◌≡◌, ap, ap₂, refl, subst, sym}
use native.Mathlib.Omega.{arith}

-- the fault of block b
abbrev named : ℕ → Said
named b = (15, b, 0)

module _ (i : List ℕ) where
  -- ---- 16 and 17: what the blocks hold
  -- the header's test
  abbrev header : Bool
  header = card_ok_lem (image_words i 8)

  -- the block count's
  abbrev counted : Bool
  counted = eqb (length i / 512) (blocks_for_lem (image_total i))

  -- and that of the words after the last
  abbrev zeros : Bool
  zeros = rest_zero_lem i (image_total i)

  -- one of the first two fails
  sixteen : (not header || not counted) ≡ true → said (held_faults i) ≡ (16, 0, 0)
  sixteen e = sym (fault-first 16 (fault 17 (not zeros)) e)

  -- the header is impossible
  pub sixteen-header : header ≡ false → said (held_faults i) ≡ (16, 0, 0)
  sixteen-header e = sixteen (or_l (not header) (not counted) (ap not e))

  -- the block count is not the header's
  pub sixteen-count : (length i / 512 ≡ blocks_for_lem (image_total i) → ⊥) → said (held_faults i) ≡ (16, 0, 0)
  sixteen-count h = sixteen (or_r (not header) (not counted) (ap not (ne_eqb (length i / 512) (blocks_for_lem (image_total i)) h)))

  module _ (e : header ≡ true) (k : length i / 512 ≡ blocks_for_lem (image_total i)) where
    -- past 16 the words after the last decide
    by-rest : {z : Bool} → zeros ≡ z → held_faults i ≡ fault 17 (not z)
    by-rest q =
        ap₂ (λ b z. fault 16 b ++ fault 17 (not z))
        (or_none (not header) (not counted) (ap not e) (ap not (eq-eqb (length i / 512) (blocks_for_lem (image_total i)) k))) q

    -- one of them is not zero
    pub seventeen : zeros ≡ false → said (held_faults i) ≡ (17, 0, 0)
    seventeen q = ap said (by-rest q)

    -- nothing is wrong
    pub none-held : zeros ≡ true → held_faults i ≡ []
    none-held q = by-rest q

  -- ---- 14 and 15: the length and the check words
  abbrev ragged : Bool
  ragged = eqb (length i) 0 || not (eqb (length i % 512) 0)

  -- the blocks whose check word is wrong
  abbrev wrongs : List ℕ
  wrongs = wrong_blocks i 0 (length i / 512)

  -- the faults after the length
  abbrev next : List Said
  next = map named wrongs ++ held_faults i

  -- one after the other they are all faults
  in_turn_lem : fault 14 ragged ++ next ≡ image_faults i
  unfolding image_faults
  in_turn_lem =
      let bad = map named wrongs in
      sym (append_assoc (fault 14 ragged ++ bad) (fault 16 (not header || not counted)) (fault 17 (not zeros)) ∙ append_assoc (fault 14 ragged) bad (held_faults i))

  -- the image is empty, or its length no multiple of 512
  fourteen : ragged ≡ true → said (image_faults i) ≡ (14, 0, 0)
  fourteen e = sym (fault-first 14 next e ∙ ap said in_turn_lem)

  -- the image is empty
  pub fourteen-empty : length i ≡ 0 → said (image_faults i) ≡ (14, 0, 0)
  fourteen-empty e = fourteen (or_l (eqb (length i) 0) (not (eqb (length i % 512) 0)) (eq-eqb (length i) 0 e))

  -- its length is no multiple of 512
  pub fourteen-ragged : (length i % 512 ≡ 0 → ⊥) → said (image_faults i) ≡ (14, 0, 0)
  fourteen-ragged h = fourteen (or_r (eqb (length i) 0) (not (eqb (length i % 512) 0)) (ap not (ne_eqb (length i % 512) 0 h)))

  module _ (some : length i ≡ 0 → ⊥) (whole : length i % 512 ≡ 0) where
    -- the length is right
    even : ragged ≡ false
    even = or_none (eqb (length i) 0) (not (eqb (length i % 512) 0)) (ne_eqb (length i) 0 some) (ap not (eq-eqb (length i % 512) 0 whole))

    -- a check word is wrong: the lowest block's
    pub fifteen : (b : ℕ) → wrongs ≡ b ∷ rest wrongs → said (image_faults i) ≡ (15, b, 0)
    fifteen b e = sym (fault-next 14 next even ∙ ap said in_turn_lem) ∙ ap (λ bs. said (map named bs ++ held_faults i)) e

    -- no check word is: what the blocks hold decides
    pub by-held : wrongs ≡ [] → image_faults i ≡ held_faults i
    by-held e = sym in_turn_lem ∙ ap₂ (λ t bs. fault 14 t ++ (map named bs ++ held_faults i)) even e

  -- ---- their numbers
  -- no wrong block's fault has the number 0
  blocks-numbered : Numbered (map named wrongs)
  blocks-numbered = every_map (λ f. 1 ≤ f.0) named wrongs (every-all (λ b. 1 ≤ 15) (λ b. omega arith) wrongs)

  -- no fault of an image has the number 0
  pub faults_numbered : Numbered (image_faults i)
  faults_numbered =
      let P : Said → Type 0 = λ f. 1 ≤ f.0 in
      subst Numbered in_turn_lem
      (every_append P (fault 14 ragged) next (fault-numbered 14 ragged (omega arith))
      (every_append P (map named wrongs) (held_faults i) blocks-numbered
      (every_append P (fault 16 (not header || not counted)) (fault 17 (not zeros))
      (fault-numbered 16 (not header || not counted) (omega arith)) (fault-numbered 17 (not zeros) (omega arith)))))

-- no fault but 15 has a place
pub faults_placed : (i : List ℕ) → ((said (image_faults i)).0 ≡ 15 → ⊥) → (said (image_faults i)).1 ≡ 0
unfolding image_faults
faults_placed i h =
    go (ragged i) (wrongs i) (not (header i) || not (counted i)) (not (zeros i)) h
  where
    -- by the tests and the wrong blocks
    go : (a : Bool) (bs : List ℕ) (k z : Bool) → ((said (fault 14 a ++ map named bs ++ fault 16 k ++ fault 17 z)).0 ≡ 15 → ⊥)
        → (said (fault 14 a ++ map named bs ++ fault 16 k ++ fault 17 z)).1 ≡ 0
    go true bs k z h = refl
    go false (b ∷ bs) k z h = absurd (h refl)
    go false [] true z h = refl
    go false [] false true h = refl
    go false [] false false h = refl

-- ---- the ends, as what the code promises
module _ (i : List ℕ) (fs : List Said) where
  -- a refusal, with the place that 15 names
  pub sound-refused : (n p : ℕ) → (n ≡ 0 → ⊥) → said fs ≡ (n, p, 0) → Sound i fs n p 0
  sound-refused n p h e =
      record {
        found = sym (ap number_of e);
        placed = sym (ap (λ (t : Said). t.1) e);
        counted = sym (ap (λ t. cond t (image_total i) 0) (ne_eqb n 0 h));
      }

  -- none
  pub sound-found : (words : ℕ) → said fs ≡ (0, 0, 0) → words ≡ image_total i → Sound i fs 0 0 words
  sound-found words e d = record { found = sym (ap number_of e); placed = sym (ap (λ (t : Said). t.1) e); counted = d }
