-- The header test: what a bad part of it says, and what the good ones do. Assumes nothing.
use Prim.Native.Nat.{◌*◌, ◌<◌, ◌≤◌, ℕ}
use Rattle.laws.proofs.Tests.{and_l, and_r, holds, is_true}
use Rattle.limits.proofs.Ranges.{within_both}
use Rattle.limits.specs.Limits.{circles_ok_lem, columns_ok_lem, edition_ok_lem, max_rows, share_ok_lem}
use Rattle.words.specs.Words.{nodes#, c#, card_ok_lem, circles#, edition#, header_ok_lem, kind#, l#, m#, n#, nodes_ok_lem, whole_ok, width, words_of_lem, words_ok_lem}
use borrow.Author.Tests.{eq-eqb, le-leb, lt-leb}
use lib.Dec.{T, eqb, eqb→eq, leb}
use lib.ListN.{length}
use mathlib.Core.Bool.{Bool, ◌&&◌, and-false, false, true}
use mathlib.Core.List.{List}
use mathlib.Core.Path.{◌∙◌, ◌≡◌, ap₂, refl, subst, sym}
use native.Mathlib.Nat.{mul-le-mul_right}
use native.Mathlib.Omega.{arith}

-- ---- the header
module _ (w : List ℕ) where
  -- the edition is neither 1 nor 2
  pub bad-edition : edition_ok_lem (edition# w) ≡ false → false ≡ card_ok_lem w
  unfolding card_ok_lem
  bad-edition e = simp e

  -- all these are right: the circles decide
  pub good-header : edition_ok_lem (edition# w) ≡ true → n# w ≤ max_rows → columns_ok_lem (c# w) ≡ true → share_ok_lem (m# w) (l# w) ≡ true → nodes_ok_lem (n# w) (nodes# w) ≡ true
      → kind# w ≡ 1 → circles_ok_lem (c# w) (circles# w) ≡ card_ok_lem w
  unfolding card_ok_lem
  good-header e h c s k d = simp (e, le-leb (n# w) max_rows h, c, s, k, eq-eqb (kind# w) 1 d)

  -- the edition of a possible header
  pub edition-is : card_ok_lem w ≡ true → (1 ≤ edition# w) × (edition# w ≤ 2)
  edition-is h = go (edition_ok_lem (edition# w)) refl
    where
      go : (b : Bool) → edition_ok_lem (edition# w) ≡ b → (1 ≤ edition# w) × (edition# w ≤ 2)
      go true e = within_both 1 2 (edition# w) e
      go false e = absurd (subst T (sym (bad-edition e ∙ h)) tt)

  -- the nodes' words, by numbers that are equal to the header's
  pub nodes-words : {a b : ℕ} → card_ok_lem w ≡ true → a ≡ width (edition# w) → b ≡ nodes# w → (a * b ≡ width (edition# w) * nodes# w) × (a * b ≤ 5 * b)
  nodes-words {a} {b} h p q = (ap₂ (λ (x y : ℕ). x * y) p q, mul-le-mul_right b (omega (arith, p, (edition-is h).1)))

  -- ---- in memory the edition is 2
  -- with 2 it is possible where it is on a card
  pub edition-two : edition# w ≡ 2 → card_ok_lem w ≡ header_ok_lem w
  unfolding header_ok_lem
  edition-two e = rw (eq-eqb (edition# w) 2 e)

  -- what a possible header says of the edition, and that a card may have it
  pub header-card : header_ok_lem w ≡ true → (edition# w ≡ 2) × (card_ok_lem w ≡ true)
  unfolding header_ok_lem
  header-card e =
      let t = holds (eqb (edition# w) 2 && card_ok_lem w) e in
      (eqb→eq (edition# w) 2 (and_l (eqb (edition# w) 2) (card_ok_lem w) t), is_true (card_ok_lem w) (and_r (eqb (edition# w) 2) (card_ok_lem w) t))

  -- ---- the words
  -- there are fewer than 8
  pub few_words : length w < 8 → false ≡ words_ok_lem w
  unfolding words_ok_lem
  few_words h = simp (lt-leb 8 (length w) h)

  -- the header is impossible
  pub bad-header : header_ok_lem w ≡ false → false ≡ words_ok_lem w
  unfolding words_ok_lem
  bad-header e = simp (e, and-false)

  -- it is possible: how many words there are decides
  pub good-words : 8 ≤ length w → header_ok_lem w ≡ true → leb (words_of_lem w) (length w) ≡ words_ok_lem w
  unfolding words_ok_lem
  good-words h e = simp (le-leb 8 (length w) h, e)

  -- words with a header that a card may have: how many there are decides
  pub good-whole : 8 ≤ length w → card_ok_lem w ≡ true → leb (words_of_lem w) (length w) ≡ whole_ok w
  unfolding whole_ok
  good-whole h e = simp (le-leb 8 (length w) h, e)

  -- words that a call takes are edition 2, and whole
  pub words-whole : words_ok_lem w ≡ true → (edition# w ≡ 2) × (whole_ok w ≡ true)
  unfolding words_ok_lem whole_ok
  words-whole e =
      let a = leb 8 (length w) in
      let b = leb (words_of_lem w) (length w) in
      let t = holds (a && header_ok_lem w && b) e in
      let u = and_l (a && header_ok_lem w) b t in
      let h = header-card (is_true (header_ok_lem w) (and_r a (header_ok_lem w) u)) in
      (h.0, rw (is_true a (and_l a (header_ok_lem w) u), h.1, is_true b (and_r (a && header_ok_lem w) b t)))

  -- and the other way round
  pub whole_words : edition# w ≡ 2 → whole_ok w ≡ true → words_ok_lem w ≡ true
  unfolding words_ok_lem whole_ok
  whole_words e f = rw (← edition-two e) f
