-- An index and its own words alone, without what is lent behind them: a check says the same of both. Assumes nothing.
use Prim.Native.Nat.{◌*◌, ◌<◌, ◌^◌, ℕ}
use Rattle.audit.specs.Calls.{Checks}
use Rattle.card.proofs.RoundTrip.{inner-own, own-alike, own_shape}
use Rattle.limits.specs.Said.{Said, fault, number_faults, said}
use Rattle.meaning.proofs.SameFaults.{faults-same}
use Rattle.measure.specs.Table.{between, rows_of}
use Rattle.audit_refusals.specs.Numbers.{check_asks, said_check}
use Rattle.tree.specs.Check.{faults}
use Rattle.words.proofs.Headers.{edition-two, good-words, words-whole}
use Rattle.words.proofs.InShape.{header_possible, in_shape, whole}
use Rattle.refusals.specs.Refused.{call_faults, circle_faults}
use Rattle.words.specs.Index.{fit_faults, index_faults}
use Rattle.words.specs.InShape.{InShape}
use Rattle.words.specs.Shape.{shape_ok_lem}
use Rattle.words.specs.Words.{at, c#, card_ok_lem, circles#, edition#, header_ok_lem, n#, words_of_lem, words_ok_lem}
use borrow.Author.Tests.{le-leb}
use lib.Dec.{eqb, lit<, ltb}
use lib.ListN.{length, take}
use lib.Seq.{get_or-take, length-take-le}
use mathlib.Core.Bool.{Bool, ◌&&◌, not, true}
use mathlib.Core.List.{List, [], ◌++◌}
use mathlib.Core.Path.{◌∙◌, ◌≡◌, ap, ap₂, sym}
use native.Mathlib.Omega.{arith}

-- ---- two lists of words with the same header
module _ (u w : List ℕ) (head : (j : ℕ) → j < 8 → at u j ≡ at w j) where
  -- one is possible on a card as the other is
  card-same : card_ok_lem u ≡ card_ok_lem w
  unfolding card_ok_lem
  card-same =
      rw (head 0 (lit< tt), head 1 (lit< tt), head 2 (lit< tt), head 3 (lit< tt), head 4 (lit< tt), head 5 (lit< tt), head 6 (lit< tt), head 7 (lit< tt))

  -- and asks for as many words
  total-same : words_of_lem u ≡ words_of_lem w
  total-same = rw (head 0 (lit< tt), head 1 (lit< tt), head 5 (lit< tt))

-- ---- an index in shape, of edition 2
module _ (w : List ℕ) (ok : words_ok_lem w ≡ true) (shape : shape_ok_lem w ≡ true) where
  -- its own words
  abbrev pub own : List ℕ
  own = take (words_of_lem w) w

  -- it is in shape
  S : InShape w
  S = in_shape w (words-whole w ok).1 shape

  -- its header's words are among them
  head-own : (j : ℕ) → j < 8 → at own j ≡ at w j
  head-own j h = get_or-take (words_of_lem w) w j 0 (omega arith)

  -- none of them is missing
  words-own : words_ok_lem own ≡ true
  words-own =
      let long : length own ≡ words_of_lem w = length-take-le (words_of_lem w) w S.whole.words in
      let two : edition# own ≡ 2 = head-own 0 (lit< tt) ∙ (words-whole w ok).0 in
      let card : card_ok_lem own ≡ true = card-same own w head-own ∙ header_possible w (words-whole w ok).1 in
      sym (good-words own (omega (arith, long)) (sym (edition-two own two) ∙ card))
      ∙ le-leb (words_of_lem own) (length own) (omega (arith, long, total-same own w head-own))

  -- neither 8 nor 9 tells them from the index
  index-own : (n c : ℕ) → index_faults own n c ≡ index_faults w n c
  unfolding fit_faults
  index-own n c =
      ap₂ (λ (a b : Bool). fault 8 (not a) ++ fault 9 (not b))
      (ap₂ (λ (a b : Bool). a && b) (ap₂ (λ (a : Bool) (k : ℕ). a && eqb k n) (words-own ∙ sym ok) (head-own 1 (lit< tt)))
      (ap (λ (k : ℕ). eqb k c) (head-own 2 (lit< tt))))
      (own_shape w ok shape ∙ sym shape)

  -- nor does a fault of the passes
  faults-own : (d : ℕ → ℕ → ℕ) → faults d own ≡ faults d w
  faults-own d = faults-same (own-alike w S.whole) S d (head-own 0 (lit< tt)) (inner-own w S.whole (words-whole w ok).0)

  -- so that the call says the same
  said-own : (T : List ℕ) (c work : ℕ) → said_check T c own work ≡ said_check T c w work
  unfolding said_check call_faults
  said-own T c work =
      ap₂ (λ (x y : List Said). said (number_faults (check_asks T c work) ++ x ++ y))
      (ap₂ (λ (x y : List Said). x ++ y) (index-own (rows_of T c) c) (ap (λ (o : ℕ). circle_faults c o T []) (head-own 7 (lit< tt))))
      (ap (λ (o : ℕ). faults (between T c o) own) (head-own 7 (lit< tt)) ∙ faults-own (between T c (circles# w)))

  -- CHECK-OWN: WHAT A CHECK GIVES OF ITS OWN WORDS IT GIVES OF THE INDEX, WHATEVER STANDS BEHIND IT
  pub check-own : {T : List ℕ} {c : ℕ} {work work' : List ℕ} {number place second : ℕ} → Checks T c own work work' number place second
      → Checks T c w work work' number place second
  check-own {T} {c} {work} k =
      let e = said-own T c (length work) in
      record {
        said = k.said ∙ ap (λ (s : Said). s.0) e;
        placed = (k.placed.0 ∙ ap (λ (s : Said). s.1) e, k.placed.1 ∙ ap (λ (s : Said). s.2) e);
        cleared = k.cleared;
      }
