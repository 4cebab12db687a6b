-- What is written is read back over its table, word for word. Assumes nothing.
use Prim.Native.Nat.{◌*◌, ◌+◌, ◌<◌, ◌^◌, ◌≤◌, ℕ}
use Rattle.card_words.specs.Cards.{card_words_lem}
use Rattle.card.proofs.Filling.{total-wide}
use Rattle.card_refusals.proofs.Refusals.{Clear}
use Rattle.card.proofs.Theorems.{read_count, read-own, read-room, read_taken}
use Rattle.card_refusals.specs.Tests.{read_total}
use Rattle.card.specs.Calls.{Reads}
use Rattle.image.proofs.RoundTrip.{image-sound, image-words, written-image, written_ok}
use Rattle.image.specs.Below.{Below}
use Rattle.image.specs.Calls.{Writes}
use Rattle.image.specs.Image.{image}
use Rattle.limits.proofs.Numbers.{Sized}
use Rattle.limits.specs.Said.{said}
use Rattle.measure.specs.Table.{off_circle_lem, rows_of}
use Rattle.tree.proofs.Alike.{Alike, shape-alike}
use Rattle.words.proofs.Headers.{words-whole}
use Rattle.words.proofs.InShape.{in_shape, whole}
use Rattle.words.proofs.Strides.{stride}
use Rattle.words.specs.InShape.{Whole}
use Rattle.words.specs.Shape.{shape_ok_lem}
use Rattle.words.specs.Words.{nodes#, at, c#, circles#, edition#, inner#, kept, n#, node_at_lem, pair_at, width, words_of_lem, words_ok_lem}
use lib.ListN.{drop, length, take}
use lib.Seq.{get_or-take}
use mathlib.Core.Bool.{false, true}
use mathlib.Core.List.{List, ◌++◌}
use mathlib.Core.Path.{◌∙◌, ◌≡◌, ap, ap₂, subst, sym}
use native.Mathlib.Nat.{add-zero}
use native.Mathlib.Omega.{arith}

-- ---- an index at the front of w, and its own words alone
module _ (w : List ℕ) (W : Whole w) where
  -- its own words
  abbrev pub own : List ℕ
  own = take (words_of_lem w) w

  -- each is the same
  word-own : (j : ℕ) → j < words_of_lem w → at own j ≡ at w j
  word-own j h = get_or-take (words_of_lem w) w j 0 h

  -- word j of node k, one of the first `width`
  node-own : (k j : ℕ) → k < nodes# w → j < width (edition# w) → at own (node_at_lem own k + j) ≡ at w (node_at_lem w k + j)
  node-own k j h q =
      ap (λ (e : ℕ). at own (8 + width e * k + j)) (word-own 0 (omega arith))
      ∙ word-own (node_at_lem w k + j) (omega (arith, stride (width (edition# w)) k (nodes# w) h))

  -- word j of position p, one of two
  pair-own : (p j : ℕ) → p < n# w → j < 2 → at own (pair_at own p + j) ≡ at w (pair_at w p + j)
  pair-own p j h q =
      ap₂ (λ (e N : ℕ). at own (8 + width e * N + 2 * p + j)) (word-own 0 (omega arith)) (word-own 5 (omega arith))
      ∙ word-own (pair_at w p + j) (omega arith)

  -- THEY READ AS w DOES
  pub own-alike : Alike w own
  own-alike =
      record {
        rows = word-own 1 (omega arith);
        fan = word-own 3 (omega arith);
        leaf = word-own 4 (omega arith);
        nodes = word-own 5 (omega arith);
        start = λ k h. rw (add-zero (node_at_lem own k), add-zero (node_at_lem w k)) at (node-own k 0 h (omega arith));
        count = λ k h. node-own k 1 h (omega arith);
        child = λ k h. node-own k 2 h (omega arith);
        radius = λ k h. node-own k 3 h (omega (arith, W.edition.0));
        row = λ p h. rw (add-zero (pair_at own p), add-zero (pair_at w p)) at (pair-own p 0 h (omega arith));
        dist = λ p h. pair-own p 1 h (omega arith);
      }

  -- their inner reaches are the same in edition 2
  pub inner-own : edition# w ≡ 2 → (k : ℕ) → k < nodes# w → inner# own k ≡ inner# w k
  inner-own e k h = ap₂ kept (word-own 0 (omega arith)) (node-own k 4 h (omega arith))

-- the shape of an edition 2 index is its own words'
pub own_shape : (w : List ℕ) → words_ok_lem w ≡ true → shape_ok_lem w ≡ true → shape_ok_lem (take (words_of_lem w) w) ≡ true
own_shape w ok s =
    let t = words-whole w ok in
    let S = in_shape w t.1 s in
    shape-alike (own-alike w S.whole) S s (λ k h. omega (arith, inner-own w S.whole t.0 k h, (S.node k h).nearer))

-- ---- the image of an index
module _ (w : List ℕ) (ok : words_ok_lem w ≡ true) (small : Below (2 ^ 32) w) where
  -- the card holds the index's own words
  card-own : card_words_lem (image w) ≡ take (words_of_lem w) w
  unfolding card_words_lem
  card-own = image-words w ok small

  -- its header is the index's
  head-own : (j : ℕ) → j < 8 → at (card_words_lem (image w)) j ≡ at w j
  head-own j h = ap (λ l. at l j) card-own ∙ word-own w (whole w (words-whole w ok).1) j (omega arith)

  -- as many words are read as it has
  total-own : read_total (image w) ≡ words_of_lem w
  total-own =
      total-wide (image w) ∙ ap₂ (λ (N n : ℕ). 8 + 5 * N + 2 * n) (head-own 5 (omega arith)) (head-own 1 (omega arith))
      ∙ ap (λ (e : ℕ). 8 + width e * nodes# w + 2 * n# w) (sym (words-whole w ok).0)

-- THE ROUND TRIP: AN INDEX IN SHAPE THAT WAS WRITTEN IS READ BACK OVER A TABLE OF ITS ROWS AND COLUMNS THAT STANDS ON ITS CIRCLES, AS THE SAME
-- WORDS, WHERE THE ROOM IS LONG ENOUGH
pub round_trip : {T : List ℕ} {c : ℕ} {w before after room room' : List ℕ} {blocks number place words : ℕ} → Sized (length T) c
    → n# w ≡ rows_of T c → c# w ≡ c → shape_ok_lem w ≡ true → off_circle_lem c (circles# w) T ≡ false → Below (2 ^ 32) w → Writes w before after 0 blocks
    → words_of_lem w ≤ length room → Reads T c (take (512 * blocks) after) room room' number place words
    → (number ≡ 0) × (words ≡ words_of_lem w) × (room' ≡ take (words_of_lem w) w ++ drop (words_of_lem w) room)
round_trip {T} {c} {w} {before} {after} {room} {room'} {blocks} {number} {place} {words} fine rows columns shape circled small x enough y =
    let ok = written_ok w (length before) (sym x.said) in
    let r = subst (λ (l : List ℕ). Reads T c l room room' number place words) (written-image small x) y in
    let own = card-own w ok small in
    let total = total-own w ok small in
    let C : Clear T c (image w) (length room) =
    record {
      table = fine;
      image = ap (λ fs. (said fs).0) (image-sound w ok small);
      rows = head-own w ok small 1 (omega arith) ∙ rows;
      columns = head-own w ok small 2 (omega arith) ∙ columns;
      shape = ap shape_ok_lem own ∙ own_shape w ok shape;
      circled = rw (head-own w ok small 7 (omega arith)) circled;
      space = omega (arith, total);
    } in
    let z = read_taken r C in
    let new = read-own T c (image w) (λ e. omega (arith, e, head-own w ok small 0 (omega arith), (words-whole w ok).0)) in
    (z, read_count r z ∙ total, read-room r z ∙ ap₂ (λ (l : List ℕ) (n : ℕ). l ++ drop n room) (new ∙ own) total)
