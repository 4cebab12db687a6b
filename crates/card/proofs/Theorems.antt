-- The theorems on reading: no second outcome fits, when it is taken, and what is read of a card of either edition. Assumes nothing.
use Prim.Native.Nat.{◌*◌, ◌+◌, ◌<◌, ◌≤◌, ℕ}
use Rattle.card_widen.proofs.Writing.{widen-long}
use Rattle.card_words.proofs.Cards.{card-long}
use Rattle.card_words.specs.Cards.{Held, card_words_lem}
use Rattle.card.proofs.Filling.{total-same, total-wide}
use Rattle.card_refusals.proofs.Refusals.{Clear, clear, clear_none, clear_tabled, placeless}
use Rattle.card_refusals.specs.Tests.{read_total}
use Rattle.card.specs.Calls.{Reads, read_words}
use Rattle.laws.specs.Every.{Every}
use Rattle.limits.proofs.Numbers.{sized_columns}
use Rattle.limits.specs.Limits.{circles_ok_lem, max_rows, share_ok_lem}
use Rattle.limits.specs.Said.{Said}
use Rattle.measure.proofs.Metric.{query_point}
use Rattle.measure.specs.Space.{Point}
use Rattle.measure.specs.Table.{Round, Rounded, between, from, rows_of}
use Rattle.refusals.proofs.OffCircle.{circle-means}
use Rattle.tree.proofs.Widened.{widen-accepted, widen-columns, widen-edition, widen_in, widen-reads}
use Rattle.tree.proofs.WidenedBuild.{widen-build}
use Rattle.tree.specs.Build.{build}
use Rattle.tree.specs.Check.{Accepted}
use Rattle.tree.specs.Encode.{encode}
use Rattle.tree.specs.Grove.{tree_of}
use Rattle.tree.specs.Nearest.{answers}
use Rattle.tree.specs.Radius.{radius_how}
use Rattle.tree.specs.Widen.{widen}
use Rattle.words.specs.Words.{c#, circles#, edition#, n#}
use borrow.Author.Tests.{eq-eqb, eqb-false, eqb-true, ne_eqb}
use lib.Dec.{eqb}
use lib.ListN.{drop, get_or, length, take}
use lib.Seq.{take_at}
use mathlib.Core.Bool.{Bool, cond, false, true}
use mathlib.Core.List.{List, ◌++◌}
use mathlib.Core.Logic.{◌↔◌}
use mathlib.Core.Path.{◌∙◌, ◌≡◌, ap, ap₂, refl, subst, sym}
use native.Mathlib.Omega.{arith}

-- READ-ONLY: NO SECOND OUTCOME FITS
pub read_only : {T : List ℕ} {c : ℕ} {i before a a' : List ℕ} {n n' p p' k k' : ℕ} → Reads T c i before a n p k → Reads T c i before a' n' p' k'
    → (n ≡ n') × (p ≡ p') × (k ≡ k') × (a ≡ a')
read_only {T} {c} {i} {before} x y =
    let e = x.said ∙ sym y.said in (
      e,
      x.placed ∙ sym y.placed,
      x.counted ∙ ap (λ (k : ℕ). cond (eqb k 0) (read_total i) 0) e ∙ sym y.counted,
      x.lent ∙ ap (λ (k : ℕ). cond (eqb k 0) (read_words T c i ++ drop (read_total i) before) before) e ∙ sym y.lent,
    )

-- ---- the set of circles
-- a build's is the one that it was asked for
build-circles : (T : List ℕ) (c o e m l : ℕ) → circles# (build T c o e m l) ≡ o
unfolding build encode
build-circles T c o e m l = refl

-- and a widened index's is its own
wide_circles : (d : ℕ → ℕ → ℕ) (w : List ℕ) → circles# (widen d w) ≡ circles# w
unfolding widen
wide_circles d w = refl

-- ---- the index that reading gives, by the card's edition
module _ (T : List ℕ) (c : ℕ) (i : List ℕ) where
  -- the distance between the table's rows
  abbrev d : ℕ → ℕ → ℕ
  d = between T c (circles# (card_words_lem i))

  -- what holds of the widened words of an edition 1 card, and of any other card's own, holds of what is read
  by-edition : (P : List ℕ → Type 0) → (edition# (card_words_lem i) ≡ 1 → P (widen d (card_words_lem i)))
      → ((edition# (card_words_lem i) ≡ 1 → ⊥) → P (card_words_lem i)) → P (read_words T c i)
  unfolding read_words
  by-edition P old new = go (eqb (edition# (card_words_lem i)) 1) refl
    where
      go : (b : Bool) → eqb (edition# (card_words_lem i)) 1 ≡ b → P (cond b (widen d (card_words_lem i)) (card_words_lem i))
      go true q = old (eqb-true (edition# (card_words_lem i)) 1 q)
      go false q = new (eqb-false (edition# (card_words_lem i)) 1 q)

  -- it is the widened words of an edition 1 card
  read-old : edition# (card_words_lem i) ≡ 1 → read_words T c i ≡ widen d (card_words_lem i)
  read-old e = by-edition (λ v. v ≡ widen d (card_words_lem i)) (λ _. refl) (λ h. absurd (h e))

  -- and any other card's own
  pub read-own : (edition# (card_words_lem i) ≡ 1 → ⊥) → read_words T c i ≡ card_words_lem i
  read-own h = by-edition (λ v. v ≡ card_words_lem i) (λ e. absurd (h e)) (λ _. refl)

  -- READ-TOTAL: IT HAS AS MANY WORDS AS ARE COUNTED, where the card's words are whole
  pub read-total : Held i → length (read_words T c i) ≡ read_total i
  read-total H =
      by-edition (λ v. length v ≡ read_total i) (λ e. widen-long d (card_words_lem i) ∙ sym (total-wide i))
      (λ h. card-long i ∙ sym (total-same i H h))

  -- it is edition 2, and over the card's rows and columns, of which the same are circles
  headed : Held i
      → (edition# (read_words T c i) ≡ 2) × (n# (read_words T c i) ≡ n# (card_words_lem i)) × (c# (read_words T c i) ≡ c# (card_words_lem i))
      × (circles# (read_words T c i) ≡ circles# (card_words_lem i))
  headed H =
      let w : List ℕ = card_words_lem i in
      by-edition (λ v. (edition# v ≡ 2) × (n# v ≡ n# w) × (c# v ≡ c# w) × (circles# v ≡ circles# w))
      (λ e. (widen-edition d w, (widen-reads d w).rows, widen-columns d w, wide_circles d w))
      (λ h. (omega (arith, H.whole.edition.0, H.whole.edition.1, h), refl, refl, refl))

  -- it is accepted where the card's index is
  accepted : Accepted d (card_words_lem i) → Accepted d (read_words T c i)
  accepted A = by-edition (Accepted d) (λ e. widen-accepted d (card_words_lem i) A) (λ h. A)

  -- a radius search marks the same rows in
  marked-in : Accepted d (card_words_lem i) → (q : List ℕ) → Point d (from T c (circles# (card_words_lem i)) q) → (r : ℕ) (gone : ℕ → Bool) (j : ℕ) → j < n# (card_words_lem i)
      → (2 ≤ get_or (radius_how (from T c (circles# (card_words_lem i)) q) r gone (n# (card_words_lem i)) (tree_of (read_words T c i))) j 0)
      ↔ (2 ≤ get_or (radius_how (from T c (circles# (card_words_lem i)) q) r gone (n# (card_words_lem i)) (tree_of (card_words_lem i))) j 0)
  marked-in A q P r gone j h =
      let x : ℕ → ℕ = from T c (circles# (card_words_lem i)) q in
      let w : List ℕ = card_words_lem i in
      by-edition (λ v. (2 ≤ get_or (radius_how x r gone (n# w) (tree_of v)) j 0) ↔ (2 ≤ get_or (radius_how x r gone (n# w) (tree_of w)) j 0))
      (λ e. widen_in d w x P A r gone j h) (λ n. ((λ a. a), (λ a. a)))

-- ---- an outcome of the call
module _ {T : List ℕ} {c : ℕ} {i before after : List ℕ} {number place words : ℕ} (R : Reads T c i before after number place words) where
  -- READ-TAKEN: WHERE TABLE, IMAGE AND ROOM ARE RIGHT AND THE CARD IS THE TABLE'S AND IN SHAPE, 0 IS GIVEN
  pub read_taken : Clear T c i (length before) → number ≡ 0
  read_taken C = R.said ∙ ap (λ (t : Said). t.0) (sym (clear_none T c i (length before) C))

  -- READ-REFUSED: ANY OTHER NUMBER LEAVES THE ROOM AS IT WAS, AND NO WORD IS COUNTED
  pub read_refused : (number ≡ 0 → ⊥) → (words ≡ 0) × (after ≡ before)
  read_refused h = (rw (ne_eqb number 0 h) at R.counted, rw (ne_eqb number 0 h) at R.lent)

  -- READ-PLACED: NO NUMBER BUT 15 NAMES A BLOCK
  pub read-placed : (number ≡ 15 → ⊥) → place ≡ 0
  read-placed h = R.placed ∙ placeless T c i (length before) (λ z. h (R.said ∙ z))

  -- ---- nothing was refused
  module _ (z : number ≡ 0) where
    -- READ-CLEAR: ONLY THERE
    pub read-clear : Clear T c i (length before)
    read-clear = clear T c i (length before) (sym R.said ∙ z)

    -- the card's words are whole
    whole-card : Held i
    whole-card = (clear_tabled T c i (length before) read-clear).held

    -- the words are counted
    pub read_count : words ≡ read_total i
    read_count = R.counted ∙ ap (λ (b : Bool). cond b (read_total i) 0) (eq-eqb number 0 z)

    -- THE INDEX STANDS AT THE FRONT OF THE ROOM, AND THE REST IS AS IT WAS
    pub read-room : after ≡ read_words T c i ++ drop (read_total i) before
    read-room = R.lent ∙ ap (λ (b : Bool). cond b (read_words T c i ++ drop (read_total i) before) before) (eq-eqb number 0 z)

    -- so what was read is it
    pub read-there : take words after ≡ read_words T c i
    read-there = ap₂ take read_count read-room ∙ take_at (read_words T c i) (drop (read_total i) before) (read_total i) (read-total T c i whole-card)

    -- READ-WIDE: OF AN EDITION 1 CARD IT IS THE WIDENED INDEX
    pub read_wide : edition# (card_words_lem i) ≡ 1 → take words after ≡ widen (between T c (circles# (card_words_lem i))) (card_words_lem i)
    read_wide e = read-there ∙ read-old T c i e

    -- READ-SAME: OF ANY OTHER ITS OWN
    pub read_same : (edition# (card_words_lem i) ≡ 1 → ⊥) → take words after ≡ card_words_lem i
    read_same h = read-there ∙ read-own T c i h

    -- READ-HEADED: IT IS EDITION 2, HAS THE TABLE'S ROWS AND COLUMNS, AND THE CARD'S CIRCLES
    pub read-headed : (edition# (take words after) ≡ 2) × (n# (take words after) ≡ rows_of T c) × (c# (take words after) ≡ c)
        × (circles# (take words after) ≡ circles# (card_words_lem i))
    read-headed =
        let h = headed T c i whole-card in (
          ap edition# read-there ∙ h.0,
          ap n# read-there ∙ h.1 ∙ read-clear.rows,
          ap c# read-there ∙ h.2 ∙ read-clear.columns,
          ap circles# read-there ∙ h.3,
        )

    -- READ-ACCEPTED: IT IS ACCEPTED BY THE FULL CHECK WHERE THE CARD'S INDEX IS
    pub read-accepted : Accepted (between T c (circles# (card_words_lem i))) (card_words_lem i)
        → Accepted (between T c (circles# (take words after))) (take words after)
    read-accepted A =
        subst (Accepted (between T c (circles# (take words after)))) (sym read-there)
        (subst (λ (o : ℕ). Accepted (between T c o) (read_words T c i)) (sym read-headed.3) (accepted T c i A))

    -- the table's rows stand on the card's circles
    rounded : Rounded T c (circles# (card_words_lem i))
    rounded = (circle-means T c (circles# (card_words_lem i)) read-clear.table.whole).0 read-clear.circled

    -- READ-BUILD: OF A CARD WITH A BUILD IN EDITION 1 IT IS THE BUILD IN EDITION 2, over a table of 16-bit numbers
    pub read-build : (o m l : ℕ) → edition# (card_words_lem i) ≡ 1 → card_words_lem i ≡ build T c o 1 m l → circles_ok_lem c o ≡ true → share_ok_lem m l ≡ true
        → Every (λ v. v ≤ 65535) T → take words after ≡ build T c o 2 m l
    read-build o m l old e fits s small =
        let S = read-clear.table in
        let same : circles# (card_words_lem i) ≡ o = ap circles# e ∙ build-circles T c o 1 m l in
        read_wide old ∙ ap₂ (λ (o : ℕ) (w : List ℕ). widen (between T c o) w) same e
        ∙ widen-build T c o m l (sized_columns (length T) c S) fits s S.rows small (subst (Rounded T c) same rounded)

    -- READ-ANSWERS: THE SEARCHES ANSWER ON IT AS ON THE CARD'S INDEX, whatever rows are withdrawn. The nearest rows with their distances are the same, and so are, for a query
    -- that stands on the circle, the rows that a radius search has in; both are exact on an accepted index
    pub read-answers : Accepted (between T c (circles# (card_words_lem i))) (card_words_lem i) → (q : List ℕ)
        → ((gone : ℕ → Bool) (k : ℕ) → answers (from T c (circles# (take words after)) q) gone (n# (take words after)) k
        ≡ answers (from T c (circles# (card_words_lem i)) q) gone (n# (card_words_lem i)) k)
        × (Round c (circles# (card_words_lem i)) q → (r : ℕ) (gone : ℕ → Bool) (j : ℕ) → j < n# (card_words_lem i)
        → (2 ≤ get_or (radius_how (from T c (circles# (take words after)) q) r gone (n# (take words after)) (tree_of (take words after))) j 0)
        ↔ (2 ≤ get_or (radius_how (from T c (circles# (card_words_lem i)) q) r gone (n# (card_words_lem i)) (tree_of (card_words_lem i))) j 0))
    read-answers A q =
        let o : ℕ = circles# (card_words_lem i) in
        let e : n# (take words after) ≡ n# (card_words_lem i) = ap n# read-there ∙ (headed T c i whole-card).1 in (
          λ gone k. ap₂ (λ (o n : ℕ). answers (from T c o q) gone n k) read-headed.3 e,
          λ on r gone j h. rw (read-headed.3, e, ap tree_of read-there) (marked-in T c i A q (query_point T c o q rounded on) r gone j h),
        )

  -- READ-SMALL: SO FEW WORDS ARE COUNTED THAT 32 BITS HOLD THEIR NUMBER
  pub read_small : words ≤ 12 * max_rows + 8
  read_small = go (eqb number 0) refl
    where
      go : (b : Bool) → eqb number 0 ≡ b → words ≤ 12 * max_rows + 8
      go false e = omega (arith, (read_refused (eqb-false number 0 e)).0)
      go true e =
          let z = eqb-true number 0 e in
          let W = (whole-card z).whole in
          omega (arith, read_count z, total-wide i, W.nodes, W.rows)
