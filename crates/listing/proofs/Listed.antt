-- Listing a node: the part is there, it is empty exactly where document 01 says so, and no second part fits. Assumes nothing.
use Prim.Native.Nat.{◌*◌, ◌+◌, ◌<◌, ◌≤◌, ℕ}
use Rattle.laws.proofs.Tests.{and_l, and_r, holds, is_true}
use Rattle.limits.specs.Limits.{max_rows}
use Rattle.listing.specs.Calls.{Lists, Unlisted, beyond, impossible, listed, lists, long_of, missing, pairs, start_of, wrong}
use Rattle.listing.specs.declared.Part.{Part}
use Rattle.std.specs.Prelude.{Option, None, Some, is_some}
use Rattle.laws.proofs.Never.{never}
use Rattle.words.proofs.Headers.{words-whole}
use Rattle.words.proofs.InShape.{in_shape}
use Rattle.words.proofs.Strides.{words-few}
use Rattle.words.specs.InShape.{InShape}
use Rattle.words.specs.Shape.{shape_ok_lem}
use Rattle.words.specs.Words.{nodes#, count#, header_ok_lem, pair_at, start#, words_of_lem, words_ok_lem}
use borrow.Author.Tests.{le-ltb, leb-false, lt-leb, lt-ltb, ltb-false, ltb-true}
use lib.Dec.{T, leb, ltb}
use lib.ListN.{length, length-drop, length-take}
use mathlib.Core.Bool.{Bool, ◌&&◌, and-false, cond, false, true}
use mathlib.Core.List.{List, []}
use mathlib.Core.Logic.{◌↔◌}
use mathlib.Core.Path.{◌∙◌, ◌≡◌, ap, refl, subst, sym}
use native.Mathlib.Omega.{arith}

module _ (w : List ℕ) (k : ℕ) where
  -- ---- the test
  -- words are missing, or the header is impossible
  pub no_words : words_ok_lem w ≡ false → lists w k ≡ false
  unfolding lists
  no_words e = rw e

  -- the shape is wrong
  pub no-shape : shape_ok_lem w ≡ false → lists w k ≡ false
  unfolding lists
  no-shape e = rw (e, and-false (words_ok_lem w))

  -- k is no node's number
  pub no_node : nodes# w ≤ k → lists w k ≡ false
  unfolding lists
  no_node h = rw (le-ltb k (nodes# w) h, and-false (words_ok_lem w && shape_ok_lem w))

  -- none of these
  pub all_right : words_ok_lem w ≡ true → shape_ok_lem w ≡ true → k < nodes# w → lists w k ≡ true
  unfolding lists
  all_right e s h = rw (e, s, lt-ltb k (nodes# w) h)

  -- where it passes the index is in shape and has a node k
  pub node-there : lists w k ≡ true → InShape w × (k < nodes# w)
  unfolding lists
  node-there e =
      let t : T (words_ok_lem w && shape_ok_lem w && ltb k (nodes# w)) = holds (lists w k) e in
      let u = and_l (words_ok_lem w && shape_ok_lem w) (ltb k (nodes# w)) t in (
        in_shape w (words-whole w (is_true (words_ok_lem w) (and_l (words_ok_lem w) (shape_ok_lem w) u))).1 (is_true (shape_ok_lem w) (and_r (words_ok_lem w) (shape_ok_lem w) u)),
        ltb-true k (nodes# w) (is_true (ltb k (nodes# w)) (and_r (words_ok_lem w && shape_ok_lem w) (ltb k (nodes# w)) t)),
      )

  -- ---- the part
  -- where the test fails nothing is listed
  listed-none : lists w k ≡ false → listed w k ≡ []
  unfolding listed
  listed-none e = rw e

  -- where it passes the node's pairs are
  listed-pairs : lists w k ≡ true → listed w k ≡ pairs w k
  unfolding listed
  listed-pairs e = rw e

  -- the pairs of a node stand within the index's words
  pub part-there : InShape w → k < nodes# w → pair_at w (start# w k) + 2 * count# w k ≤ words_of_lem w
  part-there S h = omega (arith, (S.node k h).run)

  -- there are two words for each of its rows
  pairs_long : InShape w → k < nodes# w → length (pairs w k) ≡ 2 * count# w k
  pairs_long S h = simp (length-take, length-drop) (omega (arith, part-there S h, S.whole.words))

  module _ {start long : ℕ} where
    -- nothing is listed
    pub part_none : lists w k ≡ false → start ≡ 0 → long ≡ 0 → Lists w k start long
    part_none e s l =
        let z = listed-none e in
        record {
          part = rw (l, z);
          inside = omega arith;
          whole = l ∙ sym (ap length z);
          starts = rw e s;
        }

    -- node k's pairs
    pub part-pairs : lists w k ≡ true → start ≡ pair_at w (start# w k) → long ≡ 2 * count# w k → Lists w k start long
    part-pairs e s l =
        let there = node-there e in
        let is = listed-pairs e in
        record {
          part = rw (s, l) (sym is);
          inside = omega (arith, part-there there.0 there.1, there.0.whole.words);
          whole = l ∙ sym (ap length is ∙ pairs_long there.0 there.1);
          starts = rw e s;
        }

  -- ---- EMPTY EXACTLY IN THE FOUR CASES
  -- words that fail: some are missing, or the header is impossible
  words-unlisted : words_ok_lem w ≡ false → Unlisted w k
  unfolding words_ok_lem
  words-unlisted e = go (leb 8 (length w)) (header_ok_lem w) (leb (words_of_lem w) (length w)) refl refl refl e
    where
      go : (a b c : Bool) → leb 8 (length w) ≡ a → header_ok_lem w ≡ b → leb (words_of_lem w) (length w) ≡ c → (a && b && c) ≡ false → Unlisted w k
      go false b c p q r e = missing (omega (arith, leb-false 8 (length w) p))
      go true false c p q r e = impossible q
      go true true false p q r e = missing (leb-false (words_of_lem w) (length w) r)
      go true true true p q r e = absurd (subst T e tt)

  -- an empty part is one of the four cases
  empty-unlisted : listed w k ≡ [] → Unlisted w k
  empty-unlisted e = go (words_ok_lem w) (shape_ok_lem w) (ltb k (nodes# w)) refl refl refl
    where
      go : (a b c : Bool) → words_ok_lem w ≡ a → shape_ok_lem w ≡ b → ltb k (nodes# w) ≡ c → Unlisted w k
      go false b c p q r = words-unlisted p
      go true false c p q r = wrong q
      go true true false p q r = beyond (ltb-false k (nodes# w) r)
      go true true true p q r =
          let h = ltb-true k (nodes# w) r in
          let S = in_shape w (words-whole w p).1 q in
          absurd (omega (arith, ap length e, ap length (listed-pairs (all_right p q h)), pairs_long S h, (S.node k h).some))

  -- where words are missing the test of the words fails
  words-short : length w < words_of_lem w → words_ok_lem w ≡ false
  unfolding words_ok_lem
  words-short h = rw (lt-leb (words_of_lem w) (length w) h, and-false (leb 8 (length w) && header_ok_lem w))

  -- and where the header is impossible
  words-bad : header_ok_lem w ≡ false → words_ok_lem w ≡ false
  unfolding words_ok_lem
  words-bad e = rw (e, and-false (leb 8 (length w)))

  -- in each of the four cases the part is empty
  unlisted-empty : Unlisted w k → listed w k ≡ []
  unlisted-empty (missing h) = listed-none (no_words (words-short h))
  unlisted-empty (impossible e) = listed-none (no_words (words-bad e))
  unlisted-empty (wrong e) = listed-none (no-shape e)
  unlisted-empty (beyond h) = listed-none (no_node h)

  -- THE PART IS EMPTY EXACTLY WHERE WORDS ARE MISSING, THE HEADER IS IMPOSSIBLE, THE SHAPE IS WRONG OR k IS NOT BELOW N
  pub listed-empty : (listed w k ≡ []) ↔ Unlisted w k
  listed-empty = (empty-unlisted, unlisted-empty)

-- NO SECOND PART FITS: the listing settles both numbers
pub list_only : {w : List ℕ} {k start start' long long' : ℕ} → Lists w k start long → Lists w k start' long' → (start ≡ start') × (long ≡ long')
list_only a b = (a.starts ∙ sym b.starts, a.whole ∙ sym b.whole)

-- nor a second answer of part_of: there is a part exactly where the node is listed, so that none is no empty part
pub part_only : {w : List ℕ} {k : ℕ} (p q : Option Part) → Lists w k (start_of p) (long_of p) × (is_some p ≡ lists w k) → Lists w k (start_of q) (long_of q) × (is_some q ≡ lists w k) → p ≡ q
part_only None None a b = refl
part_only None (Some q) a b = never (a.1 ∙ sym b.1)
part_only (Some p) None a b = never (sym (a.1 ∙ sym b.1))
part_only (Some p) (Some q) a b = let e = list_only a.0 b.0 in rw (e.0, e.1) refl

-- both numbers are at most the words of the greatest index, so that 32 bits hold them
pub part_small : {w : List ℕ} {k start long : ℕ} → Lists w k start long → (start ≤ 12 * max_rows + 8) × (long ≤ 12 * max_rows + 8)
part_small {w} {k} {start} {long} p = go (lists w k) refl
  where
    go : (b : Bool) → lists w k ≡ b → (start ≤ 12 * max_rows + 8) × (long ≤ 12 * max_rows + 8)
    go false e =
        let s : start ≡ 0 = p.starts ∙ ap (λ (b : Bool). cond b (pair_at w (start# w k)) 0) e in
        let l : long ≡ 0 = p.whole ∙ ap length (listed-none w k e) in
        (omega arith, omega arith)
    go true e =
        let there = node-there w k e in
        let W = there.0.whole in
        let in_words_lem = part-there w k there.0 there.1 in
        let s : start ≡ pair_at w (start# w k) = p.starts ∙ ap (λ (b : Bool). cond b (pair_at w (start# w k)) 0) e in
        let l : long ≡ 2 * count# w k = p.whole ∙ ap length (listed-pairs w k e) ∙ pairs_long w k there.0 there.1 in
        let most = words-few w W in
        (omega (arith, in_words_lem, W.rows, most), omega (arith, in_words_lem, W.rows, most))
