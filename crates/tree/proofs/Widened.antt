-- An edition 1 index made edition 2: it reads as before, it is accepted where it was, and it is what a build in edition 2 gives.
-- Assumes nothing.
use Prim.Native.Nat.{◌+◌, ◌<◌, ◌≤◌, suc, zero, ℕ}
use Rattle.laws.proofs.Ranges.{every-at, range_length}
use Rattle.laws.proofs.Tests.{and_l, and_of, and_r, holds, is_true}
use Rattle.laws.specs.Every.{Every}
use Rattle.laws.specs.Lists.{each, range}
use Rattle.limits.specs.Limits.{circles_ok_lem, columns_ok_lem, edition_ok_lem, max_rows, share_ok_lem}
use Rattle.measure.specs.Space.{Point}
use Rattle.tree.proofs.Alike.{Alike, alike_accepted}
use Rattle.tree.proofs.Encode.{Holds}
use Rattle.tree.proofs.Good.{pairs-length}
use Rattle.tree.proofs.Held.{At, read_at}
use Rattle.tree.proofs.Theorems.{radius-exact}
use Rattle.tree.proofs.Written.{each_words, read-nodes}
use Rattle.tree.specs.Check.{Accepted, nearest#}
use Rattle.tree.specs.Encode.{Node, node_words, pair_words}
use Rattle.tree.specs.Grove.{tree_of}
use Rattle.tree.specs.Radius.{radius_how}
use Rattle.tree.specs.Widen.{widen, widened}
use Rattle.words.specs.Words.{nodes#, at, c#, circles#, dist#, edition#, card_ok_lem, inner#, kept, kind#, l#, m#, n#, nodes_ok_lem, row#, words_of_lem, whole_ok}
use lib.Dec.{T, eqb, leb, le→leb}
use lib.ListN.{get_or, length, length-append, length-map}
use mathlib.Core.Bool.{Bool, ◌&&◌, false, true}
use mathlib.Core.List.{List, [], ◌++◌, ◌∷◌, append_assoc, map}
use mathlib.Core.Logic.{◌↔◌}
use mathlib.Core.Path.{◌∙◌, ◌≡◌, ap, refl, subst, sym}
use native.Mathlib.Omega.{arith}

-- what one node's words hold
abbrev One : List ℕ → ℕ → Node → Type 0
One w k v = Holds w k (v ∷ [])

-- nodes made of their numbers, read one by one
holds-range : (w : List ℕ) (f : ℕ → Node) (a n : ℕ) → Holds w a (map f (range a n)) → Every (λ k. One w k (f k)) (range a n)
holds-range w f a zero h = tt
holds-range w f a (suc n) h = ((h.0, h.1, h.2, h.3, tt), holds-range w f (suc a) n h.4)

-- pairs made of their positions, read one by one
at-range : (w : List ℕ) (f : ℕ → ℕ × ℕ) (a n : ℕ) → At w a (map f (range a n)) → Every (λ p. (row# w p ≡ (f p).0) × (dist# w p ≡ (f p).1)) (range a n)
at-range w f a zero h = tt
at-range w f a (suc n) h = ((h.0, h.1), at-range w f (suc a) n h.2)

module _ (d : ℕ → ℕ → ℕ) (w : List ℕ) where
  -- the widened index's parts
  abbrev top : List ℕ
  top = 2 ∷ n# w ∷ c# w ∷ m# w ∷ l# w ∷ nodes# w ∷ kind# w ∷ circles# w ∷ []

  abbrev ns : List Node
  ns = map (widened d w) (range 0 (nodes# w))

  abbrev ps : List (ℕ × ℕ)
  ps = map (λ p. (row# w p, dist# w p)) (range 0 (n# w))

  -- how many nodes and pairs these are
  ns-length : length ns ≡ nodes# w
  ns-length = length-map (range 0 (nodes# w)) (widened d w) ∙ range_length 0 (nodes# w)

  ps-length : length ps ≡ n# w
  ps-length = length-map (range 0 (n# w)) (λ p. (row# w p, dist# w p)) ∙ range_length 0 (n# w)

  -- node k of the widened index
  wide-node : (k : ℕ) → k < nodes# w → One (widen d w) k (widened d w k)
  unfolding widen
  wide-node k h =
      every-at (λ k. One (widen d w) k (widened d w k)) (nodes# w) k
      (holds-range (widen d w) (widened d w) 0 (nodes# w)
      (read-nodes 2 (omega arith, omega arith) ns top (each pair_words ps) (widen d w) 0 refl refl (omega arith))) h

  -- and position p
  wide-pair : (p : ℕ) → p < n# w → (row# (widen d w) p ≡ row# w p) × (dist# (widen d w) p ≡ dist# w p)
  unfolding widen
  wide-pair p h =
      every-at (λ p. (row# (widen d w) p ≡ row# w p) × (dist# (widen d w) p ≡ dist# w p)) (n# w) p
      (at-range (widen d w) (λ p. (row# w p, dist# w p)) 0 (n# w)
      (read_at ps (top ++ each (node_words 2) ns) (widen d w) 0 (append_assoc top (each (node_words 2) ns) (each pair_words ps))
      (omega (arith, length-append top (each (node_words 2) ns), each_words 2 ns (omega arith, omega arith), ns-length)))) h

  -- THE WIDENED INDEX READS AS THE OLD ONE
  pub widen-reads : Alike w (widen d w)
  unfolding widen
  widen-reads =
      record {
        rows = refl;
        fan = refl;
        leaf = refl;
        nodes = refl;
        start = λ k h. (wide-node k h).0;
        count = λ k h. (wide-node k h).1;
        child = λ k h. (wide-node k h).2;
        radius = λ k h. (wide-node k h).3.0;
        row = λ p h. (wide-pair p h).0;
        dist = λ p h. (wide-pair p h).1;
      }

  -- its edition is 2, and it is over the same table
  pub widen-edition : edition# (widen d w) ≡ 2
  unfolding widen
  widen-edition = refl

  pub widen-columns : c# (widen d w) ≡ c# w
  unfolding widen
  widen-columns = refl

  -- its inner reaches are the nearest members' distances
  pub widen-inner : (k : ℕ) → k < nodes# w → inner# (widen d w) k ≡ nearest# d w k
  unfolding widen
  widen-inner k h = (wide-node k h).3.1

  -- it has no word more than its header asks for
  pub widen-length : length (widen d w) ≡ words_of_lem (widen d w)
  unfolding widen
  widen-length =
      omega (
        arith,
        length-append (each (node_words 2) ns) (each pair_words ps),
        each_words 2 ns (omega arith, omega arith),
        ns-length,
        pairs-length ps,
        ps-length,
      )

  -- its header is possible where the old one was
  widen-header : card_ok_lem w ≡ true → card_ok_lem (widen d w) ≡ true
  unfolding widen card_ok_lem
  widen-header e = go (edition_ok_lem (edition# w)) e
    where
      go : (a : Bool) → (a && leb (n# w) max_rows && columns_ok_lem (c# w) && share_ok_lem (m# w) (l# w) && nodes_ok_lem (n# w) (nodes# w) && eqb (kind# w) 1
          && circles_ok_lem (c# w) (circles# w)) ≡ true
          → (true && leb (n# w) max_rows && columns_ok_lem (c# w) && share_ok_lem (m# w) (l# w) && nodes_ok_lem (n# w) (nodes# w) && eqb (kind# w) 1
          && circles_ok_lem (c# w) (circles# w)) ≡ true
      go true e = e
      go false e = absurd (subst T (sym e) tt)

  -- so are its words
  widen-words : whole_ok w ≡ true → whole_ok (widen d w) ≡ true
  unfolding whole_ok
  widen-words e =
      let v : List ℕ = widen d w in
      let h : T (card_ok_lem w) = and_r (leb 8 (length w)) (card_ok_lem w) (and_l (leb 8 (length w) && card_ok_lem w) (leb (words_of_lem w) (length w))
      (holds (leb 8 (length w) && card_ok_lem w && leb (words_of_lem w) (length w)) e)) in
      is_true (leb 8 (length v) && card_ok_lem v && leb (words_of_lem v) (length v))
      (and_of (leb 8 (length v) && card_ok_lem v) (leb (words_of_lem v) (length v))
      (and_of (leb 8 (length v)) (card_ok_lem v) (le→leb 8 (length v) (omega (arith, widen-length)))
      (holds (card_ok_lem v) (widen-header (is_true (card_ok_lem w) h)))) (le→leb (words_of_lem v) (length v) (omega (arith, widen-length))))

  -- WHAT IS ACCEPTED IS ACCEPTED WHEN WIDENED
  pub widen-accepted : Accepted d w → Accepted d (widen d w)
  widen-accepted C =
      alike_accepted d widen-reads C (widen-words C.words)
      (λ k h. widen-inner k h ∙ sym (ap (λ e. kept e (nearest# d w k)) widen-edition))

  -- A RADIUS SEARCH ON THE WIDENED INDEX MARKS THE SAME ROWS IN, whichever are gone. (A nearest search's answers do not depend on the index at all.)
  pub widen_in : (x : ℕ → ℕ) → Point d x → Accepted d w → (r : ℕ) (gone : ℕ → Bool) (i : ℕ) → i < n# w
      → (2 ≤ get_or (radius_how x r gone (n# w) (tree_of (widen d w))) i 0) ↔ (2 ≤ get_or (radius_how x r gone (n# w) (tree_of w)) i 0)
  widen_in x P C r gone i h =
      let new : (2 ≤ get_or (radius_how x r gone (n# w) (tree_of (widen d w))) i 0) ↔ ((gone i ≡ false) × (x i ≤ r)) =
      rw widen-reads.rows at (radius-exact d (widen d w) (widen-accepted C) x P r gone i (omega (arith, widen-reads.rows))) in
      let old = radius-exact d w C x P r gone i h in
      (λ a. old.1 (new.0 a), λ a. new.1 (old.0 a))
