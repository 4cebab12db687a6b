-- A child is laid as its piece says, whether it is a leaf or not; and what each piece of an old node is. Assumes nothing.
use Prim.Native.Nat.{◌+◌, ◌≤◌, suc, zero, ℕ}
use Rattle.appending.specs.Append.{twice}
use Rattle.dealing.specs.Pending.{Settles, reach_of, size_of}
use Rattle.laws.proofs.Ranges.{range_length}
use Rattle.laws.specs.Lists.{head, range}
use Rattle.lodging.proofs.Laying.{new-count}
use Rattle.lodging.specs.Standing.{Lodges, Takes}
use Rattle.measure.specs.Table.{between}
use Rattle.swelling.specs.Pieces.{Piece, grown, leaf_piece, old, piece_of, settled, start_of}
use Rattle.swelling.specs.Swell.{reach_taking}
use Rattle.tree.specs.Grove.{Reach, members#, reach#}
use Rattle.words.specs.Shape.{inner}
use Rattle.words.specs.Words.{c#, child#, circles#, count#, dist#, first#, row#, run#, start#}
use borrow.Author.Tests.{eq-eqb, ne_eqb}
use lib.Dec.{eqb}
use lib.ListN.{length, length-append, length-map}
use mathlib.Core.Bool.{Bool, cond, false, not, true}
use mathlib.Core.List.{List, [], ◌++◌, ◌∷◌, map}
use mathlib.Core.Path.{◌∙◌, ◌≡◌, ap, ap₂, refl, subst, sym}
use native.Mathlib.Omega.{arith}

-- ---- laid
module _ {t w : List ℕ} {q : ℕ} {part : List ℕ} (T : Takes t (c# w) w q part) (last : Bool) where
  -- an inner node
  pub settle-inner : {child : ℕ} → child ≡ child# w q → (child ≡ 0 → ⊥) → {mark : ℕ} → mark ≡ q + 1 → Settles t w q last part part mark
  settle-inner {child} ec some {mark} em =
      let b : inner w q ≡ true = ap not (ne_eqb (child# w q) 0 (λ e. some (ec ∙ e))) in
      record {
        stands = λ s. rw b (omega (arith, new-count T), refl);
        marked = λ s. rw b em;
        long = refl;
      }

  -- a leaf
  pub settle-leaf : {child c : ℕ} → child ≡ child# w q → child ≡ 0 → c ≡ c# w → {part' : List ℕ} {mark : ℕ}
      → length part' ≡ length part → Lodges t c w q last part part' mark → Settles t w q last part part' mark
  settle-leaf {child} {c} ec none ek {part'} {mark} same got =
      let b : inner w q ≡ false = ap not (eq-eqb (child# w q) 0 (sym ec ∙ none)) in
      let here : Lodges t (c# w) w q last part part' mark = subst (λ (i : ℕ). Lodges t i w q last part part' mark) ek got in
      record { stands = λ s. rw b (here.stands s); marked = λ s. rw b (here.marked s); long = same }

-- ---- the piece of old node o at position s that takes the rows zs
module _ (t w : List ℕ) (s o : ℕ) (zs : List ℕ) where
  -- how far two rows are apart
  abbrev d : ℕ → ℕ → ℕ
  d = between t (c# w) (circles# w)

  -- a leaf's members are as many as it counts
  members-count : length (members# w o) ≡ count# w o
  members-count = length-map (run# w o) (λ p. (row# w p, dist# w p)) ∙ range_length (start# w o) (count# w o)

  -- where it starts
  pub piece-start : start_of (piece_of d w s o zs) ≡ s
  piece-start = go (inner w o) zs
    where
      either : (b : Bool) (R : Reach) (es : List (ℕ × ℕ)) (run : List ℕ) → start_of (cond b (settled s R es) (grown s R run)) ≡ s
      either true R es run = refl
      either false R es run = refl

      go : (b : Bool) (ys : List ℕ) → start_of (cond b (old s o zs) (leaf_piece d w s o ys)) ≡ s
      go true ys = refl
      go false [] = refl
      go false (y ∷ ys) =
          let run : List ℕ = map (λ e. e.0) (members# w o) ++ y ∷ ys in
          either (twice run) (reach_taking (length (members# w o)) (reach# w o) (map (d (head run)) (y ∷ ys))) (map (λ i. (i, d (head run) i)) run) run

  -- how many rows it has
  pub piece-size : size_of w (piece_of d w s o zs) ≡ count# w o + length zs
  piece-size = go (inner w o)
    where
      either : (b : Bool) (R : Reach) (run : List ℕ)
          → size_of w (cond b (settled s R (map (λ i. (i, d (head run) i)) run)) (grown s R run)) ≡ length run
      either true R run = length-map run (λ i. (i, d (head run) i))
      either false R run = refl

      leaf : (ys : List ℕ) → size_of w (leaf_piece d w s o ys) ≡ count# w o + length ys
      leaf [] = members-count ∙ omega arith
      leaf (y ∷ ys) =
          let run : List ℕ = map (λ e. e.0) (members# w o) ++ y ∷ ys in
          either (twice run) (reach_taking (length (members# w o)) (reach# w o) (map (d (head run)) (y ∷ ys))) run
          ∙ length-append (map (λ e. e.0) (members# w o)) (y ∷ ys)
          ∙ ap (λ (k : ℕ). k + length (y ∷ ys)) (length-map (members# w o) (λ e. e.0) ∙ members-count)

      go : (b : Bool) → size_of w (cond b (old s o zs) (leaf_piece d w s o zs)) ≡ count# w o + length zs
      go true = refl
      go false = leaf zs

  -- how far it reaches
  pub piece-reach : 1 ≤ count# w o → reach_of t w (piece_of d w s o zs) ≡ reach_taking (count# w o) (reach# w o) (map (d (first# w o)) zs)
  piece-reach some = go (inner w o)
    where
      first-is : (k : ℕ) (ys : List ℕ) → 1 ≤ k
          → head (map (λ e. e.0) (map {B = ℕ × ℕ} (λ p. (row# w p, dist# w p)) (range (start# w o) k)) ++ ys) ≡ first# w o
      first-is zero ys h = absurd (omega arith)
      first-is (suc k) ys h = refl

      either : (b : Bool) (R : Reach) (es : List (ℕ × ℕ)) (run : List ℕ) → reach_of t w (cond b (settled s R es) (grown s R run)) ≡ R
      either true R es run = refl
      either false R es run = refl

      leaf : (ys : List ℕ) → reach_of t w (leaf_piece d w s o ys) ≡ reach_taking (count# w o) (reach# w o) (map (d (first# w o)) ys)
      leaf [] = refl
      leaf (y ∷ ys) =
          let run : List ℕ = map (λ e. e.0) (members# w o) ++ y ∷ ys in
          either (twice run) (reach_taking (length (members# w o)) (reach# w o) (map (d (head run)) (y ∷ ys))) (map (λ i. (i, d (head run) i)) run) run
          ∙ ap₂ (λ (k a : ℕ). reach_taking k (reach# w o) (map (d a) (y ∷ ys))) members-count (first-is (count# w o) (y ∷ ys) some)

      go : (b : Bool) → reach_of t w (cond b (old s o zs) (leaf_piece d w s o zs)) ≡ reach_taking (count# w o) (reach# w o) (map (d (first# w o)) zs)
      go true = refl
      go false = leaf zs
