-- The loop over a swept run: what holds before its first turn, after one more, and at its end. Assumes nothing.
use Prim.Native.Nat.{◌*◌, ◌+◌, ◌<◌, ◌≤◌, ℕ}
use Rattle.limits.specs.Limits.{max_rows}
use Rattle.marking.proofs.Listed.{leaves-as, span-end, span-next, span_none}
use Rattle.marking.proofs.Written.{marked-end, marked_next, marked-none, write_one}
use Rattle.marking.specs.Listed.{Leaves, span, told}
use Rattle.marking.specs.Marks.{swept_at}
use Rattle.marking.specs.Written.{mark, marked, write}
use Rattle.tree.specs.Radius.{veiled}
use Rattle.words.proofs.Positions.{row_word}
use Rattle.words.specs.InShape.{InShape}
use Rattle.words.specs.Words.{at, n#, pair_at, row#}
use lib.ListN.{length}
use mathlib.Core.Bool.{Bool}
use mathlib.Core.List.{List, [], ◌∷◌}
use mathlib.Core.Path.{◌∙◌, ◌≡◌, ap, refl}
use native.Mathlib.Omega.{arith}

-- of the positions from lo up to hi those below p are swept, the rows that are gone left out
pub record Sweeping (gone : ℕ → Bool) (w : List ℕ) (base lo hi : ℕ) (how₀ how : List ℕ) (p : ℕ) : Type 0 where
  pub shape : InShape w
  pub words : base ≡ pair_at w 0
  pub room : n# w ≤ length how₀
  pub long : length how ≡ length how₀
  pub from : lo ≤ p
  pub to : p ≤ hi
  pub inside : hi ≤ n# w
  pub done : how ≡ marked gone (swept_at w) lo p how₀

-- before its first turn
pub sweep_start : (gone : ℕ → Bool) {w h : List ℕ} {base lo hi : ℕ} → InShape w → base ≡ pair_at w 0 → lo ≤ hi → hi ≤ n# w → n# w ≤ length h
    → Sweeping gone w base lo hi h h lo
sweep_start gone S b l k r =
    record {
      shape = S;
      words = b;
      room = r;
      long = refl;
      from = omega arith;
      to = l;
      inside = k;
      done = marked-none gone _ _ _ _ refl;
    }

module _ {gone : ℕ → Bool} {w : List ℕ} {base lo hi : ℕ} {how₀ how : List ℕ} {p : ℕ} (S : Sweeping gone w base lo hi how₀ how p) where
  -- the row read at p
  module _ (less : p < hi) {row : ℕ} (read : row ≡ at w (base + 2 * p)) where
    is_row : row ≡ row# w p
    is_row = read ∙ row_word w base p S.words

    -- it has a how-byte
    pub sweep-low : row < length how
    sweep-low = omega (arith, (S.shape.place p (omega (arith, S.inside))).row, is_row, S.room, S.long)

    -- after one more
    pub sweep-next : {h : List ℕ} → length h ≡ length how → h ≡ mark gone row 2 how → Sweeping gone w base lo hi how₀ h (p + 1)
    sweep-next k e =
        record {
          shape = S.shape;
          words = S.words;
          room = S.room;
          long = k ∙ S.long;
          from = omega (arith, S.from);
          to = omega arith;
          inside = S.inside;
          done =
              marked_next gone _ _ p _ S.from S.done
              (e ∙ write_one gone row 2 how ∙ ap (λ (i : ℕ). write (veiled gone ((i, 2) ∷ [])) how) is_row);
        }

  -- at its end
  pub sweep-done : hi ≤ p → how ≡ marked gone (swept_at w) lo hi how₀
  sweep-done l = marked-end gone _ _ p _ (omega (arith, S.to)) S.done

-- ---- the same for a list
-- of the positions from lo up to hi those below p are listed, the rows that are gone left out
pub record Listing (gone : ℕ → Bool) (w : List ℕ) (base lo hi : ℕ) (list₀ list : List ℕ) (p : ℕ) : Type 0 where
  pub shape : InShape w
  pub words : base ≡ pair_at w 0
  pub from : lo ≤ p
  pub to : p ≤ hi
  pub inside : hi ≤ n# w
  pub long : length list ≡ length list₀
  pub done : Leaves gone (λ (i : ℕ). 0) (span (swept_at w) lo p) [] [] list₀ list

-- before its first turn
pub listing_start : (gone : ℕ → Bool) {w l : List ℕ} {base lo hi : ℕ} → InShape w → base ≡ pair_at w 0 → lo ≤ hi → hi ≤ n# w
    → Listing gone w base lo hi l l lo
listing_start gone S b l k =
    record { shape = S; words = b; from = omega arith; to = l; inside = k; long = refl; done = span_none gone (λ (i : ℕ). 0) _ _ _ refl }

module _ {gone : ℕ → Bool} {w : List ℕ} {base lo hi : ℕ} {list₀ list : List ℕ} {p : ℕ} (S : Listing gone w base lo hi list₀ list p) where
  module _ (less : p < hi) {row : ℕ} (read : row ≡ at w (base + 2 * p)) where
    listed-row : row ≡ row# w p
    listed-row = read ∙ row_word w base p S.words

    -- the row read at p is one of the table's
    pub listing-low : row < max_rows
    listing-low = omega (arith, (S.shape.place p (omega (arith, S.inside))).row, listed-row, S.shape.whole.rows)

    -- after one more
    pub listing-next : {l : List ℕ} → length l ≡ length list → Leaves gone (λ (i : ℕ). 0) ((row, 2) ∷ []) [] [] list l → Listing gone w base lo hi list₀ l (p + 1)
    listing-next k e =
        record {
          shape = S.shape;
          words = S.words;
          from = omega (arith, S.from);
          to = omega arith;
          inside = S.inside;
          long = k ∙ S.long;
          done =
              span-next gone (λ (i : ℕ). 0) _ _ p S.from S.done
              (leaves-as gone (λ (i : ℕ). 0) (ap (λ (i : ℕ). (i, 2) ∷ []) listed-row) e);
        }

  -- at its end
  pub listing-done : hi ≤ p → list ≡ told (λ (i : ℕ). 0) (veiled gone (span (swept_at w) lo hi)) list₀
  listing-done l =
      let a : Leaves gone (λ (i : ℕ). 0) (span (swept_at w) lo hi) [] [] list₀ list =
      span-end gone (λ (i : ℕ). 0) (swept_at w) lo p (omega (arith, S.to)) S.done in
      a.rows
