-- The root's entries, row after row, with the greatest and the least distance so far. Assumes nothing.
use Prim.Native.Nat.{◌*◌, ◌+◌, ◌-◌, ◌<◌, ◌≤◌, max, suc, zero, ℕ}
use Rattle.growing.specs.Rooted.{entry_of0}
use Rattle.laws.proofs.Joins.{each_append}
use Rattle.laws.proofs.Lists.{lowest-last, map-append}
use Rattle.laws.proofs.Parts.{put_more}
use Rattle.laws.proofs.Ranges.{range_append, range_length}
use Rattle.laws.proofs.Upto.{most-next, most-none}
use Rattle.laws.specs.Lists.{each, lower, lowest, range, rest}
use Rattle.laws.specs.Upto.{most_to}
use Rattle.split.proofs.Laid.{under_long}
use borrow.Rule.Slice.PartMut.{mid_of, put_mid}
use lib.ListN.{drop, length, length-map}
use mathlib.Core.List.{List, [], ◌++◌, ◌∷◌, map}
use mathlib.Core.Path.{◌∙◌, ◌≡◌, ap, ap₂, refl, sym}
use native.Mathlib.Nat.{zero-add}
use native.Mathlib.Numerals.{add-one}
use native.Mathlib.Omega.{arith}

-- i rows are laid
pub record Laying (d : ℕ → ℕ → ℕ) (n : ℕ) (w₀ w : List ℕ) (radius inner i : ℕ) : Type 0 where
  pub some : i ≤ n
  pub long : length w ≡ length w₀
  pub wrote : w ≡ each (entry_of0 d) (range 0 i) ++ drop (3 * i) w₀
  pub far : radius ≡ most_to (d 0) i
  pub near : inner ≡ lowest (map (d 0) (rest (range 0 i)))

-- no row is laid yet
pub laying_start : (d : ℕ → ℕ → ℕ) (n : ℕ) (w : List ℕ) → Laying d n w w 0 0 0
laying_start d n w = record { some = omega arith; long = refl; wrote = refl; far = sym (most-none (d 0)); near = refl }

-- three words a row
rows_long : (d : ℕ → ℕ → ℕ) (i : ℕ) → length (each (entry_of0 d) (range 0 i)) ≡ 3 * i
rows_long d i = under_long (d 0) 0 (range 0 i) ∙ ap (λ (k : ℕ). 3 * k) (range_length 0 i)

-- one row more
rows_next : (d : ℕ → ℕ → ℕ) (i : ℕ) → each (entry_of0 d) (range 0 (i + 1)) ≡ each (entry_of0 d) (range 0 i) ++ entry_of0 d i
rows_next d i =
    ap (each (entry_of0 d)) (range_append 0 i 1) ∙ each_append (entry_of0 d) (range 0 i) (range (0 + i) 1)
    ∙ ap (λ (k : ℕ). each (entry_of0 d) (range 0 i) ++ entry_of0 d k) (zero-add i)

-- of the rows behind row 0, which is at 0, one more for the least
inner-next : (f : ℕ → ℕ) → f 0 ≡ 0 → (i : ℕ) → lowest (map f (rest (range 0 (i + 1)))) ≡ lower i (lowest (map f (rest (range 0 i)))) (f i)
inner-next f z zero = sym z
inner-next f z (suc i) =
    let up : suc i + 1 ≡ suc (i + 1) = omega arith in
    let at : 1 + i ≡ suc i = omega arith in
    let k : length (map f (range 1 i)) + 1 ≡ suc i = ap (λ (j : ℕ). j + 1) (length-map (range 1 i) f ∙ range_length 1 i) ∙ add-one i in
    ap (λ (j : ℕ). lowest (map f (rest (range 0 j)))) up
    ∙ ap (λ (x : List ℕ). lowest (map f x)) (range_append 1 i 1)
    ∙ ap lowest (map-append f (range 1 i) (range (1 + i) 1))
    ∙ lowest-last (map f (range 1 i)) (f (1 + i))
    ∙ ap₂ (λ (j x : ℕ). lower j (lowest (map f (range 1 i))) (f x)) k at

module _ {d : ℕ → ℕ → ℕ} {n : ℕ} {w₀ w : List ℕ} {radius inner i : ℕ} (inv : Laying d n w₀ w radius inner i) where
  -- row i is laid, at the distance x
  pub laying-step : {ys : List ℕ} {x r s : ℕ} → d 0 0 ≡ 0 → i < n → 3 * n ≤ length w₀ → x ≡ d 0 i → r ≡ max radius x → s ≡ lower i inner x
      → ys ≡ i ∷ x ∷ 0 ∷ drop 3 (mid_of (3 * i) (length w - 3 * i) w)
      → length (put_mid (3 * i) (length w - 3 * i) w ys) ≡ length w → Laying d n w₀ (put_mid (3 * i) (length w - 3 * i) w ys) r s (i + 1)
  laying-step {ys} {x} z h room q g b e same =
      let up : 3 * (i + 1) ≡ 3 * i + 3 = omega arith in
      record {
        some = omega arith;
        long = same ∙ inv.long;
        wrote =
            put_more (each (entry_of0 d) (range 0 i)) (i ∷ x ∷ 0 ∷ []) w₀ w ys (3 * i) 3 (rows_long d i) (omega (arith, inv.long)) inv.wrote e
            ∙ ap₂ (λ (y : ℕ) (k : ℕ). (each (entry_of0 d) (range 0 i) ++ i ∷ y ∷ 0 ∷ []) ++ drop k w₀) q (sym up)
            ∙ ap (λ (y : List ℕ). y ++ drop (3 * (i + 1)) w₀) (sym (rows_next d i));
        far = g ∙ ap₂ max inv.far q ∙ sym (most-next (d 0) i);
        near = b ∙ ap₂ (lower i) inv.near q ∙ sym (inner-next (d 0) z i);
      }
