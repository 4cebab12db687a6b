-- The least of the centres' distances, as the code gathers them. Assumes nothing.
use Prim.Native.Nat.{◌+◌, ◌<◌, ◌≤◌, min, suc, zero, ℕ}
use Rattle.laws.proofs.Lists.{map-append}
use Rattle.laws.proofs.Maps.{map_shift}
use Rattle.laws.proofs.Ranges.{range_append}
use Rattle.laws.specs.Lists.{least, range}
use Rattle.marking.specs.Marks.{Distances, first_at, least_from}
use Rattle.words.specs.Words.{m#}
use lib.ListN.{get_or, length, take}
use lib.Seq.{take-suc}
use mathlib.Core.List.{List, [], ◌++◌, ◌∷◌, map}
use mathlib.Core.Path.{◌∙◌, ◌≡◌, ap, ap₂, refl, sym}
use native.Mathlib.Nat.{add-zero, zero-add}
use native.Mathlib.Numerals.{add-one}
use native.Mathlib.Omega.{arith}

-- one number more
least_snoc : (a v : ℕ) (xs : List ℕ) → least a (xs ++ v ∷ []) ≡ min v (least a xs)
least_snoc a v [] = refl
least_snoc a v (x ∷ xs) = omega (arith, least_snoc a v xs)

-- a turn of the loop
pub least-next : (a : ℕ) (ds : List ℕ) (j : ℕ) {y z : ℕ} → j < length ds → y ≡ least a (take j ds) → z ≡ min (get_or ds j 0) y → z ≡ least a (take (j + 1) ds)
least-next a ds j l p q =
    q ∙ ap (min (get_or ds j 0)) p ∙ sym (ap (least a) (ap (λ (n : ℕ). take n ds) (add-one j) ∙ take-suc ds j 0 l) ∙ least_snoc a (get_or ds j 0) (take j ds))

-- a list that holds f 0, f 1, .. up to m
take-map : (f : ℕ → ℕ) (ds : List ℕ) (m : ℕ) → m ≤ length ds → ((j : ℕ) → j < m → get_or ds j 0 ≡ f j) → take m ds ≡ map f (range 0 m)
take-map f ds zero l h = refl
take-map f ds (suc m) l h =
    let e : suc m ≡ m + 1 = omega arith in
    take-suc ds m 0 l ∙ ap₂ (λ a v. a ++ v ∷ []) (take-map f ds m (omega arith) (λ j q. h j (omega arith))) (h m (omega arith))
    ∙ sym (ap (λ (n : ℕ). map f (range 0 n)) e ∙ ap (map f) (range_append 0 m 1) ∙ map-append f (range 0 m) (range (0 + m) 1)
    ∙ ap (λ (k : ℕ). map f (range 0 m) ++ f k ∷ []) (zero-add m))

-- the least of the distances held is that of the centres
pub least-is : (x : ℕ → ℕ) (w : List ℕ) (ch m : ℕ) (ds : List ℕ) → m ≡ m# w → 1 ≤ m → m ≤ length ds → Distances x w ch ds
    → least (get_or ds 0 0) (take m ds) ≡ least_from x w ch
least-is x w ch m ds e l k D =
    let ats : (j : ℕ) → j < m → get_or ds j 0 ≡ first_at x w (ch + j) = λ j q. D.at j (omega arith) in
    let zero-at : get_or ds 0 0 ≡ first_at x w ch = ats 0 l ∙ ap (first_at x w) (add-zero ch) in
    ap₂ least zero-at
    (take-map (λ j. first_at x w (ch + j)) ds m k ats ∙ map_shift (first_at x w) ch 0 m
    ∙ ap₂ (λ a n. map (first_at x w) (range a n)) (add-zero ch) e)
