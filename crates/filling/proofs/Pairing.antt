-- The positions' pairs, one after the other. Assumes nothing.
use Prim.Native.Nat.{◌*◌, ◌+◌, ◌-◌, ◌<◌, ◌≤◌, ℕ}
use Rattle.laws.proofs.Parts.{store_more}
use Rattle.rounds.proofs.Parts.{stretch_three}
use Rattle.rounds.specs.Entries.{pairs_in}
use Rattle.rounds.specs.Stretch.{stretch}
use lib.ListN.{drop, get_or, length, length-append, length-drop, length-set, set, take}
use lib.Seq.{drop-drop, length-take-le, take-add, take_all}
use mathlib.Core.List.{List, [], ◌++◌, ◌∷◌, append_assoc}
use mathlib.Core.Path.{◌∙◌, ◌≡◌, ap, ap₂, refl, sym}
use native.Mathlib.Omega.{arith}

-- the pairs of p positions are written
pub record Pairing (n : ℕ) (w part₀ part : List ℕ) (p : ℕ) : Type 0 where
  pub some : p ≤ n
  pub long : length part ≡ length part₀
  pub size : 2 * p ≤ length (pairs_in (stretch w 0 (3 * n)))
  pub left : drop (2 * p) (pairs_in (stretch w 0 (3 * n))) ≡ pairs_in (stretch w (3 * p) (3 * n))
  pub wrote : part ≡ take (2 * p) (pairs_in (stretch w 0 (3 * n))) ++ drop (2 * p) part₀

-- no pair is written yet
pub pairing_start : (n : ℕ) (w part : List ℕ) → Pairing n w part part 0
pairing_start n w part = record { some = omega arith; long = refl; size = omega arith; left = refl; wrote = refl }

module _ {n : ℕ} {w part₀ part : List ℕ} {p : ℕ} (inv : Pairing n w part₀ part p) where
  -- position p's pair is written
  pub pairing_step : p < n → 3 * n ≤ length w → 2 * n ≤ length part₀
      → Pairing n w part₀ (set (set part (2 * p) (get_or w (3 * p) 0)) (2 * p + 1) (get_or w (3 * p + 1) 0)) (p + 1)
  unfolding pairs_in
  pairing_step h f r =
      let G : List ℕ = pairs_in (stretch w 0 (3 * n)) in
      let T : List ℕ = take (2 * p) G in
      let a : ℕ = get_or w (3 * p) 0 in
      let b : ℕ = get_or w (3 * p + 1) 0 in
      let up : 2 * (p + 1) ≡ 2 * p + 2 = omega arith in
      let next : 3 * (p + 1) ≡ 3 * p + 3 = omega arith in
      let size : 2 * p ≤ length G = inv.size in
      let rest : drop (2 * p) G ≡ a ∷ b ∷ pairs_in (stretch w (3 * p + 3) (3 * n)) =
      inv.left ∙ ap pairs_in (stretch_three w (3 * p) (3 * n) (omega arith) f) in
      let more : 2 * p + 2 ≤ length G = omega (arith, ap length rest, length-drop (2 * p) G) in
      let grown : T ++ a ∷ b ∷ [] ≡ take (2 * (p + 1)) G =
      sym (ap (λ (k : ℕ). take k G) up ∙ take-add (2 * p) 2 G ∙ ap (λ (l : List ℕ). T ++ take 2 l) rest) in
      let long : length T ≡ 2 * p = length-take-le (2 * p) G size in
      let longer : length (T ++ a ∷ []) ≡ 2 * p + 1 = length-append T (a ∷ []) ∙ ap (λ (j : ℕ). j + 1) long in
      let first : set part (2 * p) a ≡ (T ++ a ∷ []) ++ drop (2 * p + 1) part₀ = store_more T part₀ part (2 * p) a long (omega arith) inv.wrote in
      let two : 2 * p + 1 + 1 ≡ 2 * (p + 1) = omega arith in
      record {
        some = omega arith;
        long = length-set (set part (2 * p) a) (2 * p + 1) b ∙ length-set part (2 * p) a ∙ inv.long;
        size = omega arith;
        left =
            ap (λ (k : ℕ). drop k G) up ∙ sym (drop-drop 2 (2 * p) G) ∙ ap (drop 2) rest ∙ ap (λ (k : ℕ). pairs_in (stretch w k (3 * n))) (sym next);
        wrote =
            store_more (T ++ a ∷ []) part₀ (set part (2 * p) a) (2 * p + 1) b longer (omega arith) first
            ∙ ap₂ (λ (l : List ℕ) (k : ℕ). l ++ drop k part₀) (append_assoc T (a ∷ []) (b ∷ []) ∙ grown) two;
      }

  -- all pairs are written
  pub pairing-done : n ≤ p → part ≡ pairs_in (stretch w 0 (3 * n)) ++ drop (2 * n) part₀
  unfolding pairs_in
  pairing-done h =
      let G : List ℕ = pairs_in (stretch w 0 (3 * n)) in
      let k : p ≡ n = omega (arith, inv.some) in
      let z : 3 * n - 3 * p ≡ 0 = omega arith in
      let none : drop (2 * p) G ≡ [] = inv.left ∙ ap (λ (j : ℕ). pairs_in (take j (drop (3 * p) w))) z in
      inv.wrote ∙ ap₂ (λ (l : List ℕ) (j : ℕ). l ++ drop (2 * j) part₀) (take_all (2 * p) G (omega (arith, ap length none, length-drop (2 * p) G))) k
