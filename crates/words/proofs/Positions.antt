-- The positions' part of the shape, by the greatest row number and the greatest distance. Assumes nothing.
use Prim.Native.Nat.{◌*◌, ◌+◌, ◌-◌, ◌<◌, ◌≤◌, ℕ}
use Rattle.laws.proofs.Every.{all-every, all_of}
use Rattle.laws.proofs.Ranges.{at_every, every-at}
use Rattle.laws.proofs.Tests.{and_l, and_of, and_r, is_true, refute}
use Rattle.laws.proofs.Upto.{most_above, most-least}
use Rattle.laws.specs.Lists.{all, range}
use Rattle.laws.specs.Upto.{most_to}
use Rattle.limits.specs.Limits.{max_distance}
use Rattle.words.specs.Shape.{position_ok}
use Rattle.words.specs.Words.{at, dist#, n#, pair_at, row#}
use borrow.Author.Tests.{leb-false, leb-true}
use lib.Dec.{T, leb, leb→le, le→leb, ltb, ltb→lt, lt→ltb}
use mathlib.Core.Bool.{Bool, ◌&&◌, false, true}
use mathlib.Core.List.{List}
use mathlib.Core.Path.{◌≡◌, ap, refl, sym}
use native.Mathlib.Omega.{arith}

module _ (w : List ℕ) where
  -- what the positions' test says of position p
  pub position-is : T (all (position_ok w) (range 0 (n# w))) → (p : ℕ) → p < n# w → (row# w p < n# w) × (dist# w p ≤ max_distance)
  position-is t p h =
      let a = ltb (row# w p) (n# w) in
      let b = leb (dist# w p) max_distance in
      let q : T (a && b) = every-at (λ p. T (position_ok w p)) (n# w) p (all-every (position_ok w) (range 0 (n# w)) t) h in
      (ltb→lt (row# w p) (n# w) (and_l a b q), leb→le (dist# w p) max_distance (and_r a b q))

  -- ---- the words of position p, from the first position on
  -- the first is its row
  pub row_word : (base p : ℕ) → base ≡ pair_at w 0 → at w (base + 2 * p) ≡ row# w p
  row_word base p e = ap (at w) (omega arith)

  -- the second its distance
  pub dist-word : (base p : ℕ) → base ≡ pair_at w 0 → at w (base + 2 * p + 1) ≡ dist# w p
  dist-word base p e = ap (at w) (omega arith)

  -- ---- the pass's two ends
  -- the greatest row number is not below n
  pub rows-high : {row : ℕ} → 1 ≤ n# w → row ≡ most_to (row# w) (n# w) → n# w ≤ row → false ≡ all (position_ok w) (range 0 (n# w))
  rows-high {row} s e h =
      refute (all (position_ok w) (range 0 (n# w)))
      (λ t. omega (arith, most-least (row# w) (n# w) (n# w - 1) (λ p q. omega (arith, (position-is t p q).0))))

  -- it is: the greatest distance decides
  pub rows-low : {row far : ℕ} → row ≡ most_to (row# w) (n# w) → far ≡ most_to (dist# w) (n# w) → row < n# w
      → leb far max_distance ≡ all (position_ok w) (range 0 (n# w))
  rows-low {row} {far} e d h = go (leb far max_distance) refl
    where
      go : (b : Bool) → leb far max_distance ≡ b → b ≡ all (position_ok w) (range 0 (n# w))
      go true q =
          sym (is_true (all (position_ok w) (range 0 (n# w)))
          (all_of (position_ok w) (range 0 (n# w))
          (at_every (λ p. T (position_ok w p)) (n# w)
          (λ p k. and_of (ltb (row# w p) (n# w)) (leb (dist# w p) max_distance)
          (lt→ltb (row# w p) (n# w) (omega (arith, most_above (row# w) (n# w) p k)))
          (le→leb (dist# w p) max_distance (omega (arith, most_above (dist# w) (n# w) p k, leb-true far max_distance q)))))))
      go false q =
          refute (all (position_ok w) (range 0 (n# w)))
          (λ t. omega (arith, leb-false far max_distance q, most-least (dist# w) (n# w) max_distance (λ p k. (position-is t p k).1)))
