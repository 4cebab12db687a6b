-- The law `low` follows where bounds do not fall from an item to those that it opens, and some size of items does. Assumes nothing.
use Prim.Native.Nat.{◌+◌, ◌-◌, ◌<◌, ◌≤◌, suc, zero, ℕ}
use Rattle.best_first.specs.Search.{Homes, SearchSpace}
use Rattle.laws.proofs.Bags.{total-neither, total-none}
use Rattle.laws.specs.Bags.{total}
use mathlib.Core.Path.{◌≡◌}
use native.Mathlib.Decide.{dec_lt}
use native.Mathlib.Omega.{arith}

module _ {Item : Type 0} (S : SearchSpace Item) (H : Homes Item) (d : ℕ → ℕ) (size : Item → ℕ)
    (split : (i : Item) (r : ℕ) → H.bad i ≡ 0 → H.waits i r ≡ S.measures i r + total (λ (k : Item). H.waits k r) (S.opens d i))
    (kin : (i : Item) → H.bad i ≡ 0 → total H.bad (S.opens d i) ≡ 0)
    (there : (i : Item) (r : ℕ) → H.bad i ≡ 0 → 0 < S.measures i r → H.home r ≡ S.bound i)
    (rises : (i : Item) → H.bad i ≡ 0 → total (λ (k : Item). S.bound i - S.bound k) (S.opens d i) ≡ 0)
    (falls : (i : Item) → H.bad i ≡ 0 → total (λ (k : Item). suc (size k) - size i) (S.opens d i) ≡ 0) where
  -- the same for items of a size below `fuel`
  low-within : (fuel : ℕ) (i : Item) (r : ℕ) → size i < fuel → H.bad i ≡ 0 → 0 < H.waits i r → S.bound i ≤ H.home r
  low-within zero i r s g p = absurd (omega arith)
  low-within (suc fuel) i r s g p = at (dec_lt (H.home r) (S.bound i)) (λ k. low-within fuel k r)
    where
      at : Dec (H.home r < S.bound i) → ((k : Item) → size k < fuel → H.bad k ≡ 0 → 0 < H.waits k r → S.bound k ≤ H.home r)
          → S.bound i ≤ H.home r
      at (yes c) ih =
          let none : total (λ (k : Item). H.waits k r) (S.opens d i) ≡ 0 =
          total-none (λ (k : Item). H.waits k r) (λ (k : Item). (suc (size k) - size i) + (H.bad k + (S.bound i - S.bound k))) (S.opens d i)
          (λ k z q. omega (arith, ih k (omega arith) (omega arith) q))
          (total-neither (λ (k : Item). suc (size k) - size i) (λ (k : Item). H.bad k + (S.bound i - S.bound k)) (S.opens d i) (falls i g)
          (total-neither H.bad (λ (k : Item). S.bound i - S.bound k) (S.opens d i) (kin i g) (rises i g))) in
          absurd (omega (arith, there i r g (omega (arith, split i r g))))
      at (no c) ih = omega arith

  -- NO ROW UNDER AN ITEM HAS A LOWER HOME BOUND
  pub bound-below-homes : (i : Item) (r : ℕ) → H.bad i ≡ 0 → 0 < H.waits i r → S.bound i ≤ H.home r
  bound-below-homes i r = low-within (suc (size i)) i r (omega arith)
