-- Laws of what stays as it was. Assumes nothing.
use Prim.Native.Nat.{◌<◌, ◌≤◌, ℕ}
use Rattle.laws.specs.Outside.{Outside}
use lib.ListN.{length-set, set}
use lib.Seq.{get_or-set_other}
use mathlib.Core.List.{List}
use mathlib.Core.Path.{◌∙◌, refl}
use native.Mathlib.Omega.{arith}

-- a list that is left as it was
pub outside-same : (l : List ℕ) (lo hi : ℕ) → Outside l l lo hi
outside-same l lo hi = record { under = λ k h. refl; over = λ k h. refl; same = refl }

-- a store between lo and hi
pub outside_set : (l : List ℕ) (lo hi i v : ℕ) → lo ≤ i → i < hi → Outside l (set l i v) lo hi
outside_set l lo hi i v a b = record {
  under = λ k h. get_or-set_other l i k v 0 (omega arith);
  over = λ k h. get_or-set_other l i k v 0 (omega arith);
  same = length-set l i v;
}

-- a second call that writes to no more than the first
pub outside_then : (l₀ l₁ l₂ : List ℕ) (lo hi lo' hi' : ℕ) → lo ≤ lo' → hi' ≤ hi → Outside l₀ l₁ lo hi → Outside l₁ l₂ lo' hi' → Outside l₀ l₂ lo hi
outside_then l₀ l₁ l₂ lo hi lo' hi' a b s t = record {
  under = λ k h. t.under k (omega arith) ∙ s.under k h;
  over = λ k h. t.over k (omega arith) ∙ s.over k h;
  same = t.same ∙ s.same;
}

-- a call that writes to a part writes to no more than a larger one
pub outside_more : (l₀ l : List ℕ) (lo hi lo' hi' : ℕ) → lo ≤ lo' → hi' ≤ hi → Outside l₀ l lo' hi' → Outside l₀ l lo hi
outside_more l₀ l lo hi lo' hi' a b s = outside_then l₀ l₀ l lo hi lo' hi' a b (outside-same l₀ lo hi) s
