-- Laws of bounds at most the last distance and of those above it, and of entries that are queued where theirs is at most that. Assumes nothing.
use Prim.Native.Nat.{◌+◌, ◌-◌, ◌<◌, ◌≤◌, suc, ℕ}
use Rattle.frontier.specs.Waiting.{More, at_most}
use Rattle.index_space.specs.Items.{greatest_word}
use Rattle.laws.proofs.Bags.{total-upto}
use Rattle.laws.proofs.Keeping.{total-keep, total-parted}
use Rattle.laws.proofs.Outside.{outside_more, outside-same, outside_then}
use Rattle.laws.proofs.Sums.{sum_below-same}
use Rattle.laws.specs.Bags.{total, upto}
use Rattle.laws.specs.Lists.{keep}
use Rattle.queue.proofs.Entries.{key_packed}
use Rattle.queue.specs.Entry.{key_of, packed}
use Rattle.queue.specs.Queue.{Pushed, Queue, entries}
use borrow.Author.Tests.{le-leb, leb-false, lt-leb}
use lib.Dec.{leb}
use mathlib.Core.Bool.{Bool, cond, false, not, true}
use mathlib.Core.List.{List, [], ◌++◌, ◌∷◌}
use mathlib.Core.Path.{◌∙◌, ◌≡◌, ap, ap₂, refl, subst, sym}
use native.Mathlib.Decide.{dec_lt}
use native.Mathlib.Numerals.{add-one}
use native.Mathlib.Omega.{arith}

module _ {A : Type 0} (bound : A → ℕ) (last : ℕ) where
  -- those whose bound is above the last distance
  abbrev pub above : List A → List A
  above xs = keep (λ (a : A). not (leb (bound a) last)) xs

  -- those at most the last distance and those above it are all
  pub parts-above : (f : A → ℕ) (xs : List A) → total f (at_most bound last xs) + total f (above xs) ≡ total f xs
  parts-above f xs = total-parted f (λ (a : A). leb (bound a) last) xs

  -- none of those above it has a bound at most the last distance
  pub above-last : (xs : List A) → total (λ (a : A). suc last - bound a) (above xs) ≡ 0
  above-last [] = refl
  above-last (x ∷ xs) = go (leb (bound x) last) refl (above-last xs)
    where
      go : (b : Bool) → leb (bound x) last ≡ b → total (λ (a : A). suc last - bound a) (above xs) ≡ 0
          → total (λ (a : A). suc last - bound a) (cond (not b) (x ∷ above xs) (above xs)) ≡ 0
      go true e h = h
      go false e h = omega (arith, leb-false (bound x) last e, h)

-- things with the same bounds and the same weights, one by one, have the same total at most that
pub parts_same : {A B : Type 0} (α f : A → ℕ) (β h : B → ℕ) (last : ℕ) (a : ℕ → A) (b : ℕ → B) (k : ℕ)
    → ((i : ℕ) → i < k → (α (a i) ≡ β (b i)) × (f (a i) ≡ h (b i)))
    → total f (at_most α last (upto a k)) ≡ total h (at_most β last (upto b k))
parts_same {A} {B} α f β h last a b k e =
    omega (
      arith,
      total-keep f (λ (z : A). leb (α z) last) (upto a k),
      total-keep h (λ (z : B). leb (β z) last) (upto b k),
      total-upto (λ (z : A). cond (leb (α z) last) (f z) 0) a k,
      total-upto (λ (z : B). cond (leb (β z) last) (h z) 0) b k,
      sum_below-same (λ (i : ℕ). cond (leb (α (a i)) last) (f (a i)) 0) (λ (i : ℕ). cond (leb (β (b i)) last) (h (b i)) 0) k
          (λ i l. ap₂ (λ (u v : ℕ). cond (leb u last) v 0) (e i l).0 (e i l).1),
    )

-- ---- entries that are queued where their key is at most the last distance
-- of no entries, none waits besides
pub more_none : (work : List ℕ) (len : ℕ) (g : ℕ → ℕ) (last : ℕ) → Queue work 0 len → More work work len 0 g last len
more_none work len g last q = record {
  queue = q;
  count = omega arith;
  keys = λ i l. absurd (omega arith);
  bag = λ f. refl;
  outside = outside-same work 0 (len + 0 + (len + 0));
}

-- one entry
module _ (work : List ℕ) (len last key id : ℕ) (word : key ≤ greatest_word) (small : id < 4294967296) where
  -- its key is read back
  one_key : key_of (packed key id) ≡ key
  one_key = key_packed key id small

  -- what waits with it, where the test of its key is known
  queued : (f : ℕ → ℕ) {b : Bool} → leb (key_of (packed key id)) last ≡ b
      → total f (at_most key_of last (packed key id ∷ []) ++ entries work 0 len) ≡ total f (cond b (packed key id ∷ []) [] ++ entries work 0 len)
  queued f e = ap (λ (b : Bool). total f (cond b (packed key id ∷ []) [] ++ entries work 0 len)) e

  -- above the last distance it does not wait
  pub more-above : last < key → Queue work 0 len → More work work len 1 (λ (i : ℕ). packed key id) last len
  more-above h q = record {
    queue = q;
    count = omega arith;
    keys = λ i l. omega (arith, one_key);
    bag = λ f. sym (queued f (lt-leb (key_of (packed key id)) last (omega (arith, one_key))));
    outside = outside-same work 0 (len + 1 + (len + 1));
  }

  -- else it waits, once it is pushed
  pub more-pushed : (work' : List ℕ) (v : ℕ) → key ≤ last → v ≡ packed key id → Pushed work work' 0 len v
      → More work work' len 1 (λ (i : ℕ). packed key id) last (len + 1)
  more-pushed work' v h e P = record {
    queue = P.queue;
    count = omega arith;
    keys = λ i l. omega (arith, one_key);
    bag = λ f.
        P.bag f ∙ ap (λ (v : ℕ). f v + total f (entries work 0 len)) e
        ∙ sym (queued f (le-leb (key_of (packed key id)) last (omega (arith, one_key))));
    outside = outside_more work work' 0 (len + 1 + (len + 1)) 0 (0 + (len + len) + 2) (omega arith) (omega arith) P.outside;
  }

-- after k entries, one more
pub more_one : (work work₁ work₂ : List ℕ) (len k : ℕ) (g : ℕ → ℕ) (last size size' e : ℕ) → More work work₁ len k g last size → e ≡ g k
    → More work₁ work₂ size 1 (λ (i : ℕ). e) last size' → More work work₂ len (k + 1) g last size'
more_one work work₁ work₂ len k g last size size' e M q P₀ = record {
  queue = P.queue;
  count = omega (arith, M.count, P.count);
  keys = λ i l. keys i l (dec_lt i k);
  bag = λ f.
      P.bag f ∙ bag f (leb (key_of (g k)) last)
      ∙ ap (λ (z : ℕ). total f (at_most key_of last (upto g z) ++ entries work 0 len)) (sym (add-one k));
  outside = outside_then work work₁ work₂ 0 (len + (k + 1) + (len + (k + 1))) 0 (size + 1 + (size + 1)) (omega arith) (omega (arith, M.count))
      (outside_more work work₁ 0 (len + (k + 1) + (len + (k + 1))) 0 (len + k + (len + k)) (omega arith) (omega arith) M.outside) P.outside;
}
  where
    P : More work₁ work₂ size 1 (λ (i : ℕ). g k) last size'
    P = subst (λ (e : ℕ). More work₁ work₂ size 1 (λ (i : ℕ). e) last size') q P₀

    keys : (i : ℕ) → i < k + 1 → Dec (i < k) → key_of (g i) ≤ greatest_word
    keys i l (yes h) = M.keys i h
    keys i l (no h) =
        let z : k ≡ i = omega arith in
        subst (λ (i : ℕ). key_of (g i) ≤ greatest_word) z (P.keys 0 (omega arith))

    bag : (f : ℕ → ℕ) (b : Bool) → total f (cond b (g k ∷ []) [] ++ entries work₁ 0 size)
        ≡ total f (cond b (g k ∷ at_most key_of last (upto g k)) (at_most key_of last (upto g k)) ++ entries work 0 len)
    bag f true = omega (arith, M.bag f)
    bag f false = M.bag f
