-- Laws of the first number that passes a test, and of ranges gone through from their start. Assumes nothing.
use Prim.Native.Nat.{◌+◌, ◌-◌, ◌<◌, ◌≤◌, min, suc, zero, ℕ}
use Rattle.laws.proofs.Empty.{any_none, keep-none}
use Rattle.laws.proofs.Ranges.{range-every}
use Rattle.laws.specs.First.{First}
use Rattle.laws.specs.Lists.{any, keep, range}
use mathlib.Core.Bool.{Bool, ◌||◌, cond, false, or_assoc, or-false, or-true, true, true≢false}
use mathlib.Core.List.{[], ◌∷◌}
use mathlib.Core.Logic.{by_cases}
use mathlib.Core.Path.{◌∙◌, ◌≡◌, ap, refl, subst, sym}
use native.Mathlib.Decide.{dec_lt}
use native.Mathlib.Nat.{add-suc, add-zero, not-suc-le-zero, suc-add}
use native.Mathlib.Numerals.{add-one}
use native.Mathlib.Omega.{arith}

-- ---- a search: `First f lo p p` says that none from lo up to p passes
module _ (f : ℕ → Bool) (lo : ℕ) where
  -- before the search none is passed by
  pub search-start : First f lo lo lo
  search-start = record { from = omega arith; to = omega arith; none = λ p u v. absurd (omega arith); here = λ q. absurd (omega arith) }

  -- one that fails is passed by
  pub search-on : (p : ℕ) → First f lo p p → f p ≡ false → First f lo (p + 1) (p + 1)
  search-on p F n =
      record {
        from = omega (arith, F.from);
        to = omega arith;
        none = λ q u v.
            by_cases (dec_lt q p) (λ l. F.none q u l)
            (λ l.
            let e : q ≡ p = omega arith in
            subst (λ i. f i ≡ false) (sym e) n);
        here = λ q. absurd (omega arith);
      }

  -- one that passes is the first
  pub search-stop : (hi p : ℕ) → First f lo p p → p < hi → f p ≡ true → First f lo hi p
  search-stop hi p F h t = record { from = F.from; to = omega arith; none = F.none; here = λ _. t }

  -- a search that came to the end found none
  pub search-end : (hi p : ℕ) → p ≡ hi → First f lo p p → First f lo hi p
  search-end hi p e F = subst (λ i. First f lo i p) e F

  -- one that is not below hi is hi
  pub first-at-end : (hi r : ℕ) → hi ≤ r → First f lo hi r → First f lo hi hi
  first-at-end hi r h F =
      let e : r ≡ hi = omega (arith, F.to) in
      subst (First f lo hi) e F

-- ---- other tests, and other bounds
-- a test that never passes has no first
pub first-none : (f : ℕ → Bool) (lo hi : ℕ) → lo ≤ hi → ((p : ℕ) → f p ≡ false) → First f lo hi hi
first-none f lo hi h n = record { from = h; to = omega arith; none = λ p _ _. n p; here = λ q. absurd (omega arith) }

-- equal tests have the same first
pub first-same : (f g : ℕ → Bool) (lo hi r : ℕ) → ((p : ℕ) → f p ≡ g p) → First f lo hi r → First g lo hi r
first-same f g lo hi r e F =
    record { from = F.from; to = F.to; none = λ p a b. sym (e p) ∙ F.none p a b; here = λ q. sym (e r) ∙ F.here q }

-- THE FIRST OF TWO TESTS IS THE LESSER OF THE TWO FIRSTS
pub first_or : (f g : ℕ → Bool) (lo hi a b : ℕ) → First f lo hi a → First g lo hi b → First (λ p. f p || g p) lo hi (min a b)
first_or f g lo hi a b F G =
    record {
      from = omega (arith, F.from, G.from);
      to = omega (arith, F.to, G.to);
      none = λ p u v. rw (F.none p u (omega arith), G.none p u (omega arith));
      here = λ q.
          by_cases (dec_lt a b)
          (λ l.
          let e : min a b ≡ a = omega arith in
          rw (e, F.here (omega arith)))
          (λ l.
          let e : min a b ≡ b = omega arith in
          rw (e, G.here (omega arith)) (or-true (f b)));
    }

-- a search of a .. b, where none passes outside: one is found, or none
module _ (f : ℕ → Bool) (lo a b hi : ℕ) (below : (p : ℕ) → p < a → f p ≡ false) where
  -- one that is found in a .. b is the first of lo .. hi
  pub first_found : (r : ℕ) → lo ≤ a → b ≤ hi → r < b → First f a b r → First f lo hi r
  first_found r h k q F =
      record {
        from = omega (arith, F.from);
        to = omega arith;
        none = λ p u v. by_cases (dec_lt p a) (λ l. below p l) (λ l. F.none p (omega arith) v);
        here = λ _. F.here q;
      }

  -- and where none is there is none in lo .. hi
  pub first-lost : lo ≤ hi → ((p : ℕ) → b ≤ p → f p ≡ false) → First f a b b → First f lo hi hi
  first-lost h past F =
      record {
        from = h;
        to = omega arith;
        none = λ p u v.
            by_cases (dec_lt p a) (λ l. below p l)
            (λ l. by_cases (dec_lt p b) (λ m. F.none p (omega arith) m) (λ m. past p (omega arith)));
        here = λ q. absurd (omega arith);
      }

-- ---- what the first says of the range's numbers: none passes, or it is the first that is kept
module _ (f : ℕ → Bool) where
  -- where there is none, none is kept
  pub first-empty : (lo n : ℕ) → First f lo (lo + n) (lo + n) → keep f (range lo n) ≡ []
  first-empty lo n F = keep-none f (range lo n) (range-every (λ p. f p ≡ false) lo n (λ i h. F.none (lo + i) (omega arith) (omega arith)))

  -- else it is the first that is kept
  pub first-kept : (n lo hi r : ℕ) → lo + n ≡ hi → r < hi → First f lo hi r → keep f (range lo n) ≡ r ∷ keep f (range (suc r) (hi - suc r))
  first-kept zero lo hi r e q F = absurd (omega (arith, F.from))
  first-kept (suc n) lo hi r e q F = go (f lo) refl (λ k. first-kept n (suc lo) hi r (omega arith) q (later k))
    where
      later : f lo ≡ false → First f (suc lo) hi r
      later k =
          let above : lo < r =
          by_cases (dec_lt lo r) (λ l. l)
          (λ l.
          let z : r ≡ lo = omega (arith, F.from) in
          absurd (true≢false (sym (subst (λ i. f i ≡ true) z (F.here q)) ∙ k))) in
          record { from = above; to = F.to; none = λ p u v. F.none p (omega arith) v; here = F.here }

      go : (b : Bool) → f lo ≡ b → (f lo ≡ false → keep f (range (suc lo) n) ≡ r ∷ keep f (range (suc r) (hi - suc r)))
          → cond b (lo ∷ keep f (range (suc lo) n)) (keep f (range (suc lo) n)) ≡ r ∷ keep f (range (suc r) (hi - suc r))
      go true k ih =
          by_cases (dec_lt lo r) (λ l. absurd (true≢false (sym k ∙ F.none lo (omega arith) l)))
          (λ l.
          let z : lo ≡ r = omega (arith, F.from) in
          let m : n ≡ hi - suc lo = omega arith in
          ap (λ k. lo ∷ keep f (range (suc lo) k)) m ∙ ap (λ i. i ∷ keep f (range (suc i) (hi - suc i))) z)
      go false k ih = ih k

  -- a range with a number that passes
  any_at : (a n i : ℕ) → i < n → f (a + i) ≡ true → any f (range a n) ≡ true
  any_at a zero i h t = absurd (not-suc-le-zero h)
  any_at a (suc n) zero h t =
      let e : f a ≡ true = rw add-zero at t in
      rw e
  any_at a (suc n) (suc i) h t = rw (any_at (suc a) n i (omega arith) (rw (add-suc a i, ← suc-add a i) at t)) (or-true (f a))

  -- where one is found, some number passes
  pub any-first : (lo n r : ℕ) → First f lo (lo + n) r → r < lo + n → any f (range lo n) ≡ true
  any-first lo n r F h =
      let e : r ≡ lo + (r - lo) = omega (arith, F.from) in
      any_at lo n (r - lo) (omega (arith, F.from)) (subst (λ i. f i ≡ true) e (F.here h))

  -- where none is, none does
  pub any-lost : (lo n : ℕ) → First f lo (lo + n) (lo + n) → any f (range lo n) ≡ false
  any-lost lo n F = any_none f (range lo n) (range-every (λ p. f p ≡ false) lo n (λ i h. F.none (lo + i) (omega arith) (omega arith)))

  -- a test of a range that grows at its end
  pub any-more : (a k : ℕ) → any f (range a (k + 1)) ≡ (any f (range a k) || f (a + k))
  any-more a k = rw (add-one k) (go a k)
    where
      go : (a k : ℕ) → any f (range a (suc k)) ≡ (any f (range a k) || f (a + k))
      go a zero = or-false (f a) ∙ ap f (sym (add-zero a))
      go a (suc k) =
          ap (λ b. f a || b) (go (suc a) k) ∙ sym (or_assoc (f a) (any f (range (suc a) k)) (f (suc a + k)))
          ∙ ap (λ i. any f (range a (suc k)) || f i) (suc-add a k ∙ sym (add-suc a k))

-- ---- a range gone through from its start: it is its start and the rest, or over
-- before its end: its start, and the range from the next number on
pub range_on : (p e : ℕ) → p < e → range p (e - p) ≡ p ∷ range (p + 1) (e - (p + 1))
range_on p e h =
    let q : e - p ≡ suc (e - (p + 1)) = omega arith in
    rw (q, add-one)

-- at its end: nothing
pub range-over : (p e : ℕ) → e ≤ p → range p (e - p) ≡ []
range-over p e h =
    let q : e - p ≡ 0 = omega arith in
    rw q
