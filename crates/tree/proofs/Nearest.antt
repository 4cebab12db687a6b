-- The nearest member of a node's run other than its first, from the run's second position on. Assumes nothing.
use Prim.Native.Nat.{◌+◌, ◌-◌, ◌<◌, ◌≤◌, min, suc, ℕ}
use Rattle.laws.proofs.First.{range_on, range-over}
use Rattle.laws.specs.Lists.{least, lowest, range, rest}
use Rattle.tree.specs.Check.{nearest#}
use Rattle.words.specs.Words.{count#, first#, row#, start#}
use mathlib.Core.List.{List, [], ◌∷◌, map}
use mathlib.Core.Path.{◌∙◌, ◌≡◌, ap, ap₂, sym}
use native.Mathlib.Omega.{arith}

-- the least where one more number is at hand
least-min : (a b : ℕ) (xs : List ℕ) → least (min a b) xs ≡ min b (least a xs)
least-min a b [] = omega arith
least-min a b (x ∷ xs) = omega (arith, least-min a b xs)

module _ (d : ℕ → ℕ → ℕ) (w : List ℕ) (k : ℕ) where
  -- the distance from its first of the row at p
  abbrev off : ℕ → ℕ
  off p = d (first# w k) (row# w p)

  -- near is the least distance of a member other than the first that was found up to position p of its run, and the rest is to come
  abbrev pub NearTo : ℕ → ℕ → Type 0
  NearTo p near = least near (map off (range p (start# w k + count# w k - p))) ≡ nearest# d w k

  -- a run of one row has none
  pub near_none : 1 ≤ count# w k → start# w k + count# w k ≤ start# w k + 1 → 0 ≡ nearest# d w k
  near_none s h =
      let e : count# w k ≡ 1 = omega arith in
      ap (λ n. lowest (map off (rest (range (start# w k) n)))) (sym e)

  -- at the second position it is that one's distance
  pub near-start : {p f a : ℕ} → start# w k + 1 < start# w k + count# w k → p ≡ start# w k + 1 → f ≡ first# w k → a ≡ d f (row# w p)
      → NearTo (p + 1) a
  near-start {p} {f} {a} h ep ef ea =
      let n : ℕ = count# w k - 2 in
      let two : count# w k ≡ suc (suc n) = omega arith in
      let rest-is : start# w k + count# w k - (p + 1) ≡ n = omega arith in
      let at_p : p ≡ suc (start# w k) = omega arith in
      let next : p + 1 ≡ suc (suc (start# w k)) = omega arith in
      let first_off : a ≡ off (suc (start# w k)) = ea ∙ ap₂ (λ f p. d f (row# w p)) ef at_p in
      ap₂ (λ (z : ℕ) (l : List ℕ). least z (map off l)) first_off (ap₂ range next rest-is)
      ∙ ap (λ n. lowest (map off (rest (range (start# w k) n)))) (sym two)

  -- one position more
  pub near_next : (p near : ℕ) {f a r : ℕ} → p < start# w k + count# w k → NearTo p near → f ≡ first# w k → a ≡ d f (row# w p)
      → r ≡ min near a → NearTo (p + 1) r
  near_next p near {f} {a} {r} h F ef ea er =
      let e = ap (λ l. least near (map off l)) (range_on p (start# w k + count# w k) h) in
      let q : a ≡ off p = ea ∙ ap (λ f. d f (row# w p)) ef in
      ap (λ z. least z (map off (range (p + 1) (start# w k + count# w k - (p + 1))))) (er ∙ ap (min near) q)
      ∙ least-min near (off p) (map off (range (p + 1) (start# w k + count# w k - (p + 1)))) ∙ sym e ∙ F

  -- at the run's end it is the nearest
  pub near-done : (p near : ℕ) → start# w k + count# w k ≤ p → NearTo p near → near ≡ nearest# d w k
  near-done p near h F =
      sym (ap (λ l. least near (map off l)) (range-over p (start# w k + count# w k) h)) ∙ F
