-- The pass over a node's run: the greatest and the least of its distances, from the second position on. Assumes nothing.
use Prim.Native.Nat.{◌+◌, ◌-◌, ◌<◌, ◌≤◌, max, min, suc, ℕ}
use Rattle.laws.proofs.First.{range_on, range-over}
use Rattle.laws.specs.Lists.{greatest, least, lowest, range, rest}
use Rattle.reach.specs.Runs.{Reaches, reach_of}
use Rattle.tree.specs.Check.{nearest#}
use Rattle.words.specs.Words.{count#, first#, row#, start#}
use mathlib.Core.List.{List, [], ◌∷◌, map}
use mathlib.Core.Path.{◌∙◌, ◌≡◌, ap, ap₂, sym}
use native.Mathlib.Omega.{arith}

-- the least where one more number is at hand
least-min : (a b : ℕ) (xs : List ℕ) → least (min a b) xs ≡ min b (least a xs)
least-min a b [] = omega arith
least-min a b (x ∷ xs) = omega (arith, least-min a b xs)

module _ (d : ℕ → ℕ → ℕ) (w : List ℕ) (k : ℕ) where
  -- the distance from node k's first of the row at p
  abbrev off : ℕ → ℕ
  off p = d (first# w k) (row# w p)

  -- the distances from position p of its run on
  abbrev left : ℕ → List ℕ
  left p = map off (range p (start# w k + count# w k - p))

  -- up to position p the members but the first are at most `far` away and at least `near`, and the rest of the run is to come
  pub record Reaching (p far near : ℕ) : Type 0 where
    pub outer : max far (greatest (left p)) ≡ reach_of d w k
    pub inner : least near (left p) ≡ nearest# d w k

  -- a run of one row reaches nowhere: its first is at 0
  pub reach-one : ((i : ℕ) → d i i ≡ 0) → 1 ≤ count# w k → start# w k + count# w k ≤ start# w k + 1 → Reaches d w k 0 0
  reach-one self some h =
      let one : count# w k ≡ 1 = omega arith in
      let zero : off (start# w k) ≡ 0 = self (first# w k) in
      let none : 0 ≡ max (off (start# w k)) 0 = omega (arith, zero) in
      record {
        outer = none ∙ ap (λ (n : ℕ). greatest (map off (range (start# w k) n))) (sym one);
        inner = ap (λ (n : ℕ). lowest (map off (rest (range (start# w k) n)))) (sym one);
      }

  -- at the second position p both are its distance a, measured from f
  pub reach-two : ((i : ℕ) → d i i ≡ 0) → {p f a : ℕ} → start# w k + 1 < start# w k + count# w k → p ≡ start# w k + 1 → f ≡ first# w k
      → a ≡ d f (row# w p) → Reaching (p + 1) a a
  reach-two self {p} {f} {a} h ep ef ea =
      let s : ℕ = start# w k in
      let n : ℕ = count# w k - 2 in
      let two : count# w k ≡ suc (suc n) = omega arith in
      let long : s + count# w k - (p + 1) ≡ n = omega arith in
      let second : p ≡ suc s = omega arith in
      let third : p + 1 ≡ suc (suc s) = omega arith in
      let here : a ≡ off (suc s) = ea ∙ ap₂ (λ f p. d f (row# w p)) ef second in
      let later : List ℕ = map off (range (suc (suc s)) n) in
      let tail : left (p + 1) ≡ later = ap₂ (λ a n. map off (range a n)) third long in
      let zero : off s ≡ 0 = self (first# w k) in
      let most : max (off (suc s)) (greatest later) ≡ max (off s) (max (off (suc s)) (greatest later)) = omega (arith, zero) in
      record {
        outer = ap₂ (λ (x : ℕ) (l : List ℕ). max x (greatest l)) here tail ∙ most
            ∙ ap (λ (n : ℕ). greatest (map off (range s n))) (sym two);
        inner = ap₂ least here tail ∙ ap (λ (n : ℕ). lowest (map off (rest (range s n)))) (sym two);
      }

  -- one position more: f is the first, a the distance at p, g the greater of that and of what was found, and l the lesser
  pub reach-next : {p far near f a g l : ℕ} → Reaching p far near → p < start# w k + count# w k → f ≡ first# w k → a ≡ d f (row# w p)
      → g ≡ max far a → l ≡ min near a → Reaching (p + 1) g l
  reach-next {p} {far} {near} {f} {a} {g} {l} R h ef ea eg el =
      let here : a ≡ off p = ea ∙ ap (λ f. d f (row# w p)) ef in
      let on : left p ≡ off p ∷ left (p + 1) = ap (map off) (range_on p (start# w k + count# w k) h) in
      let most : max far (max (off p) (greatest (left (p + 1)))) ≡ reach_of d w k = sym (ap (λ l. max far (greatest l)) on) ∙ R.outer in
      record {
        outer = omega (arith, most);
        inner = ap (λ z. least z (left (p + 1))) (el ∙ ap (min near) here) ∙ least-min near (off p) (left (p + 1)) ∙ sym (ap (least near) on)
            ∙ R.inner;
      }

  -- at the run's end that is how far the node reaches
  pub reach-done : {p far near : ℕ} → Reaching p far near → start# w k + count# w k ≤ p → Reaches d w k far near
  reach-done {p} {far} {near} R h =
      let none : left p ≡ [] = ap (map off) (range-over p (start# w k + count# w k) h) in
      let most : max far 0 ≡ reach_of d w k = sym (ap (λ l. max far (greatest l)) none) ∙ R.outer in
      record { outer = omega (arith, most); inner = sym (ap (least near) none) ∙ R.inner }
