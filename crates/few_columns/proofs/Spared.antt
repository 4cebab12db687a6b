-- What is safe is spared: no other centre is closer. Assumes nothing.
use Prim.Native.Nat.{◌+◌, ◌-◌, ◌<◌, ◌≤◌, ℕ}
use Rattle.child_strays.specs.Strays.{Firsts, closer_than}
use Rattle.laws.proofs.First.{any-lost}
use Rattle.laws.specs.Lists.{any, range}
use Rattle.spared_rows.specs.Safe.{SafeTo}
use Rattle.words.specs.Words.{first#, m#, row#}
use borrow.Author.Tests.{le-ltb}
use lib.ListN.{get_or}
use mathlib.Core.Bool.{false}
use mathlib.Core.List.{List}
use mathlib.Core.Path.{◌∙◌, ◌≡◌, ap, sym}
use native.Mathlib.Omega.{arith}

module _ (d : ℕ → ℕ → ℕ) where
  -- no centre is closer to a row that is within what is safe
  pub none-closer : (w : List ℕ) (child p g x safe : ℕ) (fs : List ℕ) → Firsts w child fs → x ≡ d g (row# w p) → SafeTo d fs g (m# w) safe → x ≤ safe
      → false ≡ any (closer_than d w p x) (range child (m# w))
  none-closer w child p g x safe fs F e S q =
      sym (any-lost (closer_than d w p x) child (m# w) (record { from = omega arith; to = omega arith; none = none; here = λ h. absurd (omega arith) }))
    where
      none : (j : ℕ) → child ≤ j → j < child + m# w → closer_than d w p x j ≡ false
      none j lo hi =
          let n : child + (j - child) ≡ j = omega arith in
          let f : get_or fs (j - child) 0 ≡ first# w j = F.at (j - child) (omega arith) ∙ ap (first# w) n in
          let far = S (j - child) (omega arith) (row# w p) (omega (arith, q, e)) in
          le-ltb (d (first# w j) (row# w p)) x (omega (arith, e, far, ap (λ (k : ℕ). d k (row# w p)) f))
