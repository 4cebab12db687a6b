-- How-bytes of which the first n are wiped. Assumes nothing.
use Prim.Native.Nat.{◌+◌, ◌-◌, ◌<◌, ◌≤◌, ℕ}
use Rattle.buffers.specs.Wiped.{wiped}
use Rattle.words.specs.Words.{at}
use lib.ListN.{get_or-append, drop, get_or, get_or-replicate, length, length-append, length-drop, length-replicate, replicate}
use lib.Seq.{get_or-append-add, get_or-drop}
use mathlib.Core.List.{List}
use mathlib.Core.Path.{◌∙◌, ◌≡◌, ap, ap₂}
use native.Mathlib.Omega.{arith}

module _ (how how₁ : List ℕ) (n : ℕ) (h : n ≤ length how) (e : how₁ ≡ wiped n how) where
  -- there are as many as there were
  pub wiped-length : length how₁ ≡ length how
  wiped-length = ap length e ∙ length-append (replicate n 0) (drop n how) ∙ omega (arith, length-replicate {A = ℕ} n 0, length-drop n how)

  -- they are 0
  pub wiped-zero : (r : ℕ) → r < n → at how₁ r ≡ 0
  wiped-zero r l =
      ap (λ (l : List ℕ). at l r) e ∙ get_or-append (replicate n 0) (drop n how) 0 r (omega (arith, length-replicate {A = ℕ} n 0))
      ∙ get_or-replicate n r 0 0 l

  -- the others stay
  pub wiped-past : (i : ℕ) → n ≤ i → at how₁ i ≡ at how i
  wiped-past i l =
      let z : i ≡ length (replicate {A = ℕ} n 0) + (i - n) = omega (arith, length-replicate {A = ℕ} n 0) in
      let s : n + (i - n) ≡ i = omega arith in
      ap₂ (λ (l : List ℕ) (i : ℕ). get_or l i 0) e z ∙ get_or-append-add (replicate n 0) (drop n how) (i - n) 0 ∙ get_or-drop n how (i - n) 0
      ∙ ap (at how) s
