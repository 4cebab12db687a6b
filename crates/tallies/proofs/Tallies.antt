-- Laws of the counts of how-bytes. Assumes nothing.
use Prim.Native.Nat.{◌+◌, ◌-◌, ◌<◌, ◌≤◌, ℕ}
use Rattle.laws.proofs.Lists.{tally_append}
use Rattle.laws.proofs.Shares.{bit}
use Rattle.laws.specs.Lists.{tally}
use Rattle.tree.specs.Nearest.{is_measured}
use borrow.Author.Tests.{le-leb, lt-leb, ne_eqb}
use lib.Dec.{leb}
use lib.ListN.{drop, get_or, length, take}
use lib.Seq.{take-add, take-suc}
use mathlib.Core.Bool.{Bool, ◌||◌, false, true}
use mathlib.Core.List.{List, [], ◌∷◌}
use mathlib.Core.Path.{◌∙◌, ◌≡◌, ap, ap₂, sym}
use native.Mathlib.Nat.{add-zero}
use native.Mathlib.Numerals.{add-one}
use native.Mathlib.Omega.{arith}

-- a byte adds 1 at most
pub bit_most : (b : Bool) → bit b ≤ 1
bit_most true = omega arith
bit_most false = omega arith

-- a turn of the counting loop: a is the count of the first i, v what byte i adds
pub tally_next : (f : ℕ → Bool) (l : List ℕ) (i : ℕ) {a v : ℕ} → i < length l → a ≡ tally f (take i l) → v ≡ bit (f (get_or l i 0))
    → a + v ≡ tally f (take (i + 1) l)
tally_next f l i h p q =
    ap₂ (λ (a v : ℕ). a + v) p (q ∙ sym (add-zero (bit (f (get_or l i 0))))) ∙ sym (tally_append f (take i l) (get_or l i 0 ∷ []))
    ∙ ap (tally f) (sym (ap (λ (n : ℕ). take n l) (add-one i) ∙ take-suc l i 0 h))

-- a block of bytes counted: a is the count of the first i, v that of those from i to e
pub tally_part : (f : ℕ → Bool) (l : List ℕ) (i e : ℕ) {a v : ℕ} → i ≤ e → a ≡ tally f (take i l) → v ≡ tally f (take (e - i) (drop i l))
    → a + v ≡ tally f (take e l)
tally_part f l i e h p q =
    let w : i + (e - i) ≡ e = omega arith in
    ap₂ (λ (a v : ℕ). a + v) p q ∙ sym (tally_append f (take i l) (take (e - i) (drop i l))) ∙ ap (tally f) (sym (take-add i (e - i) l))
    ∙ ap (λ (k : ℕ). tally f (take k l)) w

-- ---- the tests on one byte
module _ (h : ℕ) where
  -- 2 and more say in
  pub in-yes : 2 ≤ h → 1 ≡ bit (leb 2 h)
  in-yes l = sym (ap bit (le-leb 2 h l))

  -- less does not
  pub in-no : h < 2 → 0 ≡ bit (leb 2 h)
  in-no l = sym (ap bit (lt-leb 2 h l))

  -- 1 says measured
  pub measured-one : h ≡ 1 → 1 ≡ bit (is_measured h)
  measured-one e = sym (ap (λ (h : ℕ). bit (is_measured h)) e)

  -- 3 does
  pub measured-three : h ≡ 3 → 1 ≡ bit (is_measured h)
  measured-three e = sym (ap (λ (h : ℕ). bit (is_measured h)) e)

  -- no other does
  pub measured-no : (h ≡ 1 → ⊥) → (h ≡ 3 → ⊥) → 0 ≡ bit (is_measured h)
  measured-no a b = sym (ap₂ (λ (a b : Bool). bit (a || b)) (ne_eqb h 1 a) (ne_eqb h 3 b))
