-- What the set says of a text that is taken, and that no second outcome fits. Assumes nothing.
use Prim.Native.Nat.{ℕ}
use Rattle.orders.proofs.Striking.{same_set}
use Rattle.rowset.specs.Sets.{Narrow, is_in_lem, set_bad_lem}
use Rattle.withdrawing.specs.Withdrawn.{Withdraws, is_said_lem, wrong_line}
use mathlib.Core.Bool.{Bool, ◌||◌, false, true}
use mathlib.Core.List.{List}
use mathlib.Core.Path.{◌∙◌, ◌≡◌, ap, refl, sym}

module _ {t : List ℕ} {n : ℕ} {s : List ℕ} where
  -- IN A SET THAT WAS EMPTY A ROW STANDS EXACTLY IF SOME LINE ABOVE THE FIRST FAULT, OR ANY WHERE THERE IS NONE, SAYS IT
  pub withdrawn-rows : {s' : List ℕ} {wrong line : ℕ} → Withdraws t n s s' wrong line → set_bad_lem s n ≡ false → ((r : ℕ) → is_in_lem s r ≡ false)
      → (r : ℕ) → is_in_lem s' r ≡ is_said_lem t (wrong_line n t) r
  withdrawn-rows w b e r = w.rows b r ∙ ap (λ (x : Bool). x || is_said_lem t (wrong_line n t) r) (e r)

  -- NO SECOND OUTCOME FITS, of sets whose words have 32 bits, as those of every lent set have
  pub withdraw-only : {s₁ s₂ : List ℕ} {w₁ w₂ l₁ l₂ : ℕ} → Narrow s₁ → Narrow s₂ → Withdraws t n s s₁ w₁ l₁ → Withdraws t n s s₂ w₂ l₂
      → (w₁ ≡ w₂) × (l₁ ≡ l₂) × (s₁ ≡ s₂)
  withdraw-only {s₁} {s₂} {w₁} {w₂} {l₁} {l₂} h g a b = go (set_bad_lem s n) refl
    where
      go : (x : Bool) → set_bad_lem s n ≡ x → (w₁ ≡ w₂) × (l₁ ≡ l₂) × (s₁ ≡ s₂)
      go true e =
          let p = a.unset e in
          let q = b.unset e in
          (p.0 ∙ sym q.0, p.1 ∙ sym q.1, p.2 ∙ sym q.2)
      go false e = (
        a.said e ∙ sym (b.said e),
        a.where# e ∙ sym (b.where# e),
        same_set (record { narrow = h; right = a.right e }) (record { narrow = g; right = b.right e }) (λ r l. a.rows e r ∙ sym (b.rows e r)),
      )
