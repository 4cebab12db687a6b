-- A list filled place by place: it holds f 0, f 1, .. f (j - 1), all at most B. Assumes nothing.
use Prim.Native.Nat.{◌+◌, ◌<◌, ◌≤◌, suc, zero, ℕ}
use lib.ListN.{get_or, length, set}
use lib.Seq.{get_or-set_other, get_or-set_same}
use mathlib.Core.List.{List}
use mathlib.Core.Logic.{⊎_elim}
use mathlib.Core.Path.{◌≡◌, subst⁻¹}
use native.Mathlib.Nat.{eq-or-lt_of_le}
use native.Mathlib.Omega.{arith}

module _ (f : ℕ → ℕ) (B : ℕ) where
  -- the first j places hold f, none above B
  abbrev pub Holds : List ℕ → ℕ → Type 0
  Holds ds j = (i : ℕ) → i < j → (get_or ds i 0 ≡ f i) × (get_or ds i 0 ≤ B)

  -- the first stands there
  pub holds-one : (ds : List ℕ) → get_or ds 0 0 ≡ f 0 → get_or ds 0 0 ≤ B → Holds ds 1
  holds-one ds e b zero h = (e, b)
  holds-one ds e b (suc i) h = absurd (omega arith)

  -- a turn adds the next
  pub holds_more : (ds : List ℕ) (j : ℕ) {d : ℕ} → j < length ds → d ≡ f j → d ≤ B → Holds ds j → Holds (set ds j d) (j + 1)
  holds_more ds j {d} l e b h i lt =
      ⊎_elim (λ (q : i ≡ j). subst⁻¹ (λ (i : ℕ). (get_or (set ds j d) i 0 ≡ f i) × (get_or (set ds j d) i 0 ≤ B)) q (rw (get_or-set_same ds j d 0) at_j))
      (λ (q : i < j). rw (get_or-set_other ds j i d 0 (λ (r : i ≡ j). omega arith)) (h i q))
      (eq-or-lt_of_le (omega arith))
    where
      at_j : (d ≡ f j) × (d ≤ B)
      at_j = (e, b)
