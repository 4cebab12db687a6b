-- Laws of whole entries: the first of them, one taken out, what they learn, and the one chosen next. Assumes nothing.
use Prim.Native.Nat.{◌%◌, ◌+◌, ◌<◌, ◌≤◌, suc, zero, ℕ}
use Rattle.rounds.specs.Entries.{Entries, ahead, all_but, far, far_in, near_all, next, others}
use lib.ListN.{drop, get_or, length, length-append, length-drop, take}
use lib.Seq.{drop-append-le, length-take-le, take-append-le}
use mathlib.Core.Bool.{Bool, cond, false, true}
use mathlib.Core.List.{List, [], ◌++◌, ◌∷◌, append_assoc}
use mathlib.Core.Path.{◌∙◌, ◌≡◌, ap₂, refl, sym}
use native.Mathlib.Omega.{arith}

-- the first entry, and the others
pub record Front (P : ℕ → Type 0) (es : List ℕ) : Type 0 where
  pub long : 3 ≤ length es
  pub row : P (get_or es 0 0)
  pub after : Entries P (drop 3 es)

-- where there is a word there is an entry
pub entries_front : (P : ℕ → Type 0) (es : List ℕ) → Entries P es → 0 < length es → Front P es
unfolding Entries
entries_front P [] e h = absurd (omega arith)
entries_front P (i ∷ []) e h = absurd e
entries_front P (i ∷ x ∷ []) e h = absurd e
entries_front P (i ∷ x ∷ a ∷ es) e h = record { long = omega arith; row = e.0; after = e.1 }

-- the entry at word b is taken out: the others are entries, and its row has P
pub but_entries : (P : ℕ → Type 0) (es : List ℕ) (b : ℕ) → Entries P es → b % 3 ≡ 0 → b + 3 ≤ length es → Entries P (all_but b es) × P (get_or es b 0)
unfolding Entries
but_entries P [] b e w h = absurd (omega arith)
but_entries P (i ∷ []) b e w h = absurd e
but_entries P (i ∷ x ∷ []) b e w h = absurd e
but_entries P (i ∷ x ∷ a ∷ es) zero e w h = (e.1, e.0)
but_entries P (i ∷ x ∷ a ∷ es) (suc zero) e w h = absurd (omega arith)
but_entries P (i ∷ x ∷ a ∷ es) (suc (suc zero)) e w h = absurd (omega arith)
but_entries P (i ∷ x ∷ a ∷ es) (suc (suc (suc b))) e w h =
    let r = but_entries P es b e.1 (omega arith) (omega arith) in
    let up : suc (suc (suc b)) + 3 ≡ suc (suc (suc (b + 3))) = omega arith in
    rw up ((e.0, r.0), r.1)

-- three words less
pub but_long : (es : List ℕ) (b : ℕ) → b + 3 ≤ length es → length (all_but b es) + 3 ≡ length es
but_long es b h = omega (arith, length-append (take b es) (drop (b + 3) es), length-take-le b es (omega arith), length-drop (b + 3) es)

-- entries behind them stay behind them
pub but_append : (es fs : List ℕ) (b : ℕ) → b + 3 ≤ length es → all_but b (es ++ fs) ≡ all_but b es ++ fs
but_append es fs b h =
    ap₂ (λ (x y : List ℕ). x ++ y) (take-append-le b es fs (omega arith)) (drop-append-le (b + 3) es fs h)
    ∙ sym (append_assoc (take b es) (drop (b + 3) es) fs)

-- ---- entries that learn of a centre
-- the first entry learns by itself, and stays three words
pub near_front : (d : ℕ → ℕ → ℕ) (j : ℕ) (es : List ℕ) → 3 ≤ length es
    → (near_all d j es ≡ near_all d j (take 3 es) ++ near_all d j (drop 3 es)) × (length (near_all d j (take 3 es)) ≡ 3)
unfolding near_all
near_front d j [] h = absurd (omega arith)
near_front d j (i ∷ []) h = absurd (omega arith)
near_front d j (i ∷ x ∷ []) h = absurd (omega arith)
near_front d j (i ∷ x ∷ a ∷ es) h = (refl, refl)

-- entries that learn of a centre keep their rows
near_entries : (P : ℕ → Type 0) (d : ℕ → ℕ → ℕ) (j : ℕ) (es : List ℕ) → Entries P es
    → Entries P (near_all d j es) × (length (near_all d j es) ≡ length es)
unfolding Entries near_all
near_entries P d j [] e = (tt, refl)
near_entries P d j (i ∷ []) e = absurd e
near_entries P d j (i ∷ x ∷ []) e = absurd e
near_entries P d j (i ∷ x ∷ a ∷ es) e = let r = near_entries P d j es e.1 in ((e.0, r.0), omega (arith, r.1))

-- ---- the entry that is chosen next
-- it is a whole entry
pub far_place : (es : List ℕ) → 3 ≤ length es → length es % 3 ≡ 0 → (far es + 3 ≤ length es) × (far es % 3 ≡ 0)
unfolding far
far_place [] h w = absurd (omega arith)
far_place (i ∷ []) h w = absurd (omega arith)
far_place (i ∷ x ∷ []) h w = absurd (omega arith)
far_place (i ∷ x ∷ a ∷ []) h w = (omega arith, refl)
far_place (i ∷ x ∷ a ∷ k ∷ es) h w =
    go (ahead i x (get_or (k ∷ es) (far (k ∷ es)) 0) (get_or (k ∷ es) (far (k ∷ es) + 1) 0)) (far_place (k ∷ es) (omega arith) (omega arith))
  where
    go : (s : Bool) → (far (k ∷ es) + 3 ≤ length (k ∷ es)) × (far (k ∷ es) % 3 ≡ 0)
        → (cond s 0 (3 + far (k ∷ es)) + 3 ≤ length (i ∷ x ∷ a ∷ k ∷ es)) × (cond s 0 (3 + far (k ∷ es)) % 3 ≡ 0)
    go true r = (omega arith, refl)
    go false r = (omega (arith, r.0), omega (arith, r.1))

-- one round leaves one entry less
pub others-entries : (P : ℕ → Type 0) (d : ℕ → ℕ → ℕ) (bound : ℕ) (es : List ℕ) → Entries P es → 3 ≤ bound → bound ≤ length es → bound % 3 ≡ 0
    → Entries P (others d bound es) × (length (others d bound es) + 3 ≡ length es)
unfolding others
others-entries P d bound es e h l w =
    let size : length (take bound es) ≡ bound = length-take-le bound es l in
    let f = far_place (take bound es) (omega arith) (rw size w) in
    let b : ℕ = far_in bound es in
    let fits : b + 3 ≤ length es = omega (arith, f.0) in
    let others = but_entries P es b e f.1 fits in
    let n = near_entries P d (next bound es) (all_but b es) others.0 in
    (n.0, omega (arith, n.1, but_long es b fits))
