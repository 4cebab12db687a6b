-- The search for the entry that is farthest from the centres, from the end down. Assumes nothing.
use Prim.Native.Nat.{◌%◌, ◌+◌, ◌-◌, ◌<◌, ◌≤◌, ℕ}
use Rattle.rounds.specs.Entries.{ahead, ahead_of, far}
use lib.ListN.{drop, get_or, length, length-drop}
use lib.Seq.{drop-drop, get_or-drop}
use mathlib.Core.Bool.{Bool, cond, false, true}
use mathlib.Core.List.{List, [], ◌∷◌}
use mathlib.Core.Path.{◌∙◌, ◌≡◌, ap, refl, sym}
use native.Mathlib.Nat.{zero-add}
use native.Mathlib.Omega.{arith}

-- the entry at p is chosen before the one at b
abbrev pub ahead_at : List ℕ → ℕ → ℕ → Bool
ahead_at es p b = ahead (get_or es p 0) (get_or es (p + 1) 0) (get_or es b 0) (get_or es (b + 1) 0)

-- ---- where the farthest stands
-- of two entries or more: the first, or the farthest of the others
far_front : (es : List ℕ) → 4 ≤ length es → far es ≡ ahead_of (get_or es 0 0) (get_or es 1 0) (drop 3 es) (far (drop 3 es))
unfolding far
far_front [] h = absurd (omega arith)
far_front (i ∷ []) h = absurd (omega arith)
far_front (i ∷ x ∷ []) h = absurd (omega arith)
far_front (i ∷ x ∷ a ∷ []) h = absurd (omega arith)
far_front (i ∷ x ∷ a ∷ e ∷ es) h = refl

-- of one entry: that
far_end : (es : List ℕ) → length es ≡ 3 → far es ≡ 0
unfolding far
far_end [] h = refl
far_end (i ∷ []) h = refl
far_end (i ∷ x ∷ []) h = refl
far_end (i ∷ x ∷ a ∷ []) h = refl
far_end (i ∷ x ∷ a ∷ e ∷ es) h = absurd (omega arith)

-- from p on: p, or the farthest from the next entry on, which is b
far-step : (es : List ℕ) (p b : ℕ) → p + 6 ≤ length es → b ≡ p + 3 + far (drop (p + 3) es) → p + far (drop p es) ≡ cond (ahead_at es p b) p b
far-step es p b h e =
    let k : ℕ = far (drop (p + 3) es) in
    let t : drop 3 (drop p es) ≡ drop (p + 3) es = drop-drop 3 p es in
    let y : get_or (drop (p + 3) es) k 0 ≡ get_or es b 0 = get_or-drop (p + 3) es k 0 ∙ ap (λ (i : ℕ). get_or es i 0) (sym e) in
    let z : get_or (drop (p + 3) es) (k + 1) 0 ≡ get_or es (b + 1) 0 =
    get_or-drop (p + 3) es (k + 1) 0 ∙ ap (λ (i : ℕ). get_or es i 0) (omega arith) in
    let o : get_or (drop p es) 0 0 ≡ get_or es p 0 = get_or-drop p es 0 0 ∙ ap (λ (i : ℕ). get_or es i 0) (omega arith) in
    ap (λ (n : ℕ). p + n)
    (far_front (drop p es) (omega (arith, length-drop p es))
    ∙ rw (t, y, z, o, get_or-drop p es 1 0))
    ∙ pick (ahead_at es p b) k e
  where
    pick : (s : Bool) (k : ℕ) → b ≡ p + 3 + k → p + cond s 0 (3 + k) ≡ cond s p b
    pick true k e = omega arith
    pick false k e = omega arith

-- the search has come down to p, and b is the farthest from there on
pub record Seeking (es : List ℕ) (p b : ℕ) : Type 0 where
  pub inside : p + 3 ≤ length es
  pub whole : p % 3 ≡ 0
  pub fits : b + 3 ≤ length es
  pub place : b % 3 ≡ 0
  pub here : b ≡ p + far (drop p es)

-- at the last entry
pub seeking_start : (es : List ℕ) → 3 ≤ length es → length es % 3 ≡ 0 → Seeking es (length es - 3) (length es - 3)
seeking_start es h w =
    let p : ℕ = length es - 3 in
    let z : far (drop p es) ≡ 0 = far_end (drop p es) (omega (arith, length-drop p es)) in
    record { inside = omega arith; whole = omega arith; fits = omega arith; place = omega arith; here = omega arith }

-- one entry down: it is taken where it is ahead of b
pub seeking_step : {es : List ℕ} {p b : ℕ} → Seeking es p b → 0 < p → (s : Bool) → ahead_at es (p - 3) b ≡ s → Seeking es (p - 3) (cond s (p - 3) b)
seeking_step {es} {p} {b} inv h s t =
    let i : p + 3 ≤ length es = inv.inside in
    let w : p % 3 ≡ 0 = inv.whole in
    let up : p - 3 + 3 ≡ p = omega arith in
    let f = far-step es (p - 3) b (omega arith) (rw up inv.here) in
    let q : cond s (p - 3) b ≡ p - 3 + far (drop (p - 3) es) = sym (f ∙ ap (λ (s : Bool). cond s (p - 3) b) t) in
    record { inside = omega arith; whole = omega arith; fits = (either s).0; place = (either s).1; here = q }
  where
    either : (s : Bool) → (cond s (p - 3) b + 3 ≤ length es) × (cond s (p - 3) b % 3 ≡ 0)
    either true = (omega (arith, inv.inside), omega (arith, inv.whole))
    either false = (inv.fits, inv.place)

-- at the first entry
pub seeking_done : {es : List ℕ} {p b : ℕ} → Seeking es p b → p ≤ 0 → (b ≡ far es) × (b + 3 ≤ length es) × (b % 3 ≡ 0)
seeking_done {es} {p} {b} inv h =
    let z : p ≡ 0 = omega arith in
    (inv.here ∙ ap (λ (k : ℕ). k + far (drop k es)) z ∙ zero-add (far es), inv.fits, inv.place)
