-- Entries learn of a new centre, one after the other. Assumes nothing.
use Prim.Native.Nat.{◌+◌, ◌-◌, ◌<◌, ◌≤◌, ℕ}
use Rattle.laws.proofs.Parts.{put_part}
use Rattle.rounds.proofs.Entries.{Front, entries_front, near_front}
use Rattle.rounds.specs.Entries.{Entries, near_all}
use borrow.Rule.Slice.PartMut.{mid_of, put_mid}
use lib.Dec.{ltb}
use lib.ListN.{drop, drop_of_length-le, get_or, length, length-append, length-drop, set, take, take-append-drop}
use lib.Seq.{drop_at, drop-drop, get_or-take, length-take-le, take_all, take_at}
use mathlib.Core.Bool.{cond}
use mathlib.Core.List.{List, [], ◌++◌, ◌∷◌, append_assoc, append-nil}
use mathlib.Core.Path.{◌∙◌, ◌≡◌, ap, ap₂, refl, subst, sym}
use native.Mathlib.Omega.{arith}

-- ---- one entry learns of a centre
-- x is how far its row is from the centre: it keeps the lesser distance, and its centre, at a tie too, unless the new one is closer
pub near_entry : (d : ℕ → ℕ → ℕ) (j x : ℕ) (e : List ℕ) {y k : ℕ} → length e ≡ 3 → x ≡ d j (get_or e 0 0)
    → y ≡ cond (ltb x (get_or e 1 0)) x (get_or e 1 0) → k ≡ cond (ltb x (get_or e 1 0)) j (get_or e 2 0) → set (set e 1 y) 2 k ≡ near_all d j e
unfolding near_all
near_entry d j x [] l q y k = absurd (omega arith)
near_entry d j x (i ∷ []) l q y k = absurd (omega arith)
near_entry d j x (i ∷ z ∷ []) l q y k = absurd (omega arith)
near_entry d j x (i ∷ z ∷ a ∷ []) l q y k =
    ap₂ (λ (u v : ℕ). i ∷ u ∷ v ∷ []) (y ∙ ap (λ (w : ℕ). cond (ltb w z) w z) q) (k ∙ ap (λ (w : ℕ). cond (ltb w z) j a) q)
near_entry d j x (i ∷ z ∷ a ∷ b ∷ e) l q y k = absurd (omega arith)

-- ---- every entry learns of it
-- the entries before p have learnt of j
pub record Nearing (P : ℕ → Type 0) (d : ℕ → ℕ → ℕ) (j : ℕ) (es₀ es : List ℕ) (p : ℕ) : Type 0 where
  pub inside : p ≤ length es
  pub long : length es ≡ length es₀
  pub left : Entries P (drop p es)
  pub whole : take p es ++ near_all d j (drop p es) ≡ near_all d j es₀

-- no entry has learnt of it yet
pub nearing_start : (P : ℕ → Type 0) (d : ℕ → ℕ → ℕ) (j : ℕ) (es : List ℕ) → Entries P es → Nearing P d j es es 0
nearing_start P d j es e = record { inside = omega arith; long = refl; left = e; whole = refl }

module _ {P : ℕ → Type 0} {d : ℕ → ℕ → ℕ} {j : ℕ} {es₀ es : List ℕ} {p : ℕ} (inv : Nearing P d j es₀ es p) where
  -- the entry at p
  here : p < length es → Front P (drop p es)
  here h = entries_front P (drop p es) inv.left (omega (arith, length-drop p es))

  -- it has its three words
  pub nearing-fits : p < length es → p + 3 ≤ length es
  nearing-fits h = omega (arith, (here h).long, length-drop p es)

  -- its row has P
  pub nearing-row : p < length es → P (get_or (mid_of p (p + 3 - p) es) 0 0)
  nearing-row h =
      let three : p + 3 - p ≡ 3 = omega arith in
      rw (three, get_or-take 3 (drop p es) 0 0 (omega arith)) (here h).row

  -- it learns of j, and p is behind it
  pub nearing-step : (new : List ℕ) → p < length es → new ≡ near_all d j (mid_of p (p + 3 - p) es)
      → Nearing P d j es₀ (put_mid p (p + 3 - p) es new) (p + 3)
  nearing-step new h e =
      let fits = nearing-fits h in
      let f = near_front d j (drop p es) (here h).long in
      let three : p + 3 - p ≡ 3 = omega arith in
      let n : new ≡ near_all d j (take 3 (drop p es)) = e ∙ ap (λ (k : ℕ). near_all d j (take k (drop p es))) three in
      let rest : List ℕ = drop 3 (drop p es) in
      let split : put_mid p (p + 3 - p) es new ≡ (take p es ++ new) ++ rest =
      put_part (take p es) new es es p (p + 3) (length-take-le p es inv.inside) (omega arith) (sym (take-append-drop p es))
      ∙ ap (λ (l : List ℕ). (take p es ++ new) ++ l) (sym (drop-drop 3 p es)) in
      let size : length (take p es ++ new) ≡ p + 3 =
      omega (arith, length-append (take p es) new, length-take-le p es inv.inside, ap length n, f.1) in
      let back : drop (p + 3) (put_mid p (p + 3 - p) es new) ≡ rest = ap (drop (p + 3)) split ∙ drop_at (take p es ++ new) rest (p + 3) size in
      let fore : take (p + 3) (put_mid p (p + 3 - p) es new) ≡ take p es ++ new =
      ap (take (p + 3)) split ∙ take_at (take p es ++ new) rest (p + 3) size in
      let total : length (put_mid p (p + 3 - p) es new) ≡ length es =
      ap length split ∙ omega (arith, length-append (take p es ++ new) rest, length-drop 3 (drop p es), length-drop p es) in
      record {
        inside = omega arith;
        long = total ∙ inv.long;
        left = subst (Entries P) (sym back) (here h).after;
        whole =
            ap₂ (λ (a b : List ℕ). a ++ near_all d j b) fore back
            ∙ append_assoc (take p es) new (near_all d j rest)
            ∙ ap (λ (a : List ℕ). take p es ++ a) (ap (λ (a : List ℕ). a ++ near_all d j rest) n ∙ sym f.0)
            ∙ inv.whole;
      }

  -- all entries have learnt of it
  pub nearing-done : length es ≤ p → es ≡ near_all d j es₀
  unfolding near_all
  nearing-done h =
      sym (append-nil es) ∙ ap₂ (λ (a b : List ℕ). a ++ near_all d j b) (sym (take_all p es h)) (sym (drop_of_length-le es h)) ∙ inv.whole
