-- Answers in order: sorted lists, and a test that the first w pass may be put before the sorting. Assumes nothing.
use Prim.Native.Nat.{◌≤◌, suc, zero, ℕ}
use Rattle.laws.proofs.Every.{every-both, every-keep, every_of, every_take}
use Rattle.laws.specs.Every.{Every}
use Rattle.laws.specs.Lists.{keep}
use Rattle.tree.specs.Nearest.{before, insert, last_distance, sort}
use borrow.Author.Tests.{eq-eqb, eqb-false, eqb-true, le-leb, leb-false, leb-true, ltb-false, ltb-true}
use lib.Dec.{T, eqb, leb, ltb}
use lib.ListN.{take}
use mathlib.Core.Bool.{Bool, ◌&&◌, ◌||◌, cond, false, true}
use mathlib.Core.List.{List, [], ◌∷◌}
use mathlib.Core.Path.{◌∙◌, ◌≡◌, ap, ap₂, refl, subst, sym}
use native.Mathlib.Omega.{arith}

-- the order of answers, as a fact: by distance, and of equals by row number
abbrev pub Le : ℕ × ℕ → ℕ × ℕ → Type 0
Le a b = (a.1 ≤ b.1) × (a.1 ≡ b.1 → a.0 ≤ b.0)

-- the test passes: a comes first
before_le : (a b : ℕ × ℕ) → before a b ≡ true → Le a b
before_le a b e = go (ltb a.1 b.1) (eqb a.1 b.1) (leb a.0 b.0) refl refl refl e
  where
    go : (p q r : Bool) → ltb a.1 b.1 ≡ p → eqb a.1 b.1 ≡ q → leb a.0 b.0 ≡ r → (p || (q && r)) ≡ true → Le a b
    go true q r ep eq er e = (omega (arith, ltb-true a.1 b.1 ep), λ h. absurd (omega (arith, ltb-true a.1 b.1 ep)))
    go false true true ep eq er e = (omega (arith, eqb-true a.1 b.1 eq), λ h. leb-true a.0 b.0 er)
    go false true false ep eq er e = absurd (subst T (sym e) tt)
    go false false r ep eq er e = absurd (subst T (sym e) tt)

-- it fails: b does
before-not : (a b : ℕ × ℕ) → before a b ≡ false → Le b a
before-not a b e = go (ltb a.1 b.1) (eqb a.1 b.1) (leb a.0 b.0) refl refl refl e
  where
    go : (p q r : Bool) → ltb a.1 b.1 ≡ p → eqb a.1 b.1 ≡ q → leb a.0 b.0 ≡ r → (p || (q && r)) ≡ false → Le b a
    go true q r ep eq er e = absurd (subst T e tt)
    go false true true ep eq er e = absurd (subst T e tt)
    go false true false ep eq er e = (omega (arith, eqb-true a.1 b.1 eq), λ h. omega (arith, leb-false a.0 b.0 er))
    go false false r ep eq er e = (omega (arith, ltb-false a.1 b.1 ep), λ h. absurd (eqb-false a.1 b.1 eq (sym h)))

-- where a comes first it passes
le_before : (a b : ℕ × ℕ) → Le a b → before a b ≡ true
le_before a b h = go (ltb a.1 b.1) refl
  where
    go : (p : Bool) → ltb a.1 b.1 ≡ p → (p || (eqb a.1 b.1 && leb a.0 b.0)) ≡ true
    go true e = refl
    go false e =
        let q : a.1 ≡ b.1 = omega (arith, h.0, ltb-false a.1 b.1 e) in
        ap₂ (λ u v. u && v) (eq-eqb a.1 b.1 q) (le-leb a.0 b.0 (h.1 q))

-- the order goes on from one to the next
le_trans : (a b c : ℕ × ℕ) → Le a b → Le b c → Le a c
le_trans a b c h k = (omega arith, λ e. let p = h.1 (omega arith) in let q = k.1 (omega arith) in omega arith)

-- each comes before all behind it
abbrev pub Sorted : List (ℕ × ℕ) → Type 0
Sorted [] = Unit {0}
Sorted (a ∷ s) = Every (Le a) s × Sorted s

-- what holds of each holds of each where one is inserted, and where all are sorted
insert_every : (Q : ℕ × ℕ → Type 0) (a : ℕ × ℕ) (s : List (ℕ × ℕ)) → Q a → Every Q s → Every Q (insert a s)
insert_every Q a [] h k = (h, tt)
insert_every Q a (b ∷ s) h k = go (before a b) (insert_every Q a s h k.1)
  where
    go : (p : Bool) → Every Q (insert a s) → Every Q (cond p (a ∷ b ∷ s) (b ∷ insert a s))
    go true i = (h, k)
    go false i = (k.0, i)

-- and where all are sorted
pub sort_every : (Q : ℕ × ℕ → Type 0) (l : List (ℕ × ℕ)) → Every Q l → Every Q (sort l)
sort_every Q [] h = tt
sort_every Q (a ∷ l) h = insert_every Q a (sort l) h.0 (sort_every Q l h.1)

-- one more, in its place
insert_sorted : (a : ℕ × ℕ) (s : List (ℕ × ℕ)) → Sorted s → Sorted (insert a s)
insert_sorted a [] h = (tt, tt)
insert_sorted a (b ∷ s) h = go (before a b) refl (insert_sorted a s h.1)
  where
    go : (p : Bool) → before a b ≡ p → Sorted (insert a s) → Sorted (cond p (a ∷ b ∷ s) (b ∷ insert a s))
    go true e i = let l = before_le a b e in ((l, every_of (Le b) (Le a) (λ c k. le_trans a b c l k) s h.0), h)
    go false e i = (insert_every (Le b) a s (before-not a b e) h.0, i)

-- SORTING SORTS
pub sort_sorted : (l : List (ℕ × ℕ)) → Sorted (sort l)
sort_sorted [] = tt
sort_sorted (a ∷ l) = insert_sorted a (sort l) (sort_sorted l)

-- before every one of a list: it goes in front
insert_front : (a : ℕ × ℕ) (s : List (ℕ × ℕ)) → Every (Le a) s → insert a s ≡ a ∷ s
insert_front a [] h = refl
insert_front a (b ∷ s) h = rw (le_before a b h.0)

-- leaving elements out, before or after sorting
insert-kept : (p : ℕ × ℕ → Bool) (a : ℕ × ℕ) (s : List (ℕ × ℕ)) → p a ≡ true → Sorted s → keep p (insert a s) ≡ insert a (keep p s)
insert-kept p a [] e h = ap (λ b. cond {A = List (ℕ × ℕ)} b (a ∷ []) []) e
insert-kept p a (b ∷ s) e h = go (before a b) refl (insert-kept p a s e h.1)
  where
    K : List (ℕ × ℕ)
    K = keep p (b ∷ s)

    under : (z : Bool) → before a b ≡ false → keep p (insert a s) ≡ insert a (keep p s)
        → cond z (b ∷ keep p (insert a s)) (keep p (insert a s)) ≡ insert a (cond z (b ∷ keep p s) (keep p s))
    under true eu ih = ap (λ l. b ∷ l) ih ∙ ap (λ u. cond {A = List (ℕ × ℕ)} u (a ∷ b ∷ keep p s) (b ∷ insert a (keep p s))) (sym eu)
    under false eu ih = ih

    go : (u : Bool) → before a b ≡ u → keep p (insert a s) ≡ insert a (keep p s) → keep p (cond u (a ∷ b ∷ s) (b ∷ insert a s)) ≡ insert a K
    go true eu ih =
        let l = before_le a b eu in
        ap (λ v. cond {A = List (ℕ × ℕ)} v (a ∷ K) K) e
        ∙ sym (insert_front a K (every-keep (Le a) p (b ∷ s) (l, every_of (Le b) (Le a) (λ c k. le_trans a b c l k) s h.0)))
    go false eu ih = under (p b) eu ih

-- one that is left out changes nothing
insert_dropped : (p : ℕ × ℕ → Bool) (a : ℕ × ℕ) (s : List (ℕ × ℕ)) → p a ≡ false → keep p (insert a s) ≡ keep p s
insert_dropped p a [] e = ap (λ b. cond {A = List (ℕ × ℕ)} b (a ∷ []) []) e
insert_dropped p a (b ∷ s) e = go (before a b) (insert_dropped p a s e)
  where
    go : (u : Bool) → keep p (insert a s) ≡ keep p s → keep p (cond u (a ∷ b ∷ s) (b ∷ insert a s)) ≡ keep p (b ∷ s)
    go true ih = ap (λ v. cond {A = List (ℕ × ℕ)} v (a ∷ keep p (b ∷ s)) (keep p (b ∷ s))) e
    go false ih = ap (λ l. cond {A = List (ℕ × ℕ)} (p b) (b ∷ l) l) ih

-- what is left out may be left out before the sorting
pub sort-keep : (p : ℕ × ℕ → Bool) (l : List (ℕ × ℕ)) → sort (keep p l) ≡ keep p (sort l)
sort-keep p [] = refl
sort-keep p (a ∷ l) = go (p a) refl (sort-keep p l)
  where
    go : (b : Bool) → p a ≡ b → sort (keep p l) ≡ keep p (sort l) → sort (cond b (a ∷ keep p l) (keep p l)) ≡ keep p (insert a (sort l))
    go true e ih = ap (insert a) ih ∙ sym (insert-kept p a (sort l) e (sort_sorted l))
    go false e ih = ih ∙ sym (insert_dropped p a (sort l) e)

-- of a list whose first w are kept, the first w are the same
take-keep : (p : ℕ × ℕ → Bool) (w : ℕ) (s : List (ℕ × ℕ)) → Every (λ a. p a ≡ true) (take w s) → take w (keep p s) ≡ take w s
take-keep p zero s h = refl
take-keep p (suc w) [] h = refl
take-keep p (suc w) (a ∷ s) h = rw h.0 (ap (λ l. a ∷ l) (take-keep p w s h.1))

-- the first w of a sorted list are sorted
pub sorted_take : (w : ℕ) (s : List (ℕ × ℕ)) → Sorted s → Sorted (take w s)
sorted_take zero s h = tt
sorted_take (suc w) [] h = tt
sorted_take (suc w) (a ∷ s) h = (every_take (Le a) w s h.0, sorted_take w s h.1)

-- no answer is farther than the last
pub under_last : (s : List (ℕ × ℕ)) → Sorted s → Every (λ a. a.1 ≤ last_distance s) s
under_last [] h = tt
under_last (a ∷ []) h = (omega arith, tt)
under_last (a ∷ b ∷ s) h =
    let k = under_last (b ∷ s) h.1 in
    (omega (arith, h.0.0.0, k.0), k)

-- THE w BEST: a test that all of them pass may be put before the sorting
pub best_of : (p : ℕ × ℕ → Bool) (w : ℕ) (l : List (ℕ × ℕ)) → Every (λ a. a.1 ≤ last_distance (take w (sort l)) → p a ≡ true) l
    → take w (sort (keep p l)) ≡ take w (sort l)
best_of p w l f =
    let D : ℕ = last_distance (take w (sort l)) in
    let Q : ℕ × ℕ → Type 0 = λ a. a.1 ≤ D → p a ≡ true in
    ap (take w) (sort-keep p l)
    ∙ take-keep p w (sort l) (every-both (λ a. a.1 ≤ D) Q (λ a. p a ≡ true) (λ a h k. k h) (take w (sort l))
    (under_last (take w (sort l)) (sorted_take w (sort l) (sort_sorted l)))
    (every_take Q w (sort l) (sort_every Q l f)))
