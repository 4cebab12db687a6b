-- Marks of a search that shows no row that is gone: 02, R-5. Assumes nothing.
use Prim.Native.Nat.{◌%◌, ◌≤◌, ℕ}
use Rattle.laws.proofs.Every.{every-all, every_map}
use Rattle.laws.proofs.Lists.{map-append, map-map}
use Rattle.laws.proofs.Maps.{map_agree}
use Rattle.laws.proofs.Times.{lefts}
use Rattle.laws.specs.Every.{Every}
use Rattle.laws.specs.Lists.{look}
use Rattle.tree.specs.Nearest.{is_measured}
use Rattle.tree.specs.Radius.{shown, veiled}
use borrow.Author.Tests.{eqb-true}
use lib.Dec.{T, eqb}
use mathlib.Core.Bool.{Bool, ◌||◌, cond, false, true}
use mathlib.Core.List.{List, [], ◌++◌, ◌∷◌}
use mathlib.Core.Path.{◌≡◌, ap, ap₂, refl, subst, sym}
use native.Mathlib.Omega.{arith}

module _ (gone : ℕ → Bool) where
  -- of marks after marks
  pub veiled-append : (xs ys : List (ℕ × ℕ)) → veiled gone (xs ++ ys) ≡ veiled gone xs ++ veiled gone ys
  veiled-append xs ys = map-append (shown gone) xs ys

  -- their rows stay
  pub veiled-rows : (ms : List (ℕ × ℕ)) → lefts (veiled gone ms) ≡ lefts ms
  veiled-rows ms = sym (map-map (λ m. m.0) (shown gone) ms)

  -- a row that is gone is never in
  pub veiled-never : (ms : List (ℕ × ℕ)) → Every (λ m. gone m.0 ≡ true → m.1 ≤ 1) (veiled gone ms)
  veiled-never ms = every_map (λ m. gone m.0 ≡ true → m.1 ≤ 1) (shown gone) ms (every-all (λ m. gone m.0 ≡ true → (shown gone m).1 ≤ 1) never ms)
    where
      never : (m : ℕ × ℕ) → gone m.0 ≡ true → (shown gone m).1 ≤ 1
      never m e = rw e (omega arith)

  -- a row's how-byte is that of its mark
  pub look-veiled : (i : ℕ) (ms : List (ℕ × ℕ)) → look i (veiled gone ms) ≡ (shown gone (i, look i ms)).1
  look-veiled i [] = go (gone i)
    where
      go : (b : Bool) → 0 ≡ cond b (0 % 2) 0
      go true = refl
      go false = refl
  look-veiled i (m ∷ ms) = go (eqb i m.0) refl (look-veiled i ms)
    where
      go : (b : Bool) → eqb i m.0 ≡ b → look i (veiled gone ms) ≡ (shown gone (i, look i ms)).1
          → cond b (shown gone m).1 (look i (veiled gone ms)) ≡ (shown gone (i, cond b m.1 (look i ms))).1
      go true e h = ap (λ (j : ℕ). (shown gone (j, m.1)).1) (sym (eqb-true i m.0 e))
      go false e h = h

  -- WHERE NO ROW IS GONE THESE ARE 01's MARKS
  pub veiled-none : ((i : ℕ) → gone i ≡ false) → (ms : List (ℕ × ℕ)) → veiled gone ms ≡ ms
  veiled-none f [] = refl
  veiled-none f (m ∷ ms) = ap₂ (λ a l. a ∷ l) (ap (λ b. (m.0, cond b (m.1 % 2) m.1)) (f m.0)) (veiled-none f ms)

-- they follow from which rows are gone alone
pub veiled-same : (gone gone' : ℕ → Bool) → ((i : ℕ) → gone i ≡ gone' i) → (ms : List (ℕ × ℕ)) → veiled gone ms ≡ veiled gone' ms
veiled-same gone gone' e ms = map_agree (shown gone) (shown gone') (λ m. ap (λ b. (m.0, cond b (m.1 % 2) m.1)) (e m.0)) ms

-- a measured row is shown as measured, gone or not
pub shown-measured : (gone : ℕ → Bool) (i v : ℕ) → T (is_measured v) → T (is_measured (shown gone (i, v)).1)
shown-measured gone i v m = go (eqb v 1) (eqb v 3) refl refl m
  where
    one : (b : Bool) → T (is_measured (cond b (1 % 2) 1))
    one true = tt
    one false = tt

    three : (b : Bool) → T (is_measured (cond b (3 % 2) 3))
    three true = tt
    three false = tt

    go : (p q : Bool) → eqb v 1 ≡ p → eqb v 3 ≡ q → T (p || q) → T (is_measured (shown gone (i, v)).1)
    go true q e k t = subst (λ (v : ℕ). T (is_measured (shown gone (i, v)).1)) (sym (eqb-true v 1 e)) (one (gone i))
    go false true e k t = subst (λ (v : ℕ). T (is_measured (shown gone (i, v)).1)) (sym (eqb-true v 3 k)) (three (gone i))
    go false false e k t = absurd t
