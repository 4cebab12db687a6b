-- The nearest search's answers and how-bytes, by row. Assumes nothing.
use Prim.Native.Nat.{◌+◌, ◌<◌, ◌≤◌, min, suc, ℕ}
use Rattle.laws.proofs.Every.{every-keep, every_of}
use Rattle.laws.proofs.Maps.{map_same}
use Rattle.laws.proofs.Ranges.{get_d_range}
use Rattle.laws.proofs.Tests.{or_l, or_r}
use Rattle.laws.proofs.Times.{lefts}
use Rattle.laws.specs.Every.{Every}
use Rattle.laws.specs.Lists.{has, keep, look, range, tally}
use Rattle.tree.specs.Grove.{Grove}
use Rattle.tree.specs.Homes.{homes}
use Rattle.tree.specs.Nearest.{answers, before, candidates, insert, last_distance, near_how, passes, remaining, sort}
use borrow.Author.Tests.{le-leb, lt-ltb}
use lib.Dec.{leb, ltb}
use lib.ListN.{get_or, length, length-map, length-take, take}
use mathlib.Core.Bool.{Bool, cond, false, not, true}
use mathlib.Core.List.{List, [], ◌∷◌}
use mathlib.Core.Path.{◌∙◌, ◌≡◌, ap, refl}
use native.Mathlib.Omega.{arith}

-- as many are kept as pass
keep-length : (p : ℕ → Bool) (is : List ℕ) → length (keep p is) ≡ tally p is
keep-length p [] = refl
keep-length p (i ∷ is) = go (p i) (keep-length p is)
  where
    go : (b : Bool) → length (keep p is) ≡ tally p is → length (cond b (i ∷ keep p is) (keep p is)) ≡ cond b 1 0 + tally p is
    go true e = omega (arith, e)
    go false e = omega (arith, e)

module _ (x : ℕ → ℕ) (gone : ℕ → Bool) (n : ℕ) where
  -- the how-byte of row i
  pub near-at : (t : Grove) (k i : ℕ) → i < n
      → get_or (near_how x gone n t k) i 0 ≡ cond (has i (lefts (answers x gone n k))) 3 (cond (passes x gone n k (look i (homes x t))) 1 0)
  unfolding near_how
  near-at t k i h =
      let how : ℕ → ℕ = λ i. cond (has i (lefts (answers x gone n k))) 3 (cond (passes x gone n k (look i (homes x t))) 1 0) in
      get_d_range how 0 n i h ∙ ap how (omega arith)

  -- which home bounds pass
  pub passes-near : (k b : ℕ) → b ≤ last_distance (answers x gone n k) → passes x gone n k b ≡ true
  unfolding passes
  passes-near k b h =
      or_r (ltb (length (candidates x gone n)) k) (leb b (last_distance (answers x gone n k))) (le-leb b (last_distance (answers x gone n k)) h)

  -- as many candidates as rows remain
  pub candidates-length : length (candidates x gone n) ≡ remaining gone n
  candidates-length = length-map (keep (λ i. not (gone i)) (range 0 n)) (λ i. (i, x i)) ∙ keep-length (λ i. not (gone i)) (range 0 n)

  -- with more wanted than rows remain, all do
  pub passes-all : (k b : ℕ) → remaining gone n < k → passes x gone n k b ≡ true
  unfolding passes
  passes-all k b h =
      or_l (ltb (length (candidates x gone n)) k) (leb b (last_distance (answers x gone n k)))
      (lt-ltb (length (candidates x gone n)) k (omega (arith, candidates-length)))

-- ---- how many answers there are
-- one more
insert-length : (a : ℕ × ℕ) (s : List (ℕ × ℕ)) → length (insert a s) ≡ suc (length s)
insert-length a [] = refl
insert-length a (b ∷ s) = go (before a b) (insert-length a s)
  where
    go : (p : Bool) → length (insert a s) ≡ suc (length s) → length (cond p (a ∷ b ∷ s) (b ∷ insert a s)) ≡ suc (suc (length s))
    go true e = refl
    go false e = ap suc e

-- sorting keeps the number
pub sort-length : (l : List (ℕ × ℕ)) → length (sort l) ≡ length l
sort-length [] = refl
sort-length (a ∷ l) = insert-length a (sort l) ∙ ap suc (sort-length l)

-- AS MANY ANSWERS AS ARE WANTED, OR AS ROWS REMAIN
pub answers_length : (x : ℕ → ℕ) (gone : ℕ → Bool) (n k : ℕ) → length (answers x gone n k) ≡ min k (remaining gone n)
unfolding answers
answers_length x gone n k = rw length-take (omega (arith, sort-length (candidates x gone n), candidates-length x gone n))

-- equal distances give equal answers
pub answers_same : (x y : ℕ → ℕ) (gone : ℕ → Bool) (n k : ℕ) → Every (λ i. x i ≡ y i) (range 0 n) → answers x gone n k ≡ answers y gone n k
unfolding answers
answers_same x y gone n k h =
    let rows : List ℕ = keep (λ i. not (gone i)) (range 0 n) in
    ap (λ l. take k (sort l))
    (map_same (λ i. (i, x i)) (λ i. (i, y i)) rows
    (every_of (λ i. x i ≡ y i) (λ i. ◌≡◌ {A = ℕ × ℕ} (i, x i) (i, y i)) (λ i e. ap (λ v. (i, v)) e) rows
    (every-keep (λ i. x i ≡ y i) (λ i. not (gone i)) (range 0 n) h)))
