-- Runs that tile a part of the positions. Assumes nothing.
use Prim.Native.Nat.{◌+◌, ◌-◌, ◌<◌, ◌≤◌, suc, zero, ℕ}
use Rattle.laws.proofs.Tests.{and_l, and_r}
use Rattle.words.specs.Shape.{tile}
use Rattle.words.specs.Words.{count#, start#}
use borrow.Author.Tests.{eq-eqb, ne_eqb}
use lib.Dec.{T, eqb, eqb→eq}
use mathlib.Core.Bool.{false}
use mathlib.Core.List.{List}
use mathlib.Core.Path.{◌≡◌}
use native.Mathlib.Nat.{add-suc, add-zero, not-suc-le-zero, suc-add}
use native.Mathlib.Numerals.{add-one}
use native.Mathlib.Omega.{arith}

module _ (w : List ℕ) where
  -- ---- the first tile, and the others
  -- the first starts where they all do
  pub tile-head : (j k s e : ℕ) → T (tile w j (suc k) s e) → start# w j ≡ s
  unfolding tile
  tile-head j k s e t = eqb→eq (start# w j) s (and_l (eqb (start# w j) s) (tile w (suc j) k (s + count# w j) e) t)

  -- the others start where it ends
  pub tile-tail : (j k s e : ℕ) → T (tile w j (suc k) s e) → T (tile w (suc j) k (s + count# w j) e)
  unfolding tile
  tile-tail j k s e t = and_r (eqb (start# w j) s) (tile w (suc j) k (s + count# w j) e) t

  -- no tiles end where they start
  pub tile-none : (j s e : ℕ) → T (tile w j 0 s e) → s ≡ e
  unfolding tile
  tile-none j s e t = eqb→eq s e t

  -- the tiles end at or after their start
  pub tile-le : (j k s e : ℕ) → T (tile w j k s e) → s ≤ e
  tile-le j zero s e t = omega (arith, tile-none j s e t)
  tile-le j (suc k) s e t = omega (arith, tile-le (suc j) k (s + count# w j) e (tile-tail j k s e t))

  -- of one or more, the first starts where they all do
  pub tile-first : (j k s e : ℕ) → 1 ≤ k → T (tile w j k s e) → start# w j ≡ s
  tile-first j zero s e h t = absurd (not-suc-le-zero h)
  tile-first j (suc k) s e h t = tile-head j k s e t

  -- EACH TILE LIES BETWEEN THE ENDS
  pub tile-part : (j k s e i : ℕ) → i < k → T (tile w j k s e) → (s ≤ start# w (j + i)) × (start# w (j + i) + count# w (j + i) ≤ e)
  tile-part j zero s e i h t = absurd (not-suc-le-zero h)
  tile-part j (suc k) s e zero h t =
      rw (add-zero j) (omega (arith, tile-head j k s e t, tile-le (suc j) k (s + count# w j) e (tile-tail j k s e t)))
  tile-part j (suc k) s e (suc i) h t =
      let q = tile-part (suc j) k (s + count# w j) e i (omega arith) (tile-tail j k s e t) in
      rw (add-suc j i, ← suc-add j i) (omega arith)

  -- ---- the tiles from the i-th on, as the code passes them
  -- before the first tile
  pub tile-start : (j m s e : ℕ) → tile w j m s e ≡ tile w (j + 0) (m - 0) s e
  tile-start j m s e =
      let q : m - 0 ≡ m = omega arith in
      rw (add-zero j, q)

  -- a tile that starts elsewhere
  pub tile-stop : (j i m s e : ℕ) → i < m → (start# w (j + i) ≡ s → ⊥) → false ≡ tile w (j + i) (m - i) s e
  unfolding tile
  tile-stop j i m s e h q =
      let r : m - i ≡ suc (m - suc i) = omega arith in
      rw (r, ne_eqb (start# w (j + i)) s q)

  -- a tile that starts there: the others from its end on
  pub tile-step : (j i m s e : ℕ) → i < m → start# w (j + i) ≡ s
      → tile w (j + i) (m - i) s e ≡ tile w (j + (i + 1)) (m - (i + 1)) (s + count# w (j + i)) e
  unfolding tile
  tile-step j i m s e h q =
      let r : m - i ≡ suc (m - suc i) = omega arith in
      rw (add-one i, r, add-suc j i, eq-eqb (start# w (j + i)) s q)

  -- after the last tile
  pub tile-end : (j i m s e : ℕ) → m ≤ i → eqb s e ≡ tile w (j + i) (m - i) s e
  unfolding tile
  tile-end j i m s e h =
      let r : m - i ≡ 0 = omega arith in
      rw r
