-- A tree that is well made by one distance is so by another that agrees on its rows. Assumes nothing.
use Prim.Native.Nat.{◌<◌, ◌≤◌, ℕ}
use Rattle.laws.proofs.Every.{every-both, every_head, every_of, every_rest, every-unmap}
use Rattle.laws.proofs.Maps.{map_same}
use Rattle.laws.proofs.Times.{lefts}
use Rattle.laws.specs.Every.{Every}
use Rattle.laws.specs.Lists.{greatest, head, lowest, rest}
use Rattle.tree.proofs.Full.{Full, firsts_rows, rows_left, rows_right}
use Rattle.tree.proofs.Good.{Good}
use Rattle.tree.proofs.Grown.{Spans, Tight}
use Rattle.tree.proofs.Sound.{Close, Reaches, Sound}
use Rattle.tree.specs.Grove.{Grove, Reach, bare, entries, first, firsts, fork, leaf, rows_in}
use lib.ListN.{length, length-map}
use mathlib.Core.List.{List, map}
use mathlib.Core.Path.{◌∙◌, ◌≡◌, ap, subst, sym}
use native.Mathlib.Omega.{arith}

-- d and d' agree on the rows below n
abbrev pub Agree : ℕ → (ℕ → ℕ → ℕ) → (ℕ → ℕ → ℕ) → Type 0
Agree n d d' = (i j : ℕ) → i < n → j < n → d i j ≡ d' i j

module _ (n : ℕ) (d d' : ℕ → ℕ → ℕ) (A : Agree n d d') where
  -- all rows are below n
  abbrev Low : List ℕ → Type 0
  Low is = Every (λ i. i < n) is

  -- rows that are as close to f as to any of the centres cs
  near-agree : (f : ℕ) (cs is : List ℕ) → f < n → Low cs → Low is → Every (λ i. Every (λ c. d f i ≤ d c i) cs) is
      → Every (λ i. Every (λ c. d' f i ≤ d' c i) cs) is
  near-agree f cs is hf hc hi h =
      every-both (λ i. i < n) (λ i. Every (λ c. d f i ≤ d c i) cs) (λ i. Every (λ c. d' f i ≤ d' c i) cs)
      (λ i a b. every-both (λ c. c < n) (λ c. d f i ≤ d c i) (λ c. d' f i ≤ d' c i) (λ c u v. omega (arith, A f i hf a, A c i u a)) cs hc b) is hi h

  -- a run that is within the reach R of f
  reach-agree : (R : Reach) (f : ℕ) (is : List ℕ) → f < n → Low is → Reaches d R f is → Reaches d' R f is
  reach-agree R f is hf hi h =
      record {
        up = every-both (λ i. i < n) (λ i. d f i ≤ R.outer) (λ i. d' f i ≤ R.outer) (λ i a b. omega (arith, A f i hf a)) is hi h.up;
        low = every-both (λ i. i < n) (λ i. R.inner ≤ d f i) (λ i. R.inner ≤ d' f i) (λ i a b. omega (arith, A f i hf a)) (rest is)
            (every_rest (λ i. i < n) is hi) h.low;
      }

  -- the distances from f
  all-agree : (f : ℕ) (is : List ℕ) → f < n → Low is → map (d f) is ≡ map (d' f) is
  all-agree f is hf hi = map_same (d f) (d' f) is (every_of (λ i. i < n) (λ i. d f i ≡ d' f i) (λ i h. A f i hf h) is hi)

  -- an exact reach from f
  spans-agree : (R : Reach) (f : ℕ) (is : List ℕ) → f < n → Low is → Spans d R f is → Spans d' R f is
  spans-agree R f is hf hi s = (
    s.0 ∙ ap greatest (all-agree f is hf hi),
    s.1 ∙ ap lowest (all-agree f (rest is) hf (every_rest (λ i. i < n) is hi)),
  )

  -- a leaf's first is below n
  leaf-low : (es : List (ℕ × ℕ)) → 1 ≤ length es → Low (lefts es) → head (lefts es) < n
  leaf-low es h low = every_head (λ i. i < n) (lefts es) (subst (λ (k : ℕ). 1 ≤ k) (sym (length-map es (λ e. e.0))) h) low

  -- an inner node's first is
  fork-low : (ks : Grove) → 1 ≤ length (firsts ks) → Full ks → Low (rows_in ks) → first ks < n
  fork-low ks h f low = every_head (λ i. i < n) (firsts ks) h (firsts_rows (λ i. i < n) ks f low)

  -- each row with its closest centre
  close-agree : (cs : List ℕ) → Low cs → (g : Grove) → Full g → Low (rows_in g) → Close d cs g → Close d' cs g
  close-agree cs hc bare f low c = tt
  close-agree cs hc (leaf R es g) f low c =
      let a = rows_left (λ i. i < n) es (entries g) low in (
        near-agree (head (lefts es)) cs (lefts es) (leaf-low es f.0 a) hc a c.0,
        close-agree cs hc g f.1 (rows_right (λ i. i < n) es (entries g) low) c.1,
      )
  close-agree cs hc (fork R ks g) f low c =
      let a = rows_left (λ i. i < n) (entries ks) (entries g) low in (
        near-agree (first ks) cs (rows_in ks) (fork-low ks f.0 f.1 a) hc a c.0,
        close-agree cs hc g f.2 (rows_right (λ i. i < n) (entries ks) (entries g) low) c.1,
      )

  -- the tree fits
  sound-agree : (g : Grove) → Full g → Low (rows_in g) → Sound d g → Sound d' g
  sound-agree bare f low s = tt
  sound-agree (leaf R es g) f low s =
      let a = rows_left (λ i. i < n) es (entries g) low in
      let h = leaf-low es f.0 a in
      let i : ℕ = head (lefts es) in (
        every-both (λ e. e.0 < n) (λ e. d i e.0 ≡ e.1) (λ e. d' i e.0 ≡ e.1) (λ e u v. sym (A i e.0 h u) ∙ v) es
            (every-unmap (λ j. j < n) (λ e. e.0) es a) s.0,
        reach-agree R i (lefts es) h a s.1,
        sound-agree g f.1 (rows_right (λ i. i < n) es (entries g) low) s.2,
      )
  sound-agree (fork R ks g) f low s =
      let a = rows_left (λ i. i < n) (entries ks) (entries g) low in (
        close-agree (firsts ks) (firsts_rows (λ i. i < n) ks f.1 a) ks f.1 a s.0,
        reach-agree R (first ks) (rows_in ks) (fork-low ks f.0 f.1 a) a s.1,
        sound-agree ks f.1 a s.2,
        sound-agree g f.2 (rows_right (λ i. i < n) (entries ks) (entries g) low) s.3,
      )

  -- its reaches are exact
  tight-agree : (g : Grove) → Full g → Low (rows_in g) → Tight d g → Tight d' g
  tight-agree bare f low t = tt
  tight-agree (leaf R es g) f low t =
      let a = rows_left (λ i. i < n) es (entries g) low in (
        spans-agree R (head (lefts es)) (lefts es) (leaf-low es f.0 a) a t.0,
        tight-agree g f.1 (rows_right (λ i. i < n) es (entries g) low) t.1,
      )
  tight-agree (fork R ks g) f low t =
      let a = rows_left (λ i. i < n) (entries ks) (entries g) low in (
        spans-agree R (first ks) (rows_in ks) (fork-low ks f.0 f.1 a) a t.0,
        tight-agree ks f.1 a t.1,
        tight-agree g f.2 (rows_right (λ i. i < n) (entries ks) (entries g) low) t.2,
      )

-- A TREE WELL MADE BY ONE DISTANCE IS SO BY ANOTHER THAT AGREES ON ITS ROWS
pub good_agree : (d d' : ℕ → ℕ → ℕ) (m l : ℕ) (t : Grove) → Agree (length (entries t)) d d' → Good d m l t → Good d' m l t
good_agree d d' m l t A G =
    let n : ℕ = length (entries t) in
    record {
      one = G.one;
      full = G.full;
      even = G.even;
      fine = G.fine;
      sound = sound-agree n d d' A t G.full G.rows G.sound;
      tight = tight-agree n d d' A t G.full G.rows G.tight;
      rows = G.rows;
      once = G.once;
      dists = G.dists;
    }
