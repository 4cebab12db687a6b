-- Trees with no empty leaf and no childless inner node: their firsts are members. Assumes nothing.
use Prim.Native.Nat.{◌≤◌, ℕ}
use Rattle.laws.proofs.Every.{every_head, every-left, every_rest, every-right}
use Rattle.laws.proofs.Lists.{map-append}
use Rattle.laws.proofs.Times.{lefts}
use Rattle.laws.specs.Every.{Every}
use Rattle.laws.specs.Lists.{head, rest}
use Rattle.tree.specs.Grove.{Grove, bare, entries, first, firsts, fork, leaf, rows_in}
use lib.ListN.{length, length-map}
use mathlib.Core.List.{List, [], ◌++◌, ◌∷◌}
use mathlib.Core.Path.{◌≡◌, refl}
use native.Mathlib.Nat.{not-suc-le-zero}
use native.Mathlib.Omega.{arith}

-- no leaf is empty and no inner node is childless
abbrev pub Full : Grove → Type 0
Full bare = Unit {0}
Full (leaf R es g) = (1 ≤ length es) × Full g
Full (fork R ks g) = (1 ≤ length (firsts ks)) × Full ks × Full g

-- the first of the first node stands at the start of the run
pub first-row : (g : Grove) → Full g → 1 ≤ length (firsts g) → (1 ≤ length (rows_in g)) × (head (rows_in g) ≡ first g)
first-row bare w h = absurd (not-suc-le-zero h)
first-row (leaf R [] g) w h = absurd (not-suc-le-zero w.0)
first-row (leaf R (e ∷ es) g) w h = (omega arith, refl)
first-row (fork R ks g) w h = go (entries ks) (first-row ks w.1 w.0)
  where
    go : (es : List (ℕ × ℕ)) → (1 ≤ length (lefts es)) × (head (lefts es) ≡ first ks)
        → (1 ≤ length (lefts (es ++ entries g))) × (head (lefts (es ++ entries g)) ≡ first ks)
    go [] k = absurd (not-suc-le-zero k.0)
    go (e ∷ es) k = (omega arith, k.1)

-- every fact of two lists' rows is one of each list's
pub rows_left : (P : ℕ → Type 0) (es fs : List (ℕ × ℕ)) → Every P (lefts (es ++ fs)) → Every P (lefts es)
rows_left P es fs h = every-left P (lefts es) (lefts fs) (rw map-append at h)

-- and of the second's
pub rows_right : (P : ℕ → Type 0) (es fs : List (ℕ × ℕ)) → Every P (lefts (es ++ fs)) → Every P (lefts fs)
rows_right P es fs h = every-right P (lefts es) (lefts fs) (rw map-append at h)

-- a node's first is one of its rows
pub firsts_rows : (P : ℕ → Type 0) (g : Grove) → Full g → Every P (rows_in g) → Every P (firsts g)
firsts_rows P bare w h = tt
firsts_rows P (leaf R [] g) w h = absurd (not-suc-le-zero w.0)
firsts_rows P (leaf R (e ∷ es) g) w h = (h.0, firsts_rows P g w.1 (rows_right P (e ∷ es) (entries g) h))
firsts_rows P (fork R ks g) w h = (
  every_head P (firsts ks) w.0 (firsts_rows P ks w.1 (rows_left P (entries ks) (entries g) h)),
  firsts_rows P g w.2 (rows_right P (entries ks) (entries g) h),
)

-- ---- the rows of each node but its first
-- a fact of them
abbrev pub Others : (ℕ → Type 0) → Grove → Type 0
Others P bare = Unit {0}
Others P (leaf R es g) = Every P (rest (lefts es)) × Others P g
Others P (fork R ks g) = Every P (rest (rows_in ks)) × Others P g

-- a fact of all rows is one of these
pub others_all : (P : ℕ → Type 0) (g : Grove) → Every P (rows_in g) → Others P g
others_all P bare h = tt
others_all P (leaf R es g) h = (every_rest P (lefts es) (rows_left P es (entries g) h), others_all P g (rows_right P es (entries g) h))
others_all P (fork R ks g) h =
    (every_rest P (rows_in ks) (rows_left P (entries ks) (entries g) h), others_all P g (rows_right P (entries ks) (entries g) h))

-- a fact of all rows but the first of two lists is one of the first list's but its first, and of the second's
rest_parts : (P : ℕ → Type 0) (es fs : List (ℕ × ℕ)) → 1 ≤ length (lefts es) → Every P (rest (lefts (es ++ fs)))
    → Every P (rest (lefts es)) × Every P (lefts fs)
rest_parts P [] fs k h = absurd (not-suc-le-zero k)
rest_parts P (e ∷ es) fs k h = (rows_left P es fs h, rows_right P es fs h)

-- and so is a fact of all rows but the first
pub others_rest : (P : ℕ → Type 0) (g : Grove) → Full g → Every P (rest (rows_in g)) → Others P g
others_rest P bare w h = tt
others_rest P (leaf R es g) w h =
    let p = rest_parts P es (entries g) (omega (arith, length-map es (λ e. e.0), w.0)) h in
    (p.0, others_all P g p.1)
others_rest P (fork R ks g) w h =
    let p = rest_parts P (entries ks) (entries g) (first-row ks w.1 w.0).0 h in
    (p.0, others_all P g p.1)

-- the centres but the first are rows but the first
pub firsts_rest : (P : ℕ → Type 0) (g : Grove) → Full g → Every P (rest (rows_in g)) → Every P (rest (firsts g))
firsts_rest P bare w h = tt
firsts_rest P (leaf R es g) w h =
    firsts_rows P g w.1 (rest_parts P es (entries g) (omega (arith, length-map es (λ e. e.0), w.0)) h).1
firsts_rest P (fork R ks g) w h = firsts_rows P g w.2 (rest_parts P (entries ks) (entries g) (first-row ks w.1 w.0).0 h).1
