-- The words by place, and the small tests on them. Assumes nothing.
use Prim.Native.Nat.{◌+◌, ◌<◌, ◌≤◌, ℕ}
use Rattle.laws.proofs.Tests.{go_on, stop}
use Rattle.limits.specs.Limits.{max_depth, max_distance}
use Rattle.shape_test.specs.Pass.{fits, roomy}
use Rattle.words.specs.Shape.{brood, node_fits, root_fits_lem, tile}
use Rattle.words.specs.Words.{nodes#, child#, count#, inner#, l#, m#, n#, radius#, start#}
use borrow.Author.Tests.{eq-eqb, le-leb, leb-true, lt-leb, ne_eqb}
use lib.Dec.{eqb, leb}
use mathlib.Core.Bool.{and-false, false, true}
use mathlib.Core.List.{List}
use mathlib.Core.Path.{◌∙◌, ◌≡◌}

module _ (w : List ℕ) where
  -- a leaf has no children
  pub brood-leaf : (k : ℕ) → child# w k ≡ 0 → 0 ≡ brood w k
  brood-leaf k e = rw (eq-eqb (child# w k) 0 e)

  -- an inner node has m
  pub brood-inner : (k : ℕ) → (child# w k ≡ 0 → ⊥) → m# w ≡ brood w k
  brood-inner k h = rw (ne_eqb (child# w k) 0 h)

  -- the root's run does not start at 0
  pub root-off : (start# w 0 ≡ 0 → ⊥) → false ≡ root_fits_lem w
  root-off h = rw (ne_eqb (start# w 0) 0 h)

  -- it does: its count decides
  pub root-on : start# w 0 ≡ 0 → eqb (count# w 0) (n# w) ≡ root_fits_lem w
  root-on e = rw (eq-eqb (start# w 0) 0 e)

  -- the same runs by other names
  pub tile-same : {j j' m m' s s' c c' : ℕ} → j ≡ j' → m ≡ m' → s ≡ s' → c ≡ c' → tile w j m s (s + c) ≡ tile w j' m' s' (s' + c')
  tile-same p q r t = rw (p, q, r, t)

-- ---- the room for a node's children
module _ (w : List ℕ) (k next : ℕ) where
  -- a leaf needs no room
  pub room-leaf : child# w k ≡ 0 → true ≡ roomy w k next
  room-leaf e = rw (eq-eqb (child# w k) 0 e)

  -- an inner node's children must have numbers below the node count
  pub room-inner : (child# w k ≡ 0 → ⊥) → leb (next + m# w) (nodes# w) ≡ roomy w k next
  room-inner h = rw (ne_eqb (child# w k) 0 h)

  -- an inner node's children are nodes
  pub room_is : roomy w k next ≡ true → (child# w k ≡ 0 → ⊥) → next + m# w ≤ nodes# w
  room_is e h = leb-true (next + m# w) (nodes# w) (room-inner h ∙ e)

-- ---- a node's test, by its ends in the code's order
module _ (w : List ℕ) (k next depth : ℕ) where
  -- there is no room for its children
  pub fit-crowd : roomy w k next ≡ false → false ≡ fits w k next depth
  fit-crowd e = stop (node_fits w k next (leb max_depth depth)) e

  module _ (room : roomy w k next ≡ true) where
    -- its run is empty
    pub fit-empty : count# w k < 1 → false ≡ fits w k next depth
    fit-empty h = go_on room (simp (lt-leb 1 (count# w k) h))

    -- its radius is out of range
    pub fit-far : max_distance < radius# w k → false ≡ fits w k next depth
    fit-far h = go_on room (simp (lt-leb (radius# w k) max_distance h, and-false))

    -- its inner reach is out of range
    pub fit_wide : max_distance < inner# w k → false ≡ fits w k next depth
    fit_wide h = go_on room (simp (lt-leb (inner# w k) max_distance h, and-false))

    module _ (some : 1 ≤ count# w k) (near : radius# w k ≤ max_distance) (nearer : inner# w k ≤ max_distance) where
      -- it has at most l rows: it must be a leaf
      pub fit-few : count# w k ≤ l# w → eqb (child# w k) 0 ≡ fits w k next depth
      fit-few h = go_on room (simp (le-leb 1 (count# w k) some, le-leb (radius# w k) max_distance near, le-leb (inner# w k) max_distance nearer, le-leb (count# w k) (l# w) h))

      module _ (many : l# w < count# w k) where
        -- it is at depth 24: it must be a leaf
        pub fit-deep : max_depth ≤ depth → eqb (child# w k) 0 ≡ fits w k next depth
        fit-deep h =
            go_on room
            (simp (
              le-leb 1 (count# w k) some,
              le-leb (radius# w k) max_distance near,
              le-leb (inner# w k) max_distance nearer,
              lt-leb (count# w k) (l# w) many,
              le-leb max_depth depth h,
            ))

        module _ (shallow : depth < max_depth) where
          -- its first child has another number than the next
          pub fit-other : (child# w k ≡ next → ⊥) → false ≡ fits w k next depth
          fit-other h =
              go_on room (simp (lt-leb (count# w k) (l# w) many, lt-leb max_depth depth shallow, ne_eqb (child# w k) next h, and-false))

          -- it has that: the children's runs must tile its own
          pub fit-tiled : child# w k ≡ next
              → tile w (child# w k) (m# w) (start# w k) (start# w k + count# w k) ≡ fits w k next depth
          fit-tiled e =
              go_on room
              (simp (
                le-leb 1 (count# w k) some,
                le-leb (radius# w k) max_distance near,
                le-leb (inner# w k) max_distance nearer,
                lt-leb (count# w k) (l# w) many,
                lt-leb max_depth depth shallow,
                eq-eqb (child# w k) next e,
              ))
