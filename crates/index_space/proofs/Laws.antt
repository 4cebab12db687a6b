-- The space of an index in shape meets the laws of a best-first search, for any home bounds hb that are those of its tree. Assumes nothing.
use Prim.Native.Nat.{◌+◌, ◌-◌, ◌<◌, ◌≤◌, suc, zero, ℕ}
use Rattle.best_first.proofs.Low.{bound-below-homes}
use Rattle.best_first.specs.Search.{Homes, Lawful}
use Rattle.index_space.proofs.Below.{below, fork-below, kid_bound, leaf-below, nearest_to}
use Rattle.index_space.proofs.Leasts.{least-same}
use Rattle.index_space.proofs.Opening.{InTree, inner-not, inner-some, item-falls, item-rises, item-split, kid_in, size_of}
use Rattle.index_space.specs.Items.{IndexItem, bound_of, centre_at, child_of, live_of, measured_by, measures_at, nearest_at, node, opened_by, opens_at, place, place_bound, place_of, space_of, waits_of}
use Rattle.laws.proofs.Bags.{total-upto}
use Rattle.laws.proofs.Ones.{is-not, sum_each_none}
use Rattle.laws.proofs.Sums.{sum_below-zero}
use Rattle.laws.specs.Bags.{is, total, upto}
use Rattle.laws.specs.Lists.{gap}
use Rattle.laws.specs.Upto.{sum_to}
use Rattle.tree.specs.Grove.{reach#}
use Rattle.tree.specs.Homes.{child_bound_lem}
use Rattle.words.specs.InShape.{InShape}
use Rattle.words.specs.Shape.{inner}
use Rattle.words.specs.Words.{nodes#, child#, count#, first#, m#, n#, row#, start#}
use mathlib.Core.Bool.{Bool, cond, false, true}
use mathlib.Core.List.{List}
use mathlib.Core.Path.{◌∙◌, ◌≡◌, ap, ap₂, refl, subst, sym}
use native.Mathlib.Decide.{ℕ_discrete}
use native.Mathlib.Omega.{arith}

-- a sum of numbers that are 0 is not above 0
none_above : (f : ℕ → ℕ) (k : ℕ) → 0 < sum_to f k → ((j : ℕ) → j < k → f j ≡ 0) → ⊥
none_above f k h z = omega (arith, sum_below-zero f k z)

-- a node's three faults, where it has none of them
sound_node : (k N u v z : ℕ) → k < N → u ≡ v → z ≡ 0 → (suc k - N) + gap u v + z ≡ 0
sound_node k N u v z h e f = omega arith

-- a row counts once or not at all
pub live_bit : (gone : ℕ → Bool) (r : ℕ) → live_of gone r ≤ 1
live_bit gone r = go (gone r)
  where
    go : (b : Bool) → cond {A = ℕ} b 0 1 ≤ 1
    go true = omega arith
    go false = omega arith

module _ (w : List ℕ) (hb : ℕ → ℕ) where
  -- 0 where a row is below n and the bound is its home bound
  abbrev pub off : ℕ × ℕ → ℕ
  off p = (suc p.0 - n# w) + gap (hb p.0) p.1

  module _ (x : ℕ → ℕ) where
    -- 0 where it is an item of the index, at its first's distance, and all bounds that follow from its own are home bounds
    abbrev pub bad_of : IndexItem → ℕ
    bad_of (node k b u) = (suc k - nodes# w) + gap u (x (first# w k)) + below w x off k b
    bad_of (place p b) = off (row# w p, b)

    -- where the rows have their homes
    abbrev pub homes_of : Homes IndexItem
    homes_of = record { waits = waits_of w; bad = bad_of; home = hb }

    module _ (S : InShape w) where
      -- ---- a sound node
      module _ (k b u : ℕ) (g : bad_of (node k b u) ≡ 0) where
        -- it is a node of the index
        in_tree : k < nodes# w
        in_tree = omega arith

        -- u is its first's distance
        true-first : u ≡ x (first# w k)
        true-first = omega arith

        -- all bounds below it that follow from its own are home bounds
        true_below : below w x off k b ≡ 0
        true_below = omega arith

        -- a leaf's rows but the first wait under their home bounds
        kin-leaf : inner w k ≡ false → total bad_of (upto (place_of w k b u) (count# w k - 1)) ≡ 0
        kin-leaf e = total-upto bad_of (place_of w k b u) (count# w k - 1) ∙ sum_below-zero (λ (i : ℕ). bad_of (place_of w k b u i)) (count# w k - 1) each
          where
            each : (i : ℕ) → i < count# w k - 1 → bad_of (place_of w k b u i) ≡ 0
            each i l =
                let p : ℕ = start# w k + suc i in
                subst (λ (z : ℕ). off (row# w p, place_bound w b z p) ≡ 0) (sym true-first)
                (sum_each_none (λ (i : ℕ). off (row# w (start# w k + suc i), place_bound w b (x (first# w k)) (start# w k + suc i))) (count# w k - 1)
                (sym (leaf-below w x off S k b in_tree e) ∙ true_below) i l)

        module _ (e : inner w k ≡ true) where
          -- its first child's number
          abbrev q : ℕ
          q = child# w k

          -- below an inner node: its centres but the first, and its children, have their home bounds
          parts : sum_to (λ (i : ℕ). off (first# w (q + suc i), b)) (m# w - 1)
              + sum_to (λ (i : ℕ). below w x off (q + i) (kid_bound w x k b i)) (m# w) ≡ 0
          parts = sym (fork-below w x off S k b in_tree e) ∙ true_below

          -- the distance that is told of a child's first is its own
          true-centre : (j : ℕ) → centre_at w x q u j ≡ x (first# w (q + j))
          true-centre zero =
              let z : q + 0 ≡ q = omega arith in
              true-first ∙ ap (λ (s : ℕ). x (row# w s)) (sym (ap (start# w) z ∙ ((S.node k in_tree).kids e).same))
          true-centre (suc j) = refl

          -- the centres that it measures have its bound as home bound
          home-fork : (r : ℕ) → 0 < sum_to (λ (j : ℕ). is r (first# w (q + suc j))) (m# w - 1) → off (r, b) ≡ 0
          home-fork r p = go (ℕ_discrete (off (r, b)) 0)
            where
              each : (off (r, b) ≡ 0 → ⊥) → (j : ℕ) → j < m# w - 1 → is r (first# w (q + suc j)) ≡ 0
              each ne j l = un (ℕ_discrete r (first# w (q + suc j)))
                where
                  un : Dec (r ≡ first# w (q + suc j)) → is r (first# w (q + suc j)) ≡ 0
                  un (yes f) =
                      absurd (ne
                      (ap (λ (z : ℕ). off (z, b)) f
                      ∙ sum_each_none (λ (i : ℕ). off (first# w (q + suc i), b)) (m# w - 1) (omega (arith, parts)) j l))
                  un (no f) = is-not r (first# w (q + suc j)) f

              go : Dec (off (r, b) ≡ 0) → off (r, b) ≡ 0
              go (yes f) = f
              go (no f) = absurd (none_above (λ (j : ℕ). is r (first# w (q + suc j))) (m# w - 1) p (each f))

          -- an inner node's children are sound
          kin-fork : total bad_of (upto (child_of w x q b u) (m# w)) ≡ 0
          kin-fork = total-upto bad_of (child_of w x q b u) (m# w) ∙ sum_below-zero (λ (j : ℕ). bad_of (child_of w x q b u j)) (m# w) each
            where
              each : (j : ℕ) → j < m# w → bad_of (child_of w x q b u j) ≡ 0
              each j l =
                  sound_node (q + j) (nodes# w) (centre_at w x q u j) (x (first# w (q + j))) (below w x off (q + j) (bound_of (child_of w x q b u j)))
                  (kid_in w S k in_tree e j l) (true-centre j) bounds
                where
                  near : nearest_to w x k ≡ nearest_at w x q u
                  near = least-same (λ (i : ℕ). x (first# w (q + i))) (centre_at w x q u) (m# w - 1) (λ i m. sym (true-centre i))

                  part : below w x off (q + j) (kid_bound w x k b j) ≡ 0
                  part = sum_each_none (λ (i : ℕ). below w x off (q + i) (kid_bound w x k b i)) (m# w) (omega (arith, parts)) j l

                  bounds : below w x off (q + j) (bound_of (child_of w x q b u j)) ≡ 0
                  bounds =
                      sym (ap (below w x off (q + j)) (ap₂ (λ (v z : ℕ). child_bound_lem b z v (reach# w (q + j))) (sym (true-centre j)) near)) ∙ part

        -- a row that it measures has its bound as home bound, q being its first child's number
        home_at : (r q : ℕ) → child# w k ≡ q → 0 < measures_at w q r → off (r, b) ≡ 0
        home_at r zero e p = absurd (omega arith)
        home_at r (suc q) e p =
            subst (λ (z : ℕ). 0 < sum_to (λ (j : ℕ). is r (first# w (z + suc j))) (m# w - 1) → off (r, b) ≡ 0) e
            (home-fork (inner-some w k (omega arith)) r) p

        -- what it opens is sound, q being its first child's number
        kin-at : (q : ℕ) → child# w k ≡ q → total bad_of (opens_at w x q k b u) ≡ 0
        kin-at zero e = kin-leaf (inner-not w k e)
        kin-at (suc q) e = subst (λ (z : ℕ). total bad_of (upto (child_of w x z b u) (m# w)) ≡ 0) e (kin-fork (inner-some w k (omega arith)))

      -- ---- a sound item
      -- if it is a node, it is one of the index
      sound-in : (i : IndexItem) → bad_of i ≡ 0 → InTree w i
      sound-in (node k b u) g = in_tree k b u g
      sound-in (place p b) g = tt

      -- what it opens is sound
      kin : (i : IndexItem) → bad_of i ≡ 0 → total bad_of (opened_by w x i) ≡ 0
      kin (node k b u) g = kin-at k b u g (child# w k) refl
      kin (place p b) g = refl

      -- a row that it measures is one of the table, and has its bound as home bound
      at_home : (i : IndexItem) (r : ℕ) → bad_of i ≡ 0 → 0 < measured_by w i r → off (r, bound_of i) ≡ 0
      at_home (node k b u) r g p = home_at k b u g r (child# w k) refl p
      at_home (place p b) r g q =
          let e : r ≡ row# w p = omega arith in
          ap (λ (z : ℕ). off (z, b)) e ∙ g

      -- the home bound of a row that it measures is its bound
      there : (i : IndexItem) (r : ℕ) → bad_of i ≡ 0 → 0 < measured_by w i r → hb r ≡ bound_of i
      there i r g p = omega (arith, at_home i r g p)

      -- a row that waits under it is measured by it, or waits under one that it opens
      pub shares : (i : IndexItem) (r : ℕ) → bad_of i ≡ 0 → waits_of w i r ≡ measured_by w i r + total (λ (j : IndexItem). waits_of w j r) (opened_by w x i)
      shares i r g = item-split w x S i r (sound-in i g)

      -- THE LAWS, where no row is closer than its home bound
      pub lawful : (gone : ℕ → Bool) → ((r : ℕ) → r < n# w → hb r ≤ x r) → Lawful (space_of w gone) homes_of x
      lawful gone under = record {
        bit = λ r. live_bit gone r;
        split = shares;
        kin = kin;
        there = there;
        low = bound-below-homes (space_of w gone) homes_of x (size_of w) shares kin there (λ i g. item-rises w x i)
            (λ i g. item-falls w x S i (sound-in i g));
        under = under;
      }

      -- a row that it measures is one of the table
      pub known : (i : IndexItem) (r : ℕ) → bad_of i ≡ 0 → 0 < measured_by w i r → r < n# w
      known i r g p = omega (arith, at_home i r g p)
