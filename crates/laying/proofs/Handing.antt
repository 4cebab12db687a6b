-- The tree that takes row z, told by the run that is laid: what a tree grown anew below one node is to be. Assumes nothing.
use Prim.Native.Nat.{◌+◌, ◌<◌, ◌≤◌, ℕ}
use Rattle.appending.proofs.Lowest.{once_each, orderly-length, orderly_tally}
use Rattle.appending.specs.Append.{join, keep_own, lodge, orderly, reach_with, twice}
use Rattle.laws.proofs.Every.{every_append, every_map}
use Rattle.laws.proofs.Lists.{paired}
use Rattle.laws.proofs.Ranges.{range-every, range_length}
use Rattle.laws.proofs.Tests.{or_parts}
use Rattle.laws.proofs.Times.{every_same}
use Rattle.laws.specs.Every.{Every}
use Rattle.laws.specs.Lists.{head}
use Rattle.laying.proofs.Storing.{head_first, run_count}
use Rattle.laying.specs.Lay.{ready, unsplit, with_row}
use Rattle.leafward.proofs.Changing.{join-changed}
use Rattle.leafward.specs.Changed.{NewReach, changed_at}
use Rattle.leafward.specs.Way.{LeafFound}
use Rattle.limits.specs.Limits.{max_depth}
use Rattle.tree.specs.Build.{Run, grow, leaf_of}
use Rattle.tree.specs.Grove.{Grove, Reach, bare, leaf, members#, reach#, tree_of}
use Rattle.words.specs.InShape.{InShape}
use Rattle.words.specs.Words.{nodes#, count#, dist#, first#, l#, m#, n#, row#, run#, start#}
use lib.Dec.{eqb, leb}
use lib.ListN.{length, length-map}
use mathlib.Core.Bool.{Bool, ◌||◌, cond, false, true}
use mathlib.Core.List.{List, [], ◌++◌, ◌∷◌, map}
use mathlib.Core.Path.{◌∙◌, ◌≡◌, ap, ap₂, refl, subst, sym}
use native.Mathlib.Omega.{arith}

module _ (w : List ℕ) (S : InShape w) (z v left : ℕ) (there : v < nodes# w) where
  -- a leaf's run is not empty
  some : 1 ≤ count# w v
  some = (S.node v there).some

  -- ---- the run that is laid
  -- it has one row more than the leaf
  pub ready-long : length (ready w v left z) ≡ count# w v + 1
  unfolding ready
  ready-long = go (unsplit w v left z)
    where
      n : length (with_row w v z) ≡ count# w v + 1
      n = run_count w v z

      go : (b : Bool) → length (cond b (with_row w v z) (orderly (with_row w v z))) ≡ count# w v + 1
      go true = n
      go false = orderly-length (with_row w v z) (omega (arith, n)) ∙ n

  -- its rows are those of the index and row z
  pub ready-rows : z ≡ n# w → Every (λ i. i < n# w + 1) (ready w v left z)
  unfolding ready
  ready-rows e = go (unsplit w v left z)
    where
      old : Every (λ i. i < n# w + 1) (map (row# w) (run# w v))
      old =
          every_map (λ i. i < n# w + 1) (row# w) (run# w v) (range-every (λ p. row# w p < n# w + 1) (start# w v) (count# w v)
          (λ i h. omega (arith, (S.place (start# w v + i) (omega (arith, (S.node v there).run))).row)))

      all : Every (λ i. i < n# w + 1) (with_row w v z)
      all = every_append (λ i. i < n# w + 1) (map (row# w) (run# w v)) (z ∷ []) old (omega arith, tt)

      go : (b : Bool) → Every (λ i. i < n# w + 1) (cond b (with_row w v z) (orderly (with_row w v z)))
      go true = all
      go false =
          every_same (λ i. i < n# w + 1) (with_row w v z) (orderly (with_row w v z))
          (λ i. orderly_tally (eqb i) (with_row w v z) (omega (arith, run_count w v z))) all

  -- where the leaf is split, no row stands in it twice
  pub ready-run : unsplit w v left z ≡ false → Run (ready w v left z)
  unfolding ready unsplit
  ready-run e =
      let run : List ℕ = with_row w v z in
      let h : 1 ≤ length run = omega (arith, run_count w v z) in
      let once : twice run ≡ false = (or_parts (leb (length run) (l# w) || eqb left 0) (twice run) e).1 in
      subst (λ (b : Bool). Run (cond b run (orderly run))) (sym e)
      (omega (arith, orderly-length run h), λ i. omega (arith, orderly_tally (eqb i) run h, once_each run once i))

  -- ---- the tree
  module _ (d : ℕ → ℕ → ℕ) where
    -- leaf v with `deep` levels below it, before the nodes g: not split, or grown from the run that is laid
    abbrev pub leaf_anew : Reach → ℕ → Grove → Grove
    leaf_anew R deep g =
        keep_own R (cond (unsplit w v left z) (leaf_of d (ready w v left z) g) (grow d (m# w) (l# w) deep (ready w v left z) g))

    -- that is what it is when it has taken row z
    lodge-ready : (R : Reach) (g : Grove)
        → lodge d (m# w) (l# w) z left R (members# w v) g ≡ leaf_anew (reach_with (count# w v) R (d (first# w v) z)) left g
    unfolding lodge ready unsplit
    lodge-ready R g =
        let es : List (ℕ × ℕ) = members# w v in
        let run : List ℕ = map (λ e. e.0) es ++ z ∷ [] in
        let rows : run ≡ with_row w v z = ap (λ (l : List ℕ). l ++ z ∷ []) (paired (row# w) (dist# w) (run# w v)) in
        let n : length es ≡ count# w v = length-map (run# w v) (λ p. (row# w p, dist# w p)) ∙ range_length (start# w v) (count# w v) in
        go (leb (length run) (l# w) || eqb left 0 || twice run) (length es) run
        ∙ ap₂ (λ (k : ℕ) (l : List ℕ). whole (leb (length l) (l# w) || eqb left 0 || twice l) k l) n rows
        ∙ ap (λ (f : ℕ). chosen (leb (length (with_row w v z)) (l# w) || eqb left 0 || twice (with_row w v z)) (reach_with (count# w v) R (d f z))
        (with_row w v z)) (head_first w v z some)
      where
        chosen : Bool → Reach → List ℕ → Grove
        chosen b own l = keep_own own (cond b (leaf_of d (cond b l (orderly l)) g) (grow d (m# w) (l# w) left (cond b l (orderly l)) g))

        whole : Bool → ℕ → List ℕ → Grove
        whole b k l = chosen b (reach_with k R (d (head l) z)) l

        go : (b : Bool) (k : ℕ) (l : List ℕ)
            → cond b (leaf (reach_with k R (d (head l) z)) (map (λ i. (i, d (head l) i)) l) g)
            (keep_own (reach_with k R (d (head l) z)) (grow d (m# w) (l# w) left (orderly l) g))
            ≡ whole b k l
        go true k l = refl
        go false k l = refl

    -- THE TREE THAT TAKES ROW Z: leaf v is not split or grown from the run that is laid, the nodes whose run holds its reach to the row, and all
    -- else stays
    pub join-laid : (R : ℕ → Reach) → NewReach d w z v R → 1 ≤ nodes# w → LeafFound d w z v left
        → join d (m# w) (l# w) z max_depth 0 (tree_of w) ≡ changed_at w R v (leaf_anew (R v)) max_depth 0 bare
    join-laid R Q h F =
        join-changed d w S z v R (leaf_anew (R v)) Q left
        (λ g. ap (λ (r : Reach). leaf_anew r left g) (Q.on v there (omega arith, omega arith)) ∙ sym (lodge-ready (reach# w v) g)) h F
