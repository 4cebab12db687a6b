-- The tree that is grown anew when one row joins a leaf is the tree that takes the row: 02, R-2. Assumes nothing.
use Rattle.copies.specs.Copies.{new_reach}
use Prim.Native.Nat.{◌*◌, ◌+◌, ◌<◌, ◌≤◌, suc, zero, ℕ}
use Rattle.appending.specs.Append.{appended, join, keep_own}
use Rattle.laws.specs.Lists.{range, times}
use Rattle.laying.proofs.Handing.{join-laid, leaf_anew, ready-long, ready-rows, ready-run}
use Rattle.leafward.specs.Changed.{changed_at}
use Rattle.laying.specs.Lay.{Lays, ready, unsplit}
use Rattle.leafward.specs.Way.{LeafFound}
use Rattle.limits.specs.Limits.{max_depth, max_rows}
use Rattle.measure.specs.Table.{between}
use Rattle.refill.specs.Calls.{regrown_words}
use Rattle.regrow.proofs.Changes.{one-reaches}
use Rattle.regrow.proofs.Trees.{small_grown}
use Rattle.regrow.specs.Calls.{Regrowable, regrown_of}
use Rattle.rounds.specs.Stretch.{stretch}
use Rattle.tree.specs.Build.{build, grow, leaf_of}
use Rattle.build_refusals.specs.Numbers.{room_of}
use Rattle.tree.specs.Encode.{encode}
use Rattle.tree.specs.Grove.{Grove, Reach, bare, fork, leaf, members#, tree_of}
use Rattle.words.specs.InShape.{InShape}
use Rattle.words.specs.Shape.{inner, tree_fits_lem}
use Rattle.words.specs.Words.{nodes#, c#, child#, circles#, count#, edition#, l#, m#, n#, start#}
use borrow.Author.Tests.{le-leb, ne_eqb}
use lib.Dec.{T, eqb}
use lib.ListN.{length}
use mathlib.Core.Bool.{Bool, cond, false, true}
use mathlib.Core.List.{List, [], ◌∷◌, foldr}
use mathlib.Core.Path.{◌∙◌, ◌≡◌, ap, ap₂, refl, sym}
use native.Mathlib.Omega.{arith}

-- two ways to make a node anew that are the same make the same tree
changed_same : (w : List ℕ) (R : ℕ → Reach) (v : ℕ) (A B : ℕ → Grove → Grove) → ((deep : ℕ) (g : Grove) → A deep g ≡ B deep g)
    → (deep k : ℕ) (g : Grove) → changed_at w R v A deep k g ≡ changed_at w R v B deep k g
unfolding changed_at
changed_same w R v A B h zero k g = ap (λ (x : Grove). cond (eqb k v) x (leaf (R k) (members# w k) g)) (h zero g)
changed_same w R v A B h (suc deep) k g =
    ap₂ (λ (x y : Grove). cond (eqb k v) x (cond (inner w k) (fork (R k) y g) (leaf (R k) (members# w k) g))) (h (suc deep) g)
    (all (λ i f. changed_same w R v A B h deep i f) (range (child# w k) (m# w)))
  where
    all : ((i : ℕ) (f : Grove) → changed_at w R v A deep i f ≡ changed_at w R v B deep i f) → (ks : List ℕ)
        → foldr (changed_at w R v A deep) bare ks ≡ foldr (changed_at w R v B deep) bare ks
    all ih [] = refl
    all ih (i ∷ ks) = ih i (foldr (changed_at w R v A deep) bare ks) ∙ ap (changed_at w R v B deep i) (all ih ks)

-- how many rows leaf v may have when row z has joined it: it is not split, or split by the index's own leaf size
abbrev pub limit_of : List ℕ → ℕ → ℕ → ℕ → ℕ
limit_of w v left z = cond (unsplit w v left z) max_rows (l# w)

module _ (t w : List ℕ) (S : InShape w) (v left : ℕ) (there : v < nodes# w) (few : n# w + 1 ≤ max_rows) where
  -- how far two rows are apart
  abbrev d : ℕ → ℕ → ℕ
  d = between t (c# w) (circles# w)

  -- the run that is laid
  abbrev run : List ℕ
  run = ready w v left (n# w)

  -- so long
  run-few : length run ≤ max_rows
  run-few = omega (arith, ready-long w S (n# w) v left there, (S.node v there).run)

  -- leaf v, not split or grown from the run
  anew-same : (R : Reach) (deep : ℕ) (g : Grove)
      → keep_own R (grow d (m# w) (limit_of w v left (n# w)) deep run g) ≡ leaf_anew w S (n# w) v left there d R deep g
  anew-same R deep g = go (unsplit w v left (n# w))
    where
      go : (b : Bool) → keep_own R (grow d (m# w) (cond b max_rows (l# w)) deep run g)
          ≡ keep_own R (cond b (leaf_of d run g) (grow d (m# w) (l# w) deep run g))
      go true = ap (keep_own R) (small_grown d (m# w) max_rows deep run g (le-leb (length run) max_rows run-few))
      go false = refl

  -- no old leaf has more rows than the limit
  pub leaf-under : l# w ≤ limit_of w v left (n# w)
  leaf-under = go (unsplit w v left (n# w))
    where
      go : (b : Bool) → l# w ≤ cond b max_rows (l# w)
      go true = omega (arith, S.whole.leaf.1)
      go false = omega arith

  -- a run that has more stands with no row twice
  pub run-once : limit_of w v left (n# w) < length run → (i : ℕ) → times i run ≤ 1
  run-once = go (unsplit w v left (n# w)) refl
    where
      go : (b : Bool) → unsplit w v left (n# w) ≡ b → cond b max_rows (l# w) < length run → (i : ℕ) → times i run ≤ 1
      go true e h = absurd (omega (arith, run-few))
      go false e h = (ready-run w S (n# w) v left there e).1

  -- THE TREE GROWN ANEW FROM THE RUN THAT IS LAID IS THE TREE THAT TAKES THE NEW ROW
  pub regrown-joined : 1 ≤ nodes# w → LeafFound d w (n# w) v left
      → regrown_of t w v 1 (limit_of w v left (n# w)) (ready w v left (n# w))
      ≡ join (between t (c# w) (circles# w)) (m# w) (l# w) (n# w) max_depth 0 (tree_of w)
  unfolding regrown_of
  regrown-joined some F =
      let R : ℕ → Reach = new_reach d w v 1 in
      changed_same w R v (λ deep g. keep_own (R v) (grow d (m# w) (limit_of w v left (n# w)) deep run g)) (leaf_anew w S (n# w) v left there d (R v))
      (anew-same (R v)) max_depth 0 bare
      ∙ sym (join-laid w S (n# w) v left there d R (one-reaches d w v) some F)

  -- ITS WORDS ARE THOSE OF THE INDEX WITH THE TABLE'S LAST ROW IN IT
  pub regrown-appended : 1 ≤ n# w → LeafFound d w (n# w) v left
      → regrown_words t w v 1 (limit_of w v left (n# w)) (ready w v left (n# w)) ≡ appended t (c# w) w
  unfolding appended
  regrown-appended some F =
      let tree : Grove = join (between t (c# w) (circles# w)) (m# w) (l# w) (n# w) max_depth 0 (tree_of w) in
      ap (encode 2 (c# w) (circles# w) (m# w) (l# w)) (regrown-joined (S.root some).there F)
      ∙ sym (ap (λ (b : Bool). cond b (build t (c# w) (circles# w) 2 (m# w) (l# w)) (encode 2 (c# w) (circles# w) (m# w) (l# w) tree))
      (ne_eqb (n# w) 0 (λ e. absurd (omega arith))))
