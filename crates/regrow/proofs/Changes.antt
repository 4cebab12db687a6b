-- The tree of an index with one node grown anew, told by pieces; and how far its nodes reach. Assumes nothing.
use Prim.Native.Nat.{◌<◌, suc, zero, ℕ}
use Rattle.appending.specs.Append.{keep_own}
use Rattle.copies.specs.Copies.{copied, new_reach}
use Rattle.moved_runs.specs.Runs.{end#, holds}
use Rattle.laws.specs.Lists.{range}
use Rattle.leafward.specs.Changed.{Holds, NewReach, changed_at}
use Rattle.measure.specs.Table.{between}
use Rattle.regrow.proofs.Found.{child-same, j}
use Rattle.regrow.proofs.Trees.{grove, grown}
use Rattle.regrow.specs.Pieces.{Job, fresh, kept, piece}
use Rattle.tree.specs.Build.{grow}
use Rattle.tree.specs.Grove.{Grove, Reach, bare, fork, leaf, members#}
use Rattle.words.specs.Shape.{tree_fits_lem}
use Rattle.words.specs.Words.{nodes#, c#, child#, circles#, m#, n#, start#}
use borrow.Author.Tests.{eqb-false, le-leb, leb-true}
use lib.Dec.{T, eqb, leb}
use mathlib.Core.Bool.{Bool, ◌&&◌, cond, false, not, true}
use mathlib.Core.List.{List, [], ◌∷◌, foldr, map}
use mathlib.Core.Path.{◌∙◌, ◌≡◌, ap, refl, sym}

-- ---- the tree
module _ (t w : List ℕ) (v added limit : ℕ) (run : List ℕ) (fits : T (tree_fits_lem w)) (there : v < nodes# w) where
  -- the work at hand
  abbrev J : Job
  J = j t w v added limit run fits there

  -- how far each node reaches
  abbrev R : ℕ → Reach
  R = new_reach (between t (c# w) (circles# w)) w v added

  -- node v, with `deep` levels below it, before the nodes g
  abbrev anew : ℕ → Grove → Grove
  anew deep g = keep_own (R v) (grow (between t (c# w) (circles# w)) (m# w) limit deep run g)

  -- THE TREE WITH NODE V GROWN ANEW IS THAT OF THE PIECES
  pub changed-pieces : (deep k : ℕ) (g : Grove) → changed_at w R v anew deep k g ≡ grown J (members# w) deep (piece J k) g
  unfolding changed_at grown copied
  changed-pieces zero k g = go (eqb k v)
    where
      go : (b : Bool) → cond b (anew zero g) (leaf (R k) (members# w k) g)
          ≡ grown J (members# w) zero (cond b (fresh (J.copy v).0 (R v) run) (kept k)) g
      go true = refl
      go false = refl
  changed-pieces (suc deep) k g = go (eqb k v) refl (λ i h. changed-pieces deep i h)
    where
      all : ((i : ℕ) (h : Grove) → changed_at w R v anew deep i h ≡ grown J (members# w) deep (piece J i) h) → (ks : List ℕ)
          → foldr (changed_at w R v anew deep) bare ks ≡ grove J (members# w) deep (map (piece J) ks)
      all ih [] = refl
      all ih (i ∷ ks) = ih i (foldr (changed_at w R v anew deep) bare ks) ∙ ap (grown J (members# w) deep (piece J i)) (all ih ks)

      inner-or : (b : Bool) (x y : Grove) → cond (not b) x y ≡ cond b y x
      inner-or true x y = refl
      inner-or false x y = refl

      go : (b : Bool) → eqb k v ≡ b → ((i : ℕ) (h : Grove) → changed_at w R v anew deep i h ≡ grown J (members# w) deep (piece J i) h)
          → cond b (anew (suc deep) g) (cond (not (eqb (child# w k) 0))
          (fork (R k) (foldr (changed_at w R v anew deep) bare (range (child# w k) (m# w))) g) (leaf (R k) (members# w k) g))
          ≡ grown J (members# w) (suc deep) (cond b (fresh (J.copy v).0 (R v) run) (kept k)) g
      go true e ih = refl
      go false e ih =
          inner-or (eqb (child# w k) 0) (fork (R k) (foldr (changed_at w R v anew deep) bare (range (child# w k) (m# w))) g)
          (leaf (R k) (members# w k) g)
          ∙ ap (λ (x : Grove). cond (eqb (child# w k) 0) (leaf (R k) (members# w k) g) (fork (R k) x g)) (all ih (range (child# w k) (m# w)))
          ∙ ap (λ (c : ℕ). cond (eqb c 0) (leaf (R k) (members# w k) g) (fork (R k) (grove J (members# w) deep (map (piece J) (range c (m# w)))) g))
          (sym (child-same t w v added limit run fits there k (eqb-false k v e)))

-- ---- how far the nodes reach when one row has come
module _ (d : ℕ → ℕ → ℕ) (w : List ℕ) (v : ℕ) where
  -- a run that holds node v's, by its numbers
  holds-yes : (k : ℕ) → Holds w v k → holds w v k ≡ true
  unfolding holds
  holds-yes k h = rw (le-leb (start# w k) (start# w v) h.0, le-leb (end# w v) (end# w k) h.1) refl

  holds-no : (k : ℕ) → (Holds w v k → ⊥) → holds w v k ≡ false
  unfolding holds
  holds-no k h = go (leb (start# w k) (start# w v)) (leb (end# w v) (end# w k)) refl refl
    where
      go : (a b : Bool) → leb (start# w k) (start# w v) ≡ a → leb (end# w v) (end# w k) ≡ b → (a && b) ≡ false
      go true true p q = absurd (h (leb-true (start# w k) (start# w v) p, leb-true (end# w v) (end# w k) q))
      go true false p q = refl
      go false b p q = refl

  -- THEY REACH TO IT WHERE THEIR RUN HOLDS NODE V'S, AND STAY ELSEWHERE
  pub one-reaches : NewReach d w (n# w) v (new_reach d w v 1)
  unfolding new_reach
  one-reaches = record { on = λ k h f. rw (holds-yes k f) refl; off = λ k h f. rw (holds-no k f) refl }
