-- The tree at one node of an index: a leaf, or an inner node over its children, which have its first and its rows. Assumes nothing.
use Prim.Native.Nat.{◌<◌, suc, zero, ℕ}
use Rattle.laws.proofs.Times.{lefts}
use Rattle.laws.specs.Lists.{head, range}
use Rattle.tree.proofs.Members.{entries_at, firsts_at, kids-entries}
use Rattle.tree.specs.Grove.{Grove, bare, first, firsts, fork, leaf, members#, reach#, rows_in, tree_at}
use Rattle.words.specs.InShape.{InShape}
use Rattle.words.specs.Shape.{inner}
use Rattle.words.specs.Words.{nodes#, child#, count#, first#, m#, start#}
use mathlib.Core.Bool.{Bool, cond, false, true}
use mathlib.Core.List.{List, foldr}
use mathlib.Core.Path.{◌∙◌, ◌≡◌, ap, refl, sym}

module _ (w : List ℕ) where
  -- node k as a leaf, before the nodes g
  abbrev pub leaf_node : ℕ → Grove → Grove
  leaf_node k g = leaf (reach# w k) (members# w k) g

  -- node k's children, with `deep` levels left below them
  abbrev pub kids_at : ℕ → ℕ → Grove
  kids_at deep k = foldr (tree_at w deep) bare (range (child# w k) (m# w))

  -- node k as an inner node, before the nodes g
  abbrev pub fork_node : ℕ → ℕ → Grove → Grove
  fork_node deep k g = fork (reach# w k) (kids_at deep k) g

  -- a leaf's tree
  pub as-leaf : (deep k : ℕ) (g : Grove) → inner w k ≡ false → tree_at w deep k g ≡ leaf_node k g
  unfolding tree_at
  as-leaf zero k g e = refl
  as-leaf (suc deep) k g e = ap (λ (b : Bool). cond b (fork_node deep k g) (leaf_node k g)) e

  -- an inner node's tree, where a level is left
  pub as-fork : (deep k : ℕ) (g : Grove) → inner w k ≡ true → tree_at w (suc deep) k g ≡ fork_node deep k g
  unfolding tree_at
  as-fork deep k g e = ap (λ (b : Bool). cond b (fork_node deep k g) (leaf_node k g)) e

  -- with no level left a node is a leaf
  pub no-levels : (k : ℕ) (g : Grove) → tree_at w 0 k g ≡ leaf_node k g
  unfolding tree_at
  no-levels k g = refl

  -- the rows and the first of the children of an inner node are the node's
  module _ (S : InShape w) where
    -- its rows
    pub kids-rows : (deep k : ℕ) → k < nodes# w → inner w k ≡ true → rows_in (kids_at deep k) ≡ lefts (members# w k)
    kids-rows deep k h e =
        ap lefts (kids-entries w S (tree_at w deep) (entries_at w S deep) (child# w k) (m# w) (start# w k) (count# w k)
        ((S.node k h).kids e).inside ((S.node k h).kids e).tiled)

    -- its first
    pub kids-first : (deep k : ℕ) → k < nodes# w → inner w k ≡ true → first (kids_at deep k) ≡ first# w k
    kids-first deep k h e = ap head (ap firsts (sym (as-fork deep k bare e)) ∙ firsts_at w S (suc deep) k bare h)
