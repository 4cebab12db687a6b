-- The tree of an index in which one node is another, and nodes may reach farther: what a row that joins a leaf makes of it. A working notion, on
-- which no promise rests. Assumes nothing.
use Rattle.std.specs.Prelude.{◌+◌, ◌<◌, ◌≤◌, suc, zero, ℕ, eqb, cond, ◌≡◌}
use Rattle.appending.specs.Append.{reach_with}
use Rattle.laws.specs.Lists.{range}
use Rattle.tree.specs.Grove.{Grove, Reach, bare, fork, leaf, members#, reach#}
use Rattle.words.specs.Shape.{inner}
use Rattle.words.specs.Words.{nodes#, child#, count#, first#, m#, start#}
use mathlib.Core.List.{List, foldr}

-- node k's run holds node v's
abbrev pub Holds : List ℕ → ℕ → ℕ → Type 0
Holds w v k = (start# w k ≤ start# w v) × (start# w v + count# w v ≤ start# w k + count# w k)

-- R says how far each node reaches when node v has taken row z: the nodes whose run holds node v's take it in, the others stay
pub record NewReach (d : ℕ → ℕ → ℕ) (w : List ℕ) (z v : ℕ) (R : ℕ → Reach) : Type 0 where
  pub on : (k : ℕ) → k < nodes# w → Holds w v k → R k ≡ reach_with (count# w k) (reach# w k) (d (first# w k) z)
  pub off : (k : ℕ) → k < nodes# w → (Holds w v k → ⊥) → R k ≡ reach# w k

module _ (w : List ℕ) (R : ℕ → Reach) (v : ℕ) (anew : ℕ → Grove → Grove) where
  -- node k with at most `deep` levels below it, before the nodes g: each node reaches as R says, and node v is `anew`
  unfoldable pub changed_at : ℕ → ℕ → Grove → Grove
  changed_at zero k g = cond (eqb k v) (anew zero g) (leaf (R k) (members# w k) g)
  changed_at (suc deep) k g =
      let branch : Grove = fork (R k) (foldr (changed_at deep) bare (range (child# w k) (m# w))) g in
      cond (eqb k v) (anew (suc deep) g) (cond (inner w k) branch (leaf (R k) (members# w k) g))
