-- An index that the full check accepts: its shape, each row once, and a tree that fits its table. Assumes nothing.
use Prim.Native.Nat.{◌<◌, ℕ}
use Rattle.laws.proofs.Every.{every_map}
use Rattle.laws.proofs.Pigeon.{pigeon}
use Rattle.laws.proofs.Ranges.{at_every, every-at, range_length}
use Rattle.laws.specs.Lists.{range, times}
use Rattle.limits.specs.Limits.{max_depth}
use Rattle.tree.proofs.Fitting.{sound_at}
use Rattle.tree.proofs.NoFaults.{fits, no_faults}
use Rattle.tree.proofs.Rows.{by_root, once_to, rows-tree}
use Rattle.tree.proofs.Sound.{Sound}
use Rattle.tree.specs.Check.{Accepted, again}
use Rattle.tree.specs.Grove.{bare, rows_in, tree_of}
use Rattle.words.proofs.InShape.{in_shape, left_root}
use Rattle.words.specs.InShape.{InShape}
use Rattle.words.specs.Words.{n#, row#}
use lib.ListN.{length-map}
use mathlib.Core.Bool.{false}
use mathlib.Core.List.{List, map}
use mathlib.Core.Path.{◌≡◌}
use native.Mathlib.Omega.{arith}

module _ (d : ℕ → ℕ → ℕ) (w : List ℕ) (A : Accepted d w) where
  -- it is in shape
  pub shape_of : InShape w
  shape_of = in_shape w A.words A.shape

  -- no position holds a row number that stands before it
  pub once-of : (p : ℕ) → p < n# w → again w p ≡ false
  once-of p h = every-at (λ p. again w p ≡ false) (n# w) p (no_faults d w A.sound).once h

  -- EACH ROW STANDS IN THE TREE EXACTLY ONCE
  pub each-once : (i : ℕ) → i < n# w → times i (rows_in (tree_of w)) ≡ 1
  each-once i h =
      rw (rows-tree w shape_of)
      (pigeon (n# w) (map (row# w) (range 0 (n# w))) (simp (length-map, range_length))
      (every_map (λ i. i < n# w) (row# w) (range 0 (n# w)) (at_every (λ p. row# w p < n# w) (n# w) (λ p q. (shape_of.place p q).row)))
      (once_to w once-of (n# w) (omega arith)) i h)

  -- THE TREE FITS ITS TABLE
  pub sound-tree : Sound d (tree_of w)
  sound-tree =
      by_root (Sound d) w (λ h. sound_at d w shape_of (fits d w (no_faults d w A.sound)) max_depth 0 bare (left_root w) h tt) (λ e. tt)
