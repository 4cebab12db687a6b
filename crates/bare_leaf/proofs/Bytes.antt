-- The how-byte that is stored for one row. Assumes nothing.
use Prim.Native.Nat.{◌+◌, ◌<◌, ◌≤◌, min, ℕ}
use Rattle.leaf_decision.specs.Decision.{decision, leaf_mark, verdict_byte}
use Rattle.leaf_decision.specs.declared.Verdict.{Verdict}
use Rattle.limits.specs.Limits.{max_distance}
use Rattle.marking.specs.Written.{byte}
use Rattle.measure.specs.Distance.{capped}
use Rattle.tree.specs.Radius.{by_distance}
use Rattle.words.specs.Words.{dist#, row#}
use borrow.Author.Tests.{le-leb, lt-leb}
use lib.Dec.{leb}
use lib.ListN.{set}
use mathlib.Core.Bool.{Bool, cond, false, true}
use mathlib.Core.List.{List}
use mathlib.Core.Path.{◌∙◌, ◌≡◌, ap, refl}
use native.Mathlib.Omega.{arith}

-- of a row in unmeasured
pub byte_in : (i : ℕ) (h : List ℕ) → set h i 2 ≡ byte i 2 h
unfolding byte
byte_in i h = refl

-- of one that is out unmeasured nothing is stored
pub byte_out : (i : ℕ) (h : List ℕ) → h ≡ byte i 0 h
unfolding byte
byte_out i h = refl

-- of a measured row, by the number that measuring gave under the ceiling r: `top` is the ceiling, or the greatest distance
module _ (x : ℕ → ℕ) (r i : ℕ) {d top : ℕ} (t : top ≡ min r max_distance) (given : d ≡ capped r (x i)) (few : x i ≤ max_distance) where
  -- it is in
  pub near_byte : d < top + 1 → 3 ≡ by_distance x r i
  near_byte h = rw (le-leb (x i) r (omega arith)) refl

  -- it is out
  pub far_byte : top + 1 ≤ d → 1 ≡ by_distance x r i
  far_byte h = rw (lt-leb (x i) r (omega arith)) refl

-- it is stored as it is
pub byte-measured : (x : ℕ → ℕ) (r i : ℕ) (h : List ℕ) {v : ℕ} → v ≡ by_distance x r i → set h i v ≡ byte i (by_distance x r i) h
unfolding byte
byte-measured x r i h e = ap (set h i) e ∙ go (leb (x i) r)
  where
    go : (b : Bool) → set h i (cond b 3 1) ≡ byte i (cond b 3 1) h
    go true = refl
    go false = refl

module _ (x : ℕ → ℕ) (r : ℕ) (w : List ℕ) where
  -- what a caller that took the verdict v apart stored is right
  pub leaf-byte : (v' : Verdict) (xf p : ℕ) (h : List ℕ) {i s : ℕ} {v : Verdict} → i ≡ row# w p → s ≡ dist# w p → v ≡ decision xf s r → v ≡ v'
      → byte i (verdict_byte (by_distance x r i) v') h ≡ byte (row# w p) (leaf_mark x r w xf p) h
  unfolding leaf_mark
  leaf-byte v' xf p h a b c e = cc
