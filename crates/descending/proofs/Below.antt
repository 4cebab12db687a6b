-- The children of an inner node, as the descent finds them. Assumes nothing.
use Prim.Native.Nat.{◌+◌, ◌-◌, ◌<◌, ◌≤◌, ℕ}
use Rattle.words.specs.InShape.{InShape, Left}
use Rattle.words.specs.Shape.{inner}
use Rattle.words.specs.Words.{nodes#, child#, first#, m#, row#, start#}
use borrow.Author.Tests.{ne_eqb}
use mathlib.Core.Bool.{not, true}
use mathlib.Core.List.{List}
use mathlib.Core.Path.{◌∙◌, ◌≡◌, ap, subst, sym}
use native.Mathlib.Omega.{arith}

-- node k is inner and has the children ch, ch + 1, ..: nodes with a level less left, the first of which has k's first
pub record Below (w : List ℕ) (levels k ch : ℕ) : Type 0 where
  pub inner_node : inner w k ≡ true
  pub child : ch ≡ child# w k
  pub inside : ch + m# w ≤ nodes# w
  pub first : first# w k ≡ first# w ch
  pub deeper : 1 ≤ levels
  pub left : (j : ℕ) → Left w (levels - 1) (ch + j)

-- such is every node of an index in shape whose first child's number is not 0
pub below : {w : List ℕ} → InShape w → (levels k ch : ℕ) → Left w levels k → k < nodes# w → ch ≡ child# w k → (ch ≡ 0 → ⊥) → Below w levels k ch
below {w} S levels k ch l h e z =
    let i : inner w k ≡ true = ap not (ne_eqb (child# w k) 0 (λ q. z (e ∙ q))) in
    let K = (S.node k h).kids i in
    record {
      inner_node = i;
      child = e;
      inside = omega (arith, K.inside);
      first = ap (row# w) (sym (ap (start# w) e ∙ K.same));
      deeper = K.deeper levels l;
      left = λ j. subst (λ (n : ℕ). Left w (levels - 1) (n + j)) (sym e) (K.down levels j l);
    }
