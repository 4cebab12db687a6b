-- Words that are cut in three, of which the second is lent and written. Assumes nothing.
use Prim.Native.Nat.{◌+◌, ◌-◌, ℕ}
use borrow.Rule.Slice.PartMut.{mid_of, put_mid}
use lib.ListN.{drop, length, take}
use lib.Seq.{drop_at, take_at}
use mathlib.Core.List.{List, ◌++◌}
use mathlib.Core.Path.{◌∙◌, ◌≡◌, ap, ap₂}
use native.Mathlib.Omega.{arith}

-- one part between two others
module _ (F E B work : List ℕ) (lo hi : ℕ) (cut : work ≡ F ++ (E ++ B)) (f : length F ≡ lo) (e : lo + length E ≡ hi) where
  -- what stands behind F
  behind : drop lo work ≡ E ++ B
  behind = ap (drop lo) cut ∙ drop_at F (E ++ B) lo f

  -- it is lent
  pub part-lent : mid_of lo (hi - lo) work ≡ E
  part-lent = ap (take (hi - lo)) behind ∙ take_at E B (hi - lo) (omega arith)

  -- and written
  pub part-put : (ys : List ℕ) → put_mid lo (hi - lo) work ys ≡ F ++ (ys ++ B)
  part-put ys =
      ap₂ (λ (x y : List ℕ). x ++ (ys ++ y)) (ap (take lo) cut ∙ take_at F (E ++ B) lo f)
      (ap (drop (hi - lo)) behind ∙ drop_at E B (hi - lo) (omega arith))
