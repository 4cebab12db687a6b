-- What it means that 19 is not said, number by number. Assumes nothing.
use Prim.Native.Nat.{◌%◌, ◌*◌, ◌+◌, ◌<◌, ℕ}
use Rattle.laws.proofs.Empty.{any_none}
use Rattle.laws.proofs.Ranges.{at_every}
use Rattle.laws.specs.Lists.{range}
use Rattle.measure.proofs.OnCircle.{round_rows}
use Rattle.measure.specs.Distance.{circle, is_circle_lem}
use Rattle.measure.specs.Table.{Rounded, column_off_lem, off_circle_lem, rows_of}
use borrow.Author.Tests.{lt-leb}
use lib.Dec.{leb}
use lib.ListN.{drop, get_or, length}
use lib.Seq.{get_or-drop, get_or-take}
use mathlib.Core.Bool.{Bool, ◌&&◌, false, true}
use mathlib.Core.List.{List}
use mathlib.Core.Logic.{◌↔◌}
use mathlib.Core.Path.{◌∙◌, ◌≡◌, ap, refl, subst, sym}
use native.Mathlib.Nat.{mod-add-div, zero-add}

module _ (T : List ℕ) (c o : ℕ) where
  -- on rows that stand on the circle no circular column is off it
  column-on : (j : ℕ) → j < c → Rounded T c o → (is_circle_lem o j && column_off_lem T c (rows_of T c) j) ≡ false
  column-on j h on = go (is_circle_lem o j) refl
    where
      go : (b : Bool) → is_circle_lem o j ≡ b → (b && column_off_lem T c (rows_of T c) j) ≡ false
      go true e =
          any_none (λ i. leb circle (get_or T (c * i + j) 0)) (range 0 (rows_of T c))
          (at_every (λ i. leb circle (get_or T (c * i + j) 0) ≡ false) (rows_of T c)
          (λ i q.
          let at = get_or-take c (drop (c * i) T) j 0 h ∙ get_or-drop (c * i) T j 0 in
          lt-leb circle (get_or T (c * i + j) 0) (subst (λ (v : ℕ). v < circle) at (on i j h e))))
      go false e = refl

  -- so that 19 is not given
  round-on : Rounded T c o → off_circle_lem c o T ≡ false
  unfolding off_circle_lem
  round-on on =
      any_none (λ j. is_circle_lem o j && column_off_lem T c (rows_of T c) j) (range 0 c)
      (at_every (λ j. (is_circle_lem o j && column_off_lem T c (rows_of T c) j) ≡ false) c (λ j h. column-on j h on))

  -- CIRCLE-MEANS: OF A TABLE OF WHOLE ROWS 19 IS NOT SAID EXACTLY WHERE EACH ROW'S CIRCULAR COLUMNS HOLD LESS THAN 3,600
  pub circle-means : length T % c ≡ 0 → (off_circle_lem c o T ≡ false) ↔ Rounded T c o
  circle-means e =
      let whole : length T ≡ c * rows_of T c = sym (mod-add-div (length T) c) ∙ ap (λ (k : ℕ). k + c * rows_of T c) e ∙ zero-add (c * rows_of T c) in
      (round_rows T c o whole, round-on)
