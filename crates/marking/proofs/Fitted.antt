-- What is lent fits: a row below n can be measured, and how-bytes of the same length fit as well. Assumes nothing.
use Prim.Native.Nat.{◌*◌, ◌+◌, ◌<◌, ◌≤◌, ℕ}
use Rattle.limits.specs.Limits.{max_columns, max_rows}
use Rattle.marking.specs.Lent.{Lent}
use Rattle.measure.proofs.Rows.{row_ends}
use Rattle.words.specs.Words.{n#}
use lib.ListN.{length}
use mathlib.Core.List.{List}
use mathlib.Core.Path.{◌≡◌}
use native.Mathlib.Omega.{arith}

module _ {w T : List ℕ} {c : ℕ} {q h : List ℕ} (L : Lent w T c q h) where
  -- what the measuring of a row asks
  pub measurable : (i : ℕ) → i < n# w → (c ≤ max_columns) × (c * i + c ≤ length T) × (length q ≡ c) × (i < max_rows)
  measurable i l =
      (L.tested.columns, omega (arith, row_ends c (n# w) i l, L.tested.table), L.query, omega (arith, L.tested.shape.whole.rows))

  -- how-bytes of the same length fit
  pub lent_same : (h' : List ℕ) → length h' ≡ length h → Lent w T c q h'
  lent_same h' e = record { tested = L.tested; query = L.query; how = λ k. omega (arith, L.how (omega arith)) }
