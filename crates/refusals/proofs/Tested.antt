-- What a call has tested, once nothing refuses it, is what a search or a pass may assume. Assumes nothing.
use Prim.Native.Nat.{◌*◌, ◌≤◌, ℕ}
use Rattle.limits.specs.declared.Asked.{Asked}
use Rattle.measure.proofs.Metric.{metric, query_point}
use Rattle.measure.proofs.OnCircle.{round_query}
use Rattle.measure.specs.Space.{Point, Space}
use Rattle.measure.specs.Table.{Rounded, between, from, off_circle_lem}
use Rattle.refusals.proofs.OffCircle.{circle-means}
use Rattle.refusals.proofs.Refusals.{Clear, clear-edition, clear-shape}
use Rattle.tree.specs.Tested.{Tested}
use Rattle.words.specs.Words.{circles#, n#}
use lib.ListN.{length}
use mathlib.Core.List.{List}
use mathlib.Core.Bool.{false}
use mathlib.Core.Path.{◌≡◌, subst, sym}
use native.Mathlib.Omega.{arith}

-- A CALL THAT NOTHING REFUSES HAS TESTED ITS INDEX AND ITS TABLE
pub tested : (T : List ℕ) (c : ℕ) (a : Asked) (w q : List ℕ) → a.length ≡ length T → a.columns ≡ c → Clear a T w q → Tested w T c
tested T c a w q long wide C =
    let rows : a.columns * n# w ≤ a.length =
    subst (λ (n : ℕ). a.columns * n ≤ a.length) (sym C.rows) C.numbers.table.inside in
    let same : c * n# w ≤ a.length = subst (λ (k : ℕ). k * n# w ≤ a.length) wide rows in
    record {
      shape = clear-shape a T w q C;
      edition = clear-edition a T w q C;
      table = omega (arith, same, long);
      columns = omega (arith, C.numbers.table.few, wide);
    }

-- ---- AND ITS TABLE AND QUERY STAND ON THE CIRCLE
module _ (T : List ℕ) (c : ℕ) (a : Asked) (w q : List ℕ) (long : a.length ≡ length T) (wide : a.columns ≡ c) (C : Clear a T w q) where
  -- every row does
  pub clear-rounded : Rounded T c (circles# w)
  clear-rounded =
      subst (λ k. Rounded T k (circles# w)) wide
      ((circle-means T a.columns (circles# w) (rw long at C.numbers.table.whole)).0 C.table)

  -- so that the rows are a space
  pub clear-space : Space (between T c (circles# w))
  clear-space = metric T c (circles# w) clear-rounded

  -- and a query that is a row is a point of it
  pub clear-point : length q ≡ c → Point (between T c (circles# w)) (from T c (circles# w) q)
  clear-point like =
      query_point T c (circles# w) q clear-rounded (round_query q c (circles# w) like (subst (λ k. off_circle_lem k (circles# w) q ≡ false) wide C.query))
