-- What refuses a call on a table and an index: 01, Numbers given back, and 02, R-1. Assumes nothing.
use Rattle.std.specs.Prelude.{◌/◌, ℕ, ◌||◌, List, ◌++◌}
use Rattle.limits.specs.Said.{Said, fault, number_faults}
use Rattle.limits.specs.declared.Asked.{Asked}
use Rattle.measure.specs.Table.{off_circle_lem}
use Rattle.words.specs.Index.{index_faults}
use Rattle.words.specs.Words.{circles#}

-- 02, R-1: 19, of c columns one that is a circle by the set o holds 3,600 or more, in the table T or in the query q
unfoldable pub circle_faults : ℕ → ℕ → List ℕ → List ℕ → List Said
circle_faults c o T q = fault 19 (off_circle_lem c o T || off_circle_lem c o q)

-- a call on the table T, the index w and the query q: what numbers decide, then what the index decides, then what the circles decide. A call that has
-- no query has an empty one
unfoldable pub call_faults : Asked → List ℕ → List ℕ → List ℕ → List Said
call_faults a T w q =
    number_faults a ++ (index_faults w (a.length / a.columns) a.columns ++ circle_faults a.columns (circles# w) T q)
