-- What an append says: 02, R-1 and R-2. Assumes nothing.
use Rattle.std.specs.Prelude.{◌-◌, ℕ, eqb, length, Bool, false, List, [], ◌++◌}
use Rattle.build_refusals.specs.Numbers.{writer_asks}
use Rattle.limits.specs.Said.{Said, fault, number_faults, said}
use Rattle.measure.specs.Table.{rows_of}
use Rattle.refusals.specs.Refused.{circle_faults}
use Rattle.words.specs.Index.{index_faults}
use Rattle.words.specs.Words.{circles#}

-- what refuses a call that puts the table's last rows into an index of the `had` rows before them: 1, 3, 4, 5, 8, 9, 19. All but 8 and 9 are of the
-- table's rows, the new ones among them. `none` is whether no row is new, which is 8 too; the circles are the index's. `room` and `work` are the
-- lengths of what is lent
abbrev pub grow_faults : List ℕ → ℕ → List ℕ → ℕ → ℕ → Bool → ℕ → List Said
grow_faults T c w room work none had =
    number_faults (writer_asks (length T) c false room work) ++ (fault 8 none ++ (index_faults w had c ++ circle_faults c (circles# w) T []))

-- append: the index is to have one row less than the table, so that a table with none has 8
unfoldable pub said_append : List ℕ → ℕ → List ℕ → ℕ → ℕ → Said
said_append T c w room work = let n = rows_of T c in said (grow_faults T c w room work (eqb n 0) (n - 1))
