-- What a radius search says: 01, Numbers given back, and 02, R-1 and R-5. Assumes nothing.
use Rattle.std.specs.Prelude.{ℕ, eqb, ltb, length, false, not, List, ◌++◌}
use Rattle.limits.specs.Said.{Said, fault, said}
use Rattle.limits.specs.declared.Asked.{Asked}
use Rattle.measure.specs.Table.{rows_of}
use Rattle.refusals.specs.Refused.{call_faults}
use Rattle.rowset.specs.Sets.{set_bad_lem}

-- what it asks of numbers: 1, 3, 4, 5 and 6. `how` is the number of how-bytes lent
abbrev pub radius_asks : List ℕ → ℕ → List ℕ → ℕ → Asked
radius_asks T c q how =
    record { length = length T; columns = c; unfit = false; short = ltb how (rows_of T c); unlike = not (eqb (length q) c); none = false }

-- radius: 1, 3, 4, 5, 6, 8, 9, 19, 20. s is the set of the rows withdrawn
unfoldable pub said_radius : List ℕ → ℕ → List ℕ → List ℕ → List ℕ → ℕ → Said
said_radius T c w q s how = said (call_faults (radius_asks T c q how) T w q ++ fault 20 (set_bad_lem s (rows_of T c)))
