-- What a full check says: 01, Numbers given back, and 02, R-1. Assumes nothing.
use Rattle.std.specs.Prelude.{◌*◌, ℕ, ltb, length, false, List, [], ◌++◌}
use Rattle.limits.specs.Said.{Said, said}
use Rattle.limits.specs.declared.Asked.{Asked}
use Rattle.measure.specs.Table.{between, rows_of}
use Rattle.refusals.specs.Refused.{call_faults}
use Rattle.tree.specs.Check.{faults}
use Rattle.words.specs.Words.{circles#}

-- what it asks of numbers: 1, 3, 4 and 5. `work` is the number of workspace words lent
abbrev pub check_asks : List ℕ → ℕ → ℕ → Asked
check_asks T c work =
    record { length = length T; columns = c; unfit = false; short = ltb work (6 * rows_of T c); unlike = false; none = false }

-- what comes before the passes: 1, 3, 4, 5, 8, 9, 19
abbrev pub refusals : List ℕ → ℕ → List ℕ → ℕ → List Said
refusals T c w work = call_faults (check_asks T c work) T w []

-- check: these, and then what the full check finds
unfoldable pub said_check : List ℕ → ℕ → List ℕ → ℕ → Said
said_check T c w work = said (refusals T c w work ++ faults (between T c (circles# w)) w)
