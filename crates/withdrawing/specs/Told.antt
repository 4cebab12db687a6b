-- What comes of withdrawing, by its number and its line. Assumes nothing.
use Rattle.row_lines.specs.Rows.{code_of}
use Rattle.std.specs.Prelude.{ℕ, Result, Ok, Err}
use Rattle.withdrawing.specs.declared.Fault.TheVariants.{Line, NoSet}
use Rattle.withdrawing.specs.declared.Fault.{Fault}

-- 20 where the set is none; what is wrong with a line, and which; zeros where nothing is wrong
abbrev pub told : {A : Type 0} → Result A Fault → ℕ × ℕ
told (Ok _) = (0, 0)
told (Err NoSet) = (20, 0)
told (Err (Line line f)) = (code_of f, line)
