-- A number that shall be one of n rows. Assumes nothing.
use Rattle.std.specs.Prelude.{ℕ, ltb, cond, Result, Ok, Err}
use Rattle.row_lines.specs.declared.LineFault.TheVariants.{Blank, NoRow, NotANumber}
use Rattle.row_lines.specs.declared.LineFault.{LineFault}

-- what is wrong with a number that shall be one of n rows: 1 it is none, 2 there is no such row; else 0
unfoldable pub row_trouble_lem : ℕ → ℕ → ℕ
row_trouble_lem n v = cond (ltb v 10_000_000) (cond (ltb v n) 0 2) 1

-- the same of a fault that is named; 3 is a blank line above one that is not
abbrev pub code_of : LineFault → ℕ
code_of NotANumber = 1
code_of NoRow = 2
code_of Blank = 3

-- and of a row or a fault
abbrev pub trouble_of : {A : Type 0} → Result A LineFault → ℕ
trouble_of (Ok _) = 0
trouble_of (Err f) = code_of f
