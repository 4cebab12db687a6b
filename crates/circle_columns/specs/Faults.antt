-- What is wrong with an item of a list of circles, by its number. Assumes nothing.
use Rattle.circle_columns.specs.declared.CircleFault.TheVariants.{Name, NotCounted, TooMany}
use Rattle.circle_columns.specs.declared.CircleFault.{CircleFault}
use Rattle.column_names.specs.declared.NameFault.TheVariants.{NoColumn, TwoColumns}
use Rattle.column_names.specs.declared.NameFault.{NameFault}
use Rattle.std.specs.Prelude.{ℕ, Result, Ok, Err}

-- of a name: 11 where no column has it, 12 where two have
abbrev pub name_code : NameFault → ℕ
name_code NoColumn = 11
name_code TwoColumns = 12

-- of an item: that of its name; 14 where it is one too many, 16 where its column does not count
abbrev pub code_of : CircleFault → ℕ
code_of (Name f) = name_code f
code_of TooMany = 14
code_of NotCounted = 16

-- 0 where nothing is wrong
abbrev pub trouble_of : {A : Type 0} → Result A CircleFault → ℕ
trouble_of (Ok _) = 0
trouble_of (Err f) = code_of f
