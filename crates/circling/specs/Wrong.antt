-- What comes of a list of circles, by numbers. Assumes nothing.
use Rattle.circle_columns.specs.Faults.{code_of}
use Rattle.circling.specs.declared.WrongItem.{WrongItem}
use Rattle.std.specs.Prelude.{ℕ, Result, Ok, Err}

-- what is wrong: 0 where nothing is
abbrev pub wrong_of : Result ℕ WrongItem → ℕ
wrong_of (Ok _) = 0
wrong_of (Err w) = code_of w.fault

-- and where that item stands
abbrev pub start_of : Result ℕ WrongItem → ℕ
start_of (Ok _) = 0
start_of (Err w) = w.item.start

abbrev pub end_of : Result ℕ WrongItem → ℕ
end_of (Ok _) = 0
end_of (Err w) = w.item.end

-- the set, which is empty where something is wrong
abbrev pub set_of_lem : Result ℕ WrongItem → ℕ
set_of_lem (Ok set) = set
set_of_lem (Err _) = 0
