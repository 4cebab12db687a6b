-- What putting queries gives, as numbers: what is wrong, a number that says more of it, and how many were put. Assumes nothing.
use Rattle.std.specs.Prelude.{ℕ, Result, Ok, Err}
use Rattle.queries.specs.declared.Fault.{Fault}
use Rattle.queries.specs.declared.Fault.TheVariants.{NoRow, NotARow, TooManyRows, NotAValue, TooFewValues, NotOne, NoLabel, OffCircle}

-- the number of a fault
abbrev pub number : Fault → ℕ
number (NoRow _) = 21
number NotARow = 22
number TooManyRows = 23
number (NotAValue _) = 24
number (TooFewValues _) = 25
number (NotOne _) = 26
number NoLabel = 27
number (OffCircle _) = 28

-- the number that says more of it
abbrev pub detail : Fault → ℕ
detail (NoRow row) = row
detail NotARow = 0
detail TooManyRows = 0
detail (NotAValue i) = i
detail (TooFewValues i) = i
detail (NotOne hits) = hits
detail NoLabel = 0
detail (OffCircle i) = i

-- the same of an outcome: 0 where nothing is wrong
abbrev pub wrong_of : Result ℕ Fault → ℕ
wrong_of (Ok _) = 0
wrong_of (Err e) = number e

abbrev pub more_of : Result ℕ Fault → ℕ
more_of (Ok _) = 0
more_of (Err e) = detail e

-- how many queries were put: 0 where something is wrong
abbrev pub count_of : Result ℕ Fault → ℕ
count_of (Ok count) = count
count_of (Err _) = 0
