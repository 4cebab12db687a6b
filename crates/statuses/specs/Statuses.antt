-- The statuses that the analyst's program ends with (docs/statements/minutes.md). Assumes nothing.
use Rattle.std.specs.Prelude.{◌≤◌, ℕ}
use Rattle.statuses.specs.declared.Status.TheVariants.{Answered, NothingFound, AskedWrongly, TextFaulty, NoRoom}
use Rattle.statuses.specs.declared.Status.{Status}

-- there is an answer
abbrev pub answered : ℕ
answered = 0

-- nothing is found
abbrev pub nothing_found_lem : ℕ
nothing_found_lem = 1

-- the question is wrong
abbrev pub asked_wrongly_lem : ℕ
asked_wrongly_lem = 2

-- a text has a fault
abbrev pub text_faulty_lem : ℕ
text_faulty_lem = 3

-- there is no room
abbrev pub no_room_lem : ℕ
no_room_lem = 4

-- the number of a status
abbrev pub number_of : Status → ℕ
number_of Answered = answered
number_of NothingFound = nothing_found_lem
number_of AskedWrongly = asked_wrongly_lem
number_of TextFaulty = text_faulty_lem
number_of NoRoom = no_room_lem

-- the launcher knows the status: it takes any other for a program that broke off
abbrev pub Known : ℕ → Type 0
Known status = status ≤ 4
