-- What a refusal says, in 01's number and places. Assumes nothing.
use Rattle.std.specs.Prelude.{ℕ, Result, Ok, Err}
use Rattle.limits.specs.Said.{Said}
use Rattle.limits.specs.declared.refusal.Refusal.TheVariants.{Columns, Parameters, Ragged, Rows, Room, Query, NoneWanted, OtherTable, Shape, RowAgain, StoredDistance, Reach, Stray, Blocks, CheckWord, Header, Rest, Text, OffCircle, Set, NoRow}
use Rattle.limits.specs.declared.refusal.Refusal.{Refusal}

-- its number, and the places that it names
abbrev pub said_by : Refusal → Said
said_by Columns = (1, 0, 0)
said_by Parameters = (2, 0, 0)
said_by Ragged = (3, 0, 0)
said_by Rows = (4, 0, 0)
said_by Room = (5, 0, 0)
said_by Query = (6, 0, 0)
said_by NoneWanted = (7, 0, 0)
said_by OtherTable = (8, 0, 0)
said_by Shape = (9, 0, 0)
said_by (RowAgain p) = (10, p, 0)
said_by (StoredDistance p) = (11, p, 0)
said_by (Reach k) = (12, k, 0)
said_by (Stray k p) = (13, k, p)
said_by Blocks = (14, 0, 0)
said_by (CheckWord b) = (15, b, 0)
said_by Header = (16, 0, 0)
said_by Rest = (17, 0, 0)
said_by Text = (18, 0, 0)
said_by OffCircle = (19, 0, 0)
said_by Set = (20, 0, 0)
said_by NoRow = (26, 0, 0)

-- what a call says: 0 where it is done
abbrev pub outcome : {A : Type 0} → Result A Refusal → Said
outcome (Ok _) = (0, 0, 0)
outcome (Err r) = said_by r

-- how many were written, read or found: none where a call is refused
abbrev pub count_of : Result ℕ Refusal → ℕ
count_of (Ok n) = n
count_of (Err r) = 0
