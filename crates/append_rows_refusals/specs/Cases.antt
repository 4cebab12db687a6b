-- What the call says to tables and indexes that are not each other's: one column. Assumes nothing.
use Rattle.std.specs.Prelude.{ℕ, eqb, set, Bool, List, [], ◌++◌, ◌∷◌}
use Rattle.append_refusals.specs.Cases.{Case}
use Rattle.append_rows_refusals.specs.Numbers.{said_append_rows}
use Rattle.tree.specs.Cases.{five, five_words}

-- a case comes out as it says
abbrev pub right : Case → Bool
right k = eqb (said_append_rows k.table k.columns k.index k.room k.work).0 k.number

-- the five rows and two more
abbrev seven : List ℕ
seven = five ++ 6 ∷ 12 ∷ []

-- seven rows, or others, beside the index of the five: 92 words of room and 42 of workspace are enough
abbrev beside : List ℕ → ℕ → ℕ → Case
beside T c number = record { table = T; columns = c; index = five_words; room = 92; work = 42; number = number }

-- a table of seven rows beside other words
abbrev turned : List ℕ → List ℕ → ℕ → Case
turned T w number = record { table = T; columns = 1; index = w; room = 92; work = 42; number = number }

-- the tables: one row more, or two; as many as the header says, fewer, none; other columns
abbrev pub tables : List Case
tables =
    beside seven 1 0
    ∷ beside (five ++ 6 ∷ []) 1 0
    ∷ beside seven 0 1
    ∷ beside seven 17 1
    ∷ beside seven 4 3
    ∷ beside five 1 8
    ∷ beside (0 ∷ 1 ∷ []) 1 8
    ∷ beside [] 1 8
    ∷ beside (seven ++ seven) 2 8
    ∷ beside (seven ++ 7 ∷ []) 1 5
    ∷ []

-- the rooms: one word short each, those of the old rows, and 5 comes before 8
abbrev pub rooms : List Case
rooms =
    record { table = seven; columns = 1; index = five_words; room = 91; work = 42; number = 5 }
    ∷ record { table = seven; columns = 1; index = five_words; room = 92; work = 41; number = 5 }
    ∷ record { table = seven; columns = 1; index = five_words; room = 68; work = 30; number = 5 }
    ∷ record { table = seven; columns = 1; index = []; room = 91; work = 42; number = 5 }
    ∷ record { table = five; columns = 1; index = five_words; room = 67; work = 30; number = 5 }
    ∷ record { table = five; columns = 1; index = five_words; room = 68; work = 30; number = 8 }
    ∷ []

-- the index's circles: the last row off them, the first new one, an older one, all on them, the column no circle, a bit that is no column's, and 9
-- before 19
abbrev pub circles : List Case
circles =
    turned (five ++ 6 ∷ 3600 ∷ []) (set five_words 7 1) 19
    ∷ turned (five ++ 3600 ∷ 6 ∷ []) (set five_words 7 1) 19
    ∷ turned (set seven 2 3600) (set five_words 7 1) 19
    ∷ turned (five ++ 6 ∷ 3599 ∷ []) (set five_words 7 1) 0
    ∷ turned (five ++ 6 ∷ 3600 ∷ []) five_words 0
    ∷ turned (five ++ 6 ∷ 3600 ∷ []) (set five_words 7 2) 8
    ∷ turned (five ++ 6 ∷ 3600 ∷ []) (set (set five_words 7 1) 9 4) 9
    ∷ []

-- the words: none, too few for a header, edition 1, a header with a row more or with all of them, a count that no node can have, and a row that the
-- index's table has not
abbrev pub words : List Case
words =
    turned seven [] 8
    ∷ turned seven (2 ∷ 0 ∷ 1 ∷ 2 ∷ 2 ∷ 0 ∷ 1 ∷ []) 8
    ∷ turned seven (2 ∷ 0 ∷ 1 ∷ 2 ∷ 2 ∷ 0 ∷ 1 ∷ 0 ∷ []) 0
    ∷ turned seven (set five_words 0 1) 8
    ∷ turned seven (set five_words 1 4) 9
    ∷ turned seven (set five_words 1 6) 8
    ∷ turned seven (set five_words 1 7) 8
    ∷ turned seven (set five_words 9 4) 9
    ∷ turned seven (set five_words 33 5) 9
    ∷ []
