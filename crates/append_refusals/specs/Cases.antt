-- What the call says to tables and indexes that are not each other's: one column. Assumes nothing.
use Rattle.std.specs.Prelude.{ℕ, eqb, set, Bool, List, [], ◌++◌, ◌∷◌}
use Rattle.append_refusals.specs.Numbers.{said_append}
use Rattle.tree.specs.Cases.{five, five_words}

-- a table, its columns, an index, the words of room and of workspace, and the number that is said
pub record Case : Type 0 where
  pub table : List ℕ
  pub columns : ℕ
  pub index : List ℕ
  pub room : ℕ
  pub work : ℕ
  pub number : ℕ

-- a case comes out as it says
abbrev pub right : Case → Bool
right k = eqb (said_append k.table k.columns k.index k.room k.work).0 k.number

-- the five rows and a sixth
abbrev sixth : List ℕ
sixth = five ++ 6 ∷ []

-- six rows, or others, beside the index of the five: 80 words of room and 36 of workspace are enough
abbrev beside : List ℕ → ℕ → ℕ → Case
beside T c number = record { table = T; columns = c; index = five_words; room = 80; work = 36; number = number }

-- a table of six rows beside other words
abbrev turned : List ℕ → List ℕ → ℕ → Case
turned T w number = record { table = T; columns = 1; index = w; room = 80; work = 36; number = number }

-- six rows beside other words
abbrev over : List ℕ → ℕ → Case
over w number = turned sixth w number

-- the tables
abbrev pub tables : List Case
tables =
    beside sixth 1 0
    ∷ beside sixth 0 1
    ∷ beside sixth 17 1
    ∷ beside sixth 4 3
    ∷ beside five 1 8
    ∷ beside (sixth ++ 7 ∷ []) 1 5
    ∷ beside [] 1 8
    ∷ beside (sixth ++ sixth) 2 8
    ∷ []

-- the rooms: one word short each, and 5 comes before 8
abbrev pub rooms : List Case
rooms =
    record { table = sixth; columns = 1; index = five_words; room = 79; work = 36; number = 5 }
    ∷ record { table = sixth; columns = 1; index = five_words; room = 80; work = 35; number = 5 }
    ∷ record { table = sixth; columns = 1; index = []; room = 79; work = 36; number = 5 }
    ∷ record { table = sixth ++ 7 ∷ []; columns = 1; index = five_words; room = 92; work = 42; number = 8 }
    ∷ []

-- the index's circles: the new row off them, an older row off them, all on them, the column no circle, a bit that is no column's, and 9 before 19
abbrev pub circles : List Case
circles =
    turned (five ++ 3600 ∷ []) (set five_words 7 1) 19
    ∷ turned (set sixth 2 3600) (set five_words 7 1) 19
    ∷ turned (five ++ 3599 ∷ []) (set five_words 7 1) 0
    ∷ turned (five ++ 3600 ∷ []) five_words 0
    ∷ turned (five ++ 3600 ∷ []) (set five_words 7 2) 8
    ∷ turned (five ++ 3600 ∷ []) (set (set five_words 7 1) 9 4) 9
    ∷ []

-- the words: none, edition 1, a count that no node can have, and a row that the index's table has not
abbrev pub words : List Case
words =
    over [] 8
    ∷ over (set five_words 0 1) 8
    ∷ over (set five_words 9 4) 9
    ∷ over (set five_words 33 5) 9
    ∷ []
