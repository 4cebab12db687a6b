-- What is asked of a nearest search, and what it is lent: as records, so that a contract names them whole, before and after, and "nothing is changed"
-- is one equation. Contracts, and laws over plain names, make them by `asks` and `lends`. Assumes nothing.
use Rattle.std.specs.Prelude.{min, ℕ, Bool, not, List}
use Rattle.laws.specs.Lists.{range, tally}
use Rattle.measure.specs.Table.{from}
use Rattle.rowset.specs.Sets.{is_in_lem}
use Rattle.words.specs.Words.{circles#, n#, row#}

-- What is asked: of a table of so many columns, by its index, the rows nearest to the query, as many as are wanted, of those that are not withdrawn.
pub record NearestAsked : Type 0 where
  pub table : List ℕ
  pub columns : ℕ
  pub index : List ℕ
  pub query : List ℕ
  pub wanted : ℕ
  -- a set of bits, on for a row that is withdrawn
  pub withdrawn : List ℕ

-- What is lent: room for the answers' row numbers and for their distances, the how-bytes, and the workspace.
pub record NearestLent : Type 0 where
  pub rows : List ℕ
  pub distances : List ℕ
  pub how : List ℕ
  pub work : List ℕ

-- both, by their parts
abbrev pub asks : List ℕ → ℕ → List ℕ → List ℕ → ℕ → List ℕ → NearestAsked
asks t c w q wanted s = record { table = t; columns = c; index = w; query = q; wanted = wanted; withdrawn = s }

abbrev pub lends : List ℕ → List ℕ → List ℕ → List ℕ → NearestLent
lends rs ds how work = record { rows = rs; distances = ds; how = how; work = work }

-- how far the query is from a row of the table, by the circles of the index
abbrev pub away : NearestAsked → ℕ → ℕ
away a = from a.table a.columns (circles# a.index) a.query

-- how many rows there are, by the index
abbrev pub rows_in : NearestAsked → ℕ
rows_in a = n# a.index

-- how many answers there can be: as many as are wanted, or all rows. So many must there be room for
abbrev pub due : NearestAsked → ℕ
due a = min a.wanted (n# a.index)

-- the rows that are withdrawn
abbrev pub gone : NearestAsked → ℕ → Bool
gone a = is_in_lem a.withdrawn

-- how many positions of the index hold a row that remains: as many as rows remain, where each row stands once
abbrev pub positions_left : NearestAsked → ℕ
positions_left a = tally (λ p. not (gone a (row# a.index p))) (range 0 (rows_in a))
