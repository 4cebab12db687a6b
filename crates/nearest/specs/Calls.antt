-- What the nearest calls promise. Assumes nothing.
use Rattle.std.specs.Prelude.{◌*◌, ◌<◌, ℕ, T, drop, get_or, length, replicate, take, List, ◌++◌, ◌≡◌}
use Rattle.measure.specs.Table.{Rounded, between, from, row, rows_of}
use Rattle.nearest_search.specs.Found.{Settled, SoundAnswers}
use Rattle.nearest_steps.specs.Asked.{NearestAsked, NearestLent, away, gone, positions_left, rows_in}
use Rattle.nearest_refusals.specs.Numbers.{said_nearest}
use Rattle.tree.specs.Check.{Accepted}
use Rattle.tree.specs.Grove.{tree_of}
use Rattle.tree.specs.Nearest.{is_measured, measured, near_how}
use Rattle.words.specs.Words.{circles#}

-- the table t' stands on the circles of the index and fits it, and the table asked about agrees with it in every row that the search on t' measures
pub record Serves (a : NearestAsked) (t' : List ℕ) : Type 0 where
  pub rows : rows_of t' a.columns ≡ rows_in a
  pub round : Rounded t' a.columns (circles# a.index)
  pub accepted : Accepted (between t' a.columns (circles# a.index)) a.index
  pub agree : (i : ℕ) → i < rows_in a
      → T (is_measured (get_or (near_how (from t' a.columns (circles# a.index) a.query) (gone a) (rows_in a) (tree_of a.index)
      a.wanted) i 0))
      → row a.table a.columns i ≡ row t' a.columns i

-- what is said of what is asked, with room for so many answers, and lent
abbrev pub said_of : NearestAsked → ℕ → NearestLent → ℕ
said_of a room b =
    (said_nearest a.table a.columns a.index a.query a.wanted a.withdrawn room (length b.how) (length b.work)).0

-- what is asked, how many there is room for, what is lent before and after; the number, and the two counts
pub record Answered (a : NearestAsked) (room : ℕ) (b b' : NearestLent) (number given met : ℕ) : Type 0 where
  -- 01, Numbers given back: 0, or the lowest that applies
  pub said : number ≡ said_of a room b
  -- a refusal has zero counts and changes nothing
  pub refused : (number ≡ 0 → ⊥) → (given ≡ 0) × (met ≡ 0) × (b' ≡ b)
  -- on success the first 6n words of the workspace are zero
  pub cleared : number ≡ 0 → b'.work ≡ replicate (6 * rows_in a) 0 ++ drop (6 * rows_in a) b.work
  -- and entries beyond what is written stay: of the rooms for answers, all from the given ones on
  pub beyond : number ≡ 0 → (drop given b'.rows ≡ drop given b.rows)
      × (drop given b'.distances ≡ drop given b.distances)
      × (drop (rows_in a) b'.how ≡ drop (rows_in a) b.how)
  -- on every index in shape there are w answers, or as many as positions hold a row that is not withdrawn; they are such rows with their distances,
  -- in order, and the how-bytes tell them
  pub sound : number ≡ 0 → SoundAnswers (away a) (gone a) (rows_in a) (positions_left a) a.wanted b' given
  -- the count is that of the how-bytes 1 and 3 that stand there afterwards
  pub counted : number ≡ 0 → met ≡ measured (take (rows_in a) b'.how)
  -- 01, Which rows are measured, Nearest: answers and how-bytes are those of any table that fits the index and with which the lent one agrees
  -- in the rows measured. With the lent table itself this says what the answers are; with another it is the statement on two tables
  pub found : number ≡ 0 → (t' : List ℕ) → Serves a t' → Settled (from t' a.columns (circles# a.index) a.query) (gone a) a.index
      a.wanted b b' given
