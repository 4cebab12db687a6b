-- What a build says: 01, Numbers given back. Assumes nothing.
use Rattle.std.specs.Prelude.{◌*◌, ◌+◌, ◌/◌, ℕ, ltb, length, Bool, ◌||◌, false, not, List, [], ◌++◌}
use Rattle.limits.specs.Chosen.{choice_ok}
use Rattle.limits.specs.Said.{Said, number_faults, said}
use Rattle.limits.specs.declared.Asked.{Asked}
use Rattle.refusals.specs.Refused.{circle_faults}
use Rattle.words.specs.Words.{header_words}

-- how many words of room a build over n rows asks for
abbrev pub room_of : ℕ → ℕ
room_of n = 12 * n + header_words

-- 5, with n rows: the room or the workspace is too short
abbrev pub short_of : ℕ → ℕ → ℕ → Bool
short_of n room work = ltb room (room_of n) || ltb work (6 * n)

-- what is asked of numbers by a call that writes an index over a table of this length and c columns: 1, 2, 3, 4 and 5. `room` and `work` are the
-- lengths of what is lent
abbrev pub writer_asks : ℕ → ℕ → Bool → ℕ → ℕ → Asked
writer_asks long c unfit room work =
    record { length = long; columns = c; unfit = unfit; short = short_of (long / c) room work; unlike = false; none = false }

-- what refuses a build over the table T of c columns, of which the set o are circles: what numbers decide, and then 19 (02, R-1)
abbrev pub build_faults : List ℕ → ℕ → ℕ → Bool → ℕ → ℕ → List Said
build_faults T c o unfit room work = number_faults (writer_asks (length T) c unfit room work) ++ circle_faults c o T []

-- build: 1, 2, 3, 4, 5, 19. 2 is given where m, l, the circles or the edition is out of range
unfoldable pub said_build : List ℕ → ℕ → ℕ → ℕ → ℕ → ℕ → ℕ → ℕ → Said
said_build T c o e m l room work = said (build_faults T c o (not (choice_ok c m l o e)) room work)
