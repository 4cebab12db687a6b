-- What the reading promises: 01, Numbers given back. Assumes nothing.
use Rattle.std.specs.Prelude.{ℕ, eqb, ltb, drop, length, cond, List, ◌++◌, ◌≡◌}
use Rattle.text_reading.specs.Reading.{numbers, readable}

-- 18 for a text that is not readable, before all else; 5 where the room is too short for its numbers
unfoldable pub said_read_lem : List ℕ → ℕ → ℕ
said_read_lem t room = cond (readable t) (cond (ltb room (length (numbers t))) 5 0) 18

-- For every text and room: on 0 the text's numbers stand at the front of the room, which is as it was beyond them, and are counted; on a refusal the
-- room is as it was and the count is 0
pub record Reads (t room room' : List ℕ) (number count : ℕ) : Type 0 where
  pub said : number ≡ said_read_lem t (length room)
  pub counted : count ≡ cond (eqb number 0) (length (numbers t)) 0
  pub filled : room' ≡ cond (eqb number 0) (numbers t ++ drop (length (numbers t)) room) room
