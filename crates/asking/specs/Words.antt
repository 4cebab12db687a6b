-- The words of the arguments, and the question that they ask. Each word is ended by a zero byte. Assumes nothing.
use Rattle.std.specs.Prelude.{◌<◌, suc, zero, ℕ, nat_lt, length, Bool, ◌&&◌, ◌||◌, cond, false, true, List, [], ◌∷◌, Option, None, Some, ◌≡◌}
use Rattle.asking.specs.Pieces.{begin_of, end_at, has_piece, part_of, piece_of}
use Rattle.asking.specs.Worth.{worth}
use Rattle.asking.specs.declared.Question.{Question}
use Rattle.asking.specs.declared.Way.{Way}
use Rattle.asking.specs.declared.Way.TheVariants.{Like, Nearest}
use Rattle.asking.specs.declared.pieces.Piece.{Piece}
use Rattle.asking.specs.declared.reading.Setting.{Setting}
use Rattle.asking.specs.declared.reading.Setting.TheVariants.{Count, Csv, Lines, Valued}
use Rattle.laws.specs.Lists.{same}

-- word i of t is w
unfoldable pub word_is : List ℕ → List ℕ → ℕ → Bool
word_is t w i = has_piece 0 t i && same (piece_of 0 t i) w

-- one of the first k words of t is w
unfoldable pub has_word_lem : List ℕ → List ℕ → ℕ → Bool
has_word_lem t w zero = false
has_word_lem t w (suc i) = word_is t w i || has_word_lem t w i

-- what a word asks for: `like` (1), `nearest` (2), or neither (0)
unfoldable pub way_of : List ℕ → ℕ
way_of w = cond (same w (108 ∷ 105 ∷ 107 ∷ 101 ∷ [])) 1 (cond (same w (110 ∷ 101 ∷ 97 ∷ 114 ∷ 101 ∷ 115 ∷ 116 ∷ [])) 2 0)

-- a way as that number
abbrev pub code : Way → ℕ
code Like = 1
code Nearest = 2

-- a way, if it is one
abbrev pub asked : Option Way → ℕ
asked None = 0
asked (Some w) = code w

-- the bytes of a word that was found
abbrev pub said : List ℕ → Piece → List ℕ
said t p = part_of t p.start p.end

-- word i of t is there, ended by a zero byte
unfoldable pub ended : List ℕ → ℕ → Bool
ended t i = has_piece 0 t i && nat_lt (end_at 0 t (begin_of 0 t i)) (length t)

-- the word of an option whose value is the next word: --columns, --by, --label, --circle, --without
unfoldable pub valued : List ℕ → Bool
valued w =
    same w (45 ∷ 45 ∷ 99 ∷ 111 ∷ 108 ∷ 117 ∷ 109 ∷ 110 ∷ 115 ∷ [])
    || same w (45 ∷ 45 ∷ 98 ∷ 121 ∷ [])
    || same w (45 ∷ 45 ∷ 108 ∷ 97 ∷ 98 ∷ 101 ∷ 108 ∷ [])
    || same w (45 ∷ 45 ∷ 99 ∷ 105 ∷ 114 ∷ 99 ∷ 108 ∷ 101 ∷ [])
    || same w (45 ∷ 45 ∷ 119 ∷ 105 ∷ 116 ∷ 104 ∷ 111 ∷ 117 ∷ 116 ∷ [])

-- behind the first k words of t an option waits for its value
unfoldable pub waits : List ℕ → ℕ → Bool
waits t zero = false
waits t (suc i) = cond (ended t i) (cond (waits t i) false (valued (piece_of 0 t i))) (waits t i)

-- what a word says as an option, if it is one, waits for a value
abbrev pub takes : Option Setting → Bool
takes (Some (Valued o)) = true
takes (Some Count) = false
takes (Some Csv) = false
takes (Some Lines) = false
takes None = false

-- a question that can be answered (that all four words are there holds by its type): no option is left without its value; it asks for rows that are
-- like, or for the nearest, by its second word; its number is what its fourth word says, below 10,000,000, and of the nearest at least one
pub record Answerable (t : List ℕ) (q : Question) : Type 0 where
  pub valued : waits t 32 ≡ false
  pub way : code q.way ≡ way_of (said t q.way_said)
  pub amount : q.number ≡ worth (said t q.number_said)
  pub below : q.number < 10_000_000
  pub wanted : code q.way ≡ 2 → q.number ≡ 0 → ⊥
