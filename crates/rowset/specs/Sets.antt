-- A set of rows as bits, 32 rows to a word, a bit on for a row that is withdrawn: 02, R-5. Assumes nothing.
use Rattle.std.specs.Prelude.{◌%◌, ◌*◌, ◌+◌, ◌-◌, ◌/◌, ◌<◌, ◌^◌, ℕ, eqb, get_or, length, set, Bool, ◌||◌, false, not, List, ◌≡◌}
use Rattle.laws.specs.Lists.{any, range}
use Rattle.std.specs.Int.Bits.{bit_and, bit_or}

-- the word in which row r's bit stands: missing words are zeros, so that a set of any length answers for every row
abbrev pub word_of : List ℕ → ℕ → ℕ
word_of s r = get_or s (r / 32) 0

-- row r's bit: 1 where it is on
unfoldable pub bit_of : List ℕ → ℕ → ℕ
bit_of s r = word_of s r / 2 ^ (r % 32) % 2

-- row r is in the set
abbrev pub is_in_lem : List ℕ → ℕ → Bool
is_in_lem s r = eqb (bit_of s r) 1

-- a word in which row r's bit alone is on
abbrev pub mask : ℕ → ℕ
mask r = 2 ^ (r % 32)

-- the set with row r's bit on, and every other bit as it was
unfoldable pub struck : List ℕ → ℕ → List ℕ
struck s r = set s (r / 32) (bit_or (word_of s r) (mask r))

-- the set with row r's bit off, and every other bit as it was
unfoldable pub restored : List ℕ → ℕ → List ℕ
restored s r = set s (r / 32) (bit_and (word_of s r) (4_294_967_295 - mask r))

-- the words that n rows take: n/32 rounded up
abbrev pub words_for_lem : ℕ → ℕ
words_for_lem n = (n + 31) / 32

-- a bit n or above is on, in one of the words
abbrev pub too_high : List ℕ → ℕ → Bool
too_high s n = any (is_in_lem s) (range n (32 * length s - n))

-- 02, R-5, refusal 20: the set's length is not n/32 rounded up, or a bit n or above is on
unfoldable pub set_bad_lem : List ℕ → ℕ → Bool
set_bad_lem s n = not (eqb (length s) (words_for_lem n)) || too_high s n

-- every word has 32 bits, as those of every lent set have
abbrev pub Narrow : List ℕ → Type 0
Narrow s = (i : ℕ) → get_or s i 0 < 4_294_967_296

-- two sets have the same rows, whatever their lengths
abbrev pub SameRows : List ℕ → List ℕ → Type 0
SameRows s t = (i : ℕ) → is_in_lem s i ≡ is_in_lem t i

-- unless the test says that a bit is on, every word is zero
abbrev pub AllOff : Bool → List ℕ → Type 0
AllOff on s = on ≡ false → (k : ℕ) → get_or s k 0 ≡ 0
