-- Which texts the listing program reads, and as what: 01, The five-row table. A text is a list of bytes. Assumes nothing.
use Rattle.std.specs.Prelude.{◌*◌, ◌+◌, ◌<◌, ◌≤◌, ℕ, drop, length, List, [], ◌++◌, ◌∷◌, ◌≡◌}

-- the decimal text of a number, a digit d being the byte 48 + d; a digit behind a number makes it ten times as much and the digit, and none goes
-- behind 0, so there is no leading zero
pub data Decimal : ℕ → List ℕ → Type 0 where
  digit : {d : ℕ} → d < 10 → Decimal d ((48 + d) ∷ [])
  followed : {n d : ℕ} {ds : List ℕ} → Decimal n ds → 1 ≤ n → d < 10 → Decimal (10 * n + d) (ds ++ (48 + d) ∷ [])

-- a space or a newline, which part two numbers
pub data Parts : ℕ → Type 0 where
  space : Parts 32
  newline : Parts 10

-- the text says these numbers: each in decimal and up to 65,535, one byte that parts between two, and a newline last or not
pub data Says : List ℕ → List ℕ → Type 0 where
  last : {n : ℕ} {ds : List ℕ} → Decimal n ds → n ≤ 65_535 → Says ds (n ∷ [])
  last_line : {n : ℕ} {ds : List ℕ} → Decimal n ds → n ≤ 65_535 → Says (ds ++ 10 ∷ []) (n ∷ [])
  more : {n b : ℕ} {ds t ns : List ℕ} → Decimal n ds → n ≤ 65_535 → Parts b → Says t ns → Says (ds ++ b ∷ t) (n ∷ ns)

-- the text is readable, as these numbers: at least 3 and at most 1,027
pub record Readable (t ns : List ℕ) : Type 0 where
  pub says : Says t ns
  pub enough : 3 ≤ length ns
  pub few : length ns ≤ 1_027

-- it is readable, but as more numbers than a room has places
pub record TooMany (t : List ℕ) (room : ℕ) : Type 0 where
  pub ns : List ℕ
  pub readable : Readable t ns
  pub more : room < length ns

-- it is readable, and its numbers were put at the front of the room and counted
pub record ReadInto (t room room' : List ℕ) (count : ℕ) : Type 0 where
  pub ns : List ℕ
  pub readable : Readable t ns
  pub fit : length ns ≤ length room
  pub counted : count ≡ length ns
  pub filled : room' ≡ ns ++ drop (length ns) room
