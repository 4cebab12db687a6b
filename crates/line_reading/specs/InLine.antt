-- One line, byte by byte: where its reader stands, and what is known of the fields that have ended. Assumes nothing.
use Rattle.std.specs.Prelude.{◌*◌, ◌+◌, ℕ, eqb, leb, replicate, set, Bool, ◌&&◌, ◌||◌, cond, false, true}
use Rattle.line_reading.specs.Troubles.{none}
use Rattle.sheet_fields.specs.declared.Kind.TheVariants.{Blank, Digit, Other, Parting, Quote, Sign}
use Rattle.sheet_fields.specs.declared.Kind.{Kind}
use Rattle.line_reading.specs.declared.Line.{Line}
use Rattle.line_reading.specs.declared.Place.TheVariants.{Behind, Great, Inside, Open, Quoted, Strange}
use Rattle.line_reading.specs.declared.Place.{Place}
use Rattle.line_reading.specs.declared.Trouble.{Trouble}

-- ---- a field that ends
-- something is wrong in a column, or not (0): the first such is kept
unfoldable pub marked : Trouble → ℕ → ℕ → Trouble
marked t kind column = cond (eqb t.kind 0) (cond (eqb kind 0) t (record { kind = kind; column = column })) t

-- of what is wrong with a number, what is wrong with a name
unfoldable pub only_empty : ℕ → ℕ
only_empty kind = cond (eqb kind 7) 7 0

-- a field ends, with what is wrong with it in a row and in names, and the number: it stands behind the others of its line; a seventeenth is one too
-- many (3)
unfoldable pub added_as : Line → ℕ → ℕ → ℕ → Line
added_as l kind named v =
    record {
      place = Behind;
      figure = l.figure;
      count = cond (leb 16 l.count) 17 (l.count + 1);
      row = cond (leb 16 l.count) l.row (set l.row l.count v);
      numbers = cond (leb 16 l.count) (marked l.numbers 3 17) (marked l.numbers kind (l.count + 1));
      names = cond (leb 16 l.count) (marked l.names 3 17) (marked l.names named (l.count + 1));
      label = l.label;
    }

-- the same, with what is wrong with it as a number: a label is judged as a name, and counts as 0
unfoldable pub added : Line → ℕ → ℕ → Line
added l kind v =
    added_as l (cond (eqb l.label (l.count + 1)) (only_empty kind) kind) (only_empty kind) (cond (eqb l.label (l.count + 1)) 0 v)

-- the field ends in which the reader stands, which is empty if it is open
abbrev pub settled_at : Place → Line → Line
settled_at Open l = added l 7 0
settled_at (Inside v) l = added l 0 v
settled_at Great l = added l 2 0
settled_at Strange l = added l 1 0
settled_at Behind l = l
settled_at Quoted l = added l 1 0

-- the same, of the place that the line has
abbrev pub settled : Line → Line
settled l = settled_at l.place l

-- ---- one byte more
-- a field may begin here
abbrev pub opens : Place → Bool
opens Open = true
opens (Inside v) = false
opens Great = false
opens Strange = false
opens Behind = true
opens Quoted = false

-- a field that begins here, or behind the quotes here, may be a figure
abbrev pub begins : Place → Bool
begins Open = true
begins (Inside v) = false
begins Great = false
begins Strange = false
begins Behind = true
begins Quoted = true

-- a digit behind the number v, which may then be too great
unfoldable pub grown : ℕ → ℕ → Place
grown v d = cond (leb (10 * v + d) 65_535) (Inside (10 * v + d)) Great

-- a digit
abbrev pub digit_at : Place → ℕ → Place
digit_at Open d = grown 0 d
digit_at (Inside v) d = grown v d
digit_at Great d = Great
digit_at Strange d = Strange
digit_at Behind d = grown 0 d
digit_at Quoted d = Strange

-- a quote: in front of a field it is passed, and elsewhere it makes the field no number
abbrev pub quote_at : Place → Place
quote_at Open = Quoted
quote_at (Inside v) = Strange
quote_at Great = Strange
quote_at Strange = Strange
quote_at Behind = Quoted
quote_at Quoted = Quoted

-- a byte of a field; one that begins a field may make a figure of it
unfoldable pub moved : Line → Place → Bool → Line
moved l p figure =
    record {
      place = p;
      figure = l.figure || (figure && begins l.place);
      count = l.count;
      row = l.row;
      numbers = l.numbers;
      names = l.names;
      label = l.label;
    }

-- a blank ends a field, unless the field is open
abbrev pub blank_at : Place → Line → Line
blank_at Open l = l
blank_at (Inside v) l = added l 0 v
blank_at Great l = added l 2 0
blank_at Strange l = added l 1 0
blank_at Behind l = l
blank_at Quoted l = added l 1 0

-- behind a byte that parts a field is open
unfoldable pub opened : Line → Line
opened l =
    record { place = Open; figure = l.figure; count = l.count; row = l.row; numbers = l.numbers; names = l.names; label = l.label }

-- the line after one more byte
abbrev pub along : Line → Kind → Line
along l (Digit d) = moved l (digit_at l.place d) true
along l Blank = blank_at l.place l
along l Parting = opened (settled l)
along l Sign = moved l Strange true
along l Other = moved l Strange false
along l Quote = moved l (quote_at l.place) false

-- before the first byte of a line
unfoldable pub emptied : ℕ → Line
emptied label = record { place = Open; figure = false; count = 0; row = replicate 16 0; numbers = none; names = none; label = label }

-- no field has begun
unfoldable pub bare : Line → Bool
bare l = eqb l.count 0 && opens l.place
