-- Which line of a text stops the reading, and why. A working notion, on which no promise rests. Assumes nothing.
use Rattle.std.specs.Prelude.{◌+◌, ◌<◌, ◌≤◌, ℕ, length, false, true, List, [], ◌++◌, ◌∷◌, map, ◌≡◌}
use Rattle.laws.specs.Lists.{all, joined}
use Rattle.sheet_fields.specs.Fields.{as_names, is_digit_lem, value}
use Rattle.sheet_reading.specs.Lines.{fields_of, named, numbers}
use Rattle.line_reading.specs.Troubles.{trouble}
use Rattle.sheet_reading.specs.Says.{Told, line_trouble}
use Rattle.sheet_fields.specs.declared.Kind.{Kind}

-- a field is wrong as a number: it is empty, is not digits alone, or says more than 65,535
pub data Wrong : ℕ → List Kind → Type 0 where
  empty : Wrong 7 []
  strange : {k : Kind} {f : List Kind} → all is_digit_lem (k ∷ f) ≡ false → Wrong 1 (k ∷ f)
  great : {k : Kind} {f : List Kind} → all is_digit_lem (k ∷ f) ≡ true → 65_535 < value (k ∷ f) → Wrong 2 (k ∷ f)

-- or it is right
pub data Right : List Kind → Type 0 where
  right : {k : Kind} {f : List Kind} → all is_digit_lem (k ∷ f) ≡ true → value (k ∷ f) ≤ 65_535 → Right (k ∷ f)

-- these lines, the first of which has this number, below `rows` rows with `put` numbers, say o, in which something is wrong: nothing is wrong with the
-- lines before, each of which is a row, and this is wrong with the next one; or there is none, and no row
pub record Stops (label room line rows put : ℕ) (ls : List (List ℕ)) (o : Told) : Type 0 where
  pub before : List (List ℕ)
  pub behind : List (List ℕ)
  pub whole : ls ≡ before ++ behind
  pub number : o.line ≡ line + length before
  pub above : o.rs ≡ map (numbers label) before
  pub why : (l : List ℕ) (ms : List (List ℕ)) → behind ≡ l ∷ ms
      → line_trouble label o.columns (rows + length before) (put + length (joined (map (numbers label) before))) room l
      ≡ record { kind = o.kind; column = o.column }
  pub none : behind ≡ [] → (o.kind ≡ 8) × (rows + length before ≡ 0)

-- the lines ls of a text say o, in which something is wrong: with its names, or below them, or there are none
pub data StopsText (label room : ℕ) (ls : List (List ℕ)) (o : Told) : Type 0 where
  at_names : {l : List ℕ} {ms : List (List ℕ)} → ls ≡ l ∷ ms → named l ≡ true
      → trouble as_names 0 (fields_of l) ≡ record { kind = o.kind; column = o.column } → o.line ≡ 1 → StopsText label room ls o
  below_names : {l : List ℕ} {ms : List (List ℕ)} → ls ≡ l ∷ ms → named l ≡ true → (trouble as_names 0 (fields_of l)).kind ≡ 0
      → Stops label room 2 0 0 ms o → StopsText label room ls o
  no_names : Stops label room 1 0 0 ls o → StopsText label room ls o
