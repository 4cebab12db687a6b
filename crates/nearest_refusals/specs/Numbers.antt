-- What a nearest search says: 01, Numbers given back. Assumes nothing.
use Rattle.std.specs.Prelude.{◌*◌, min, ℕ, eqb, ltb, length, Bool, ◌||◌, false, not, List, ◌++◌}
use Rattle.limits.specs.Said.{Said, fault, said}
use Rattle.limits.specs.declared.Asked.{Asked}
use Rattle.measure.specs.Table.{rows_of}
use Rattle.refusals.specs.Refused.{call_faults}
use Rattle.rowset.specs.Sets.{set_bad_lem}

-- 5, with n rows: the room for answers, the how-bytes or the workspace is too short
abbrev pub nearest_short : ℕ → ℕ → ℕ → ℕ → ℕ → Bool
nearest_short n wanted room how work = ltb room (min wanted n) || ltb how n || ltb work (6 * n)

-- what it asks of numbers: 1, 3, 4, 5, 6 and 7. `room` is the number of answers that fit
abbrev pub nearest_asks : List ℕ → ℕ → List ℕ → ℕ → ℕ → ℕ → ℕ → Asked
nearest_asks T c q wanted room how work =
    record {
      length = length T;
      columns = c;
      unfit = false;
      short = nearest_short (rows_of T c) wanted room how work;
      unlike = not (eqb (length q) c);
      none = eqb wanted 0;
    }

-- nearest: 1, 3, 4, 5, 6, 7, 8, 9, 19, and 20 of the set of rows that are withdrawn
unfoldable pub said_nearest : List ℕ → ℕ → List ℕ → List ℕ → ℕ → List ℕ → ℕ → ℕ → ℕ → Said
said_nearest T c w q wanted s room how work = said (call_faults (nearest_asks T c q wanted room how work) T w q ++ fault 20 (set_bad_lem s (rows_of T c)))
