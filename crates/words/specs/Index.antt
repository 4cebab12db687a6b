-- What is wrong with an index for a table: 01, Numbers given back, 8 and 9. Assumes nothing.
use Rattle.std.specs.Prelude.{ℕ, eqb, Bool, ◌&&◌, not, List, ◌++◌}
use Rattle.limits.specs.Said.{Said, fault}
use Rattle.words.specs.Shape.{shape_ok_lem}
use Rattle.words.specs.Words.{c#, n#, words_ok_lem}

-- 8 and 9 of index words for a table of n rows of c columns: `whole` is whether the words are there under a possible header
unfoldable pub fit_faults : Bool → List ℕ → ℕ → ℕ → List Said
fit_faults whole w n c = fault 8 (not (whole && eqb (n# w) n && eqb (c# w) c)) ++ fault 9 (not (shape_ok_lem w))

-- 8 and 9 of an index in memory
abbrev pub index_faults : List ℕ → ℕ → ℕ → List Said
index_faults w n c = fit_faults (words_ok_lem w) w n c
