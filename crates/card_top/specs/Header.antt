-- The widened header. A working notion, on which no promise rests. Assumes nothing.
use Rattle.std.specs.Prelude.{ℕ, List, [], ◌∷◌}
use Rattle.words.specs.Words.{nodes#, c#, circles#, kind#, l#, m#, n#}

-- the header: edition 2, and all else as it was
abbrev pub top_of : List ℕ → List ℕ
top_of w = 2 ∷ n# w ∷ c# w ∷ m# w ∷ l# w ∷ nodes# w ∷ kind# w ∷ circles# w ∷ []
