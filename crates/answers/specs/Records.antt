-- Records of answers, made of row numbers and distances. Assumes nothing.
use Rattle.std.specs.Prelude.{ℕ, get_or, List, map}
use Rattle.answers.specs.declared.Answer.{Answer}
use Rattle.laws.specs.Lists.{range}

-- the record of one answer: a row number and its distance
abbrev pub made : ℕ → ℕ → Answer
made r d = record { row = r; distance = d }

-- the records of the first k row numbers of rs and distances of ds, in their order
abbrev pub records : List ℕ → List ℕ → ℕ → List Answer
records rs ds k = map (λ i. made (get_or rs i 0) (get_or ds i 0)) (range 0 k)
