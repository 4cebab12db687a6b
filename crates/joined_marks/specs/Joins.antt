-- The marks of n rows, and one search more. Assumes nothing.
use Rattle.std.specs.Prelude.{ℕ, eqb, leb, drop, get_or, cond, List, ◌++◌}
use Rattle.joined_marks.specs.Firsts.{first_of}
use Rattle.laws.specs.Upto.{sum_to}

-- a row's mark, with its how-byte
unfoldable pub merged : ℕ → ℕ → ℕ
merged mark how = cond (leb 2 how) 1 mark

-- 1 where it was not marked before, and is in
unfoldable pub fresh : ℕ → ℕ → ℕ
fresh mark how = cond (leb 2 how) (cond (eqb mark 0) 1 0) 0

-- the marks of n rows, with their how-bytes
unfoldable pub united : List ℕ → List ℕ → ℕ → List ℕ
united how marks n = first_of (λ i. merged (get_or marks i 0) (get_or how i 0)) n ++ drop n marks

-- how many of them are new
unfoldable pub sum_fresh : List ℕ → List ℕ → ℕ → ℕ
sum_fresh how marks n = sum_to (λ i. fresh (get_or marks i 0) (get_or how i 0)) n
