-- `limits::circles_ok` meets its contract: a set of 32 bits has none at or above 32.
-- Assumes nothing.
use Rattle.limits.proofs.Ranges.{no_bit_above}
use Rattle.limits.proofs.circles_ok.Statement.{statement}
use Rattle.limits.proofs.circles_ok.Tie as tie
use borrow.Author.Rules.{rules}
use native.Mathlib.Omega.{arith}

returns : tie.Need-returns-then-c-ge32
returns c =
    let a = c.args in
    no_bit_above a.c a.circles (omega arith) (omega arith)

pub circles_ok_spec : {M : Type 1} → statement M
circles_ok_spec = tie.close (tie.spec
    returns
    (λ c. search rules)
    (λ c. search rules)
    (λ c. search rules))
