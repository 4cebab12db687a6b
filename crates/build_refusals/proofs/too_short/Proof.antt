-- `build_refusals::too_short` meets its contract: the two tests are those of `short_of`.
-- Assumes nothing.
use Rattle.build_refusals.proofs.Refusals.{behind_header}
use Rattle.build_refusals.proofs.too_short.Statement.{statement}
use Rattle.build_refusals.proofs.too_short.Tie as tie
use Rattle.build_refusals.specs.Numbers.{room_of}
use borrow.Author.Rules.{rules}
use borrow.Author.Tests.{lt-ltb}
use mathlib.Core.Bool.{◌||◌}
use mathlib.Core.Path.{◌∙◌, ap₂}
use native.Mathlib.Omega.{arith}

returns : tie.Need-returns-then-room-lt-HEADER
returns c =
    let a = c.args in
    simp (lt-ltb a.room (room_of a.n) (omega arith))

returns-2 : tie.Need-returns
returns-2 c =
    let a = c.args in
    ap₂ (λ p q. p || q) (c.is_short.ensures ∙ behind_header a.n a.room (omega arith)) c.is_short-2.ensures

pub too_short_spec : {M : Type 1} → statement M
too_short_spec = tie.close (tie.spec
    returns
    (λ c κs. search rules)
    (λ c κs. search rules)
    returns-2)
