-- a pass that finds nothing leaves the first fault to the next
use Rattle.audit.proofs.Faults.{distance-found, radius-found, radius-none}
use Rattle.audit.proofs.measured_fault.Goals as goal
use Rattle.measure.specs.Table.{between}
use Rattle.std.proofs.Common.{◌∙◌, arith}
use Rattle.words.specs.Words.{circles#}

pub returns-in-Some : goal.returns-in-Some
returns-in-Some c =
    distance-found (between c.args.table.now c.args.c (circles# c.args.index.now)) c.args.index.now c.in-Some.p c.in-Some.ensures.first
    c.in-Some.ensures.inside

pub returns-in-Some-first_wrong_reach : goal.returns-in-Some-first_wrong_reach
returns-in-Some-first_wrong_reach c =
    radius-found (between c.args.table.now c.args.c (circles# c.args.index.now)) c.args.index.now _ c.in_default.ensures.first
    c.in-Some-first_wrong_reach.k c.in-Some-first_wrong_reach.ensures.first (omega arith)
    c.in-Some-first_wrong_reach.ensures.inside

pub returns-in-Some-closeness : goal.returns-in-Some-closeness
returns-in-Some-closeness c =
    c.in-Some-closeness.ensures
    ∙ radius-none (between c.args.table.now c.args.c (circles# c.args.index.now)) c.args.index.now _ c.in_default.ensures.first _
    c.in_default-first_wrong_reach.ensures.first (omega arith) (omega arith)

pub returns-in-None : goal.returns-in-None
returns-in-None c =
    c.in-None.ensures
    ∙ radius-none (between c.args.table.now c.args.c (circles# c.args.index.now)) c.args.index.now _ c.in_default.ensures.first _
    c.in_default-first_wrong_reach.ensures.first (omega arith) (omega arith)
