-- the row is no closer to g than it is
use Rattle.child_strays.proofs.Strays.{closer-own}
use Rattle.child_strays.proofs.is_closer.Goals as goal
use Rattle.measure.specs.Table.{between}
use Rattle.std.proofs.Common.{◌∙◌, ap}
use Rattle.words.specs.Words.{circles#}
use borrow.Author.Tests.{eq-eqb}
use mathlib.Core.Bool.{not}

pub returns-else-f-g : goal.returns-else-f-g
returns-else-f-g c =
    ap not (eq-eqb _ _ c.if-f-g.false)
    ∙ closer-own (between c.args.table.now c.args.c (circles# c.args.index.now)) c.args.index.now c.args.p c.args.x c.args.f c.args.g
    c.if-f-g.false c.requires.f_bound.2
