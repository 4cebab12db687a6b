-- `filling::grow` meets its contract: no rows have no nodes; else the root, and the levels below it.
use Rattle.std.proofs.Common.{rules}
use Rattle.filling.proofs.Whole.{grown-levels, grown-none}
use Rattle.filling.proofs.grow.Goals as goal

pub returns-then-n-eq0 : goal.returns-then-n-eq0
returns-then-n-eq0 c = grown-none c.if-n-eq0.true

pub returns : goal.returns
returns c = grown-levels c.requires.fit (search rules) (c.levels.ensures (record { origin = c.args.room.now; rooted = c.root.ensures }))
