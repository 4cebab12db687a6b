-- `dealing::settle` meets its contract: of an inner node nothing is laid, and a leaf as its piece says.
-- Assumes nothing.
use Rattle.dealing.proofs.Settling.{settle-inner, settle-leaf}
use borrow.Author.Rules.{rules}
use mathlib.Core.Path.{refl}
use native.Mathlib.Omega.{arith}
use Rattle.dealing.proofs.settle.Goals as goal

pub returns-then-node_child-ne0-clause-settles : goal.returns-then-node_child-ne0-clause-settles
returns-then-node_child-ne0-clause-settles c = settle-inner c.requires _ c.node_child.ensures.0 c.if-node_child-ne0.true refl

pub returns-then-node_child-ne0-clause-fits : goal.returns-then-node_child-ne0-clause-fits
returns-then-node_child-ne0-clause-fits c = omega (arith, c.requires.there, c.requires.shape.whole.nodes, c.requires.shape.whole.rows)

pub returns-clause-settles : goal.returns-clause-settles
returns-clause-settles c =
    settle-leaf c.requires _ c.node_child.ensures.0 c.if-node_child-ne0.false c.columns.ensures.0 (search rules) c.lodge.ensures.lodges
