-- A possible header has a width of at most 5.
use Rattle.std.proofs.Common.{arith}
use Rattle.words.proofs.Headers.{nodes-words}
use Rattle.blocks.proofs.word.words_of.Goals as goal

pub overflow_mul-result : goal.overflow_mul-result
overflow_mul-result c = omega (arith, nodes-words c.args.header.now c.requires.1 c.width.ensures.0 c.nodes.ensures.0)

pub overflow_add-result : goal.overflow_add-result
overflow_add-result c = omega (arith, nodes-words c.args.header.now c.requires.1 c.width.ensures.0 c.nodes.ensures.0)

pub overflow_add-result-2 : goal.overflow_add-result-2
overflow_add-result-2 c = omega (arith, nodes-words c.args.header.now c.requires.1 c.width.ensures.0 c.nodes.ensures.0)

pub returns : goal.returns
returns c = (
  omega (arith, nodes-words c.args.header.now c.requires.1 c.width.ensures.0 c.nodes.ensures.0),
  omega (arith, nodes-words c.args.header.now c.requires.1 c.width.ensures.0 c.nodes.ensures.0),
)
