-- The first wrong block that the search meets is the lowest; where it meets none there is none.
use Rattle.std.proofs.Common.{not, ap, sym, ◌∙◌, arith}
use Rattle.std.proofs.lemmas.Bool.{not_from_false}
use Rattle.blocks.proofs.Wrong.{lowest-is, lowest-none}
use Rattle.blocks.proofs.check.first_wrong.Goals as goal
use Rattle.laws.proofs.First.{search-stop}

pub returns-then-not-block_good : goal.returns-then-not-block_good
returns-then-not-block_good c =
    let wrong = ap not (sym c.block_good.ensures) ∙ not_from_false _ c.if-not-block_good.true in
    sym (lowest-is c.args.image.now c.args.blocks _ c.loop-b-test.true (search-stop _ 0 _ _ c.loop-b.invariant c.loop-b-test.true wrong))

pub returns : goal.returns
returns c = sym (lowest-none c.args.image.now c.args.blocks c.loop-b.b (omega arith) c.loop-b.invariant)
