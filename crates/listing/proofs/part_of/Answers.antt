-- `listing::part_of` meets its contract: nothing is listed where the test fails, and else the node's pairs are there.
use Rattle.std.proofs.lemmas.Bool.{not_from_false, not_from_true}
use Rattle.std.proofs.Common.{arith, ◌∙◌, ap, refl, sym}
use Rattle.laws.proofs.Tests.{no, yes}
use Rattle.listing.proofs.Listed.{node-there, part_none, part-pairs, part-there}
use Rattle.listing.proofs.part_of.Goals as goal
use Rattle.words.specs.Words.{pair_at}

pub returns-then-not-is_listed : goal.returns-then-not-is_listed
returns-then-not-is_listed c =
    let a = c.args in
    let unlisted = no c.is_listed.ensures (not_from_false _ c.if-not-is_listed.true) in
    record { part = part_none a.index.now a.k unlisted refl refl; there = sym unlisted }

pub node_start-requires : goal.node_start-requires
node_start-requires c =
    let there = node-there c.args.index.now c.args.k (yes c.is_listed.ensures (not_from_true _ c.if-not-is_listed.false)) in
    record { whole = there.0.whole; k_bound = there.1 }

pub pair_at-requires : goal.pair_at-requires
pair_at-requires c =
    let there = node-there c.args.index.now c.args.k (yes c.is_listed.ensures (not_from_true _ c.if-not-is_listed.false)) in
    omega (arith, there.0.whole.words, part-there c.args.index.now c.args.k there.0 there.1)

pub node_count-requires : goal.node_count-requires
node_count-requires c =
    let there = node-there c.args.index.now c.args.k (yes c.is_listed.ensures (not_from_true _ c.if-not-is_listed.false)) in
    record { whole = there.0.whole; k_bound = there.1 }

pub returns : goal.returns
returns c =
    let listed = yes c.is_listed.ensures (not_from_true _ c.if-not-is_listed.false) in
    record {
      part = part-pairs c.args.index.now c.args.k listed (c.pair_at.ensures ∙ ap (pair_at c.args.index.now) c.node_start.ensures.0) (omega arith);
      there = sym listed;
    }
