-- one first more
use Rattle.laws.proofs.Gathered.{holds_more}
use Rattle.nearness.proofs.firsts.Goals as goal
use Rattle.std.proofs.Common.{◌-◌, arith, refl}
use Rattle.words.specs.Words.{n#}
use lib.ListN.{length-set}

pub loop-i-init : goal.loop-i-init
loop-i-init c = (refl, λ j h. absurd (omega arith))

pub bounds-fs-i : goal.bounds-fs-i
bounds-fs-i c = omega (arith, c.loop-i.invariant, c.requires.in_shape.whole.fan)

pub loop-i-preserved : goal.loop-i-preserved
loop-i-preserved c = (
  simp length-set c.loop-i.invariant.0,
  holds_more _ (n# c.args.index.now - 1) c.loop-i.fs c.loop-i.i (omega (arith, c.loop-i.invariant.0, c.requires.in_shape.whole.fan))
      c.node_first.ensures.0 (omega (arith, c.node_first.ensures.1)) c.loop-i.invariant.1,
)

pub returns : goal.returns
returns c =
    let W = c.requires.in_shape.whole in
    record {
      at = λ j h. (c.loop-i.invariant.1 j (omega arith)).0;
      low = λ j h. omega (arith, (c.loop-i.invariant.1 j (omega arith)).1, c.requires.index_bound, W.fan, W.nodes);
    }
