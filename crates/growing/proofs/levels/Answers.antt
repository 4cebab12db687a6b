-- `growing::levels` meets its contract: one level more is opened (`Grows`), and behind the last the whole tree stands.
use Rattle.std.proofs.Common.{rules, arith}
use Rattle.growing.proofs.Growing.{growing-done, growing-level, growing-step}
use Rattle.growing.proofs.levels.Goals as goal

pub level-made-requires : goal.level-made-requires
level-made-requires c = growing-level (c.loop-depth.invariant.grows c.requires.planted) c.requires.fit

pub loop-depth-preserved : goal.loop-depth-preserved
loop-depth-preserved c =
    record {
      rooms = search rules;
      works = search rules;
      grows = λ g. growing-step (c.loop-depth.invariant.grows g) c.requires.fit (omega arith) c.level-made.ensures;
    }

pub returns : goal.returns
returns c = λ g. growing-done (c.loop-depth.invariant.grows g) (omega arith)
