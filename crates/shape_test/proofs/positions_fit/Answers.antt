-- `shape_test::positions_fit` meets its contract: one position more is looked at, and none is wrong just where all are right.
use Rattle.std.proofs.Common.{arith, ◌≡◌, ◌∙◌, ℕ, ap, not}
use Rattle.laws.specs.Lists.{any, range}
use Rattle.shape_test.proofs.WrongPositions.{wrong-next, wrong-none, wrong_at}
use Rattle.shape_test.proofs.positions_fit.Goals as goal
use Rattle.words.specs.Words.{n#}

pub loop-p-preserved : goal.loop-p-preserved
loop-p-preserved c =
    wrong-next c.args.index.now c.loop-p.wrong _ c.pair_at-base.result c.loop-p.p c.loop-p.invariant c.rows-n.ensures.0 c.pair_at-base.ensures

pub returns : goal.returns
returns c =
    let w = c.args.index.now in
    let n : c.loop-p.p ≡ n# w = omega (arith, c.rows-n.ensures.0) in
    ap not (c.loop-p.invariant ∙ ap (λ (p : ℕ). any (wrong_at w) (range 0 p)) n) ∙ wrong-none w
