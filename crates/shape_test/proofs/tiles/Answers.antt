-- `shape_test::tiles` meets its contract: a tile that starts elsewhere ends the test, and after the last the end decides.
use Rattle.std.proofs.Common.{arith, ◌∙◌, ◌+◌, ◌-◌, ap, sym}
use Rattle.shape_test.proofs.tiles.Goals as goal
use Rattle.words.proofs.Tiles.{tile-end, tile-step, tile-stop}
use Rattle.words.specs.Shape.{tile}

pub returns-then-node_start-at : goal.returns-then-node_start-at
returns-then-node_start-at c =
    let a = c.args in
    sym (c.loop-i.invariant.1
    ∙ sym (tile-stop a.index.now a.j c.loop-i.i a.m c.loop-i.at a.e (omega arith)
    (λ e. c.if-node_start-at.true (c.node_start.ensures.0 ∙ e))))

pub loop-i-preserved : goal.loop-i-preserved
loop-i-preserved c =
    let a = c.args in (
      omega arith,
      c.loop-i.invariant.1
          ∙ tile-step a.index.now a.j c.loop-i.i a.m c.loop-i.at a.e (omega arith)
          (sym c.node_start.ensures.0 ∙ c.if-node_start-at.false)
          ∙ ap (λ k. tile a.index.now (a.j + (c.loop-i.i + 1)) (a.m - (c.loop-i.i + 1)) (c.loop-i.at + k) a.e)
          (sym c.node_count-at.ensures.0),
    )

pub returns : goal.returns
returns c =
    let a = c.args in
    tile-end a.index.now a.j c.loop-i.i a.m c.loop-i.at a.e (omega arith) ∙ sym c.loop-i.invariant.1
