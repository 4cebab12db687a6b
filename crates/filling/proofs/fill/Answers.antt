-- `filling::fill` meets its contract: the nodes, the header before them and the positions behind them are the index's words.
use Rattle.std.proofs.Common.{rules, arith, ◌*◌, ◌≡◌, length}
use Rattle.filling.proofs.Whole.{filled}
use Rattle.filling.proofs.fill.Goals as goal

pub returns : goal.returns
returns c =
    let half : length c.grow-nodes.new.work ≡ 6 * c.args.n = search rules in
    let long : length c.put_header.new.room ≡ length c.args.room.now = search rules in
    filled c.requires c.grow-nodes.ensures long c.put_header.ensures (omega arith) c.put_positions.ensures half (c.fill.ensures.after (λ y e. e))
