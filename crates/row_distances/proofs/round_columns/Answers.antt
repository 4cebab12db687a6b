-- One column more adds what the two rows are apart in it, by how many go round there.
use Rattle.std.proofs.Common.{ℕ, ◌-◌, ◌∙◌, ◌≤◌, ap, arith, get_or, min}
use Rattle.laws.specs.Lists.{gap}
use Rattle.measure.proofs.Rows.{l1-turn}
use Rattle.row_distances.proofs.round_columns.Goals as goal

-- two numbers of a lent row differ by 16 bits at most
narrow : (x y : ℕ) → x ≤ 65535 → y ≤ 65535 → gap x y ≤ 65535
narrow x y hx hy = omega arith

pub loop-i-preserved : goal.loop-i-preserved
loop-i-preserved c =
    let i = c.loop-i.i in
    let g : ℕ = gap (get_or c.args.a.now i 0) (get_or c.args.b.now i 0) in
    let e = c.shorter-sum.ensures.0 ∙ ap (λ (t : ℕ). min g (t - g)) c.turn.ensures in
    omega (arith, e, l1-turn c.args.circles c.args.a.now c.args.b.now i (narrow (get_or c.args.a.now i 0) (get_or c.args.b.now i 0) (omega (arith, c.type_inv.a i)) (omega (arith, c.type_inv.b i))))
