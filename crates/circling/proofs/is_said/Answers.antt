-- `circling::is_said`: one item more, and all.
use Rattle.circle_columns.proofs.Gathering.{said-next}
use Rattle.circle_columns.specs.Circles.{is_said_lem, says}
use Rattle.circling.proofs.is_said.Goals as goal
use Rattle.laws.specs.Lists.{any, range}
use Rattle.std.proofs.Common.{◌∙◌, ◌≡◌, ap, arith, ℕ}

pub loop-i-preserved : goal.loop-i-preserved
loop-i-preserved c = said-next _ _ _ _ _ _ _ c.loop-i.invariant c.item_says-found.ensures

pub returns : goal.returns
unfolding is_said_lem
returns c =
    let a = c.args in
    let e : c.loop-i.i ≡ 16 = omega arith in
    c.loop-i.invariant ∙ ap (λ (k : ℕ). any (says a.names.now a.c a.list.now a.j) (range 0 k)) e
