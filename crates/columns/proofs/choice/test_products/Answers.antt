-- `columns::choice::test_products`: a row is passed by, or is the first with such a product.
use Rattle.column_products.proofs.Choosing.{choice_of, passed-all, passed_here, passed-next, passed_start, passed-there}
use Rattle.column_products.specs.Chosen.{over_in}
use Rattle.columns.proofs.choice.test_products.Goals as goal
use Rattle.std.proofs.Common.{◌∙◌, List, ℕ, ap, arith}

pub loop-i-init : goal.loop-i-init
loop-i-init c = passed_start c.requires.choice c.requires.room

pub row_of-requires : goal.row_of-requires
row_of-requires c = passed-there c.loop-i.invariant (omega arith)

pub first_over-requires : goal.first_over-requires
first_over-requires c = choice_of c.row_of.result.now c.loop-i.invariant.choice c.row_of.ensures.1

pub returns-in-Some : goal.returns-in-Some
returns-in-Some c =
    let a = c.args in (
      omega arith,
      passed_here c.loop-i.invariant (omega arith) c.row_of.ensures.0 c.in-Some.ensures.place c.in-Some.ensures.chosen_one,
      c.in-Some.ensures.place ∙ ap (λ (r : List ℕ). over_in r a.circles a.chosen a.factors a.k) c.row_of.ensures.0,
    )

pub loop-i-preserved : goal.loop-i-preserved
loop-i-preserved c =
    passed-next c.loop-i.invariant (omega arith) c.row_of.ensures.0 c.in_default.ensures.place (omega arith)

pub returns : goal.returns
returns c = omega (arith, passed-all c.loop-i.invariant (omega arith))
