-- `circling::test_item`: it is one too many, or its column decides.
use Rattle.circle_columns.proofs.Items.{item-said, trouble-column, trouble-many}
use Rattle.circling.proofs.test_item.Goals as goal
use Rattle.std.proofs.Common.{arith}

pub returns-then-i-ge-MOST_ITEMS : goal.returns-then-i-ge-MOST_ITEMS
returns-then-i-ge-MOST_ITEMS c = trouble-many _ _ _ _ _ _ c.requires.there.has (omega arith)

pub returns : goal.returns
returns c =
    let f = c.requires.there in
    trouble-column _ _ _ _ _ _ f.has (omega arith) _ (item-said _ _ _ _ f _ _ c.bytes_of.ensures c.column_said.ensures.said) c.test_circle.ensures
