-- `circle_columns::test_circle`: a fault of the name is told by its column.
use Rattle.circle_columns.proofs.Items.{column-named}
use Rattle.circle_columns.proofs.test_circle.Goals as goal

pub returns-in-Err : goal.returns-in-Err
returns-in-Err c = rw c.in-Err.is (column-named _ _ c.in-Err.fault)
