-- The last line ends, and a text without rows is a fault.
use Rattle.sheet.proofs.finish.Goals as goal
use Rattle.sheet_reading.proofs.Runs.{finish-fault, finish-none, finish-rows, finish-table}

pub returns-then-r-ne0 : goal.returns-then-r-ne0
returns-then-r-ne0 c =
    let last = c.step-r.ensures in
    (finish-fault _ _ last.0 c.if-r-ne0.true, finish-table _ _ last.0 _ last.1)

pub returns-then-r-ne0-2 : goal.returns-then-r-ne0-2
returns-then-r-ne0-2 c =
    let last = c.step-r.ensures in
    (finish-rows _ _ last.0 c.if-r-ne0.false c.if-r-ne0-2.true, finish-table _ _ last.0 _ last.1)

pub returns : goal.returns
returns c =
    let last = c.step-r.ensures in
    (finish-none _ _ last.0 _ _ c.first_blank.ensures c.fail.ensures c.if-r-ne0.false c.if-r-ne0-2.false, finish-table _ _ last.0 _ last.1)
