-- `rows_listed::mark_row` meets its contract: a row that was not marked is listed behind the others.
use Rattle.std.proofs.Common.{arith}
use Rattle.rows_listed.proofs.MetRows.{marked-again, marked-new, next-room}
use Rattle.rows_listed.proofs.mark_row.Goals as goal

pub offset_bounds-work-next : goal.offset_bounds-work-next
offset_bounds-work-next c =
    omega (arith, c.requires.listed_to.listed.small, next-room _ _ _ _ c.requires.listed_to _ c.requires.r_lt_n.0 c.if-how-r-eq0.true)

pub bounds-work-next : goal.bounds-work-next
bounds-work-next c =
    omega (arith, c.requires.listed_to.listed.words, next-room _ _ _ _ c.requires.listed_to _ c.requires.r_lt_n.0 c.if-how-r-eq0.true)

pub overflow_add-result : goal.overflow_add-result
overflow_add-result c =
    omega (arith, c.requires.listed_to.listed.small, next-room _ _ _ _ c.requires.listed_to _ c.requires.r_lt_n.0 c.if-how-r-eq0.true)

pub returns-then-how-r-eq0 : goal.returns-then-how-r-eq0
returns-then-how-r-eq0 c = marked-new _ _ _ _ c.requires.listed_to _ c.requires.r_lt_n.0 c.if-how-r-eq0.true _ _ (omega arith) (omega arith)

pub returns : goal.returns
returns c = marked-again _ _ _ _ c.requires.listed_to _ c.requires.r_lt_n.0 c.requires.r_lt_n.1 c.if-how-r-eq0.false
