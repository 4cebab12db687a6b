-- `columns::choice::choose_rows`: a row is read as it was, and laid behind those before it.
use Rattle.column_products.proofs.Laying.{laid-chosen, laid_next, laid-small, laid_start}
use Rattle.columns.proofs.choice.choose_rows.Goals as goal
use Rattle.std.proofs.Common.{◌∙◌, ◌≡◌, ◌+◌, ◌-◌, arith, length, sym, take}
use Rattle.std.proofs.lemmas.List.{take-take}
use Rattle.std.proofs.lemmas.Slice.{put_mid-paste}
use lib.Seq.{length-take-le}

pub loop-i-init : goal.loop-i-init
loop-i-init c = let pre = c.requires in laid_start pre.choice pre.narrow pre.room pre.small

pub chosen_row-row-requires-clause-small : goal.chosen_row-row-requires-clause-small
chosen_row-row-requires-clause-small c = laid-small c.loop-i.invariant (omega arith) c.row_of.ensures.0

pub loop-i-preserved : goal.loop-i-preserved
loop-i-preserved c =
    let a = c.args in
    let l = c.loop-i in
    let out = take a.k c.chosen_row-row.result in
    let few = l.invariant.choice.few in
    let long : length out ≡ a.k = length-take-le a.k c.chosen_row-row.result (omega (arith, few, c.chosen_row-row.ensures.0)) in
    let w : l.at + a.k - l.at ≡ a.k = omega arith in
    let taken : take a.k out ≡ out = take-take a.k a.k c.chosen_row-row.result (omega arith) in
    laid_next l.invariant (omega arith) out (taken ∙ laid-chosen l.invariant (omega arith) c.chosen_row-row.ensures.1 c.row_of.ensures.0)
    (omega (arith, long))
    (put_mid-paste l.at (l.at + a.k - l.at) l.table c.copy_from_slice.new.self out a.k c.copy_from_slice.ensures.after (sym w) (sym long))
