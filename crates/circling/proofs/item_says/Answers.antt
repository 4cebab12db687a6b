-- `circling::item_says`: there is no such item, or its column is compared.
use Rattle.circle_columns.proofs.Gathering.{eqb_turn}
use Rattle.circle_columns.proofs.Items.{item-said, one_more, says-told, says_none}
use Rattle.circling.proofs.item_says.Goals as goal
use Rattle.column_names.specs.Names.{told}
use Rattle.column_names.specs.declared.NameFault.{NameFault}
use Rattle.std.proofs.Common.{◌∙◌, ◌≡◌, Err, ap, arith, suc, sym}
use borrow.Author.Tests.{ne_eqb}

pub returns-in_default : goal.returns-in_default
returns-in_default c = says_none _ _ _ _ _ c.in_default.ensures

pub returns-in-Ok : goal.returns-in-Ok
returns-in-Ok c =
    let f = c.in-Some.ensures in
    let e = c.in-Ok.ensures in
    one_more c.in-Ok.column c.args.j e.column.0 ∙ says-told _ _ _ _ _ f.has _ (item-said _ _ _ _ f _ _ c.bytes_of.ensures e.said)

pub returns-in-NoColumn : goal.returns-in-NoColumn
returns-in-NoColumn c =
    let f = c.in-Some.ensures in
    let z : told (Err c.in-Err.fault) ≡ 0 = ap (λ (x : NameFault). told (Err x)) c.in-NoColumn.is in
    sym (ne_eqb 0 (suc c.args.j) (λ q. absurd (omega (arith, q))))
    ∙ says-told _ _ _ _ _ f.has 0 (sym z ∙ item-said _ _ _ _ f _ _ c.bytes_of.ensures c.in-Err.ensures.said)

pub returns-in-TwoColumns : goal.returns-in-TwoColumns
returns-in-TwoColumns c =
    let f = c.in-Some.ensures in
    let z : told (Err c.in-Err.fault) ≡ 17 = ap (λ (x : NameFault). told (Err x)) c.in-TwoColumns.is in
    eqb_turn c.args.j 16 ∙ one_more 17 c.args.j (omega arith)
    ∙ says-told _ _ _ _ _ f.has 17 (sym z ∙ item-said _ _ _ _ f _ _ c.bytes_of.ensures c.in-Err.ensures.said)
