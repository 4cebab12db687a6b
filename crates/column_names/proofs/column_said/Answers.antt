-- `column_names::column_said`: a name is looked up, and a number is a column or none.
use Rattle.column_names.proofs.Names.{said-beyond, said-name, said-number, said-wide, said-zero}
use Rattle.column_names.proofs.column_said.Goals as goal
use Rattle.column_names.proofs.column_said.Goals.{then-column-eq0-via-else-column-eq0+else-column-gt-MOST_COLUMNS+then-c-column, then-column-eq0-via-else-column-eq0+then-column-gt-MOST_COLUMNS, then-column-eq0-via-then-column-eq0}
use Rattle.std.proofs.Common.{arith, refl}

pub returns-in_default-clause-said : goal.returns-in_default-clause-said
returns-in_default-clause-said c = said-name _ _ _ _ refl (omega (arith, c.in_default.ensures)) c.column_of.ensures.said

pub returns-then-column-eq0-clause-said : goal.returns-then-column-eq0-clause-said
returns-then-column-eq0-clause-said c =
    let e = c.in-Some.ensures in
    elim c.then-column-eq0.branch [
      | then-column-eq0-via-then-column-eq0 w ↦ said-zero _ _ _ _ e.0 e.1 w.if-column-eq0.true
      | then-column-eq0-via-else-column-eq0+then-column-gt-MOST_COLUMNS w ↦ said-wide _ _ _ _ e.0 e.1 w.if-column-gt-MOST_COLUMNS.true
      | then-column-eq0-via-else-column-eq0+else-column-gt-MOST_COLUMNS+then-c-column w ↦
          said-beyond _ _ _ _ e.0 e.1 w.if-column-gt-MOST_COLUMNS.false w.if-c-column.true
    ]

pub returns-clause-said : goal.returns-clause-said
returns-clause-said c = let e = c.in-Some.ensures in said-number _ _ _ _ e.0 e.1 c.if-column-gt-MOST_COLUMNS.false c.if-c-column.false
