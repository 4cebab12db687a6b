-- `column_names::column_of`: none so far, and one field more.
use Rattle.column_names.proofs.Names.{named-again, named-first, named-other, named-start}
use Rattle.column_names.proofs.column_of.Goals as goal
use Rattle.column_names.proofs.column_of.Goals.{else-has_name, then-has_name+else-is_some}
use Rattle.std.proofs.Common.{◌∙◌, sym}

pub loop-k-init : goal.loop-k-init
loop-k-init c = named-start _ _

pub returns-then-is_some-clause-said : goal.returns-then-is_some-clause-said
returns-then-is_some-clause-said c =
    named-again _ _ _ c.loop-k.invariant (sym c.has_name.ensures ∙ c.if-has_name.true) (sym c.is_some.ensures ∙ c.if-is_some.true) c.loop-k-test.true

pub loop-k-preserved : goal.loop-k-preserved
loop-k-preserved c =
    elim c.if-has_name.branch [
      | then-has_name+else-is_some w ↦
          rw w.found-is
          (named-first _ _ _ c.loop-k.invariant (sym c.has_name.ensures ∙ w.if-has_name.true) (sym w.is_some.ensures ∙ w.if-is_some.false) c.loop-k-test.true)
      | else-has_name w ↦ rw w.found-is (named-other _ _ _ c.loop-k.invariant (sym c.has_name.ensures ∙ w.if-has_name.false))
    ]
