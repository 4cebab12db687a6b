-- Each return is one end of the test, in its order.
use Rattle.index_test.proofs.Says.{says-columns, says-rows, says-shape, says-words}
use Rattle.index_test.proofs.test_index.Goals as goal
use Rattle.laws.proofs.Tests.{no, yes}
use Rattle.std.proofs.lemmas.Bool.{not_from_false, not_from_true}
use Rattle.words.proofs.InShape.{header_there}
use mathlib.Core.Path.{◌∙◌, sym}

pub returns-then-not-words_ok : goal.returns-then-not-words_ok
returns-then-not-words_ok c = says-words _ _ _ _ (no c.words_ok.ensures (not_from_false _ c.if-not-words_ok.true))

pub rows-requires : goal.rows-requires
rows-requires c = header_there c.args.index.now (yes c.words_ok.ensures (not_from_true _ c.if-not-words_ok.false))

pub columns-requires : goal.columns-requires
columns-requires c = header_there c.args.index.now (yes c.words_ok.ensures (not_from_true _ c.if-not-words_ok.false))

pub returns-then-rows-n : goal.returns-then-rows-n
returns-then-rows-n c = says-rows _ _ _ _ (λ e. c.if-rows-n.true (c.rows.ensures.0 ∙ e))

pub returns-then-columns-c : goal.returns-then-columns-c
returns-then-columns-c c = says-columns _ _ _ _ (λ e. c.if-columns-c.true (c.columns.ensures.0 ∙ e))

pub returns-then-not-shape_ok : goal.returns-then-not-shape_ok
returns-then-not-shape_ok c =
    says-shape _ _ _ _ (yes c.words_ok.ensures (not_from_true _ c.if-not-words_ok.false)) (sym c.rows.ensures.0 ∙ c.if-rows-n.false)
    (sym c.columns.ensures.0 ∙ c.if-columns-c.false) (no c.shape_ok.ensures (not_from_false _ c.if-not-shape_ok.true))

pub returns : goal.returns
returns c =
    says-shape _ _ _ _ (yes c.words_ok.ensures (not_from_true _ c.if-not-words_ok.false)) (sym c.rows.ensures.0 ∙ c.if-rows-n.false)
    (sym c.columns.ensures.0 ∙ c.if-columns-c.false) (yes c.shape_ok.ensures (not_from_true _ c.if-not-shape_ok.false))
