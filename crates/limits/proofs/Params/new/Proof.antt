-- `limits::Params::new` meets its contract: each return has its case of the answer.
-- Assumes nothing.
use Rattle.std.proofs.lemmas.Bool.{not_from_false, not_from_true}
use Rattle.laws.proofs.Tests.{no, yes}
use Rattle.limits.proofs.Params.new.Statement.{statement}
use Rattle.limits.proofs.Params.new.Tie as tie
use borrow.Author.Rules.{rules}
use borrow.Author.Tests.{eq-eqb, ne_eqb}
use mathlib.Core.Bool.{and-false}
use native.Mathlib.Omega.{arith}

returns : tie.Need-returns-then-not-share_ok
returns c = rw (no c.share_ok.ensures (not_from_false _ c.if-not-share_ok.true))

returns-2 : tie.Need-returns-then-not-circles_ok
returns-2 c = simp (no c.circles_ok.ensures (not_from_false _ c.if-not-circles_ok.true), and-false)

returns-3 : tie.Need-returns-then-edition-eq-LAST_EDITION
returns-3 c =
    let o = c in
    let s = o in
    rw (
      yes s.share_ok.ensures (not_from_true _ s.if-not-share_ok.false),
      yes o.circles_ok.ensures (not_from_true _ o.if-not-circles_ok.false),
      eq-eqb s.args.edition 2 (omega arith),
    )

returns-4 : tie.Need-returns
returns-4 c =
    let o = c in
    let s = o in
    rw (
      yes s.share_ok.ensures (not_from_true _ s.if-not-share_ok.false),
      yes o.circles_ok.ensures (not_from_true _ o.if-not-circles_ok.false),
      ne_eqb s.args.edition 2 (λ z. omega arith),
    )

pub new_spec : {M : Type 1} → statement M
new_spec = tie.close (tie.spec
    (λ c κs. search rules)
    returns
    (λ c κs. search rules)
    returns-2
    returns-3
    returns-4)
