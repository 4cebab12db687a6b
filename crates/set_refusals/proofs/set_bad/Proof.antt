-- `set_refusals::set_bad` meets its contract: the length, then the last word. Assumes nothing.
use Rattle.rowset.proofs.Refused.{by_length, wrong-length}
use Rattle.rowset.proofs.Shifts.{not-below}
use Rattle.rowset.specs.Sets.{Narrow, words_for_lem}
use Rattle.set_refusals.proofs.set_bad.Statement.{statement}
use Rattle.set_refusals.proofs.set_bad.Tie as tie
use borrow.Author.Rules.{rules}
use lib.ListN.{length}
use mathlib.Core.Path.{◌∙◌, ◌≡◌}
use native.Mathlib.Omega.{arith}

-- the words have 32 bits
narrow : (c : tie.After-shared_slice_known-1) → Narrow c.args.set.now
narrow c i = omega (arith, c.shared_slice_known-1.given i)

-- past the first test there are as many as n rows take
long : (c : tie.Else-set-words_for) → length c.args.set.now ≡ words_for_lem c.args.n
long c = c.if-set-words_for.false ∙ c.words_for.ensures

returns : tie.Need-returns-then-set-words_for
returns c = wrong-length _ _ (λ e. c.if-set-words_for.true (omega (arith, c.words_for.ensures)))

returns-2 : tie.Need-returns-then-set-at
returns-2 c = by_length _ _ (long c.before) (omega arith)

returns-3 : tie.Need-returns
returns-3 c =
    let m = c in
    let e = m in
    not-below e.args.set.now e.args.n _ _ (omega arith) (omega (arith, m.mask_of-bit.ensures))
    (narrow e.before.before.before.before.before) (long e.before.before.before)

pub set_bad_spec : {M : Type 1} → statement M
set_bad_spec =
    tie.close
    (tie.spec
    (λ c κs. search rules)
    returns
    returns-2
    (λ c κs. search rules)
    (λ c. search rules)
    (λ c. search rules)
    returns-3)
