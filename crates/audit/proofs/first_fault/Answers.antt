-- the workspace is wiped before the marks and after them
use Rattle.audit.proofs.Faults.{again-found, again-none}
use Rattle.audit.proofs.Wiping.{filled, wiped-again}
use Rattle.audit.proofs.first_fault.Goals as goal
use Rattle.buffers.specs.Wiped.{wiped}
use Rattle.measure.specs.Table.{between}
use Rattle.std.proofs.Common.{◌*◌, ◌∙◌, ◌≤◌, ℕ, ap, arith, length}
use Rattle.std.proofs.lemmas.Grind.{common_steps}
use Rattle.words.specs.Words.{circles#, n#}

pub returns-in-Some-clause-says : goal.returns-in-Some-clause-says
returns-in-Some-clause-says c =
    again-found (between c.args.table.now c.args.c (circles# c.args.index.now)) c.args.index.now c.in-Some.p c.in-Some.ensures.first
    c.in-Some.ensures.inside

pub returns-in-Some-clause-leaves : goal.returns-in-Some-clause-leaves
returns-in-Some-clause-leaves c =
    let n = c.rows-n.result in
    let marks = c.first_again-again.new.work in
    let room : 6 * n ≤ length marks = grind (arith, common_steps) in
    wiped-again (n# c.args.index.now) c.args.work.now marks c.rows-n.ensures.0
    (filled n c.args.work.now c.fill.new.self (omega arith) (c.fill.ensures.after (λ y e. e)) ∙ ap (λ (i : ℕ). wiped i c.args.work.now) c.rows-n.ensures.0)
    c.first_again-again.ensures.rest (filled (6 * n) marks c.fill-2.new.self room (c.fill-2.ensures.after (λ y e. e)))

pub returns-in-None-clause-says : goal.returns-in-None-clause-says
returns-in-None-clause-says c =
    c.measured_fault.ensures
    ∙ again-none (between c.args.table.now c.args.c (circles# c.args.index.now)) c.args.index.now _ c.in-None.ensures.first (omega arith)

pub returns-in-None-clause-leaves : goal.returns-in-None-clause-leaves
returns-in-None-clause-leaves c =
    let n = c.rows-n.result in
    let marks = c.first_again-again.new.work in
    let room : 6 * n ≤ length marks = grind (arith, common_steps) in
    wiped-again (n# c.args.index.now) c.args.work.now marks c.rows-n.ensures.0
    (filled n c.args.work.now c.fill.new.self (omega arith) (c.fill.ensures.after (λ y e. e)) ∙ ap (λ (i : ℕ). wiped i c.args.work.now) c.rows-n.ensures.0)
    c.first_again-again.ensures.rest (filled (6 * n) marks c.fill-2.new.self room (c.fill-2.ensures.after (λ y e. e)))
