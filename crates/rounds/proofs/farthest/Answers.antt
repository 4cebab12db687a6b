-- `rounds::farthest` meets its contract: the entry at p is taken where it is ahead of b (`Seeking`).
use Rattle.std.proofs.Common.{rules, ◌∙◌, sym, true, false}
use Rattle.rounds.proofs.Seeking.{seeking_start, seeking_step}
use Rattle.rounds.proofs.farthest.Goals as goal

pub loop-p-init : goal.loop-p-init
loop-p-init c = seeking_start c.args.part.now c.requires.0 c.requires.1

pub loop-p-preserved-then-precedes : goal.loop-p-preserved-then-precedes
loop-p-preserved-then-precedes c =
    seeking_step c.loop-p.invariant (search rules) true (sym c.precedes.ensures ∙ c.if-precedes.true)

pub loop-p-preserved : goal.loop-p-preserved
loop-p-preserved c =
    seeking_step c.loop-p.invariant (search rules) false (sym c.precedes.ensures ∙ c.if-precedes.false)
