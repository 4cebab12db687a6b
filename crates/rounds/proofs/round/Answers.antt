-- `rounds::round` meets its contract: the farthest entry is put before the others, which learn of it.
use Rattle.std.proofs.Common.{arith, ◌+◌, ◌≤◌, ℕ, List, length, take, refl}
use Rattle.measure.specs.Table.{between}
use Rattle.rounds.proofs.Choosing.{round-done, round-requires}
use Rattle.rounds.proofs.round.Goals as goal
use Rattle.rounds.specs.Entries.{InTable}
use lib.Seq.{length-take-le}

-- the chosen entry stands in the part
inside : (part : List ℕ) (bound b : ℕ) → bound ≤ length part → b + 3 ≤ length (take bound part) → b + 3 ≤ length part
inside part bound b h f = omega (arith, length-take-le bound part h)

pub nearer-requires : goal.nearer-requires
nearer-requires c =
    let r =
    round-requires c.args.part.now c.farthest-b.result (omega arith) refl c.shift.ensures c.put_entry.ensures
    (InTable c.args.table.now c.args.c) c.requires.c_le_max_columns.1 c.farthest-b.ensures.2
    (inside c.args.part.now c.args.bound c.farthest-b.result c.requires.le_bound.1 c.farthest-b.ensures.1) in
    (c.requires.c_le_max_columns.0, r.1, r.0)

pub returns : goal.returns
returns c =
    round-done c.args.part.now c.farthest-b.result (omega arith) refl c.shift.ensures c.put_entry.ensures
    (between c.args.table.now c.args.c c.args.circles) c.args.bound _ c.farthest-b.ensures.0 c.nearer.ensures
