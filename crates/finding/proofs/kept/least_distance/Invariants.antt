-- The next query begins inside the queries.
use Rattle.std.proofs.Common.{◌≤◌, length}
use Rattle.finding.proofs.kept.least_distance.Given as goal

abbrev pub invariant-loop : goal.invariant-loop
invariant-loop l = l.at ≤ length l.queries
