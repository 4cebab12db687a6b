-- The next row begins inside the table, and what is kept fits.
use Rattle.std.proofs.Common.{◌≤◌, length}
use Rattle.finding.proofs.kept.keep_marked.Given as goal

abbrev pub invariant-loop-i : goal.invariant-loop-i
invariant-loop-i l = (l.at ≤ length l.table) × (l.kept ≤ length l.rows) × (l.kept ≤ length l.distances)
