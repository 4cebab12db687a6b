-- Each turn passes one piece.
use Rattle.std.proofs.Common.{◌≤◌, length, ◌≡◌}
use Rattle.asking.specs.Pieces.{begin_of}
use Rattle.asking.proofs.pieces.piece_at.Given as goal

abbrev pub invariant-loop : goal.invariant-loop
invariant-loop l = (l.start ≡ begin_of l.b l.t l.counter) × (l.start ≤ length l.t)
