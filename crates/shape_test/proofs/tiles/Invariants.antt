-- The runs from i on tile what is left, front first.
use Rattle.std.proofs.Common.{◌≡◌, ◌+◌, ◌-◌, ◌*◌, ◌<◌}
use Rattle.shape_test.proofs.tiles.Given as goal
use Rattle.words.specs.Shape.{tile}

abbrev pub invariant-loop-i : goal.invariant-loop-i
invariant-loop-i l = (l.at < 4294967296 * (l.i + 1)) × (tile l.index l.j l.m l.s l.e ≡ tile l.index (l.j + l.i) (l.m - l.i) l.at l.e)
