-- From t up to j every word is zero, so all are if those from j on are.
use Rattle.std.proofs.Common.{◌≡◌}
use Rattle.image.specs.Sound.{rest_zero_lem}
use Rattle.image.proofs.reading.rest_zero.Given as goal

abbrev pub invariant-loop-j : goal.invariant-loop-j
invariant-loop-j l = rest_zero_lem l.image l.t ≡ rest_zero_lem l.image l.j
