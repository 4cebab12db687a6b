use Prim.Native.Nat.{◌+◌, ◌-◌, ℕ}
use Rattle.laws.proofs.Gathered.{Holds}
use Rattle.nearness.proofs.firsts.Given as goal
use Rattle.std.proofs.Common.{◌≡◌, length}
use Rattle.words.specs.Words.{first#, n#}

-- the first i places hold the firsts
abbrev pub invariant-loop-i : goal.invariant-loop-i
invariant-loop-i l = (length l.fs ≡ 64) × Holds (λ (j : ℕ). first# l.index (l.child + j)) (n# l.index - 1) l.fs l.i
