-- Before query k the queries below k are searched for. Assumes nothing.
use Rattle.several_queries.proofs.Searches.{Going}
use Rattle.several_queries.proofs.mark_each.Given as goal

abbrev pub invariant-loop-k : goal.invariant-loop-k
invariant-loop-k l = Going l.index l.table l.c l.queries l.r l.withdrawn l.initial.how l.initial.marks l.n l.asked l.how l.marks l.inside l.measured l.k
