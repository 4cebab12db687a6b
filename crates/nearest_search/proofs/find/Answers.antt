-- `nearest_search::find` meets its contract: the how-bytes are cleared before the search, and the workspace after it.
use Rattle.std.proofs.Common.{rules}
use Rattle.nearest_search.proofs.Finding.{wiped-found}
use Rattle.nearest_steps.specs.Asked.{asks}
use Rattle.nearest_search.proofs.find.Goals as goal

pub returns : goal.returns
returns c =
    let a = c.args in
    wiped-found (asks a.table.now a.c a.index.now a.query.now a.wanted a.withdrawn.now) _ _ _ _ _ _ c.rows-n.ensures.0 c.requires (search rules) _ _ _ _ _
    _ _ c.find_blank-counts.ensures (search rules)
