-- `nearest_search::find_blank` meets its contract: the search marks, lists and holds, and what is held is handed out.
use Rattle.std.proofs.Common.{arith, sym, ◌∙◌}
use Rattle.nearest_search.proofs.Finding.{found_at, found_none, gives}
use Rattle.nearest_search.proofs.find_blank.Goals as goal

pub returns-then-n-eq0 : goal.returns-then-n-eq0
returns-then-n-eq0 c =
    found_none _ _ _ _ _ _ _ _ _ _ c.requires.searchable c.requires.blank (sym c.rows-n.ensures.0 ∙ c.if-n-eq0.true)

pub give-requires : goal.give-requires
give-requires c =
    gives _ _ _ _ _ _ _ _ _ _ c.requires.searchable (omega (arith, c.rows-n.ensures.0)) _ _ _ _ c.search-seen.ensures.0
    c.search-seen.ensures.1.listed _ c.rows-n.ensures.0

pub returns : goal.returns
returns c =
    found_at _ _ _ _ _ _ _ _ _ _ c.requires.searchable (omega (arith, c.rows-n.ensures.0)) _ _ _ _ c.search-seen.ensures.0
    c.search-seen.ensures.1.listed _ _ _ _ _ _ c.rows-n.ensures.0 (omega (arith, c.rows-n.ensures.0)) c.give.ensures
