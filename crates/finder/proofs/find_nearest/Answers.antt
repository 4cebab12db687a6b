-- `finder::find_nearest` meets its contract: a build that is refused, and a search over what was built. Assumes nothing.
use Rattle.std.proofs.Common.{length, refl, sym, take, ◌≡◌, ◌≤◌}
use Rattle.std.proofs.lemmas.Result.{err_from_is_err_and}
use Rattle.finder.proofs.Indexed.{words_there}
use Rattle.finder.proofs.Outcomes.{finds-answered, finds-unbuilt}
use Rattle.finder.proofs.find_nearest.Goals as goal
use Rattle.limits.proofs.Outcomes.{said_by-some}
use lib.Seq.{length-take-le}

pub returns-in_err-built : goal.returns-in_err-built
returns-in_err-built c =
    let p = err_from_is_err_and c.from_residual.result c.from_residual.ensures.1 in
    rw (p.1, p.2) (finds-unbuilt c.in_err-built.ensures (said_by-some _) (refl, refl, refl))

pub slice_bounds-nearest-end : goal.slice_bounds-nearest-end
slice_bounds-nearest-end c = words_there c.in_ok-built.ensures refl

pub slice_bounds-nearest-end-2 : goal.slice_bounds-nearest-end-2
slice_bounds-nearest-end-2 c = sym (length-take-le _ _ (words_there c.in_ok-built.ensures refl))

pub returns : goal.returns
returns c = finds-answered c.in_ok-built.ensures refl c.nearest.ensures
