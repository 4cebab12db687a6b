-- `finder::mark_near` meets its contract: a build that is refused, queries that are not right, and searches over what was built. Assumes nothing.
use Rattle.std.proofs.Common.{ap, drop, length, refl, sym, take, List, ℕ, ◌++◌, ◌/◌, ◌∙◌, ◌≡◌, ◌≤◌}
use Rattle.std.proofs.lemmas.Result.{err_from_is_err_and}
use Rattle.finder.proofs.Indexed.{words_there}
use Rattle.finder.proofs.Outcomes.{built_sized, near-asked, near_fit, near-refused, near-unbuilt}
use Rattle.finder.proofs.mark_near.Goals as goal
use Rattle.limits.proofs.Outcomes.{said_by-some}
use Rattle.query_refusals.proofs.Why.{asked_well, told_of}
use lib.ListN.{replicate}
use lib.Seq.{length-take-le}

-- the marks, their first n cleared
cleared : (n : ℕ) (marks front : List ℕ) → n ≤ length marks → front ≡ replicate (length (take n marks)) 0 → front ++ drop n marks ≡ replicate n 0 ++ drop n marks
cleared n marks front h e = ap (λ (x : List ℕ). x ++ drop n marks) (e ∙ ap (λ (k : ℕ). replicate k 0) (length-take-le n marks h))

pub returns-in_err-built : goal.returns-in_err-built
returns-in_err-built c =
    let p = err_from_is_err_and c.from_residual.result c.from_residual.ensures.1 in
    rw (p.1, p.2) (near-unbuilt c.in_err-built.ensures (said_by-some _) (refl, refl, refl))

pub nonzero_div-n : goal.nonzero_div-n
nonzero_div-n c = (built_sized c.in_ok-built.ensures refl).some

pub off_circle-off-requires : goal.off_circle-off-requires
off_circle-off-requires c = (built_sized c.in_ok-built.ensures refl).few

pub test_queries-requires : goal.test_queries-requires
test_queries-requires c = (built_sized c.in_ok-built.ensures refl).some

pub returns-in_err-test_queries : goal.returns-in_err-test_queries
returns-in_err-test_queries c =
    let p = err_from_is_err_and c.from_residual-in_err-test_queries.result c.from_residual-in_err-test_queries.ensures.1 in
    rw (p.1, p.2)
    (near-refused c.in_ok-built.ensures refl (told_of _ _ _ _ _ _ _ _ _ _ c.in_err-test_queries.ensures c.off_circle-off.ensures c.set_bad-bad.ensures)
    (said_by-some _) (refl, refl, refl))

pub slice_bounds-fill-end : goal.slice_bounds-fill-end
slice_bounds-fill-end c = (asked_well _ _ _ _ _ _ _ (sym c.in_ok-test_queries.ensures)).1

pub slice_bounds-fill-end-2 : goal.slice_bounds-fill-end-2
slice_bounds-fill-end-2 c = sym (length-take-le _ _ (asked_well _ _ _ _ _ _ _ (sym c.in_ok-test_queries.ensures)).1)

pub slice_bounds-mark_each-end : goal.slice_bounds-mark_each-end
slice_bounds-mark_each-end c = words_there c.in_ok-built.ensures refl

pub slice_bounds-mark_each-end-2 : goal.slice_bounds-mark_each-end-2
slice_bounds-mark_each-end-2 c = sym (length-take-le _ _ (words_there c.in_ok-built.ensures refl))

pub mark_each-requires : goal.mark_each-requires
mark_each-requires c =
    near_fit c.args.withdrawn.now c.args.marks.now c.in_ok-built.ensures refl
    (told_of _ _ _ _ _ _ _ _ _ _ c.in_ok-test_queries.ensures c.off_circle-off.ensures c.set_bad-bad.ensures) refl
    (cleared _ c.args.marks.now _ (asked_well _ _ _ _ _ _ _ (sym c.in_ok-test_queries.ensures)).1 (c.fill.ensures.after (λ y e. e)))

pub returns : goal.returns
returns c =
    near-asked c.in_ok-built.ensures refl
    (told_of _ _ _ _ _ _ _ _ _ _ c.in_ok-test_queries.ensures c.off_circle-off.ensures c.set_bad-bad.ensures) refl
    (cleared _ c.args.marks.now _ (asked_well _ _ _ _ _ _ _ (sym c.in_ok-test_queries.ensures)).1 (c.fill.ensures.after (λ y e. e)))
    (refl, c.mark_each.ensures)
