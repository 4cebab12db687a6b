-- no other centre is closer to a row that is safe; the test of the i-th centre is that of its node
use Rattle.child_strays.proofs.Strays.{closer-is}
use Rattle.few_columns.proofs.Spared.{none-closer}
use Rattle.few_columns.proofs.closer_to_other.Goals as goal
use Rattle.child_strays.specs.Strays.{closer_than}
use Rattle.laws.proofs.First.{any-first, any-lost, search-on, search-stop}
use Rattle.laws.specs.First.{First}
use Rattle.measure.specs.Table.{between}
use Rattle.std.proofs.Common.{◌+◌, ◌∙◌, ◌≡◌, ℕ, arith, subst, sym}
use Rattle.std.proofs.lemmas.List.{get_or-take}
use Rattle.words.specs.Words.{circles#, m#}

pub returns-then-x-safe : goal.returns-then-x-safe
returns-then-x-safe c =
    let a = c.args in
    let F = c.requires.firsts in
    none-closer (between a.table.now a.c (circles# a.index.now)) a.index.now a.child a.p a.g a.x a.safe a.fs.now F.0 F.2 F.3 (omega arith)

pub returns-then-is_closer : goal.returns-then-is_closer
returns-then-is_closer c =
    let a = c.args in
    let w = a.index.now in
    let d = between a.table.now a.c (circles# w) in
    let i = c.loop-f.f-index in
    let f = closer_than d w a.p a.x in
    let own = get_or-take c.centres.result a.fs.now i 0 (omega arith) ∙ c.requires.firsts.0.at i (omega arith) in
    let here = sym (c.is_closer.ensures ∙ closer-is d w a.p a.x (a.child + i) own) ∙ c.if-is_closer.true in
    sym
    (any-first f a.child (m# w) (a.child + i) (search-stop f a.child (a.child + m# w) (a.child + i) c.loop-f.invariant (omega arith) here)
    (omega arith))

pub loop-f-preserved : goal.loop-f-preserved
loop-f-preserved c =
    let a = c.args in
    let w = a.index.now in
    let d = between a.table.now a.c (circles# w) in
    let i = c.loop-f.f-index in
    let f = closer_than d w a.p a.x in
    let own = get_or-take c.centres.result a.fs.now i 0 (omega arith) ∙ c.requires.firsts.0.at i (omega arith) in
    let here = sym (c.is_closer.ensures ∙ closer-is d w a.p a.x (a.child + i) own) ∙ c.if-is_closer.false in
    let e : a.child + i + 1 ≡ a.child + (i + 1) = omega arith in
    subst (λ (k : ℕ). First f a.child k k) e (search-on f a.child (a.child + i) c.loop-f.invariant here)

pub returns : goal.returns
returns c =
    let a = c.args in
    let w = a.index.now in
    let f = closer_than (between a.table.now a.c (circles# w)) w a.p a.x in
    let e : a.child + c.loop-f.f-index ≡ a.child + m# w = omega arith in
    sym (any-lost f a.child (m# w) (subst (λ (k : ℕ). First f a.child k k) e c.loop-f.invariant))
