-- `groups::gather` meets its contract: the centre is put in front of what `pick` writes.
use Rattle.std.proofs.Common.{rules, arith, length-drop, length-take}
use Rattle.groups.proofs.Gathered.{gather-done, gather_fits, gather-picking}
use Rattle.groups.proofs.gather.Goals as goal

pub put_entry-requires : goal.put_entry-requires
put_entry-requires c =
    let fits = gather_fits c.requires in
    simp (length-take, length-drop) (omega arith)

pub pick-g-requires : goal.pick-g-requires
pick-g-requires c = gather-picking c.requires c.put_entry.ensures

pub overflow_add-result : goal.overflow_add-result
overflow_add-result c =
    let fits = gather_fits c.requires in
    let got = gather-done c.requires c.put_entry.ensures c.pick-g.ensures in
    search rules

pub returns : goal.returns
returns c = gather-done c.requires c.put_entry.ensures c.pick-g.ensures
