-- `split::split_run` meets its contract: the rounds, the sharing out and the copy back give the runs of the centres.
use Rattle.std.proofs.Common.{rules}
use Rattle.split.proofs.SplitRun.{choose-ready, share-ready, split_done}
use Rattle.split.proofs.split_run.Goals as goal

pub choose-requires-clause-c_le_max_columns : goal.choose-requires-clause-c_le_max_columns
choose-requires-clause-c_le_max_columns c =
    let k = c.requires.m_le_early in
    (c.requires.splittable.columns, (choose-ready c.requires.splittable k.0 k.1).1)

pub share-requires : goal.share-requires
share-requires c =
    let k = c.requires.m_le_early in
    share-ready c.requires.splittable k.0 k.1 (search rules) c.choose.ensures

pub returns : goal.returns
returns c =
    let k = c.requires.m_le_early in
    split_done c.requires.splittable k.0 k.1 (search rules) c.choose.ensures c.share.ensures c.copy_back.ensures
