-- It asks what the definition asks.
use Rattle.build_refusals.proofs.Refusals.{writer_says}
use Rattle.build_refusals.proofs.test_writer.Goals as goal

pub returns : goal.returns
returns c = writer_says c.args.length c.args.c c.args.room c.args.work c.args.unfit c.rows_in-n.ensures c.too_short.ensures c.test_numbers.ensures
