use Rattle.std.proofs.Common.{lit<}
use Rattle.ja_node_table.specs.Seats.{known}
use Rattle.node_bench.proofs.Kept.{constant_under}
use Rattle.node_bench.proofs.relations.ending.Goals as goal

pub link-requires-clause-asked : goal.link-requires-clause-asked
link-requires-clause-asked c = record { low = constant_under (known c.args.seat.now) _ _ (lit< tt); high = c.requires.rest }

pub link-requires-else-value-clause-asked : goal.link-requires-else-value-clause-asked
link-requires-else-value-clause-asked c = record { low = c.requires.rest; high = constant_under (known c.args.seat.now) _ _ (lit< tt) }
