use Rattle.ja_pool.proofs.OneReading.{spelled_is_read}
use Rattle.ja_pool.proofs.read.read_pool.Goals as goal

pub returns-clause-only : goal.returns-clause-only
returns-clause-only c = spelled_is_read c.args.c.now c.pool_from.new.c c.pool_from.result c.pool_from.ensures.ok c.pool_from.ensures.fault
