use Rattle.ja_class_tables.proofs.Pools.{once}
use Rattle.ja_class_tables.proofs.pool.Pool.name_once.Goals as goal

pub returns-clause-pool : goal.returns-clause-pool
returns-clause-pool c = once c.args.net.now c.args.self.now c.name_set.new.self c.name_set.result c.requires.pool c.name_set.ensures.sets c.name_set.ensures.grows c.name_set.ensures.cells
