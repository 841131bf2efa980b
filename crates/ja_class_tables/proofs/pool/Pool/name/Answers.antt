use Rattle.std.proofs.Common.{refl}
use Rattle.ja_class_tables.proofs.Pools.{pool-cell}
use Rattle.ja_class_tables.proofs.pool.Pool.name.Goals as goal

pub returns-clause-pool : goal.returns-clause-pool
returns-clause-pool c =
    pool-cell c.args.net.now c.name_once.new.self (record c.name_once.new.self { by_cell = c.insert.new.self }) c.args.cell c.in_ok-name.name c.in_ok-name.ensures.pool c.in_ok-name.ensures.named c.in_ok-insert.ensures.updates refl
