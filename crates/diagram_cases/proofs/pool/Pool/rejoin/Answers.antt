use Rattle.ja_bdd.specs.Workers.{seen}
use Rattle.diagram_cases.proofs.Pooled.{known_still}
use Rattle.diagram_cases.proofs.pool.Pool.rejoin.Goals as goal

pub returns : goal.returns
returns c = (c.rejoin.ensures.worker.0, known_still (seen c.args.self.now.worker) (seen c.rejoin.new.self) c.rejoin.ensures.learns.0 c.args.self.now.nodes.items c.requires.1)
