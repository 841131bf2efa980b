use Rattle.std.proofs.Common.{arith}
use Rattle.ja_bdd.specs.Workers.{seen}
use Rattle.diagram_cases.proofs.Pooled.{known_read}
use Rattle.diagram_cases.proofs.pool.Pool.node.Goals as goal

pub returns : goal.returns
returns c = let p = c.args.self.now in known_read (seen p.worker) p.nodes.items c.args.at c.index-n.result.now c.requires (omega arith) c.index-n.ensures
