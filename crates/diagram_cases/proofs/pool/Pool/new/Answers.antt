use Rattle.std.proofs.Common.{rules, false, true}
use Rattle.ja_bdd.specs.Workers.{seen}
use Rattle.ja_bdd.proofs.Sound.{knows_constant}
use Rattle.diagram_cases.proofs.Pooled.{constants_known}
use Rattle.diagram_cases.proofs.pool.Pool.new.Goals as goal

pub returns : goal.returns
returns c =
    let k = seen c.in_ok-worker.worker in
    (search rules, constants_known k c.in_ok-nodes.nodes.items _ _ c.in_ok-nodes.ensures.items (knows_constant k false) (knows_constant k true))
