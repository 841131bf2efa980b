use Rattle.ja_node_core.proofs.Claims.{constant_child}
use Rattle.diagram_cases.proofs.nodes.make.Goals as goal

pub make-requires-clause-node : goal.make-requires-clause-node
make-requires-clause-node c _ = record { low = constant_child _ _ _ c.constant.ensures; high = constant_child _ _ _ c.constant-2.ensures; aimed = λ _. tt }
