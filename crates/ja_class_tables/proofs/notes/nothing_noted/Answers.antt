use Rattle.ja_class_tables.proofs.Noted.{nothing-noted}
use Rattle.ja_class_tables.proofs.notes.nothing_noted.Goals as goal

pub returns : goal.returns
returns c = nothing-noted c.args.p.now (record { graph = c.in_ok-graph.graph; targets = c.in_ok-targets.targets }) c.in_ok-graph.ensures c.in_ok-targets.ensures
