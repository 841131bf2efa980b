use Rattle.std.proofs.lemmas.Result.{IfOk-weaker}
use Rattle.ja_node_table.specs.Seats.{known}
use Rattle.diagram_cases.proofs.Known.{grown_known}
use Rattle.diagram_cases.proofs.growth.grown.grown.Goals as goal

pub returns-clause-roots : goal.returns-clause-roots
returns-clause-roots c = IfOk-weaker c.rebuild.result _ _ (λ r same. grown_known (known c.give_seat-seat.result) (known r.seat) c.args.roots.now r.roots same) c.rebuild.ensures.roots
