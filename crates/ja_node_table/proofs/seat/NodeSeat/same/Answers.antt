use Rattle.std.proofs.Common.{rules, eq-eqb}
use Rattle.std.proofs.lemmas.Bool.{eqb-true}
use Rattle.ja_node_core.specs.Machine.{word_at}
use Rattle.ja_node_core.proofs.Functions.{one_function}
use Rattle.ja_node_table.proofs.Views.{known_one}
use Rattle.ja_node_table.proofs.seat.NodeSeat.same.Goals as goal

pub returns : goal.returns
returns g c s t m o =
    let seat = c.args.self.now in (
      (λ is. one_function (word_at seat.seat.me.0.known) s t c.args.f.number c.args.g.number m o (search (rules, eqb-true))),
      (λ same. let e = known_one g.A.Aim.aims seat.seat.me.0 seat.part s t c.args.f.number c.args.g.number m o same in search (rules, eq-eqb)),
    )
