use Rattle.std.proofs.Common.{List, ap}
use Rattle.std.proofs.lemmas.Result.{on_ok_weaker}
use Rattle.ja_network.specs.declared.cell.Action.{Action}
use Rattle.ja_network.specs.declared.state.CellState.{CellState}
use Rattle.ja_network.specs.Facts.{Puts}
use Rattle.ja_network.proofs.Steps.{linked}
use Rattle.ja_network.proofs.network.Network.add_link.Goals as goal

pub returns : goal.returns
returns c =
    on_ok_weaker c.put_state.result
    (λ (puts : Puts c.take_state.new.self c.put_state.new.self c.args.from (record c.in_ok-state.state { links = c.push.new.self })).
    linked c.args.self.now c.take_state.new.self c.put_state.new.self c.args.from c.args.action c.in_ok-state.state (record c.in_ok-state.state { links = c.push.new.self }) c.in_ok-state.ensures.state
    c.take_state.ensures.elsewhere c.take_state.ensures.outside c.take_state.ensures.turns
    (ap (λ (ls : List Action). let s : CellState = record c.in_ok-state.state { links = ls } in s) c.in_ok-push.ensures.ok) puts c.put_state.ensures.turns)
    c.put_state.ensures.puts
