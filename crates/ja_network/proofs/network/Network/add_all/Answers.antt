use Rattle.std.proofs.Common.{refl}
use Rattle.ja_sets.specs.Sets.{Has}
use Rattle.std.proofs.lemmas.Result.{on_ok_weaker}
use Rattle.ja_network.specs.Facts.{Puts}
use Rattle.ja_network.proofs.Steps.{added}
use Rattle.ja_network.proofs.network.Network.add_all.Goals as goal

pub returns-clause-network : goal.returns-clause-network
returns-clause-network c =
    on_ok_weaker c.put_state.result
    (λ (puts : Puts (record c.take_state.new.self { turns = c.await_turn.new.turns }) c.put_state.new.self c.args.cell c.await_turn.new.state).
    (added c.args.self.now c.take_state.new.self (record c.take_state.new.self { turns = c.await_turn.new.turns }) c.put_state.new.self c.args.cell c.in_ok-state.state c.gain-new.new.state c.await_turn.new.state
    (Has c.args.set.now) c.gain-new.result c.requires.network c.in_ok-state.ensures.state c.take_state.ensures.elsewhere c.take_state.ensures.outside c.take_state.ensures.turns c.gain-new.ensures.gained
    (c.gain-new.ensures.old) c.in_ok-await_turn.ensures.state (λ d. refl) (record { tokens = refl; events = refl; seen = refl; turned = refl }) c.in_ok-await_turn.ensures.turns puts c.put_state.ensures.turns).0)
    c.put_state.ensures.puts

pub returns-clause-extends : goal.returns-clause-extends
returns-clause-extends c =
    on_ok_weaker c.put_state.result
    (λ (puts : Puts (record c.take_state.new.self { turns = c.await_turn.new.turns }) c.put_state.new.self c.args.cell c.await_turn.new.state).
    (added c.args.self.now c.take_state.new.self (record c.take_state.new.self { turns = c.await_turn.new.turns }) c.put_state.new.self c.args.cell c.in_ok-state.state c.gain-new.new.state c.await_turn.new.state
    (Has c.args.set.now) c.gain-new.result c.requires.network c.in_ok-state.ensures.state c.take_state.ensures.elsewhere c.take_state.ensures.outside c.take_state.ensures.turns c.gain-new.ensures.gained
    (c.gain-new.ensures.old) c.in_ok-await_turn.ensures.state (λ d. refl) (record { tokens = refl; events = refl; seen = refl; turned = refl }) c.in_ok-await_turn.ensures.turns puts c.put_state.ensures.turns).1)
    c.put_state.ensures.puts
