use Rattle.std.proofs.Common.{◌≡◌, refl}
use Rattle.ja_network.proofs.Gaining.{had-one}
use Rattle.std.proofs.lemmas.Result.{on_ok_weaker}
use Rattle.ja_network.specs.Facts.{Puts}
use Rattle.ja_network.proofs.Steps.{added}
use Rattle.ja_network.proofs.network.Network.add.Goals as goal

pub returns-clause-network : goal.returns-clause-network
returns-clause-network c =
    on_ok_weaker c.put_state.result
    (λ (puts : Puts (record c.take_state.new.self { turns = c.await_turn.new.turns }) c.put_state.new.self c.args.cell c.await_turn.new.state).
    (added c.args.self.now c.take_state.new.self (record c.take_state.new.self { turns = c.await_turn.new.turns }) c.put_state.new.self c.args.cell c.in_ok-state.state c.gain_one-new.new.state c.await_turn.new.state
    (λ t. t ≡ c.args.token) c.gain_one-new.result c.requires.network c.in_ok-state.ensures.state c.take_state.ensures.elsewhere c.take_state.ensures.outside c.take_state.ensures.turns c.gain_one-new.ensures.gained
    (had-one c.in_ok-state.state.has c.args.token c.gain_one-new.result c.gain_one-new.ensures.new) c.in_ok-await_turn.ensures.state (λ d. refl) (record { tokens = refl; events = refl; seen = refl; turned = refl }) c.in_ok-await_turn.ensures.turns puts c.put_state.ensures.turns).0)
    c.put_state.ensures.puts

pub returns-clause-extends : goal.returns-clause-extends
returns-clause-extends c =
    on_ok_weaker c.put_state.result
    (λ (puts : Puts (record c.take_state.new.self { turns = c.await_turn.new.turns }) c.put_state.new.self c.args.cell c.await_turn.new.state).
    (added c.args.self.now c.take_state.new.self (record c.take_state.new.self { turns = c.await_turn.new.turns }) c.put_state.new.self c.args.cell c.in_ok-state.state c.gain_one-new.new.state c.await_turn.new.state
    (λ t. t ≡ c.args.token) c.gain_one-new.result c.requires.network c.in_ok-state.ensures.state c.take_state.ensures.elsewhere c.take_state.ensures.outside c.take_state.ensures.turns c.gain_one-new.ensures.gained
    (had-one c.in_ok-state.state.has c.args.token c.gain_one-new.result c.gain_one-new.ensures.new) c.in_ok-await_turn.ensures.state (λ d. refl) (record { tokens = refl; events = refl; seen = refl; turned = refl }) c.in_ok-await_turn.ensures.turns puts c.put_state.ensures.turns).1)
    c.put_state.ensures.puts
