use Rattle.std.proofs.Common.{◌≡◌, ◌+◌, ◌↔◌, ℕ, List, false, sym, ap, subst, ◌∙◌}
use Rattle.ja_sets.specs.Sets.{Has, Lacks}
use Rattle.ja_network.specs.declared.cell.Cell.{Cell}
use Rattle.ja_network.specs.declared.state.CellState.{CellState}
use Rattle.ja_network.specs.Facts.{state_of, with_turn}
use Rattle.ja_network.proofs.Gaining.{none-left}
use Rattle.ja_network.proofs.Steps.{ended_network, ended_settles}
use Rattle.ja_network.proofs.network.Network.end_turn.Goals as goal

pub returns-clause-network : goal.returns-clause-network
returns-clause-network c =
    let is : c.in_ok-state.state ≡ state_of c.args.self.now c.args.cell = c.in_ok-state.ensures.state in
    let puts = c.in_ok-put_state.ensures.puts in
    let taken = c.take_state.ensures in
    ended_network c.args.self.now (record c.put_state.new.self { turned = c.put_state.new.self.turned + 1 }) c.args.cell c.args.done.now
    (record c.in_ok-state.state { fresh = c.in_ok-state-2.field-0; queued = false }) c.is_some-waits.result c.requires.network c.requires.next
    (ap (λ (s : CellState). s.has) is) (ap (λ (s : CellState). s.links) is) (c.in_ok-state-2.ensures.size ∙ taken.outside.tokens)
    (subst (λ (s : CellState). (t : ℕ) → Has c.in_ok-state-2.field-0 t ↔ (Has s.fresh t × Lacks c.args.done.now t)) is c.in_ok-state-2.ensures.left)
    (λ e. none-left c.in_ok-state-2.field-0 c.next_from.result c.next_from.ensures.none (sym c.is_some-waits.ensures ∙ e))
    (puts.here ∙ c.in_ok-await_turn.ensures.state) (λ d ne. puts.elsewhere d ne ∙ taken.elsewhere d ne)
    (puts.outside.tokens ∙ taken.outside.tokens) (puts.outside.events ∙ taken.outside.events) (puts.outside.seen ∙ taken.outside.seen) (ap (λ n. n + 1) (puts.outside.turned ∙ taken.outside.turned))
    (c.in_ok-put_state.ensures.turns ∙ c.in_ok-await_turn.ensures.turns ∙ ap (λ (ts : List Cell). with_turn ts c.args.cell c.is_some-waits.result false) taken.turns)

pub returns-clause-settles : goal.returns-clause-settles
returns-clause-settles c =
    let is : c.in_ok-state.state ≡ state_of c.args.self.now c.args.cell = c.in_ok-state.ensures.state in
    let puts = c.in_ok-put_state.ensures.puts in
    let taken = c.take_state.ensures in
    ended_settles c.args.self.now (record c.put_state.new.self { turned = c.put_state.new.self.turned + 1 }) c.args.cell c.args.done.now
    (record c.in_ok-state.state { fresh = c.in_ok-state-2.field-0; queued = false }) c.is_some-waits.result c.requires.network c.requires.next
    (ap (λ (s : CellState). s.has) is) (ap (λ (s : CellState). s.links) is) (c.in_ok-state-2.ensures.size ∙ taken.outside.tokens)
    (subst (λ (s : CellState). (t : ℕ) → Has c.in_ok-state-2.field-0 t ↔ (Has s.fresh t × Lacks c.args.done.now t)) is c.in_ok-state-2.ensures.left)
    (λ e. none-left c.in_ok-state-2.field-0 c.next_from.result c.next_from.ensures.none (sym c.is_some-waits.ensures ∙ e))
    (puts.here ∙ c.in_ok-await_turn.ensures.state) (λ d ne. puts.elsewhere d ne ∙ taken.elsewhere d ne)
    (puts.outside.tokens ∙ taken.outside.tokens) (puts.outside.events ∙ taken.outside.events) (puts.outside.seen ∙ taken.outside.seen) (ap (λ n. n + 1) (puts.outside.turned ∙ taken.outside.turned))
    (c.in_ok-put_state.ensures.turns ∙ c.in_ok-await_turn.ensures.turns ∙ ap (λ (ts : List Cell). with_turn ts c.args.cell c.is_some-waits.result false) taken.turns)
