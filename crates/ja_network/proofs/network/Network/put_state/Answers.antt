use Rattle.std.proofs.Common.{Bool, cond, Option, Some, unwrap_or, refl, ap, ◌∙◌}
use Rattle.std.specs.HashMap.{get}
use Rattle.ja_network.specs.declared.state.CellState.{CellState}
use Rattle.ja_network.specs.Cells.{empty_state}
use Rattle.ja_network.specs.Facts.{same_cell}
use Rattle.ja_network.proofs.Steps.{told_apart}
use Rattle.ja_network.proofs.network.Network.put_state.Goals as goal

pub returns-clause-puts : goal.returns-clause-puts
returns-clause-puts c = record {
  here = ap (λ (o : Option CellState). unwrap_or o (empty_state c.args.self.now.tokens)) c.in_ok-insert.ensures.updates.1;
  elsewhere = λ d ne. ap (λ (o : Option CellState). unwrap_or o (empty_state c.args.self.now.tokens))
      (c.in_ok-insert.ensures.updates.0 d ∙ ap (λ (b : Bool). cond b (Some c.args.state) (get same_cell c.args.self.now.cells d)) (told_apart c.args.cell d ne));
  outside = record { tokens = refl; events = refl; seen = refl; turned = refl };
}
