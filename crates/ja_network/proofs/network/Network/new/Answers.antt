use Rattle.std.proofs.Common.{List, refl, ap}
use Rattle.std.specs.Map.{lookup}
use Rattle.ja_network.specs.declared.cell.Cell.{Cell}
use Rattle.ja_network.specs.declared.state.CellState.{CellState}
use Rattle.ja_network.specs.Facts.{same_cell}
use Rattle.ja_network.proofs.Steps.{empty_tells}
use Rattle.ja_network.proofs.network.Network.new.Goals as goal

pub returns-clause-empty : goal.returns-clause-empty
returns-clause-empty c f h =
    empty_tells (record { tokens = c.args.tokens; cells = c.new.result; events = c.new-2.result; seen = 0; turns = c.new-3.result; turned = 0 })
    (λ d. ap (λ (es : List (Cell × CellState)). lookup (same_cell d) es) c.new.ensures.empty) c.new-2.ensures.empty refl refl f h
