use Rattle.std.proofs.Common.{◌-◌}
use Rattle.std.specs.List.{All}
use Rattle.ja_node_core.specs.Node.{IsPart}
use Rattle.ja_node_table.specs.Seats.{IsOf, known}
use Rattle.node_bench.specs.Made.{IsUnder, IsAsked}
use Rattle.node_bench.proofs.fill.make_layer.Given as goal

abbrev pub invariant-loop-step : goal.invariant-loop-step
invariant-loop-step l = record {
  seated : IsOf l.table l.seat;
  grows : IsPart (known l.initial.seat) (known l.seat);
  nodes : All (IsUnder (known l.seat) l.var) l.nodes;
  fresh : All (IsUnder (known l.seat) (l.var - 1)) l.fresh.items;
  parts : All (IsAsked (known l.seat)) l.parts.items;
}
