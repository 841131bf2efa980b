use Rattle.std.proofs.Common.{◌-◌, ◌≤◌, length}
use Rattle.std.specs.List.{All}
use Rattle.ja_node_table.specs.Seats.{IsOf, known}
use Rattle.node_bench.specs.Made.{IsUnder, IsAsked}
use Rattle.node_bench.proofs.fill.fill.Given as goal

abbrev pub invariant-loop-layer : goal.invariant-loop-layer
invariant-loop-layer l = record {
  seated : IsOf l.table l.seat;
  several : 2 ≤ length l.nodes.items;
  nodes : All (IsUnder (known l.seat) (4094 - l.layer)) l.nodes.items;
  parts : All (IsAsked (known l.seat)) l.parts.items;
}
