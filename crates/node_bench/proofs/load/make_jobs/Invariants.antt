use Rattle.std.proofs.Common.{◌≡◌, vec_len}
use Rattle.std.specs.List.{All}
use Rattle.ja_node_table.specs.Seats.{IsOf, known}
use Rattle.node_bench.specs.Made.{IsAsked}
use Rattle.node_bench.specs.Ready.{IsReady}
use Rattle.node_bench.proofs.load.make_jobs.Given as goal

abbrev pub invariant-loop-number : goal.invariant-loop-number
invariant-loop-number l = record {
  seated : IsOf l.table l.seat;
  asked : All (IsAsked (known l.seat)) l.parts;
  counted : vec_len l.jobs ≡ l.number;
  ready : All (IsReady l.table l.parts) l.jobs.items;
}
