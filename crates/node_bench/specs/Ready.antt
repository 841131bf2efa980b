-- What a job needs.
use Rattle.std.specs.Prelude.{List}
use Rattle.std.specs.List.{All}
use Rattle.ja_node_core.specs.declared.aim.AnyAim.{AnyAim}
use Rattle.ja_node_core.specs.declared.word.Parts.{Parts}
use Rattle.ja_node_table.specs.declared.table.NodeTable.{NodeTable}
use Rattle.ja_node_table.specs.Seats.{IsOf, known}
use Rattle.node_bench.specs.declared.job.Job.{Job}
use Rattle.node_bench.specs.Made.{IsAsked}

-- the job's seat is of the table, and knows the children of all parts
pub record IsReady (t : NodeTable AnyAim) (parts : List Parts) (job : Job) : Type 0 where
  pub seated : IsOf t job.seat
  pub asked : All (IsAsked (known job.seat)) parts
