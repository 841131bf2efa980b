-- What contracts say of workers.
use Rattle.ja_node_core.specs.declared.aim.Aim.{Ghosts}
use Rattle.ja_node_core.specs.Node.{Words}
use Rattle.ja_node_table.specs.declared.table.NodeTable.{NodeTable}
use Rattle.ja_node_table.specs.Seats.{Home, seat_home, IsOf, known}
use Rattle.ja_bdd.specs.declared.worker.Worker.{Worker}

module _ {A : Type 0} {G : Ghosts A} where
  -- which table the worker belongs to
  abbrev pub worker_home : Worker A G → Home A
  worker_home w = seat_home w.seat

  -- the worker belongs to the table
  abbrev pub IsWorkerOf : NodeTable A → Worker A G → Type 0
  IsWorkerOf t w = IsOf t w.seat

  -- the words that the worker has seen, by their places
  abbrev pub seen : Worker A G → Words
  seen w = known w.seat
