-- What the operations on a pool need.
use Rattle.std.specs.Prelude.{List}
use Rattle.std.specs.List.{All}
use Rattle.ja_node_core.specs.declared.aim.AnyAim.{AnyAim}
use Rattle.ja_node_core.specs.declared.word.Node.{Node}
use Rattle.ja_node_core.specs.Node.{Words, Knows}
use Rattle.ja_node_table.specs.declared.table.NodeTable.{NodeTable}
use Rattle.ja_bdd.specs.Workers.{IsWorkerOf, seen}
use Rattle.bdd_bench.specs.declared.pool.Pool.{Pool}

-- all nodes are known
abbrev pub AreKnown : Words → List Node → Type 0
AreKnown at ns = All (λ (n : Node). Knows at n.number) ns

-- the pool's worker is of the table, and knows the pool's nodes
abbrev pub IsReady : NodeTable AnyAim → Pool → Type 0
IsReady t p = IsWorkerOf t p.worker × AreKnown (seen p.worker) p.nodes.items
