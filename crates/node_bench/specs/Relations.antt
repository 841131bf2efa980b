-- What is known of the rest of a relation.
use Rattle.std.specs.Prelude.{ℕ}
use Rattle.ja_node_core.specs.Node.{Words}
use Rattle.node_bench.specs.declared.relations.Rest.{Rest}
use Rattle.node_bench.specs.Made.{IsUnder}

-- both nodes may be children of this variable
pub record IsRest (known : Words) (var : ℕ) (r : Rest) : Type 0 where
  pub clean : IsUnder known var r.clean
  pub tainted : IsUnder known var r.tainted
