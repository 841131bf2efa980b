use Rattle.std.proofs.Common.{List, sym, subst}
use Rattle.ja_node_core.specs.declared.word.Node.{Node}
use Rattle.ja_node_core.specs.Node.{Words}
use Rattle.ja_node_table.specs.Seats.{known}
use Rattle.ja_grow.specs.Grown.{AreSameRoots}
use Rattle.ja_grow.proofs.rebuilding.rebuild.Goals as goal

pub returns-clause-roots : goal.returns-clause-roots
returns-clause-roots g c =
    subst (λ (p : List Node × Words). AreSameRoots (known c.args.seat.now) p.0 p.1 c.in-Ok-copy_roots.roots) (λ i. (c.as_slice.ensures i, sym c.give_seat-seat.ensures.seat.1 i)) c.in-Ok-copy_roots.ensures.roots
