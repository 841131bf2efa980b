use Rattle.ja_supertypes.proofs.Falls.{direct-target}
use Rattle.ja_supertypes.proofs.Ranks.{rank-falls}
use Rattle.ja_hier.specs.InnerIndex.{stays}
use Rattle.ja_hier.proofs.Straight.{straight-more, only-direct}
use Rattle.ja_hier.proofs.forks.fork_of.Goals as goal

pub loop-next-init : goal.loop-next-init
loop-next-init c = record { inside = c.requires.inside; way = stays }

pub loop-next-preserved : goal.loop-next-preserved
loop-next-preserved c = record {
  inside = direct-target c.args.classes.now c.loop-next.at c.in-Some.next (only-direct c.args.classes.now c.loop-next.at c.in-Some.next c.in-Some.ensures);
  way = straight-more c.args.classes.now c.args.class c.loop-next.at c.in-Some.next c.loop-next.invariant.way c.in-Some.ensures;
}

pub loop-next-smaller : goal.loop-next-smaller
loop-next-smaller c =
    rank-falls c.args.classes.now c.requires.valid.acyclic c.loop-next.at c.in-Some.next (only-direct c.args.classes.now c.loop-next.at c.in-Some.next c.in-Some.ensures)
