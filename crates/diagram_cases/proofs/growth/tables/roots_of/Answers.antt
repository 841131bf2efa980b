use Rattle.ja_bdd.specs.Workers.{seen}
use Rattle.diagram_cases.proofs.Known.{roots_kept, roots_more}
use Rattle.diagram_cases.proofs.growth.tables.roots_of.Goals as goal

pub loop-line-preserved-in_default-make : goal.loop-line-preserved-in_default-make
loop-line-preserved-in_default-make c =
    (c.make.ensures.worker, roots_kept (seen c.loop-line.worker) (seen c.make.new.worker) c.make.ensures.keeps c.loop-line.roots c.loop-line.invariant.1)

pub loop-line-preserved : goal.loop-line-preserved
loop-line-preserved c =
    let w' = seen c.make.new.worker in (
      c.make.ensures.worker,
      roots_more w' c.loop-line.roots c.add_root.new.roots c.in-Some-make.node (roots_kept (seen c.loop-line.worker) w' c.make.ensures.keeps c.loop-line.roots c.loop-line.invariant.1) c.in-Some-make.ensures.known c.in_ok-add_root.ensures,
    )
