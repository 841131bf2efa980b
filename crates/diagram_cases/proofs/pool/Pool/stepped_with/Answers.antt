use Rattle.ja_bdd.specs.Workers.{seen}
use Rattle.diagram_cases.proofs.Pooled.{known_pushed}
use Rattle.diagram_cases.proofs.pool.Pool.stepped_with.Goals as goal

pub returns : goal.returns
returns c =
    let p = c.args.self.now in (
      c.step_with.ensures.worker,
      known_pushed (seen p.worker) (seen c.step_with.new.worker) c.step_with.ensures.keeps p.nodes.items c.push.new.self.items c.in-Ok.made c.in_ok-push.ensures.items c.requires.1 c.in-Ok.ensures.ok.0,
    )
