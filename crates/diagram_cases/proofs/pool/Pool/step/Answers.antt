use Rattle.ja_bdd.specs.Workers.{seen}
use Rattle.diagram_cases.proofs.Pooled.{known_pushed}
use Rattle.diagram_cases.proofs.pool.Pool.step.Goals as goal

pub returns : goal.returns
returns c =
    let p = c.args.self.now in (
      c.ask.ensures.worker,
      known_pushed (seen p.worker) (seen c.ask.new.worker) c.ask.ensures.keeps p.nodes.items c.push.new.self.items c.in-Some.made c.in_ok-push.ensures.items c.requires.1 c.in-Some.ensures.known,
    )
