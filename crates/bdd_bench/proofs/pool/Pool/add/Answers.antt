use Rattle.ja_bdd.specs.Workers.{seen}
use Rattle.bdd_bench.proofs.Pooled.{known_pushed}
use Rattle.bdd_bench.proofs.pool.Pool.add.Goals as goal

pub returns : goal.returns
returns c =
    let p = c.args.self.now in (
      c.literal.ensures.worker,
      known_pushed (seen p.worker) (seen c.literal.new.worker) c.literal.ensures.keeps p.nodes.items c.push.new.self.items c.in-Some.made c.in_ok-push.ensures.items c.requires.ready.1 c.in-Some.ensures.known,
    )
