use Rattle.ja_node_table.specs.Seats.{known}
use Rattle.node_bench.proofs.Kept.{all_asked_more}
use Rattle.node_bench.proofs.job.Job.run.Goals as goal

pub loop-turn-preserved : goal.loop-turn-preserved
loop-turn-preserved c =
    let ready = c.loop-turn.invariant in
    record { seated = c.ask-made.ensures.seat; asked = all_asked_more (known c.loop-turn.self.seat) (known c.ask-made.new.seat) c.ask-made.ensures.grows c.args.parts.now ready.asked }
