use Rattle.std.specs.Prelude.{None}
use Rattle.ja_node_table.specs.Seats.{known}
use Rattle.ja_bdd.specs.Functions.{chosen}
use Rattle.ja_bdd.specs.Meaning.{meaning}
use Rattle.ja_bdd.proofs.Sound.{seat_sound}
use Rattle.ja_bdd.proofs.Cached.{answers}
use Rattle.ja_bdd.proofs.Learning.{seat_right}
use Rattle.ja_bdd.proofs.worker.Worker.finish.Goals as goal

pub invariant_of-self : goal.invariant_of-self
invariant_of-self g c = record { counted = c.args.self.now.counted; early = c.args.self.now.early; right = seat_right c.args.self.now.seat c.build.new.seat None c.args.self.now.cache.items c.build.ensures.grows c.args.self.now.right }

pub keep-requires-after_bounds : goal.keep-requires-after_bounds
keep-requires-after_bounds g c κs within =
    let k = known c.args.self.now.seat in
    answers k (known c.build.new.seat) (seat_sound c.args.self.now.seat) (seat_sound c.build.new.seat) c.build.ensures.grows None c.args.asked c.in_ok-made.made
    (chosen c.args.var (meaning k c.args.low.number) (meaning k c.args.high.number)) c.requires.about c.in_ok-made.ensures.ok
