use Rattle.std.specs.Prelude.{None}
use Rattle.ja_bdd.proofs.Learning.{seat_right, same_part}
use Rattle.ja_bdd.proofs.worker.Worker.give_seat.Goals as goal

pub invariant_of-self : goal.invariant_of-self
invariant_of-self g c =
    let same = same_part c.args.self.now.seat c.split.new.seat c.split.ensures.old.1 in
    record { counted = c.args.self.now.counted; early = c.args.self.now.early; right = seat_right c.args.self.now.seat c.split.new.seat None c.args.self.now.cache.items same c.args.self.now.right }
