use Rattle.std.specs.Prelude.{None}
use Rattle.ja_node_table.specs.Seats.{known}
use Rattle.ja_bdd.proofs.Learning.{seat_keeps, seat_right, same_part, part_chain}
use Rattle.ja_bdd.proofs.worker.Worker.rejoin.Goals as goal

pub invariant_of-self : goal.invariant_of-self
invariant_of-self g c =
    let part = part_chain (known c.args.self.now.seat) (known c.join.new.seat) (known c.split-mine.new.seat) c.join.ensures.grows.0 (same_part c.join.new.seat c.split-mine.new.seat c.split-mine.ensures.old.1) in
    record { counted = c.args.self.now.counted; early = c.args.self.now.early; right = seat_right c.args.self.now.seat c.split-mine.new.seat None c.args.self.now.cache.items part c.args.self.now.right }

pub invariant_of-other : goal.invariant_of-other
invariant_of-other g c =
    let part = part_chain (known c.args.other.now.seat) (known c.split-theirs.new.seat) (known c.join-2.new.seat) (same_part c.args.other.now.seat c.split-theirs.new.seat c.split-theirs.ensures.old.1) c.join-2.ensures.grows.0 in
    record { counted = c.args.other.now.counted; early = c.args.other.now.early; right = seat_right c.args.other.now.seat c.join-2.new.seat None c.args.other.now.cache.items part c.args.other.now.right }

pub returns-clause-learns : goal.returns-clause-learns
returns-clause-learns g c =
    let mine = same_part c.join.new.seat c.split-mine.new.seat c.split-mine.ensures.old.1 in
    let theirs = same_part c.args.other.now.seat c.split-theirs.result c.split-theirs.ensures.new.1 in (
      seat_keeps c.args.self.now.seat c.split-mine.new.seat (part_chain (known c.args.self.now.seat) (known c.join.new.seat) (known c.split-mine.new.seat) c.join.ensures.grows.0 mine),
      seat_keeps c.args.other.now.seat c.split-mine.new.seat (part_chain (known c.args.other.now.seat) (known c.split-theirs.result) (known c.split-mine.new.seat) theirs
          (part_chain (known c.split-theirs.result) (known c.join.new.seat) (known c.split-mine.new.seat) c.join.ensures.grows.1 mine)),
    )

pub returns-clause-other : goal.returns-clause-other
returns-clause-other g c =
    let mine = same_part c.join.new.seat c.split-mine.result c.split-mine.ensures.new.1 in
    let theirs = same_part c.args.other.now.seat c.split-theirs.new.seat c.split-theirs.ensures.old.1 in (
      seat_keeps c.args.self.now.seat c.join-2.new.seat (part_chain (known c.args.self.now.seat) (known c.join.new.seat) (known c.join-2.new.seat) c.join.ensures.grows.0
          (part_chain (known c.join.new.seat) (known c.split-mine.result) (known c.join-2.new.seat) mine c.join-2.ensures.grows.1)),
      seat_keeps c.args.other.now.seat c.join-2.new.seat (part_chain (known c.args.other.now.seat) (known c.split-theirs.new.seat) (known c.join-2.new.seat) theirs c.join-2.ensures.grows.0),
    )
