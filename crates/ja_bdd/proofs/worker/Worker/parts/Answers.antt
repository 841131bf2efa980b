use Rattle.std.proofs.Common.{sym, ◌∙◌}
use Rattle.std.specs.Prelude.{None}
use Rattle.ja_node_table.specs.Seats.{known}
use Rattle.ja_bdd.proofs.Sound.{seat_sound}
use Rattle.ja_bdd.proofs.Parts.{parts_halved}
use Rattle.ja_bdd.proofs.Learning.{seat_right, same_part}
use Rattle.ja_bdd.proofs.worker.Worker.parts.Goals as goal

pub invariant_of-self : goal.invariant_of-self
invariant_of-self g c =
    let same = same_part c.args.self.now.seat c.parts.new.seat c.parts.ensures.seat.1 in
    record { counted = c.args.self.now.counted; early = c.args.self.now.early; right = seat_right c.args.self.now.seat c.parts.new.seat None c.args.self.now.cache.items same c.args.self.now.right }

pub returns-clause-parts : goal.returns-clause-parts
returns-clause-parts g c =
    let seat = c.args.self.now.seat in
    let is = c.parts.ensures.parts in
    parts_halved (known seat) (seat_sound seat) c.args.n.number c.parts.result.var c.parts.result.lo.number c.parts.result.hi.number c.requires.node.0 c.requires.node.1 is.0 is.1 is.2

pub returns-clause-apart : goal.returns-clause-apart
returns-clause-apart g c same = c.parts.ensures.node.apart (sym c.parts.ensures.parts.1 ∙ same ∙ c.parts.ensures.parts.2)
