use Rattle.std.proofs.Common.{true, false}
use Rattle.ja_bdd.specs.Workers.{seen}
use Rattle.ja_bdd.specs.Variables.{partner_of}
use Rattle.ja_bdd.proofs.Sound.{seat_sound, knows_constant}
use Rattle.ja_bdd.proofs.Forgetting.{constant_from}
use Rattle.diagram_cases.proofs.Pooled.{literal_order}
use Rattle.diagram_cases.proofs.renamed.literal_and_partner.Goals as goal

pub make-requires-clause-known : goal.make-requires-clause-known
make-requires-clause-known c κs = let k = seen c.args.worker.now in (knows_constant k false, knows_constant k true)

pub make-requires-clause-later : goal.make-requires-clause-later
make-requires-clause-later c κs = let s = c.args.worker.now.seat in (constant_from _ (seat_sound s) false _, constant_from _ (seat_sound s) true _)

-- a renaming keeps the order of one variable
pub shift-requires-clause-order : goal.shift-requires-clause-order
shift-requires-clause-order c κs =
    literal_order (seen c.args.worker.now) (seen c.make.new.self) (seat_sound c.args.worker.now.seat) c.args.var c.in-Ok.literal.number c.in-Ok.ensures.ok (partner_of c.args.m.now)
