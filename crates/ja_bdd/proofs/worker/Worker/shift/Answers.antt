use Rattle.std.proofs.Common.{sym, subst}
use Rattle.ja_node_core.specs.Node.{IsPart}
use Rattle.ja_node_table.specs.Seats.{known}
use Rattle.ja_bdd.specs.Functions.{KeepsOrder}
use Rattle.ja_bdd.specs.Meaning.{meaning}
use Rattle.ja_bdd.specs.Variables.{partner_of}
use Rattle.ja_bdd.proofs.Learning.{seat_keeps}
use Rattle.ja_bdd.proofs.worker.Worker.shift.Goals as goal

pub rename-requires-clause-order : goal.rename-requires-clause-order
rename-requires-clause-order g c κs within = subst (λ s. KeepsOrder (partner_of c.args.m.now) (meaning (known s) c.args.f.number)) (sym c.forget_shifts.ensures.seat) c.requires.order

pub returns-clause-keeps : goal.returns-clause-keeps
returns-clause-keeps g c = seat_keeps c.args.self.now.seat c.rename.new.self.seat (subst (λ s. IsPart (known s) (known c.rename.new.self.seat)) c.forget_shifts.ensures.seat c.rename.ensures.grows)
