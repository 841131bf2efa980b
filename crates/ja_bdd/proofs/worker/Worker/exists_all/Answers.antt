use Rattle.std.proofs.Common.{sym, ap, ◌∙◌, subst}
use Rattle.std.proofs.lemmas.Result.{IfOk-weaker, IfErr-weaker}
use Rattle.ja_node_table.specs.Seats.{aim_of, known}
use Rattle.ja_bdd.specs.Meaning.{meaning}
use Rattle.ja_bdd.specs.Copies.{in_copies, all_forgotten, IsAimedThroughout, LacksRoomWithin}
use Rattle.ja_bdd.proofs.Learning.{seat_keeps}
use Rattle.ja_bdd.proofs.Producing.{with_self}
use Rattle.ja_bdd.proofs.worker.Worker.exists_all.Goals as goal

pub product-requires-clause-aim : goal.product-requires-clause-aim
product-requires-clause-aim g c κs within =
    subst (IsAimedThroughout (g.A.Aim.aims (aim_of c.args.table.now)) (in_copies c.args.copies)) (sym (with_self (meaning (known c.args.self.now.seat) c.args.f.number))) c.requires.aim

pub returns-clause-keeps : goal.returns-clause-keeps
returns-clause-keeps g c = seat_keeps c.args.self.now.seat c.product.new.self.seat c.product.ensures.grows

pub returns-clause-ok : goal.returns-clause-ok
returns-clause-ok g c = IfOk-weaker c.product.result _ _ (λ n is. (is.0, is.1 ∙ ap (all_forgotten (in_copies c.args.copies)) (with_self (meaning (known c.args.self.now.seat) c.args.f.number)))) c.product.ensures.ok

pub returns-clause-full : goal.returns-clause-full
returns-clause-full g c = IfErr-weaker c.product.result _ _ (λ e lacks. subst (λ φ. LacksRoomWithin c.args.table.now (known c.product.new.self.seat) (in_copies c.args.copies) φ e) (with_self (meaning (known c.args.self.now.seat) c.args.f.number)) lacks) c.product.ensures.full
