use Rattle.std.proofs.Common.{sym, ◌∙◌, refl}
use Rattle.std.specs.Prelude.{None}
use Rattle.ja_node_table.specs.Seats.{known}
use Rattle.ja_bdd.specs.declared.cache.Question.TheVariants.{Join}
use Rattle.ja_bdd.proofs.Sound.{seat_sound}
use Rattle.ja_bdd.proofs.Cached.{right_found}
use Rattle.ja_bdd.proofs.Joining.{settled_is, turned, opened_by}
use Rattle.ja_bdd.proofs.worker.Worker.begin.Goals as goal

pub returns-in-Some-clause-ok : goal.returns-in-Some-clause-ok
returns-in-Some-clause-ok g c = settled_is (known c.args.self.now.seat) (seat_sound c.args.self.now.seat) c.args.joint c.args.f.number c.args.g.number c.in-Some.n.number c.requires.0 c.requires.1 c.in-Some.ensures.some

pub returns-in-Some-find-clause-ok : goal.returns-in-Some-find-clause-ok
returns-in-Some-find-clause-ok g c =
    let w = c.args.self.now in
    let p = c.ordered.result in
    let answer = right_found None (known w.seat) w.cache.items (Join c.args.joint p.0 p.1) c.in-Some-find.n w.right c.in-Some-find.ensures in
    (answer.0, sym answer.1.2 ∙ turned (known w.seat) c.args.joint c.args.f c.args.g p c.ordered.ensures)

pub returns-in-None-clause-err : goal.returns-in-None-clause-err
returns-in-None-clause-err g c =
    let none = c.in_default.ensures.none refl in
    opened_by (known c.args.self.now.seat) (seat_sound c.args.self.now.seat) c.args.joint c.args.f c.args.g c.ordered.result c.requires.0 c.requires.1 none.0 none.1 c.ordered.ensures
