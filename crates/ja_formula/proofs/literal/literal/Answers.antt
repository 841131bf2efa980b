use Rattle.std.proofs.Common.{false, sym, subst, IfOk, IfErr}
use Rattle.ja_node_table.specs.Seats.{aim_of, known}
use Rattle.ja_bdd.specs.Functions.{IsAimed}
use Rattle.ja_bdd.specs.Meaning.{IsMeant}
use Rattle.ja_bdd.specs.Room.{LacksRoomUnder}
use Rattle.ja_bdd.specs.Workers.{seen}
use Rattle.ja_bdd.proofs.Sound.{seat_sound}
use Rattle.ja_work.specs.Work.{signed}
use Rattle.ja_formula.proofs.Meant.{constant_known, constant_after, literal_made}
use Rattle.ja_formula.proofs.literal.literal.Goals as goal

pub make-requires-clause-known : goal.make-requires-clause-known
make-requires-clause-known g c κs within =
    let s = c.args.worker.now.seat in
    let e = c.parts_of.ensures in
    (constant_known (known s) (seat_sound s) _ (signed c.args.positive false) e.0, constant_known (known s) (seat_sound s) _ c.args.positive e.1)

pub make-requires-clause-later : goal.make-requires-clause-later
make-requires-clause-later g c κs within =
    let s = c.args.worker.now.seat in
    let e = c.parts_of.ensures in
    (constant_after (known s) (seat_sound s) _ c.args.var (signed c.args.positive false) e.0, constant_after (known s) (seat_sound s) _ c.args.var c.args.positive e.1)

pub make-requires-clause-aim : goal.make-requires-clause-aim
make-requires-clause-aim g c κs within =
    let s = c.args.worker.now.seat in
    let e = c.parts_of.ensures in
    λ apart. subst (IsAimed (g.A.Aim.aims (aim_of c.args.table.now))) (sym (literal_made (known s) (seat_sound s) _ _ c.args.var c.args.positive e.0 e.1)) c.requires.aim

pub returns-clause-ok : goal.returns-clause-ok
returns-clause-ok g c =
    let s = c.args.worker.now.seat in
    let e = c.parts_of.ensures in
    subst (λ χ. IfOk c.make.result (λ n. IsMeant (seen c.make.new.self) n.number χ)) (literal_made (known s) (seat_sound s) _ _ c.args.var c.args.positive e.0 e.1) c.make.ensures.ok

pub returns-clause-full : goal.returns-clause-full
returns-clause-full g c =
    let s = c.args.worker.now.seat in
    let e = c.parts_of.ensures in
    subst (λ χ. IfErr c.make.result (LacksRoomUnder c.args.table.now (seen c.make.new.self) χ)) (literal_made (known s) (seat_sound s) _ _ c.args.var c.args.positive e.0 e.1) c.make.ensures.full
