use Rattle.std.proofs.Common.{arith}
use Rattle.ja_node_table.specs.Seats.{known}
use Rattle.ja_bdd.specs.Copies.{in_copies}
use Rattle.ja_bdd.proofs.Sound.{seat_sound}
use Rattle.ja_bdd.proofs.Producing.{settled_constant, open_one}
use Rattle.ja_bdd.proofs.worker.Worker.unsettled.Goals as goal

pub returns-then-n-lt2-clause-ok : goal.returns-then-n-lt2-clause-ok
returns-then-n-lt2-clause-ok g c =
    let s = c.args.self.now.seat in
    settled_constant (known s) (seat_sound s) (in_copies c.args.copies) c.args.f.number c.args.g.number c.in-Some.n.number c.requires.0 c.requires.1 c.in-Some.ensures.some (let lt = c.if-n-lt2.true in omega arith)

pub returns-else-n-lt2-clause-err : goal.returns-else-n-lt2-clause-err
returns-else-n-lt2-clause-err g c =
    let s = c.args.self.now.seat in
    open_one (known s) (seat_sound s) c.args.f.number c.args.g.number c.in-Some.n.number c.requires.0 c.requires.1 c.in-Some.ensures.some (let not = c.if-n-lt2.false in omega arith)
