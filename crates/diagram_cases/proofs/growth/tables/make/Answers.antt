use Rattle.std.proofs.Common.{suc}
use Rattle.ja_bdd.specs.Workers.{seen}
use Rattle.ja_bdd.proofs.Sound.{seat_sound}
use Rattle.diagram_cases.proofs.Known.{constant_known}
use Rattle.diagram_cases.proofs.growth.tables.make.Goals as goal

pub make-requires-clause-known : goal.make-requires-clause-known
make-requires-clause-known c _ =
    let w = c.args.worker.now in
    ((constant_known (seen w) (seat_sound w.seat) 0 c.constant.result c.constant.ensures).0, (constant_known (seen w) (seat_sound w.seat) 0 c.constant-2.result c.constant-2.ensures).0)

pub make-requires-clause-later : goal.make-requires-clause-later
make-requires-clause-later c _ =
    let w = c.args.worker.now in
    ((constant_known (seen w) (seat_sound w.seat) (suc c.args.asked.var) c.constant.result c.constant.ensures).1, (constant_known (seen w) (seat_sound w.seat) (suc c.args.asked.var) c.constant-2.result c.constant-2.ensures).1)
