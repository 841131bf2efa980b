use Rattle.std.proofs.Common.{true, refl, ◌∙◌}
use Rattle.ja_node_table.specs.Seats.{known}
use Rattle.ja_bdd.proofs.Sound.{seat_sound}
use Rattle.ja_work.specs.Work.{literal}
use Rattle.ja_formula.specs.Made.{one_literal}
use Rattle.ja_formula.proofs.Meant.{constant_known, constant_means}
use Rattle.ja_formula.proofs.Clausal.{always_exact, always_open}
use Rattle.ja_formula.proofs.clause.always_node.Goals as goal

pub returns-then-not-clause-clause-ok : goal.returns-then-not-clause-clause-ok
returns-then-not-clause-clause-ok g c =
    let s = c.args.worker.now.seat in
    (constant_known (known s) (seat_sound s) 1 true refl, constant_means (known s) (seat_sound s) 1 true refl ∙ always_open c.args.frame.now c.args.clause.now c.args.spot c.requires.always c.if-not-clause.true)

pub literal-requires-clause-aim : goal.literal-requires-clause-aim
literal-requires-clause-aim g c κs within = c.requires.aim (literal c.variable-var.result true) (one_literal c.variable-var.result true c.variable-var.ensures.within)

pub returns-in-Ok-clause-ok : goal.returns-in-Ok-clause-ok
returns-in-Ok-clause-ok g c =
    let ok = c.in-Ok.ensures.ok in
    (ok.0, ok.1 ∙ always_exact c.args.frame.now c.args.clause.now c.args.spot c.requires.always c.variable-var.result c.variable-var.ensures.variable c.if-not-clause.false)

pub returns-in-Err-clause-full : goal.returns-in-Err-clause-full
returns-in-Err-clause-full g c = record { φ = literal c.variable-var.result true; is = one_literal c.variable-var.result true c.variable-var.ensures.within; lacks = c.in-Err.ensures.full }
