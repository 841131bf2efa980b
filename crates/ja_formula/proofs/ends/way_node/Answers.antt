use Rattle.std.proofs.Common.{false, refl, sym, ◌∙◌}
use Rattle.ja_node_table.specs.Seats.{known}
use Rattle.ja_bdd.proofs.Sound.{seat_sound}
use Rattle.ja_clauses.specs.Tables.{tests_by}
use Rattle.ja_formula.proofs.Meant.{constant_known, constant_means}
use Rattle.ja_formula.proofs.Ruled.{way_there, way_absent}
use Rattle.ja_formula.proofs.ends.way_node.Goals as goal

pub returns-then-not-may_end-clause-ok : goal.returns-then-not-may_end-clause-ok
returns-then-not-may_end-clause-ok g c =
    let s = c.args.worker.now.seat in
    let none = way_absent c.args.frame.now (tests_by c.args.before.now) c.args.instr.now.op c.args.instr.now.height c.args.way (sym c.may_end.ensures ∙ c.if-not-may_end.true) in
    (constant_known (known s) (seat_sound s) 0 false refl, constant_means (known s) (seat_sound s) 0 false refl ∙ none)

pub returns-in-Ok-clause-ok : goal.returns-in-Ok-clause-ok
returns-in-Ok-clause-ok g c =
    let ok = c.in-Ok.ensures.ok in
    (ok.0, ok.1 ∙ way_there c.args.frame.now (tests_by c.args.before.now) c.args.instr.now.op c.args.instr.now.height c.args.way (sym c.may_end.ensures ∙ c.if-not-may_end.false))
