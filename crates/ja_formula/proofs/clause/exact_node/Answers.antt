use Rattle.std.proofs.Common.{true, false, ◌∙◌, sym, subst, IfOk}
use Rattle.std.proofs.lemmas.Result.{IfErr-weaker}
use Rattle.ja_node_table.specs.Seats.{aim_of}
use Rattle.ja_bdd.specs.Functions.{either, IsAimed}
use Rattle.ja_bdd.specs.Meaning.{meaning, IsMeant}
use Rattle.ja_bdd.specs.Room.{LacksRoomUnder}
use Rattle.ja_bdd.specs.Workers.{seen}
use Rattle.ja_work.specs.Frames.{variable, clause_function}
use Rattle.ja_work.specs.Work.{literal, gathered, tied_by, variables_of}
use Rattle.ja_formula.specs.Made.{IsClausePart, whole_clause, LacksRoomFor}
use Rattle.ja_formula.proofs.Meant.{keeps_chain, joined}
use Rattle.ja_formula.proofs.Clausal.{exact_clause}
use Rattle.ja_formula.proofs.clause.exact_node.Goals as goal

pub returns-in-Err-where_false-clause-keeps : goal.returns-in-Err-where_false-clause-keeps
returns-in-Err-where_false-clause-keeps g c = keeps_chain (seen c.args.worker.now) (seen c.where_true.new.worker) (seen c.where_false.new.worker) c.where_true.ensures.keeps c.where_false.ensures.keeps

pub or-requires-clause-known : goal.or-requires-clause-known
or-requires-clause-known g c κs within = ((c.where_false.ensures.keeps c.in-Ok.high.number c.in-Ok.ensures.ok.0).0, c.in-Ok-where_false.ensures.ok.0)

pub or-requires-clause-aim : goal.or-requires-clause-aim
or-requires-clause-aim g c κs within =
    let frame = c.args.frame.now in
    let clause = c.args.clause.now in
    let whole = exact_clause frame clause c.args.spot c.requires.within c.requires.exact c.requires.varies in
    let same = joined (seen c.where_true.new.worker) (seen c.where_false.new.worker) c.in-Ok.high.number c.in-Ok-where_false.low.number (tied_by true (literal (variable frame c.args.spot 2) true) (gathered true (variables_of frame clause)))
    (tied_by true (literal (variable frame c.args.spot 2) false) (gathered false (variables_of frame clause))) c.where_false.ensures.keeps c.in-Ok.ensures.ok c.in-Ok-where_false.ensures.ok ∙ whole in
    subst (IsAimed (g.A.Aim.aims (aim_of c.args.table.now))) (sym same) (c.requires.aim (clause_function frame clause c.args.spot) whole_clause)

pub returns-clause-keeps : goal.returns-clause-keeps
returns-clause-keeps g c = keeps_chain (seen c.args.worker.now) (seen c.where_false.new.worker) (seen c.or.new.self)
    (keeps_chain (seen c.args.worker.now) (seen c.where_true.new.worker) (seen c.where_false.new.worker) c.where_true.ensures.keeps c.where_false.ensures.keeps)
    c.or.ensures.keeps

pub returns-clause-ok : goal.returns-clause-ok
returns-clause-ok g c =
    let frame = c.args.frame.now in
    let clause = c.args.clause.now in
    let whole = exact_clause frame clause c.args.spot c.requires.within c.requires.exact c.requires.varies in
    let same = joined (seen c.where_true.new.worker) (seen c.where_false.new.worker) c.in-Ok.high.number c.in-Ok-where_false.low.number (tied_by true (literal (variable frame c.args.spot 2) true) (gathered true (variables_of frame clause)))
    (tied_by true (literal (variable frame c.args.spot 2) false) (gathered false (variables_of frame clause))) c.where_false.ensures.keeps c.in-Ok.ensures.ok c.in-Ok-where_false.ensures.ok ∙ whole in
    subst (λ χ. IfOk c.or.result (λ n. IsMeant (seen c.or.new.self) n.number χ)) same c.or.ensures.ok

pub returns-clause-full : goal.returns-clause-full
returns-clause-full g c =
    let t = c.args.table.now in
    let l = seen c.or.new.self in
    let frame = c.args.frame.now in
    let clause = c.args.clause.now in
    let w = seen c.where_false.new.worker in
    let whole = exact_clause frame clause c.args.spot c.requires.within c.requires.exact c.requires.varies in
    let same = joined (seen c.where_true.new.worker) w c.in-Ok.high.number c.in-Ok-where_false.low.number (tied_by true (literal (variable frame c.args.spot 2) true) (gathered true (variables_of frame clause)))
    (tied_by true (literal (variable frame c.args.spot 2) false) (gathered false (variables_of frame clause))) c.where_false.ensures.keeps c.in-Ok.ensures.ok c.in-Ok-where_false.ensures.ok ∙ whole in
    IfErr-weaker c.or.result (LacksRoomUnder t l (either (meaning w c.in-Ok.high.number) (meaning w c.in-Ok-where_false.low.number))) (LacksRoomFor t l (IsClausePart frame clause c.args.spot))
    (λ e lacks. record { φ = clause_function frame clause c.args.spot; is = whole_clause; lacks = subst (λ χ. LacksRoomUnder t l χ e) same lacks })
    c.or.ensures.full
