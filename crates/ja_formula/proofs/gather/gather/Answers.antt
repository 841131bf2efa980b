use Rattle.std.proofs.Common.{◌⊎◌, [], refl, sym, subst, ⊎_elim, IfOk}
use Rattle.std.proofs.lemmas.Result.{IfErr-weaker}
use Rattle.std.specs.Prelude.{not}
use Rattle.ja_node_table.specs.Seats.{aim_of}
use Rattle.ja_bdd.specs.Functions.{IsAimed}
use Rattle.ja_bdd.specs.Meaning.{meaning, IsMeant}
use Rattle.ja_bdd.specs.Room.{LacksRoomUnder}
use Rattle.ja_bdd.specs.Workers.{seen}
use Rattle.ja_work.specs.Work.{literal, gathered, tied_by, variables_of}
use Rattle.ja_formula.specs.Made.{LacksRoomFor}
use Rattle.ja_formula.specs.Inner.{IsStackTail, IsTail, one_of_clause, last_of_clause}
use Rattle.ja_formula.proofs.Meant.{keeps_chain, lacks_wider}
use Rattle.ja_formula.proofs.Gathered.{stack_tail, clause_step}
use Rattle.ja_formula.proofs.gather.gather.Goals as goal

pub gather_stack-requires-clause-aim : goal.gather_stack-requires-clause-aim
gather_stack-requires-clause-aim g c κs within φ is = c.requires.aim φ (stack_tail c.args.frame.now c.args.clause.now c.args.positive φ is)

pub returns-in-Err-clause-full : goal.returns-in-Err-clause-full
returns-in-Err-clause-full g c =
    let frame = c.args.frame.now in
    let clause = c.args.clause.now in
    lacks_wider c.args.table.now (seen c.gather_stack.new.worker) (IsStackTail frame clause.first clause.count c.args.positive) (IsTail frame clause c.args.positive) c.in-Err.full
    (stack_tail frame clause c.args.positive) c.in-Err.ensures.full

pub tie-requires-clause-literal : goal.tie-requires-clause-literal
tie-requires-clause-literal g c κs within = c.requires.aim (literal c.variable.result c.args.positive) (one_of_clause c.variable.result c.variable.ensures.within)

pub tie-requires-clause-aim : goal.tie-requires-clause-aim
tie-requires-clause-aim g c κs within =
    let frame = c.args.frame.now in
    let clause = c.args.clause.now in
    let same = clause_step frame clause c.args.positive c.in-Some.spot c.variable.result (meaning (seen c.gather_stack.new.worker) c.in-Ok.node.number) c.in-Some.is c.variable.ensures.variable c.in-Ok.ensures.ok.1 in
    subst (IsAimed (g.A.Aim.aims (aim_of c.args.table.now))) (sym same) (c.requires.aim (gathered c.args.positive (variables_of frame clause)) (last_of_clause [] (variables_of frame clause) refl))

pub returns-in-Some-clause-keeps : goal.returns-in-Some-clause-keeps
returns-in-Some-clause-keeps g c = keeps_chain (seen c.args.worker.now) (seen c.gather_stack.new.worker) (seen c.tie.new.worker) c.gather_stack.ensures.keeps c.tie.ensures.keeps

pub returns-in-Some-clause-ok : goal.returns-in-Some-clause-ok
returns-in-Some-clause-ok g c =
    let frame = c.args.frame.now in
    let clause = c.args.clause.now in
    let same = clause_step frame clause c.args.positive c.in-Some.spot c.variable.result (meaning (seen c.gather_stack.new.worker) c.in-Ok.node.number) c.in-Some.is c.variable.ensures.variable c.in-Ok.ensures.ok.1 in
    subst (λ χ. IfOk c.tie.result (λ n. IsMeant (seen c.tie.new.worker) n.number χ)) same c.tie.ensures.ok

pub returns-in-Some-clause-full : goal.returns-in-Some-clause-full
returns-in-Some-clause-full g c =
    let t = c.args.table.now in
    let l = seen c.tie.new.worker in
    let frame = c.args.frame.now in
    let clause = c.args.clause.now in
    let one = literal c.variable.result c.args.positive in
    let tied = tied_by (not c.args.positive) one (meaning (seen c.gather_stack.new.worker) c.in-Ok.node.number) in
    let same = clause_step frame clause c.args.positive c.in-Some.spot c.variable.result (meaning (seen c.gather_stack.new.worker) c.in-Ok.node.number) c.in-Some.is c.variable.ensures.variable c.in-Ok.ensures.ok.1 in
    IfErr-weaker c.tie.result (λ e. LacksRoomUnder t l one e ⊎ LacksRoomUnder t l tied e) (LacksRoomFor t l (IsTail frame clause c.args.positive))
    (λ e lacks. ⊎_elim
    (λ h. record { φ = one; is = one_of_clause c.variable.result c.variable.ensures.within; lacks = h })
    (λ h. record { φ = gathered c.args.positive (variables_of frame clause); is = last_of_clause [] (variables_of frame clause) refl; lacks = subst (λ χ. LacksRoomUnder t l χ e) same h })
    lacks)
    c.tie.ensures.full
