use Rattle.std.proofs.Common.{◌≡◌, ℕ, Bool, ◌⊎◌, ◌∙◌, sym, ap, subst, ⊎_elim, IfOk}
use Rattle.std.proofs.lemmas.Result.{IfErr-weaker}
use Rattle.ja_node_table.specs.Seats.{aim_of}
use Rattle.ja_bdd.specs.Functions.{Function, IsAimed}
use Rattle.ja_bdd.specs.Meaning.{meaning, IsMeant}
use Rattle.ja_bdd.specs.Room.{LacksRoomUnder}
use Rattle.ja_bdd.specs.Workers.{seen}
use Rattle.ja_work.specs.Frames.{variable}
use Rattle.ja_work.specs.Work.{literal, gathered, tied_by, variables_of}
use Rattle.ja_formula.specs.Made.{IsClausePart, one_literal, LacksRoomFor}
use Rattle.ja_formula.specs.Inner.{IsTail}
use Rattle.ja_formula.proofs.Meant.{keeps_chain, lacks_wider}
use Rattle.ja_formula.proofs.Clausal.{tail_part, tied_part}
use Rattle.ja_formula.proofs.clause.tied_gathered.Goals as goal

-- by what was gathered, and by the variable
same : (both sign : Bool) (u v : ℕ) (φ ψ : Function) → u ≡ v → φ ≡ ψ → tied_by both (literal u sign) φ ≡ tied_by both (literal v sign) ψ
same both sign u v φ ψ e f = ap (λ n. tied_by both (literal n sign) φ) e ∙ ap (tied_by both (literal v sign)) f

pub gather-requires-clause-aim : goal.gather-requires-clause-aim
gather-requires-clause-aim g c κs within φ is = c.requires.aim φ (tail_part c.args.frame.now c.args.clause.now c.args.spot c.args.form.positive φ is)

pub returns-in-Err-clause-full : goal.returns-in-Err-clause-full
returns-in-Err-clause-full g c =
    let frame = c.args.frame.now in
    let clause = c.args.clause.now in
    lacks_wider c.args.table.now (seen c.gather.new.worker) (IsTail frame clause c.args.form.positive) (IsClausePart frame clause c.args.spot) c.in-Err.full
    (tail_part frame clause c.args.spot c.args.form.positive) c.in-Err.ensures.full

pub tie-requires-clause-literal : goal.tie-requires-clause-literal
tie-requires-clause-literal g c κs within = c.requires.aim (literal c.variable-var.result c.args.form.sign) (one_literal c.variable-var.result c.args.form.sign c.variable-var.ensures.within)

pub tie-requires-clause-aim : goal.tie-requires-clause-aim
tie-requires-clause-aim g c κs within =
    let frame = c.args.frame.now in
    let clause = c.args.clause.now in
    let form = c.args.form in
    let v = variable frame c.args.spot 2 in
    let gathered_all = gathered form.positive (variables_of frame clause) in
    let e = same form.both form.sign c.variable-var.result v (meaning (seen c.gather.new.worker) c.in-Ok.node.number) gathered_all c.variable-var.ensures.variable c.in-Ok.ensures.ok.1 in
    subst (IsAimed (g.A.Aim.aims (aim_of c.args.table.now))) (sym e) (c.requires.aim (tied_by form.both (literal v form.sign) gathered_all) (tied_part frame clause c.args.spot form.both form.sign form.positive))

pub returns-clause-keeps : goal.returns-clause-keeps
returns-clause-keeps g c = keeps_chain (seen c.args.worker.now) (seen c.gather.new.worker) (seen c.tie.new.worker) c.gather.ensures.keeps c.tie.ensures.keeps

pub returns-clause-ok : goal.returns-clause-ok
returns-clause-ok g c =
    let frame = c.args.frame.now in
    let form = c.args.form in
    let v = variable frame c.args.spot 2 in
    let e = same form.both form.sign c.variable-var.result v (meaning (seen c.gather.new.worker) c.in-Ok.node.number) (gathered form.positive (variables_of frame c.args.clause.now)) c.variable-var.ensures.variable c.in-Ok.ensures.ok.1 in
    subst (λ χ. IfOk c.tie.result (λ n. IsMeant (seen c.tie.new.worker) n.number χ)) e c.tie.ensures.ok

pub returns-clause-full : goal.returns-clause-full
returns-clause-full g c =
    let t = c.args.table.now in
    let l = seen c.tie.new.worker in
    let frame = c.args.frame.now in
    let clause = c.args.clause.now in
    let form = c.args.form in
    let v = variable frame c.args.spot 2 in
    let gathered_all = gathered form.positive (variables_of frame clause) in
    let before = meaning (seen c.gather.new.worker) c.in-Ok.node.number in
    let one = literal c.variable-var.result form.sign in
    let e = same form.both form.sign c.variable-var.result v before gathered_all c.variable-var.ensures.variable c.in-Ok.ensures.ok.1 in
    IfErr-weaker c.tie.result (λ full. LacksRoomUnder t l one full ⊎ LacksRoomUnder t l (tied_by form.both one before) full) (LacksRoomFor t l (IsClausePart frame clause c.args.spot))
    (λ full lacks. ⊎_elim
    (λ h. record { φ = one; is = one_literal c.variable-var.result form.sign c.variable-var.ensures.within; lacks = h })
    (λ h. record { φ = tied_by form.both (literal v form.sign) gathered_all; is = tied_part frame clause c.args.spot form.both form.sign form.positive; lacks = subst (λ χ. LacksRoomUnder t l χ full) e h })
    lacks)
    c.tie.ensures.full
