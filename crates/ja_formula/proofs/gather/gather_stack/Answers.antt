use Rattle.std.proofs.Common.{◌+◌, ◌-◌, false, refl, sym, subst, ◌∙◌, arith, ⊎_elim}
use Rattle.ja_node_table.specs.Seats.{aim_of, known}
use Rattle.ja_bdd.specs.Functions.{IsAimed}
use Rattle.ja_bdd.specs.Meaning.{meaning}
use Rattle.ja_bdd.specs.Room.{LacksRoomUnder}
use Rattle.ja_bdd.specs.Workers.{seen}
use Rattle.ja_bdd.proofs.Sound.{seat_sound}
use Rattle.ja_work.specs.Work.{literal, signed, gathered, stack_variables}
use Rattle.ja_formula.specs.Inner.{one_of_stack, last_of_stack}
use Rattle.ja_formula.proofs.Meant.{constant_known, constant_means, keeps_chain}
use Rattle.ja_formula.proofs.Gathered.{stack_step}
use Rattle.ja_formula.proofs.gather.gather_stack.Goals as goal

pub loop-done-init : goal.loop-done-init
loop-done-init g c =
    let s = c.args.worker.now.seat in
    let e = c.gathered_none-node.ensures in
    record {
      worker = c.requires.worker;
      keeps = λ n is. (is, refl);
      means = (constant_known (known s) (seat_sound s) _ (signed c.args.positive false) e, constant_means (known s) (seat_sound s) _ (signed c.args.positive false) e);
    }

pub tie-requires-clause-literal : goal.tie-requires-clause-literal
tie-requires-clause-literal g c κs within = c.requires.aim (literal c.variable-var.result c.args.positive) (one_of_stack c.variable-var.result c.variable-var.ensures.within)

pub tie-requires-clause-aim : goal.tie-requires-clause-aim
tie-requires-clause-aim g c κs within =
    let n = c.loop-done.done in
    let k = c.args.count - (n + 1) in
    let lt = c.loop-done-test.true in
    let same = stack_step c.args.frame.now c.args.first c.args.count n c.variable-var.result c.args.positive (meaning (seen c.loop-done.worker) c.loop-done.node.number) lt c.variable-var.ensures.variable c.loop-done.invariant.means.1 in
    subst (IsAimed (g.A.Aim.aims (aim_of c.args.table.now))) (sym same)
    (c.requires.aim (gathered c.args.positive (stack_variables c.args.frame.now (c.args.first + k) (n + 1))) (last_of_stack k (n + 1) (omega (arith, lt))))

pub returns-in-Err-clause-keeps : goal.returns-in-Err-clause-keeps
returns-in-Err-clause-keeps g c = keeps_chain (seen c.args.worker.now) (seen c.loop-done.worker) (seen c.tie.new.worker) c.loop-done.invariant.keeps c.tie.ensures.keeps

pub returns-in-Err-clause-full : goal.returns-in-Err-clause-full
returns-in-Err-clause-full g c =
    let n = c.loop-done.done in
    let k = c.args.count - (n + 1) in
    let lt = c.loop-done-test.true in
    let same = stack_step c.args.frame.now c.args.first c.args.count n c.variable-var.result c.args.positive (meaning (seen c.loop-done.worker) c.loop-done.node.number) lt c.variable-var.ensures.variable c.loop-done.invariant.means.1 in
    ⊎_elim
    (λ h. record { φ = literal c.variable-var.result c.args.positive; is = one_of_stack c.variable-var.result c.variable-var.ensures.within; lacks = h })
    (λ h. record {
      φ = gathered c.args.positive (stack_variables c.args.frame.now (c.args.first + k) (n + 1));
      is = last_of_stack k (n + 1) (omega (arith, lt));
      lacks = subst (λ χ. LacksRoomUnder c.args.table.now (seen c.tie.new.worker) χ c.in-Err.full) same h;
    })
    c.in-Err.ensures.full

pub loop-done-preserved : goal.loop-done-preserved
loop-done-preserved g c =
    let n = c.loop-done.done in
    let same = stack_step c.args.frame.now c.args.first c.args.count n c.variable-var.result c.args.positive (meaning (seen c.loop-done.worker) c.loop-done.node.number) c.loop-done-test.true c.variable-var.ensures.variable c.loop-done.invariant.means.1 in
    let ok = c.in-Ok.ensures.ok in
    record {
      worker = c.tie.ensures.worker;
      keeps = keeps_chain (seen c.args.worker.now) (seen c.loop-done.worker) (seen c.tie.new.worker) c.loop-done.invariant.keeps c.tie.ensures.keeps;
      means = (ok.0, ok.1 ∙ same);
    }
