use Rattle.std.proofs.Common.{◌≡◌, ◌+◌, ◌-◌, true, refl, ap, ◌∙◌, arith}
use Rattle.ja_node_table.specs.Seats.{known}
use Rattle.ja_bdd.specs.Workers.{seen}
use Rattle.ja_bdd.proofs.Sound.{seat_sound}
use Rattle.ja_work.specs.Frames.{size, clauses_from}
use Rattle.ja_formula.specs.Inner.{clauses_of}
use Rattle.ja_formula.proofs.Meant.{constant_known, constant_means, keeps_chain}
use Rattle.ja_formula.proofs.whole.rule_node.Goals as goal

pub loop-done-init : goal.loop-done-init
loop-done-init g c =
    let s = c.args.worker.now.seat in
    record { worker = c.requires.worker; keeps = λ n is. (is, refl); means = (constant_known (known s) (seat_sound s) _ true c.no_clause-node.ensures, constant_means (known s) (seat_sound s) _ true c.no_clause-node.ensures) }

pub clauses_with-requires-clause-place : goal.clauses_with-requires-clause-place
clauses_with-requires-clause-place g c κs within = let lt = c.loop-done-test.true in omega (arith, lt)

pub clauses_with-requires-clause-rest : goal.clauses_with-requires-clause-rest
clauses_with-requires-clause-rest g c κs within =
    let frame = c.args.frame.now in
    let n = c.loop-done.done in
    let lt = c.loop-done-test.true in
    let at : size frame - n ≡ (size frame - 1 - n) + 1 = omega (arith, lt) in
    let means = c.loop-done.invariant.means in
    (means.0, means.1 ∙ ap (λ k. clauses_from frame (clauses_of c.args.rule.now) k n) at)

pub returns-in-Err-clause-keeps : goal.returns-in-Err-clause-keeps
returns-in-Err-clause-keeps g c = keeps_chain (seen c.args.worker.now) (seen c.loop-done.worker) (seen c.clauses_with.new.worker) c.loop-done.invariant.keeps c.clauses_with.ensures.keeps

pub loop-done-preserved : goal.loop-done-preserved
loop-done-preserved g c =
    let frame = c.args.frame.now in
    let n = c.loop-done.done in
    let lt = c.loop-done-test.true in
    let at : size frame - 1 - n ≡ size frame - (n + 1) = omega (arith, lt) in
    let ok = c.in-Ok.ensures.ok in
    record {
      worker = c.clauses_with.ensures.worker;
      keeps = keeps_chain (seen c.args.worker.now) (seen c.loop-done.worker) (seen c.clauses_with.new.worker) c.loop-done.invariant.keeps c.clauses_with.ensures.keeps;
      means = (ok.0, ok.1 ∙ ap (λ k. clauses_from frame (clauses_of c.args.rule.now) k (n + 1)) at);
    }
