use Rattle.std.proofs.Common.{◌≡◌, IfOk, IfErr, List, true, sym, ap, ◌∙◌, subst}
use Rattle.ja_node_core.specs.Node.{Words, Knows}
use Rattle.ja_node_table.specs.Seats.{aim_of}
use Rattle.ja_bdd.specs.Functions.{Function}
use Rattle.ja_bdd.specs.Meaning.{meaning}
use Rattle.ja_bdd.specs.Workers.{seen}
use Rattle.ja_bdd.proofs.Sound.{Sound, seat_sound, knows_constant, meaning_constant}
use Rattle.ja_join.specs.declared.rule.Move.{Move}
use Rattle.ja_join.specs.Steps.{IsStep, ArePartsAimed, LacksRoomAmong, joint}
use Rattle.ja_join.proofs.Handing.{joint_true}
use Rattle.ja_join.proofs.pass.step.Goals as goal

-- with the constant true, the other function alone is left
alone : (k : Words) → Sound k → (moves : List Move) (φ : Function) → joint moves φ (meaning k 1) ≡ φ
alone k sound moves φ = ap (joint moves φ) (meaning_constant k sound true) ∙ joint_true moves φ

pub step_with-requires-clause-known : goal.step_with-requires-clause-known
step_with-requires-clause-known g c κs within = (c.requires.known, knows_constant (seen c.args.worker.now) true)

pub step_with-requires-clause-aim : goal.step_with-requires-clause-aim
step_with-requires-clause-aim g c κs within =
    let w = c.args.worker.now in
    let rule = c.args.rule.now in
    let φ = meaning (seen w) c.args.r.number in
    subst (λ ξ. (χ : Function) → IsStep rule ξ χ → ArePartsAimed (g.A.Aim.aims (aim_of c.args.table.now)) rule φ χ) (sym (alone (seen w) (seat_sound w.seat) rule.moves.items φ)) c.requires.aim

pub returns-clause-ok : goal.returns-clause-ok
returns-clause-ok g c =
    let w = c.args.worker.now in
    let rule = c.args.rule.now in
    let φ = meaning (seen w) c.args.r.number in
    let w1 = c.step_with.new.worker in
    subst (λ ξ. IfOk c.step_with.result (λ n. Knows (seen w1) n.number × IsStep rule ξ (meaning (seen w1) n.number))) (alone (seen w) (seat_sound w.seat) rule.moves.items φ) c.step_with.ensures.ok

pub returns-clause-full : goal.returns-clause-full
returns-clause-full g c =
    let w = c.args.worker.now in
    let rule = c.args.rule.now in
    let φ = meaning (seen w) c.args.r.number in
    let w1 = c.step_with.new.worker in
    subst (λ ξ. IfErr c.step_with.result (λ e. (χ : Function) × IsStep rule ξ χ × LacksRoomAmong c.args.table.now (seen w1) χ e)) (alone (seen w) (seat_sound w.seat) rule.moves.items φ) c.step_with.ensures.full
