use Rattle.std.proofs.Common.{◌≡◌, Bool, true, false, [], refl, sym, ◌∙◌}
use Rattle.std.specs.Prelude.{◌&&◌}
use Rattle.ja_node_core.specs.Node.{Words}
use Rattle.ja_bdd.specs.Functions.{Function}
use Rattle.ja_bdd.specs.Meaning.{meaning, IsMeant}
use Rattle.ja_bdd.specs.Workers.{seen}
use Rattle.ja_bdd.proofs.Sound.{Sound, seat_sound, knows_constant, meaning_constant}
use Rattle.ja_join.specs.declared.rule.States.{States}
use Rattle.ja_join.specs.Moves.{accepts}
use Rattle.ja_join.specs.Inner.{passed}
use Rattle.ja_join.proofs.pass.at_end.Goals as goal

not_left : (p q r : Bool) → q ≡ false → (p && (r && q)) ≡ false
not_left false q r e = refl
not_left true q false e = refl
not_left true q true e = e

left : (p q r : Bool) → p ≡ true → q ≡ true → r ≡ (p && (r && q))
left true true true e f = refl
left true true false e f = refl
left true false r e f = absurd cc
left false q r e f = absurd cc

-- behind the last move nothing is left where no state may be left, or where the callee's function is not true of nothing
module _ (k : Words) (sound : Sound k) (accepted s : States) (φ σ : Function) where
  none_meant : accepts accepted s ≡ false → IsMeant k 0 (passed accepted [] s φ σ)
  none_meant closed = (knows_constant k false, meaning_constant k sound false ∙ sym (λ i a. closed i && (φ a && σ (λ v. false))))

  gone_meant : σ (λ v. false) ≡ false → IsMeant k 0 (passed accepted [] s φ σ)
  gone_meant gone = (knows_constant k false, meaning_constant k sound false ∙ sym (λ i a. not_left (accepts accepted s) (σ (λ v. false)) (φ a) gone i))

  rest_meant : accepts accepted s ≡ true → σ (λ v. false) ≡ true → φ ≡ passed accepted [] s φ σ
  rest_meant may there i a = left (accepts accepted s) (σ (λ v. false)) (φ a) may there i

pub returns-then-not-is_accepted-clause-is : goal.returns-then-not-is_accepted-clause-is
returns-then-not-is_accepted-clause-is g c =
    let w = c.args.worker.now in
    none_meant (seen w) (seat_sound w.seat) c.args.rule.now.accepted c.args.states (meaning (seen w) c.args.r.number) (meaning (seen w) c.args.g.number) (sym c.is_accepted.ensures ∙ c.if-not-is_accepted.true)

pub returns-then-is_true_of_none-clause-is : goal.returns-then-is_true_of_none-clause-is
returns-then-is_true_of_none-clause-is g c =
    let w = c.args.worker.now in (
      c.requires.known.0,
      rest_meant (seen w) (seat_sound w.seat) c.args.rule.now.accepted c.args.states (meaning (seen w) c.args.r.number) (meaning (seen w) c.args.g.number)
          (sym c.is_accepted.ensures ∙ c.if-not-is_accepted.false) (sym c.is_true_of_none.ensures.is ∙ c.if-is_true_of_none.true),
    )

pub returns-clause-is : goal.returns-clause-is
returns-clause-is g c =
    let w = c.args.worker.now in
    gone_meant (seen w) (seat_sound w.seat) c.args.rule.now.accepted c.args.states (meaning (seen w) c.args.r.number) (meaning (seen w) c.args.g.number) (sym c.is_true_of_none.ensures.is ∙ c.if-is_true_of_none.false)
