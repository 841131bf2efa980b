use Rattle.std.proofs.Common.{◌≡◌, inl, inr, ℕ, ◌+◌, ◌≤◌, [], Some, length, get_or, refl, subst, arith}
use Rattle.std.specs.Prelude.{slice_get}
use Rattle.ja_moves.specs.declared.steps.Move.{Move}
use Rattle.ja_moves.specs.Carrying.{IsMove, Meets}
use Rattle.ja_moves.proofs.Growth.{grows-as, grows-both}
use Rattle.ja_moves.proofs.Carried.{IsMoveBelow, move-all, move-more, step-at}
use Rattle.ja_moves.proofs.steps.carry_moved.Goals as goal

pub loop-k-preserved : goal.loop-k-preserved
loop-k-preserved c =
    let n = c.args.count in
    let l = c.loop-k in
    let row = get_or c.args.kept.now 0 [] in
    let step : Move = get_or c.args.moves.now c.loop-k.k (record { from = 0; to = 0 }) in
    let at : slice_get c.args.moves.now l.k ≡ Some step = step-at c.args.moves.now l.k step (record { from = 0; to = 0 }) (omega arith) refl in
    grows-both n n c.args.after.now l.after c.carry_row-changed.new.after l.changed c.carry_row-changed.result
    (λ x y. (a : ℕ) × IsMoveBelow c.args.moves.now l.k a x × Meets row c.args.moves.now c.args.whole.now a y) (λ x y. (x ≡ step.to) × Meets row c.args.moves.now c.args.whole.now step.from y)
    (λ x y. (a : ℕ) × IsMoveBelow c.args.moves.now (l.k + 1) a x × Meets row c.args.moves.now c.args.whole.now a y) l.invariant c.carry_row-changed.ensures
    (λ x y. (
      λ h. elim ((move-more c.args.moves.now l.k h.0 x step at).0 h.1) [
        | inl before ↦ inl (h.0, before, h.2)
        | inr e ↦ inr (e.1, subst (λ a. Meets row c.args.moves.now c.args.whole.now a y) e.0 h.2)
      ],
      λ h. elim h [
        | inl before ↦ (before.0, (move-more c.args.moves.now l.k before.0 x step at).1 (inl before.1), before.2)
        | inr e ↦ (step.from, (move-more c.args.moves.now l.k step.from x step at).1 (inr (refl, e.0)), e.1)
      ],
    ))

pub returns : goal.returns
returns c =
    let row = get_or c.args.kept.now 0 [] in
    let past : length c.args.moves.now ≤ c.loop-k.k = omega arith in
    grows-as c.args.count c.args.count c.args.after.now c.loop-k.after c.loop-k.changed (λ x y. (a : ℕ) × IsMoveBelow c.args.moves.now c.loop-k.k a x × Meets row c.args.moves.now c.args.whole.now a y) (λ x y. (a : ℕ) × IsMove c.args.moves.now a x × Meets row c.args.moves.now c.args.whole.now a y) c.loop-k.invariant
    (λ x y. (
      λ h. (h.0, (move-all c.args.moves.now c.loop-k.k h.0 x past).0 h.1, h.2),
      λ h. (h.0, (move-all c.args.moves.now c.loop-k.k h.0 x past).1 h.1, h.2),
    ))
