use Rattle.std.proofs.Common.{◌≡◌, inl, inr, ◌+◌, ◌≤◌, [], Some, length, get_or, refl, arith}
use Rattle.std.specs.Prelude.{slice_get}
use Rattle.ja_sets.specs.Sets.{Has, HasPair}
use Rattle.ja_moves.specs.declared.steps.Move.{Move}
use Rattle.ja_moves.specs.Carrying.{Meets}
use Rattle.ja_moves.proofs.Growth.{grows-kept, grows-as, grows-both}
use Rattle.ja_moves.proofs.Carried.{MeetsBelow, step-at, meets-none, meets-more, meets-all}
use Rattle.ja_moves.proofs.steps.carry_row.Goals as goal

pub loop-k-init : goal.loop-k-init
loop-k-init c =
    let n = c.args.count in
    let row = get_or c.args.kept.now 0 [] in
    grows-as n n c.args.after.now c.join_kept-changed.new.self c.join_kept-changed.result (λ x y. (x ≡ c.args.to) × HasPair c.args.whole.now c.args.from y × Has row y) (λ x y. (x ≡ c.args.to) × MeetsBelow row c.args.moves.now 0 c.args.whole.now c.args.from y)
    (grows-kept n n c.args.after.now c.join_kept-changed.new.self c.args.to (get_or c.args.whole.now c.args.from []) row c.join_kept-changed.result c.requires.after c.join_kept-changed.ensures.gains c.join_kept-changed.ensures.shape c.join_kept-changed.ensures.changed.0 c.join_kept-changed.ensures.unchanged)
    (λ x y. (
      λ h. (h.0, (meets-none row c.args.moves.now c.args.whole.now c.args.from y).0 (h.1, h.2)),
      λ h. let m = (meets-none row c.args.moves.now c.args.whole.now c.args.from y).1 h.1 in (h.0, m.0, m.1),
    ))

pub loop-k-preserved : goal.loop-k-preserved
loop-k-preserved c =
    let n = c.args.count in
    let l = c.loop-k in
    let row = get_or c.args.kept.now 0 [] in
    let step : Move = get_or c.args.moves.now c.loop-k.k (record { from = 0; to = 0 }) in
    let at : slice_get c.args.moves.now l.k ≡ Some step = step-at c.args.moves.now l.k step (record { from = 0; to = 0 }) (omega arith) refl in
    grows-both n n c.args.after.now l.after c.carry_move-changed.new.after l.changed c.carry_move-changed.result
    (λ x y. (x ≡ c.args.to) × MeetsBelow row c.args.moves.now l.k c.args.whole.now c.args.from y) (λ x y. (x ≡ c.args.to) × (y ≡ step.to) × HasPair c.args.whole.now c.args.from step.from)
    (λ x y. (x ≡ c.args.to) × MeetsBelow row c.args.moves.now (l.k + 1) c.args.whole.now c.args.from y) l.invariant c.carry_move-changed.ensures
    (λ x y. (
      λ h. elim ((meets-more row c.args.moves.now c.args.whole.now l.k c.args.from y step at).0 h.1) [ inl before ↦ inl (h.0, before) | inr e ↦ inr (h.0, e.0, e.1) ],
      λ h. elim h [
        | inl before ↦ (before.0, (meets-more row c.args.moves.now c.args.whole.now l.k c.args.from y step at).1 (inl before.1))
        | inr e ↦ (e.0, (meets-more row c.args.moves.now c.args.whole.now l.k c.args.from y step at).1 (inr (e.1, e.2)))
      ],
    ))

pub returns : goal.returns
returns c =
    let row = get_or c.args.kept.now 0 [] in
    let past : length c.args.moves.now ≤ c.loop-k.k = omega arith in
    grows-as c.args.count c.args.count c.args.after.now c.loop-k.after c.loop-k.changed (λ x y. (x ≡ c.args.to) × MeetsBelow row c.args.moves.now c.loop-k.k c.args.whole.now c.args.from y) (λ x y. (x ≡ c.args.to) × Meets row c.args.moves.now c.args.whole.now c.args.from y) c.loop-k.invariant
    (λ x y. (
      λ h. (h.0, (meets-all row c.args.moves.now c.args.whole.now c.loop-k.k c.args.from y past).0 h.1),
      λ h. (h.0, (meets-all row c.args.moves.now c.args.whole.now c.loop-k.k c.args.from y past).1 h.1),
    ))
