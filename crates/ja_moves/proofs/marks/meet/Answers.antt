use Rattle.std.proofs.Common.{◌≡◌, ◌⊎◌, inl, inr, ◌+◌, ◌≤◌, ◌||◌, Some, length, get_or, refl, arith}
use Rattle.std.specs.Prelude.{slice_get}
use Rattle.ja_moves.specs.declared.steps.Move.{Move}
use Rattle.ja_moves.specs.Carrying.{IsMove}
use Rattle.ja_moves.proofs.Growth.{grows-as, grows-both}
use Rattle.ja_moves.proofs.Carried.{IsMoveBelow, move-all, move-more, step-at}
use Rattle.ja_moves.proofs.marks.meet.Goals as goal

pub loop-k-preserved : goal.loop-k-preserved
loop-k-preserved c =
    let n = c.args.count in
    let l = c.loop-k in
    let pair : Move = get_or c.args.fresh.now c.loop-k.k (record { from = 0; to = 0 }) in
    let at : slice_get c.args.fresh.now l.k ≡ Some pair = step-at c.args.fresh.now l.k pair (record { from = 0; to = 0 }) (omega arith) refl in
    let first = grows-both n n c.args.after.now l.after c.mark-changed.new.table l.changed c.mark-changed.result
    (λ x y. IsMoveBelow c.args.fresh.now l.k x y ⊎ IsMoveBelow c.args.fresh.now l.k y x) (λ x y. (x ≡ pair.from) × (y ≡ pair.to))
    (λ x y. (IsMoveBelow c.args.fresh.now l.k x y ⊎ IsMoveBelow c.args.fresh.now l.k y x) ⊎ ((x ≡ pair.from) × (y ≡ pair.to)))
    l.invariant c.mark-changed.ensures (λ x y. (λ h. h, λ h. h)) in
    grows-both n n c.args.after.now c.mark-changed.new.table c.mark-changed-in-loop-k.new.table (l.changed || c.mark-changed.result) c.mark-changed-in-loop-k.result
    (λ x y. (IsMoveBelow c.args.fresh.now l.k x y ⊎ IsMoveBelow c.args.fresh.now l.k y x) ⊎ ((x ≡ pair.from) × (y ≡ pair.to))) (λ x y. (x ≡ pair.to) × (y ≡ pair.from))
    (λ x y. IsMoveBelow c.args.fresh.now (l.k + 1) x y ⊎ IsMoveBelow c.args.fresh.now (l.k + 1) y x) first c.mark-changed-in-loop-k.ensures
    (λ x y. (
      λ h. elim h [
        | inl m ↦ elim ((move-more c.args.fresh.now l.k x y pair at).0 m) [ inl before ↦ inl (inl (inl before)) | inr e ↦ inl (inr e) ]
        | inr m ↦ elim ((move-more c.args.fresh.now l.k y x pair at).0 m) [ inl before ↦ inl (inl (inr before)) | inr e ↦ inr (e.1, e.0) ]
      ],
      λ h. elim h [
        | inl one ↦ elim one [
          | inl either ↦ elim either [ inl m ↦ inl ((move-more c.args.fresh.now l.k x y pair at).1 (inl m)) | inr m ↦ inr ((move-more c.args.fresh.now l.k y x pair at).1 (inl m)) ]
          | inr e ↦ inl ((move-more c.args.fresh.now l.k x y pair at).1 (inr e))
        ]
        | inr e ↦ inr ((move-more c.args.fresh.now l.k y x pair at).1 (inr (e.1, e.0)))
      ],
    ))

pub returns : goal.returns
returns c =
    let past : length c.args.fresh.now ≤ c.loop-k.k = omega arith in
    grows-as c.args.count c.args.count c.args.after.now c.loop-k.after c.loop-k.changed (λ x y. IsMoveBelow c.args.fresh.now c.loop-k.k x y ⊎ IsMoveBelow c.args.fresh.now c.loop-k.k y x) (λ x y. IsMove c.args.fresh.now x y ⊎ IsMove c.args.fresh.now y x) c.loop-k.invariant
    (λ x y. (
      λ h. elim h [ inl m ↦ inl ((move-all c.args.fresh.now c.loop-k.k x y past).0 m) | inr m ↦ inr ((move-all c.args.fresh.now c.loop-k.k y x past).0 m) ],
      λ h. elim h [ inl m ↦ inl ((move-all c.args.fresh.now c.loop-k.k x y past).1 m) | inr m ↦ inr ((move-all c.args.fresh.now c.loop-k.k y x past).1 m) ],
    ))
