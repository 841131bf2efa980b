use Rattle.std.proofs.Common.{◌≡◌, suc, ◌+◌, ◌*◌, refl, sym, ap, ◌∙◌, subst, arith}
use Rattle.ja_join.specs.declared.rule.Rule.{Rule}
use Rattle.ja_steps.specs.declared.parts.Part.{Part}
use Rattle.ja_steps.specs.Inner.{IsMoveOf, IsKept, AreMoves, none, moved, kept, parts_of}
use Rattle.ja_steps.proofs.Moving.{part_place, part_read, moves_before, may_follow}
use Rattle.ja_steps.proofs.make.rule_by.Goals as goal
use Rattle.ja_steps.proofs.make.rule_by.Goals.{then-not-is_kept+in_ok-push, else-not-is_kept}

pub loop-place-init : goal.loop-place-init
loop-place-init c = record { moves = subst (AreMoves c.args.sources.now c.args.cases (parts_of c.args.frame.now c.args.range c.args.clauses.now) 0) (sym c.new-rule.ensures.moves) none; start = refl; accepted = refl }

pub push-requires : goal.push-requires
push-requires c =
    let n = c.loop-place.place in
    let parts = parts_of c.args.frame.now c.args.range c.args.clauses.now in
    let lt = c.loop-place-test.true in
    let placed = part_place c.args.frame.now c.args.range c.args.clauses.now in
    let at = c.move_of.ensures.variable ∙ ap (λ (p : Part). 4 * p.place + 1) c.part_of-part.ensures in
    may_follow n c.loop-place.rule.moves.items c.move_of.result (moves_before c.args.sources.now c.args.cases parts placed n c.loop-place.rule.moves.items c.loop-place.invariant.moves)
    at (omega (arith, at, lt, c.size-place-end.ensures.small)) c.move_of.ensures.told

pub loop-place-preserved : goal.loop-place-preserved
loop-place-preserved c =
    let n = c.loop-place.place in
    let list = c.args.clauses.now in
    let parts = parts_of c.args.frame.now c.args.range list in
    let lt = c.loop-place-test.true in
    let read = c.part_of-part.ensures ∙ part_read c.args.frame.now c.args.range list n _ (let count = c.requires.counted in let size = c.size-place-end.ensures.size in omega (arith, lt, count, size)) in
    let next : suc n ≡ n + 1 = omega arith in
    let held = c.loop-place.invariant in
    elim c.if-not-is_kept.branch [
      | then-not-is_kept+in_ok-push w ↦
          let ok = w.in_ok-push.ensures in
          let is = subst (λ (p : Part). IsMoveOf c.args.sources.now c.args.cases p w.move_of.result) read w.move_of.ensures in
          let more = moved w.move_of.result held.moves is in
          record {
            moves = subst (λ (r : Rule). AreMoves c.args.sources.now c.args.cases parts (n + 1) r.moves.items) (sym w.rule-is)
                (subst (λ k. AreMoves c.args.sources.now c.args.cases parts k w.push.new.self.moves.items) next (subst (AreMoves c.args.sources.now c.args.cases parts (suc n)) (sym ok.moves) more));
            start = ap (λ (r : Rule). r.start) w.rule-is ∙ ok.frame.0 ∙ held.start;
            accepted = ap (λ (r : Rule). r.accepted) w.rule-is ∙ ok.frame.1 ∙ held.accepted;
          }
      | else-not-is_kept w ↦
          let is = subst (λ (p : Part). IsKept c.args.sources.now p) read (w.if-not-is_kept.ensures refl) in
          record {
            moves = subst (λ (r : Rule). AreMoves c.args.sources.now c.args.cases parts (n + 1) r.moves.items) (sym w.rule-is) (subst (λ k. AreMoves c.args.sources.now c.args.cases parts k c.loop-place.rule.moves.items) next (kept held.moves is));
            start = ap (λ (r : Rule). r.start) w.rule-is ∙ held.start;
            accepted = ap (λ (r : Rule). r.accepted) w.rule-is ∙ held.accepted;
          }
    ]
