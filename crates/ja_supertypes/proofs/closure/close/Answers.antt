use Rattle.std.proofs.Common.{◌≡◌, ℕ, ◌<◌, [], length, ◌∙◌, subst, arith}
use Rattle.std.proofs.lemmas.List.{get_or_default}
use Rattle.ja_supertypes.proofs.Ways.{Shows, shows-none, shows-next, shows-all}
use Rattle.ja_supertypes.proofs.closure.close.Goals as goal

pub loop-middle-init : goal.loop-middle-init
loop-middle-init c = shows-none c.args.heads.now c.args.rows.now c.requires.direct

pub loop-middle-preserved : goal.loop-middle-preserved
loop-middle-preserved c =
    let lt : c.loop-middle.middle < length c.args.heads.now = omega arith in
    let below : c.loop-middle.middle < length c.loop-middle.rows = omega (arith, c.loop-middle.invariant.size) in
    let size : length c.join_through.new.rows ≡ length c.loop-middle.rows = omega arith in
    shows-next c.args.heads.now c.loop-middle.middle c.loop-middle.rows c.join_through.new.rows c.in_ok-through.through lt c.loop-middle.invariant (c.in_ok-through.ensures ∙ get_or_default c.loop-middle.rows c.loop-middle.middle c.index-rows-middle.result [] below) size c.join_through.ensures

pub returns : goal.returns
returns c =
    let end : c.loop-middle.middle ≡ length c.args.heads.now = omega arith in
    shows-all c.args.heads.now c.loop-middle.rows (subst (λ (n : ℕ). Shows c.args.heads.now n c.loop-middle.rows) end c.loop-middle.invariant)
