use Rattle.std.proofs.Common.{ℕ, [], get_or}
use Rattle.ja_sets.specs.Sets.{Has}
use Rattle.ja_moves.specs.Carrying.{IsMove, Meets, IsCarried}
use Rattle.ja_moves.proofs.Growth.{grows-both}
use Rattle.ja_moves.proofs.Carried.{carried}
use Rattle.ja_moves.proofs.steps.carry.Goals as goal

pub returns : goal.returns
returns c =
    let n = c.args.count in
    let row = get_or c.args.kept.now 0 [] in
    grows-both n n c.args.after.now c.carry_kept-changed.new.after c.carry_moved-changed.new.after c.carry_kept-changed.result c.carry_moved-changed.result
    (λ x y. Has row x × Meets row c.args.moves.now c.args.whole.now x y) (λ x y. (a : ℕ) × IsMove c.args.moves.now a x × Meets row c.args.moves.now c.args.whole.now a y) (IsCarried row c.args.moves.now c.args.whole.now)
    c.carry_kept-changed.ensures c.carry_moved-changed.ensures (carried row c.args.moves.now c.args.whole.now)
