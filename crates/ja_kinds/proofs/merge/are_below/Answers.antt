use Rattle.std.proofs.Common.{◌≢◌, length, sym, arith}
use Rattle.ja_kinds.proofs.Stacks.{not_below}
use Rattle.ja_kinds.proofs.merge.are_below.Goals as goal

pub returns-then-kinds-others : goal.returns-then-kinds-others
returns-then-kinds-others c =
    let differ : length c.args.kinds.now ≢ length c.args.others.now = omega arith in
    sym (not_below c.args.kinds.now c.args.others.now differ)
