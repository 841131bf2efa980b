use Rattle.std.proofs.Common.{◌≢◌, length, sym, arith}
use Rattle.ja_kinds.proofs.Stacks.{unlike}
use Rattle.ja_kinds.proofs.stack.same_kinds.Goals as goal

pub returns-then-kinds-others : goal.returns-then-kinds-others
returns-then-kinds-others c =
    let differ : length c.args.kinds.now ≢ length c.args.others.now = omega arith in
    sym (unlike c.args.kinds.now c.args.others.now differ)
