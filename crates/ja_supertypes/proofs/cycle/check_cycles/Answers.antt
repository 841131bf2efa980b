use Rattle.std.proofs.Common.{◌<◌, length, arith}
use Rattle.ja_supertypes.proofs.Ways.{supertype-inside}
use Rattle.ja_supertypes.proofs.cycle.check_cycles.Goals as goal

pub returns-clause-ok : goal.returns-clause-ok
returns-clause-ok c class cyclic =
    let inside : class < length c.args.heads.now = supertype-inside c.args.heads.now class class cyclic in
    c.loop-class.invariant class (omega arith) cyclic
