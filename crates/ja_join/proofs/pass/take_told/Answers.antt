use Rattle.std.proofs.Common.{subst}
use Rattle.ja_join.specs.Ascending.{IsToldFrom}
use Rattle.ja_join.proofs.pass.take_told.Goals as goal

pub cleared_to-cut-requires-clause-var : goal.cleared_to-cut-requires-clause-var
cleared_to-cut-requires-clause-var g c κs within = (subst (IsToldFrom 0) c.in-Some.is c.requires.told).1
