use Rattle.std.proofs.Common.{length}
use Rattle.ja_explicit.proofs.stepping.+passes.Given as goal

abbrev pub decreases-passes : goal.decreases-passes
decreases-passes l = length l.chances.now
