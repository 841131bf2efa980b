use Rattle.std.proofs.Common.{◌+◌, ◌-◌}
use Rattle.ja_join.proofs.pass.+cleared_to.Given as goal

abbrev pub decreases-cleared_to : goal.decreases-cleared_to
decreases-cleared_to g l = l.var + 1 - l.from
