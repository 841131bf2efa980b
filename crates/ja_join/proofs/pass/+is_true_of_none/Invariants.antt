use Rattle.std.proofs.Common.{◌-◌}
use Rattle.ja_join.proofs.pass.+is_true_of_none.Given as goal

abbrev pub decreases-is_true_of_none : goal.decreases-is_true_of_none
decreases-is_true_of_none g l = 4095 - l.from
