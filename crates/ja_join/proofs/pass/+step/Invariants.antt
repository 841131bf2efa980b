use Rattle.std.proofs.Common.{◌+◌, ◌*◌, ◌-◌}
use Rattle.ja_join.proofs.pass.+step.Given as goal

abbrev pub decreases-step_from : goal.decreases-step_from
decreases-step_from g l = 4 * (4096 - l.from) + 3

abbrev pub decreases-step_cut : goal.decreases-step_cut
decreases-step_cut g l = 4 * (4096 - l.cut.var) + 2

abbrev pub decreases-step_kept : goal.decreases-step_kept
decreases-step_kept g l = 4 * (4096 - l.cut.var) + 1

abbrev pub decreases-step_moved : goal.decreases-step_moved
decreases-step_moved g l = 4 * (4096 - l.step.variable) + 1

abbrev pub decreases-step_to : goal.decreases-step_to
decreases-step_to g l = 4 * (4096 - l.step.variable)
