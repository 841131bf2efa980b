use Rattle.std.proofs.Common.{◌+◌, ◌*◌, ◌-◌}
use Rattle.ja_join.proofs.seek.+seek.Given as goal

abbrev pub decreases-seek_from : goal.decreases-seek_from
decreases-seek_from g l = 2 * (4096 - l.from) + 1

abbrev pub decreases-seek_parts : goal.decreases-seek_parts
decreases-seek_parts g l = 2 * (4096 - l.cut.var)
