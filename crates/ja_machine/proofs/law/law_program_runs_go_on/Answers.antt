use Rattle.ja_machine.proofs.Actions.{program-goes-on}
use Rattle.ja_machine.proofs.law.law_program_runs_go_on.Goals as goal

pub returns : goal.returns
returns c p actions more = program-goes-on p actions more
