use Rattle.ja_machine.specs.Run.{start}
use Rattle.ja_machine.proofs.Longer.{run-later}
use Rattle.ja_machine.proofs.law.law_runs_go_on.Goals as goal

pub returns : goal.returns
returns c p m args world n = run-later n p (start p m args world) world n
