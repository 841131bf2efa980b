use Rattle.ja_machine.proofs.Longer.{call_run-extends}
use Rattle.ja_machine.proofs.law.law_longer_runs_extend.Goals as goal

pub returns : goal.returns
returns c p m args world n k = call_run-extends p m args world n k
