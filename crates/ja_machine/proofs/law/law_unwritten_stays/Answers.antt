use Rattle.ja_machine.specs.Run.{start}
use Rattle.ja_machine.proofs.Later.{later-unwritten, later-unset}
use Rattle.ja_machine.proofs.Longer.{run-later}
use Rattle.ja_machine.proofs.law.law_unwritten_stays.Goals as goal

pub returns : goal.returns
returns c = record {
  objects = λ p m args world n place object out e. later-unwritten world.store _ place object (run-later n p (start p m args world) world n) out e;
  statics = λ p m args world n field out. later-unset world.store _ field (run-later n p (start p m args world) world n) out;
}
