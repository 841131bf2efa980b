use Rattle.ja_machine.specs.Run.{start}
use Rattle.ja_machine.proofs.Later.{later-size, later-objects}
use Rattle.ja_machine.proofs.Longer.{run-later}
use Rattle.ja_machine.proofs.law.law_heaps_grow.Goals as goal

pub returns : goal.returns
returns c = record {
  size = λ p m args world n. later-size world.store _ (run-later n p (start p m args world) world n);
  objects = λ p m args world n place new e. later-objects world.store _ place new (run-later n p (start p m args world) world n) e;
}
