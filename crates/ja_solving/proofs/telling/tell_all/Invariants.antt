use Rattle.std.proofs.Common.{◌≡◌, take}
use Rattle.ja_facts.specs.ClassTables.{token_count}
use Rattle.ja_network.specs.Facts.{IsNetwork, Extends}
use Rattle.ja_solving.specs.Rules.{OneSays}
use Rattle.ja_solving.proofs.telling.tell_all.Given as goal

abbrev pub invariant-loop-constraint : goal.invariant-loop-constraint
invariant-loop-constraint l = record {
  network : IsNetwork l.net;
  size : l.net.tokens ≡ token_count l.p;
  extends : Extends l.fn.net l.net (OneSays l.p (take l.constraint-index l.told));
}
