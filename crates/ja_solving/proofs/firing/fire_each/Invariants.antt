use Rattle.std.proofs.Common.{◌≡◌, ◌-◌, ◌≤◌, length}
use Rattle.ja_facts.specs.ClassTables.{token_count}
use Rattle.ja_network.specs.Facts.{IsNetwork, Extends}
use Rattle.ja_solving.specs.InnerWorking.{FiresAll}
use Rattle.ja_solving.proofs.More.{Below}
use Rattle.ja_solving.proofs.firing.fire_each.Given as goal

abbrev pub invariant-tokens : goal.invariant-tokens
invariant-tokens l = record {
  network : IsNetwork l.net;
  size : l.net.tokens ≡ token_count l.p;
  within : l.from ≤ length l.set;
  extends : Extends l.fn.net l.net (FiresAll l.p l.names (Below l.p l.names l.set l.action l.from) l.action);
}

abbrev pub decreases-tokens : goal.decreases-tokens
decreases-tokens l = length l.set - l.from
