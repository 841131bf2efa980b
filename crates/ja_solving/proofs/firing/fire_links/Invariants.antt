use Rattle.std.proofs.Common.{◌≡◌, take}
use Rattle.std.specs.Prelude.{Contains}
use Rattle.ja_sets.specs.Sets.{Has}
use Rattle.ja_facts.specs.ClassTables.{token_count}
use Rattle.ja_network.specs.Facts.{IsNetwork, Extends, state_of}
use Rattle.ja_solving.specs.InnerWorking.{FiresEach}
use Rattle.ja_solving.proofs.firing.fire_links.Given as goal

abbrev pub invariant-loop-k : goal.invariant-loop-k
invariant-loop-k l = record {
  network : IsNetwork l.net;
  size : l.net.tokens ≡ token_count l.p;
  extends : Extends l.fn.net l.net (FiresEach l.p l.names (Has l.set) (Contains (take l.k (state_of l.fn.net l.cell).links)));
}
