use Rattle.std.proofs.Common.{◌≡◌}
use Rattle.ja_facts.specs.ClassTables.{token_count}
use Rattle.ja_network.specs.Facts.{IsNetwork}
use Rattle.ja_solving.specs.InnerWorking.{IsWorking}
use Rattle.ja_solving.proofs.solving.work.Given as goal

abbrev pub invariant-loop-step : goal.invariant-loop-step
invariant-loop-step l = record {
  network : IsNetwork l.net;
  size : l.net.tokens ≡ token_count l.p;
  working : IsWorking l.p l.names l.net;
}
