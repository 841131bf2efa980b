use Rattle.std.proofs.Common.{◌≡◌, ◌-◌}
use Rattle.ja_class.specs.InnerViews.{entries}
use Rattle.ja_class.specs.InnerReading.{entries_from}
use Rattle.ja_class.proofs.EntryLoop.{after_front}
use Rattle.ja_class.proofs.first.pool.constants_of.Given as goal

abbrev pub invariant-loop : goal.invariant-loop
invariant-loop l = after_front (entries l.constants.items) (entries_from (l.count - l.counter) l.rest) ≡ entries_from l.count l.bytes
