use Rattle.std.proofs.Common.{◌≡◌, drop}
use Rattle.std.specs.List.{list_all}
use Rattle.ja_class.specs.InnerReading.{is_allowed}
use Rattle.ja_class.specs.InnerViews.{entries}
use Rattle.ja_class.proofs.first.names.allows_all.Given as goal

abbrev pub invariant-loop-constant : goal.invariant-loop-constant
invariant-loop-constant l = list_all (is_allowed (entries l.pool)) (entries (drop l.constant-index l.pool)) ≡ list_all (is_allowed (entries l.pool)) (entries l.pool)
