use Rattle.std.proofs.Common.{◌≡◌, take}
use Rattle.ja_facts.specs.Shared.{method_names}
use Rattle.ja_facts.proofs.pairs.method_names.Given as goal

abbrev pub invariant-loop-m : goal.invariant-loop-m
invariant-loop-m l = l.names ≡ method_names 0 (take l.m l.methods)
