use Rattle.std.proofs.Common.{◌≡◌, drop}
use Rattle.std.specs.List.{position_from}
use Rattle.ja_ir.specs.Entries as entries
use Rattle.ja_explicit.proofs.environment.constructor_of.Given as goal

abbrev pub invariant-loop-m : goal.invariant-loop-m
invariant-loop-m l =
    position_from (entries.is_constructor l.class) l.m (drop l.m l.method-items) ≡ entries.constructor_of l.p l.class
