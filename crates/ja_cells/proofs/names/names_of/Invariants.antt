use Rattle.std.proofs.Common.{◌≡◌, length}
use Rattle.ja_cells.specs.Names.{AreNamesBelow}
use Rattle.ja_cells.proofs.names.names_of.Given as goal

abbrev pub invariant-loop-m : goal.invariant-loop-m
invariant-loop-m l = record { size : length l.names ≡ l.m; names : AreNamesBelow l.p l.m l.names }
