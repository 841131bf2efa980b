use Rattle.std.proofs.Common.{◌≡◌, ℕ, ◌<◌, ◌≤◌, Some}
use Rattle.std.specs.Prelude.{slice_get}
use Rattle.ja_ir.specs.declared.method.Method.{Method}
use Rattle.ja_explicit.specs.Given.{value_count, most_values}
use Rattle.ja_explicit.proofs.plain.first_wide.Given as goal

abbrev pub invariant-loop-m : goal.invariant-loop-m
invariant-loop-m l = (n : ℕ) (other : Method) → n < l.m → slice_get l.p.methods n ≡ Some other → value_count other ≤ most_values
