use Rattle.std.proofs.Common.{◌≡◌, ◌≤◌, length}
use Rattle.ja_class.specs.InnerReading.{code_from}
use Rattle.ja_class.specs.InnerViews.{entries}
use Rattle.ja_class.proofs.Exact.{IsBytes}
use Rattle.ja_class.proofs.CodeLaws.{after_front}
use Rattle.ja_class.proofs.first.code.code_of.Given as goal

abbrev pub invariant-loop-rest : goal.invariant-loop-rest
invariant-loop-rest l = record {
  fits : IsBytes l.rest;
  shorter : length l.rest ≤ length l.code;
  same : after_front l.instructions.items (code_from (entries l.pool) (length l.code) (length l.rest) l.rest) ≡ code_from (entries l.pool) (length l.code) (length l.code) l.code;
}

abbrev pub decreases-loop-rest : goal.decreases-loop-rest
decreases-loop-rest l = length l.rest
