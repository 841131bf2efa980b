use Rattle.std.proofs.Common.{◌≡◌, false}
use Rattle.ja_facts.specs.Formulas as formulas
use Rattle.ja_explicit.specs.InnerWords as words
use Rattle.ja_explicit.proofs.words.some_stacked.Given as goal

abbrev pub invariant-loop-k : goal.invariant-loop-k
invariant-loop-k l =
    formulas.any_stacked (words.says l.method l.word) l.under l.k ≡ false
