use Rattle.std.proofs.Common.{sym, ◌∙◌, ◌+◌}
use Rattle.ja_facts.specs.Slots.{OnStack}
use Rattle.ja_work.proofs.Fitting.{some_any}
use Rattle.ja_explicit.specs.InnerWords as words
use Rattle.ja_explicit.proofs.words.some_stacked.Goals as goal

pub returns-then-stacked_is_true : goal.returns-then-stacked_is_true
returns-then-stacked_is_true c =
    sym
    (some_any (λ k. (words.says c.args.method.now c.args.word).slot (OnStack (c.args.under + k))) c.args.count c.loop-k.k c.loop-k-test.true
    (sym c.stacked_is_true.ensures ∙ c.if-stacked_is_true.true))
