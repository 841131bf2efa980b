use Rattle.std.proofs.Common.{◌≡◌, ◌++◌, ◌-◌}
use Rattle.ja_explicit.specs.InnerWords as words
use Rattle.ja_explicit.specs.InnerRules.{clauses_of}
use Rattle.ja_explicit.proofs.stepping.next_words.Given as goal

abbrev pub invariant-loop-next : goal.invariant-loop-next
invariant-loop-next l =
    l.list ++ words.over (words.word_if (words.chances l.to (clauses_of l.rule) (words.says l.from l.word))) l.next (l.count - l.next) ≡ words.next_words l.to (clauses_of l.rule) (words.says l.from l.word)
