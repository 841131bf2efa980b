use Rattle.std.proofs.Common.{◌≡◌, ◌++◌, drop}
use Rattle.ja_explicit.specs.InnerStarts as starts
use Rattle.ja_explicit.proofs.environment.add_contexts.Given as goal

abbrev pub invariant-loop-word : goal.invariant-loop-word
invariant-loop-word l =
    l.out ++ starts.contexts l.m (drop l.word-index l.words)
    ≡ l.fn.out ++ starts.contexts l.m l.words
