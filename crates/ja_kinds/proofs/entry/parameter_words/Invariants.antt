use Rattle.std.proofs.Common.{◌≡◌, take}
use Rattle.ja_kinds.specs.Frame.{parameter_words}
use Rattle.ja_kinds.proofs.entry.parameter_words.Given as goal

-- the words of the parameters so far
abbrev pub invariant-loop-kind : goal.invariant-loop-kind
invariant-loop-kind l = l.words.items ≡ parameter_words (take l.kind-index l.parameters)
