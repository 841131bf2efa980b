use Rattle.std.proofs.Common.{◌≡◌, ◌+◌, length}
use Rattle.ja_assembly.specs.Arguments.{words_from, argument_words}
use Rattle.ja_assembly.proofs.argument.argument_words.Given as goal

-- the words so far and those of the rest are all
abbrev pub invariant-loop-byte : goal.invariant-loop-byte
invariant-loop-byte l = l.words + words_from l.part l.rest ≡ argument_words l.desc

abbrev pub decreases-loop-byte : goal.decreases-loop-byte
decreases-loop-byte l = length l.rest
