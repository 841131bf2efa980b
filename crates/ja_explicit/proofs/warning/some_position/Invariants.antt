use Rattle.std.proofs.Common.{◌≡◌, drop}
use Rattle.ja_explicit.specs.InnerRounds as rounds
use Rattle.ja_explicit.specs.InnerWords.{says}
use Rattle.ja_explicit.proofs.warning.some_position.Given as goal

abbrev pub invariant-loop-k : goal.invariant-loop-k
invariant-loop-k l =
    rounds.some_position (says l.method l.word) l.under (drop l.k-index l.positions) ≡ rounds.some_position (says l.method l.word) l.under l.positions
