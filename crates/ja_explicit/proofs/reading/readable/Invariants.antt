use Rattle.std.proofs.Common.{◌≡◌, ◌++◌, drop}
use Rattle.ja_explicit.specs.InnerSteps as steps
use Rattle.ja_explicit.specs.Tables.{items_of}
use Rattle.ja_explicit.proofs.reading.readable.Given as goal

abbrev pub invariant-loop-word : goal.invariant-loop-word
invariant-loop-word l =
    l.list ++ steps.passing (steps.is_readable (steps.read_field l.op) l.p l.facts (items_of l.table) l.method (steps.read_slot l.op l.height)) (drop l.word-index l.words)
    ≡ steps.passing (steps.is_readable (steps.read_field l.op) l.p l.facts (items_of l.table) l.method (steps.read_slot l.op l.height)) l.words
