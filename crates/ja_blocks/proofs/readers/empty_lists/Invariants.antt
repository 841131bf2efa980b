use Rattle.std.specs.Prelude.{◌≡◌, replicate, []}
use Rattle.ja_blocks.proofs.readers.empty_lists.Given as goal

abbrev pub invariant-loop-key : goal.invariant-loop-key
invariant-loop-key l = l.lists.items ≡ replicate l._key []
