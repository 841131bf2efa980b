use Rattle.std.proofs.Common.{[], replicate, arith, ap, ◌∙◌}
use Rattle.ja_blocks.proofs.More.{index_none}
use Rattle.ja_blocks.proofs.readers.empty_lists.Goals as goal

pub returns : goal.returns
returns c = index_none c.loop-key.lists.items c.args.count (c.loop-key.invariant ∙ ap (λ n. replicate n []) (let past = c.loop-key-test.false in let upto = c.loop-key.auto._key-end in omega arith))
