use Rattle.std.specs.Prelude.{◌≡◌, length}
use Rattle.ja_blocks.specs.Index.{IsIndex}
use Rattle.ja_blocks.specs.Readers.{BlockReadsEnd, BlockGets, BlockBegins}
use Rattle.ja_blocks.specs.Inner.{UpTo}
use Rattle.ja_blocks.proofs.readers.readers_of.Given as goal

abbrev pub invariant-loop-block : goal.invariant-loop-block
invariant-loop-block l =
    (l.number ≡ l.block-index)
    × IsIndex (length l.p.methods) l.readers.begins.items (UpTo l.number (BlockBegins l.blocks))
    × IsIndex (length l.p.methods) l.readers.ends.items (UpTo l.number (BlockReadsEnd l.p l.graph l.blocks))
    × IsIndex (length l.p.fields) l.readers.fields.items (UpTo l.number (BlockGets l.p l.blocks))
