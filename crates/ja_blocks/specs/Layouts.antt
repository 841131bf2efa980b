-- What a layout is.
use Rattle.std.specs.Prelude.{length}
use Rattle.ja_ir.specs.declared.program.Parts.{Parts}
use Rattle.ja_facts.specs.FactTables.{GraphTable, HeldTable, cell_count}
use Rattle.ja_blocks.specs.declared.layout.Layout.{Layout}
use Rattle.ja_blocks.specs.Blocks.{AreProgramBlocks}
use Rattle.ja_blocks.specs.Index.{IsIndex}
use Rattle.ja_blocks.specs.Readers.{BlockReadsEnd, BlockGets, BlockBegins, MayHold}

-- the blocks of the program; for each method the blocks that begin it, and those that go by how it ends; for each field those that read it; and for each field or bag the
-- fields that may hold what was stored there
pub record IsLayout (p : Parts) (graph : GraphTable) (held : HeldTable) (layout : Layout) : Type 0 where
  pub blocks : AreProgramBlocks p layout.blocks
  pub beginners : IsIndex (length p.methods) layout.beginners (BlockBegins layout.blocks)
  pub callers : IsIndex (length p.methods) layout.callers (BlockReadsEnd p graph layout.blocks)
  pub readers : IsIndex (length p.fields) layout.readers (BlockGets p layout.blocks)
  pub holders : IsIndex (cell_count p) layout.holders (MayHold held (length p.fields))
