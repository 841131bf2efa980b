use Rattle.ja_facts.specs.FactTables.{cell_count}
use Rattle.ja_blocks.specs.Index.{IsIndex}
use Rattle.ja_blocks.specs.Readers.{MayHold}
use Rattle.ja_blocks.proofs.holders.holders_of.Given as goal

abbrev pub invariant-loop-field : goal.invariant-loop-field
invariant-loop-field l = IsIndex (cell_count l.p) l.lists.items (MayHold l.holds l.field)
