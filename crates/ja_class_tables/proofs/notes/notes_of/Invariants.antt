use Rattle.std.proofs.Common.{take}
use Rattle.ja_network.specs.Facts.{events_of}
use Rattle.ja_class_tables.specs.InnerNotes.{IsNoted}
use Rattle.ja_class_tables.proofs.notes.notes_of.Given as goal

abbrev pub invariant-loop-k : goal.invariant-loop-k
invariant-loop-k l = IsNoted l.p (take l.k (events_of l.net)) l.notes
