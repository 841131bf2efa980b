-- Slots and summaries as contracts see them.
use Rattle.ja_facts.specs.Slots as facts
use Rattle.ja_facts.specs.Formulas as formulas
use Rattle.ja_clauses.specs.declared.slot.Slot.{Slot}
use Rattle.ja_clauses.specs.declared.slot.Slot.TheVariants.{Local, OnStack}
use Rattle.ja_clauses.specs.declared.summary.Summary.{Summary}

-- the slot of a frame
abbrev pub as_slot : Slot → facts.Slot
as_slot (Local l) = facts.Local l
as_slot (OnStack k) = facts.OnStack k

-- what is told of the end of a method
abbrev pub as_summary : Summary → formulas.Summary
as_summary s = record { result = s.result; dirt = s.dirt; exc = s.exc }
