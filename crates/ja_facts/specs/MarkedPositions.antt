-- Entries that mark more positions, for the program of one category.
use Rattle.std.specs.Prelude.{◌≡◌, ℕ, List, Contains}
use Rattle.ja_ir.specs.declared.program.Parts.{Parts}
use Rattle.ja_ir.specs.declared.entry.Entry.{Entry}

-- an entry of the list is of the same class and method, and has at least the marked positions
pub record HasMarked (entries : List Entry) (entry : Entry) : Type 0 where
  pub other : Entry
  pub listed : Contains entries other
  pub class : other.class ≡ entry.class
  pub method : other.method ≡ entry.method
  pub marked : (k : ℕ) → Contains entry.marked k → Contains other.marked k

-- the new list has each entry of the old one, with at least its marked positions
abbrev pub MarkMorePositions : (old new : List Entry) → Type 0
MarkMorePositions old new = (entry : Entry) → Contains old entry → HasMarked new entry

-- the program with other entries
abbrev pub with_entries : Parts → List Entry → Parts
with_entries p entries = record p { entries = entries }
