-- What tables of facts say before an instruction, as tests.
use Rattle.std.specs.Prelude.{ℕ, ◌+◌, ◌||◌, ◌&&◌, nat_lt, Bool, true, false, List, [], ◌∷◌, Option, Some, None, slice_get, slice_index_or, if◌then◌else◌}
use Rattle.std.specs.List.{list_any}
use Rattle.ja_ir.specs.declared.program.Parts.{Parts}
use Rattle.ja_ir.specs.declared.method.Method.{Method}
use Rattle.ja_ir.specs.declared.method.Instr.{Instr}
use Rattle.ja_ir.specs.Params.{param_count}
use Rattle.ja_facts.specs.declared.facts.Facts.{Facts}
use Rattle.ja_facts.specs.Slots.{Slot, Local, OnStack, argument}
use Rattle.ja_facts.specs.FactTables.{targets_at, slot_count, has_effect}
use Rattle.ja_facts.specs.Told.{TellsClass, TellsHeld, TellsHeap, TellsReach}
use Rattle.ja_facts.specs.Analyses.{Analyses}
use Rattle.ja_facts.specs.Formulas.{any_below}
use Rattle.ja_work.specs.Ends.{Tests}

-- what the equations of taint are given, by tables
abbrev pub told : Parts → Facts → Analyses
told p f = record { classes = TellsClass p f.sets f.graph; held = TellsHeld p f.holds; heaps = TellsHeap p (TellsClass p f.sets f.graph) f.pairs f.effects; reach = TellsReach p f.reach }

-- the number of a slot of the method, if it is one
abbrev pub number_of : Method → Slot → Option ℕ
number_of method (Local l) = if nat_lt l method.locals then Some l else None
number_of method (OnStack k) = if nat_lt k method.stack then Some (method.locals + k) else None

-- the pair of these numbers is in the set
abbrev pub has_numbers : (set : List (List Bool)) → (a b : Option ℕ) → Bool
has_numbers set None b = false
has_numbers set (Some a) None = false
has_numbers set (Some a) (Some b) = slice_index_or (slice_index_or set a []) b false

-- the set before instruction i of method m
abbrev pub set_at : List (List (List (List Bool))) → (m i : ℕ) → List (List Bool)
set_at sets m i = slice_index_or (slice_index_or sets m []) i []

-- the numbers of two slots of method m are in the set before an instruction
abbrev pub has_slots : Option Method → (set : List (List Bool)) → (y x : Slot) → Bool
has_slots None set y x = false
has_slots (Some method) set y x = has_numbers set (number_of method y) (number_of method x)

-- the list is empty
abbrev pub is_empty : List Instr → Bool
is_empty [] = true
is_empty (instr ∷ code) = false

-- the method is there, and has no code
abbrev pub lacks_code : Option Method → Bool
lacks_code None = false
lacks_code (Some method) = is_empty method.code

-- the tests of an instruction by tables
abbrev pub tests_of : Parts → Facts → (m i : ℕ) → Tests
tests_of p f m i = record {
  reaches = λ y x. has_slots (slice_get p.methods m) (set_at f.reach m i) y x;
  shares = λ y x. has_slots (slice_get p.methods m) (set_at f.pairs m i) y x;
  abstract = list_any (λ n. lacks_code (slice_get p.methods n)) (targets_at f.graph m i).methods;
  library = (targets_at f.graph m i).library;
}

-- the slot of the method and the static fields are in the set
abbrev pub has_statics : Option Method → (set : List (List Bool)) → Slot → Bool
has_statics None set y = false
has_statics (Some method) set y = has_numbers set (number_of method y) (Some (slot_count method))

-- the method is there, and has the effect on what a parameter reached
abbrev pub changes_param : Option Method → (effects : List (List Bool)) → (n k : ℕ) → Bool
changes_param None effects n k = false
changes_param (Some method) effects n k = nat_lt k (param_count method) && has_effect effects n k

-- the method is there, and has the effect on the static fields
abbrev pub changes_statics : Option Method → (effects : List (List Bool)) → (n : ℕ) → Bool
changes_statics None effects n = false
changes_statics (Some method) effects n = has_effect effects n (param_count method)

-- whether a way through method n may change a slot, by tables
abbrev pub affected_of : Parts → Facts → (m i n count under : ℕ) → Slot → Bool
affected_of p f m i n count under y =
    any_below (λ k. changes_param (slice_get p.methods n) f.effects n k && (tests_of p f m i).shares y (argument under k)) count
    || (changes_statics (slice_get p.methods n) f.effects n && has_statics (slice_get p.methods m) (set_at f.pairs m i) y)
