-- What the private functions that judge items answer, and what they keep. A reader of the public contracts need not look here.
use Rattle.std.specs.Prelude.{◌≡◌, ℕ, ◌+◌, ◌<◌, ◌≤◌, Bool, true, false, List, length, drop, fold, slice_get, Some, Result, Ok, Err, bytes_eq, ⊤, ◌⊎◌}
use Rattle.ja_listing.specs.declared.item.Item.{Item}
use Rattle.ja_listing.specs.declared.item.Item.TheVariants.{Field, Method, Initializer, Try, Instruction}
use Rattle.ja_listing.specs.Number.{has_code}
use Rattle.ja_listing.specs.Listed.{Listed}
use Rattle.ja_assembly.specs.InnerLabels.{places}
use Rattle.ja_listing.specs.declared.fault.MakeFault.{MakeFault}
use Rattle.ja_listing.specs.declared.fault.MakeFault.TheVariants as faults
use Rattle.ja_assembly.specs.declared.key.Key.{Key}
use Rattle.ja_writable.specs.declared.flaw.Flaw.{Flaw}
use Rattle.ja_writable.specs.declared.flaw.Flaw.TheVariants.{Unwritable, Memory}
use Rattle.ja_writable.specs.declared.place.Place.{Place}
use Rattle.ja_writable.specs.declared.wants.Wants.{Wants}
use Rattle.ja_assembly.specs.Members.{expanded, fields, methods, size_of_opcode, place_of_label, instructions_in}
use Rattle.ja_assembly.specs.Wanted.{same_key, with_one, keys_in, item_strings, pool_strings, pool_keys}
use Rattle.ja_assembly.specs.Unwritable.{expansion, before, method_before, body_has_code, body_ranges, labels_at, pc_at, is_some_of, IsNoItemAt, CannotBeWritten, IsWritable}

-- a check fails exactly where this is so, unless memory ran out
abbrev pub Judges : Result ⊤ Flaw → Type 0 → Type 0
Judges (Ok _) P = P → ⊥
Judges (Err Unwritable) P = P
Judges (Err Memory) P = Unit {0}

-- an item is refused where this is so, and else taken, which says that
abbrev pub Takes : Result ⊤ Flaw → (refused taken : Type 0) → Type 0
Takes (Ok _) refused taken = taken
Takes (Err Unwritable) refused taken = refused
Takes (Err Memory) refused taken = Unit {0}

-- these entries are added, each that was not there
abbrev pub Asks : List Key → List Key → List Key → Type 0
Asks old new keys = new ≡ fold (with_one same_key) old keys

-- what is known at an item: the members so far, and of its method the entries of the exception table, the place of the next
-- instruction, whether it has code, and where the labels of the whole method stand
pub record IsPlace (c : Listed) (k : ℕ) (p : Place) : Type 0 where
  pub fields_are : p.fields ≡ length (fields (before c k))
  pub methods_are : p.methods ≡ length (methods (before c k))
  pub ranges_are : p.ranges ≡ length (body_ranges (method_before c k))
  pub pc_is : p.pc ≡ pc_at c k
  pub code_is : p.has_code ≡ body_has_code (method_before c k)
  pub labels_are : (name : List ℕ) → places p.labels name ≡ labels_at c k name

-- what the pool is asked for by the items before one
pub record IsWants (c : Listed) (k : ℕ) (w : Wants) : Type 0 where
  pub strings_are : w.strings.keys ≡ pool_strings (before c k)
  pub keys_are : w.keys.keys ≡ pool_keys c.head (before c k)

-- all that is known at an item
pub record IsState (c : Listed) (k : ℕ) (p : Place) (w : Wants) : Type 0 where
  pub place_is : IsPlace c k p
  pub wants_are : IsWants c k w

-- what is known before these items, which are all
pub record IsNoPlace (items : List Item) (p : Place) : Type 0 where
  pub fields_are : p.fields ≡ 0
  pub methods_are : p.methods ≡ 0
  pub ranges_are : p.ranges ≡ 0
  pub pc_is : p.pc ≡ 0
  pub code_is : p.has_code ≡ false
  pub labels_are : (superclass name : List ℕ) → places p.labels name ≡ place_of_label 0 (instructions_in superclass items) name

-- one more item asks for its entries, in a class with this superclass
pub record IsAsked (superclass : List ℕ) (item : Item) (old new : Wants) : Type 0 where
  pub keys_are : Asks old.keys.keys new.keys.keys (keys_in (expanded superclass item))
  pub strings_are : new.strings.keys ≡ fold (with_one bytes_eq) old.strings.keys (item_strings item)

-- the counts are small enough for one more
pub record IsSmall (p : Place) : Type 0 where
  pub fields : p.fields ≤ 65535
  pub methods : p.methods ≤ 65535
  pub ranges : p.ranges ≤ 65535
  pub pc : p.pc ≤ 65535

-- the item of this place of a class, and the items behind it
pub record IsItem (c : Listed) (k : ℕ) (superclass : List ℕ) (item : Item) (behind : List Item) : Type 0 where
  pub item_is : slice_get c.items k ≡ Some item
  pub behind_is : behind ≡ drop (k + 1) c.items
  pub superclass_is : superclass ≡ c.head.superclass

-- the item cannot be written at a place
abbrev pub IsNoItemHere : List ℕ → Place → Item → List Item → Type 0
IsNoItemHere superclass p item behind = IsNoItemAt p.has_code (places p.labels) p.pc (is_some_of (instructions_in superclass behind)) item

-- the counts are too great
abbrev pub IsFull : Place → Wants → Type 0
IsFull p w =
    (255 < length w.strings.keys) ⊎ (65534 < length w.strings.keys + length w.keys.keys)
    ⊎ (65535 < p.fields) ⊎ (65535 < p.methods) ⊎ (65535 < p.ranges) ⊎ (65535 < p.pc)

-- what a class asks of its pool is this, and each of its items can be written
pub record IsAllowed (c : Listed) (w : Wants) : Type 0 where
  pub writable : IsWritable c
  pub strings_are : w.strings.keys ≡ pool_strings (expansion c c.items)
  pub keys_are : w.keys.keys ≡ pool_keys c.head (expansion c c.items)

-- the items so far can be written
abbrev pub IsClean : Listed → ℕ → Type 0
IsClean c k = (j : ℕ) → j ≤ k → CannotBeWritten c j → ⊥

-- the fault of the item with this number
abbrev pub fault_of : Flaw → ℕ → MakeFault
fault_of Unwritable number = faults.BadListing number
fault_of Memory number = faults.Memory

-- the labels stand where they stood
abbrev pub SameLabels : Place → Place → Type 0
SameLabels old new = (name : List ℕ) → places new.labels name ≡ places old.labels name

-- a method begins, whose next instruction begins at pc, and behind which these items stand
pub record IsBegun (pc : ℕ) (code : Bool) (superclass : List ℕ) (behind : List Item) (old new : Place) : Type 0 where
  pub fields_are : new.fields ≡ old.fields
  pub methods_are : new.methods ≡ old.methods + 1
  pub ranges_are : new.ranges ≡ 0
  pub pc_is : new.pc ≡ pc
  pub code_is : new.has_code ≡ code
  pub labels_are : (name : List ℕ) → places new.labels name ≡ place_of_label pc (instructions_in superclass behind) name

-- an item more, in the method that goes on: so many fields, ranges and bytes of code more
pub record IsMore (count ranges size : ℕ) (old new : Place) : Type 0 where
  pub fields_are : new.fields ≡ old.fields + count
  pub methods_are : new.methods ≡ old.methods
  pub ranges_are : new.ranges ≡ old.ranges + ranges
  pub pc_is : new.pc ≡ old.pc + size
  pub code_is : new.has_code ≡ old.has_code
  pub labels_are : SameLabels old new

-- the place behind an item
abbrev pub IsStep : List ℕ → Item → List Item → Place → Place → Type 0
IsStep superclass (Field flags name desc) behind old new = IsMore 1 0 0 old new
IsStep superclass (Method flags name desc frame) behind old new = IsBegun 0 (has_code flags) superclass behind old new
IsStep superclass Initializer behind old new = IsBegun 5 true superclass behind old new
IsStep superclass (Try start end handler catch) behind old new = IsMore 0 1 0 old new
IsStep superclass (Instruction label opcode operand) behind old new = IsMore 0 0 (size_of_opcode opcode) old new
