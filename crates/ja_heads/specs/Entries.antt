-- The methods that the environment may call.
use Rattle.std.specs.Prelude.{◌≡◌, ℕ, zero, suc, ◌&&◌, ◌⊎◌, Bool, true, false, not, List, [], ◌∷◌, ◌++◌, Some, Contains, bytes_eq, codes, length, position, slice_get}
use Rattle.ja_ir.specs.declared.head.ClassHead.{ClassHead}
use Rattle.ja_ir.specs.declared.head.HeadMethod.{HeadMethod}
use Rattle.ja_ir.specs.declared.class.MethodAt.TheVariants.{Program}
use Rattle.ja_ir.specs.declared.entry.Entry.{Entry}
use Rattle.ja_ir.specs.Lookup.{is_abstract, is_interface, is_member, is_static}
use Rattle.ja_lib.specs.declared.entry.EntryRow.{EntryRow}
use Rattle.ja_lib.specs.Content.{Content}
use Rattle.ja_hier.specs.declared.skip.Skip.TheVariants.{NotVirtual}
use Rattle.ja_hier.specs.LookUps.{Finds, method_number}
use Rattle.ja_supertypes.specs.LibraryTypes.{AreLibraryTypes}

-- the class has objects of its own
abbrev pub is_concrete : ClassHead → Bool
is_concrete head = not (is_interface head.flags) && not (is_abstract head.flags)

-- the name is one of the library types of class c
pub record HasLibraryType (heads : List ClassHead) (c : ℕ) (name : List ℕ) : Type 0 where
  pub names : List (List ℕ)
  pub types : AreLibraryTypes heads c names
  pub listed : Contains names name

-- the method makes an object ready without arguments, and has code
abbrev pub is_maker : HeadMethod → Bool
is_maker method =
    bytes_eq method.name (codes "<init>") && (bytes_eq method.desc (codes "()V") && (is_member method.flags && not (is_abstract method.flags)))

-- the class declares such a constructor
pub record CanBeMade (head : ClassHead) : Type 0 where
  pub method : HeadMethod
  pub declared : Contains head.methods method
  pub makes : is_maker method ≡ true

-- the method is static, has this name, this descriptor and code
abbrev pub is_entry_point : (name desc : List ℕ) → HeadMethod → Bool
is_entry_point name desc method =
    bytes_eq method.name name && (bytes_eq method.desc desc && (is_static method.flags && not (is_abstract method.flags)))

-- the row is for every class, or for this one
abbrev pub IsForClass : EntryRow → ClassHead → Type 0
IsForClass row head = (row.class ≡ codes "*") ⊎ (row.class ≡ head.name)

-- a row of an instance method makes method m an entry of class c: the class is of the row's library type, an object of it can be made,
-- and m is what a virtual call selects on it
pub record EntersOnObject (heads : List ClassHead) (c : ℕ) (head : ClassHead) (row : EntryRow) (m : ℕ) : Type 0 where
  pub type : HasLibraryType heads c row.class
  pub made : CanBeMade head
  pub selected : Finds heads NotVirtual row.method row.desc c (Program (record { 0 = m }))

-- a row of a static method makes method m an entry of class c: the first such method that the class itself declares
pub record EntersStatic (heads : List ClassHead) (c : ℕ) (head : ClassHead) (row : EntryRow) (m : ℕ) : Type 0 where
  pub class : IsForClass row head
  pub k : ℕ
  pub declared : position (is_entry_point row.method row.desc) head.methods ≡ Some k
  pub number : m ≡ method_number heads c k

-- the same, by whether the row is of a static method
abbrev pub EntersBy : (is_static : Bool) → List ClassHead → (c : ℕ) → ClassHead → EntryRow → (m : ℕ) → Type 0
EntersBy true heads c head row m = EntersStatic heads c head row m
EntersBy false heads c head row m = EntersOnObject heads c head row m

-- the row makes method m an entry of class c
abbrev pub Enters : List ClassHead → (c : ℕ) → ClassHead → EntryRow → (m : ℕ) → Type 0
Enters heads c head row m = EntersBy row.is_static heads c head row m

-- method m of class c as an entry, with the positions and the categories that the row marks
abbrev pub entry_at : (c m : ℕ) → EntryRow → Entry
entry_at c m row = record { class = record { 0 = c }; method = record { 0 = m }; marked = row.marked; marks = row.marks }

-- the entries so far, and behind them the one that the row makes of class c, where it makes one
pub data RowAdds (heads : List ClassHead) (c : ℕ) (head : ClassHead) (row : EntryRow) (so_far : List Entry) : List Entry → Type 0 where
  enters : (m : ℕ) → Enters heads c head row m → RowAdds heads c head row so_far (so_far ++ entry_at c m row ∷ [])
  passes : ((m : ℕ) → Enters heads c head row m → ⊥) → RowAdds heads c head row so_far so_far

-- the same of the first k rows, in their order
pub data RowsAdd (heads : List ClassHead) (rows : List EntryRow) (c : ℕ) (head : ClassHead) (so_far : List Entry) : (k : ℕ) → List Entry → Type 0 where
  no_row : RowsAdd heads rows c head so_far zero so_far
  next_row : {k : ℕ} {before after : List Entry} (row : EntryRow) → slice_get rows k ≡ Some row → RowsAdd heads rows c head so_far k before
      → RowAdds heads c head row before after → RowsAdd heads rows c head so_far (suc k) after

-- the same of all rows; a class without objects of its own has no entries
pub data ClassAdds (heads : List ClassHead) (rows : List EntryRow) (c : ℕ) (so_far : List Entry) : List Entry → Type 0 where
  concrete : {after : List Entry} (head : ClassHead) → slice_get heads c ≡ Some head → is_concrete head ≡ true
      → RowsAdd heads rows c head so_far (length rows) after → ClassAdds heads rows c so_far after
  other : (head : ClassHead) → slice_get heads c ≡ Some head → is_concrete head ≡ false → ClassAdds heads rows c so_far so_far

-- the entries of the first c classes, in their order
pub data ClassesAdd (heads : List ClassHead) (rows : List EntryRow) : (c : ℕ) → List Entry → Type 0 where
  no_class : ClassesAdd heads rows zero []
  next_class : {c : ℕ} {before after : List Entry} → ClassesAdd heads rows c before → ClassAdds heads rows c before after → ClassesAdd heads rows (suc c) after

-- the entries of all classes by the rows of a table
abbrev pub AreEntries : List ClassHead → Content → List Entry → Type 0
AreEntries heads content entries = ClassesAdd heads content.entries (length heads) entries
