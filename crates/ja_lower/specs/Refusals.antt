-- Faults of the parts of a folder as refusals of the folder. Want of memory refuses none.
use Rattle.std.specs.Prelude.{ℕ, List, Option, Some, None, option_map, slice_get}
use Rattle.ja_base.specs.declared.refusal.Refusal.{Refusal}
use Rattle.ja_base.specs.declared.refusal.Refusal.TheVariants.{TableText, TableKey, TableRow, TableEntry, TableCategory, End, BadMagic, BadVersion, BadTag, PoolWidth, BadText, BadIndex, BadDesc, BadAttribute, Trailing, BadOpcode, RefusedOpcode, BadBranch, BadHandler, CodeEnd, BadOperand, PlatformClass, Duplicate, Cycle, CrossPackage, Native, FrameSize, StackDepth, KindClash, FallsOff, Reflection, ThreadStart, LibraryStore, NoField}
use Rattle.ja_lib.specs.declared.fault.TableFault.{TableFault}
use Rattle.ja_lib.specs.declared.fault.TableFault.TheVariants as table
use Rattle.ja_class.specs.declared.fault.ClassFault.{ClassFault}
use Rattle.ja_class.specs.declared.fault.ClassFault.TheVariants as class
use Rattle.ja_hier.specs.declared.fault.HierFault.{HierFault}
use Rattle.ja_hier.specs.declared.fault.HierFault.TheVariants as hier
use Rattle.ja_methods.specs.declared.fault.MethodFault.{MethodFault}
use Rattle.ja_methods.specs.declared.fault.MethodFault.TheVariants as method

-- a fault of the table file
abbrev pub table_refusal : TableFault → Option Refusal
table_refusal table.Text = Some TableText
table_refusal table.UnknownKey = Some TableKey
table_refusal table.BadCategory = Some TableCategory
table_refusal (table.BadRow row) = Some (TableRow row)
table_refusal (table.BadEntry entry) = Some (TableEntry entry)
table_refusal table.Memory = None

-- a fault of this class file
abbrev pub class_refusal : (file : List ℕ) → ClassFault → Option Refusal
class_refusal file (class.End at) = Some (End file at)
class_refusal file class.BadMagic = Some (BadMagic file)
class_refusal file (class.BadVersion major) = Some (BadVersion file major)
class_refusal file (class.BadTag at tag) = Some (BadTag file at tag)
class_refusal file (class.PoolWidth at) = Some (PoolWidth file at)
class_refusal file (class.BadText at) = Some (BadText file at)
class_refusal file (class.BadIndex at) = Some (BadIndex file at)
class_refusal file (class.BadDesc at) = Some (BadDesc file at)
class_refusal file (class.BadAttribute at) = Some (BadAttribute file at)
class_refusal file (class.Trailing at) = Some (Trailing file at)
class_refusal file (class.BadOpcode m pc opcode) = Some (BadOpcode file m pc opcode)
class_refusal file (class.RefusedOpcode m pc opcode) = Some (RefusedOpcode file m pc opcode)
class_refusal file (class.BadBranch m pc) = Some (BadBranch file m pc)
class_refusal file (class.BadHandler m handler) = Some (BadHandler file m handler)
class_refusal file (class.CodeEnd m pc) = Some (CodeEnd file m pc)
class_refusal file (class.BadOperand m pc) = Some (BadOperand file m pc)
class_refusal file class.Memory = None

-- a fault of the hierarchy, where these are the files of the classes
abbrev pub hier_refusal : (files : List (List ℕ)) → HierFault → Option Refusal
hier_refusal files (hier.PlatformClass c) = option_map PlatformClass (slice_get files c)
hier_refusal files (hier.Duplicate c) = option_map Duplicate (slice_get files c)
hier_refusal files (hier.Cycle c) = option_map Cycle (slice_get files c)
hier_refusal files (hier.CrossPackage c k) = option_map (λ file. CrossPackage file k) (slice_get files c)
hier_refusal files hier.Memory = None

-- a fault of method k of the class in this file
abbrev pub method_refusal : (file : List ℕ) (k : ℕ) → MethodFault → Option Refusal
method_refusal file k method.Native = Some (Native file k)
method_refusal file k (method.FrameSize values) = Some (FrameSize file k values)
method_refusal file k (method.StackDepth pc) = Some (StackDepth file k pc)
method_refusal file k (method.KindClash pc) = Some (KindClash file k pc)
method_refusal file k (method.FallsOff pc) = Some (FallsOff file k pc)
method_refusal file k (method.Reflection pc) = Some (Reflection file k pc)
method_refusal file k (method.ThreadStart pc) = Some (ThreadStart file k pc)
method_refusal file k (method.LibraryStore pc) = Some (LibraryStore file k pc)
method_refusal file k (method.NoField pc) = Some (NoField file k pc)
method_refusal file k method.Memory = None
