-- The line of a refusal.
use Rattle.std.specs.Prelude.{ℕ, List, [], ◌++◌, codes}
use Rattle.std.specs.Fmt.{decimal}
use Rattle.ja_base.specs.Refusal.{number_of}
use Rattle.ja_base.specs.declared.refusal.Refusal.{Refusal}
use Rattle.ja_base.specs.declared.refusal.Refusal.TheVariants.{Unbuilt, Archive, TooManyFiles, FileTooLong, TotalTooLong, TableText, TableKey, TableRow, TableEntry, TableCategory, End, BadMagic, BadVersion, BadTag, PoolWidth, BadText, BadIndex, BadDesc, BadAttribute, Trailing, BadOpcode, RefusedOpcode, BadBranch, BadHandler, CodeEnd, BadOperand, PlatformClass, Duplicate, Cycle, CrossPackage, Native, FrameSize, StackDepth, KindClash, FallsOff, Reflection, ThreadStart, LibraryStore, NoField}
use Rattle.ja_facts.specs.Verdict.{printed}

-- the name of a refusal
abbrev pub name_of : Refusal → List ℕ
name_of (Unbuilt _) = codes "Unbuilt"
name_of (Archive _) = codes "Archive"
name_of (TooManyFiles _) = codes "TooManyFiles"
name_of (FileTooLong _) = codes "FileTooLong"
name_of (TotalTooLong _) = codes "TotalTooLong"
name_of TableText = codes "TableText"
name_of TableKey = codes "TableKey"
name_of (TableRow _) = codes "TableRow"
name_of (TableEntry _) = codes "TableEntry"
name_of TableCategory = codes "TableCategory"
name_of (End _ _) = codes "End"
name_of (BadMagic _) = codes "BadMagic"
name_of (BadVersion _ _) = codes "BadVersion"
name_of (BadTag _ _ _) = codes "BadTag"
name_of (PoolWidth _ _) = codes "PoolWidth"
name_of (BadText _ _) = codes "BadText"
name_of (BadIndex _ _) = codes "BadIndex"
name_of (BadDesc _ _) = codes "BadDesc"
name_of (BadAttribute _ _) = codes "BadAttribute"
name_of (Trailing _ _) = codes "Trailing"
name_of (BadOpcode _ _ _ _) = codes "BadOpcode"
name_of (RefusedOpcode _ _ _ _) = codes "RefusedOpcode"
name_of (BadBranch _ _ _) = codes "BadBranch"
name_of (BadHandler _ _ _) = codes "BadHandler"
name_of (CodeEnd _ _ _) = codes "CodeEnd"
name_of (BadOperand _ _ _) = codes "BadOperand"
name_of (PlatformClass _) = codes "PlatformClass"
name_of (Duplicate _) = codes "Duplicate"
name_of (Cycle _) = codes "Cycle"
name_of (CrossPackage _ _) = codes "CrossPackage"
name_of (Native _ _) = codes "Native"
name_of (FrameSize _ _ _) = codes "FrameSize"
name_of (StackDepth _ _ _) = codes "StackDepth"
name_of (KindClash _ _ _) = codes "KindClash"
name_of (FallsOff _ _ _) = codes "FallsOff"
name_of (Reflection _ _ _) = codes "Reflection"
name_of (ThreadStart _ _ _) = codes "ThreadStart"
name_of (LibraryStore _ _ _) = codes "LibraryStore"
name_of (NoField _ _ _) = codes "NoField"

-- a file prints as its name alone
abbrev pub file_text : (file : List ℕ) → List ℕ
file_text file = codes " " ++ printed file

-- each other field prints as its own name and a decimal number
abbrev pub field_text : (name : List ℕ) → (number : ℕ) → List ℕ
field_text name number = codes " " ++ name ++ codes " " ++ decimal number

-- the fields of a refusal, in their order
abbrev pub fields_of : Refusal → List ℕ
fields_of (Unbuilt file) = file_text file
fields_of (Archive file) = file_text file
fields_of (TooManyFiles count) = field_text (codes "count") count
fields_of (FileTooLong file) = file_text file
fields_of (TotalTooLong file) = file_text file
fields_of TableText = []
fields_of TableKey = []
fields_of (TableRow row) = field_text (codes "row") row
fields_of (TableEntry entry) = field_text (codes "entry") entry
fields_of TableCategory = []
fields_of (End file at) = file_text file ++ field_text (codes "at") at
fields_of (BadMagic file) = file_text file
fields_of (BadVersion file major) = file_text file ++ field_text (codes "major") major
fields_of (BadTag file at tag) = file_text file ++ field_text (codes "at") at ++ field_text (codes "tag") tag
fields_of (PoolWidth file at) = file_text file ++ field_text (codes "at") at
fields_of (BadText file at) = file_text file ++ field_text (codes "at") at
fields_of (BadIndex file at) = file_text file ++ field_text (codes "at") at
fields_of (BadDesc file at) = file_text file ++ field_text (codes "at") at
fields_of (BadAttribute file at) = file_text file ++ field_text (codes "at") at
fields_of (Trailing file at) = file_text file ++ field_text (codes "at") at
fields_of (BadOpcode file method pc opcode) = file_text file ++ field_text (codes "method") method ++ field_text (codes "pc") pc ++ field_text (codes "opcode") opcode
fields_of (RefusedOpcode file method pc opcode) = file_text file ++ field_text (codes "method") method ++ field_text (codes "pc") pc ++ field_text (codes "opcode") opcode
fields_of (BadBranch file method pc) = file_text file ++ field_text (codes "method") method ++ field_text (codes "pc") pc
fields_of (BadHandler file method handler) = file_text file ++ field_text (codes "method") method ++ field_text (codes "handler") handler
fields_of (CodeEnd file method pc) = file_text file ++ field_text (codes "method") method ++ field_text (codes "pc") pc
fields_of (BadOperand file method pc) = file_text file ++ field_text (codes "method") method ++ field_text (codes "pc") pc
fields_of (PlatformClass file) = file_text file
fields_of (Duplicate file) = file_text file
fields_of (Cycle file) = file_text file
fields_of (CrossPackage file method) = file_text file ++ field_text (codes "method") method
fields_of (Native file method) = file_text file ++ field_text (codes "method") method
fields_of (FrameSize file method values) = file_text file ++ field_text (codes "method") method ++ field_text (codes "values") values
fields_of (StackDepth file method pc) = file_text file ++ field_text (codes "method") method ++ field_text (codes "pc") pc
fields_of (KindClash file method pc) = file_text file ++ field_text (codes "method") method ++ field_text (codes "pc") pc
fields_of (FallsOff file method pc) = file_text file ++ field_text (codes "method") method ++ field_text (codes "pc") pc
fields_of (Reflection file method pc) = file_text file ++ field_text (codes "method") method ++ field_text (codes "pc") pc
fields_of (ThreadStart file method pc) = file_text file ++ field_text (codes "method") method ++ field_text (codes "pc") pc
fields_of (LibraryStore file method pc) = file_text file ++ field_text (codes "method") method ++ field_text (codes "pc") pc
fields_of (NoField file method pc) = file_text file ++ field_text (codes "method") method ++ field_text (codes "pc") pc

-- the line of a refusal: its number, its name and its fields
abbrev pub refusal_text : Refusal → List ℕ
refusal_text refusal = codes "refused " ++ decimal (number_of refusal) ++ codes " " ++ name_of refusal ++ fields_of refusal ++ codes "\n"
