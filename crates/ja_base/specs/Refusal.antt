-- The numbers under which refusals are printed.
use Rattle.std.specs.Prelude.{ℕ}
use Rattle.ja_base.specs.declared.refusal.Refusal.{Refusal}
use Rattle.ja_base.specs.declared.refusal.Refusal.TheVariants.{Unbuilt, Archive, TooManyFiles, FileTooLong, TotalTooLong, TableText, TableKey, TableRow, TableEntry, TableCategory, End, BadMagic, BadVersion, BadTag, PoolWidth, BadText, BadIndex, BadDesc, BadAttribute, Trailing, BadOpcode, RefusedOpcode, BadBranch, BadHandler, CodeEnd, BadOperand, PlatformClass, Duplicate, Cycle, CrossPackage, Native, FrameSize, StackDepth, KindClash, FallsOff, Reflection, ThreadStart, LibraryStore, NoField}

-- the number under which a refusal is printed
abbrev pub number_of : Refusal → ℕ
number_of (Unbuilt _) = 1
number_of (Archive _) = 10
number_of (TooManyFiles _) = 11
number_of (FileTooLong _) = 12
number_of (TotalTooLong _) = 13
number_of TableText = 20
number_of TableKey = 21
number_of (TableRow _) = 22
number_of (TableEntry _) = 23
number_of TableCategory = 24
number_of (End _ _) = 30
number_of (BadMagic _) = 31
number_of (BadVersion _ _) = 32
number_of (BadTag _ _ _) = 33
number_of (PoolWidth _ _) = 34
number_of (BadText _ _) = 35
number_of (BadIndex _ _) = 36
number_of (BadDesc _ _) = 37
number_of (BadAttribute _ _) = 38
number_of (Trailing _ _) = 39
number_of (BadOpcode _ _ _ _) = 40
number_of (RefusedOpcode _ _ _ _) = 41
number_of (BadBranch _ _ _) = 42
number_of (BadHandler _ _ _) = 43
number_of (CodeEnd _ _ _) = 44
number_of (BadOperand _ _ _) = 45
number_of (PlatformClass _) = 50
number_of (Duplicate _) = 51
number_of (Cycle _) = 52
number_of (CrossPackage _ _) = 53
number_of (Native _ _) = 60
number_of (FrameSize _ _ _) = 61
number_of (StackDepth _ _ _) = 62
number_of (KindClash _ _ _) = 63
number_of (FallsOff _ _ _) = 64
number_of (Reflection _ _ _) = 70
number_of (ThreadStart _ _ _) = 71
number_of (LibraryStore _ _ _) = 72
number_of (NoField _ _ _) = 73
