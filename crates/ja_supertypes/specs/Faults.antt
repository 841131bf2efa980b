-- What a list of program classes may not have, so that their supertypes are well-founded.
use Rattle.std.specs.Prelude.{◌≡◌, ℕ, ◌<◌, List, ◌++◌, Some, codes, slice_get}
use Rattle.ja_ir.specs.declared.head.ClassHead.{ClassHead}
use Rattle.ja_supertypes.specs.declared.fault.ClassFault.{ClassFault}
use Rattle.ja_supertypes.specs.declared.fault.ClassFault.TheVariants.{PlatformClass, Duplicate, Cycle, Memory}
use Rattle.ja_supertypes.specs.Supertypes.{IsSupertype}

-- the class lies in a package of the platform
pub record IsPlatform (heads : List ClassHead) (c : ℕ) : Type 0 where
  pub head : ClassHead
  pub found : slice_get heads c ≡ Some head
  pub rest : List ℕ
  pub begins : head.name ≡ codes "java/" ++ rest

-- an earlier class has the name of class c
pub record IsDuplicate (heads : List ClassHead) (c : ℕ) : Type 0 where
  pub b : ℕ
  pub earlier : b < c
  pub head : ClassHead
  pub found : slice_get heads c ≡ Some head
  pub other : ClassHead
  pub found_other : slice_get heads b ≡ Some other
  pub same : other.name ≡ head.name

-- class c is its own proper supertype
abbrev pub IsCyclic : List ClassHead → (c : ℕ) → Type 0
IsCyclic heads c = IsSupertype heads c c

-- c is the first for which it holds
pub record IsFirst (P : ℕ → Type 0) (c : ℕ) : Type 0 where
  pub holds : P c
  pub before : (b : ℕ) → b < c → P b → ⊥

-- it holds for no class
abbrev pub IsNowhere : (ℕ → Type 0) → Type 0
IsNowhere P = (c : ℕ) → P c → ⊥

-- no class lies in a package of the platform, names are distinct, and no class is its own supertype
pub record AreClasses (heads : List ClassHead) : Type 0 where
  pub platform : IsNowhere (IsPlatform heads)
  pub distinct : IsNowhere (IsDuplicate heads)
  pub acyclic : IsNowhere (IsCyclic heads)

-- the fault is the first in the list's order, one check after the other over all classes
abbrev pub IsFault : List ClassHead → ClassFault → Type 0
IsFault heads (PlatformClass c) = IsFirst (IsPlatform heads) c
IsFault heads (Duplicate c) = IsNowhere (IsPlatform heads) × IsFirst (IsDuplicate heads) c
IsFault heads (Cycle c) = IsNowhere (IsPlatform heads) × IsNowhere (IsDuplicate heads) × IsFirst (IsCyclic heads) c
IsFault heads Memory = Unit {0}
