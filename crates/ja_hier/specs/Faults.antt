-- What a list of program classes may not have.
use Rattle.std.specs.Prelude.{◌≡◌, ℕ, ◌==◌, ◌&&◌, Bool, true, not, List, [], ◌∷◌, Some, Contains, codes, slice_get, if◌then◌else◌}
use Rattle.ja_base.specs.AccessFlags.{acc_public, acc_private, acc_protected}
use Rattle.std.specs.List.{list_any}
use Rattle.ja_ir.specs.declared.head.ClassHead.{ClassHead}
use Rattle.ja_ir.specs.declared.head.HeadMethod.{HeadMethod}
use Rattle.ja_ir.specs.Lookup.{has_flag, is_static}
use Rattle.ja_hier.specs.declared.fault.HierFault.{HierFault}
use Rattle.ja_hier.specs.declared.fault.HierFault.TheVariants.{PlatformClass, Duplicate, Cycle, CrossPackage, Memory}
use Rattle.ja_supertypes.specs.declared.fault.ClassFault.{ClassFault}
use Rattle.ja_supertypes.specs.declared.fault.ClassFault.TheVariants.{PlatformClass as InPlatform, Duplicate as AgainDeclared, Cycle as InCycle, Memory as NoMemory}
use Rattle.ja_supertypes.specs.Faults.{IsPlatform, IsDuplicate, IsCyclic, IsFirst, IsNowhere}
use Rattle.ja_supertypes.specs.Supertypes.{IsSuperclass}

-- the package of a class: its name up to the last `/`, so each byte after which one comes (JVM specification 5.3)
abbrev pub package_of : (name : List ℕ) → List ℕ
package_of [] = []
package_of (b ∷ bytes) = if list_any (λ c. c == 47) bytes then b ∷ package_of bytes else []

-- ACC_PUBLIC
abbrev pub is_public : (flags : ℕ) → Bool
is_public flags = has_flag flags acc_public

-- ACC_PRIVATE
abbrev pub is_private : (flags : ℕ) → Bool
is_private flags = has_flag flags acc_private

-- ACC_PROTECTED
abbrev pub is_protected : (flags : ℕ) → Bool
is_protected flags = has_flag flags acc_protected

-- the method may be overridden, or may override one, as far as its flags go (JVM specification 5.4.5)
abbrev pub is_virtual : (flags : ℕ) → Bool
is_virtual flags = not (is_private flags) && not (is_static flags)

-- only classes of the same package may override the method
abbrev pub is_package_private : (flags : ℕ) → Bool
is_package_private flags = not (is_public flags) && not (is_protected flags) && is_virtual flags

-- a class in another package declares a package-private method that the method, which is no constructor, redeclares
pub record Hides (head above : ClassHead) (method : HeadMethod) : Type 0 where
  pub apart : package_of head.name ≡ package_of above.name → ⊥
  pub hidden : HeadMethod
  pub declared : Contains above.methods hidden
  pub local : is_package_private hidden.flags ≡ true
  pub same_name : hidden.name ≡ method.name
  pub same_desc : hidden.desc ≡ method.desc
  pub no_constructor : method.name ≡ codes "<init>" → ⊥

-- the method of a class redeclares a package-private method of a superclass in another package
pub record Crosses (heads : List ClassHead) (c : ℕ) (head : ClassHead) (method : HeadMethod) : Type 0 where
  pub redeclares : is_virtual method.flags ≡ true
  pub d : ℕ
  pub superclass : IsSuperclass heads c d
  pub above : ClassHead
  pub found : slice_get heads d ≡ Some above
  pub hides : Hides head above method

-- method k of class c redeclares a package-private method of a superclass in another package
pub record CrossesPackage (heads : List ClassHead) (c k : ℕ) : Type 0 where
  pub head : ClassHead
  pub found : slice_get heads c ≡ Some head
  pub method : HeadMethod
  pub declared : slice_get head.methods k ≡ Some method
  pub crosses : Crosses heads c head method

-- some method of class c redeclares a package-private method of another package
abbrev pub IsCrossing : List ClassHead → (c : ℕ) → Type 0
IsCrossing heads c = (k : ℕ) × CrossesPackage heads c k

-- no class lies in a package of the platform, names are distinct, no class is its own supertype, and no package-private method is redeclared in another package
pub record IsHierarchy (heads : List ClassHead) : Type 0 where
  pub platform : IsNowhere (IsPlatform heads)
  pub distinct : IsNowhere (IsDuplicate heads)
  pub acyclic : IsNowhere (IsCyclic heads)
  pub packages : IsNowhere (IsCrossing heads)

-- the fault is the first in the list's order, one check after the other over all classes
abbrev pub IsFault : List ClassHead → HierFault → Type 0
IsFault heads (PlatformClass c) = IsFirst (IsPlatform heads) c
IsFault heads (Duplicate c) = IsNowhere (IsPlatform heads) × IsFirst (IsDuplicate heads) c
IsFault heads (Cycle c) = IsNowhere (IsPlatform heads) × IsNowhere (IsDuplicate heads) × IsFirst (IsCyclic heads) c
IsFault heads (CrossPackage c k) =
    IsNowhere (IsPlatform heads) × IsNowhere (IsDuplicate heads) × IsNowhere (IsCyclic heads) × IsFirst (IsCrossing heads) c × IsFirst (CrossesPackage heads c) k
IsFault heads Memory = Unit {0}

-- a fault of the classes as a fault of the hierarchy
abbrev pub of_classes : ClassFault → HierFault
of_classes (InPlatform c) = PlatformClass c
of_classes (AgainDeclared c) = Duplicate c
of_classes (InCycle c) = Cycle c
of_classes NoMemory = Memory
