-- Where static and special calls go (JVM specification 6.5, invokespecial and invokestatic).
use Rattle.std.specs.Prelude.{◌≡◌, ℕ, true, List, codes, Option, Some, None, slice_get}
use Rattle.ja_code.specs.declared.behaviour.Invocation.{Invocation}
use Rattle.ja_code.specs.declared.behaviour.Invocation.TheVariants as invocations
use Rattle.ja_base.specs.AccessFlags.{acc_super}
use Rattle.ja_ir.specs.declared.head.ClassHead.{ClassHead}
use Rattle.ja_ir.specs.declared.class.MethodAt.{MethodAt}
use Rattle.ja_ir.specs.declared.class.MethodAt.TheVariants.{Library}
use Rattle.ja_ir.specs.declared.op.CallKind.{CallKind}
use Rattle.ja_ir.specs.declared.op.CallKind.TheVariants.{Virtual, Special, Static, Interface, StaticField, MemberField}
use Rattle.ja_ir.specs.Lookup.{has_flag}
use Rattle.ja_hier.specs.declared.skip.Skip.TheVariants.{NoMethod}
use Rattle.ja_hier.specs.LookUps.{Finds}
use Rattle.ja_supertypes.specs.Supertypes.{class_named, superclass_name, object_name, IsSuperclass}
use Rattle.ja_supertypes.specs.LibraryTypes.{IsNearest}
use Rattle.ja_operations.specs.declared.member.MemberRef.{MemberRef}

-- the kind of the call that an instruction makes
abbrev pub call_kind : Invocation → CallKind
call_kind invocations.Virtual = Virtual
call_kind invocations.Special = Special
call_kind invocations.Static = Static
call_kind invocations.Interface = Interface

-- where the look-up of a method ends that begins at the class of a name: for a library class or an array class in the library
pub data FindsFrom (heads : List ClassHead) (class name desc : List ℕ) : MethodAt → Type 0 where
  in_program : {c : ℕ} {at : MethodAt} → class_named heads class ≡ Some c → Finds heads NoMethod name desc c at → FindsFrom heads class name desc at
  in_library : class_named heads class ≡ None → FindsFrom heads class name desc Library

-- the access flags of a class, if there is one
abbrev pub flags_of_class : Option ClassHead → ℕ
flags_of_class None = 0
flags_of_class (Some head) = head.flags

-- the name is that of a proper superclass of class c: a program class, the nearest library class, or java/lang/Object
pub data IsProperSuperclass (heads : List ClassHead) (c : ℕ) (name : List ℕ) : Type 0 where
  of_program : {d : ℕ} → class_named heads name ≡ Some d → IsSuperclass heads c d → IsProperSuperclass heads c name
  nearest : IsNearest heads c name → IsProperSuperclass heads c name
  object : name ≡ object_name → IsProperSuperclass heads c name

-- a special call in class c goes above it: the method is no constructor, the class has the flag ACC_SUPER, and the call names a
-- proper superclass
pub record GoesAbove (heads : List ClassHead) (c : ℕ) (member : MemberRef) : Type 0 where
  pub no_constructor : member.name ≡ codes "<init>" → ⊥
  pub flag : has_flag (flags_of_class (slice_get heads c)) acc_super ≡ true
  pub proper : IsProperSuperclass heads c member.class

-- such a call begins at the direct superclass of class c
pub record BeginsAbove (heads : List ClassHead) (c : ℕ) (member : MemberRef) (class : List ℕ) : Type 0 where
  pub above : GoesAbove heads c member
  pub direct : superclass_name (slice_get heads c) ≡ Some class

-- the class at which the look-up of a special call in class c begins: above it, or else at the class that is named
pub data BeginsAt (heads : List ClassHead) (c : ℕ) (member : MemberRef) : (class : List ℕ) → Type 0 where
  above : {class : List ℕ} → BeginsAbove heads c member class → BeginsAt heads c member class
  as_named : ((class : List ℕ) → BeginsAbove heads c member class → ⊥) → BeginsAt heads c member member.class

-- the look-up that begins at a class ends there
pub record FindsSome (heads : List ClassHead) (class : List ℕ) (member : MemberRef) (found : Option MethodAt) : Type 0 where
  pub at : MethodAt
  pub is : found ≡ Some at
  pub finds : FindsFrom heads class member.name member.desc at

-- what a special call in class c finds
pub record FindsSpecial (heads : List ClassHead) (c : ℕ) (member : MemberRef) (found : Option MethodAt) : Type 0 where
  pub class : List ℕ
  pub begins : BeginsAt heads c member class
  pub finds : FindsSome heads class member found

-- where the look-up of a call in class c ends, before a receiver decides: a special call's may begin above class c, that of another
-- call begins at the class that is named
abbrev pub LooksUp : List ClassHead → (c : ℕ) → MemberRef → CallKind → MethodAt → Type 0
LooksUp heads c member Special at = FindsSpecial heads c member (Some at)
LooksUp heads c member _ at = FindsFrom heads member.class member.name member.desc at

-- what a call in class c finds before it is made: nothing where the receiver decides
abbrev pub IsFound : List ClassHead → (c : ℕ) → MemberRef → CallKind → Option MethodAt → Type 0
IsFound heads c member Static found = FindsSome heads member.class member found
IsFound heads c member Special found = FindsSpecial heads c member found
IsFound heads c member Virtual found = found ≡ None
IsFound heads c member Interface found = found ≡ None
IsFound heads c member StaticField found = found ≡ None
IsFound heads c member MemberField found = found ≡ None
