-- What a program says of its classes.
use Rattle.std.specs.Prelude.{◌≡◌, ℕ, ◌↔◌, true, List, Some, All, Contains, length, map, slice_get}
use Rattle.std.specs.List.Sorted.{IsStrictlyIncreasing}
use Rattle.ja_base.specs.declared.id.ClassId.{ClassId}
use Rattle.ja_ir.specs.declared.head.ClassHead.{ClassHead}
use Rattle.ja_ir.specs.declared.class.ClassInfo.{ClassInfo}
use Rattle.ja_ir.specs.declared.class.Selection.{Selection}
use Rattle.ja_hier.specs.declared.skip.Skip.TheVariants.{NotVirtual}
use Rattle.ja_hier.specs.LookUps.{Finds}
use Rattle.ja_supertypes.specs.Supertypes.{IsAtOrAbove, object_name}
use Rattle.ja_supertypes.specs.LibraryTypes.{IsNearest}
use Rattle.ja_heads.specs.Initializers.{initializers_of}
use Rattle.ja_heads.specs.Signatures.{numbers_of, own_first, selected, first_seen, signatures_of}

-- the nearest library superclass of class c is another one than `java/lang/Object`
pub record IsAbsorbing (heads : List ClassHead) (c : ℕ) : Type 0 where
  pub name : List ℕ
  pub nearest : IsNearest heads c name
  pub other : name ≡ object_name → ⊥

-- the list has the program classes at or above class c, in ascending order
pub record AreSupers (heads : List ClassHead) (c : ℕ) (supers : List ClassId) : Type 0 where
  pub exact : (d : ℕ) → Contains (numbers_of supers) d ↔ IsAtOrAbove heads c d
  pub ascending : IsStrictlyIncreasing (numbers_of supers)

-- one selection for each name and descriptor of a method that these classes declare, in the order in which they are first seen from
-- class c on; each answers what a virtual call on an object of class c selects (JVM specification 6.5, invokevirtual)
pub record AreSelections (heads : List ClassHead) (c : ℕ) (supers : List ClassId) (selections : List Selection) : Type 0 where
  pub signatures : map selected selections ≡ first_seen (signatures_of heads (own_first c (numbers_of supers)))
  pub targets : All (λ selection. Finds heads NotVirtual selection.name selection.desc c selection.target) selections

-- what a program says of class c, which stands in the file of this path. Its class initialisers are those of the classes at or above it
-- (JVM specification 5.5); they are listed in the order of the classes' numbers, which says nothing of the order in which they run
pub record IsClassInfo (heads : List ClassHead) (path : List ℕ) (c : ℕ) (info : ClassInfo) : Type 0 where
  pub head : ClassHead
  pub found : slice_get heads c ≡ Some head
  pub name : info.name ≡ head.name
  pub file : info.file ≡ path
  pub flags : info.flags ≡ head.flags
  pub absorbing : (info.absorbing ≡ true) ↔ IsAbsorbing heads c
  pub supers : AreSupers heads c info.supers
  pub selections : AreSelections heads c info.supers info.selections
  pub inits : info.inits ≡ initializers_of heads (numbers_of info.supers)

-- what a program says of all its classes, in their order; the file of each stands at its place
pub record AreClassInfos (heads : List ClassHead) (files : List (List ℕ)) (infos : List ClassInfo) : Type 0 where
  pub size : length infos ≡ length heads
  pub placed : length files ≡ length heads
  pub each : (c : ℕ) (file : List ℕ) (info : ClassInfo) → slice_get files c ≡ Some file → slice_get infos c ≡ Some info → IsClassInfo heads file c info
