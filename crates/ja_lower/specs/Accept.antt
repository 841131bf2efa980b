-- Which folders are accepted, as which program, and which are refused, for what first.
use Rattle.std.specs.Prelude.{◌≡◌, ℕ, List, Some, Contains, length, slice_get}
use Rattle.ja_base.specs.declared.file.File.{File}
use Rattle.ja_base.specs.declared.refusal.Refusal.{Refusal}
use Rattle.ja_ir.specs.declared.program.Parts.{Parts}
use Rattle.ja_lib.specs.declared.fault.TableFault.{TableFault}
use Rattle.ja_lib.specs.Content.{Content}
use Rattle.ja_lib.specs.Defaults.{default_content}
use Rattle.ja_lib.specs.File.{IsTableFile, IsFaultOf}
use Rattle.ja_class.specs.declared.fault.ClassFault.{ClassFault}
use Rattle.ja_class.specs.Meaning.{ClassSpelled}
use Rattle.ja_class.specs.ClassFile.{IsClass}
use Rattle.ja_class.specs.ClassFault.{IsFault}
use Rattle.ja_supertypes.specs.Faults.{IsFirst}
use Rattle.ja_lower.specs.Folder.{AreInOrder, IsReadable, IsRefusedUnread, class_files, names_of, table_name}
use Rattle.ja_lower.specs.Program.{IsProgramOf, IsRefusedWhole}
use Rattle.ja_lower.specs.Refusals.{class_refusal, table_refusal}

-- the file is the table of the folder
pub record IsTableIn (files : List File) (file : File) : Type 0 where
  pub held : Contains files file
  pub named : file.name ≡ table_name

-- the content of the folder's table, or of the one that stands where it has none
pub data HasTable (files : List File) : Content → Type 0 where
  own : {content : Content} (file : File) → IsTableIn files file → IsTableFile file.bytes content → HasTable files content
  default : ((file : File) → IsTableIn files file → ⊥) → HasTable files default_content

-- the folder's table is refused so
pub record IsTableRefused (files : List File) (refusal : Refusal) : Type 0 where
  pub file : File
  pub table : IsTableIn files file
  pub fault : TableFault
  pub wrong : IsFaultOf file.bytes fault
  pub is : table_refusal fault ≡ Some refusal

-- the classes that the files say, each at the place of its file
pub record AreClassesOf (files : List File) (classes : List ClassSpelled) : Type 0 where
  pub size : length classes ≡ length files
  pub each : (c : ℕ) (file : File) (class : ClassSpelled) → slice_get files c ≡ Some file → slice_get classes c ≡ Some class → IsClass file.bytes class

-- the class file in place c is refused so
pub record IsFileRefused (files : List File) (c : ℕ) (refusal : Refusal) : Type 0 where
  pub file : File
  pub at : slice_get files c ≡ Some file
  pub fault : ClassFault
  pub wrong : IsFault file.bytes fault
  pub is : class_refusal file.name fault ≡ Some refusal

-- the class file in place c is refused
abbrev pub IsFaulty : List File → (c : ℕ) → Type 0
IsFaulty files c = (refusal : Refusal) × IsFileRefused files c refusal

-- the files, in order, are read as these classes and this table
pub record AreRead (files : List File) (classes : List ClassSpelled) (content : Content) : Type 0 where
  pub readable : IsReadable files
  pub table : HasTable files content
  pub spelled : AreClassesOf (class_files files) classes

-- the files, in order, are refused one by one: unread, then for the table, then for the first class file that is none of the profile
pub data AreRefused (files : List File) : Refusal → Type 0 where
  unread : {refusal : Refusal} → IsRefusedUnread files refusal → AreRefused files refusal
  of_table : {refusal : Refusal} → IsReadable files → IsTableRefused files refusal → AreRefused files refusal
  of_class : {refusal : Refusal} {content : Content} (c : ℕ) → IsReadable files → HasTable files content → IsFirst (IsFaulty (class_files files)) c
      → IsFileRefused (class_files files) c refusal → AreRefused files refusal

-- a folder of these files is accepted as this program
pub record Accepts (files : List File) (p : Parts) : Type 0 where
  pub ordered : List File
  pub order : AreInOrder files ordered
  pub classes : List ClassSpelled
  pub content : Content
  pub read : AreRead ordered classes content
  pub program : IsProgramOf (names_of (class_files ordered)) classes content p

-- a folder of these files is refused for this, the first of its refusals
pub data Refuses (files : List File) (refusal : Refusal) : Type 0 where
  of_files : (ordered : List File) → AreInOrder files ordered → AreRefused ordered refusal → Refuses files refusal
  of_whole : (ordered : List File) (classes : List ClassSpelled) (content : Content) → AreInOrder files ordered → AreRead ordered classes content
      → IsRefusedWhole (names_of (class_files ordered)) classes refusal → Refuses files refusal
