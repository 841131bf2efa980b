-- The program that classes and a table make, or the first refusal of the classes as a whole.
use Rattle.std.specs.Prelude.{◌≡◌, ℕ, zero, suc, ◌<◌, ◌≤◌, ◌^◌, ◌⊎◌, List, [], ◌∷◌, ◌++◌, Option, Some, None, length, map, slice_get, sum_by}
use Rattle.ja_base.specs.declared.refusal.Refusal.{Refusal}
use Rattle.ja_ir.specs.declared.head.ClassHead.{ClassHead}
use Rattle.ja_ir.specs.declared.program.Parts.{Parts}
use Rattle.ja_ir.specs.declared.method.Method.{Method}
use Rattle.ja_ir.specs.declared.entry.Site.{Site}
use Rattle.ja_code.specs.declared.code.Code.{Code}
use Rattle.ja_class.specs.declared.class.ClassMethod.{ClassMethod}
use Rattle.ja_class.specs.Meaning.{ClassSpelled}
use Rattle.ja_lib.specs.Content.{Content}
use Rattle.ja_hier.specs.declared.fault.HierFault.{HierFault}
use Rattle.ja_hier.specs.Faults.{IsFault, IsHierarchy}
use Rattle.ja_hier.specs.Members.{IsNumbered}
use Rattle.ja_heads.specs.Classes.{AreClassInfos}
use Rattle.ja_heads.specs.Entries.{AreEntries}
use Rattle.ja_heads.specs.Fields.{AreFields}
use Rattle.ja_methods.specs.declared.fault.MethodFault.{MethodFault}
use Rattle.ja_methods.specs.declared.site.MethodSite.{MethodSite}
use Rattle.ja_methods.specs.Method.{IsMethodOf}
use Rattle.ja_methods.specs.Refusal.{IsRefused}
use Rattle.ja_methods.specs.Sites.{AreSitesOf}
use Rattle.ja_lower.specs.declared.fault.LowerFault.{LowerFault}
use Rattle.ja_lower.specs.declared.fault.LowerFault.TheVariants.{Refused, Memory}
use Rattle.ja_lower.specs.Refusals.{hier_refusal, method_refusal}
use Rattle.ja_base.specs.Limit.{max_numbered}

-- what the class files say apart from code
abbrev pub heads_of : List ClassSpelled → List ClassHead
heads_of classes = map (λ (class : ClassSpelled). class.head) classes

-- the number of instructions of a code, if there is one
abbrev pub code_length : Option Code → ℕ
code_length None = 0
code_length (Some code) = length code.instrs

-- the number of instructions in all methods of the classes
abbrev pub instruction_count : List ClassSpelled → ℕ
instruction_count classes = sum_by (λ (class : ClassSpelled). sum_by (λ (body : ClassMethod). code_length body.code) class.methods) classes

-- at most 67,108,864 classes, fields, methods and instructions
pub record AreFew (classes : List ClassSpelled) : Type 0 where
  pub numbered : IsNumbered (heads_of classes)
  pub instructions : instruction_count classes ≤ max_numbered

-- the methods of the classes before class c and the first k of class c, in the order of the classes and, in a class, as declared
pub data MethodsUpTo (heads : List ClassHead) (table : Content) (classes : List ClassSpelled) : (c k : ℕ) → List Method → Type 0 where
  none_yet : MethodsUpTo heads table classes zero zero []
  next_method : {c k : ℕ} {before : List Method} (class : ClassSpelled) (method : Method) → slice_get classes c ≡ Some class → k < length class.head.methods
      → MethodsUpTo heads table classes c k before → IsMethodOf heads table class c k method → MethodsUpTo heads table classes c (suc k) (before ++ method ∷ [])
  next_class : {c : ℕ} {before : List Method} (class : ClassSpelled) → slice_get classes c ≡ Some class
      → MethodsUpTo heads table classes c (length class.head.methods) before → MethodsUpTo heads table classes (suc c) zero before

-- the methods of all classes
abbrev pub AreMethods : List ClassHead → Content → List ClassSpelled → List Method → Type 0
AreMethods heads table classes methods = MethodsUpTo heads table classes (length classes) zero methods

-- a sink call of method m as a site of the program
abbrev pub site_of : (m : ℕ) → MethodSite → Site
site_of m site = record { method = record { 0 = m }; index = site.index; positions = site.positions; target = site.target; category = site.category }

-- the sites of the first m methods, in the order of the methods and, in a method, of the instructions
pub data SitesUpTo (heads : List ClassHead) (methods : List Method) : (m : ℕ) → List Site → Type 0 where
  no_site : SitesUpTo heads methods zero []
  next_sites : {m : ℕ} {before : List Site} (method : Method) (own : List MethodSite) → slice_get methods m ≡ Some method → SitesUpTo heads methods m before
      → AreSitesOf heads method.code own → SitesUpTo heads methods (suc m) (before ++ map (site_of m) own)

-- the sites of all methods
abbrev pub AreSites : List ClassHead → List Method → List Site → Type 0
AreSites heads methods sites = SitesUpTo heads methods (length methods) sites

-- the program of these classes, the file of each of which stands at its place, and of a table
pub record IsProgramOf (files : List (List ℕ)) (classes : List ClassSpelled) (content : Content) (p : Parts) : Type 0 where
  pub hierarchy : IsHierarchy (heads_of classes)
  pub infos : AreClassInfos (heads_of classes) files p.classes
  pub methods : AreMethods (heads_of classes) content classes p.methods
  pub fields : AreFields (heads_of classes) p.fields
  pub entries : AreEntries (heads_of classes) content p.entries
  pub sites : AreSites (heads_of classes) p.methods p.sites
  pub categories : p.categories ≡ content.categories

-- method k of class c is refused so
pub record IsMethodRefused (files : List (List ℕ)) (classes : List ClassSpelled) (c k : ℕ) (refusal : Refusal) : Type 0 where
  pub class : ClassSpelled
  pub at : slice_get classes c ≡ Some class
  pub file : List ℕ
  pub file_at : slice_get files c ≡ Some file
  pub fault : MethodFault
  pub refused : IsRefused (heads_of classes) class c k fault
  pub is : method_refusal file k fault ≡ Some refusal

-- method j of class d stands before method k of class c
abbrev pub StandsBefore : (d j c k : ℕ) → Type 0
StandsBefore d j c k = (d < c) ⊎ ((d ≡ c) × (j < k))

-- the first refusal of the classes as a whole: of their hierarchy, and else of the first method that is refused
pub data IsRefusedWhole (files : List (List ℕ)) (classes : List ClassSpelled) : Refusal → Type 0 where
  of_hierarchy : {refusal : Refusal} (fault : HierFault) → IsFault (heads_of classes) fault → hier_refusal files fault ≡ Some refusal → IsRefusedWhole files classes refusal
  of_method : {refusal : Refusal} (c k : ℕ) → IsHierarchy (heads_of classes) → IsMethodRefused files classes c k refusal
      → ((d j : ℕ) (other : Refusal) → StandsBefore d j c k → IsMethodRefused files classes d j other → ⊥) → IsRefusedWhole files classes refusal

-- the classes are refused so, or memory ran out
abbrev pub IsLowerFault : (files : List (List ℕ)) → List ClassSpelled → LowerFault → Type 0
IsLowerFault files classes (Refused refusal) = IsRefusedWhole files classes refusal
IsLowerFault files classes Memory = Unit {0}
