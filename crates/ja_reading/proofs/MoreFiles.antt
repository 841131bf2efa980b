-- What is known once one file more is judged.
use Rattle.std.proofs.Common.{◌≡◌, ℕ, ◌+◌, ◌≤◌, ◌⊎◌, inl, inr, Bool, true, false, true≢false, cond, List, [], ◌∷◌, ◌++◌, length, Option, Some, None, refl, ap, sym, ◌∙◌, subst, arith, append-nil}
use Rattle.std.specs.Prelude.{is_some}
use Rattle.std.proofs.lemmas.List.{map-append}
use Rattle.std.proofs.lemmas.List.Elements.{filter-append}
use Rattle.ja_base.specs.declared.file.File.{File}
use Rattle.ja_base.specs.declared.refusal.Refusal.{Refusal}
use Rattle.ja_class.specs.declared.fault.ClassFault.{ClassFault}
use Rattle.ja_class.specs.declared.fault.ClassFault.TheVariants as faults
use Rattle.ja_class.specs.Meaning.{ClassSpelled}
use Rattle.ja_class.specs.ClassFile.{IsClass}
use Rattle.ja_class.specs.ClassFault.{IsFault}
use Rattle.ja_lower.specs.Folder.{class_files, is_class_file, names_of}
use Rattle.ja_lower.specs.Accept.{AreClassesOf}
use Rattle.ja_lower.specs.Refusals.{class_refusal}
use Rattle.ja_reading.specs.Judged.{AreClassesRead, AreJudged, AreRead, IsTableRead, bytes_of}
use Rattle.ja_reading.specs.declared.judged.ClassesRead.{ClassesRead}
use Rattle.ja_reading.specs.declared.judged.Judged.{Judged}
use Rattle.ja_reading.proofs.Classes.{classes_more, first_refused, refusal_more}
use Rattle.ja_reading.proofs.Lengths.{bytes_more, next_short}
use Rattle.ja_reading.proofs.Tables.{behind_other, other_name}

-- where a class file is refused, what is known stays
pub refused_step : (files : List File) (next : File) (read : ClassesRead) → is_some read.refusal ≡ true → AreClassesRead files read → AreClassesRead (files ++ next ∷ []) read
refused_step files next read some so_far = by read.refusal some so_far
  where
    by : (o : Option Refusal) → is_some o ≡ true → AreRead files read.names read.classes.items o → AreRead (files ++ next ∷ []) read.names read.classes.items o
    by None some so_far = absurd (true≢false (sym some))
    by (Some refusal) some so_far = refusal_more files (next ∷ []) read.names read.names read.classes.items read.classes.items refusal so_far

-- what was read where no class file is refused
none_refused : (files : List File) (read : ClassesRead) → is_some read.refusal ≡ false → AreClassesRead files read → AreRead files read.names read.classes.items None
none_refused files read none so_far = by read.refusal none so_far
  where
    by : (o : Option Refusal) → is_some o ≡ false → AreRead files read.names read.classes.items o → AreRead files read.names read.classes.items None
    by None none so_far = so_far
    by (Some refusal) none so_far = absurd (true≢false none)

no_refusal : (o : Option Refusal) → is_some o ≡ false → o ≡ None
no_refusal None none = refl
no_refusal (Some refusal) none = cc

-- one class more
pub class_step : (files : List File) (next : File) (read now : ClassesRead) (file bytes : List ℕ) (class : ClassSpelled) → now.refusal ≡ read.refusal → now.names ≡ read.names ++ file ∷ []
    → now.classes.items ≡ read.classes.items ++ class ∷ [] → is_some read.refusal ≡ false → IsClass bytes class → next.name ≡ file → next.bytes ≡ bytes
    → AreClassesRead files read → AreClassesRead (files ++ next ∷ []) now
class_step files next read now file bytes class refusal_is names_are classes_are none spelled named content so_far =
    let before = none_refused files read none so_far in
    let spelled_next : IsClass next.bytes class = subst (λ (text : List ℕ). IsClass text class) (sym content) spelled in
    let names : read.names ++ file ∷ [] ≡ names_of (files ++ next ∷ []) =
    ap (λ (l : List (List ℕ)). l ++ file ∷ []) before.0 ∙ ap (λ (n : List ℕ). names_of files ++ n ∷ []) (sym named)
    ∙ sym (map-append (λ (f : File). f.name) files (next ∷ [])) in
    let is_none : now.refusal ≡ None = refusal_is ∙ no_refusal read.refusal none in
    let after : AreRead (files ++ next ∷ []) now.names now.classes.items None = (
      names_are ∙ names,
      subst (λ (classes : List ClassSpelled). AreClassesOf (files ++ next ∷ []) classes) (sym classes_are) (classes_more files read.classes.items next class before.1 spelled_next),
    ) in
    subst (λ (o : Option Refusal). AreRead (files ++ next ∷ []) now.names now.classes.items o) (sym is_none) after

-- the first class file that is refused
pub refusal_step : ((bytes : List ℕ) (class : ClassSpelled) (fault : ClassFault) → IsClass bytes class → IsFault bytes fault → ⊥)
    → (files : List File) (next : File) (read now : ClassesRead) (file bytes : List ℕ) (fault : ClassFault) (refusal : Refusal) → now.refusal ≡ Some refusal
    → is_some read.refusal ≡ false → (fault ≡ faults.Memory) ⊎ IsFault bytes fault → class_refusal file fault ≡ Some refusal → next.name ≡ file → next.bytes ≡ bytes
    → AreClassesRead files read → AreClassesRead (files ++ next ∷ []) now
refusal_step not_both files next read now file bytes fault refusal refusal_is none wrong is named content so_far =
    let before = none_refused files read none so_far in
    let at_fault : IsFault bytes fault = elim wrong [
      | inl memory ↦ let nothing : class_refusal file fault ≡ None = ap (class_refusal file) memory in absurd (never refusal (sym nothing ∙ is))
      | inr found ↦ found
    ] in
    let wrong_next : IsFault next.bytes fault = subst (λ (text : List ℕ). IsFault text fault) (sym content) at_fault in
    let is_next : class_refusal next.name fault ≡ Some refusal = ap (λ (n : List ℕ). class_refusal n fault) named ∙ is in
    subst (λ (o : Option Refusal). AreRead (files ++ next ∷ []) now.names now.classes.items o) (sym refusal_is)
    (first_refused not_both files read.names now.names read.classes.items now.classes.items next fault refusal before wrong_next is_next)
  where
    never : (r : Refusal) → None ≡ Some r → ⊥
    never r e = cc

-- the class files with one file more
class_files_more : (files : List File) (next : File) → is_class_file next.name ≡ true → class_files (files ++ next ∷ []) ≡ class_files files ++ next ∷ []
class_files_more files next is =
    filter-append (λ (f : File). is_class_file f.name) files (next ∷ []) ∙ ap (λ (b : Bool). class_files files ++ cond b (next ∷ []) []) is

class_files_same : (files : List File) (next : File) → is_class_file next.name ≡ false → class_files (files ++ next ∷ []) ≡ class_files files
class_files_same files next is =
    filter-append (λ (f : File). is_class_file f.name) files (next ∷ []) ∙ ap (λ (b : Bool). class_files files ++ cond b (next ∷ []) []) is ∙ append-nil (class_files files)

-- one class file more
pub judged_class : (files : List File) (next : File) (old now : Judged) → is_class_file next.name ≡ true → now.total ≡ old.total + length next.bytes → now.table ≡ old.table
    → length next.bytes ≤ 4194304 → old.total + length next.bytes ≤ 67108864 → AreJudged files old → AreClassesRead (class_files files ++ next ∷ []) now.classes
    → AreJudged (files ++ next ∷ []) now
judged_class files next old now class total table fits within before classes =
    let old_total : old.total ≡ bytes_of files = before.total in
    let more = bytes_more files next in
    record {
      total = omega arith;
      short = next_short files next before.short fits (omega arith);
      table = subst (IsTableRead (files ++ next ∷ [])) (sym table) (behind_other files next old.table (other_name next.name class) before.table);
      classes = subst (λ (l : List File). AreClassesRead l now.classes) (sym (class_files_more files next class)) classes;
    }

-- the table more
pub judged_table : (files : List File) (next : File) (old now : Judged) → is_class_file next.name ≡ false → now.total ≡ old.total + length next.bytes → now.classes ≡ old.classes
    → length next.bytes ≤ 4194304 → old.total + length next.bytes ≤ 67108864 → AreJudged files old → IsTableRead (files ++ next ∷ []) now.table
    → AreJudged (files ++ next ∷ []) now
judged_table files next old now other total same_classes fits within before table =
    let old_total : old.total ≡ bytes_of files = before.total in
    let more = bytes_more files next in
    record {
      total = omega arith;
      short = next_short files next before.short fits (omega arith);
      table = table;
      classes = subst (λ (l : List File). AreClassesRead l now.classes) (sym (class_files_same files next other))
          (subst (AreClassesRead (class_files files)) (sym same_classes) before.classes);
    }
