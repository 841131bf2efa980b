-- What files that were judged one by one come to together.
use Rattle.std.proofs.Common.{◌≡◌, ℕ, List, Option, Some, None, sym, subst}
use Rattle.std.specs.Prelude.{bytes_eq}
use Rattle.ja_base.specs.declared.file.File.{File}
use Rattle.ja_base.specs.declared.refusal.Refusal.{Refusal}
use Rattle.ja_class.specs.Meaning.{ClassSpelled}
use Rattle.ja_lib.specs.Content.{Content}
use Rattle.ja_lib.specs.Defaults.{default_content}
use Rattle.ja_lower.specs.Accept.{HasTable, of_class, of_files, of_table, of_whole, Refuses}
use Rattle.ja_lower.specs.Folder.{AreInOrder, class_files, is_class_file, IsReadable, read_files, table_name}
use Rattle.ja_lower.specs.Program.{IsProgramOf, IsRefusedWhole}
use Rattle.ja_reading.specs.Judged.{AreJudged, AreRead as AreReadSoFar, IsTableRead}
use Rattle.ja_reading.specs.Judgement.{ComesTo, ComesUnder, ComesUnderSo, IsLowered}
use Rattle.ja_reading.specs.Unread.{AreReadable}
use Rattle.ja_reading.specs.declared.judged.Judged.{Judged}
use Rattle.ja_reading.specs.declared.judged.TableRead.TheVariants.{Absent, Own, Wrong}
use Rattle.ja_reading.specs.declared.judgement.Judgement.{Judgement}
use Rattle.ja_reading.specs.declared.judgement.Judgement.TheVariants.{Accepted, Refused}
use Rattle.ja_reading.proofs.Places.{filter_within}
use Rattle.ja_reading.proofs.Tables.{table_absent, table_found, table_refused}

-- the class files among the files that are read are those of the folder
same_classes : (ordered : List File) → class_files (read_files ordered) ≡ class_files ordered
same_classes ordered = filter_within (λ (file : File). is_class_file file.name) (λ (file : File). bytes_eq file.name table_name) ordered

readable : (ordered : List File) (judged : Judged) → AreReadable ordered → AreJudged (read_files ordered) judged → IsReadable ordered
readable ordered judged by_name read = record { no_archive = by_name.no_archive; few = by_name.few; short = read.short }

-- the table is refused
pub refused_by_table : (files ordered : List File) (judged : Judged) (refusal : Refusal) → judged.table ≡ Wrong refusal → AreInOrder files ordered → AreReadable ordered
    → AreJudged (read_files ordered) judged → Refuses files refusal
refused_by_table files ordered judged refusal is order by_name read =
    of_files ordered order (of_table (readable ordered judged by_name read) (table_refused ordered refusal (subst (IsTableRead (read_files ordered)) is read.table)))

-- the table of the folder
pub own_is_table : (ordered : List File) (judged : Judged) (content : Content) → judged.table ≡ Own content → AreJudged (read_files ordered) judged → HasTable ordered content
own_is_table ordered judged content is read = table_found ordered content (subst (IsTableRead (read_files ordered)) is read.table)

pub default_is_table : (ordered : List File) (judged : Judged) (content : Content) → content ≡ default_content → judged.table ≡ Absent → AreJudged (read_files ordered) judged
    → HasTable ordered content
default_is_table ordered judged content default is read =
    subst (HasTable ordered) (sym default) (table_absent ordered (subst (IsTableRead (read_files ordered)) is read.table))

-- a class file is refused
by_class : (files ordered : List File) (content : Content) (names : List (List ℕ)) (classes : List ClassSpelled) (refusal : Refusal) → AreInOrder files ordered → IsReadable ordered
    → HasTable ordered content → AreReadSoFar (class_files ordered) names classes (Some refusal) → Refuses files refusal
by_class files ordered content names classes refusal order short table read = of_files ordered order (of_class read.0 short table read.1 read.2)

-- all class files are read
by_program : (files ordered : List File) (content : Content) (names : List (List ℕ)) (classes : List ClassSpelled) (judgement : Judgement) → AreInOrder files ordered
    → IsReadable ordered → HasTable ordered content → AreReadSoFar (class_files ordered) names classes None → IsLowered names classes content judgement → ComesTo files judgement
by_program files ordered content names classes (Accepted program) order short table read lowered = record {
  ordered = ordered;
  order = order;
  classes = classes;
  content = content;
  read = record { readable = short; table = table; spelled = read.1 };
  program = subst (λ (n : List (List ℕ)). IsProgramOf n classes content program) read.0 lowered;
}
by_program files ordered content names classes (Refused refusal) order short table read lowered =
    of_whole ordered classes content order (record { readable = short; table = table; spelled = read.1 })
    (subst (λ (n : List (List ℕ)). IsRefusedWhole n classes refusal) read.0 lowered)

-- what the class files come to under the folder's table
pub concluded : (files ordered : List File) (judged : Judged) (content : Content) (judgement : Judgement) → AreInOrder files ordered → AreReadable ordered
    → AreJudged (read_files ordered) judged → HasTable ordered content → ComesUnder judged.classes content judgement → ComesTo files judgement
concluded files ordered judged content judgement order by_name read table under =
    by judged.classes.refusal
    (subst (λ (l : List File). AreReadSoFar l judged.classes.names judged.classes.classes.items judged.classes.refusal) (same_classes ordered) read.classes) under
  where
    by : (refusal : Option Refusal) → AreReadSoFar (class_files ordered) judged.classes.names judged.classes.classes.items refusal
        → ComesUnderSo judged.classes.names judged.classes.classes.items refusal content judgement → ComesTo files judgement
    by None so_far comes = by_program files ordered content judged.classes.names judged.classes.classes.items judgement order (readable ordered judged by_name read) table so_far comes
    by (Some refusal) so_far comes =
        subst (ComesTo files) (sym comes) (by_class files ordered content judged.classes.names judged.classes.classes.items refusal order (readable ordered judged by_name read) table so_far)
