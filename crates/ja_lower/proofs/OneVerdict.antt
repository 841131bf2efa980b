-- A folder is accepted as one program or refused for one thing, and never both.
use Rattle.std.proofs.Common.{◌≡◌, ℕ, suc, ◌<◌, ◌≤◌, inl, inr, true, false, true≢false, List, [], ◌∷◌, length, get_or, refl, sym, ap, ◌∙◌, subst, arith}
use Rattle.std.specs.Prelude.{Some, None, AllPairs, Contains, bytes_eq}
use Rattle.std.specs.Ordering.{is_eq, nat_cmp, ordering_index, ordering_reverse}
use Rattle.std.specs.declared.cmp.Ordering.{Ordering}
use Rattle.std.specs.declared.cmp.Ordering.TheVariants.{Less, Equal, Greater}
use Rattle.std.specs.Cmp.{tied_itself}
use Rattle.std.specs.Cmp.Lexicographic.{slice_cmp}
use Rattle.std.proofs.lemmas.Bool.{cases_order}
use Rattle.std.proofs.lemmas.Cmp.{nat_list_cmp_total}
use Rattle.std.proofs.lemmas.List.{get_or-map, get_or_default, length-map}
use Rattle.std.proofs.lemmas.List.Sorted.{Contains-permutation, IsPermutation-map, IsPermutation-sym, IsPermutation-trans, searchable_from_sorted}
use Rattle.std.proofs.lemmas.Map.Keys.{IsDistinct-IsPermutation, apart_from_distinct}
use Rattle.std.proofs.lemmas.Map.Text.{is_eq-slice_cmp}
use Rattle.std.proofs.lemmas.Option.{slice_get_within}
use Rattle.ja_base.specs.declared.file.File.{File}
use Rattle.ja_base.specs.declared.refusal.Refusal.{Refusal}
use Rattle.ja_base.specs.declared.refusal.Refusal.TheVariants.{Archive, FileTooLong, TotalTooLong}
use Rattle.ja_ir.specs.declared.program.Parts.{Parts}
use Rattle.ja_class.specs.declared.fault.ClassFault.{ClassFault}
use Rattle.ja_class.specs.Meaning.{ClassSpelled}
use Rattle.ja_class.specs.ClassFile.{IsClass}
use Rattle.ja_class.specs.ClassFault.{IsFault}
use Rattle.ja_lib.specs.Content.{Content}
use Rattle.ja_lib.specs.declared.fault.TableFault.{TableFault}
use Rattle.ja_lib.specs.declared.fault.TableFault.TheVariants as tables
use Rattle.ja_lib.specs.File.{IsTableFile, IsFaultOf}
use Rattle.ja_methods.proofs.InstrSteps.{same-item}
use Rattle.ja_methods.proofs.Reaches.{Found, found}
use Rattle.ja_lower.specs.Accept.{IsTableIn, HasTable, own, default, IsTableRefused, AreClassesOf, IsFileRefused, IsFaulty, AreRead, AreRefused, unread, of_table, of_class, Accepts, Refuses, of_files, of_whole}
use Rattle.ja_lower.specs.Folder.{AreInOrder, AreNamedApart, IsLengthRefusal, file_too_long, total_too_long, IsOver, IsReadable, IsRefusedUnread, archive, too_many_files, too_long, IsArchiveAt, IsTooLong, class_files, names_of, read_files}
use Rattle.ja_lower.specs.Program.{IsProgramOf, IsRefusedWhole}
use Rattle.ja_lower.specs.Refusals.{class_refusal, table_refusal}
use Rattle.ja_lower.proofs.OneList.{one-list}
use Rattle.ja_lower.proofs.OneProgram.{one-first}

-- ---- one order

-- the name of the first comes before that of the second
abbrev Precedes : File → File → Type 0
Precedes a b = slice_cmp nat_cmp a.name b.name ≡ Less

never-both-ways : (a b : File) → Precedes a b → Precedes b a → ⊥
never-both-ways a b p q = let e : Less ≡ Greater = sym p ∙ nat_list_cmp_total.antisymm a.name b.name ∙ ap ordering_reverse q in cc e

flips : (x y : List ℕ) → bytes_eq x y ≡ bytes_eq y x
flips x y = sym (is_eq-slice_cmp x y) ∙ ap is_eq (nat_list_cmp_total.antisymm x y) ∙ turned (slice_cmp nat_cmp y x) ∙ is_eq-slice_cmp y x
  where
    turned : (r : Ordering) → is_eq (ordering_reverse r) ≡ is_eq r
    turned Less = refl
    turned Equal = refl
    turned Greater = refl

-- a text that is no greater than another, and is not it, is less
less : (r : Ordering) → ordering_index r ≤ 1 → is_eq r ≡ false → r ≡ Less
less Less low apart = refl
less Equal low apart = absurd (true≢false apart)
less Greater low apart = absurd (omega arith)

named-apart : (files ordered : List File) → AreNamedApart files → AreInOrder files ordered → AreNamedApart ordered
named-apart files ordered apart order = IsDistinct-IsPermutation bytes_eq flips (names_of files) (names_of ordered) (IsPermutation-map (λ (file : File). file.name) files ordered order.each) apart

name-at : (files : List File) (k : ℕ) (d : File) → k < length files → get_or (names_of files) k d.name ≡ (get_or files k d).name
name-at files k d lt = get_or-map (λ (file : File). file.name) files k d d.name lt

-- in a folder, where one file stands before another, its name comes before
in-order : (files ordered : List File) → AreNamedApart files → AreInOrder files ordered → AllPairs Precedes ordered
in-order files ordered apart order i j d lt within =
    let names : List (List ℕ) = names_of ordered in
    let size : length names ≡ length ordered = length-map ordered (λ (file : File). file.name) in
    let x : List ℕ = get_or names i d.name in
    let y : List ℕ = get_or names j d.name in
    let rising : ordering_index (slice_cmp nat_cmp x y) ≤ ordering_index (slice_cmp nat_cmp y y) =
    searchable_from_sorted nat_list_cmp_total (λ (n : List ℕ). n) names y order.sorted i j d.name (omega arith) (omega arith) in
    let level : ordering_index (slice_cmp nat_cmp y y) ≡ 1 = ap ordering_index (tied_itself nat_list_cmp_total y) in
    let other : bytes_eq x y ≡ false = apart_from_distinct bytes_eq names i j d.name (named-apart files ordered apart order) lt (omega arith) in
    let low : slice_cmp nat_cmp x y ≡ Less = less (slice_cmp nat_cmp x y) (omega arith) (is_eq-slice_cmp x y ∙ other) in
    (λ t. slice_cmp nat_cmp (sym (name-at ordered i d (omega arith)) t) (sym (name-at ordered j d within) t)) ∙ low

-- a folder has one order
one-order : (files ordered other : List File) → AreNamedApart files → AreInOrder files ordered → AreInOrder files other → ordered ≡ other
one-order files ordered other apart order also =
    let there = IsPermutation-trans ordered files other (IsPermutation-sym files ordered order.each) also.each in
    let back = IsPermutation-trans other files ordered (IsPermutation-sym files other also.each) order.each in
    one-list Precedes never-both-ways ordered other (in-order files ordered apart order) (in-order files other apart also)
    (λ z. Contains-permutation ordered other z there) (λ z. Contains-permutation other ordered z back)

-- ---- one table

-- names at two places differ
names-differ : (files : List File) (i j : ℕ) (d : File) → AreNamedApart files → i < j → j < length files → (get_or files i d).name ≡ (get_or files j d).name → ⊥
names-differ files i j d apart lt within e =
    let names : List (List ℕ) = names_of files in
    let size : length names ≡ length files = length-map files (λ (file : File). file.name) in
    let x : List ℕ = get_or names i d.name in
    let y : List ℕ = get_or names j d.name in
    let same : x ≡ y = name-at files i d (omega arith) ∙ e ∙ sym (name-at files j d within) in
    let equal : is_eq (slice_cmp nat_cmp x y) ≡ true = (λ t. is_eq (slice_cmp nat_cmp (same t) y)) ∙ ap is_eq (tied_itself nat_list_cmp_total y) in
    true≢false (sym equal ∙ is_eq-slice_cmp x y ∙ apart_from_distinct bytes_eq names i j d.name apart lt (omega arith))

one-named : (files : List File) (a b : File) → AreNamedApart files → Contains files a → Contains files b → a.name ≡ b.name → a ≡ b
one-named files a b apart held also e =
    let lt = held.1 in
    let also-lt = also.1 in
    let at : get_or files also.0 a ≡ b = get_or_default files also.0 a b also.1 ∙ also.2 in
    let names : (get_or files held.0 a).name ≡ (get_or files also.0 a).name = ap (λ (f : File). f.name) held.2 ∙ e ∙ sym (ap (λ (f : File). f.name) at) in
    elim (cases_order held.0 also.0) [
      | inl same ↦ sym held.2 ∙ ap (λ (k : ℕ). get_or files k a) same ∙ at
      | inr other ↦ elim other [
        | inl before ↦ absurd (names-differ files held.0 also.0 a apart before also-lt names)
        | inr behind ↦ absurd (names-differ files also.0 held.0 a apart behind lt (sym names))
      ]
    ]

one-table-file : (files : List File) (a b : File) → AreNamedApart files → IsTableIn files a → IsTableIn files b → a ≡ b
one-table-file files a b apart is also = one-named files a b apart is.held also.held (is.named ∙ sym also.named)

-- what the laws below say
abbrev pub OneContent : Type 0
OneContent = (bytes : List ℕ) (content other : Content) → IsTableFile bytes content → IsTableFile bytes other → content ≡ other

abbrev pub ContentOrFault : Type 0
ContentOrFault = (bytes : List ℕ) (content : Content) (fault : TableFault) → (fault ≡ tables.Memory → ⊥) → IsTableFile bytes content → IsFaultOf bytes fault → ⊥

abbrev pub OneTableFault : Type 0
OneTableFault =
    (bytes : List ℕ) (fault other : TableFault) → (fault ≡ tables.Memory → ⊥) → (other ≡ tables.Memory → ⊥) → IsFaultOf bytes fault → IsFaultOf bytes other → fault ≡ other

one-content : OneContent → (files : List File) (content other : Content) → AreNamedApart files → HasTable files content → HasTable files other → content ≡ other
one-content one files content other apart (own file is says) (own another also also-says) =
    let same : file ≡ another = one-table-file files file another apart is also in
    one another.bytes content other (subst (λ (f : File). IsTableFile f.bytes content) same says) also-says
one-content one files content other apart (own file is says) (default none) = absurd (none file is)
one-content one files content other apart (default none) (own another also also-says) = absurd (none another also)
one-content one files content other apart (default none) (default nor) = refl

-- a refusal is none for want of memory
table-lasts : (fault : TableFault) (refusal : Refusal) → table_refusal fault ≡ Some refusal → fault ≡ tables.Memory → ⊥
table-lasts fault refusal e lost = let f : None ≡ Some refusal = ap table_refusal (sym lost) ∙ e in cc f

table-or-refusal : ContentOrFault → (files : List File) (content : Content) (refusal : Refusal) → AreNamedApart files → HasTable files content → IsTableRefused files refusal → ⊥
table-or-refusal exclude files content refusal apart (own file is says) refused =
    let same : file ≡ refused.file = one-table-file files file refused.file apart is refused.table in
    exclude refused.file.bytes content refused.fault (table-lasts refused.fault refusal refused.is) (subst (λ (f : File). IsTableFile f.bytes content) same says) refused.wrong
table-or-refusal exclude files content refusal apart (default none) refused = none refused.file refused.table

one-table-refusal : OneTableFault → (files : List File) (refusal other : Refusal) → AreNamedApart files → IsTableRefused files refusal → IsTableRefused files other → refusal ≡ other
one-table-refusal one files refusal other apart is also =
    let same : is.file ≡ also.file = one-table-file files is.file also.file apart is.table also.table in
    let fault : is.fault ≡ also.fault =
    one also.file.bytes is.fault also.fault (table-lasts is.fault refusal is.is) (table-lasts also.fault other also.is) (subst (λ (f : File). IsFaultOf f.bytes is.fault) same is.wrong) also.wrong in
    let both : Some refusal ≡ Some other = sym is.is ∙ ap table_refusal fault ∙ also.is in
    cc both

-- ---- one list of classes

abbrev pub OneClass : Type 0
OneClass = (bytes : List ℕ) (class other : ClassSpelled) → IsClass bytes class → IsClass bytes other → class ≡ other

abbrev pub ClassOrFault : Type 0
ClassOrFault = (bytes : List ℕ) (class : ClassSpelled) (fault : ClassFault) → IsClass bytes class → IsFault bytes fault → ⊥

abbrev pub OneClassFault : Type 0
OneClassFault = (bytes : List ℕ) (fault other : ClassFault) → IsFault bytes fault → IsFault bytes other → fault ≡ other

one-classes : OneClass → (files : List File) (xs ys : List ClassSpelled) → AreClassesOf files xs → AreClassesOf files ys → xs ≡ ys
one-classes one [] [] [] are also = refl
one-classes one [] [] (y ∷ ys) are also = let size = also.size in absurd (omega arith)
one-classes one [] (x ∷ xs) ys are also = let size = are.size in absurd (omega arith)
one-classes one (f ∷ files) [] ys are also = let size = are.size in absurd (omega arith)
one-classes one (f ∷ files) (x ∷ xs) [] are also = let size = also.size in absurd (omega arith)
one-classes one (f ∷ files) (x ∷ xs) (y ∷ ys) are also =
    let size = are.size in
    let also-size = also.size in
    let first : x ≡ y = one f.bytes x y (are.each 0 f x refl refl) (also.each 0 f y refl refl) in
    let others : xs ≡ ys =
    one-classes one files xs ys (record { size = omega arith; each = λ c file class p q. are.each (suc c) file class p q }) (record { size = omega arith; each = λ c file class p q. also.each (suc c) file class p q }) in
    λ i. (first i) ∷ (others i)

class-or-refusal : ClassOrFault → (files : List File) (classes : List ClassSpelled) (c : ℕ) (refusal : Refusal) → AreClassesOf files classes → IsFileRefused files c refusal → ⊥
class-or-refusal exclude files classes c refusal are refused =
    let within : c < length files = slice_get_within files c refused.file refused.at in
    let size = are.size in
    let class : Found classes c = found classes c (omega arith) in
    exclude refused.file.bytes class.item refused.fault (are.each c refused.file class.item refused.at class.at) refused.wrong

one-file-refusal : OneClassFault → (files : List File) (c : ℕ) (refusal other : Refusal) → IsFileRefused files c refusal → IsFileRefused files c other → refusal ≡ other
one-file-refusal one files c refusal other is also =
    let file : is.file ≡ also.file = same-item files c c is.file also.file refl is.at also.at in
    let fault : is.fault ≡ also.fault = one also.file.bytes is.fault also.fault (subst (λ (f : File). IsFault f.bytes is.fault) file is.wrong) also.wrong in
    let both : Some refusal ≡ Some other = sym is.is ∙ (λ i. class_refusal (file i).name (fault i)) ∙ also.is in
    cc both

-- ---- one refusal by names and lengths

one-length-refusal : (files : List File) (refusal other : Refusal) → IsLengthRefusal files refusal → IsLengthRefusal files other → refusal ≡ other
one-length-refusal files refusal other (file_too_long k file first at long) (file_too_long l another also also-at also-long) =
    ap (λ (f : File). FileTooLong f.name) (same-item files k l file another (one-first (IsOver files) k l first also) at also-at)
one-length-refusal files refusal other (file_too_long k file first at long) (total_too_long l another also also-at short) =
    absurd (short (subst IsTooLong (same-item files k l file another (one-first (IsOver files) k l first also) at also-at) long))
one-length-refusal files refusal other (total_too_long k file first at short) (file_too_long l another also also-at long) =
    absurd (short (subst IsTooLong (sym (same-item files k l file another (one-first (IsOver files) k l first also) at also-at)) long))
one-length-refusal files refusal other (total_too_long k file first at short) (total_too_long l another also also-at also-short) =
    ap (λ (f : File). TotalTooLong f.name) (same-item files k l file another (one-first (IsOver files) k l first also) at also-at)

-- some place is the first of a length refusal
over-at : (files : List File) (refusal : Refusal) → IsLengthRefusal files refusal → (k : ℕ) × IsOver files k
over-at files refusal (file_too_long k file first at long) = (k, first.holds)
over-at files refusal (total_too_long k file first at short) = (k, first.holds)

one-unread : (files : List File) (refusal other : Refusal) → IsRefusedUnread files refusal → IsRefusedUnread files other → refusal ≡ other
one-unread files refusal other (archive k file first at) (archive l another also also-at) =
    ap (λ (f : File). Archive f.name) (same-item files k l file another (one-first (IsArchiveAt files) k l first also) at also-at)
one-unread files refusal other (archive k file first at) (too_many_files none many) = absurd (none k first.holds)
one-unread files refusal other (archive k file first at) (too_long none few length) = absurd (none k first.holds)
one-unread files refusal other (too_many_files none many) (archive l another also also-at) = absurd (none l also.holds)
one-unread files refusal other (too_many_files none many) (too_many_files nor also-many) = refl
one-unread files refusal other (too_many_files none many) (too_long nor few length) = absurd (omega (arith, many, few))
one-unread files refusal other (too_long none few length) (archive l another also also-at) = absurd (none l also.holds)
one-unread files refusal other (too_long none few length) (too_many_files nor many) = absurd (omega (arith, many, few))
one-unread files refusal other (too_long none few length) (too_long nor also-few also-length) = one-length-refusal (read_files files) refusal other length also-length

readable-or-unread : (files : List File) (refusal : Refusal) → IsReadable files → IsRefusedUnread files refusal → ⊥
readable-or-unread files refusal readable (archive k file first at) = readable.no_archive k first.holds
readable-or-unread files refusal readable (too_many_files none many) = let few = readable.few in omega (arith, many, few)
readable-or-unread files refusal readable (too_long none few length) = let over = over-at (read_files files) refusal length in readable.short over.0 over.1

-- ---- the files in order

-- what the laws below say of one table and one class file
pub record AreApart : Type 0 where
  pub content : OneContent
  pub table : ContentOrFault
  pub table_fault : OneTableFault
  pub class : OneClass
  pub file : ClassOrFault
  pub class_fault : OneClassFault

read-or-refused : AreApart → (files : List File) (classes : List ClassSpelled) (content : Content) (refusal : Refusal) → AreNamedApart files → AreRead files classes content → AreRefused files refusal → ⊥
read-or-refused one files classes content refusal apart read (unread is) = readable-or-unread files refusal read.readable is
read-or-refused one files classes content refusal apart read (of_table readable is) = table-or-refusal one.table files content refusal apart read.table is
read-or-refused one files classes content refusal apart read (of_class c readable has first is) = class-or-refusal one.file (class_files files) classes c refusal read.spelled is

one-refused : AreApart → (files : List File) (refusal other : Refusal) → AreNamedApart files → AreRefused files refusal → AreRefused files other → refusal ≡ other
one-refused one files refusal other apart (unread is) (unread also) = one-unread files refusal other is also
one-refused one files refusal other apart (unread is) (of_table readable also) = absurd (readable-or-unread files refusal readable is)
one-refused one files refusal other apart (unread is) (of_class d readable has first also) = absurd (readable-or-unread files refusal readable is)
one-refused one files refusal other apart (of_table readable is) (unread also) = absurd (readable-or-unread files other readable also)
one-refused one files refusal other apart (of_table readable is) (of_table readable' also) = one-table-refusal one.table_fault files refusal other apart is also
one-refused one files refusal other apart (of_table readable is) (of_class {content} d readable' has first also) = absurd (table-or-refusal one.table files content refusal apart has is)
one-refused one files refusal other apart (of_class c readable has first is) (unread also) = absurd (readable-or-unread files other readable also)
one-refused one files refusal other apart (of_class {content} c readable has first is) (of_table readable' also) = absurd (table-or-refusal one.table files content other apart has also)
one-refused one files refusal other apart (of_class c readable has first is) (of_class d readable' has' also-first also) =
    let place : c ≡ d = one-first (IsFaulty (class_files files)) c d first also-first in
    one-file-refusal one.class_fault (class_files files) d refusal other (subst (λ (k : ℕ). IsFileRefused (class_files files) k refusal) place is) also

-- ---- the folder

abbrev pub OneProgram : Type 0
OneProgram = (files : List (List ℕ)) (classes : List ClassSpelled) (content : Content) (p other : Parts) → IsProgramOf files classes content p → IsProgramOf files classes content other → p ≡ other

abbrev pub OneWholeRefusal : Type 0
OneWholeRefusal = (files : List (List ℕ)) (classes : List ClassSpelled) (refusal other : Refusal) → IsRefusedWhole files classes refusal → IsRefusedWhole files classes other → refusal ≡ other

abbrev pub ProgramOrRefusal : Type 0
ProgramOrRefusal = (files : List (List ℕ)) (classes : List ClassSpelled) (content : Content) (p : Parts) (refusal : Refusal) → IsProgramOf files classes content p → IsRefusedWhole files classes refusal → ⊥

-- the files in two orders are read as the same
record AreSame (ordered other : List File) (classes others : List ClassSpelled) (content another : Content) : Type 0 where
  order : ordered ≡ other
  classes_are : classes ≡ others
  content_is : content ≡ another

one-reading : AreApart → (files ordered other : List File) (classes others : List ClassSpelled) (content another : Content) → AreNamedApart files → AreInOrder files ordered → AreInOrder files other
    → AreRead ordered classes content → AreRead other others another → AreSame ordered other classes others content another
one-reading one files ordered other classes others content another apart order also-order read also-read =
    let same : ordered ≡ other = one-order files ordered other apart order also-order in
    let moved : AreRead other classes content = subst (λ (l : List File). AreRead l classes content) same read in
    record {
      order = same;
      classes_are = one-classes one.class (class_files other) classes others moved.spelled also-read.spelled;
      content_is = one-content one.content other content another (named-apart files other apart also-order) moved.table also-read.table;
    }

-- a folder is accepted as one program
pub one-accepted : AreApart → OneProgram → (files : List File) (p q : Parts) → AreNamedApart files → Accepts files p → Accepts files q → p ≡ q
one-accepted one program files p q apart is also =
    let same = one-reading one files is.ordered also.ordered is.classes also.classes is.content also.content apart is.order also.order is.read also.read in
    program (names_of (class_files also.ordered)) also.classes also.content p q
    (subst (λ (l : List File). IsProgramOf (names_of (class_files l)) also.classes also.content p) same.order
    (subst (λ (l : List ClassSpelled). IsProgramOf (names_of (class_files is.ordered)) l also.content p) same.classes_are
    (subst (λ (x : Content). IsProgramOf (names_of (class_files is.ordered)) is.classes x p) same.content_is is.program)))
    also.program

-- files that are refused one by one, in two orders
refused-in : (files ordered other : List File) (refusal : Refusal) → AreNamedApart files → AreInOrder files ordered → AreInOrder files other → AreRefused ordered refusal → AreRefused other refusal
refused-in files ordered other refusal apart order also-order is = subst (λ (l : List File). AreRefused l refusal) (one-order files ordered other apart order also-order) is

-- classes that are refused as a whole, read in two orders
whole-in : AreApart → (files ordered other : List File) (classes others : List ClassSpelled) (content another : Content) (refusal : Refusal) → AreNamedApart files → AreInOrder files ordered → AreInOrder files other
    → AreRead ordered classes content → AreRead other others another → IsRefusedWhole (names_of (class_files ordered)) classes refusal → IsRefusedWhole (names_of (class_files other)) others refusal
whole-in one files ordered other classes others content another refusal apart order also-order read also-read is =
    let same = one-reading one files ordered other classes others content another apart order also-order read also-read in
    subst (λ (l : List File). IsRefusedWhole (names_of (class_files l)) others refusal) same.order (subst (λ (l : List ClassSpelled). IsRefusedWhole (names_of (class_files ordered)) l refusal) same.classes_are is)

-- a folder that is accepted is not refused
pub accepted-or-refused : AreApart → ProgramOrRefusal → (files : List File) (p : Parts) (refusal : Refusal) → AreNamedApart files → Accepts files p → Refuses files refusal → ⊥
accepted-or-refused one exclude files p refusal apart is (of_files ordered order refused) =
    read-or-refused one is.ordered is.classes is.content refusal (named-apart files is.ordered apart is.order) is.read (refused-in files ordered is.ordered refusal apart order is.order refused)
accepted-or-refused one exclude files p refusal apart is (of_whole ordered classes content order read refused) =
    exclude (names_of (class_files is.ordered)) is.classes is.content p refusal is.program (whole-in one files ordered is.ordered classes is.classes content is.content refusal apart order is.order read is.read refused)

-- a folder is refused for one thing
pub one-refusal : AreApart → OneWholeRefusal → (files : List File) (refusal other : Refusal) → AreNamedApart files → Refuses files refusal → Refuses files other → refusal ≡ other
one-refusal one whole files refusal other apart (of_files ordered order refused) (of_files ordered' order' refused') =
    one-refused one ordered' refusal other (named-apart files ordered' apart order') (refused-in files ordered ordered' refusal apart order order' refused) refused'
one-refusal one whole files refusal other apart (of_files ordered order refused) (of_whole ordered' classes content order' read refused') =
    absurd (read-or-refused one ordered' classes content refusal (named-apart files ordered' apart order') read (refused-in files ordered ordered' refusal apart order order' refused))
one-refusal one whole files refusal other apart (of_whole ordered classes content order read refused) (of_files ordered' order' refused') =
    absurd (read-or-refused one ordered classes content other (named-apart files ordered apart order) read (refused-in files ordered' ordered other apart order' order refused'))
one-refusal one whole files refusal other apart (of_whole ordered classes content order read refused) (of_whole ordered' classes' content' order' read' refused') =
    whole (names_of (class_files ordered')) classes' refusal other (whole-in one files ordered ordered' classes classes' content content' refusal apart order order' read read' refused) refused'
