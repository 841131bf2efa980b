-- What the names of files say before any is read.
use Rattle.std.proofs.Common.{◌≡◌, ℕ, zero, suc, ◌<◌, ◌≤◌, inl, inr, Bool, true, false, cond, List, [], ◌∷◌, length, Some, None, refl, ap, sym, ◌∙◌, arith}
use Rattle.std.specs.Prelude.{IsPermutation, count_by, slice_get}
use Rattle.std.specs.List.{filter, find}
use Rattle.std.proofs.lemmas.List.Sorted.{sum_by-IsPermutation}
use Rattle.std.proofs.lemmas.List.Sums.{length-filter, sum_by-cons}
use Rattle.ja_base.specs.declared.file.File.{File}
use Rattle.ja_base.specs.declared.refusal.Refusal.TheVariants.{Archive}
use Rattle.ja_lower.specs.Folder.{class_files, is_archive, is_class_file, IsArchiveAt, IsRefusedUnread, archive, names_of}
use Rattle.ja_reading.specs.Unread.{AreRefused}
use Rattle.ja_supertypes.specs.Faults.{IsFirst, IsNowhere}

-- one file more in front
archive_behind : (f : File) (files : List File) (k : ℕ) → IsArchiveAt files k → IsArchiveAt (f ∷ files) (suc k)
archive_behind f files k is = record { file = is.file; at = is.at; archive = is.archive }

archive_of_rest : (f : File) (files : List File) (k : ℕ) → IsArchiveAt (f ∷ files) (suc k) → IsArchiveAt files k
archive_of_rest f files k is = record { file = is.file; at = is.at; archive = is.archive }

not_archive : (f : File) (files : List File) → is_archive f.name ≡ false → IsArchiveAt (f ∷ files) 0 → ⊥
not_archive f files plain is =
    let at = is.at in
    let same : f ≡ is.file = cc in
    let both : is_archive f.name ≡ true = ap (λ (x : File). is_archive x.name) same ∙ is.archive in
    cc

-- no name is that of an archive
none_behind : (f : File) (files : List File) → is_archive f.name ≡ false → IsNowhere (IsArchiveAt files) → IsNowhere (IsArchiveAt (f ∷ files))
none_behind f files plain none zero is = not_archive f files plain is
none_behind f files plain none (suc k) is = none k (archive_of_rest f files k is)

never : (name : List ℕ) → None ≡ Some name → ⊥
never name found = cc

no_archive_step : (f : File) (files : List File) → (None ≡ find is_archive (names_of files) → IsNowhere (IsArchiveAt files)) → (b : Bool) → is_archive f.name ≡ b
    → None ≡ cond b (Some f.name) (find is_archive (names_of files)) → IsNowhere (IsArchiveAt (f ∷ files))
no_archive_step f files rest true e found = absurd (never f.name found)
no_archive_step f files rest false e found = none_behind f files e (rest found)

pub no_archive : (files : List File) → None ≡ find is_archive (names_of files) → IsNowhere (IsArchiveAt files)
no_archive [] none = λ k is. let at = is.at in cc
no_archive (f ∷ files) none = no_archive_step f files (no_archive files) (is_archive f.name) refl none

-- the first archive, whose name this is
record IsFirstArchive (files : List File) (name : List ℕ) : Type 0 where
  k : ℕ
  file : File
  first : IsFirst (IsArchiveAt files) k
  at : slice_get files k ≡ Some file
  named : file.name ≡ name

before_behind : (f : File) (files : List File) → is_archive f.name ≡ false → (k : ℕ) → ((b : ℕ) → b < k → IsArchiveAt files b → ⊥) → (b : ℕ) → b < suc k
    → IsArchiveAt (f ∷ files) b → ⊥
before_behind f files plain k none zero below is = not_archive f files plain is
before_behind f files plain k none (suc b) below is = none b (omega arith) (archive_of_rest f files b is)

first_behind : (f : File) (files : List File) (name : List ℕ) → is_archive f.name ≡ false → IsFirstArchive files name → IsFirstArchive (f ∷ files) name
first_behind f files name plain rest = record {
  k = suc rest.k;
  file = rest.file;
  first = record { holds = archive_behind f files rest.k rest.first.holds; before = before_behind f files plain rest.k rest.first.before };
  at = rest.at;
  named = rest.named;
}

first_here : (f : File) (files : List File) (name : List ℕ) → is_archive f.name ≡ true → Some name ≡ Some f.name → IsFirstArchive (f ∷ files) name
first_here f files name is found = record {
  k = 0;
  file = f;
  first = record { holds = record { file = f; at = refl; archive = is }; before = λ b below other. absurd (omega arith) };
  at = refl;
  named = cc;
}

first_step : (f : File) (files : List File) (name : List ℕ) → (Some name ≡ find is_archive (names_of files) → IsFirstArchive files name) → (b : Bool) → is_archive f.name ≡ b
    → Some name ≡ cond b (Some f.name) (find is_archive (names_of files)) → IsFirstArchive (f ∷ files) name
first_step f files name rest true e found = first_here f files name e found
first_step f files name rest false e found = first_behind f files name e (rest found)

first_archive : (files : List File) (name : List ℕ) → Some name ≡ find is_archive (names_of files) → IsFirstArchive files name
first_archive [] name found = cc
first_archive (f ∷ files) name found = first_step f files name (first_archive files name) (is_archive f.name) refl found

-- the name of the first archive refuses the files
pub refused_archive : (files : List File) (name : List ℕ) → Some name ≡ find is_archive (names_of files) → IsRefusedUnread files (Archive name)
refused_archive files name found =
    let first = first_archive files name found in
    rw (← first.named) (archive first.k first.file first.first first.at)

-- how many names are those of class files
pub class_count : (files : List File) → count_by is_class_file (names_of files) ≡ length (class_files files)
class_count files = sym (length-filter is_class_file (names_of files)) ∙ by files
  where
    step : (b : Bool) (name : List ℕ) (f : File) (names : List (List ℕ)) (fs : List File) → length names ≡ length fs
        → length (cond b (name ∷ names) names) ≡ length (cond b (f ∷ fs) fs)
    step true name f names fs same = ap suc same
    step false name f names fs same = same

    by : (fs : List File) → length (filter is_class_file (names_of fs)) ≡ length (class_files fs)
    by [] = refl
    by (f ∷ fs) = step (is_class_file f.name) f.name f (filter is_class_file (names_of fs)) (class_files fs) (by fs)

-- names without an archive, of which few are those of class files, do not refuse the files
none_found_step : (name : List ℕ) (names : List (List ℕ)) → (None ≡ find is_archive names → count_by is_archive names ≡ 0) → (b : Bool) → is_archive name ≡ b
    → None ≡ cond b (Some name) (find is_archive names) → count_by is_archive (name ∷ names) ≡ 0
none_found_step name names rest true is found = absurd (never name found)
none_found_step name names rest false is found =
    let one : cond {A = ℕ} (is_archive name) 1 0 ≡ 0 = ap (λ (b : Bool). cond {A = ℕ} b 1 0) is in
    omega (arith, one, rest found, sum_by-cons (λ (n : List ℕ). cond (is_archive n) 1 0) name names)

none_found : (names : List (List ℕ)) → None ≡ find is_archive names → count_by is_archive names ≡ 0
none_found [] none = refl
none_found (name ∷ names) none = none_found_step name names (none_found names) (is_archive name) refl none

pub not_refused : (names : List (List ℕ)) → None ≡ find is_archive names → count_by is_class_file names ≤ 4096 → AreRefused names → ⊥
not_refused names none few refused = elim refused [
  | inl some ↦ absurd (omega (arith, some, none_found names none))
  | inr many ↦ absurd (omega (arith, many))
]

-- as many names pass a test in each order
pub count_in_order : (p : List ℕ → Bool) (names ordered : List (List ℕ)) → IsPermutation names ordered → count_by p ordered ≡ count_by p names
count_in_order p names ordered moved = sum_by-IsPermutation (λ (n : List ℕ). cond (p n) 1 0) names ordered moved

pub refused_in_order : (names ordered : List (List ℕ)) → IsPermutation names ordered → AreRefused names → AreRefused ordered
refused_in_order names ordered moved refused = elim refused [
  | inl some ↦ inl (omega (arith, some, count_in_order is_archive names ordered moved))
  | inr many ↦ inr (omega (arith, many, count_in_order is_class_file names ordered moved))
]
