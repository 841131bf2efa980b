-- Files that are read one after another, in the order of their names.
use Rattle.std.proofs.Common.{◌≡◌, ℕ, ◌+◌, ◌<◌, ◌≤◌, Bool, true, cond, List, [], ◌∷◌, ◌++◌, length, get_or, take, drop, Option, Some, IfSome, Contains, Result, Ok, Err, ap, sym, ◌∙◌, subst, arith}
use Rattle.std.specs.Prelude.{IsPermutation, count_by}
use Rattle.std.proofs.lemmas.List.{get_or-map, get_or_default, take_all, take_more, take-append-drop}
use Rattle.std.proofs.lemmas.List.Elements.{filter-append}
use Rattle.std.proofs.lemmas.List.Sorted.{Contains-permutation, IsPermutation-sym}
use Rattle.std.proofs.lemmas.List.Sums.{sum_by-cons, sum_by_more, sum_by-take-le}
use Rattle.std.proofs.Math.ListN.{length-map}
use Rattle.ja_base.specs.declared.file.File.{File}
use Rattle.ja_base.specs.declared.refusal.Refusal.{Refusal}
use Rattle.ja_io.specs.Contents.{Contents, names_of}
use Rattle.ja_lower.specs.Folder.{IsLengthRefusal, is_read, read_files}
use Rattle.ja_reading.specs.Judged.{AreJudged, AreJudgedOrLong}
use Rattle.ja_reading.specs.declared.judged.Judged.{Judged}
use Rattle.ja_reading.proofs.Lengths.{length_refusal_more}
use Rattle.ja_reading.proofs.Steps.{at_some, if_some}

-- the files that matter, with one file more
read_more : (files : List File) (next : File) → is_read next.name ≡ true → read_files (files ++ next ∷ []) ≡ read_files files ++ next ∷ []
read_more files next is =
    filter-append (λ (f : File). is_read f.name) files (next ∷ []) ∙ ap (λ (b : Bool). read_files files ++ cond b (next ∷ []) []) is

-- a file that matters is one of those that do
pub one_more : (files : List File) (next : File) (name : List ℕ) (outcome : Result Judged Refusal) → is_read name ≡ true → next.name ≡ name
    → AreJudgedOrLong (read_files files ++ next ∷ []) outcome → AreJudgedOrLong (read_files (files ++ next ∷ [])) outcome
one_more files next name outcome matters named judged =
    subst (λ (l : List File). AreJudgedOrLong l outcome) (sym (read_more files next (ap is_read named ∙ matters))) judged

-- the file whose name stands in place k
record IsPlace (ordered : List File) (k : ℕ) (name : List ℕ) : Type 0 where
  file : File
  held : Contains ordered file
  named : file.name ≡ name
  front : take (k + 1) ordered ≡ take k ordered ++ file ∷ []

no_file : File
no_file = record { name = []; bytes = [] }

place_of : (ordered : List File) (names : List (List ℕ)) (k : ℕ) (name : List ℕ) → names_of ordered ≡ names → k < length names → name ≡ get_or names k name → IsPlace ordered k name
place_of ordered names k name same below is =
    let size : length (names_of ordered) ≡ length names = ap length same in
    let within : k < length ordered = omega (arith, length-map ordered (λ (f : File). f.name)) in
    let file : File = get_or ordered k no_file in
    record {
      file = file;
      held = (k, within, get_or_default ordered k file no_file within);
      named =
          sym (get_or-map (λ (f : File). f.name) ordered k no_file name within)
          ∙ ap (λ (l : List (List ℕ)). get_or l k name) same
          ∙ sym is;
      front = take_more ordered k no_file within;
    }

-- what the files of the first k names come to, in each order in which all files have these names
pub AreJudgedUpTo : Option Contents → (names : List (List ℕ)) (k : ℕ) → Judged → Type 0
AreJudgedUpTo told names k judged =
    (held : Contents) → told ≡ Some held → (ordered : List File) → IsPermutation held.files ordered → names_of ordered ≡ names → AreJudged (read_files (take k ordered)) judged

-- what one name more comes to, as `read_next` says it
abbrev pub IsNext : Option Contents → (name : List ℕ) → Judged → Result Judged Refusal → Type 0
IsNext told name judged outcome =
    IfSome told (λ (held : Contents). (files : List File) (next : File) → Contains held.files next → next.name ≡ name → AreJudged (read_files files) judged
    → AreJudgedOrLong (read_files (files ++ next ∷ [])) outcome)

-- the invariant of reading: before the first name, after one more, and after the last
pub none_yet : (told : Option Contents) (names : List (List ℕ)) (judged : Judged) → AreJudged [] judged → AreJudgedUpTo told names 0 judged
unfolding AreJudgedUpTo
none_yet told names judged nothing held is ordered moved named = nothing

step : (told : Option Contents) (names : List (List ℕ)) (k : ℕ) (name : List ℕ) (judged : Judged) (outcome : Result Judged Refusal) → k < length names
    → name ≡ get_or names k name → AreJudgedUpTo told names k judged → IsNext told name judged outcome
    → (held : Contents) → told ≡ Some held → (ordered : List File) → IsPermutation held.files ordered → names_of ordered ≡ names
    → AreJudgedOrLong (read_files (take (k + 1) ordered)) outcome
unfolding AreJudgedUpTo
step told names k name judged outcome below at so_far next held is ordered moved named =
    let place = place_of ordered names k name named below at in
    let listed : Contains held.files place.file = Contains-permutation ordered held.files place.file (IsPermutation-sym held.files ordered moved) place.held in
    let judged_next : AreJudgedOrLong (read_files (take k ordered ++ place.file ∷ [])) outcome =
    at_some told (λ (h : Contents). (files : List File) (f : File) → Contains h.files f → f.name ≡ name → AreJudged (read_files files) judged
    → AreJudgedOrLong (read_files (files ++ f ∷ [])) outcome)
    held is next (take k ordered) place.file listed place.named (so_far held is ordered moved named) in
    subst (λ (l : List File). AreJudgedOrLong (read_files l) outcome) (sym place.front) judged_next

pub next_judged : (told : Option Contents) (names : List (List ℕ)) (k : ℕ) (name : List ℕ) (judged now : Judged) → k < length names → name ≡ get_or names k name
    → AreJudgedUpTo told names k judged → IsNext told name judged (Ok now) → AreJudgedUpTo told names (k + 1) now
unfolding AreJudgedUpTo
next_judged told names k name judged now below at so_far next = step told names k name judged (Ok now) below at so_far next

pub all_judged : (told : Option Contents) (names : List (List ℕ)) (judged : Judged) → AreJudgedUpTo told names (length names) judged
    → IfSome told (λ (held : Contents). (ordered : List File) → IsPermutation held.files ordered → names_of ordered ≡ names → AreJudged (read_files ordered) judged)
unfolding AreJudgedUpTo
all_judged told names judged so_far = if_some told _ (λ held is ordered moved named.
    let size : length (names_of ordered) ≡ length names = ap length named in
    let whole : take (length names) ordered ≡ ordered = take_all (length names) ordered (omega (arith, length-map ordered (λ (f : File). f.name))) in
    subst (λ (l : List File). AreJudged (read_files l) judged) whole (so_far held is ordered moved named))

-- a file that is too long refuses all, whatever follows
pub next_too_long : (told : Option Contents) (names : List (List ℕ)) (k : ℕ) (name : List ℕ) (judged : Judged) (refusal : Refusal) → k < length names
    → name ≡ get_or names k name → AreJudgedUpTo told names k judged → IsNext told name judged (Err refusal)
    → IfSome told (λ (held : Contents). (ordered : List File) → IsPermutation held.files ordered → names_of ordered ≡ names → IsLengthRefusal (read_files ordered) refusal)
next_too_long told names k name judged refusal below at so_far next = if_some told _ (λ held is ordered moved named.
    let front : IsLengthRefusal (read_files (take (k + 1) ordered)) refusal = step told names k name judged (Err refusal) below at so_far next held is ordered moved named in
    let more : IsLengthRefusal (read_files (take (k + 1) ordered) ++ read_files (drop (k + 1) ordered)) refusal =
    length_refusal_more (read_files (take (k + 1) ordered)) (read_files (drop (k + 1) ordered)) refusal front in
    let parts : read_files ordered ≡ read_files (take (k + 1) ordered) ++ read_files (drop (k + 1) ordered) =
    ap read_files (sym (take-append-drop (k + 1) ordered)) ∙ filter-append (λ (f : File). is_read f.name) (take (k + 1) ordered) (drop (k + 1) ordered) in
    subst (λ (l : List File). IsLengthRefusal l refusal) (sym parts) more)

-- each name of the list is that of a file
pub is_listed : (told : Option Contents) (names : List (List ℕ)) (k : ℕ) (name : List ℕ) → k < length names → name ≡ get_or names k name
    → ((held : Contents) → told ≡ Some held → IsPermutation (names_of held.files) names) → (held : Contents) → told ≡ Some held → Contains (names_of held.files) name
is_listed told names k name below at each held is =
    Contains-permutation names (names_of held.files) name (IsPermutation-sym (names_of held.files) names (each held is)) (k, below, sym at)

-- how many names are those of files that matter, with one name more
count_more : (names : List (List ℕ)) (k : ℕ) (name : List ℕ) → k < length names → name ≡ get_or names k name
    → count_by is_read (take (k + 1) names) ≡ count_by is_read (take k names) + count_by is_read (name ∷ [])
count_more names k name below at =
    let f : List ℕ → ℕ = λ n. cond {A = ℕ} (is_read n) 1 0 in
    let same : f (get_or names k name) ≡ f name = ap f (sym at) in
    omega (arith, same, sum_by_more f names k name below, sum_by-cons f name [])

-- so many calls there are by then, and in all
pub calls_more : (names : List (List ℕ)) (k : ℕ) (name : List ℕ) (calls before now : ℕ) → k < length names → name ≡ get_or names k name
    → before ≤ calls + count_by is_read (take k names) → now ≤ before + count_by is_read (name ∷ []) → now ≤ calls + count_by is_read (take (k + 1) names)
calls_more names k name calls before now below at so_far next = omega (arith, so_far, next, count_more names k name below at)

pub calls_within : (names : List (List ℕ)) (k : ℕ) (name : List ℕ) (calls before now : ℕ) → k < length names → name ≡ get_or names k name
    → before ≤ calls + count_by is_read (take k names) → now ≤ before + count_by is_read (name ∷ []) → now ≤ calls + count_by is_read names
calls_within names k name calls before now below at so_far next =
    omega (arith, calls_more names k name calls before now below at so_far next, sum_by-take-le (λ (n : List ℕ). cond {A = ℕ} (is_read n) 1 0) names (k + 1))
