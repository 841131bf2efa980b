-- What is known where a folder tells its contents, and which files have which names.
use Rattle.std.proofs.Common.{◌≡◌, ◌≢◌, ℕ, zero, suc, lit<, ◌<◌, ◌≤◌, List, [], ◌∷◌, length, map, get_or, Option, Some, None, IfSome, Result, Ok, Err, IfOk, Contains, refl, ap, sym, ◌∙◌, arith}
use Rattle.std.specs.Prelude.{IsPermutation, slice_get}
use Rattle.std.proofs.lemmas.List.Sorted.{length_permutation, Contains-permutation}
use Rattle.ja_base.specs.declared.file.File.{File}
use Rattle.ja_io.specs.Contents.{names_of}

-- a fact of what an option holds, where it holds something
pub if_some : {T : Type 0} (o : Option T) (P : T → Type 0) → ((x : T) → o ≡ Some x → P x) → IfSome o P
if_some None P h = tt
if_some (Some x) P h = h x refl

pub at_some : {T : Type 0} (o : Option T) (P : T → Type 0) (x : T) → o ≡ Some x → IfSome o P → P x
at_some None P x e h = cc
at_some (Some y) P x e h = let same : y ≡ x = cc in rw (← same) h

-- files without names are none
pub no_files : (files : List File) → IsPermutation (names_of files) [] → files ≡ []
no_files [] h = refl
no_files (f ∷ fs) h = absurd (omega (arith, length_permutation _ _ h))

-- the one name of one file is the file's
pub one_name : (file : File) (name : List ℕ) → IsPermutation (names_of (file ∷ [])) (name ∷ []) → file.name ≡ name
one_name file name h =
    let there : Contains (name ∷ []) file.name = Contains-permutation _ _ file.name h (0, lit< tt, refl) in
    only there.0 there.1 there.2
  where
    only : (k : ℕ) → k < 1 → get_or (name ∷ []) k file.name ≡ file.name → file.name ≡ name
    only zero below is = sym is
    only (suc k) below is = absurd (omega arith)

-- files of one name are one file
pub one_file : (files : List File) (name : List ℕ) → IsPermutation (names_of files) (name ∷ []) → (file : File) × (files ≡ file ∷ []) × (file.name ≡ name)
one_file [] name h = absurd (omega (arith, length_permutation _ _ h))
one_file (file ∷ []) name h = (file, refl, one_name file name h)
one_file (file ∷ other ∷ files) name h = absurd (omega (arith, length_permutation _ _ h))

-- names of which there are none
pub no_names : (names : List (List ℕ)) → length names < 1 → names ≡ []
no_names [] h = refl
no_names (n ∷ ns) h = absurd (omega arith)

-- names of which there is one
pub one_of_names : (names : List (List ℕ)) (name : List ℕ) → 1 ≤ length names → length names < 2 → name ≡ get_or names 0 name → names ≡ name ∷ []
one_of_names [] name some few is = absurd (omega arith)
one_of_names (n ∷ []) name some few is = cc
one_of_names (n ∷ m ∷ ns) name some few is = absurd (omega arith)

-- the second of two names or more
pub second_of_names : (names : List (List ℕ)) (name : List ℕ) → 2 ≤ length names → name ≡ get_or names 1 name → slice_get names 1 ≡ Some name
second_of_names [] name some is = absurd (omega arith)
second_of_names (n ∷ []) name some is = absurd (omega arith)
second_of_names (n ∷ m ∷ ns) name some is = ap Some (sym is)

-- two facts of what a result holds give a third
pub both_ok : {X E : Type 0} (r : Result X E) (P Q S : X → Type 0) → ((x : X) → P x → Q x → S x) → IfOk r P → IfOk r Q → IfOk r S
both_ok (Ok x) P Q S h p q = h x p q
both_ok (Err e) P Q S h p q = tt
