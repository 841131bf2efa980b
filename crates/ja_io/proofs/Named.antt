-- Files by their names.
use Rattle.std.proofs.Common.{◌≡◌, ◌≢◌, ℕ, ◌<◌, List, [], Contains, length, get_or, sym, ◌∙◌, ap, inl, inr, arith, All, Any, take, drop, ◌+◌, ◌-◌}
use Rattle.std.proofs.lemmas.Bool.{cases_order}
use Rattle.std.proofs.lemmas.Grind.{common_steps}
use Rattle.std.proofs.lemmas.List.{get_or_default, get_or-map}
use Rattle.std.proofs.Math.ListN.{length-map}
use Rattle.ja_base.specs.declared.file.File.{File}
use Rattle.ja_io.specs.Contents.{names_of, HasDistinctNames}

-- a file without a name and without bytes
empty_file : File
empty_file = record { name = []; bytes = [] }

-- where the names are distinct, a file that is there is every file of its name
pub only_file : (files : List File) → HasDistinctNames files → (i : ℕ) (file : File) → i < length files → file ≡ get_or files i file
    → (k : ℕ) (d : File) → k < length files → (get_or files k d).name ≡ file.name → get_or files k d ≡ file
only_file files distinct i file i_in at k d k_in same =
    let here : get_or files i d ≡ file = get_or_default files i d file i_in ∙ sym at in
    elim (cases_order i k) [
      | inl e ↦ ap (λ (n : ℕ). get_or files n d) (sym e) ∙ here
      | inr order ↦ elim order [
        | inl before ↦ absurd (distinct i k d before k_in (ap (λ (f : File). f.name) here ∙ sym same))
        | inr after ↦ absurd (distinct k i d after i_in (same ∙ sym (ap (λ (f : File). f.name) here)))
      ]
    ]

-- a name that stands among the names is that of some file
pub some_file : (files : List File) (name : List ℕ) → Contains (names_of files) name
    → ((k : ℕ) (d : File) → k < length files → (get_or files k d).name ≢ name) → ⊥
some_file files name there none =
    let in' : there.0 < length files = omega (arith, there.1, length-map files (λ (f : File). f.name)) in
    none there.0 empty_file in' (sym (get_or-map (λ (f : File). f.name) files there.0 empty_file name in') ∙ there.2)

-- the files after the one at i, as a slice has them
abbrev pub after : List File → ℕ → List File
after files i = take (length files - (i + 1)) (drop (i + 1) files)

-- how many files there are after the one at i
length-after : (files : List File) (i : ℕ) → length (after files i) ≡ length files - (i + 1)
length-after files i = grind (arith, common_steps)

-- the file at k after the one at i
get_or-after : (files : List File) (i k : ℕ) (d : File) → k < length files - (i + 1)
    → get_or (after files i) k d ≡ get_or files (i + 1 + k) d
get_or-after files i k d inside = grind (arith, common_steps)

-- where a later file has the name of one, the names are not distinct
pub later_file : (files : List File) (i : ℕ) (file : File) → i < length files → file ≡ get_or files i file
    → Any (λ other. other.name ≡ file.name) (after files i) → HasDistinctNames files → ⊥
later_file files i file inside at (k, other, k_in, is, same) distinct =
    let fits : k < length files - (i + 1) = omega (arith, k_in, length-after files i) in
    let named : (get_or files (i + 1 + k) other).name ≡ file.name =
    ap (λ (f : File). f.name) (sym (get_or-after files i k other fits) ∙ is) ∙ same in
    distinct i (i + 1 + k) other (omega arith) (omega arith)
    (ap (λ (f : File). f.name) (get_or_default files i other file inside ∙ sym at) ∙ sym named)

-- where no later file has the name of one, the name is that of no later place
pub no_later_file : (files : List File) (i : ℕ) (file : File) → i < length files → file ≡ get_or files i file
    → All (λ other. other.name ≢ file.name) (after files i)
    → (b : ℕ) (d : File) → i < b → b < length files → (get_or files i d).name ≢ (get_or files b d).name
no_later_file files i file inside at none b d i_b b_in same =
    let k : ℕ = b - (i + 1) in
    let fits : k < length files - (i + 1) = omega arith in
    let place : i + 1 + k ≡ b = omega arith in
    let here : get_or files i d ≡ file = get_or_default files i d file inside ∙ sym at in
    none k d (omega (arith, fits, length-after files i))
    (ap (λ (f : File). f.name) (get_or-after files i k d fits ∙ ap (λ (n : ℕ). get_or files n d) place)
    ∙ (sym same ∙ ap (λ (f : File). f.name) here))
