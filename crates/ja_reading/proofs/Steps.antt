-- One file more that is read and judged.
use Rattle.std.proofs.Common.{◌≡◌, ℕ, ◌+◌, ◌<◌, ◌≤◌, inl, inr, List, [], ◌∷◌, ◌++◌, length, take, Option, Some, None, IfSome, All, Contains, refl, ap, sym, ◌∙◌, subst, arith}
use Rattle.std.proofs.lemmas.List.{length-take, take_all}
use Rattle.std.proofs.lemmas.List.Elements.{All-contains}
use Rattle.ja_base.specs.declared.file.File.{File}
use Rattle.ja_base.specs.declared.refusal.Refusal.{Refusal}
use Rattle.ja_base.specs.declared.refusal.Refusal.TheVariants.{FileTooLong, TotalTooLong}
use Rattle.ja_io.specs.Contents.{Contents}
use Rattle.ja_io.specs.Front.{IsFront}
use Rattle.ja_io.specs.declared.folder.Piece.{Piece}
use Rattle.ja_lower.specs.Folder.{IsLengthRefusal}
use Rattle.ja_reading.specs.Judged.{AreJudged, IsTooLongBehind, bytes_of}
use Rattle.ja_reading.specs.declared.judged.Judged.{Judged}
use Rattle.ja_reading.proofs.Lengths.{last_too_long, last_too_much}

-- a fact of what an option holds, where it holds something
pub if_some : {T : Type 0} (o : Option T) (P : T → Type 0) → ((x : T) → o ≡ Some x → P x) → IfSome o P
if_some None P h = tt
if_some (Some x) P h = h x refl

pub at_some : {T : Type 0} (o : Option T) (P : T → Type 0) (x : T) → o ≡ Some x → IfSome o P → P x
at_some None P x e h = cc
at_some (Some y) P x e h = let same : y ≡ x = cc in subst P same h

-- a read of a held file gives its front
pub front_of : (told : Option Contents) (held : Contents) (name : List ℕ) (most : ℕ) (piece : Piece) → told ≡ Some held
    → IfSome told (λ (h : Contents). All (λ (file : File). file.name ≡ name → IsFront file.bytes most piece) h.files)
    → (file : File) → Contains held.files file → file.name ≡ name → piece.bytes ≡ take most file.bytes
front_of told held name most piece is front file listed named =
    let one : IsFront file.bytes most piece =
    All-contains (λ (f : File). f.name ≡ name → IsFront f.bytes most piece) held.files file
    (at_some told (λ (h : Contents). All (λ (f : File). f.name ≡ name → IsFront f.bytes most piece) h.files) held is front) listed named in
    one.bytes

-- a front that is long is that of a long file
front_is_long : (content : List ℕ) (most : ℕ) (bytes : List ℕ) → bytes ≡ take most content → 4194304 < length bytes → 4194304 < length content
front_is_long content most bytes front long =
    let size : length bytes ≡ length (take most content) = ap length front in
    omega (arith, length-take most content)

-- a front that is short is the whole
pub front_is_whole : (content : List ℕ) (most : ℕ) (bytes : List ℕ) → 4194304 < most → bytes ≡ take most content → length bytes ≤ 4194304 → bytes ≡ content
front_is_whole content most bytes more front short =
    let size : length bytes ≡ length (take most content) = ap length front in
    let within : length content ≤ most = omega (arith, length-take most content) in
    front ∙ take_all most content within

-- the file is too long
too_long_step : (files : List File) (file : File) (judged : Judged) (name : List ℕ) (most : ℕ) (bytes : List ℕ) → bytes ≡ take most file.bytes
    → 4194304 < length bytes → file.name ≡ name → AreJudged files judged → IsLengthRefusal (files ++ file ∷ []) (FileTooLong name)
too_long_step files file judged name most bytes front long named before =
    subst (λ (n : List ℕ). IsLengthRefusal (files ++ file ∷ []) (FileTooLong n)) named
    (last_too_long files file before.short (front_is_long file.bytes most bytes front long))

-- with the file all are too long together
too_much_step : (files : List File) (file : File) (judged : Judged) (name : List ℕ) (most : ℕ) (bytes : List ℕ) → 4194304 < most → bytes ≡ take most file.bytes
    → length bytes ≤ 4194304 → 67108864 < judged.total + length bytes → file.name ≡ name → AreJudged files judged
    → IsLengthRefusal (files ++ file ∷ []) (TotalTooLong name)
too_much_step files file judged name most bytes more front short much named before =
    let whole : bytes ≡ file.bytes = front_is_whole file.bytes most bytes more front short in
    let size : length bytes ≡ length file.bytes = ap length whole in
    let total : judged.total ≡ bytes_of files = before.total in
    subst (λ (n : List ℕ). IsLengthRefusal (files ++ file ∷ []) (TotalTooLong n)) named
    (last_too_much files file before.short (omega arith) (omega arith))

-- the file is too long behind the others, alone or with them
pub too_long_behind : (files : List File) (file : File) (judged : Judged) (name : List ℕ) (most : ℕ) (bytes : List ℕ) (refusal : Refusal) → 4194304 < most
    → bytes ≡ take most file.bytes → file.name ≡ name → IsTooLongBehind judged.total name (length bytes) refusal → AreJudged files judged
    → IsLengthRefusal (files ++ file ∷ []) refusal
too_long_behind files file judged name most bytes refusal more front named long before = elim long [
  | inl alone ↦ subst (IsLengthRefusal (files ++ file ∷ [])) (sym alone.0) (too_long_step files file judged name most bytes front alone.1 named before)
  | inr together ↦
      subst (IsLengthRefusal (files ++ file ∷ [])) (sym together.0) (too_much_step files file judged name most bytes more front together.1 together.2 named before)
]
