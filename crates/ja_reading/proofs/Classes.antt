-- Class files that are read one after another.
use Rattle.std.proofs.Common.{◌≡◌, ℕ, zero, suc, ◌<◌, inl, inr, List, [], ◌∷◌, ◌++◌, length, Some, None, refl, ap, subst, arith, length-append}
use Rattle.std.specs.Prelude.{slice_get}
use Rattle.std.proofs.lemmas.Option.{slice_get_within}
use Rattle.ja_base.specs.declared.file.File.{File}
use Rattle.ja_base.specs.declared.refusal.Refusal.{Refusal}
use Rattle.ja_class.specs.declared.fault.ClassFault.{ClassFault}
use Rattle.ja_class.specs.Meaning.{ClassSpelled}
use Rattle.ja_class.specs.ClassFile.{IsClass}
use Rattle.ja_class.specs.ClassFault.{IsFault}
use Rattle.ja_lower.specs.Accept.{AreClassesOf, IsFileRefused}
use Rattle.ja_lower.specs.Refusals.{class_refusal}
use Rattle.ja_reading.specs.Judged.{AreRead}
use Rattle.ja_reading.proofs.Places.{in_front, kept, last, push_cases}

-- no file spells no class
pub no_classes : AreClassesOf [] []
no_classes = record { size = refl; each = λ c file class at class_at. cc }

-- one file more, which spells one class more
pub classes_more : (xs : List File) (classes : List ClassSpelled) (f : File) (class : ClassSpelled) → AreClassesOf xs classes → IsClass f.bytes class
    → AreClassesOf (xs ++ f ∷ []) (classes ++ class ∷ [])
classes_more xs classes f class read spelled =
    let size : length classes ≡ length xs = read.size in
    record {
      size = omega (arith, length-append classes (class ∷ []), length-append xs (f ∷ []));
      each = λ c file other at class_at. elim (push_cases xs f c file at) [
        | inl there ↦ elim (push_cases classes class c other class_at) [
          | inl class_there ↦ read.each c file other there class_there
          | inr class_here ↦ let below = slice_get_within xs c file there in absurd (omega (arith, class_here.0))
        ]
        | inr here ↦ elim (push_cases classes class c other class_at) [
          | inl class_there ↦ let below = slice_get_within classes c other class_there in absurd (omega (arith, here.0))
          | inr class_here ↦ subst (λ (text : List ℕ). IsClass text other) (ap (λ (file : File). file.bytes) here.1) (subst (IsClass f.bytes) class_here.1 spelled)
        ]
      ];
    }

-- a file is refused whatever follows
refused_more : (xs ys : List File) (c : ℕ) (refusal : Refusal) → IsFileRefused xs c refusal → IsFileRefused (xs ++ ys) c refusal
refused_more xs ys c refusal refused = record { file = refused.file; at = kept xs ys c refused.file refused.at; fault = refused.fault; wrong = refused.wrong; is = refused.is }

refused_before : (xs ys : List File) (c : ℕ) (refusal : Refusal) → c < length xs → IsFileRefused (xs ++ ys) c refusal → IsFileRefused xs c refusal
refused_before xs ys c refusal below refused =
    record { file = refused.file; at = in_front xs ys c refused.file below refused.at; fault = refused.fault; wrong = refused.wrong; is = refused.is }

-- the first file that is refused is so whatever follows
pub refusal_more : (xs ys : List File) (names others : List (List ℕ)) (classes other_classes : List ClassSpelled) (refusal : Refusal) → AreRead xs names classes (Some refusal)
    → AreRead (xs ++ ys) others other_classes (Some refusal)
refusal_more xs ys names others classes other_classes refusal read =
    let c = read.0 in
    let first = read.1 in
    let refused = read.2 in
    let within : c < length xs = slice_get_within xs c refused.file refused.at in (
      c,
      record {
        holds = (first.holds.0, refused_more xs ys c first.holds.0 first.holds.1);
        before = λ b below other. first.before b below (other.0, refused_before xs ys b other.0 (omega arith) other.1);
      },
      refused_more xs ys c refusal refused,
    )

-- where no bytes are both a class and at fault, a file behind those that are read is the first to be refused
pub first_refused : ((bytes : List ℕ) (class : ClassSpelled) (fault : ClassFault) → IsClass bytes class → IsFault bytes fault → ⊥)
    → (xs : List File) (names others : List (List ℕ)) (classes other_classes : List ClassSpelled) (f : File) (fault : ClassFault) (refusal : Refusal)
    → AreRead xs names classes None → IsFault f.bytes fault → class_refusal f.name fault ≡ Some refusal → AreRead (xs ++ f ∷ []) others other_classes (Some refusal)
first_refused not_both xs names others classes other_classes f fault refusal read wrong is =
    let spelled = read.1 in
    let size : length classes ≡ length xs = spelled.size in
    let refused : IsFileRefused (xs ++ f ∷ []) (length xs) refusal = record { file = f; at = last xs f; fault = fault; wrong = wrong; is = is } in (
      length xs,
      record {
        holds = (refusal, refused);
        before = λ b below other.
            let before = refused_before xs (f ∷ []) b other.0 below other.1 in
            let under : b < length classes = omega arith in
            let class = found classes b under in
            not_both before.file.bytes class.0 before.fault (spelled.each b before.file class.0 before.at class.1) before.wrong;
      },
      refused,
    )
  where
    found : (cs : List ClassSpelled) (b : ℕ) → b < length cs → (class : ClassSpelled) × (slice_get cs b ≡ Some class)
    found [] b below = absurd (omega arith)
    found (class ∷ cs) zero below = (class, refl)
    found (class ∷ cs) (suc b) below = found cs b (omega arith)
