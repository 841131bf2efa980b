-- Files that are too long, alone or together.
use Rattle.std.proofs.Common.{◌≡◌, ℕ, suc, ◌+◌, ◌<◌, ◌≤◌, ◌⊎◌, inl, inr, List, [], ◌∷◌, ◌++◌, length, take, refl, ap, ◌∙◌, subst, arith}
use Rattle.std.proofs.lemmas.List.{take-append-le}
use Rattle.std.proofs.lemmas.List.Sums.{sum_by-append}
use Rattle.std.proofs.lemmas.Option.{slice_get_within}
use Rattle.ja_base.specs.declared.file.File.{File}
use Rattle.ja_base.specs.declared.refusal.Refusal.{Refusal}
use Rattle.ja_base.specs.declared.refusal.Refusal.TheVariants.{FileTooLong, TotalTooLong}
use Rattle.ja_lower.specs.Folder.{IsLengthRefusal, file_too_long, total_too_long, IsOver, IsTooLong, IsTooMuch}
use Rattle.ja_reading.specs.Judged.{bytes_of}
use Rattle.ja_reading.proofs.Places.{in_front, kept, last, push_cases}
use Rattle.ja_supertypes.specs.Faults.{IsFirst, IsNowhere}

-- no file of none is too long
pub none_over : IsNowhere (IsOver [])
none_over k over = let at = over.at in cc

-- the bytes of the first files of a longer list
front_bytes : (xs ys : List File) (k : ℕ) → k < length xs → bytes_of (take (suc k) (xs ++ ys)) ≡ bytes_of (take (suc k) xs)
front_bytes xs ys k below = ap bytes_of (take-append-le (suc k) xs ys (omega arith))

-- where it is too much stays where it is when more files follow
pub over_more : (xs ys : List File) (k : ℕ) → IsOver xs k → IsOver (xs ++ ys) k
over_more xs ys k over =
    let below : k < length xs = slice_get_within xs k over.file over.at in
    let bytes = front_bytes xs ys k below in
    record {
      file = over.file;
      at = kept xs ys k over.file over.at;
      over = elim over.over [ inl long ↦ inl long | inr much ↦ inr (omega (arith, much, bytes)) ];
    }

pub over_before : (xs ys : List File) (k : ℕ) → k < length xs → IsOver (xs ++ ys) k → IsOver xs k
over_before xs ys k below over =
    let bytes = front_bytes xs ys k below in
    record {
      file = over.file;
      at = in_front xs ys k over.file below over.at;
      over = elim over.over [ inl long ↦ inl long | inr much ↦ inr (omega (arith, much, bytes)) ];
    }

-- the bytes of all files with one more
pub bytes_more : (xs : List File) (f : File) → bytes_of (xs ++ f ∷ []) ≡ bytes_of xs + length f.bytes
bytes_more xs f = sum_by-append (λ (file : File). length file.bytes) xs (f ∷ []) ∙ omega arith

-- the bytes of the files up to the last are those of all
all_bytes : (xs : List File) (f : File) → bytes_of (take (suc (length xs)) (xs ++ f ∷ [])) ≡ bytes_of (xs ++ f ∷ [])
all_bytes xs f = ap bytes_of (whole xs)
  where
    whole : (ys : List File) → take (suc (length ys)) (ys ++ f ∷ []) ≡ ys ++ f ∷ []
    whole [] = refl
    whole (y ∷ ys) = ap (λ (l : List File). y ∷ l) (whole ys)

-- with one file more it is too much nowhere
pub next_short : (xs : List File) (f : File) → IsNowhere (IsOver xs) → length f.bytes ≤ 4194304 → bytes_of xs + length f.bytes ≤ 67108864 → IsNowhere (IsOver (xs ++ f ∷ []))
next_short xs f short fits total k over = elim (push_cases xs f k over.file over.at) [
  | inl there ↦ short k (over_before xs (f ∷ []) k (slice_get_within xs k over.file there) over)
  | inr here ↦ elim over.over [
    | inl long ↦ let bytes : 4194304 < length f.bytes = rw (here.1) long in absurd (omega arith)
    | inr much ↦ let bytes : 67108864 < bytes_of (take (suc (length xs)) (xs ++ f ∷ [])) = subst (λ (j : ℕ). IsTooMuch (xs ++ f ∷ []) j) here.0 much in
        absurd (omega (arith, all_bytes xs f, bytes_more xs f))
  ]
]

-- the last is the first with which it is too much
last_first : (xs : List File) (f : File) → IsNowhere (IsOver xs) → IsTooLong f ⊎ IsTooMuch (xs ++ f ∷ []) (length xs) → IsFirst (IsOver (xs ++ f ∷ [])) (length xs)
last_first xs f short over = record {
  holds = record { file = f; at = last xs f; over = over };
  before = λ b below other. short b (over_before xs (f ∷ []) b below other);
}

-- the last file is too long
pub last_too_long : (xs : List File) (f : File) → IsNowhere (IsOver xs) → 4194304 < length f.bytes → IsLengthRefusal (xs ++ f ∷ []) (FileTooLong f.name)
last_too_long xs f short long = file_too_long (length xs) f (last_first xs f short (inl long)) (last xs f) long

-- with the last file all are too long together
pub last_too_much : (xs : List File) (f : File) → IsNowhere (IsOver xs) → length f.bytes ≤ 4194304 → 67108864 < bytes_of xs + length f.bytes → IsLengthRefusal (xs ++ f ∷ []) (TotalTooLong f.name)
last_too_much xs f short fits much =
    let over : IsTooMuch (xs ++ f ∷ []) (length xs) = omega (arith, all_bytes xs f, bytes_more xs f) in
    total_too_long (length xs) f (last_first xs f short (inr over)) (last xs f) (λ long. absurd (omega (arith, long)))

first_more : (xs ys : List File) (k : ℕ) → IsFirst (IsOver xs) k → IsFirst (IsOver (xs ++ ys)) k
first_more xs ys k first =
    let over = first.holds in
    let within : k < length xs = slice_get_within xs k over.file over.at in
    record {
      holds = over_more xs ys k over;
      before = λ b below other. first.before b below (over_before xs ys b (omega arith) other);
    }

-- files are refused for their lengths whatever follows
pub length_refusal_more : (xs ys : List File) (refusal : Refusal) → IsLengthRefusal xs refusal → IsLengthRefusal (xs ++ ys) refusal
length_refusal_more xs ys _ (file_too_long k file first at long) = file_too_long k file (first_more xs ys k first) (kept xs ys k file at) long
length_refusal_more xs ys _ (total_too_long k file first at short) = total_too_long k file (first_more xs ys k first) (kept xs ys k file at) short
