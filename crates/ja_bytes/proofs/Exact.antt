-- Each list of bytes is a text, or has a first wrong character; and it is a descriptor, or is wrong at a place.
use Rattle.std.proofs.Common.{◌≡◌, ◌≢◌, ℕ, zero, suc, ◌+◌, ◌-◌, ◌<◌, ◌≤◌, ◌⊎◌, inl, inr, Bool, true, false, List, [], ◌∷◌, ◌++◌, length, get_or, take, drop, Some, None, refl, sym, ap, subst, ◌∙◌, append_assoc, arith, length-append, length-drop}
use Rattle.std.specs.Prelude.{replicate}
use Rattle.std.proofs.lemmas.Bool.{cases_lt, cases_eq, cases_order, cases_Bool}
use Rattle.std.proofs.lemmas.List.{take-append-drop, take-take, take_at, take_all, drop-append-le, length-replicate, append-nil, length-take-le}
use Rattle.std.proofs.lemmas.List.Sums.{sum_by-cons}
use Rattle.ja_base.specs.declared.java_type.Kind.TheVariants.{P1, P2, R}
use Rattle.ja_base.specs.declared.java_type.JavaType.{JavaType}
use Rattle.ja_base.specs.Kind.{words_of}
use Rattle.ja_base.specs.Descriptor.{is_word_letter, is_pair_letter, IsPartByte, IsField, IsMethod, words_of_all}
use Rattle.ja_bytes.specs.Text.{IsContinuation, IsCharacter, IsModifiedUtf8, IsFirstWrong}
use Rattle.ja_bytes.specs.Longest.{IsWrongAt, IsStuck}
use Rattle.ja_bytes.specs.DescriptorText.{IsClassText, IsPlainText, IsFieldText, IsFieldDesc, IsResultText, IsMethodText, IsParamsText, name_of}
use Rattle.ja_bytes.proofs.TextParts.{HasRead, reads_on, stops, ends, wrong_is_no_text}
use Rattle.ja_bytes.proofs.ClassName.{Runs, name_ends, name_stuck, name_cut, runs_on, not_allowed}
use Rattle.ja_bytes.proofs.FieldText.{room_behind, field_from_parts}
use Rattle.ja_bytes.proofs.Stuck.{empty_stuck, byte_stuck, wide_stuck, class_named, class_stuck, take_brackets, field_stuck}
use Rattle.ja_bytes.proofs.MethodText.{words-some, params_stuck, params_full, params_behind, result_stuck}
use Rattle.ja_bytes.proofs.DescParts.{take_both, method_found, wrong_in_params, wrong_in_result, wrong_behind_method, wrong_unbegun, field_wrong, field_wrong_behind}

-- a statement, or what it leads to nothing
abbrev pub Decided : Type 0 → Type 0
Decided P = P ⊎ (P → ⊥)

both : (P Q : Type 0) → Decided P → Decided Q → Decided (P × Q)
both P Q (inl p) (inl q) = inl (p, q)
both P Q (inl p) (inr q) = inr (λ h. q h.1)
both P Q (inr p) q = inr (λ h. p h.0)

three : (P Q S : Type 0) → Decided P → Decided Q → Decided S → Decided (P × Q × S)
three P Q S (inl p) (inl q) (inl s) = inl (p, q, s)
three P Q S (inl p) (inl q) (inr s) = inr (λ h. s h.2)
three P Q S (inl p) (inr q) s = inr (λ h. q h.1)
three P Q S (inr p) q s = inr (λ h. p h.0)

less : (m n : ℕ) → Decided (m < n)
less m n = elim (cases_lt m n) [ inl h ↦ inl h | inr h ↦ inr (λ k. omega (arith, h, k)) ]

at_most : (m n : ℕ) → Decided (m ≤ n)
at_most m n = elim (cases_lt n m) [ inl h ↦ inr (λ k. omega (arith, h, k)) | inr h ↦ inl h ]

other : (b c : ℕ) → Decided (b ≢ c)
other b c = elim (cases_eq b c) [ inl e ↦ inr (λ h. h e) | inr h ↦ inl h ]

-- ---- texts

continues : (b : ℕ) → Decided (IsContinuation b)
continues b = both (128 ≤ b) (b < 192) (at_most 128 b) (less b 192)

one_byte : (a : ℕ) → Decided (IsCharacter (a ∷ []))
one_byte a = both (1 ≤ a) (a < 128) (at_most 1 a) (less a 128)

two_bytes : (a b : ℕ) → Decided (IsCharacter (a ∷ b ∷ []))
two_bytes a b = three (192 ≤ a) (a < 224) (IsContinuation b) (at_most 192 a) (less a 224) (continues b)

three_bytes : (a b c : ℕ) → Decided (IsCharacter (a ∷ b ∷ c ∷ []))
three_bytes a b c =
    elim (three (224 ≤ a) (a < 240) (IsContinuation b × IsContinuation c) (at_most 224 a) (less a 240) (both (IsContinuation b) (IsContinuation c) (continues b) (continues c))) [
      | inl h ↦ inl (h.0, h.1, h.2.0, h.2.1)
      | inr h ↦ inr (λ k. h (k.0, k.1, (k.2, k.3)))
    ]

-- a character stands at the front
record Front (bytes : List ℕ) : Type 0 where
  size : ℕ
  some : 1 ≤ size
  within : size ≤ length bytes
  character : IsCharacter (take size bytes)

no_character : (bytes : List ℕ) → ((a : ℕ) (rest : List ℕ) → bytes ≡ a ∷ rest → IsCharacter (a ∷ []) → ⊥)
    → ((a b : ℕ) (rest : List ℕ) → bytes ≡ a ∷ b ∷ rest → IsCharacter (a ∷ b ∷ []) → ⊥)
    → ((a b c : ℕ) (rest : List ℕ) → bytes ≡ a ∷ b ∷ c ∷ rest → IsCharacter (a ∷ b ∷ c ∷ []) → ⊥) → (n : ℕ) → IsCharacter (take n bytes) → ⊥
no_character bytes one two three n h = by (take n bytes) (drop n bytes) (sym (take-append-drop n bytes)) h
  where
    by : (front rest : List ℕ) → bytes ≡ front ++ rest → IsCharacter front → ⊥
    by [] rest e k = k
    by (a ∷ []) rest e k = one a rest e k
    by (a ∷ b ∷ []) rest e k = two a b rest e k
    by (a ∷ b ∷ c ∷ []) rest e k = three a b c rest e k
    by (a ∷ b ∷ c ∷ d ∷ front) rest e k = k

character_at : (bytes : List ℕ) → Front bytes ⊎ ((n : ℕ) → IsCharacter (take n bytes) → ⊥)
character_at [] = inr (no_character [] (λ a rest e k. absurd cc) (λ a b rest e k. absurd cc) (λ a b c rest e k. absurd cc))
character_at (a ∷ []) = elim (one_byte a) [
  | inl h ↦ inl (record { size = 1; some = omega arith; within = omega arith; character = h })
  | inr h ↦ inr (no_character (a ∷ []) (λ x rest e k. let same : x ≡ a = cc in h (subst (λ (t : ℕ). IsCharacter (t ∷ [])) same k)) (λ x y rest e k. absurd cc) (λ x y z rest e k. absurd cc))
]
character_at (a ∷ b ∷ []) = elim (one_byte a) [
  | inl h ↦ inl (record { size = 1; some = omega arith; within = omega arith; character = h })
  | inr h ↦ elim (two_bytes a b) [
    | inl g ↦ inl (record { size = 2; some = omega arith; within = omega arith; character = g })
    | inr g ↦ inr (no_character (a ∷ b ∷ []) (λ x rest e k. let same : x ≡ a = cc in h (subst (λ (t : ℕ). IsCharacter (t ∷ [])) same k))
        (λ x y rest e k. let same : x ≡ a = cc in let also : y ≡ b = cc in g (subst (λ (t : ℕ). IsCharacter (t ∷ b ∷ [])) same (subst (λ (t : ℕ). IsCharacter (x ∷ t ∷ [])) also k))) (λ x y z rest e k. absurd cc))
  ]
]
character_at (a ∷ b ∷ c ∷ more) = elim (one_byte a) [
  | inl h ↦ inl (record { size = 1; some = omega arith; within = omega arith; character = h })
  | inr h ↦ elim (two_bytes a b) [
    | inl g ↦ inl (record { size = 2; some = omega arith; within = omega arith; character = g })
    | inr g ↦ elim (three_bytes a b c) [
      | inl f ↦ inl (record { size = 3; some = omega arith; within = omega arith; character = f })
      | inr f ↦ inr (no_character (a ∷ b ∷ c ∷ more) (λ x rest e k. let same : x ≡ a = cc in h (subst (λ (t : ℕ). IsCharacter (t ∷ [])) same k))
          (λ x y rest e k. let same : x ≡ a = cc in let also : y ≡ b = cc in g (subst (λ (t : ℕ). IsCharacter (t ∷ b ∷ [])) same (subst (λ (t : ℕ). IsCharacter (x ∷ t ∷ [])) also k)))
          (λ x y z rest e k. let same : x ≡ a = cc in let also : y ≡ b = cc in let third : z ≡ c = cc in
          f (subst (λ (t : ℕ). IsCharacter (t ∷ b ∷ c ∷ [])) same (subst (λ (t : ℕ). IsCharacter (x ∷ t ∷ c ∷ [])) also (subst (λ (t : ℕ). IsCharacter (x ∷ y ∷ t ∷ [])) third k)))))
    ]
  ]
]

text_behind : (fuel : ℕ) (bytes rest : List ℕ) → HasRead bytes rest → length rest ≤ fuel → IsModifiedUtf8 bytes ⊎ ((at : ℕ) × IsFirstWrong bytes at)
text_behind fuel bytes [] read enough = inl (ends bytes [] read refl)
text_behind zero bytes (b ∷ rest) read enough = absurd (omega (arith, enough))
text_behind (suc fuel) bytes (b ∷ rest) read enough = elim (character_at (b ∷ rest)) [
  | inl f ↦ text_behind fuel bytes (drop f.size (b ∷ rest)) (reads_on bytes (b ∷ rest) f.size read f.character) (omega (arith, enough, f.some, length-drop f.size (b ∷ rest)))
  | inr never ↦ inr (length bytes - length (b ∷ rest), stops bytes (b ∷ rest) read (omega arith) never)
]

-- each list of bytes is a text, or has a first wrong character
pub text_or_wrong : (bytes : List ℕ) → IsModifiedUtf8 bytes ⊎ ((at : ℕ) × IsFirstWrong bytes at)
text_or_wrong bytes = text_behind (length bytes) bytes bytes (record { front = []; text = record { characters = []; each = tt; parts = refl }; parts = refl }) (omega arith)

-- a text has one first wrong character
wrong_before : (bytes : List ℕ) (a b : ℕ) → a < b → IsFirstWrong bytes a → IsFirstWrong bytes b → ⊥
wrong_before bytes a b lt p q =
    let front = take b bytes in
    let rest = drop b bytes in
    let size : length front ≡ b = length-take-le b bytes (omega (arith, q.inside)) in
    let whole : front ++ rest ≡ bytes = take-append-drop b bytes in
    let behind : drop a bytes ≡ drop a front ++ rest = ap (drop a) (sym whole) ∙ drop-append-le a front rest (omega (arith, lt, size)) in
    let before : take a front ≡ take a bytes = take-take a b bytes (omega (arith, lt)) in
    let none : (n : ℕ) → IsCharacter (take n (drop a front)) → ⊥ =
    λ n one.
    let c = take n (drop a front) in
    let split : drop a bytes ≡ c ++ (drop n (drop a front) ++ rest) = behind ∙ ap (λ (t : List ℕ). t ++ rest) (sym (take-append-drop n (drop a front))) ∙ append_assoc c (drop n (drop a front)) rest in
    let same : take (length c) (drop a bytes) ≡ c = ap (take (length c)) split ∙ take_at c (drop n (drop a front) ++ rest) (length c) refl in
    p.wrong (length c) (subst IsCharacter (sym same) one) in
    wrong_is_no_text front a (record { inside = omega (arith, lt, size); before = subst IsModifiedUtf8 (sym before) p.before; wrong = none }) q.before

pub one_wrong : (bytes : List ℕ) (a b : ℕ) → IsFirstWrong bytes a → IsFirstWrong bytes b → a ≡ b
one_wrong bytes a b p q = elim (cases_order a b) [
  | inl e ↦ e
  | inr o ↦ elim o [ inl lt ↦ absurd (wrong_before bytes a b lt p q) | inr lt ↦ absurd (wrong_before bytes b a lt q p) ]
]

-- ---- readers of a language at the front

record Finds (P : List ℕ → Type 0) (bytes : List ℕ) : Type 0 where
  size : ℕ
  within : size ≤ length bytes
  text : P (take size bytes)

abbrev FindsOrStuck : (List ℕ → Type 0) → List ℕ → Type 0
FindsOrStuck P bytes = Finds P bytes ⊎ ((n : ℕ) × IsStuck P bytes n)

-- ---- class names

part_byte : (b : ℕ) → Decided (IsPartByte b)
part_byte b = elim (both (b < 256) ((b ≢ 46) × (b ≢ 59) × ((b ≢ 91) × (b ≢ 47))) (less b 256) (three (b ≢ 46) (b ≢ 59) ((b ≢ 91) × (b ≢ 47)) (other b 46) (other b 59) (both (b ≢ 91) (b ≢ 47) (other b 91) (other b 47)))) [
  | inl h ↦ inl (h.0, h.1.0, h.1.1, h.1.2.0, h.1.2.1)
  | inr h ↦ inr (λ k. h (k.0, (k.1, k.2, (k.3, k.4))))
]

abbrev Steps : Bool → ℕ → Bool → Type 0
Steps inside b to = (IsPartByte b × (to ≡ true)) ⊎ ((b ≡ 47) × (inside ≡ true) × (to ≡ false))

step : (inside : Bool) (b : ℕ) → ((to : Bool) × Steps inside b to) ⊎ (IsPartByte b ⊎ ((b ≡ 47) × (inside ≡ true)) → ⊥)
step inside b = elim (part_byte b) [
  | inl p ↦ inl (true, inl (p, refl))
  | inr p ↦ elim (cases_eq b 47) [
    | inl e ↦ elim (cases_Bool inside) [
      | inl t ↦ inl (false, inr (e, t, refl))
      | inr f ↦ inr (λ h. elim h [ inl g ↦ p g | inr g ↦ absurd (absurd_bool inside f g.1) ])
    ]
    | inr e ↦ inr (λ h. elim h [ inl g ↦ p g | inr g ↦ e g.0 ])
  ]
]
  where
    absurd_bool : (b : Bool) → b ≡ false → b ≡ true → ⊥
    absurd_bool b f t = absurd cc

class_from : (left i : ℕ) (inside : Bool) (bytes : List ℕ) → i + left ≡ length bytes → Runs false (take i bytes) inside → FindsOrStuck IsClassText bytes
class_from zero i inside bytes size runs = inr (length bytes, name_cut bytes inside (subst (λ (t : List ℕ). Runs false t inside) (take_all i bytes (omega (arith, size))) runs))
class_from (suc left) i inside bytes size runs =
    let b = get_or bytes i 0 in
    let lt : i < length bytes = omega (arith, size) in
    elim (both (b ≡ 59) (inside ≡ true) (cases_eq b 59) (is_true inside)) [
      | inl h ↦ inl (record { size = i + 1; within = omega (arith, lt); text = name_ends bytes i lt (subst (λ (t : Bool). Runs false (take i bytes) t) h.1 runs) h.0 })
      | inr open_name ↦ elim (step inside b) [
        | inl s ↦ class_from left (i + 1) s.0 bytes (omega (arith, size)) (runs_on bytes i inside s.0 lt runs s.1)
        | inr never ↦ inr (i, name_stuck bytes i inside lt runs (not_allowed inside b never (λ e t. open_name (e, t))))
      ]
    ]
  where
    is_true : (b : Bool) → Decided (b ≡ true)
    is_true true = inl refl
    is_true false = inr (λ e. absurd cc)

class_or_stuck : (bytes : List ℕ) → FindsOrStuck IsClassText bytes
class_or_stuck bytes = class_from (length bytes) 0 false bytes (omega arith) refl

-- ---- types

plain_or_stuck : (room : ℕ) (bytes : List ℕ) → 1 ≤ room → FindsOrStuck (IsPlainText room) bytes
plain_or_stuck room [] some = inr (0, empty_stuck room some)
plain_or_stuck room (b ∷ rest) some = elim (cases_eq b 76) [
  | inl e ↦ subst (λ (t : ℕ). FindsOrStuck (IsPlainText room) (t ∷ rest)) (sym e) (class (class_or_stuck rest))
  | inr not_class ↦ elim (cases_Bool (is_word_letter b)) [
    | inl word ↦ inl (record { size = 1; within = omega arith; text = record { kind = P1; name = b ∷ []; plain = (word, refl); fits = some } })
    | inr no_word ↦ elim (cases_Bool (is_pair_letter b)) [
      | inl wide ↦ elim (cases_lt room 2) [
        | inl small ↦ inr (0, wide_stuck room b rest P2 some (wide, refl) small)
        | inr fits ↦ inl (record { size = 1; within = omega arith; text = record { kind = P2; name = b ∷ []; plain = (wide, refl); fits = fits } })
      ]
      | inr no_pair ↦ inr (0, byte_stuck room b rest some no_word no_pair not_class)
    ]
  ]
]
  where
    class : FindsOrStuck IsClassText rest → FindsOrStuck (IsPlainText room) (76 ∷ rest)
    class (inl f) = inl (record { size = suc f.size; within = omega (arith, f.within); text = record { kind = R; name = name_of (76 ∷ take f.size rest); plain = class_named (take f.size rest) f.text; fits = some } })
    class (inr s) = inr (suc s.0, class_stuck room rest s.0 some s.1)

-- the brackets at the front, at most so many
record Brackets (most : ℕ) (bytes : List ℕ) : Type 0 where
  dims : ℕ
  rest : List ℕ
  parts : bytes ≡ replicate dims 91 ++ rest
  few : dims ≤ most
  last : dims < most → (z : List ℕ) → rest ≡ 91 ∷ z → ⊥

brackets : (most : ℕ) (bytes : List ℕ) → Brackets most bytes
brackets zero bytes = record { dims = 0; rest = bytes; parts = refl; few = omega arith; last = λ lt. absurd (omega (arith, lt)) }
brackets (suc most) [] = record { dims = 0; rest = []; parts = refl; few = omega arith; last = λ lt z e. absurd cc }
brackets (suc most) (b ∷ bytes) = elim (cases_eq b 91) [
  | inl e ↦
      let more = brackets most bytes in
      record {
        dims = suc more.dims;
        rest = more.rest;
        parts = ap (λ (t : ℕ). t ∷ bytes) e ∙ ap (λ (t : List ℕ). 91 ∷ t) more.parts;
        few = omega (arith, more.few);
        last = λ lt. more.last (omega (arith, lt));
      }
  | inr never ↦ record { dims = 0; rest = b ∷ bytes; parts = refl; few = omega arith; last = λ lt z e. never cc }
]

room_some : (d room : ℕ) → 1 ≤ room → 1 ≤ room_behind d room
room_some zero room some = some
room_some (suc d) room some = omega arith

type_or_stuck : (room : ℕ) (bytes : List ℕ) → 1 ≤ room → FindsOrStuck (IsFieldText room) bytes
type_or_stuck room bytes some =
    let b = brackets 255 bytes in
    subst (λ (t : List ℕ). FindsOrStuck (IsFieldText room) t) (sym b.parts) (behind b (plain_or_stuck (room_behind b.dims room) b.rest (room_some b.dims room some)))
  where
    behind : (b : Brackets 255 bytes) → FindsOrStuck (IsPlainText (room_behind b.dims room)) b.rest → FindsOrStuck (IsFieldText room) (replicate b.dims 91 ++ b.rest)
    behind b (inl f) = inl (record {
      size = b.dims + f.size;
      within = omega (arith, f.within, length-append (replicate b.dims 91) b.rest, length-replicate {A = ℕ} b.dims 91);
      text = subst (IsFieldText room) (sym (take_brackets b.dims f.size b.rest)) (field_from_parts room b.dims (take f.size b.rest) some b.few f.text);
    })
    behind b (inr s) = inr (b.dims + s.0, field_stuck room b.dims s.0 b.rest some b.few b.last s.1)

-- ---- parameters and results

begins : (b : ℕ) (bytes : List ℕ) → ((z : List ℕ) × (bytes ≡ b ∷ z)) ⊎ ((z : List ℕ) → bytes ≡ b ∷ z → ⊥)
begins b [] = inr (λ z e. absurd cc)
begins b (c ∷ bytes) = elim (cases_eq c b) [ inl e ↦ inl (bytes, ap (λ (t : ℕ). t ∷ bytes) e) | inr never ↦ inr (λ z e. never cc) ]

one_type : (type : JavaType) → words_of_all (type ∷ []) ≡ words_of type.kind
one_type type = sum_by-cons (λ type. words_of type.kind) type [] ∙ omega arith

params_end : (room : ℕ) (bytes z : List ℕ) → bytes ≡ 41 ∷ z → FindsOrStuck (IsParamsText room) bytes
params_end room bytes z e = subst (λ (t : List ℕ). FindsOrStuck (IsParamsText room) t) (sym e) (inl (record {
  size = 1;
  within = omega arith;
  text = record { params = []; spells = record { inner = []; fields = refl; most = omega arith; parts = refl } };
}))

-- a type at the front, and what stands behind it
params_more : (room : ℕ) (bytes : List ℕ) (f : Finds (IsFieldText room) bytes) → FindsOrStuck (IsParamsText (room - words_of f.text.type.kind)) (drop f.size bytes) → FindsOrStuck (IsParamsText room) bytes
params_more room bytes f (inl more) =
    let front = take f.size bytes in
    let rest = drop f.size bytes in
    let type = f.text.type in
    let s = more.text.spells in
    inl (record {
      size = f.size + more.size;
      within = omega (arith, f.within, more.within, length-drop f.size bytes);
      text = record {
        params = type ∷ more.text.params;
        spells = record {
          inner = front ++ s.inner;
          fields = (front, s.inner, refl, f.text.field, s.fields);
          most = omega (arith, s.most, f.text.fits, sum_by-cons (λ type. words_of type.kind) type more.text.params);
          parts = take_both bytes f.size more.size f.within ∙ ap (λ (t : List ℕ). front ++ t) s.parts ∙ sym (append_assoc front s.inner (41 ∷ []));
        };
      };
    })
params_more room bytes f (inr stuck) =
    let front = take f.size bytes in
    let type = f.text.type in
    inr (
      length front + stuck.0,
      subst (λ (t : List ℕ). IsStuck (IsParamsText room) t (length front + stuck.0)) (take-append-drop f.size bytes)
          (params_behind room (room - words_of type.kind) front (drop f.size bytes) (type ∷ []) stuck.0 (front, [], sym (append-nil front), f.text.field, refl) (omega (arith, one_type type, f.text.fits)) stuck.1),
    )

params_or_stuck : (fuel room : ℕ) (bytes : List ℕ) → room ≤ fuel → FindsOrStuck (IsParamsText room) bytes
params_or_stuck zero room bytes enough = elim (begins 41 bytes) [
  | inl h ↦ params_end room bytes h.0 h.1
  | inr never ↦ let none : 0 ≡ room = omega (arith, enough) in subst (λ (r : ℕ). FindsOrStuck (IsParamsText r) bytes) none (inr (0, params_full bytes never))
]
params_or_stuck (suc fuel) zero bytes enough = elim (begins 41 bytes) [
  | inl h ↦ params_end zero bytes h.0 h.1
  | inr never ↦ inr (0, params_full bytes never)
]
params_or_stuck (suc fuel) (suc room) bytes enough = elim (begins 41 bytes) [
  | inl h ↦ params_end (suc room) bytes h.0 h.1
  | inr never ↦ elim (type_or_stuck (suc room) bytes (omega arith)) [
    | inl f ↦ params_more (suc room) bytes f (params_or_stuck fuel (suc room - words_of f.text.type.kind) (drop f.size bytes) (omega (arith, enough, words-some f.text.type.kind)))
    | inr s ↦ inr (s.0, params_stuck (suc room) bytes s.0 never s.1)
  ]
]

result_or_stuck : (bytes : List ℕ) → FindsOrStuck IsResultText bytes
result_or_stuck bytes = elim (begins 86 bytes) [
  | inl h ↦ subst (λ (t : List ℕ). FindsOrStuck IsResultText t) (sym h.1) (inl (record { size = 1; within = omega arith; text = record { result = None; ends = refl } }))
  | inr never ↦ elim (type_or_stuck 2 bytes (omega arith)) [
    | inl f ↦ inl (record { size = f.size; within = f.within; text = record { result = Some f.text.type; ends = f.text.field } })
    | inr s ↦ inr (s.0, result_stuck bytes s.0 never s.1)
  ]
]

-- ---- descriptors

-- each list of bytes is the descriptor of a field, or is wrong at a place
pub field_or_wrong : (bytes : List ℕ) → IsFieldDesc bytes ⊎ ((at : ℕ) × IsWrongAt IsFieldDesc bytes at)
field_or_wrong bytes = elim (type_or_stuck 2 bytes (omega arith)) [
  | inr s ↦ inr (s.0, field_wrong bytes s.0 s.1)
  | inl f ↦ elim (cases_lt f.size (length bytes)) [
    | inl lt ↦ inr (f.size, field_wrong_behind bytes f.size f.text.type f.text.field lt)
    | inr all ↦ inl (record { type = f.text.type; field = subst (λ (t : List ℕ). IsField t f.text.type) (take_all f.size bytes all) f.text.field })
  ]
]

method_behind : (rest : List ℕ) → IsMethodText (40 ∷ rest) ⊎ ((at : ℕ) × IsWrongAt IsMethodText (40 ∷ rest) at)
method_behind rest = elim (params_or_stuck 255 255 rest (omega arith)) [
  | inr s ↦ inr (1 + s.0, wrong_in_params rest s.0 s.1)
  | inl p ↦ elim (result_or_stuck (drop p.size rest)) [
    | inr s ↦ inr (1 + (p.size + s.0), wrong_in_result rest (drop p.size rest) p.size s.0 p.text.params p.within refl p.text.spells s.1)
    | inl r ↦ elim (cases_lt r.size (length (drop p.size rest))) [
      | inl lt ↦ inr (1 + (p.size + r.size), wrong_behind_method rest (drop p.size rest) p.size r.size p.text.params r.text.result p.within refl p.text.spells r.text.ends lt)
      | inr all ↦
          let found = method_found rest (drop p.size rest) p.size r.size p.text.params r.text.result refl p.text.spells r.text.ends in
          let whole : take p.size rest ++ take r.size (drop p.size rest) ≡ rest = ap (λ (t : List ℕ). take p.size rest ++ t) (take_all r.size (drop p.size rest) all) ∙ take-append-drop p.size rest in
          inl (record { params = p.text.params; result = r.text.result; method = subst (λ (t : List ℕ). IsMethod (40 ∷ t) p.text.params r.text.result) whole found })
    ]
  ]
]

-- each list of bytes is the descriptor of a method, or is wrong at a place
pub method_or_wrong : (bytes : List ℕ) → IsMethodText bytes ⊎ ((at : ℕ) × IsWrongAt IsMethodText bytes at)
method_or_wrong bytes = elim (begins 40 bytes) [
  | inl h ↦ subst (λ (t : List ℕ). IsMethodText t ⊎ ((at : ℕ) × IsWrongAt IsMethodText t at)) (sym h.1) (method_behind h.0)
  | inr never ↦ inr (0, wrong_unbegun bytes never)
]
