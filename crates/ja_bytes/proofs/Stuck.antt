-- Where a reader of a type is stuck.
use Rattle.std.proofs.Common.{◌≡◌, ◌≢◌, ℕ, zero, suc, ◌+◌, ◌<◌, ◌≤◌, inl, inr, Bool, false, List, [], ◌∷◌, ◌++◌, length, get_or, take, refl, sym, ap, subst, ◌∙◌, append_assoc, add-one, arith, length-append}
use Rattle.std.specs.Prelude.{IsTrue, replicate}
use Rattle.std.proofs.lemmas.Bool.{false≢true}
use Rattle.std.proofs.lemmas.List.{length-replicate, take_at, get_or_at}
use Rattle.ja_base.specs.declared.java_type.Kind.{Kind}
use Rattle.ja_base.specs.declared.java_type.Kind.TheVariants.{P1, P2, R, T}
use Rattle.ja_base.specs.Kind.{words_of}
use Rattle.ja_base.specs.Descriptor.{is_word_letter, is_pair_letter, IsLetter, IsClassName, IsPlain, IsField}
use Rattle.ja_bytes.specs.Longest.{IsStuck}
use Rattle.ja_bytes.specs.DescriptorText.{IsClassText, IsPlainText, IsFieldText, name_of}
use Rattle.ja_bytes.proofs.FieldText.{plain_begun, plain_unique, split_brackets, room_behind, field_parts, field_from_parts, plain_no_bracket}

-- a letter is a type
pub letter_plain : (room : ℕ) → 1 ≤ room → IsPlainText room (73 ∷ [])
letter_plain room some = record { kind = P1; name = 73 ∷ []; plain = (refl, refl); fits = some }

letter_first : (test : ℕ → Bool) (text tail : List ℕ) (b : ℕ) (rest : List ℕ) → IsLetter test text → text ++ tail ≡ b ∷ rest → IsTrue (test b)
letter_first test [] tail b rest h e = absurd h
letter_first test (c ∷ []) tail b rest h e = let same : c ≡ b = cc in subst (λ (x : ℕ). IsTrue (test x)) same h
letter_first test (c ∷ d ∷ text) tail b rest h e = absurd h

-- the bytes end before a type
pub empty_stuck : (room : ℕ) → 1 ≤ room → IsStuck (IsPlainText room) [] 0
empty_stuck room some = record {
  within = omega arith;
  begins = record { more = 73 ∷ []; text = letter_plain room some };
  dead = λ lt text more tail p e. absurd (omega (arith, lt));
  none = λ text tail p e. let b = plain_begun text p.kind p.name p.plain in let whole : [] ≡ b.first ∷ (b.rest ++ tail) = e ∙ ap (λ (t : List ℕ). t ++ tail) b.parts in absurd cc;
}

first_stuck : (room b : ℕ) (rest : List ℕ) → 1 ≤ room → ((text more tail : List ℕ) → IsPlainText room text → b ∷ more ≡ text ++ tail → ⊥) → IsStuck (IsPlainText room) (b ∷ rest) 0
first_stuck room b rest some dead = record {
  within = omega arith;
  begins = record { more = 73 ∷ []; text = letter_plain room some };
  dead = λ lt text more tail p e. dead text more tail p e;
  none = λ text tail p e. dead text rest tail p e;
}

no_type : (kind : Kind) (text name : List ℕ) (b : ℕ) (more tail : List ℕ) → is_word_letter b ≡ false → is_pair_letter b ≡ false → b ≢ 76 → IsPlain text kind name → b ∷ more ≡ text ++ tail → ⊥
no_type P1 text name b more tail p q r h e = false≢true (sym p ∙ letter_first is_word_letter text tail b more h.0 (sym e))
no_type P2 text name b more tail p q r h e = false≢true (sym q ∙ letter_first is_pair_letter text tail b more h.0 (sym e))
no_type R text name b more tail p q r h e = let whole : b ∷ more ≡ 76 ∷ ((name ++ 59 ∷ []) ++ tail) = e ∙ ap (λ (t : List ℕ). t ++ tail) h.1 in r cc
no_type T text name b more tail p q r h e = h

-- a byte that begins no type
pub byte_stuck : (room b : ℕ) (rest : List ℕ) → 1 ≤ room → is_word_letter b ≡ false → is_pair_letter b ≡ false → b ≢ 76 → IsStuck (IsPlainText room) (b ∷ rest) 0
byte_stuck room b rest some p q r = first_stuck room b rest some (λ text more tail h e. no_type h.kind text h.name b more tail p q r h.plain e)

-- a letter of a type for which there is no room
pub wide_stuck : (room b : ℕ) (rest : List ℕ) (kind : Kind) → 1 ≤ room → IsPlain (b ∷ []) kind (b ∷ []) → room < words_of kind → IsStuck (IsPlainText room) (b ∷ rest) 0
wide_stuck room b rest kind some plain wide = first_stuck room b rest some (λ text more tail h e.
    let same = plain_unique kind h.kind (b ∷ []) text (b ∷ []) h.name more tail plain h.plain e in
    omega (arith, wide, h.fits, ap words_of same.2))

pub take_over : (front rest : List ℕ) (m : ℕ) → take (length front + m) (front ++ rest) ≡ front ++ take m rest
take_over [] rest m = ap (λ (k : ℕ). take k rest) (omega arith)
take_over (b ∷ front) rest m = let k : length (b ∷ front) + m ≡ suc (length front + m) = omega arith in rw k (ap (λ (t : List ℕ). b ∷ t) (take_over front rest m))

pub take_brackets : (d m : ℕ) (rest : List ℕ) → take (d + m) (replicate d 91 ++ rest) ≡ replicate d 91 ++ take m rest
take_brackets d m rest = ap (λ (k : ℕ). take (k + m) (replicate d 91 ++ rest)) (sym (length-replicate {A = ℕ} d 91)) ∙ take_over (replicate d 91) rest m

-- the first byte of what is left
pub head_is : (rest : List ℕ) (n : ℕ) (more : List ℕ) (b : ℕ) (z : List ℕ) → n < length rest → take (n + 1) rest ++ more ≡ b ∷ z → (y : List ℕ) × (rest ≡ b ∷ y)
head_is [] n more b z lt e = absurd (omega (arith, lt))
head_is (c ∷ rest) n more b z lt e = let whole : c ∷ (take n rest ++ more) ≡ b ∷ z = ap (λ (k : ℕ). take k (c ∷ rest) ++ more) (sym (add-one n)) ∙ e in (rest, cc)

-- stuck behind brackets
pub field_stuck : (room d n : ℕ) (rest : List ℕ) → 1 ≤ room → d ≤ 255 → (d < 255 → (z : List ℕ) → rest ≡ 91 ∷ z → ⊥)
    → IsStuck (IsPlainText (room_behind d room)) rest n → IsStuck (IsFieldText room) (replicate d 91 ++ rest) (d + n)
field_stuck room d n rest some most last stuck =
    let bytes = replicate d 91 ++ rest in
    let longer : (k : ℕ) (y z : List ℕ) → k ≤ 255 → d < k → rest ≡ 91 ∷ z → ⊥ = λ k y z few lt e. last (omega (arith, few, lt)) z e in
    record {
      within = omega (arith, stuck.within, length-append (replicate d 91) rest, length-replicate {A = ℕ} d 91);
      begins = record {
        more = stuck.begins.more;
        text = subst (IsFieldText room) (sym (append_assoc (replicate d 91) (take n rest) stuck.begins.more) ∙ ap (λ (t : List ℕ). t ++ stuck.begins.more) (sym (take_brackets d n rest)))
            (field_from_parts room d (take n rest ++ stuck.begins.more) some most stuck.begins.text);
      };
      dead = λ lt text more tail field e.
          let p = field_parts room text field in
          let inside : n < length rest = omega (arith, lt, length-append (replicate d 91) rest, length-replicate {A = ℕ} d 91) in
          let left : take (d + n + 1) bytes ++ more ≡ replicate d 91 ++ (take (n + 1) rest ++ more) =
          ap (λ (k : ℕ). take k bytes ++ more) (omega arith) ∙ ap (λ (t : List ℕ). t ++ more) (take_brackets d (n + 1) rest) ∙ append_assoc (replicate d 91) (take (n + 1) rest) more in
          let right : text ++ tail ≡ replicate p.dims 91 ++ (p.element ++ tail) = ap (λ (t : List ℕ). t ++ tail) p.parts ∙ append_assoc (replicate p.dims 91) p.element tail in
          elim (split_brackets d p.dims (take (n + 1) rest ++ more) (p.element ++ tail) (λ z. plain_no_bracket p.element p.plain.kind p.plain.name tail z p.plain.plain) (sym left ∙ e ∙ right)) [
            | inl h ↦ stuck.dead inside p.element more tail (subst (λ (k : ℕ). IsPlainText (room_behind k room) p.element) (sym h.0) p.plain) h.1
            | inr h ↦ let r = head_is rest n more 91 h.0 inside h.2 in longer p.dims rest r.0 p.most h.1 r.1
          ];
      none = λ text tail field e.
          let p = field_parts room text field in
          let right : text ++ tail ≡ replicate p.dims 91 ++ (p.element ++ tail) = ap (λ (t : List ℕ). t ++ tail) p.parts ∙ append_assoc (replicate p.dims 91) p.element tail in
          elim (split_brackets d p.dims rest (p.element ++ tail) (λ z. plain_no_bracket p.element p.plain.kind p.plain.name tail z p.plain.plain) (e ∙ right)) [
            | inl h ↦ stuck.none p.element tail (subst (λ (k : ℕ). IsPlainText (room_behind k room) p.element) (sym h.0) p.plain) h.1
            | inr h ↦ longer p.dims rest h.0 p.most h.1 h.2
          ];
    }

-- ---- the types that a reader finds

-- the name of a class is the name in its text
pub class_named : (text : List ℕ) → IsClassText text → IsPlain (76 ∷ text) R (name_of (76 ∷ text))
class_named text class = named class.name class.class class.parts
  where
    named : (name : List ℕ) → IsClassName name → text ≡ name ++ 59 ∷ [] → IsPlain (76 ∷ text) R (name_of (76 ∷ text))
    named [] h e = absurd h
    named (c ∷ name) h e =
        let is : name_of (76 ∷ text) ≡ c ∷ name = ap (λ (t : List ℕ). name_of (76 ∷ t)) e ∙ take_at (c ∷ name) (59 ∷ []) (length (name ++ 59 ∷ [])) (omega (arith, length-append name (59 ∷ []))) in
        rw is (h, ap (λ (t : List ℕ). 76 ∷ t) e)

-- what begins with 'L' and is a type is a class name behind it
class_behind : (kind : Kind) (text name x tail : List ℕ) → IsPlain text kind name → 76 ∷ x ≡ text ++ tail → (class : List ℕ) × IsClassText class × (x ≡ class ++ tail)
class_behind P1 text name x tail h e = absurd (false≢true (letter_first is_word_letter text tail 76 x h.0 (sym e)))
class_behind P2 text name x tail h e = absurd (false≢true (letter_first is_pair_letter text tail 76 x h.0 (sym e)))
class_behind R text name x tail h e =
    let whole : 76 ∷ x ≡ 76 ∷ ((name ++ 59 ∷ []) ++ tail) = e ∙ ap (λ (t : List ℕ). t ++ tail) h.1 in
    (name ++ 59 ∷ [], record { name = name; class = h.0; parts = refl }, cc)
class_behind T text name x tail h e = absurd h

-- stuck in the class name behind 'L'
pub class_stuck : (room : ℕ) (rest : List ℕ) (n : ℕ) → 1 ≤ room → IsStuck IsClassText rest n → IsStuck (IsPlainText room) (76 ∷ rest) (suc n)
class_stuck room rest n some stuck =
    let b = stuck.begins in
    let next : suc n + 1 ≡ suc (n + 1) = omega arith in
    record {
      within = omega (arith, stuck.within);
      begins = record { more = b.more; text = record { kind = R; name = name_of (76 ∷ (take n rest ++ b.more)); plain = class_named (take n rest ++ b.more) b.text; fits = some } };
      dead = λ lt text more tail p e.
          let left : 76 ∷ (take (n + 1) rest ++ more) ≡ text ++ tail = ap (λ (k : ℕ). take k (76 ∷ rest) ++ more) (sym next) ∙ e in
          let c = class_behind p.kind text p.name (take (n + 1) rest ++ more) tail p.plain left in
          stuck.dead (omega (arith, lt)) c.0 more tail c.1 c.2;
      none = λ text tail p e. let c = class_behind p.kind text p.name rest tail p.plain e in stuck.none c.0 tail c.1 c.2;
    }

bracket_named : (text : List ℕ) → name_of (91 ∷ text) ≡ 91 ∷ text
bracket_named [] = refl
bracket_named (b ∷ text) = refl

brackets_named : (d : ℕ) (element : List ℕ) → 1 ≤ d → name_of (replicate d 91 ++ element) ≡ replicate d 91 ++ element
brackets_named zero element some = absurd (omega (arith, some))
brackets_named (suc d) element some = bracket_named (replicate d 91 ++ element)

-- brackets and an element
pub array_found : (bytes rest : List ℕ) (d n : ℕ) (kind : Kind) (name : List ℕ) → bytes ≡ replicate d 91 ++ rest → 1 ≤ d → d ≤ 255 → IsPlain (take n rest) kind name
    → IsField (take (d + n) bytes) (record { kind = R; name = name_of (take (d + n) bytes) })
array_found bytes rest d n kind name whole some most plain =
    let text : take (d + n) bytes ≡ replicate d 91 ++ take n rest = ap (take (d + n)) whole ∙ take_brackets d n rest in
    let is : name_of (take (d + n) bytes) ≡ take (d + n) bytes = ap name_of text ∙ brackets_named d (take n rest) some ∙ sym text in
    inr (refl, is, record { dims = d; element = take n rest; kind = kind; name = name; some = some; most = most; plain = plain; parts = text })

-- a reader of a type is stuck behind its brackets
pub type_stuck : (room d n : ℕ) (bytes rest : List ℕ) → bytes ≡ replicate d 91 ++ rest → 1 ≤ room → d ≤ 255 → (d < 255 → d < length bytes → get_or bytes d 0 ≢ 91)
    → IsStuck (IsPlainText (room_behind d room)) rest n → IsStuck (IsFieldText room) bytes (d + n)
type_stuck room d n bytes rest whole some most last stuck =
    let no_bracket : d < 255 → (z : List ℕ) → rest ≡ 91 ∷ z → ⊥ = λ lt z e.
    let parts : bytes ≡ replicate d 91 ++ 91 ∷ z = whole ∙ ap (λ (t : List ℕ). replicate d 91 ++ t) e in
    last lt (omega (arith, ap length parts, length-append (replicate d 91) (91 ∷ z), length-replicate {A = ℕ} d 91))
    (ap (λ (t : List ℕ). get_or t d 0) parts ∙ get_or_at (replicate d 91) 91 z 0 d (length-replicate {A = ℕ} d 91)) in
    subst (λ (t : List ℕ). IsStuck (IsFieldText room) t (d + n)) (sym whole) (field_stuck room d n rest some most no_bracket stuck)

pub room_for_element : (d room n : ℕ) (rest : List ℕ) → 1 ≤ d → IsStuck (IsPlainText 2) rest n → IsStuck (IsPlainText (room_behind d room)) rest n
room_for_element zero room n rest some stuck = absurd (omega (arith, some))
room_for_element (suc d) room n rest some stuck = stuck
