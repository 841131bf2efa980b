-- Types in descriptors: no one begins another, and each begins with brackets and a type that is no array.
use Rattle.std.proofs.Common.{◌≡◌, ◌≢◌, ℕ, zero, suc, ◌<◌, ◌≤◌, ◌⊎◌, inl, inr, Bool, true, false, List, [], ◌∷◌, ◌++◌, refl, sym, ap, ◌∙◌, append_assoc, arith}
use Rattle.std.specs.Prelude.{IsTrue, replicate, ◌||◌, ◌==◌}
use Rattle.std.proofs.lemmas.Bool.{false≢true, eqb-true}
use Rattle.ja_base.specs.declared.java_type.Kind.{Kind}
use Rattle.ja_base.specs.declared.java_type.Kind.TheVariants.{P1, P2, R, T}
use Rattle.ja_base.specs.declared.java_type.JavaType.{JavaType}
use Rattle.ja_base.specs.Kind.{words_of}
use Rattle.ja_base.specs.Descriptor.{is_word_letter, is_pair_letter, IsLetter, IsPlain, IsField}
use Rattle.ja_bytes.specs.DescriptorText.{IsPlainText, IsFieldText}
use Rattle.ja_bytes.proofs.ClassName.{Runs, runs_from_name}

-- two class names before a ';'
class_unique : (from to : Bool) (m n x y : List ℕ) → Runs from m true → Runs to n true → m ++ 59 ∷ x ≡ n ++ 59 ∷ y → (m ≡ n) × (x ≡ y)
class_unique from to [] [] x y p q e = (refl, cc)
class_unique from to [] (b ∷ n) x y p (inl q) e = let same : b ≡ 59 = cc in absurd (q.0.2 same)
class_unique from to [] (b ∷ n) x y p (inr q) e = let same : b ≡ 59 = cc in absurd (omega (arith, q.0))
class_unique from to (a ∷ m) [] x y (inl p) q e = let same : a ≡ 59 = cc in absurd (p.0.2 same)
class_unique from to (a ∷ m) [] x y (inr p) q e = let same : a ≡ 59 = cc in absurd (omega (arith, p.0))
class_unique from to (a ∷ m) (b ∷ n) x y (inl p) (inl q) e = let r = class_unique true true m n x y p.1 q.1 cc in (cc, r.1)
class_unique from to (a ∷ m) (b ∷ n) x y (inl p) (inr q) e = let r = class_unique true false m n x y p.1 q.2 cc in (cc, r.1)
class_unique from to (a ∷ m) (b ∷ n) x y (inr p) (inl q) e = let r = class_unique false true m n x y p.2 q.1 cc in (cc, r.1)
class_unique from to (a ∷ m) (b ∷ n) x y (inr p) (inr q) e = let r = class_unique false false m n x y p.2 q.2 cc in (cc, r.1)

-- a text that begins with none of '[', ')' and 'V'
pub record Begun (text : List ℕ) : Type 0 where
  pub first : ℕ
  pub rest : List ℕ
  pub parts : text ≡ first ∷ rest
  pub no_bracket : first ≢ 91
  pub no_end : first ≢ 41
  pub no_void : first ≢ 86

not_letter : (test : ℕ → Bool) (b c : ℕ) → IsTrue (test b) → test c ≡ false → b ≢ c
not_letter test b c h other e = false≢true (sym other ∙ ap test (sym e) ∙ h)

letter_begun : (test : ℕ → Bool) (text : List ℕ) → test 91 ≡ false → test 41 ≡ false → test 86 ≡ false → IsLetter test text → Begun text
letter_begun test [] p q r h = absurd h
letter_begun test (b ∷ []) p q r h = record { first = b; rest = []; parts = refl; no_bracket = not_letter test b 91 h p; no_end = not_letter test b 41 h q; no_void = not_letter test b 86 h r }
letter_begun test (b ∷ c ∷ text) p q r h = absurd h

pub plain_begun : (text : List ℕ) (kind : Kind) (name : List ℕ) → IsPlain text kind name → Begun text
plain_begun text P1 name h = letter_begun is_word_letter text refl refl refl h.0
plain_begun text P2 name h = letter_begun is_pair_letter text refl refl refl h.0
plain_begun text R name h = record { first = 76; rest = name ++ 59 ∷ []; parts = h.1; no_bracket = λ e. omega arith; no_end = λ e. omega arith; no_void = λ e. omega arith }
plain_begun text T name h = absurd h

-- two letters at the front
letters_unique : (test also : ℕ → Bool) (a b x y : List ℕ) → IsLetter test a → IsLetter also b → a ++ x ≡ b ++ y → (a ≡ b) × (x ≡ y)
letters_unique test also [] b x y p q e = absurd p
letters_unique test also (c ∷ d ∷ a) b x y p q e = absurd p
letters_unique test also (c ∷ []) [] x y p q e = absurd q
letters_unique test also (c ∷ []) (d ∷ []) x y p q e = (cc, cc)
letters_unique test also (c ∷ []) (d ∷ e' ∷ b) x y p q e = absurd q

-- a letter, and 'L'
letter_not_class : (test : ℕ → Bool) (a x y : List ℕ) → test 76 ≡ false → IsLetter test a → a ++ x ≡ 76 ∷ y → ⊥
letter_not_class test [] x y other p e = absurd p
letter_not_class test (c ∷ []) x y other p e = let same : c ≡ 76 = cc in not_letter test c 76 p other same
letter_not_class test (c ∷ d ∷ a) x y other p e = absurd p

either : (p q : Bool) → (p || q) ≡ true → (p ≡ true) ⊎ (q ≡ true)
either true q e = inl refl
either false q e = inr e

both_letters : (b : ℕ) → IsTrue (is_pair_letter b) → is_word_letter b ≡ false
both_letters b h =
    let at : (c : ℕ) → b ≡ c → is_word_letter c ≡ false → is_word_letter b ≡ false = λ c e k. ap is_word_letter e ∙ k in
    elim (either (b == 68) ((b == 74) || false) h) [
      | inl e ↦ at 68 (eqb-true b 68 e) refl
      | inr f ↦ elim (either (b == 74) false f) [ inl e ↦ at 74 (eqb-true b 74 e) refl | inr e ↦ absurd (false≢true e) ]
    ]

-- what two types at the front of the same bytes have in common: everything
abbrev pub SamePlain : (a b x y : List ℕ) (k l : Kind) (m n : List ℕ) → Type 0
SamePlain a b x y k l m n = (a ≡ b) × (x ≡ y) × (k ≡ l) × (m ≡ n)

word_not_pair : (a b x y : List ℕ) → IsLetter is_word_letter a → IsLetter is_pair_letter b → a ++ x ≡ b ++ y → ⊥
word_not_pair [] b x y p q e = absurd p
word_not_pair (c ∷ d ∷ a) b x y p q e = absurd p
word_not_pair (c ∷ []) [] x y p q e = absurd q
word_not_pair (c ∷ []) (d ∷ []) x y p q e = let same : d ≡ c = cc in false≢true (sym (both_letters d q) ∙ ap is_word_letter same ∙ p)
word_not_pair (c ∷ []) (d ∷ e' ∷ b) x y p q e = absurd q

pub plain_unique : (k l : Kind) (a b m n x y : List ℕ) → IsPlain a k m → IsPlain b l n → a ++ x ≡ b ++ y → SamePlain a b x y k l m n
plain_unique T l a b m n x y p q e = absurd p
plain_unique P1 T a b m n x y p q e = absurd q
plain_unique P2 T a b m n x y p q e = absurd q
plain_unique R T a b m n x y p q e = absurd q
plain_unique P1 P1 a b m n x y p q e = let r = letters_unique is_word_letter is_word_letter a b x y p.0 q.0 e in (r.0, r.1, refl, p.1 ∙ r.0 ∙ sym q.1)
plain_unique P2 P2 a b m n x y p q e = let r = letters_unique is_pair_letter is_pair_letter a b x y p.0 q.0 e in (r.0, r.1, refl, p.1 ∙ r.0 ∙ sym q.1)
plain_unique P1 P2 a b m n x y p q e = absurd (word_not_pair a b x y p.0 q.0 e)
plain_unique P2 P1 a b m n x y p q e = absurd (word_not_pair b a y x q.0 p.0 (sym e))
plain_unique P1 R a b m n x y p q e = absurd (letter_not_class is_word_letter a x ((n ++ 59 ∷ []) ++ y) refl p.0 (e ∙ ap (λ (t : List ℕ). t ++ y) q.1))
plain_unique P2 R a b m n x y p q e = absurd (letter_not_class is_pair_letter a x ((n ++ 59 ∷ []) ++ y) refl p.0 (e ∙ ap (λ (t : List ℕ). t ++ y) q.1))
plain_unique R P1 a b m n x y p q e = absurd (letter_not_class is_word_letter b y ((m ++ 59 ∷ []) ++ x) refl q.0 (sym e ∙ ap (λ (t : List ℕ). t ++ x) p.1))
plain_unique R P2 a b m n x y p q e = absurd (letter_not_class is_pair_letter b y ((m ++ 59 ∷ []) ++ x) refl q.0 (sym e ∙ ap (λ (t : List ℕ). t ++ x) p.1))
plain_unique R R a b m n x y p q e =
    let whole : 76 ∷ (m ++ 59 ∷ x) ≡ 76 ∷ (n ++ 59 ∷ y) =
    ap (λ (t : List ℕ). 76 ∷ t) (sym (append_assoc m (59 ∷ []) x)) ∙ ap (λ (t : List ℕ). t ++ x) (sym p.1) ∙ e ∙ ap (λ (t : List ℕ). t ++ y) q.1 ∙ ap (λ (t : List ℕ). 76 ∷ t) (append_assoc n (59 ∷ []) y) in
    let r = class_unique false false m n x y (runs_from_name false m p.0) (runs_from_name false n q.0) cc in
    (p.1 ∙ ap (λ (t : List ℕ). 76 ∷ (t ++ 59 ∷ [])) r.0 ∙ sym q.1, r.1, refl, r.0)

-- brackets before what begins with none
pub split_brackets : (d k : ℕ) (x y : List ℕ) → ((z : List ℕ) → y ≡ 91 ∷ z → ⊥) → replicate d 91 ++ x ≡ replicate k 91 ++ y
    → ((d ≡ k) × (x ≡ y)) ⊎ ((z : List ℕ) × (d < k) × (x ≡ 91 ∷ z))
split_brackets zero zero x y h e = inl (refl, e)
split_brackets zero (suc k) x y h e = inr (replicate k 91 ++ y, omega arith, e)
split_brackets (suc d) zero x y h e = absurd (h (replicate d 91 ++ x) (sym e))
split_brackets (suc d) (suc k) x y h e =
    elim (split_brackets d k x y h cc) [
      | inl p ↦ inl (ap suc p.0, p.1)
      | inr p ↦ inr (p.0, omega (arith, p.1), p.2)
    ]

-- the room for the type behind brackets: an element takes what it takes
abbrev pub room_behind : ℕ → ℕ → ℕ
room_behind zero room = room
room_behind (suc d) room = 2

-- a type as brackets and a type that is no array
pub record Parts (room : ℕ) (text : List ℕ) : Type 0 where
  pub dims : ℕ
  pub element : List ℕ
  pub most : dims ≤ 255
  pub plain : IsPlainText (room_behind dims room) element
  pub parts : text ≡ replicate dims 91 ++ element

pub words-most : (kind : Kind) → words_of kind ≤ 2
words-most P1 = omega arith
words-most P2 = omega arith
words-most R = omega arith
words-most T = omega arith

array_parts : (room d : ℕ) (text element : List ℕ) (kind : Kind) (name : List ℕ) → 1 ≤ d → d ≤ 255 → IsPlain element kind name → text ≡ replicate d 91 ++ element → Parts room text
array_parts room zero text element kind name some most plain parts = absurd (omega (arith, some))
array_parts room (suc d) text element kind name some most plain parts =
    record { dims = suc d; element = element; most = most; plain = record { kind = kind; name = name; plain = plain; fits = words-most kind }; parts = parts }

pub field_parts : (room : ℕ) (text : List ℕ) → IsFieldText room text → Parts room text
field_parts room text field =
    elim field.field [
      | inl p ↦ record { dims = 0; element = text; most = omega arith; plain = record { kind = field.type.kind; name = field.type.name; plain = p; fits = field.fits }; parts = refl }
      | inr p ↦ array_parts room p.2.dims text p.2.element p.2.kind p.2.name p.2.some p.2.most p.2.plain p.2.parts
    ]

-- brackets and a type that is no array make a type
pub field_from_parts : (room d : ℕ) (element : List ℕ) → 1 ≤ room → d ≤ 255 → IsPlainText (room_behind d room) element → IsFieldText room (replicate d 91 ++ element)
field_from_parts room zero element some most p = record { type = record { kind = p.kind; name = p.name }; field = inl p.plain; fits = p.fits }
field_from_parts room (suc d) element some most p = record {
  type = record { kind = R; name = replicate (suc d) 91 ++ element };
  field = inr (refl, refl, record { dims = suc d; element = element; kind = p.kind; name = p.name; some = omega arith; most = most; plain = p.plain; parts = refl });
  fits = some;
}

-- what begins with a type that is no array begins with no bracket
pub plain_no_bracket : (element : List ℕ) (kind : Kind) (name tail z : List ℕ) → IsPlain element kind name → element ++ tail ≡ 91 ∷ z → ⊥
plain_no_bracket element kind name tail z plain e =
    let b = plain_begun element kind name plain in
    let whole : b.first ∷ (b.rest ++ tail) ≡ 91 ∷ z = ap (λ (t : List ℕ). t ++ tail) (sym b.parts) ∙ e in
    b.no_bracket cc

brackets_begun : (d : ℕ) (element : List ℕ) (kind : Kind) (name : List ℕ) → IsPlain element kind name → (b : ℕ) × (rest : List ℕ) × (replicate d 91 ++ element ≡ b ∷ rest) × (b ≢ 41) × (b ≢ 86)
brackets_begun zero element kind name plain = let b = plain_begun element kind name plain in (b.first, b.rest, b.parts, b.no_end, b.no_void)
brackets_begun (suc d) element kind name plain = (91, replicate d 91 ++ element, refl, λ e. omega arith, λ e. omega arith)

-- a type begins with neither ')' nor 'V'
pub field_begun : (room : ℕ) (text : List ℕ) → IsFieldText room text → (b : ℕ) × (rest : List ℕ) × (text ≡ b ∷ rest) × (b ≢ 41) × (b ≢ 86)
field_begun room text field =
    let p = field_parts room text field in
    let b = brackets_begun p.dims p.element p.plain.kind p.plain.name p.plain.plain in
    (b.0, b.1, p.parts ∙ b.2, b.3, b.4)

-- ---- no type begins another

-- a type as brackets and a type that is no array, with what it is
record Shape (text : List ℕ) (type : JavaType) : Type 0 where
  dims : ℕ
  element : List ℕ
  kind : Kind
  name : List ℕ
  plain : IsPlain element kind name
  parts : text ≡ replicate dims 91 ++ element
  is : ((dims ≡ 0) × (type.kind ≡ kind) × (type.name ≡ name)) ⊎ ((1 ≤ dims) × (type.kind ≡ R) × (type.name ≡ text))

shape : (text : List ℕ) (type : JavaType) → IsField text type → Shape text type
shape text type (inl p) = record { dims = 0; element = text; kind = type.kind; name = type.name; plain = p; parts = refl; is = inl (refl, refl, refl) }
shape text type (inr p) = record { dims = p.2.dims; element = p.2.element; kind = p.2.kind; name = p.2.name; plain = p.2.plain; parts = p.2.parts; is = inr (p.2.some, p.0, p.1) }

same_type : (t u : JavaType) → t.kind ≡ u.kind → t.name ≡ u.name → t ≡ u
same_type t u p q = let make : Kind → List ℕ → JavaType = λ k n. record { kind = k; name = n } in ap (λ (k : Kind). make k t.name) p ∙ ap (make u.kind) q

shaped : (text : List ℕ) (type : JavaType) (s : Shape text type) (tail : List ℕ) → text ++ tail ≡ replicate s.dims 91 ++ (s.element ++ tail)
shaped text type s tail = ap (λ (x : List ℕ). x ++ tail) s.parts ∙ append_assoc (replicate s.dims 91) s.element tail

types_unique : (a b : List ℕ) (t u : JavaType) (s : Shape a t) (r : Shape b u) → s.dims ≡ r.dims → s.kind ≡ r.kind → s.name ≡ r.name → a ≡ b → t ≡ u
types_unique a b t u s r dims kind name text =
    elim s.is [
      | inl p ↦ elim r.is [
        | inl q ↦ same_type t u (p.1 ∙ kind ∙ sym q.1) (p.2 ∙ name ∙ sym q.2)
        | inr q ↦ absurd (omega (arith, dims, p.0, q.0))
      ]
      | inr p ↦ elim r.is [
        | inl q ↦ absurd (omega (arith, dims, p.0, q.0))
        | inr q ↦ same_type t u (p.1 ∙ sym q.1) (p.2 ∙ text ∙ sym q.2)
      ]
    ]

pub field_unique : (a b x y : List ℕ) (t u : JavaType) → IsField a t → IsField b u → a ++ x ≡ b ++ y → (a ≡ b) × (x ≡ y) × (t ≡ u)
field_unique a b x y t u p q e =
    let s = shape a t p in
    let r = shape b u q in
    elim (split_brackets s.dims r.dims (s.element ++ x) (r.element ++ y) (λ z. plain_no_bracket r.element r.kind r.name y z r.plain) (sym (shaped a t s x) ∙ e ∙ shaped b u r y)) [
      | inl h ↦
          let same = plain_unique s.kind r.kind s.element r.element s.name r.name x y s.plain r.plain h.1 in
          let text : a ≡ b = s.parts ∙ ap (λ (d : ℕ). replicate d 91 ++ s.element) h.0 ∙ ap (λ (t : List ℕ). replicate r.dims 91 ++ t) same.0 ∙ sym r.parts in
          (text, same.1, types_unique a b t u s r h.0 same.2 same.3 text)
      | inr h ↦ absurd (plain_no_bracket s.element s.kind s.name x h.0 s.plain h.2)
    ]
