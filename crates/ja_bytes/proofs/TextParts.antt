-- Texts, character by character: no character begins another, so a text has one reading.
use Rattle.std.proofs.Common.{◌≡◌, ℕ, ◌+◌, ◌-◌, ◌<◌, List, [], ◌∷◌, ◌++◌, length, take, drop, refl, sym, ap, subst, ◌∙◌, append_assoc, arith, length-append}
use Rattle.std.specs.List.{concat, AllByRecursion}
use Rattle.std.proofs.lemmas.List.{take_at, drop_at, take-append-drop, append-nil, length-drop, nil_from_length}
use Rattle.ja_bytes.specs.Text.{IsCharacter, IsModifiedUtf8, IsFirstWrong}

concat-push : (cs : List (List ℕ)) (c : List ℕ) → concat (cs ++ c ∷ []) ≡ concat cs ++ c
concat-push [] c = append-nil c
concat-push (d ∷ cs) c = ap (λ (x : List ℕ). d ++ x) (concat-push cs c) ∙ sym (append_assoc d (concat cs) c)

each-push : (cs : List (List ℕ)) (c : List ℕ) → AllByRecursion IsCharacter cs → IsCharacter c → AllByRecursion IsCharacter (cs ++ c ∷ [])
each-push [] c each one = (one, tt)
each-push (d ∷ cs) c each one = (each.0, each-push cs c each.1 one)

-- a text with one more character
pub text-push : (front c : List ℕ) → IsModifiedUtf8 front → IsCharacter c → IsModifiedUtf8 (front ++ c)
text-push front c text one = record {
  characters = text.characters ++ c ∷ [];
  each = each-push text.characters c text.each one;
  parts = ap (λ (x : List ℕ). x ++ c) text.parts ∙ sym (concat-push text.characters c);
}

-- two characters at the front of the same bytes are one
pub one_character : (c d x y : List ℕ) → IsCharacter c → IsCharacter d → c ++ x ≡ d ++ y → (c ≡ d) × (x ≡ y)
one_character [] d x y p q e = absurd p
one_character (a ∷ []) [] x y p q e = absurd q
one_character (a ∷ []) (a' ∷ []) x y p q e = (cc, cc)
one_character (a ∷ []) (a' ∷ b' ∷ []) x y p q e = let h : a ≡ a' = cc in absurd (omega arith)
one_character (a ∷ []) (a' ∷ b' ∷ c' ∷ []) x y p q e = let h : a ≡ a' = cc in absurd (omega arith)
one_character (a ∷ []) (a' ∷ b' ∷ c' ∷ d' ∷ more) x y p q e = absurd q
one_character (a ∷ b ∷ []) [] x y p q e = absurd q
one_character (a ∷ b ∷ []) (a' ∷ []) x y p q e = let h : a ≡ a' = cc in absurd (omega arith)
one_character (a ∷ b ∷ []) (a' ∷ b' ∷ []) x y p q e = (cc, cc)
one_character (a ∷ b ∷ []) (a' ∷ b' ∷ c' ∷ []) x y p q e = let h : a ≡ a' = cc in absurd (omega arith)
one_character (a ∷ b ∷ []) (a' ∷ b' ∷ c' ∷ d' ∷ more) x y p q e = absurd q
one_character (a ∷ b ∷ c ∷ []) [] x y p q e = absurd q
one_character (a ∷ b ∷ c ∷ []) (a' ∷ []) x y p q e = let h : a ≡ a' = cc in absurd (omega arith)
one_character (a ∷ b ∷ c ∷ []) (a' ∷ b' ∷ []) x y p q e = let h : a ≡ a' = cc in absurd (omega arith)
one_character (a ∷ b ∷ c ∷ []) (a' ∷ b' ∷ c' ∷ []) x y p q e = (cc, cc)
one_character (a ∷ b ∷ c ∷ []) (a' ∷ b' ∷ c' ∷ d' ∷ more) x y p q e = absurd q
one_character (a ∷ b ∷ c ∷ d ∷ more) d' x y p q e = absurd p

-- where characters stand before bytes that no character begins, the whole is no text
stuck : (cs ds : List (List ℕ)) (rest : List ℕ) → AllByRecursion IsCharacter cs → AllByRecursion IsCharacter ds → 0 < length rest
    → ((n : ℕ) → IsCharacter (take n rest) → ⊥) → concat cs ++ rest ≡ concat ds → ⊥
stuck [] [] [] p q some wrong e = absurd (omega arith)
stuck [] [] (b ∷ rest) p q some wrong e = absurd cc
stuck [] (d ∷ ds) rest p q some wrong e = wrong (length d) (rw (e, take_at d (concat ds) (length d) refl) q.0)
stuck (c ∷ cs) [] rest p q some wrong e = absurd (omega (arith, ap length e, length-append (c ++ concat cs) rest, some))
stuck (c ∷ cs) (d ∷ ds) rest p q some wrong e =
    let same = one_character c d (concat cs ++ rest) (concat ds) p.0 q.0 (sym (append_assoc c (concat cs) rest) ∙ e) in
    stuck cs ds rest p.1 q.1 some wrong same.1

-- bytes with a wrong character are no text
pub wrong_is_no_text : (bytes : List ℕ) (at : ℕ) → IsFirstWrong bytes at → IsModifiedUtf8 bytes → ⊥
wrong_is_no_text bytes at wrong text =
    stuck wrong.before.characters text.characters (drop at bytes) wrong.before.each text.each (omega (arith, wrong.inside, length-drop at bytes)) wrong.wrong
    (ap (λ (x : List ℕ). x ++ drop at bytes) (sym wrong.before.parts) ∙ take-append-drop at bytes ∙ text.parts)

-- the bytes before the rest are a text
pub record HasRead (bytes rest : List ℕ) : Type 0 where
  pub front : List ℕ
  pub text : IsModifiedUtf8 front
  pub parts : bytes ≡ front ++ rest

-- one more character is read
pub reads_on : (bytes rest : List ℕ) (n : ℕ) → HasRead bytes rest → IsCharacter (take n rest) → HasRead bytes (drop n rest)
reads_on bytes rest n read one = record {
  front = read.front ++ take n rest;
  text = text-push read.front (take n rest) read.text one;
  parts = read.parts ∙ ap (λ (x : List ℕ). read.front ++ x) (sym (take-append-drop n rest)) ∙ sym (append_assoc read.front (take n rest) (drop n rest));
}

-- the reading stops where no character begins
pub stops : (bytes rest : List ℕ) → HasRead bytes rest → 0 < length rest → ((n : ℕ) → IsCharacter (take n rest) → ⊥)
    → IsFirstWrong bytes (length bytes - length rest)
stops bytes rest read some wrong =
    let at : ℕ = length bytes - length rest in
    let len : length bytes ≡ length read.front + length rest = ap length read.parts ∙ length-append read.front rest in
    let k : length read.front ≡ at = omega arith in
    let before : take at bytes ≡ read.front = ap (take at) read.parts ∙ take_at read.front rest at k in
    let behind : drop at bytes ≡ rest = ap (drop at) read.parts ∙ drop_at read.front rest at k in
    record { inside = omega arith; before = subst IsModifiedUtf8 (sym before) read.text; wrong = λ n one. wrong n (rw behind at one) }

-- the reading came to the end
pub ends : (bytes rest : List ℕ) → HasRead bytes rest → length rest ≡ 0 → IsModifiedUtf8 bytes
ends bytes rest read none =
    let nothing : rest ≡ [] = nil_from_length rest none in
    let whole : bytes ≡ read.front = read.parts ∙ ap (λ (x : List ℕ). read.front ++ x) nothing ∙ append-nil read.front in
    subst IsModifiedUtf8 (sym whole) read.text
