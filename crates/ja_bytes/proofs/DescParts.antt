-- Descriptors that are read part by part.
use Rattle.std.proofs.Common.{◌≡◌, ℕ, suc, ◌+◌, ◌-◌, ◌<◌, ◌≤◌, List, [], ◌∷◌, ◌++◌, length, take, drop, Option, None, refl, sym, ap, subst, ◌∙◌, append_assoc, arith, length-drop}
use Rattle.std.proofs.lemmas.List.{take-append-drop, length-take-le}
use Rattle.std.proofs.lemmas.List.Sums.{sum_by_push}
use Rattle.ja_base.specs.declared.java_type.JavaType.{JavaType}
use Rattle.ja_base.specs.Kind.{words_of}
use Rattle.ja_base.specs.Descriptor.{IsField, AreFields, IsResult, words_of_all, IsMethod}
use Rattle.ja_bytes.specs.declared.descriptor.DescFault.{DescFault}
use Rattle.ja_bytes.specs.declared.descriptor.DescFault.TheVariants.{Bad, Memory}
use Rattle.ja_bytes.specs.Desc.{IsBadAt}
use Rattle.ja_bytes.specs.InnerDesc.{behind_of}
use Rattle.ja_bytes.specs.Longest.{IsLongestBegin, IsWrongAt, IsStuck}
use Rattle.ja_bytes.specs.DescriptorText.{IsFieldText, IsFieldDesc, IsResultText, IsMethodText, SpellsParams, IsParamsText}
use Rattle.ja_bytes.proofs.FieldText.{field_unique}
use Rattle.ja_bytes.proofs.Stuck.{take_over}
use Rattle.ja_bytes.proofs.Language.{IsPrefixFree, stuck_first, stuck_second, stuck_longest, stuck_none, text_stuck, text_none}
use Rattle.ja_bytes.proofs.MethodText.{Behind, type_text, fields-push, params_free, params_behind, params_stuck, params_full, result_stuck, method_free, method_stuck, method_unbegun}

-- ---- faults

pub bad_weaker : (P Q : ℕ → Type 0) (fault : DescFault) → ((at : ℕ) → P at → Q at) → IsBadAt P fault → IsBadAt Q fault
bad_weaker P Q (Bad at) f h = f at h
bad_weaker P Q Memory f h = tt

pub bad_behind : (P Q : ℕ → Type 0) (n : ℕ) (fault : DescFault) → ((at : ℕ) → P at → Q (n + at)) → IsBadAt P fault → IsBadAt Q (behind_of n fault)
bad_behind P Q n (Bad at) f h = f at h
bad_behind P Q n Memory f h = tt

-- ---- parts of a list

-- a front of the list, and a front of what is behind it
pub take_both : (bytes : List ℕ) (len n : ℕ) → len ≤ length bytes → take (len + n) bytes ≡ take len bytes ++ take n (drop len bytes)
take_both bytes len n le =
    ap (λ (k : ℕ). take (k + n) bytes) (sym (length-take-le len bytes le)) ∙ ap (take (length (take len bytes) + n)) (sym (take-append-drop len bytes)) ∙ take_over (take len bytes) (drop len bytes) n

-- ---- parameters

-- the first bytes are parameters of these types, which take these words
pub record HasParams (bytes : List ℕ) (len words : ℕ) (types : List JavaType) : Type 0 where
  pub within : len ≤ length bytes
  pub fields : AreFields (take len bytes) types
  pub sum : words ≡ words_of_all types
  pub most : words ≤ 255

pub params_more : (bytes rest : List ℕ) (len words n : ℕ) (types : List JavaType) (type : JavaType) → HasParams bytes len words types → rest ≡ drop len bytes
    → n ≤ length rest → IsField (take n rest) type → words + words_of type.kind ≤ 255 → HasParams bytes (len + n) (words + words_of type.kind) (types ++ type ∷ [])
params_more bytes rest len words n types type has behind within field fits = record {
  within = omega (arith, has.within, within, ap length behind, length-drop len bytes);
  fields = rw (take_both bytes len n has.within, ← behind) (fields-push (take len bytes) (take n rest) types type has.fields field);
  sum = omega (arith, has.sum, sum_by_push (λ type. words_of type.kind) types type);
  most = fits;
}

pub params_end : (bytes rest tail : List ℕ) (len words : ℕ) (types : List JavaType) → HasParams bytes len words types → rest ≡ drop len bytes → rest ≡ 41 ∷ tail → SpellsParams 255 (take (len + 1) bytes) types
params_end bytes rest tail len words types has behind e = record {
  inner = take len bytes;
  fields = has.fields;
  most = omega (arith, has.sum, has.most);
  parts = take_both bytes len 1 has.within ∙ ap (λ (t : List ℕ). take len bytes ++ take 1 t) (sym behind ∙ e);
}

pub params_wrong : (bytes rest : List ℕ) (len words n : ℕ) (types : List JavaType) → HasParams bytes len words types → rest ≡ drop len bytes
    → IsStuck (IsParamsText (255 - words)) rest n → IsStuck (IsParamsText 255) bytes (len + n)
params_wrong bytes rest len words n types has behind stuck =
    let whole : take len bytes ++ rest ≡ bytes = ap (λ (t : List ℕ). take len bytes ++ t) behind ∙ take-append-drop len bytes in
    subst (λ (t : List ℕ). IsStuck (IsParamsText 255) t (len + n)) whole
    (subst (λ (k : ℕ). IsStuck (IsParamsText 255) (take len bytes ++ rest) (k + n)) (length-take-le len bytes has.within)
    (params_behind 255 (255 - words) (take len bytes) rest types n has.fields (omega (arith, has.sum, has.most)) stuck))

-- ---- methods

-- the bytes behind the '(' are parameters and a result
pub method_found : (bytes rest : List ℕ) (len n : ℕ) (types : List JavaType) (result : Option JavaType) → rest ≡ drop len bytes → SpellsParams 255 (take len bytes) types
    → IsResult (take n rest) result → IsMethod (40 ∷ (take len bytes ++ take n rest)) types result
method_found bytes rest len n types result behind spells ends = record {
  inner = spells.inner;
  last = take n rest;
  parts = ap (λ (t : List ℕ). 40 ∷ (t ++ take n rest)) spells.parts ∙ ap (λ (t : List ℕ). 40 ∷ t) (append_assoc spells.inner (41 ∷ []) (take n rest));
  fields = spells.fields;
  most = spells.most;
  ends = ends;
}

wrong_from_stuck : (bytes : List ℕ) (n : ℕ) → IsStuck IsMethodText (40 ∷ bytes) (n + 1) → IsWrongAt IsMethodText (40 ∷ bytes) (1 + n)
wrong_from_stuck bytes n stuck =
    let e : n + 1 ≡ 1 + n = omega arith in
    subst (IsWrongAt IsMethodText (40 ∷ bytes)) e (record { longest = stuck_longest IsMethodText (40 ∷ bytes) (n + 1) stuck; none = stuck_none IsMethodText (40 ∷ bytes) (n + 1) stuck })

void_result : IsResultText (86 ∷ [])
void_result = record { result = None; ends = refl }

pub wrong_in_params : (bytes : List ℕ) (n : ℕ) → IsStuck (IsParamsText 255) bytes n → IsWrongAt IsMethodText (40 ∷ bytes) (1 + n)
wrong_in_params bytes n stuck = wrong_from_stuck bytes n (method_stuck bytes n (stuck_first (IsParamsText 255) IsResultText bytes n (86 ∷ []) void_result stuck))

pub wrong_in_result : (bytes rest : List ℕ) (len n : ℕ) (types : List JavaType) → len ≤ length bytes → rest ≡ drop len bytes → SpellsParams 255 (take len bytes) types
    → IsStuck IsResultText rest n → IsWrongAt IsMethodText (40 ∷ bytes) (1 + (len + n))
wrong_in_result bytes rest len n types le behind spells stuck =
    let whole : take len bytes ++ rest ≡ bytes = ap (λ (t : List ℕ). take len bytes ++ t) behind ∙ take-append-drop len bytes in
    let at : IsStuck Behind (take len bytes ++ rest) (length (take len bytes) + n) =
    stuck_second (IsParamsText 255) IsResultText (take len bytes) rest n (params_free 255) (record { params = types; spells = spells }) stuck in
    wrong_from_stuck bytes (len + n) (method_stuck bytes (len + n)
    (subst (λ (t : List ℕ). IsStuck Behind t (len + n)) whole (subst (λ (k : ℕ). IsStuck Behind (take len bytes ++ rest) (k + n)) (length-take-le len bytes le) at)))

-- a descriptor, and bytes behind it
wrong_behind : (P : List ℕ → Type 0) (bytes : List ℕ) (n : ℕ) → IsPrefixFree P → P (take n bytes) → n < length bytes → IsWrongAt P bytes n
wrong_behind P bytes n free text lt = parts (drop n bytes) refl
  where
    parts : (rest : List ℕ) → drop n bytes ≡ rest → IsWrongAt P bytes n
    parts [] e = absurd (omega (arith, lt, length-drop n bytes, ap length e))
    parts (b ∷ rest) e =
        let whole : take n bytes ++ b ∷ rest ≡ bytes = ap (λ (t : List ℕ). take n bytes ++ t) (sym e) ∙ take-append-drop n bytes in
        let size : length (take n bytes) ≡ n = length-take-le n bytes (omega (arith, lt)) in
        let longest : IsLongestBegin P bytes n = subst (λ (k : ℕ). IsLongestBegin P bytes k) size
        (subst (λ (t : List ℕ). IsLongestBegin P t (length (take n bytes))) whole (text_stuck P (take n bytes) b rest free text)) in
        record { longest = longest; none = λ more. text_none P (take n bytes) b rest free text (subst P (sym whole) more) }

pub wrong_behind_method : (bytes rest : List ℕ) (len n : ℕ) (types : List JavaType) (result : Option JavaType) → len ≤ length bytes → rest ≡ drop len bytes
    → SpellsParams 255 (take len bytes) types → IsResult (take n rest) result → n < length rest → IsWrongAt IsMethodText (40 ∷ bytes) (1 + (len + n))
wrong_behind_method bytes rest len n types result le behind spells ends lt =
    let size : suc (len + n) ≡ 1 + (len + n) = omega arith in
    let front : take len bytes ++ take n rest ≡ take (len + n) bytes = rw behind (sym (take_both bytes len n le)) in
    let method : IsMethod (40 ∷ take (len + n) bytes) types result = subst (λ (t : List ℕ). IsMethod (40 ∷ t) types result) front (method_found bytes rest len n types result behind spells ends) in
    subst (IsWrongAt IsMethodText (40 ∷ bytes)) size
    (wrong_behind IsMethodText (40 ∷ bytes) (suc (len + n)) method_free (record { params = types; result = result; method = method }) (omega (arith, lt, le, ap length behind, length-drop len bytes)))

pub wrong_unbegun : (bytes : List ℕ) → ((z : List ℕ) → bytes ≡ 40 ∷ z → ⊥) → IsWrongAt IsMethodText bytes 0
wrong_unbegun bytes no_open =
    let stuck = method_unbegun bytes no_open in
    record { longest = stuck_longest IsMethodText bytes 0 stuck; none = stuck_none IsMethodText bytes 0 stuck }

-- ---- fields

pub field_free : IsPrefixFree IsFieldDesc
field_free = record { unique = λ a b x y p q e. let one = field_unique a b x y p.type q.type p.field q.field e in (one.0, one.1) }

pub field_wrong : (bytes : List ℕ) (n : ℕ) → IsStuck (IsFieldText 2) bytes n → IsWrongAt IsFieldDesc bytes n
field_wrong bytes n stuck =
    let as_text : (text : List ℕ) → IsFieldDesc text → IsFieldText 2 text = λ text h. type_text text h.type h.field in
    let longest = stuck_longest (IsFieldText 2) bytes n stuck in
    record {
      longest = record {
        within = longest.within;
        begins = record { more = longest.begins.more; text = record { type = longest.begins.text.type; field = longest.begins.text.field } };
        longest = λ m lt le front. longest.longest m lt le (record { more = front.more; text = as_text (take m bytes ++ front.more) front.text });
      };
      none = λ h. stuck_none (IsFieldText 2) bytes n stuck (as_text bytes h);
    }

pub field_wrong_behind : (bytes : List ℕ) (n : ℕ) (type : JavaType) → IsField (take n bytes) type → n < length bytes → IsWrongAt IsFieldDesc bytes n
field_wrong_behind bytes n type field lt = wrong_behind IsFieldDesc bytes n field_free (record { type = type; field = field }) lt

-- ---- what is left

open_end : (rest : List ℕ) (b : ℕ) → ((z : List ℕ) × (rest ≡ b ∷ z) → ⊥) → (z : List ℕ) → rest ≡ b ∷ z → ⊥
open_end rest b h z e = h (z, e)

pub full_wrong : (words : ℕ) (rest : List ℕ) → words ≡ 255 → ((z : List ℕ) × (rest ≡ 41 ∷ z) → ⊥) → IsStuck (IsParamsText (255 - words)) rest 0
full_wrong words rest e h = let k : 0 ≡ 255 - words = omega (arith, e) in subst (λ (room : ℕ). IsStuck (IsParamsText room) rest 0) k (params_full rest (open_end rest 41 h))

pub next_wrong : (room : ℕ) (rest : List ℕ) (fault : DescFault) → ((z : List ℕ) × (rest ≡ 41 ∷ z) → ⊥) → IsBadAt (IsStuck (IsFieldText room) rest) fault → IsBadAt (IsStuck (IsParamsText room) rest) fault
next_wrong room rest fault h bad = bad_weaker (IsStuck (IsFieldText room) rest) (IsStuck (IsParamsText room) rest) fault (λ n. params_stuck room rest n (open_end rest 41 h)) bad

pub result_wrong : (rest : List ℕ) (fault : DescFault) → ((z : List ℕ) × (rest ≡ 86 ∷ z) → ⊥) → IsBadAt (IsStuck (IsFieldText 2) rest) fault → IsBadAt (IsStuck IsResultText rest) fault
result_wrong rest fault h bad = bad_weaker (IsStuck (IsFieldText 2) rest) (IsStuck IsResultText rest) fault (λ n. result_stuck rest n (open_end rest 86 h)) bad
