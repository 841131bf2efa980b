-- One step of the loops over classes and their members.
use Rattle.std.proofs.Common.{◌≡◌, ℕ, zero, suc, ◌+◌, ◌<◌, inl, inr, Bool, true, false, not, ◌==◌, List, [], ◌∷◌, ◌++◌, length, take, get_or, map, sym, ap, ◌∙◌, subst, arith, append_assoc}
use Rattle.std.specs.Prelude.{Some, slice_get, if◌then◌else◌}
use Rattle.std.proofs.lemmas.Bool.{cases_Bool}
use Rattle.std.proofs.lemmas.Option.{same_Some, slice_get_within}
use Rattle.std.proofs.lemmas.List.{append-nil, take_more, map_more, length-take-le}
use Rattle.std.proofs.lemmas.List.Elements.{filter-append}
use borrow.Author.Tests.{eqb-true}
use Rattle.std.proofs.Common.{eq-eqb}
use Rattle.ja_base.specs.declared.id.ClassId.{ClassId}
use Rattle.ja_ir.specs.declared.head.ClassHead.{ClassHead}
use Rattle.ja_hier.specs.LookUps.{methods_of}
use Rattle.ja_heads.specs.declared.signature.Signature.{Signature}
use Rattle.ja_heads.specs.Fields.{field_of, fields_from}
use Rattle.ja_heads.specs.Signatures.{numbers_of, own_first, signature_of, signatures_in, signatures_of}
use Rattle.ja_heads.specs.InnerSignatures.{signatures_beside}

-- ---- fields

fields-push : (n : ℕ) (heads : List ClassHead) (head : ClassHead) → fields_from n (heads ++ head ∷ []) ≡ fields_from n heads ++ map (field_of (n + length heads)) head.fields
fields-push n [] head =
    let e : n ≡ n + length {A = ClassHead} [] = omega arith in
    append-nil (map (field_of n) head.fields) ∙ ap (λ (k : ℕ). map (field_of k) head.fields) e
fields-push n (h ∷ heads) head =
    let e : suc n + length heads ≡ n + suc (length heads) = omega arith in
    ap (λ l. map (field_of n) h.fields ++ l) (fields-push (suc n) heads head)
    ∙ ap (λ (k : ℕ). map (field_of n) h.fields ++ (fields_from (suc n) heads ++ map (field_of k) head.fields)) e
    ∙ sym (append_assoc (map (field_of n) h.fields) (fields_from (suc n) heads) (map (field_of (n + suc (length heads))) head.fields))

-- the fields of one class more
pub fields-more : (heads : List ClassHead) (c : ℕ) (head : ClassHead) → c < length heads → head ≡ get_or heads c head
    → fields_from 0 (take (c + 1) heads) ≡ fields_from 0 (take c heads) ++ map (field_of c) head.fields
fields-more heads c head lt read =
    let size : 0 + length (take c heads) ≡ c = omega (arith, length-take-le c heads) in
    ap (fields_from 0) (take_more heads c head lt)
    ∙ fields-push 0 (take c heads) (get_or heads c head)
    ∙ ap (λ (k : ℕ). fields_from 0 (take c heads) ++ map (field_of k) (get_or heads c head).fields) size
    ∙ ap (λ (h : ClassHead). fields_from 0 (take c heads) ++ map (field_of c) h.fields) (sym read)

-- ---- signatures

signatures-push : (heads : List ClassHead) (classes : List ℕ) (d : ℕ) → signatures_of heads (classes ++ d ∷ []) ≡ signatures_of heads classes ++ signatures_in heads d
signatures-push heads [] d = append-nil (signatures_in heads d)
signatures-push heads (c ∷ classes) d =
    ap (λ l. signatures_in heads c ++ l) (signatures-push heads classes d)
    ∙ sym (append_assoc (signatures_in heads c) (signatures_of heads classes) (signatures_in heads d))

others-push : (c : ℕ) (ids : List ClassId) (i : ℕ) (id : ClassId) → i < length ids → id ≡ get_or ids i id
    → own_first c (numbers_of (take (i + 1) ids)) ≡ own_first c (numbers_of (take i ids)) ++ (if not (id.0 == c) then id.0 ∷ [] else [])
others-push c ids i id lt read =
    ap (λ l. own_first c l) (map_more (λ (x : ClassId). x.0) ids i id lt)
    ∙ ap (λ (x : ClassId). own_first c (numbers_of (take i ids) ++ x.0 ∷ [])) (sym read)
    ∙ ap (λ l. c ∷ l) (filter-append (λ d. not (d == c)) (numbers_of (take i ids)) (id.0 ∷ []))

beside-by : (heads : List ClassHead) (classes : List ℕ) (c d : ℕ) (b : Bool)
    → signatures_of heads (classes ++ (if not b then d ∷ [] else [])) ≡ signatures_of heads classes ++ (if b then [] else signatures_in heads d)
beside-by heads classes c d true = ap (signatures_of heads) (append-nil classes) ∙ sym (append-nil (signatures_of heads classes))
beside-by heads classes c d false = signatures-push heads classes d

-- one class more adds its signatures, unless it is the first
pub beside-more : (heads : List ClassHead) (c : ℕ) (ids : List ClassId) (i : ℕ) (id : ClassId) → i < length ids → id ≡ get_or ids i id
    → signatures_of heads (own_first c (numbers_of (take (i + 1) ids))) ≡ signatures_of heads (own_first c (numbers_of (take i ids))) ++ signatures_beside heads c id.0
beside-more heads c ids i id lt read =
    ap (signatures_of heads) (others-push c ids i id lt read)
    ∙ beside-by heads (own_first c (numbers_of (take i ids))) c id.0 (id.0 == c)

-- the class itself adds nothing
pub beside-same : (heads : List ClassHead) (c d : ℕ) (seen : List Signature) → d ≡ c → seen ++ signatures_beside heads c d ≡ seen
beside-same heads c d seen same = ap (λ (b : Bool). seen ++ (if b then [] else signatures_in heads d)) (eq-eqb d c same) ∙ append-nil seen

-- another class adds those of its methods
pub beside-other : (heads : List ClassHead) (c d : ℕ) (head : ClassHead) → (d ≡ c → ⊥) → slice_get heads d ≡ Some head → signatures_beside heads c d ≡ map signature_of head.methods
beside-other heads c d head other found =
    let test : (d == c) ≡ false = elim (cases_Bool (d == c)) [ inl same ↦ absurd (other (eqb-true d c same)) | inr apart ↦ apart ] in
    ap (λ (b : Bool). if b then [] else signatures_in heads d) test ∙ ap (λ o. map signature_of (methods_of o)) found

-- the first class
pub own-signatures : (heads : List ClassHead) (c : ℕ) (head : ClassHead) → slice_get heads c ≡ Some head → signatures_of heads (own_first c []) ≡ map signature_of head.methods
own-signatures heads c head found = append-nil (signatures_in heads c) ∙ ap (λ o. map signature_of (methods_of o)) found

-- ---- what holds at each place

-- it holds at each place of a list with one more item
pub pushed : {A : Type 0} (P : ℕ → A → Type 0) (xs : List A) (x : A) → ((c : ℕ) (a : A) → slice_get xs c ≡ Some a → P c a) → P (length xs) x
    → (c : ℕ) (a : A) → slice_get (xs ++ x ∷ []) c ≡ Some a → P c a
pushed P [] x each last zero a e = subst (P zero) (same_Some x a e) last
pushed P [] x each last (suc c) a e = absurd (omega (arith, slice_get_within (x ∷ []) (suc c) a e))
pushed P (y ∷ xs) x each last zero a e = each zero a e
pushed P (y ∷ xs) x each last (suc c) a e = pushed (λ n b. P (suc n) b) xs x (λ n b at. each (suc n) b at) last c a e
