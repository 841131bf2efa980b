-- Lists of signatures without repeats.
use Rattle.std.proofs.Common.{◌≡◌, ℕ, inl, inr, Bool, true, false, ◌||◌, not, List, [], ◌∷◌, ◌++◌, filter, refl, sym, ap, ◌∙◌, true≢false}
use Rattle.std.proofs.lemmas.List.{append-nil}
use Rattle.std.specs.Prelude.{bytes_eq, if◌then◌else◌}
use Rattle.std.specs.List.{list_any}
use Rattle.std.proofs.lemmas.Bool.{and_from, and_parts, cases_Bool}
use Rattle.std.proofs.lemmas.List.Elements.{filter-append}
use Rattle.std.proofs.lemmas.Slice.Eq.{bytes_eq-Decides}
use Rattle.ja_heads.specs.declared.signature.Signature.{Signature}
use Rattle.ja_heads.specs.Signatures.{is_same, first_seen}

-- the signature of this name and descriptor
abbrev made : (name desc : List ℕ) → Signature
made name desc = record { name = name; desc = desc }

-- the test finds equal signatures
pub same-is : (a b : Signature) → is_same a b ≡ true → a ≡ b
same-is a b e =
    let parts : (bytes_eq a.name b.name ≡ true) × (bytes_eq a.desc b.desc ≡ true) = and_parts (bytes_eq a.name b.name) (bytes_eq a.desc b.desc) e in
    ap (λ (n : List ℕ). made n a.desc) ((bytes_eq-Decides a.name b.name).0 parts.0) ∙ ap (λ (d : List ℕ). made b.name d) ((bytes_eq-Decides a.desc b.desc).0 parts.1)

pub is-same : (a b : Signature) → a ≡ b → is_same a b ≡ true
is-same a b e =
    and_from (bytes_eq a.name b.name) (bytes_eq a.desc b.desc) ((bytes_eq-Decides a.name b.name).1 (ap (λ (s : Signature). s.name) e)) ((bytes_eq-Decides a.desc b.desc).1 (ap (λ (s : Signature). s.desc) e))

turned : (a b : Signature) (v : Bool) → is_same a b ≡ v → is_same b a ≡ v
turned a b true e = is-same b a (sym (same-is a b e))
turned a b false e = elim (cases_Bool (is_same b a)) [
  | inl is-so ↦ absurd (true≢false (sym (is-same a b (sym (same-is b a is-so))) ∙ e))
  | inr nay ↦ nay
]

-- a list with one signature more, where it is new
abbrev pub with_new : List Signature → Signature → List Signature
with_new keys s = if list_any (is_same s) keys then keys else keys ++ s ∷ []

-- the signatures other than one
abbrev others : Signature → List Signature → List Signature
others x list = filter (λ t. not (is_same x t)) list

-- another signature is among the others as it is among all
any-others : (x s : Signature) (list : List Signature) → is_same x s ≡ false → list_any (is_same s) (others x list) ≡ list_any (is_same s) list
any-others x s [] nay = refl
any-others x s (t ∷ list) nay = elim (cases_Bool (is_same x t)) [
  | inl out ↦
      let absent : is_same s t ≡ false = elim (cases_Bool (is_same s t)) [
        | inl is-so ↦ absurd (true≢false (sym (is-same x s (same-is x t out ∙ sym (same-is s t is-so))) ∙ nay))
        | inr denied ↦ denied
      ] in
      ap (λ b. list_any (is_same s) (if not b then t ∷ others x list else others x list)) out
      ∙ any-others x s list nay
      ∙ sym (ap (λ b. b || list_any (is_same s) list) absent)
  | inr kept ↦
      ap (λ b. list_any (is_same s) (if not b then t ∷ others x list else others x list)) kept
      ∙ ap (λ b. is_same s t || b) (any-others x s list nay)
]

-- adding what the others keep
others-new : (x s : Signature) (list : List Signature) → is_same x s ≡ false → others x (with_new list s) ≡ with_new (others x list) s
others-new x s list nay = elim (cases_Bool (list_any (is_same s) list)) [
  | inl there ↦
      ap (λ b. others x (if b then list else list ++ s ∷ [])) there
      ∙ sym (ap (λ b. if b then others x list else others x list ++ s ∷ []) (any-others x s list nay ∙ there))
  | inr absent ↦
      ap (λ b. others x (if b then list else list ++ s ∷ [])) absent
      ∙ filter-append (λ t. not (is_same x t)) list (s ∷ [])
      ∙ ap (λ b. others x list ++ (if not b then s ∷ [] else [])) nay
      ∙ sym (ap (λ b. if b then others x list else others x list ++ s ∷ []) (any-others x s list nay ∙ absent))
]

-- adding what the others drop
others-old : (x s : Signature) (list : List Signature) → is_same x s ≡ true → others x (with_new list s) ≡ others x list
others-old x s list is-so = elim (cases_Bool (list_any (is_same s) list)) [
  | inl there ↦ ap (λ b. others x (if b then list else list ++ s ∷ [])) there
  | inr absent ↦
      ap (λ b. others x (if b then list else list ++ s ∷ [])) absent
      ∙ filter-append (λ t. not (is_same x t)) list (s ∷ [])
      ∙ ap (λ b. others x list ++ (if not b then s ∷ [] else [])) is-so
      ∙ append-nil (others x list)
]

-- behind one signature
behind : (x s : Signature) (list : List Signature) → is_same s x ≡ false → x ∷ with_new list s ≡ with_new (x ∷ list) s
behind x s list nay = elim (cases_Bool (list_any (is_same s) list)) [
  | inl there ↦ ap (λ b. x ∷ (if b then list else list ++ s ∷ [])) there ∙ sym (ap (λ b. if b then x ∷ list else (x ∷ list) ++ s ∷ []) (ap (λ b. b || list_any (is_same s) list) nay ∙ there))
  | inr absent ↦ ap (λ b. x ∷ (if b then list else list ++ s ∷ [])) absent ∙ sym (ap (λ b. if b then x ∷ list else (x ∷ list) ++ s ∷ []) (ap (λ b. b || list_any (is_same s) list) nay ∙ absent))
]

-- one signature more is added where it is new
pub first_seen-push : (seen : List Signature) (s : Signature) → first_seen (seen ++ s ∷ []) ≡ with_new (first_seen seen) s
first_seen-push [] s = refl
first_seen-push (x ∷ seen) s =
    ap (λ l. x ∷ others x l) (first_seen-push seen s)
    ∙ elim (cases_Bool (is_same x s)) [
      | inl is-so ↦
          ap (λ l. x ∷ l) (others-old x s (first_seen seen) is-so)
          ∙ sym (ap (λ b. if b then x ∷ others x (first_seen seen) else (x ∷ others x (first_seen seen)) ++ s ∷ []) (ap (λ b. b || list_any (is_same s) (others x (first_seen seen))) (turned x s true is-so)))
      | inr nay ↦
          ap (λ l. x ∷ l) (others-new x s (first_seen seen) nay)
          ∙ behind x s (others x (first_seen seen)) (turned x s false nay)
    ]

-- the keys of a set after a signature was inserted
pub keys-more : (seen keys news : List Signature) (s t : Signature) → keys ≡ first_seen seen → s.name ≡ t.name → s.desc ≡ t.desc → news ≡ with_new keys s → news ≡ first_seen (seen ++ t ∷ [])
keys-more seen keys news s t e names descs is =
    let same : s ≡ t = ap (λ (n : List ℕ). made n s.desc) names ∙ ap (λ (d : List ℕ). made t.name d) descs in
    is ∙ ap (λ (ks : List Signature). with_new ks s) e ∙ ap (λ (x : Signature). with_new (first_seen seen) x) same ∙ sym (first_seen-push seen t)
