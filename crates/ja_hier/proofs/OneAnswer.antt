-- Look-ups have one answer.
use Rattle.std.proofs.Common.{◌≡◌, ℕ, ◌⊎◌, inl, inr, List, [], ◌∷◌, ◌++◌, refl, sym, ap, ◌∙◌, subst}
use Rattle.std.specs.Prelude.{Option, Some, None}
use Rattle.ja_ir.specs.declared.head.ClassHead.{ClassHead}
use Rattle.ja_ir.specs.declared.class.MethodAt.{MethodAt}
use Rattle.ja_ir.specs.declared.class.MethodAt.TheVariants.{Program as AtProgram}
use Rattle.ja_hier.specs.declared.field_at.FieldAt.{FieldAt}
use Rattle.ja_hier.specs.declared.field_at.FieldAt.TheVariants.{Program}
use Rattle.ja_hier.specs.declared.skip.Skip.{Skip}
use Rattle.ja_hier.specs.declared.skip.Skip.TheVariants.{NoDefault}
use Rattle.ja_hier.specs.LookUps.{field_in, field_number, FieldSearch, nowhere, here, further, FindsField, in_program, in_library, missing, method_in, method_number, answer_at, ClassSearch, declared, inherited, at_end, FindsDefault, one, nothing_left, several, Finds, in_class, as_default, in_no_class}
use Rattle.ja_supertypes.specs.Supertypes.{supertypes_of, superclass_of}

none-is-not-some : (o : Option ℕ) (k : ℕ) → o ≡ None → o ≡ Some k → ⊥
none-is-not-some o k e f = cc (e, f)

same-some : (o : Option ℕ) (j k : ℕ) → o ≡ Some j → o ≡ Some k → j ≡ k
same-some o j k e f = let g : Some j ≡ Some k = sym e ∙ f in cc g

-- how a search begins
abbrev FieldCase : List ClassHead → (name desc : List ℕ) → List ℕ → Option ℕ → Type 0
FieldCase heads name desc [] found = found ≡ None
FieldCase heads name desc (c ∷ classes) found =
    ((k : ℕ) × (field_in heads name desc c ≡ Some k) × (found ≡ Some (field_number heads c k)))
    ⊎ ((field_in heads name desc c ≡ None) × FieldSearch heads name desc (supertypes_of heads c ++ classes) found)

field-case : (heads : List ClassHead) (name desc : List ℕ) (classes : List ℕ) (found : Option ℕ) → FieldSearch heads name desc classes found → FieldCase heads name desc classes found
field-case heads name desc classes found nowhere = refl
field-case heads name desc classes found (here {k = k} e) = inl (k, e, refl)
field-case heads name desc classes found (further e s) = inr (e, s)

pub one-field : (heads : List ClassHead) (name desc : List ℕ) (classes : List ℕ) (a b : Option ℕ) → FieldSearch heads name desc classes a → FieldSearch heads name desc classes b → a ≡ b
one-field heads name desc classes a b nowhere t = sym (field-case heads name desc [] b t)
one-field heads name desc classes a b (here {c = c} {k = k} {classes = rest} e) t =
    elim (field-case heads name desc (c ∷ rest) b t) [
      | inl found ↦ ap (λ n. Some (field_number heads c n)) (same-some (field_in heads name desc c) k found.0 e found.1) ∙ sym found.2
      | inr other ↦ absurd (none-is-not-some (field_in heads name desc c) k other.0 e)
    ]
one-field heads name desc classes a b (further {c = c} {classes = rest} e s) t =
    elim (field-case heads name desc (c ∷ rest) b t) [
      | inl found ↦ absurd (none-is-not-some (field_in heads name desc c) found.0 e found.1)
      | inr other ↦ one-field heads name desc (supertypes_of heads c ++ rest) a b s other.1
    ]

abbrev ClassCase : List ClassHead → Skip → (name desc : List ℕ) → ℕ → Option MethodAt → Type 0
ClassCase heads skip name desc c found =
    ((k : ℕ) × (method_in heads skip name desc c ≡ Some k) × (found ≡ Some (answer_at heads c k)))
    ⊎ (((d : ℕ) × (method_in heads skip name desc c ≡ None) × (superclass_of heads c ≡ Some d) × ClassSearch heads skip name desc d found)
    ⊎ ((method_in heads skip name desc c ≡ None) × (superclass_of heads c ≡ None) × (found ≡ None)))

class-case : (heads : List ClassHead) (skip : Skip) (name desc : List ℕ) (c : ℕ) (found : Option MethodAt) → ClassSearch heads skip name desc c found → ClassCase heads skip name desc c found
class-case heads skip name desc c found (declared {k = k} e) = inl (k, e, refl)
class-case heads skip name desc c found (inherited {d = d} e s t) = inr (inl (d, e, s, t))
class-case heads skip name desc c found (at_end e s) = inr (inr (e, s, refl))

pub one-class : (heads : List ClassHead) (skip : Skip) (name desc : List ℕ) (c : ℕ) (a b : Option MethodAt) → ClassSearch heads skip name desc c a → ClassSearch heads skip name desc c b → a ≡ b
one-class heads skip name desc c a b (declared {k = k} e) t =
    elim (class-case heads skip name desc c b t) [
      | inl found ↦ ap (λ n. Some (answer_at heads c n)) (same-some (method_in heads skip name desc c) k found.0 e found.1) ∙ sym found.2
      | inr other ↦ absurd (elim other [ inl up ↦ none-is-not-some (method_in heads skip name desc c) k up.1 e | inr end ↦ none-is-not-some (method_in heads skip name desc c) k end.0 e ])
    ]
one-class heads skip name desc c a b (inherited {d = d} e s u) t =
    elim (class-case heads skip name desc c b t) [
      | inl found ↦ absurd (none-is-not-some (method_in heads skip name desc c) found.0 e found.1)
      | inr other ↦ elim other [
        | inl up ↦
            let same : d ≡ up.0 = same-some (superclass_of heads c) d up.0 s up.2 in
            one-class heads skip name desc d a b u (subst (λ (x : ℕ). ClassSearch heads skip name desc x b) (sym same) up.3)
        | inr end ↦ absurd (none-is-not-some (superclass_of heads c) d end.1 s)
      ]
    ]
one-class heads skip name desc c a b (at_end e s) t =
    elim (class-case heads skip name desc c b t) [
      | inl found ↦ absurd (none-is-not-some (method_in heads skip name desc c) found.0 e found.1)
      | inr other ↦ elim other [
        | inl up ↦ absurd (none-is-not-some (superclass_of heads c) up.0 s up.2)
        | inr end ↦ sym end.2
      ]
    ]

one-default : (heads : List ClassHead) (name desc : List ℕ) (c : ℕ) (a b : Option ℕ) → FindsDefault heads name desc c a → FindsDefault heads name desc c b → a ≡ b
one-default heads name desc c a b (one i k left only) (one j l other other-only) =
    let same : j ≡ i = only j l other in
    let place : method_in heads NoDefault name desc i ≡ Some l = subst (λ (x : ℕ). method_in heads NoDefault name desc x ≡ Some l) same other.candidate.declared in
    let places : k ≡ l = same-some (method_in heads NoDefault name desc i) k l left.candidate.declared place in
    ap (λ n. Some (method_number heads i n)) places ∙ ap (λ n. Some (method_number heads n l)) (sym same)
one-default heads name desc c a b (one i k left only) (nothing_left none) = absurd (none i k left)
one-default heads name desc c a b (one i k left only) (several x p y q lx ly apart) = absurd (apart (only x p lx ∙ sym (only y q ly)))
one-default heads name desc c a b (nothing_left none) (one i k left only) = absurd (none i k left)
one-default heads name desc c a b (nothing_left none) (nothing_left other) = refl
one-default heads name desc c a b (nothing_left none) (several x p y q lx ly apart) = refl
one-default heads name desc c a b (several x p y q lx ly apart) (one i k left only) = absurd (apart (only x p lx ∙ sym (only y q ly)))
one-default heads name desc c a b (several x p y q lx ly apart) (nothing_left other) = refl
one-default heads name desc c a b (several x p y q lx ly apart) (several i k j l li lj other) = refl

pub one-method : (heads : List ClassHead) (skip : Skip) (name desc : List ℕ) (c : ℕ) (a b : MethodAt) → Finds heads skip name desc c a → Finds heads skip name desc c b → a ≡ b
one-method heads skip name desc c a b (in_class s) (in_class t) = let e : Some a ≡ Some b = one-class heads skip name desc c (Some a) (Some b) s t in cc e
one-method heads skip name desc c a b (in_class s) (as_default t d) = let e : Some a ≡ None = one-class heads skip name desc c (Some a) None s t in absurd (cc e)
one-method heads skip name desc c a b (in_class s) (in_no_class t d) = let e : Some a ≡ None = one-class heads skip name desc c (Some a) None s t in absurd (cc e)
one-method heads skip name desc c a b (as_default s d) (in_class t) = let e : None ≡ Some b = one-class heads skip name desc c None (Some b) s t in absurd (cc e)
one-method heads skip name desc c a b (as_default {m = m} s d) (as_default {m = n} t u) =
    let e : Some m ≡ Some n = one-default heads name desc c (Some m) (Some n) d u in
    let same : m ≡ n = cc e in
    ap (λ x. AtProgram (record { 0 = x })) same
one-method heads skip name desc c a b (as_default {m = m} s d) (in_no_class t u) = let e : Some m ≡ None = one-default heads name desc c (Some m) None d u in absurd (cc e)
one-method heads skip name desc c a b (in_no_class s d) (in_class t) = let e : None ≡ Some b = one-class heads skip name desc c None (Some b) s t in absurd (cc e)
one-method heads skip name desc c a b (in_no_class s d) (as_default {m = n} t u) = let e : None ≡ Some n = one-default heads name desc c None (Some n) d u in absurd (cc e)
one-method heads skip name desc c a b (in_no_class s d) (in_no_class t u) = refl

pub one-field-at : (heads : List ClassHead) (name desc : List ℕ) (c : ℕ) (a b : FieldAt) → FindsField heads name desc c a → FindsField heads name desc c b → a ≡ b
one-field-at heads name desc c a b (in_program {f = f} s) (in_program {f = g} t) =
    let e : Some f ≡ Some g = one-field heads name desc (c ∷ []) (Some f) (Some g) s t in
    let same : f ≡ g = cc e in
    ap (λ x. Program (record { 0 = x })) same
one-field-at heads name desc c a b (in_program {f = f} s) (in_library t l) = let e : Some f ≡ None = one-field heads name desc (c ∷ []) (Some f) None s t in absurd (cc e)
one-field-at heads name desc c a b (in_program {f = f} s) (missing t l) = let e : Some f ≡ None = one-field heads name desc (c ∷ []) (Some f) None s t in absurd (cc e)
one-field-at heads name desc c a b (in_library s l) (in_program {f = g} t) = let e : None ≡ Some g = one-field heads name desc (c ∷ []) None (Some g) s t in absurd (cc e)
one-field-at heads name desc c a b (in_library s l) (in_library t m) = refl
one-field-at heads name desc c a b (in_library s l) (missing t m) = absurd (m l)
one-field-at heads name desc c a b (missing s l) (in_program {f = g} t) = let e : None ≡ Some g = one-field heads name desc (c ∷ []) None (Some g) s t in absurd (cc e)
one-field-at heads name desc c a b (missing s l) (in_library t m) = absurd (l m)
one-field-at heads name desc c a b (missing s l) (missing t m) = refl
