-- What the index of members has.
use Rattle.std.proofs.Common.{◌≡◌, ℕ, zero, suc, ◌+◌, ◌<◌, ◌⊎◌, inl, inr, Bool, true, false, cond, List, [], ◌∷◌, ◌++◌, length, map, take, get_or, refl, sym, ap, ◌∙◌, subst, append-nil, arith}
use Rattle.std.specs.Prelude.{◌==◌, ◌&&◌, not, Option, Some, None, Contains, bytes_eq, slice_get}
use Rattle.std.proofs.lemmas.Bool.{cases_Bool, cases_lt, and_parts, eqb-true}
use Rattle.std.proofs.lemmas.List.{length-map, take_more, get_or_default}
use Rattle.std.proofs.lemmas.List.Elements.{Contains-push, Contains-push_cases, Contains-append_left, Contains-get_or}
use Rattle.std.proofs.lemmas.List.Quantifiers.{position-Some}
use Rattle.std.proofs.lemmas.Option.{slice_get_within, get_or_from_slice_get}
use Rattle.std.proofs.lemmas.Slice.Eq.{bytes_eq-Decides}
use Rattle.ja_ir.specs.declared.head.ClassHead.{ClassHead}
use Rattle.ja_ir.specs.declared.head.HeadField.{HeadField}
use Rattle.ja_ir.specs.declared.head.HeadMethod.{HeadMethod}
use Rattle.ja_base.specs.Index.{numbers_at, number_if}
use Rattle.ja_base.specs.declared.index.NumbersByName.{NumbersByName}
use Rattle.ja_hier.specs.declared.skip.Skip.{Skip}
use Rattle.ja_hier.specs.declared.starts.Member.{Member}
use Rattle.ja_hier.specs.declared.starts.Member.TheVariants.{Field, Method}
use Rattle.ja_hier.specs.InnerIndex.{member_names, Covers, IsIndexOf, IsNoted}
use Rattle.ja_hier.specs.Members.{count_of}
use Rattle.ja_hier.specs.LookUps.{fields_of, methods_of, field_in, method_in, skips}
use Rattle.ja_supertypes.specs.Supertypes.{AreSupertypes}
use Rattle.ja_supertypes.proofs.Falls.{supertype-target}
use Rattle.ja_hier.proofs.Numbers.{no-field, no-method}

pub contains-map : {X : Type 0} (f : X → List ℕ) (xs : List X) (x : X) → Contains xs x → Contains (map f xs) (f x)
contains-map f [] x in' = absurd (omega (arith, in'.1))
contains-map f (y ∷ xs) x (zero, lt, same) = (0, omega arith, ap f same)
contains-map f (y ∷ xs) x (suc k, lt, same) =
    let rest : Contains (map f xs) (f x) = contains-map f xs x (k, omega arith, same) in
    (suc rest.0, omega (arith, rest.1), rest.2)

-- a class, if there is one, whose members have something at a place
some-head : {X : Type 0} (members : Option ClassHead → List X) → members None ≡ [] → (o : Option ClassHead) (x : X) → Contains (members o) x → (head : ClassHead) × (o ≡ Some head)
some-head members none None x in' = absurd (omega (arith, in'.1, ap length none))
some-head members none (Some head) x in' = (head, refl)

-- what class c declares at a place is noted under its name
pub field-listed : (heads : List ClassHead) (name desc : List ℕ) (c k : ℕ) → field_in heads name desc c ≡ Some k → (head : ClassHead) × (slice_get heads c ≡ Some head) × Contains (member_names Field head) name
field-listed heads name desc c k e =
    let test : HeadField → Bool = λ (field : HeadField). bytes_eq field.name name && bytes_eq field.desc desc in
    let at : (k < length (fields_of (slice_get heads c))) × (test (get_or (fields_of (slice_get heads c)) k no-field) ≡ true) × ((j : ℕ) → j < k → test (get_or (fields_of (slice_get heads c)) j no-field) ≡ false) =
    position-Some test (fields_of (slice_get heads c)) k no-field e in
    let field : HeadField = get_or (fields_of (slice_get heads c)) k no-field in
    let in' : Contains (fields_of (slice_get heads c)) field = Contains-get_or (fields_of (slice_get heads c)) k no-field at.0 in
    let named : field.name ≡ name = (bytes_eq-Decides field.name name).0 (and_parts (bytes_eq field.name name) (bytes_eq field.desc desc) at.1).0 in
    let there : (head : ClassHead) × (slice_get heads c ≡ Some head) = some-head fields_of refl (slice_get heads c) field in' in (
      there.0,
      there.1,
      subst (λ (n : List ℕ). Contains (map (λ (f : HeadField). f.name) there.0.fields) n) named
          (contains-map (λ (f : HeadField). f.name) there.0.fields field (subst (λ (o : Option ClassHead). Contains (fields_of o) field) there.1 in')),
    )

pub method-listed : (heads : List ClassHead) (skip : Skip) (name desc : List ℕ) (c k : ℕ) → method_in heads skip name desc c ≡ Some k → (head : ClassHead) × (slice_get heads c ≡ Some head) × Contains (member_names Method head) name
method-listed heads skip name desc c k e =
    let test : HeadMethod → Bool = λ (method : HeadMethod). bytes_eq method.name name && bytes_eq method.desc desc && not (skips skip method.flags) in
    let at : (k < length (methods_of (slice_get heads c))) × (test (get_or (methods_of (slice_get heads c)) k no-method) ≡ true) × ((j : ℕ) → j < k → test (get_or (methods_of (slice_get heads c)) j no-method) ≡ false) =
    position-Some test (methods_of (slice_get heads c)) k no-method e in
    let method : HeadMethod = get_or (methods_of (slice_get heads c)) k no-method in
    let in' : Contains (methods_of (slice_get heads c)) method = Contains-get_or (methods_of (slice_get heads c)) k no-method at.0 in
    let both : bytes_eq method.name name ≡ true = grind (arith, at.1) in
    let named : method.name ≡ name = (bytes_eq-Decides method.name name).0 both in
    let there : (head : ClassHead) × (slice_get heads c ≡ Some head) = some-head methods_of refl (slice_get heads c) method in' in (
      there.0,
      there.1,
      subst (λ (n : List ℕ). Contains (map (λ (m : HeadMethod). m.name) there.0.methods) n) named
          (contains-map (λ (m : HeadMethod). m.name) there.0.methods method (subst (λ (o : Option ClassHead). Contains (methods_of o) method) there.1 in')),
    )

pub field-noted : (heads : List ClassHead) (index : NumbersByName) (name desc : List ℕ) (c k : ℕ) → IsIndexOf Field heads index → field_in heads name desc c ≡ Some k → Contains (numbers_at index name) c
field-noted heads index name desc c k are e =
    let listed : (head : ClassHead) × (slice_get heads c ≡ Some head) × Contains (member_names Field head) name = field-listed heads name desc c k e in
    are.complete name c listed.0 listed.1 listed.2

pub method-noted : (heads : List ClassHead) (index : NumbersByName) (skip : Skip) (name desc : List ℕ) (c k : ℕ) → IsIndexOf Method heads index → method_in heads skip name desc c ≡ Some k → Contains (numbers_at index name) c
method-noted heads index skip name desc c k are e =
    let listed : (head : ClassHead) × (slice_get heads c ≡ Some head) × Contains (member_names Method head) name = method-listed heads skip name desc c k e in
    are.complete name c listed.0 listed.1 listed.2

-- what holds at each place of a list holds of each of its items
pub at-item : (P : ℕ → Type 0) (xs : List ℕ) → ((j : ℕ) → j < length xs → P (get_or xs j 0)) → (x : ℕ) → Contains xs x → P x
at-item P xs each x in' = subst P (get_or_default xs in'.0 0 x in'.1 ∙ in'.2) (each in'.0 in'.1)

-- a list of no length has no items
pub no-items : (xs : List ℕ) → (length xs == 0) ≡ true → xs ≡ []
no-items [] e = refl
no-items (x ∷ xs) e = absurd (omega (arith, eqb-true (length (x ∷ xs)) 0 e))

-- the proper supertypes stand for any listed classes
pub supertypes-cover : (heads : List ClassHead) (c : ℕ) (listed supertypes : List ℕ) → AreSupertypes heads c supertypes → Covers heads c listed supertypes
supertypes-cover heads c listed supertypes are = record {
  inside = λ d in'. supertype-target heads c d ((are.exact d).0 in');
  complete = λ d above noted. (are.exact d).1 above;
}

-- ---- how the index is made

only-one : (x y : List ℕ) → Contains (x ∷ []) y → x ≡ y
only-one x y (zero, lt, e) = e
only-one x y (suc k, lt, e) = absurd (omega arith)

-- a class is noted for a name, behind those that are noted
pub noted-one : (old new : NumbersByName) (listed : List ℕ) (c : ℕ) → ((name : List ℕ) → numbers_at new name ≡ numbers_at old name ++ number_if c listed name) → IsNoted c (listed ∷ []) old new
noted-one old new listed c is = record {
  kept = λ name d in'. subst (λ (xs : List ℕ). Contains xs d) (sym (is name)) (Contains-append_left (numbers_at old name) (number_if c listed name) d in');
  only = λ name d in'. elim (at name) [
    | inl one ↦ elim (Contains-push_cases (numbers_at old name) c d (subst (λ (xs : List ℕ). Contains xs d) one.1 in')) [ inl before ↦ inl before | inr last ↦ inr (sym last) ]
    | inr other ↦ inl (subst (λ (xs : List ℕ). Contains xs d) other.1 in')
  ];
  noted = λ name in'. elim (at name) [
    | inl one ↦ subst (λ (xs : List ℕ). Contains xs c) (sym one.1) (Contains-push (numbers_at old name) c)
    | inr other ↦ absurd (other.0 (only-one listed name in'))
  ];
}
  where
    at : (name : List ℕ) → ((listed ≡ name) × (numbers_at new name ≡ numbers_at old name ++ c ∷ [])) ⊎ ((listed ≡ name → ⊥) × (numbers_at new name ≡ numbers_at old name))
    at name = elim (cases_Bool (bytes_eq listed name)) [
      | inl is_so ↦ inl ((bytes_eq-Decides listed name).0 is_so, is name ∙ ap (λ (b : Bool). numbers_at old name ++ cond b (c ∷ []) []) is_so)
      | inr not_so ↦
          inr (
            λ same. let t : bytes_eq listed name ≡ true = (bytes_eq-Decides listed name).1 same in cc (t, not_so),
            is name ∙ ap (λ (b : Bool). numbers_at old name ++ cond b (c ∷ []) []) not_so ∙ append-nil (numbers_at old name),
          )
    ]

-- a class that is noted for a name already
pub noted-again : (index : NumbersByName) (listed : List ℕ) (c : ℕ) → Contains (numbers_at index listed) c → IsNoted c (listed ∷ []) index index
noted-again index listed c there = record {
  kept = λ name d in'. in';
  only = λ name d in'. inl in';
  noted = λ name in'. subst (λ (n : List ℕ). Contains (numbers_at index n) c) (only-one listed name in') there;
}

pub noted-none : (c : ℕ) (index : NumbersByName) → IsNoted c [] index index
noted-none c index = record { kept = λ name d in'. in'; only = λ name d in'. inl in'; noted = λ name in'. absurd (omega (arith, in'.1)) }

-- one name more
pub take-more : (names : List (List ℕ)) (i : ℕ) (name : List ℕ) → slice_get names i ≡ Some name → take (i + 1) names ≡ take i names ++ name ∷ []
take-more names i name found =
    take_more names i name (slice_get_within names i name found) ∙ ap (λ (n : List ℕ). take i names ++ n ∷ []) (get_or_from_slice_get names i name name found)

pub noted-more : (c : ℕ) (names : List (List ℕ)) (i : ℕ) (listed : List ℕ) (initial old new : NumbersByName) → slice_get names i ≡ Some listed
    → IsNoted c (take i names) initial old → IsNoted c (listed ∷ []) old new → IsNoted c (take (i + 1) names) initial new
noted-more c names i listed initial old new found are one = record {
  kept = λ name d in'. one.kept name d (are.kept name d in');
  only = λ name d in'. elim (one.only name d in') [ inl before ↦ are.only name d before | inr same ↦ inr same ];
  noted = λ name in'. elim (Contains-push_cases (take i names) listed name (subst (λ (ys : List (List ℕ)). Contains ys name) (take-more names i listed found) in')) [
    | inl before ↦ one.kept name c (are.noted name before)
    | inr last ↦ one.noted name (0, omega arith, last)
  ];
}

pub member-count : (member : Member) (head : ClassHead) → count_of member head ≡ length (member_names member head)
member-count Field head = sym (length-map head.fields (λ (field : HeadField). field.name))
member-count Method head = sym (length-map head.methods (λ (method : HeadMethod). method.name))

-- the index of some classes, with one class more
pub record IsIndexBelow (member : Member) (heads : List ClassHead) (n : ℕ) (index : NumbersByName) : Type 0 where
  pub inside : (name : List ℕ) (c : ℕ) → Contains (numbers_at index name) c → c < n
  pub complete : (name : List ℕ) (c : ℕ) (head : ClassHead) → c < n → slice_get heads c ≡ Some head → Contains (member_names member head) name → Contains (numbers_at index name) c

pub index-begin : (member : Member) (heads : List ClassHead) (index : NumbersByName) → ((name : List ℕ) → numbers_at index name ≡ []) → IsIndexBelow member heads 0 index
index-begin member heads index empty = record {
  inside = λ name c in'.
      let none : Contains {X = ℕ} [] c = subst (λ (xs : List ℕ). Contains xs c) (empty name) in' in
      absurd (omega (arith, none.1));
  complete = λ name c head lt. absurd (omega arith);
}

pub index-more : (member : Member) (heads : List ClassHead) (n : ℕ) (head : ClassHead) (old new : NumbersByName) → slice_get heads n ≡ Some head → IsIndexBelow member heads n old
    → IsNoted n (member_names member head) old new → IsIndexBelow member heads (n + 1) new
index-more member heads n head old new found are noted = record {
  inside = λ name c in'. elim (noted.only name c in') [ inl before ↦ omega (arith, are.inside name c before) | inr same ↦ omega (arith, same) ];
  complete = λ name c other lt at in'. elim (cases_lt c n) [
    | inl below ↦ noted.kept name c (are.complete name c other below at in')
    | inr past ↦
        let e : c ≡ n = omega arith in
        let eq : Some head ≡ Some other = sym found ∙ ap (slice_get heads) (sym e) ∙ at in
        let same : head ≡ other = cc eq in
        subst (λ (x : ℕ). Contains (numbers_at new name) x) (sym e) (noted.noted name (subst (λ (h : ClassHead). Contains (member_names member h) name) (sym same) in'))
  ];
}

pub index-end : (member : Member) (heads : List ClassHead) (n : ℕ) (index : NumbersByName) → n ≡ length heads → IsIndexBelow member heads n index → IsIndexOf member heads index
index-end member heads n index e are = record {
  inside = λ name c in'. omega (arith, are.inside name c in', e);
  complete = λ name c head found in'. are.complete name c head (omega (arith, slice_get_within heads c head found, e)) found in';
}
