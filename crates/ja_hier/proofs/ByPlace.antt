-- The places of members by name, and the look-up that goes by them.
use Rattle.std.proofs.Common.{◌≡◌, ℕ, suc, ◌+◌, ◌<◌, Bool, true, false, ◌&&◌, cond, length, map, take, List, [], ◌∷◌, ◌++◌, zero, ◌⊎◌, refl, sym, ap, ◌∙◌, subst, inl, inr, append_assoc, append-nil, add-zero, length-append, arith}
use Rattle.std.specs.Prelude.{not, Option, Some, None, Contains, bytes_eq, is_some, position, slice_get}
use Rattle.std.specs.List.{position_from}
use Rattle.std.proofs.lemmas.Bool.{cases_Bool, and_parts}
use Rattle.std.proofs.lemmas.Iterator.Adapters.{position_from-zero}
use Rattle.std.proofs.lemmas.List.{length-take-le}
use Rattle.std.proofs.lemmas.Option.{slice_get_within}
use Rattle.std.proofs.lemmas.Slice.Eq.{bytes_eq-Decides}
use Rattle.ja_base.specs.declared.index.NumbersByName.{NumbersByName}
use Rattle.ja_base.specs.Index.{numbers_at, number_if}
use Rattle.ja_ir.specs.declared.head.ClassHead.{ClassHead}
use Rattle.ja_ir.specs.declared.head.HeadField.{HeadField}
use Rattle.ja_ir.specs.declared.head.HeadMethod.{HeadMethod}
use Rattle.ja_hier.specs.declared.skip.Skip.{Skip}
use Rattle.ja_hier.specs.declared.starts.Member.{Member}
use Rattle.ja_hier.specs.Faults.{is_package_private}
use Rattle.ja_hier.specs.InnerIndex.{member_names, places_from, ArePlaces, HasPlaces, first_place, is_field, is_method, is_hidden, IsHiddenAmong}
use Rattle.ja_hier.specs.LookUps.{skips}
use Rattle.ja_hier.proofs.Indexed.{take-more}

-- one member more
places_from-last : (first : ℕ) (names : List (List ℕ)) (last name : List ℕ) → places_from first (names ++ last ∷ []) name ≡ places_from first names name ++ number_if (first + length names) last name
places_from-last first [] last name = simp (append-nil, add-zero)
places_from-last first (one ∷ names) last name =
    let e : suc first + length names ≡ first + suc (length names) = omega arith in
    rw (places_from-last (suc first) names last name, e) (sym (append_assoc (number_if first one name) _ _))

-- a member's place is noted behind those of the members before it
pub place-noted : (names : List (List ℕ)) (i : ℕ) (one before after name : List ℕ) → slice_get names i ≡ Some one → before ≡ places_from 0 (take i names) name → after ≡ before ++ number_if i one name
    → after ≡ places_from 0 (take (i + 1) names) name
place-noted names i one before after name found old new =
    let lt : i < length names = slice_get_within names i one found in
    let size : 0 + length (take i names) ≡ i = omega (arith, length-take-le i names (omega arith)) in
    rw (take-more names i one found) (new ∙ rw old (sym (places_from-last 0 (take i names) one name ∙ rw size)))

slice_get-at : {X : Type 0} (before xs : List X) (x : X) → slice_get (before ++ x ∷ xs) (length before) ≡ Some x
slice_get-at [] xs x = refl
slice_get-at (y ∷ before) xs x = slice_get-at before xs x

-- going over the places of a name is going over all that is named
from : {X : Type 0} (name-of : X → List ℕ) (name : List ℕ) (test : Option X → Bool) (sought : X → Bool) → ((x : X) → sought x ≡ (bytes_eq (name-of x) name && test (Some x))) → (before xs : List X)
    → first_place test (before ++ xs) (places_from (length before) (map name-of xs) name) ≡ position_from sought (length before) xs
from name-of name test sought is before [] = refl
from {X} name-of name test sought is before (x ∷ xs) =
    let lists : (before ++ x ∷ []) ++ xs ≡ before ++ x ∷ xs = append_assoc before (x ∷ []) xs in
    let lengths : length (before ++ x ∷ []) ≡ suc (length before) = length-append before (x ∷ []) ∙ omega arith in
    let more : length before + 1 ≡ suc (length before) = omega arith in
    let ih : first_place test ((before ++ x ∷ []) ++ xs) (places_from (length (before ++ x ∷ [])) (map name-of xs) name) ≡ position_from sought (length (before ++ x ∷ [])) xs =
    from name-of name test sought is (before ++ x ∷ []) xs in
    let rest : first_place test (before ++ x ∷ xs) (places_from (suc (length before)) (map name-of xs) name) ≡ position_from sought (suc (length before)) xs = rw (lists, lengths) at ih in
    elim (cases_Bool (bytes_eq (name-of x) name)) [
      | inl named ↦ rw (named, slice_get-at before xs x, rest, is x, named, more)
      | inr other ↦ rw (other, rest, is x, other, more)
    ]

first-of : {X : Type 0} (name-of : X → List ℕ) (name : List ℕ) (test : Option X → Bool) (sought : X → Bool) → ((x : X) → sought x ≡ (bytes_eq (name-of x) name && test (Some x))) → (xs : List X)
    → first_place test xs (places_from 0 (map name-of xs) name) ≡ position sought xs
first-of name-of name test sought is xs = from name-of name test sought is [] xs ∙ sym (position_from-zero sought xs)

three : (a b c : Bool) → (a && b && c) ≡ (a && (b && c))
three true b c = refl
three false b c = refl

pub first-field : (name desc : List ℕ) (fields : List HeadField) → first_place (is_field desc) fields (places_from 0 (map (λ (field : HeadField). field.name) fields) name)
    ≡ position (λ (field : HeadField). bytes_eq field.name name && bytes_eq field.desc desc) fields
first-field name desc fields = first-of (λ (field : HeadField). field.name) name (is_field desc) (λ (field : HeadField). bytes_eq field.name name && bytes_eq field.desc desc) (λ field. refl) fields

pub first-method : (skip : Skip) (name desc : List ℕ) (methods : List HeadMethod) → first_place (is_method skip desc) methods (places_from 0 (map (λ (method : HeadMethod). method.name) methods) name)
    ≡ position (λ (method : HeadMethod). bytes_eq method.name name && bytes_eq method.desc desc && not (skips skip method.flags)) methods
first-method skip name desc methods =
    first-of (λ (method : HeadMethod). method.name) name (is_method skip desc) (λ (method : HeadMethod). bytes_eq method.name name && bytes_eq method.desc desc && not (skips skip method.flags))
    (λ method. three (bytes_eq method.name name) (bytes_eq method.desc desc) (not (skips skip method.flags))) methods

-- what is found has the test, and what has it is found
some-from : {X : Type 0} (test : X → Bool) (xs : List X) (i : ℕ) → is_some (position_from test i xs) ≡ true → (x : X) × Contains xs x × (test x ≡ true)
some-from test [] i e = absurd (cc e)
some-from {X} test (y ∷ xs) i e =
    elim (cases_Bool (test y)) [
      | inl passes ↦ (y, (0, omega arith, refl), passes)
      | inr fails ↦
          let rest : (x : X) × Contains xs x × (test x ≡ true) = some-from test xs (i + 1) (sym (ap (λ (b : Bool). is_some (cond b (Some i) (position_from test (i + 1) xs))) fails) ∙ e) in
          (rest.0, (suc rest.1.0, omega (arith, rest.1.1), rest.1.2), rest.2)
    ]

from-some : {X : Type 0} (test : X → Bool) (xs : List X) (x : X) (i : ℕ) → Contains xs x → test x ≡ true → is_some (position_from test i xs) ≡ true
from-some test [] x i in' passes = absurd (omega (arith, in'.1))
from-some test (y ∷ xs) x i (zero, lt, same) passes = ap (λ (b : Bool). is_some (cond b (Some i) (position_from test (i + 1) xs))) (ap test same ∙ passes)
from-some test (y ∷ xs) x i (suc k, lt, same) passes =
    elim (cases_Bool (test y)) [
      | inl here ↦ ap (λ (b : Bool). is_some (cond b (Some i) (position_from test (i + 1) xs))) here
      | inr fails ↦ ap (λ (b : Bool). is_some (cond b (Some i) (position_from test (i + 1) xs))) fails ∙ from-some test xs x (i + 1) (k, omega arith, same) passes
    ]

abbrev is-redeclared : HeadMethod → HeadMethod → Bool
is-redeclared method hidden = bytes_eq hidden.name method.name && (bytes_eq hidden.desc method.desc && is_package_private hidden.flags)

first-hidden : (method : HeadMethod) (methods : List HeadMethod) → first_place (is_hidden method.desc) methods (places_from 0 (map (λ (hidden : HeadMethod). hidden.name) methods) method.name)
    ≡ position_from (is-redeclared method) 0 methods
first-hidden method methods = from (λ (hidden : HeadMethod). hidden.name) method.name (is_hidden method.desc) (is-redeclared method) (λ hidden. refl) [] methods

-- a hidden method is found at a place of its name
pub hidden-there : (method : HeadMethod) (methods : List HeadMethod) → is_some (first_place (is_hidden method.desc) methods (places_from 0 (map (λ (hidden : HeadMethod). hidden.name) methods) method.name)) ≡ true
    → IsHiddenAmong methods method
hidden-there method methods e =
    let there : (hidden : HeadMethod) × Contains methods hidden × (is-redeclared method hidden ≡ true) = some-from (is-redeclared method) methods 0 (sym (ap (λ (o : Option ℕ). is_some o) (first-hidden method methods)) ∙ e) in
    let hidden : HeadMethod = there.0 in
    let parts = and_parts (bytes_eq hidden.name method.name) (bytes_eq hidden.desc method.desc && is_package_private hidden.flags) there.2 in
    let more = and_parts (bytes_eq hidden.desc method.desc) (is_package_private hidden.flags) parts.1 in
    record {
      hidden = hidden;
      declared = there.1;
      local = more.1;
      same_name = (bytes_eq-Decides hidden.name method.name).0 parts.0;
      same_desc = (bytes_eq-Decides hidden.desc method.desc).0 more.0;
    }

pub hidden-found : (method : HeadMethod) (methods : List HeadMethod) → IsHiddenAmong methods method
    → is_some (first_place (is_hidden method.desc) methods (places_from 0 (map (λ (hidden : HeadMethod). hidden.name) methods) method.name)) ≡ true
hidden-found method methods among =
    let named : bytes_eq among.hidden.name method.name ≡ true = (bytes_eq-Decides among.hidden.name method.name).1 among.same_name in
    let described : bytes_eq among.hidden.desc method.desc ≡ true = (bytes_eq-Decides among.hidden.desc method.desc).1 among.same_desc in
    let redeclared : is-redeclared method among.hidden ≡ true = rw (named, described) among.local in
    ap (λ (o : Option ℕ). is_some o) (first-hidden method methods) ∙ from-some (is-redeclared method) methods among.hidden 0 among.declared redeclared

-- ---- the places of each class

abbrev pub EachHasPlaces : (member : Member) (heads : List ClassHead) (places : List NumbersByName) → Type 0
EachHasPlaces member heads places = (c : ℕ) (head : ClassHead) (index : NumbersByName) → slice_get heads c ≡ Some head → slice_get places c ≡ Some index → HasPlaces (member_names member head) index

push-cases : {X : Type 0} (xs : List X) (last x : X) (c : ℕ) → slice_get (xs ++ last ∷ []) c ≡ Some x → (slice_get xs c ≡ Some x) ⊎ ((c ≡ length xs) × (last ≡ x))
push-cases [] last x zero e = inr (refl, cc e)
push-cases [] last x (suc c) e = absurd (cc e)
push-cases (y ∷ xs) last x zero e = inl e
push-cases (y ∷ xs) last x (suc c) e = elim (push-cases xs last x c e) [ inl before ↦ inl before | inr at-end ↦ inr (omega (arith, at-end.0), at-end.1) ]

-- one class more
pub each-more : (member : Member) (heads : List ClassHead) (n : ℕ) (head : ClassHead) (places : List NumbersByName) (index : NumbersByName) → slice_get heads n ≡ Some head → length places ≡ n → EachHasPlaces member heads places
    → HasPlaces (member_names member head) index → EachHasPlaces member heads (places ++ index ∷ [])
each-more member heads n head places index found size each has = λ c other at there here. elim (push-cases places index at c here) [
  | inl before ↦ each c other at there before
  | inr last ↦
      let e : c ≡ n = omega (arith, last.0, size) in
      let eq : Some head ≡ Some other = sym found ∙ ap (slice_get heads) (sym e) ∙ there in
      let same : head ≡ other = cc eq in
      subst (λ (i : NumbersByName). HasPlaces (member_names member other) i) last.1 (subst (λ (h : ClassHead). HasPlaces (member_names member h) index) same has)
]

-- the places of a class
pub class-places : (member : Member) (heads : List ClassHead) (places : List NumbersByName) (c : ℕ) (head : ClassHead) (index : NumbersByName) (name : List ℕ) → ArePlaces member heads places → slice_get heads c ≡ Some head
    → slice_get places c ≡ Some index → numbers_at index name ≡ places_from 0 (member_names member head) name
class-places member heads places c head index name are found at = are.each c head index found at name
