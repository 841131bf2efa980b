-- Flags for classes of the library above a class.
use Rattle.std.proofs.Common.{◌≡◌, ℕ, zero, suc, ◌<◌, inl, inr, Bool, true, false, not, ◌||◌, List, [], ◌∷◌, length, map, get_or, refl, sym, ap, ◌∙◌, subst, arith}
use Rattle.std.specs.Prelude.{Option, Some, None, Any, Contains, bytes_eq, is_none, slice_get}
use Rattle.std.specs.List.{list_any}
use Rattle.std.proofs.lemmas.Bool.{and_parts, and_from, or_cases, or_left, or_right, not-true, not_from_false, false_from_ne_true, both_ways}
use Rattle.std.proofs.lemmas.List.Folds.{Any-from_list_any, list_any-from_Any}
use Rattle.std.proofs.lemmas.Slice.Eq.{bytes_eq-Decides}
use Rattle.ja_ir.specs.declared.head.ClassHead.{ClassHead}
use Rattle.ja_supertypes.specs.InnerForeign.{is_foreign, is_some_foreign, names_foreign, is_raised, AreRaised}
use Rattle.ja_supertypes.specs.InnerIndex.{Lists, ShowsForeign}
use Rattle.ja_supertypes.specs.Supertypes.{names_of, place_of, class_named, superclass_name, interface_names, object_name, IsSupertype, Names, as_superclass, as_interface, HasLibrarySupertype}
use Rattle.ja_supertypes.proofs.Falls.{supertype-target}

none-is : (o : Option ℕ) → is_none o ≡ true → o ≡ None
none-is None e = refl
none-is (Some x) e = absurd (cc e)

foreign-parts : (names : List (List ℕ)) (name : List ℕ) → is_foreign names name ≡ true → (place_of names name ≡ None) × (name ≡ object_name → ⊥)
foreign-parts names name e =
    let both : (is_none (place_of names name) ≡ true) × (not (bytes_eq name object_name) ≡ true) = and_parts (is_none (place_of names name)) (not (bytes_eq name object_name)) e in (
      none-is (place_of names name) both.0,
      λ same. both_ways (bytes_eq name object_name) (not-true (bytes_eq name object_name) both.1) ((bytes_eq-Decides name object_name).1 same),
    )

foreign-from : (names : List (List ℕ)) (name : List ℕ) → place_of names name ≡ None → (name ≡ object_name → ⊥) → is_foreign names name ≡ true
foreign-from names name none other =
    and_from (is_none (place_of names name)) (not (bytes_eq name object_name)) (ap (λ (o : Option ℕ). is_none o) none)
    (not_from_false (bytes_eq name object_name) (false_from_ne_true (bytes_eq name object_name) (λ t. other ((bytes_eq-Decides name object_name).0 t))))

some-foreign : (names : List (List ℕ)) (o : Option (List ℕ)) → is_some_foreign names o ≡ true → (name : List ℕ) × (o ≡ Some name) × (is_foreign names name ≡ true)
some-foreign names None e = absurd (cc e)
some-foreign names (Some name) e = (name, refl, e)

-- a class of the library that class c itself names, other than the one above every class
record NamesLibrary (heads : List ClassHead) (c : ℕ) : Type 0 where
  pub name : List ℕ
  pub named : Names heads c name
  pub library : class_named heads name ≡ None
  pub other : name ≡ object_name → ⊥

flag-tells : (heads : List ClassHead) (c : ℕ) (head : ClassHead) → slice_get heads c ≡ Some head → names_foreign (names_of heads) head ≡ true → NamesLibrary heads c
flag-tells heads c head found e =
    elim (or_cases (is_some_foreign (names_of heads) head.superclass) (list_any (is_foreign (names_of heads)) head.interfaces) e) [
      | inl up ↦
          let some : (name : List ℕ) × (head.superclass ≡ Some name) × (is_foreign (names_of heads) name ≡ true) = some-foreign (names_of heads) head.superclass up in
          let parts : (place_of (names_of heads) some.0 ≡ None) × (some.0 ≡ object_name → ⊥) = foreign-parts (names_of heads) some.0 some.2 in
          record { name = some.0; named = as_superclass (ap superclass_name found ∙ some.1); library = parts.0; other = parts.1 }
      | inr face ↦
          let some : Any (λ name. is_foreign (names_of heads) name ≡ true) head.interfaces = Any-from_list_any (is_foreign (names_of heads)) head.interfaces face in
          let parts : (place_of (names_of heads) some.1 ≡ None) × (some.1 ≡ object_name → ⊥) = foreign-parts (names_of heads) some.1 some.4 in
          record {
            name = some.1;
            named = as_interface (subst (λ (o : Option ClassHead). Contains (interface_names o) some.1) (sym found) (some.0, some.2, some.3));
            library = parts.0;
            other = parts.1;
          }
    ]

flag-from : (heads : List ClassHead) (c : ℕ) (head : ClassHead) → slice_get heads c ≡ Some head → (name : List ℕ) → Names heads c name → class_named heads name ≡ None → (name ≡ object_name → ⊥)
    → names_foreign (names_of heads) head ≡ true
flag-from heads c head found name (as_superclass e) none other =
    or_left (is_some_foreign (names_of heads) head.superclass) (list_any (is_foreign (names_of heads)) head.interfaces)
    (ap (is_some_foreign (names_of heads)) (sym (ap superclass_name found) ∙ e) ∙ foreign-from (names_of heads) name none other)
flag-from heads c head found name (as_interface x) none other =
    let listed : Contains head.interfaces name = subst (λ (o : Option ClassHead). Contains (interface_names o) name) found x in
    or_right (is_some_foreign (names_of heads) head.superclass) (list_any (is_foreign (names_of heads)) head.interfaces)
    (list_any-from_Any (is_foreign (names_of heads)) head.interfaces (listed.0, name, listed.1, listed.2, foreign-from (names_of heads) name none other))

-- the flag of a class
flag-at : (names : List (List ℕ)) (heads : List ClassHead) (c : ℕ) (head : ClassHead) → slice_get heads c ≡ Some head → get_or (map (names_foreign names) heads) c false ≡ names_foreign names head
flag-at names [] c head e = absurd (cc e)
flag-at names (h ∷ hs) zero head e = let same : h ≡ head = cc e in ap (names_foreign names) same
flag-at names (h ∷ hs) (suc c) head e = flag-at names hs c head e

flag-iff : (heads : List ClassHead) (c : ℕ) → c < length heads → (get_or (map (names_foreign (names_of heads)) heads) c false ≡ true → NamesLibrary heads c)
    × ((name : List ℕ) → Names heads c name → class_named heads name ≡ None → (name ≡ object_name → ⊥) → get_or (map (names_foreign (names_of heads)) heads) c false ≡ true)
flag-iff heads c lt =
    let there : (head : ClassHead) × (slice_get heads c ≡ Some head) = at-class heads c lt in (
      λ e. flag-tells heads c there.0 there.1 (sym (flag-at (names_of heads) heads c there.0 there.1) ∙ e),
      λ name named none other. flag-at (names_of heads) heads c there.0 there.1 ∙ flag-from heads c there.0 there.1 name named none other,
    )
  where
    at-class : (heads : List ClassHead) (c : ℕ) → c < length heads → (head : ClassHead) × (slice_get heads c ≡ Some head)
    at-class [] c lt = absurd (omega arith)
    at-class (h ∷ hs) zero lt = (h, refl)
    at-class (h ∷ hs) (suc c) lt = at-class hs c (omega arith)

pub shows-foreign : (heads : List ClassHead) (own flags : List Bool) (supers : List (List ℕ)) → own ≡ map (names_foreign (names_of heads)) heads → Lists heads (IsSupertype heads) supers → AreRaised own supers flags
    → ShowsForeign heads flags
shows-foreign heads own flags supers is above raised = record {
  size = raised.size ∙ above.size;
  exact = λ c lt.
      let flag : get_or flags c false ≡ (get_or own c false || is_raised own (get_or supers c [])) = raised.each c (omega (arith, above.size)) in
      let own-is : (d : ℕ) → get_or own d false ≡ get_or (map (names_foreign (names_of heads)) heads) d false = λ d. ap (λ (bits : List Bool). get_or bits d false) is in (
        λ e. tells heads own supers is above c lt (sym flag ∙ e),
        λ lib. flag ∙ elim lib.above [
          | inl same ↦ or_left (get_or own c false) (is_raised own (get_or supers c []))
              (own-is c ∙ (flag-iff heads c lt).1 lib.name (subst (λ (d : ℕ). Names heads d lib.name) (sym same) lib.named) lib.library lib.other)
          | inr up ↦
              let listed : Contains (get_or supers c []) lib.d = (above.exact c lib.d lt).1 up in
              or_right (get_or own c false) (is_raised own (get_or supers c []))
              (list_any-from_Any (λ d. get_or own d false) (get_or supers c [])
              (listed.0, lib.d, listed.1, listed.2, own-is lib.d ∙ (flag-iff heads lib.d (supertype-target heads c lib.d up)).1 lib.name lib.named lib.library lib.other))
        ],
      );
}
  where
    tells : (heads : List ClassHead) (own : List Bool) (supers : List (List ℕ)) → own ≡ map (names_foreign (names_of heads)) heads → Lists heads (IsSupertype heads) supers → (c : ℕ) → c < length heads
        → (get_or own c false || is_raised own (get_or supers c [])) ≡ true → HasLibrarySupertype heads c
    tells heads own supers is above c lt e =
        elim (or_cases (get_or own c false) (is_raised own (get_or supers c [])) e) [
          | inl here ↦
              let names : NamesLibrary heads c = (flag-iff heads c lt).0 (sym (ap (λ (bits : List Bool). get_or bits c false) is) ∙ here) in
              record { d = c; name = names.name; above = inl refl; named = names.named; library = names.library; other = names.other }
          | inr up ↦
              let some : Any (λ d. get_or own d false ≡ true) (get_or supers c []) = Any-from_list_any (λ d. get_or own d false) (get_or supers c []) up in
              let super : IsSupertype heads c some.1 = (above.exact c some.1 lt).0 (some.0, some.2, some.3) in
              let names : NamesLibrary heads some.1 = (flag-iff heads some.1 (supertype-target heads c some.1 super)).0 (sym (ap (λ (bits : List Bool). get_or bits some.1 false) is) ∙ some.4) in
              record { d = some.1; name = names.name; above = inr super; named = names.named; library = names.library; other = names.other }
        ]
