-- Library types from those of the classes above.
use Rattle.std.proofs.Common.{◌≡◌, ℕ, zero, suc, ◌+◌, ◌<◌, inl, inr, List, [], ◌∷◌, ◌++◌, length, take, get_or, refl, sym, ap, ◌∙◌, subst, arith, append-nil, append_assoc}
use Rattle.std.specs.Prelude.{Option, Some, None, Contains, bytes_eq, filter_map, slice_get, slice_set}
use Rattle.std.specs.List.{cons_option}
use Rattle.std.proofs.lemmas.Bool.{cases_Bool, cases_eq}
use Rattle.std.proofs.lemmas.List.{take_more, get_or-set_same, get_or-set_other}
use Rattle.ja_ir.specs.declared.head.ClassHead.{ClassHead}
use Rattle.ja_supertypes.specs.InnerIndex.{IsTop}
use Rattle.ja_supertypes.specs.LibraryTypes.{with_new, first_places, Begins, Expands, nothing, of_library, of_program, at_top, upwards, AreLibraryTypes}
use Rattle.ja_supertypes.specs.Supertypes.{names_of, place_of, class_named, superclass_name, interface_names, superclass_of, object_name, IsDirect}
use Rattle.ja_supertypes.specs.InnerTypes.{standing_for, other_than_object, spliced, names_at, AreOwnTypes, AreNoted}
use Rattle.ja_supertypes.proofs.Falls.{interface-direct, superclass-direct}
use Rattle.ja_supertypes.proofs.FirstPlaces.{and_new, with-append, absorb-all, at-front, again-one, alone}
use Rattle.ja_supertypes.proofs.Nearest.{begins-from-top, begins-one, begins-up}

spliced-append : (keys : List (List ℕ)) (types : List (List (List ℕ))) (a b : List (List ℕ)) → spliced keys types (a ++ b) ≡ spliced keys types a ++ spliced keys types b
spliced-append keys types [] b = refl
spliced-append keys types (x ∷ a) b =
    ap (λ (l : List (List ℕ)). standing_for types x (place_of keys x) ++ l) (spliced-append keys types a b)
    ∙ sym (append_assoc (standing_for types x (place_of keys x)) (spliced keys types a) (spliced keys types b))

-- one name more
pub spliced-more : (keys : List (List ℕ)) (types : List (List (List ℕ))) (xs : List (List ℕ)) (i : ℕ) (x : List ℕ) → i < length xs → x ≡ get_or xs i x
    → spliced keys types (take i xs) ++ standing_for types x (place_of keys x) ≡ spliced keys types (take (i + 1) xs)
spliced-more keys types xs i x lt read =
    ap (λ (l : List (List ℕ)). spliced keys types (take i xs) ++ l) (sym (append-nil (standing_for types x (place_of keys x))))
    ∙ sym (spliced-append keys types (take i xs) (x ∷ []))
    ∙ ap (λ (y : List ℕ). spliced keys types (take i xs ++ y ∷ [])) read
    ∙ ap (spliced keys types) (sym (take_more xs i x lt))

-- names, of which the first places are those of what they expand to
abbrev Spliced : (heads : List ClassHead) (own : List (List (List ℕ))) (names from : List (List ℕ)) → Type 0
Spliced heads own names from = (e : List (List ℕ)) × Expands heads names e × ((k : List (List ℕ)) → with_new k from ≡ with_new k e)

splice-one : (heads : List ClassHead) (own : List (List (List ℕ))) (name : List ℕ) (names : List (List ℕ)) (o : Option ℕ) → class_named heads name ≡ o → ((i : ℕ) → o ≡ Some i → AreOwnTypes heads i (get_or own i []))
    → Spliced heads own names (spliced (names_of heads) own names) → Spliced heads own (name ∷ names) (standing_for own name o ++ spliced (names_of heads) own names)
splice-one heads own name names None is types rest = (name ∷ rest.0, of_library is rest.1, λ k. rest.2 (and_new k name))
splice-one heads own name names (Some i) is types rest =
    let t : AreOwnTypes heads i (get_or own i []) = types i refl in (
      t.interfaces ++ rest.0,
      of_program i is t.expands rest.1,
      λ k. with-append k (get_or own i []) (spliced (names_of heads) own names)
          ∙ ap (λ (l : List (List ℕ)). with_new (with_new k l) (spliced (names_of heads) own names)) t.are
          ∙ ap (λ (l : List (List ℕ)). with_new l (spliced (names_of heads) own names)) (absorb-all k t.interfaces)
          ∙ rest.2 (with_new k t.interfaces)
          ∙ sym (with-append k t.interfaces rest.0),
    )

splice : (heads : List ClassHead) (own : List (List (List ℕ))) (names : List (List ℕ)) → ((name : List ℕ) (i : ℕ) → Contains names name → class_named heads name ≡ Some i → AreOwnTypes heads i (get_or own i []))
    → Spliced heads own names (spliced (names_of heads) own names)
splice heads own [] types = ([], nothing, λ k. refl)
splice heads own (name ∷ names) types =
    splice-one heads own name names (class_named heads name) refl (λ i e. types name i (0, omega arith, refl) e)
    (splice heads own names (λ other i in' e. types other i (suc in'.0, omega (arith, in'.1), in'.2) e))

under : (o : Option ℕ) (rest : List ℕ) (y : ℕ) → Contains rest y → Contains (cons_option o rest) y
under None rest y in' = in'
under (Some z) rest y in' = (suc in'.0, omega (arith, in'.1), in'.2)

contains-filter_map : (f : List ℕ → Option ℕ) (xs : List (List ℕ)) (x : List ℕ) (y : ℕ) → Contains xs x → f x ≡ Some y → Contains (filter_map f xs) y
contains-filter_map f [] x y in' e = absurd (omega (arith, in'.1))
contains-filter_map f (z ∷ xs) x y (zero, lt, same) e =
    subst (λ (o : Option ℕ). Contains (cons_option o (filter_map f xs)) y) (sym (ap f same ∙ e)) (0, omega arith, refl)
contains-filter_map f (z ∷ xs) x y (suc k, lt, same) e = under (f z) (filter_map f xs) y (contains-filter_map f xs x y (k, omega arith, same) e)

-- a program interface that a class names is a direct supertype
named-direct : (heads : List ClassHead) (c : ℕ) (name : List ℕ) (i : ℕ) → Contains (interface_names (slice_get heads c)) name → class_named heads name ≡ Some i → IsDirect heads c i
named-direct heads c name i in' e = interface-direct heads c i (contains-filter_map (place_of (names_of heads)) (interface_names (slice_get heads c)) name i in' e)

-- the library types of a class's own interfaces
pub own-types : (heads : List ClassHead) (keys : List (List ℕ)) (own : List (List (List ℕ))) (c : ℕ) (head : ClassHead) (names : List (List ℕ)) → keys ≡ names_of heads → slice_get heads c ≡ Some head
    → ((d : ℕ) → IsDirect heads c d → AreOwnTypes heads d (get_or own d [])) → names ≡ first_places (spliced keys own head.interfaces) → AreOwnTypes heads c names
own-types heads keys own c head names is-keys found above e =
    let listed : interface_names (slice_get heads c) ≡ head.interfaces = ap interface_names found in
    let from : Spliced heads own (interface_names (slice_get heads c)) (spliced (names_of heads) own (interface_names (slice_get heads c))) =
    splice heads own (interface_names (slice_get heads c)) (λ name i in' is. above i (named-direct heads c name i in' is)) in
    record {
      interfaces = from.0;
      expands = from.1;
      are = e ∙ ap (λ (ks : List (List ℕ)). first_places (spliced ks own head.interfaces)) is-keys
          ∙ ap (λ (l : List (List ℕ)). first_places (spliced (names_of heads) own l)) (sym listed) ∙ from.2 [];
    }

again : (o : Option (List ℕ)) (k : List (List ℕ)) → with_new (with_new (with_new [] (other_than_object o)) k) (other_than_object o) ≡ with_new (with_new [] (other_than_object o)) k
again None k = refl
again (Some name) k =
    elim (cases_Bool (bytes_eq name object_name)) [
      | inl is ↦ rw is refl
      | inr other ↦ rw other (again-one name k)
    ]

all-by : (heads : List ClassHead) (c top : ℕ) (own names : List (List ℕ)) (all : List (List (List ℕ))) (sup : Option ℕ) → IsTop heads c top → AreOwnTypes heads c own → superclass_of heads c ≡ sup
    → ((d : ℕ) → IsDirect heads c d → AreLibraryTypes heads d (get_or all d [])) → names ≡ first_places ((other_than_object (superclass_name (slice_get heads top)) ++ own) ++ names_at all sup) → AreLibraryTypes heads c names
all-by heads c top own names all None is-top own-is is above e = record {
  superclass = other_than_object (superclass_name (slice_get heads top));
  interfaces = own-is.interfaces;
  begins = begins-from-top heads c top is-top;
  expands = at_top own-is.expands is;
  are = e ∙ ap (λ (l : List (List ℕ)). first_places ((other_than_object (superclass_name (slice_get heads top)) ++ l) ++ [])) own-is.are
      ∙ alone (other_than_object (superclass_name (slice_get heads top))) own-is.interfaces;
}
all-by heads c top own names all (Some d) is-top own-is is above e =
    let first : List (List ℕ) = other_than_object (superclass_name (slice_get heads top)) in
    let begins : Begins heads c first = begins-from-top heads c top is-top in
    let t : AreLibraryTypes heads d (get_or all d []) = above d (superclass-direct heads c d is) in
    let same : t.superclass ≡ first = begins-one heads c t.superclass first (begins-up heads c d t.superclass is t.begins) begins in
    record {
      superclass = first;
      interfaces = own-is.interfaces ++ t.interfaces;
      begins = begins;
      expands = upwards d own-is.expands is t.expands;
      are = e ∙ ap (λ (l : List (List ℕ)). first_places ((first ++ l) ++ get_or all d [])) own-is.are
          ∙ ap (λ (l : List (List ℕ)). first_places ((first ++ first_places own-is.interfaces) ++ l)) (t.are ∙ ap (λ (m : List (List ℕ)). first_places (m ++ t.interfaces)) same)
          ∙ at-front first own-is.interfaces t.interfaces (again (superclass_name (slice_get heads top)));
    }

-- the library types of a class
pub all-types : (heads : List ClassHead) (c top : ℕ) (head : ClassHead) (own names : List (List ℕ)) (all : List (List (List ℕ))) (sup : Option ℕ) → IsTop heads c top → slice_get heads top ≡ Some head → AreOwnTypes heads c own
    → sup ≡ superclass_of heads c → ((d : ℕ) → IsDirect heads c d → AreLibraryTypes heads d (get_or all d [])) → names ≡ first_places ((other_than_object head.superclass ++ own) ++ names_at all sup) → AreLibraryTypes heads c names
all-types heads c top head own names all sup is-top found own-is is above e =
    all-by heads c top own names all sup is-top own-is (sym is) above
    (e ∙ ap (λ (o : Option (List ℕ)). first_places ((other_than_object o ++ own) ++ names_at all sup)) (sym (ap superclass_name found)))

-- a class is noted, and what was noted stays
pub noted-at : (heads : List ClassHead) (own all : List (List (List ℕ))) (c : ℕ) (o a : List (List ℕ)) → c < length own → c < length all → AreOwnTypes heads c o → AreLibraryTypes heads c a
    → AreNoted heads (slice_set own c o) (slice_set all c a) c
noted-at heads own all c o a below inside is are = record {
  interfaces = subst (AreOwnTypes heads c) (sym (get_or-set_same own c o [] below)) is;
  library = subst (AreLibraryTypes heads c) (sym (get_or-set_same all c a [] inside)) are;
}

pub noted-kept : (heads : List ClassHead) (own all : List (List (List ℕ))) (c : ℕ) (o a : List (List ℕ)) → c < length own → c < length all → AreOwnTypes heads c o → AreLibraryTypes heads c a
    → (b : ℕ) → AreNoted heads own all b → AreNoted heads (slice_set own c o) (slice_set all c a) b
noted-kept heads own all c o a below inside is are b noted =
    elim (cases_eq b c) [
      | inl same ↦ subst (AreNoted heads (slice_set own c o) (slice_set all c a)) (sym same) (noted-at heads own all c o a below inside is are)
      | inr apart ↦ record {
        interfaces = subst (AreOwnTypes heads b) (sym (get_or-set_other own c b o [] apart)) noted.interfaces;
        library = subst (AreLibraryTypes heads b) (sym (get_or-set_other all c b a [] apart)) noted.library;
      }
    ]
