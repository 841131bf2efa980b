-- What the tables of direct supertypes say of a class.
use Rattle.std.proofs.Common.{◌≡◌, ℕ, zero, suc, ◌<◌, ◌≤◌, ◌^◌, ◌⊎◌, inl, inr, Bool, List, [], ◌∷◌, ◌++◌, length, map, get_or, refl, sym, ap, ◌∙◌, subst, arith}
use Rattle.std.specs.Prelude.{◌↔◌, Option, Some, All, Contains, filter_map, option_to_list, slice_get}
use Rattle.std.proofs.lemmas.List.{length-map, get_or_default}
use Rattle.std.proofs.lemmas.List.Elements.{Contains-get_or}
use Rattle.std.proofs.lemmas.Option.{get_or_from_slice_get}
use Rattle.ja_sets.specs.Sets.{Has}
use Rattle.ja_ir.specs.declared.head.ClassHead.{ClassHead}
use Rattle.ja_supertypes.specs.Faults.{IsCyclic, IsNowhere}
use Rattle.ja_supertypes.specs.InnerIndex.{superclass_places, supertype_places, interface_places, Lists, Shows}
use Rattle.ja_supertypes.specs.InnerRows.{AreSets, ShowsAll, ShowsDirect, IsGathered, AreGathered, AreMembers}
use Rattle.ja_supertypes.specs.Supertypes.{names_of, place_of, place_of_some, superclass_name, interface_names, interfaces_of, superclass_of, supertypes_of, IsDirect, IsSupertype, IsSuperinterface, declared}
use Rattle.ja_supertypes.proofs.Falls.{falls, direct-target, interface-target, supertype-target}
use Rattle.ja_supertypes.proofs.Ways.{direct-inside}

-- what a list that was made class by class has at a class
map-at : {B : Type 0} (f : ClassHead → B) (g : Option ClassHead → B) → ((head : ClassHead) → g (Some head) ≡ f head) → (heads : List ClassHead) (c : ℕ) (d : B) → c < length heads
    → get_or (map f heads) c d ≡ g (slice_get heads c)
map-at f g e [] c d lt = absurd (omega arith)
map-at f g e (h ∷ hs) zero d lt = sym (e h)
map-at f g e (h ∷ hs) (suc c) d lt = map-at f g e hs c d (omega arith)

pub superclass-at : (heads : List ClassHead) (c : ℕ) (d : Option ℕ) → c < length heads → get_or (superclass_places heads) c d ≡ superclass_of heads c
superclass-at heads c d lt =
    map-at (λ (head : ClassHead). place_of_some (names_of heads) head.superclass) (λ (o : Option ClassHead). place_of_some (names_of heads) (superclass_name o)) (λ head. refl) heads c d lt

pub interfaces-at : (heads : List ClassHead) (c : ℕ) (d : List ℕ) → c < length heads → get_or (interface_places heads) c d ≡ interfaces_of heads c
interfaces-at heads c d lt =
    map-at (λ (head : ClassHead). filter_map (place_of (names_of heads)) head.interfaces) (λ (o : Option ClassHead). filter_map (place_of (names_of heads)) (interface_names o)) (λ head. refl) heads c d lt

pub supertypes-at : (heads : List ClassHead) (c : ℕ) (d : List ℕ) → c < length heads → get_or (supertype_places heads) c d ≡ supertypes_of heads c
supertypes-at heads c d lt =
    map-at (λ (head : ClassHead). filter_map (place_of (names_of heads)) head.interfaces ++ option_to_list (place_of_some (names_of heads) head.superclass))
    (λ (o : Option ClassHead). filter_map (place_of (names_of heads)) (interface_names o) ++ option_to_list (place_of_some (names_of heads) (superclass_name o))) (λ head. refl) heads c d lt

length-places : {B : Type 0} (f : ClassHead → B) (heads : List ClassHead) → length (map f heads) ≡ length heads
length-places f heads = length-map heads f

pub names-few : (heads : List ClassHead) (keys : List (List ℕ)) → keys ≡ names_of heads → length heads ≤ 2 ^ 26 → length keys ≤ 2 ^ 26
names-few heads keys e few = omega (arith, ap (λ (names : List (List ℕ)). length names) e, length-places (λ (head : ClassHead). head.name) heads)

pub length-superclasses : (heads : List ClassHead) → length (superclass_places heads) ≡ length heads
length-superclasses heads = length-places (λ (head : ClassHead). place_of_some (names_of heads) head.superclass) heads

pub length-supertypes : (heads : List ClassHead) → length (supertype_places heads) ≡ length heads
length-supertypes heads = length-places (λ (head : ClassHead). filter_map (place_of (names_of heads)) head.interfaces ++ option_to_list (place_of_some (names_of heads) head.superclass)) heads

pub length-interfaces : (heads : List ClassHead) → length (interface_places heads) ≡ length heads
length-interfaces heads = length-places (λ (head : ClassHead). filter_map (place_of (names_of heads)) head.interfaces) heads

-- what a slice of the table at a class is
pub superclass-read : (heads : List ClassHead) (places : List (Option ℕ)) (c : ℕ) (o : Option ℕ) → places ≡ superclass_places heads → slice_get places c ≡ Some o → c < length heads → o ≡ superclass_of heads c
superclass-read heads places c o e read lt =
    sym (get_or_from_slice_get places c o o read) ∙ ap (λ (ps : List (Option ℕ)). get_or ps c o) e ∙ superclass-at heads c o lt

pub supertypes-read : (heads : List ClassHead) (places : List (List ℕ)) (c : ℕ) (ds : List ℕ) → places ≡ supertype_places heads → slice_get places c ≡ Some ds → c < length heads → ds ≡ supertypes_of heads c
supertypes-read heads places c ds e read lt =
    sym (get_or_from_slice_get places c ds ds read) ∙ ap (λ (ps : List (List ℕ)). get_or ps c ds) e ∙ supertypes-at heads c ds lt

pub supertypes-inside : (heads : List ClassHead) → All (λ ds. All (λ d. d < length heads) ds) (supertype_places heads)
supertypes-inside heads k none lt =
    let lt' : k < length heads = omega (arith, length-supertypes heads) in
    subst (λ (ds : List ℕ). All (λ d. d < length heads) ds) (sym (supertypes-at heads k none lt'))
    (λ j e jlt. direct-target heads k (get_or (supertypes_of heads k) j e) (Contains-get_or (supertypes_of heads k) j e jlt))

pub interfaces-inside : (heads : List ClassHead) → All (λ ds. All (λ d. d < length heads) ds) (interface_places heads)
interfaces-inside heads k none lt =
    let lt' : k < length heads = omega (arith, length-interfaces heads) in
    subst (λ (ds : List ℕ). All (λ d. d < length heads) ds) (sym (interfaces-at heads k none lt'))
    (λ j e jlt. interface-target heads k (get_or (interfaces_of heads k) j e) (Contains-get_or (interfaces_of heads k) j e jlt))

-- the sets of the direct supertypes show them
pub shows-direct : (heads : List ClassHead) (sets : List (List Bool)) → AreSets (supertype_places heads) (length heads) sets → ShowsDirect heads sets
shows-direct heads sets are = record {
  size = are.size ∙ length-supertypes heads;
  widths = λ i lt. (are.each i (omega (arith, length-supertypes heads))).width;
  exact = λ i j lt. subst (λ (ds : List ℕ). Has (get_or sets i []) j ↔ Contains ds j) (supertypes-at heads i [] lt) ((are.each i (omega (arith, length-supertypes heads))).exact j);
}

-- the members of the rows list the proper supertypes
pub lists-supers : (heads : List ClassHead) (rows : List (List Bool)) (lists : List (List ℕ)) → ShowsAll heads rows → AreMembers rows lists → Lists heads (IsSupertype heads) lists
lists-supers heads rows lists shows are = record {
  size = are.size ∙ shows.size;
  exact = λ c d lt.
      let listed : Contains (get_or lists c []) d ↔ Has (get_or rows c []) d = (are.each c (omega (arith, shows.size))).exact d in
      let shown : Has (get_or rows c []) d ↔ IsSupertype heads c d = shows.exact c d lt in (
        λ x. shown.0 (listed.0 x),
        λ y. listed.1 (shown.1 y),
      );
  increasing = λ c lt. (are.each c (omega (arith, shows.size))).increasing;
}

-- a direct supertype has fewer supertypes
pub lists-fall : (heads : List ClassHead) (rows : List (List Bool)) (lists : List (List ℕ)) → ShowsAll heads rows → AreMembers rows lists → IsNowhere (IsCyclic heads) → (c d : ℕ) → IsDirect heads c d
    → length (get_or lists d []) < length (get_or lists c [])
lists-fall heads rows lists shows are acyclic c d up =
    omega (
      arith,
      falls heads rows shows acyclic c d up,
      (are.each c (omega (arith, shows.size, direct-inside heads c d up))).counted,
      (are.each d (omega (arith, shows.size, direct-target heads c d up))).counted,
    )

pub supers-inside : (heads : List ClassHead) (lists : List (List ℕ)) → Lists heads (IsSupertype heads) lists → All (λ list. All (λ d. d < length heads) list) lists
supers-inside heads lists are k none lt =
    let lt' : k < length heads = omega (arith, are.size) in
    subst (λ (ds : List ℕ). All (λ d. d < length heads) ds) (get_or_default lists k [] none lt)
    (λ j e jlt. supertype-target heads k (get_or (get_or lists k []) j e) ((are.exact k (get_or (get_or lists k []) j e) lt').0 (Contains-get_or (get_or lists k []) j e jlt)))

-- what was gathered from the direct superinterfaces are the superinterfaces
pub shows-superinterfaces : (heads : List ClassHead) (own gathered : List (List Bool)) (supers : List (List ℕ)) → AreSets (interface_places heads) (length heads) own → Lists heads (IsSupertype heads) supers
    → AreGathered own supers (length heads) gathered → Shows heads (IsSuperinterface heads) gathered
shows-superinterfaces heads own gathered supers sets above gather = record {
  size = gather.size ∙ above.size;
  each = λ c lt. record {
    width = (gather.each c (omega (arith, above.size))).width;
    exact = λ i.
        let there : IsGathered own c (get_or supers c []) (length heads) (get_or gathered c []) = gather.each c (omega (arith, above.size)) in
        let at : (d : ℕ) → d < length heads → Has (get_or own d []) i ↔ Contains (interfaces_of heads d) i =
        λ d below. subst (λ (is : List ℕ). Has (get_or own d []) i ↔ Contains is i) (interfaces-at heads d [] below) ((sets.each d (omega (arith, length-interfaces heads))).exact i) in (
          λ x. elim ((there.exact i).0 x) [
            | inl own-has ↦ declared c (inl refl) ((at c lt).0 own-has)
            | inr other ↦
                let up : IsSupertype heads c other.0 = (above.exact c other.0 lt).0 other.1 in
                declared other.0 (inr up) ((at other.0 (supertype-target heads c other.0 up)).0 other.2)
          ],
          λ y. (there.exact i).1 (from-face heads own supers c i lt above at y),
        );
  };
}
  where
    from-face : (heads : List ClassHead) (own : List (List Bool)) (supers : List (List ℕ)) (c i : ℕ) → c < length heads → Lists heads (IsSupertype heads) supers → ((d : ℕ) → d < length heads → Has (get_or own d []) i ↔ Contains (interfaces_of heads d) i)
        → IsSuperinterface heads c i → Has (get_or own c []) i ⊎ ((d : ℕ) × Contains (get_or supers c []) d × Has (get_or own d []) i)
    from-face heads own supers c i lt above at (declared d (inl same) x) = inl ((at c lt).1 (subst (λ (e : ℕ). Contains (interfaces_of heads e) i) (sym same) x))
    from-face heads own supers c i lt above at (declared d (inr up) x) = inr (d, (above.exact c d lt).1 up, (at d (supertype-target heads c d up)).1 x)

-- what is read at a class from a table of lists
pub list-read : (heads : List ClassHead) (R : ℕ → ℕ → Type 0) (lists : List (List ℕ)) (c : ℕ) (xs : List ℕ) → Lists heads R lists → slice_get lists c ≡ Some xs → c < length heads → (d : ℕ) → Contains xs d ↔ R c d
list-read heads R lists c xs are read lt d =
    subst (λ (ys : List ℕ). Contains ys d ↔ R c d) (get_or_from_slice_get lists c xs [] read) (are.exact c d lt)

pub superinterface-target : (heads : List ClassHead) (c i : ℕ) → IsSuperinterface heads c i → i < length heads
superinterface-target heads c i (declared d at x) = interface-target heads d i x
