-- What an object of a token has itself, and where it leads at once, by the classes at or above it.
use Rattle.std.proofs.Common.{◌≡◌, ◌⊎◌, ◌↔◌, inl, inr, ℕ, ◌+◌, ◌<◌, ◌==◌, Bool, true, false, ◌||◌, ◌&&◌, List, [], length, get_or, Option, Some, None, set, refl, sym, ap, subst, ◌∙◌, true≢false, arith}
use Rattle.std.specs.Prelude.{Contains, slice_get}
use Rattle.std.specs.List.{list_any}
use Rattle.std.proofs.lemmas.Bool.{cases_lt, eqb-true, eq-eqb}
use Rattle.std.proofs.lemmas.Option.{slice_get_within, slice_get_read, get_or_from_slice_get, same_Some}
use Rattle.ja_base.specs.declared.id.ClassId.{ClassId}
use Rattle.ja_ir.specs.declared.program.Parts.{Parts}
use Rattle.ja_ir.specs.declared.class.ClassInfo.{ClassInfo}
use Rattle.ja_ir.specs.declared.class.Field.{Field}
use Rattle.ja_ir.specs.Lookup.{is_member, is_instance_field, has_above, at_or_below}
use Rattle.ja_ir.specs.Tokens.{absorbs, absorbs_as, lib_token, rarr_token, parr_token}
use Rattle.ja_sets.specs.Sets.{Has, union}
use Rattle.ja_sets.proofs.Members.{Has-set}
use Rattle.ja_facts.specs.ClassSets.{HasField}
use Rattle.ja_facts.specs.ClassTables.{ClassTable, field_set, bag_set, token_count}
use Rattle.ja_holds.specs.Inner.{row, IsDeclared, IsReferred, HasCells, HasTokens, ByClass, InSets, Follows, by_field, by_bag, Owns, owns_field, owns_bag}
use Rattle.ja_holds.specs.Sized.{AreSets}
use Rattle.ja_holds.proofs.Basics.{joined-at, both-true, true-both, either-true, any-in, in-any}

-- one class more of a list whose sets are added
pub sets-more : (rows : List (List Bool)) (classes : List ClassId) (n i : ℕ) (class : ClassId) (first to other new : List Bool) → AreSets (length rows) n rows
    → slice_get classes i ≡ Some class → class.0 < length rows → slice_get rows class.0 ≡ Some other → length to ≡ n → new ≡ union to other
    → ((x : ℕ) → Has to x ↔ (Has first x ⊎ InSets rows classes i x)) → (length new ≡ n) × ((x : ℕ) → Has new x ↔ (Has first x ⊎ InSets rows classes (i + 1) x))
sets-more rows classes n i class first to other new are listed lt found size e before =
    let one = joined-at (length rows) n rows class.0 to other new are found lt size e in (
      one.0,
      λ x. (
        λ h. elim ((one.1 x).0 h) [
          | inl had ↦ elim ((before x).0 had) [
            | inl old ↦ inl old
            | inr s ↦ inr (record { j = s.j; below = let b = s.below in omega arith; class = s.class; found = s.found; member = s.member })
          ]
          | inr now ↦ inr (record { j = i; below = omega arith; class = class; found = listed; member = now })
        ],
        λ h. (one.1 x).1 (elim h [
          | inl old ↦ inl ((before x).1 (inl old))
          | inr s ↦ elim (cases_lt s.j i) [
            | inl b ↦ inl ((before x).1 (inr (record { j = s.j; below = b; class = s.class; found = s.found; member = s.member })))
            | inr past ↦
                let here : s.j ≡ i = let b = s.below in omega arith in
                let same : s.class ≡ class = same_Some s.class class (sym s.found ∙ ap (slice_get classes) here ∙ listed) in
                inr (subst (λ (k : ClassId). Has (row rows k.0) x) same s.member)
          ]
        ]),
      ),
    )

module _ (p : Parts) where
  pub class-below : (t : ℕ) (class : ClassInfo) → slice_get p.classes t ≡ Some class → t < token_count p
  class-below t class found = let lt = slice_get_within p.classes t class found in omega arith

  absorbs-below : (t : ℕ) (class : Option ClassInfo) → slice_get p.classes t ≡ class → absorbs_as p t class ≡ true → t < token_count p
  absorbs-below t (Some class) found h = class-below t class found
  absorbs-below t None found h = elim (either-true (t == lib_token p) ((t == rarr_token p) || (t == parr_token p)) h) [
    | inl e ↦ let same : t ≡ lib_token p = eqb-true t (lib_token p) e in omega arith
    | inr more ↦ elim (either-true (t == rarr_token p) (t == parr_token p) more) [
      | inl e ↦ let same : t ≡ rarr_token p = eqb-true t (rarr_token p) e in omega arith
      | inr e ↦ let same : t ≡ parr_token p = eqb-true t (parr_token p) e in omega arith
    ]
  ]

  -- an absorbing token is one of the program
  pub absorbing-below : (t : ℕ) → absorbs p t ≡ true → t < token_count p
  absorbing-below t h = absorbs-below t (slice_get p.classes t) refl h

  pub owner-below : (u x : ℕ) → Owns p u x → u < token_count p
  owner-below u x (owns_field has) = class-below u has.class.0 has.class.1
  owner-below u x (owns_bag h e) = absorbing-below u h

  pub follower-below : (sets : ClassTable) (u v : ℕ) → Follows p sets u v → u < token_count p
  follower-below sets u v (by_field f has member) = class-below u has.class.0 has.class.1
  follower-below sets u v (by_bag h member) = absorbing-below u h

  -- a class at or above the token declares the field
  above-is : (t c : ℕ) (class : ClassInfo) (above : ClassId) → slice_get p.classes t ≡ Some class → Contains class.supers above → above.0 ≡ c → at_or_below p t c ≡ true
  above-is t c class above found listed e =
      ap (λ (o : Option ClassInfo). has_above o c) found
      ∙ in-any (λ (s : ClassId). s.0 == c) class.supers listed.0 above listed.1 (eq-eqb (get_or class.supers listed.0 above).0 c (ap (λ (s : ClassId). s.0) listed.2 ∙ e))

  -- a class of a list at a place, and in it
  listed-at : (classes : List ClassId) (j : ℕ) (above : ClassId) → slice_get classes j ≡ Some above → Contains classes above
  listed-at classes j above e = (j, slice_get_within classes j above e, get_or_from_slice_get classes j above above e)

  at-listed : (classes : List ClassId) (above : ClassId) (c : Contains classes above) → slice_get classes c.0 ≡ Some above
  at-listed classes above c = slice_get_read classes (length classes) c.0 above refl c.1 (sym c.2)

  pub field-by_class : (u f : ℕ) (class : ClassInfo) (above : ClassId) → slice_get p.classes u ≡ Some class → Contains class.supers above → IsDeclared p (length p.fields) above.0 f → HasField p u f
  field-by_class u f class above found listed d = record {
    field = d.field;
    found = d.found;
    class = (class, found);
    instance = true-both (is_member d.field.flags) (at_or_below p u d.field.class.0) d.member (above-is u d.field.class.0 class above found listed (sym d.class));
  }

  pub class-of_field : (u f : ℕ) → HasField p u f → (class : ClassInfo) × (above : ClassId) × (slice_get p.classes u ≡ Some class) × Contains class.supers above × IsDeclared p (length p.fields) above.0 f
  class-of_field u f has =
      let both : (is_member has.field.flags ≡ true) × (at_or_below p u has.field.class.0 ≡ true) = both-true (is_member has.field.flags) (at_or_below p u has.field.class.0) has.instance in
      let class : ClassInfo = has.class.0 in
      let any : list_any (λ (s : ClassId). s.0 == has.field.class.0) has.class.0.supers ≡ true = sym (ap (λ (o : Option ClassInfo). has_above o has.field.class.0) has.class.1) ∙ both.1 in
      let one : (s : ClassId) × Contains has.class.0.supers s × ((s.0 == has.field.class.0) ≡ true) = any-in (λ (s : ClassId). s.0 == has.field.class.0) has.class.0.supers any in (
        has.class.0,
        one.0,
        has.class.1,
        one.1,
        record {
          field = has.field;
          found = has.found;
          member = both.0;
          class = sym (eqb-true one.0.0 has.field.class.0 one.2);
          below = slice_get_within p.fields f has.field has.found;
        },
      )

  pub owns-by_class : (rows : List (List Bool)) (u x : ℕ) → HasCells p (length p.fields) rows → ByClass p rows u x ↔ HasField p u x
  owns-by_class rows u x cells = (
    λ b. let a = b.above in field-by_class u x b.class a.class b.found (listed-at b.class.supers a.j a.class a.found) ((cells.each a.class.0 x).0 a.member),
    λ has. let at = class-of_field u x has in record {
      class = at.0;
      found = at.2;
      above = record { j = at.3.0; below = at.3.1; class = at.1; found = at-listed at.0.supers at.1 at.3; member = (cells.each at.1.0 x).1 at.4 };
    },
  )

  -- a field of the token refers to one of v
  pub record LeadsByField (sets : ClassTable) (u v : ℕ) : Type 0 where
    pub f : ℕ
    pub has : HasField p u f
    pub member : Has (field_set sets f) v
    pub below : v < token_count p

  pub follows-by_class : (sets : ClassTable) (rows : List (List Bool)) (u v : ℕ) → HasTokens p sets (length p.fields) rows → ByClass p rows u v ↔ LeadsByField sets u v
  follows-by_class sets rows u v tokens = (
    λ b. let a = b.above in let r = (tokens.each a.class.0 v).0 a.member in record {
      f = r.f;
      has = field-by_class u r.f b.class a.class b.found (listed-at b.class.supers a.j a.class a.found) r.declared;
      member = r.member;
      below = r.below;
    },
    λ l. let at = class-of_field u l.f l.has in record {
      class = at.0;
      found = at.2;
      above = record {
        j = at.3.0;
        below = at.3.1;
        class = at.1;
        found = at-listed at.0.supers at.1 at.3;
        member = (tokens.each at.1.0 v).1 (record { f = l.f; declared = at.4; member = l.member; below = l.below });
      };
    },
  )

  -- what an object has itself: the fields of the classes at or above it, and its bags where it is absorbing
  pub owned-with_bag : (rows : List (List Bool)) (u at : ℕ) (first mid new : List Bool) → HasCells p (length p.fields) rows → absorbs p u ≡ true → at ≡ length p.fields + u → at < length mid
      → ((x : ℕ) → Has mid x ↔ (Has first x ⊎ ByClass p rows u x)) → new ≡ set mid at true → (x : ℕ) → Has new x ↔ (Has first x ⊎ Owns p u x)
  owned-with_bag rows u at first mid new cells takes number lt has e x =
      let both : Has (set mid at true) x ↔ ((x ≡ at) ⊎ Has mid x) = Has-set mid at x lt in (
        λ h. elim (both.0 (subst (λ (s : List Bool). Has s x) e h)) [
          | inl here ↦ inr (owns_bag takes (here ∙ number))
          | inr had ↦ elim ((has x).0 had) [ inl old ↦ inl old | inr b ↦ inr (owns_field ((owns-by_class rows u x cells).0 b)) ]
        ],
        λ h. subst (λ (s : List Bool). Has s x) (sym e) (both.1 (elim h [
          | inl old ↦ inr ((has x).1 (inl old))
          | inr (owns_field f) ↦ inr ((has x).1 (inr ((owns-by_class rows u x cells).1 f)))
          | inr (owns_bag t k) ↦ inl (k ∙ sym number)
        ])),
      )

  pub owned-without : (rows : List (List Bool)) (u : ℕ) (first mid : List Bool) → HasCells p (length p.fields) rows → absorbs p u ≡ false
      → ((x : ℕ) → Has mid x ↔ (Has first x ⊎ ByClass p rows u x)) → (x : ℕ) → Has mid x ↔ (Has first x ⊎ Owns p u x)
  owned-without rows u first mid cells none has x = (
    λ h. elim ((has x).0 h) [ inl old ↦ inl old | inr b ↦ inr (owns_field ((owns-by_class rows u x cells).0 b)) ],
    λ h. (has x).1 (elim h [
      | inl old ↦ inl old
      | inr (owns_field f) ↦ inr ((owns-by_class rows u x cells).1 f)
      | inr (owns_bag t k) ↦ absurd (true≢false (sym t ∙ none))
    ]),
  )

  -- where it leads at once, as far as tokens are counted
  pub followed-with_bag : (sets : ClassTable) (rows : List (List Bool)) (u : ℕ) (first mid new : List Bool) → HasTokens p sets (length p.fields) rows → absorbs p u ≡ true
      → ((v : ℕ) → Has mid v ↔ (Has first v ⊎ ByClass p rows u v)) → ((v : ℕ) → Has new v ↔ (Has mid v ⊎ (Has (bag_set sets u) v × (v < token_count p))))
      → (v : ℕ) → Has new v ↔ (Has first v ⊎ (Follows p sets u v × (v < token_count p)))
  followed-with_bag sets rows u first mid new tokens takes has more v = (
    λ h. elim ((more v).0 h) [
      | inl had ↦ elim ((has v).0 had) [
        | inl old ↦ inl old
        | inr b ↦ let l = (follows-by_class sets rows u v tokens).0 b in inr (by_field l.f l.has l.member, l.below)
      ]
      | inr bag ↦ inr (by_bag takes bag.0, bag.1)
    ],
    λ h. (more v).1 (elim h [
      | inl old ↦ inl ((has v).1 (inl old))
      | inr (by_field f own member, lt) ↦ inl ((has v).1 (inr ((follows-by_class sets rows u v tokens).1 (record { f = f; has = own; member = member; below = lt }))))
      | inr (by_bag t member, lt) ↦ inr (member, lt)
    ]),
  )

  pub followed-without : (sets : ClassTable) (rows : List (List Bool)) (u : ℕ) (first mid : List Bool) → HasTokens p sets (length p.fields) rows → absorbs p u ≡ false
      → ((v : ℕ) → Has mid v ↔ (Has first v ⊎ ByClass p rows u v)) → (v : ℕ) → Has mid v ↔ (Has first v ⊎ (Follows p sets u v × (v < token_count p)))
  followed-without sets rows u first mid tokens none has v = (
    λ h. elim ((has v).0 h) [
      | inl old ↦ inl old
      | inr b ↦ let l = (follows-by_class sets rows u v tokens).0 b in inr (by_field l.f l.has l.member, l.below)
    ],
    λ h. (has v).1 (elim h [
      | inl old ↦ inl old
      | inr (by_field f own member, lt) ↦ inr ((follows-by_class sets rows u v tokens).1 (record { f = f; has = own; member = member; below = lt }))
      | inr (by_bag t member, lt) ↦ absurd (true≢false (sym t ∙ none))
    ]),
  )
