-- The fields that classes declare, noted one after another.
use Rattle.std.proofs.Common.{◌≡◌, ◌⊎◌, ◌↔◌, inl, inr, ℕ, suc, ◌+◌, ◌<◌, ◌≤◌, Bool, true, false, not, List, length, get_or, set, replicate, refl, sym, ap, subst, ◌∙◌, true≢false, arith}
use Rattle.std.specs.Prelude.{Some, slice_get}
use Rattle.std.proofs.lemmas.Bool.{cases_lt}
use Rattle.std.proofs.lemmas.Option.{same_Some}
use Rattle.ja_ir.specs.declared.program.Parts.{Parts}
use Rattle.ja_ir.specs.declared.class.Field.{Field}
use Rattle.ja_ir.specs.Lookup.{is_member, is_static}
use Rattle.ja_ir.specs.Whole.{IsWhole}
use Rattle.ja_sets.specs.Sets.{Has}
use Rattle.ja_facts.specs.ClassTables.{ClassTable, no_members, field_set, token_count}
use Rattle.ja_facts.specs.FactTables.{cell_count}
use Rattle.ja_holds.specs.Sized.{AreSets}
use Rattle.ja_holds.specs.Inner.{row, Gains, IsDeclared, IsReferred, HasCells, HasTokens}
use Rattle.ja_holds.proofs.Basics.{at-get, no-row_member, sets-copies, gained}

module _ (p : Parts) where
  -- the class that declares a field is there
  pub class-inside : (f : ℕ) (field : Field) → IsWhole p → slice_get p.fields f ≡ Some field → field.class.0 < length p.classes
  class-inside f field whole found = at-get (λ (x : Field). x.class.0 < length p.classes) p.fields f field whole.field_classes found

  later : (f c x : ℕ) → IsDeclared p f c x → IsDeclared p (f + 1) c x
  later f c x d = record { field = d.field; found = d.found; member = d.member; class = d.class; below = let b = d.below in omega arith }

  -- one field more is one before it, or that one where it is one of objects
  one-more : (f c x : ℕ) (field : Field) → slice_get p.fields f ≡ Some field → is_member field.flags ≡ true → IsDeclared p (f + 1) c x ↔ (IsDeclared p f c x ⊎ ((c ≡ field.class.0) × (x ≡ f)))
  one-more f c x field found member = (
    λ d. elim (cases_lt x f) [
      | inl lt ↦ inl (record { field = d.field; found = d.found; member = d.member; class = d.class; below = lt })
      | inr past ↦
          let e : x ≡ f = let b = d.below in omega arith in
          let same : field ≡ d.field = same_Some field d.field (sym found ∙ ap (slice_get p.fields) (sym e) ∙ d.found) in
          inr (sym d.class ∙ ap (λ (y : Field). y.class.0) (sym same), e)
    ],
    λ h. elim h [
      | inl d ↦ later f c x d
      | inr now ↦ record { field = field; found = ap (slice_get p.fields) now.1 ∙ found; member = member; class = sym now.0; below = let e = now.1 in omega arith }
    ],
  )

  none-more : (f c x : ℕ) (field : Field) → slice_get p.fields f ≡ Some field → is_static field.flags ≡ true → IsDeclared p (f + 1) c x ↔ IsDeclared p f c x
  none-more f c x field found static = (
    λ d. elim (cases_lt x f) [
      | inl lt ↦ record { field = d.field; found = d.found; member = d.member; class = d.class; below = lt }
      | inr past ↦
          let e : x ≡ f = let b = d.below in omega arith in
          let same : field ≡ d.field = same_Some field d.field (sym found ∙ ap (slice_get p.fields) (sym e) ∙ d.found) in
          absurd (true≢false (sym d.member ∙ ap (λ (y : Field). not (is_static y.flags)) (sym same) ∙ ap not static))
    ],
    λ d. later f c x d,
  )

  pub cells-none : HasCells p 0 (replicate (length p.classes) (no_members (cell_count p)))
  cells-none = record {
    sized = sets-copies (length p.classes) (cell_count p);
    each = λ c f. (λ h. absurd (no-row_member (length p.classes) (cell_count p) c f h), λ d. absurd (let b = d.below in omega arith));
  }

  pub cells-more : (f : ℕ) (field : Field) (old new : List (List Bool)) → slice_get p.fields f ≡ Some field → is_member field.flags ≡ true → HasCells p f old
      → AreSets (length p.classes) (cell_count p) new → Gains field.class.0 (λ y. y ≡ f) old new → HasCells p (f + 1) new
  cells-more f field old new found member cells sets gains = record {
    sized = sets;
    each = λ c x.
        let both = gained field.class.0 (λ y. y ≡ f) old new c x gains in
        let more = one-more f c x field found member in (
          λ h. more.1 (elim (both.0 h) [ inl had ↦ inl ((cells.each c x).0 had) | inr now ↦ inr now ]),
          λ d. both.1 (elim (more.0 d) [ inl had ↦ inl ((cells.each c x).1 had) | inr now ↦ inr now ]),
        );
  }

  pub cells-same : (f : ℕ) (field : Field) (rows : List (List Bool)) → slice_get p.fields f ≡ Some field → is_static field.flags ≡ true → HasCells p f rows → HasCells p (f + 1) rows
  cells-same f field rows found static cells = record {
    sized = cells.sized;
    each = λ c x. let none = none-more f c x field found static in (λ h. none.1 ((cells.each c x).0 h), λ d. (cells.each c x).1 (none.0 d));
  }

  module _ (sets : ClassTable) where
    pub tokens-none : HasTokens p sets 0 (replicate (length p.classes) (no_members (token_count p)))
    tokens-none = record {
      sized = sets-copies (length p.classes) (token_count p);
      each = λ c v. (λ h. absurd (no-row_member (length p.classes) (token_count p) c v h), λ r. absurd (let b = r.declared.below in omega arith));
    }

    pub tokens-more : (f : ℕ) (field : Field) (old new : List (List Bool)) → slice_get p.fields f ≡ Some field → is_member field.flags ≡ true → HasTokens p sets f old
        → AreSets (length p.classes) (token_count p) new → Gains field.class.0 (λ v. Has (field_set sets f) v × (v < token_count p)) old new → HasTokens p sets (f + 1) new
    tokens-more f field old new found member tokens are gains = record {
      sized = are;
      each = λ c v.
          let both = gained field.class.0 (λ v. Has (field_set sets f) v × (v < token_count p)) old new c v gains in (
            λ h. elim (both.0 h) [
              | inl had ↦ let r = (tokens.each c v).0 had in record { f = r.f; declared = later f c r.f r.declared; member = r.member; below = r.below }
              | inr now ↦ record { f = f; declared = (one-more f c f field found member).1 (inr (now.0, refl)); member = now.1.0; below = now.1.1 }
            ],
            λ r. both.1 (elim ((one-more f c r.f field found member).0 r.declared) [
              | inl had ↦ inl ((tokens.each c v).1 (record { f = r.f; declared = had; member = r.member; below = r.below }))
              | inr now ↦ inr (now.0, (subst (λ g. Has (field_set sets g) v) now.1 r.member, r.below))
            ]),
          );
    }

    pub tokens-same : (f : ℕ) (field : Field) (rows : List (List Bool)) → slice_get p.fields f ≡ Some field → is_static field.flags ≡ true → HasTokens p sets f rows → HasTokens p sets (f + 1) rows
    tokens-same f field rows found static tokens = record {
      sized = tokens.sized;
      each = λ c v. (
        λ h. let r = (tokens.each c v).0 h in record { f = r.f; declared = later f c r.f r.declared; member = r.member; below = r.below },
        λ r. (tokens.each c v).1 (record { f = r.f; declared = (none-more f c r.f field found static).0 r.declared; member = r.member; below = r.below }),
      );
    }
