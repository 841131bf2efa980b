-- The members of a set, gone through one after another.
use Rattle.std.proofs.Common.{◌≡◌, ◌⊎◌, ◌↔◌, inl, inr, ℕ, suc, ◌+◌, ◌<◌, ◌≤◌, Bool, true, false, List, [], length, get_or, set, replicate, refl, sym, ap, subst, ◌∙◌, arith}
use Rattle.std.proofs.lemmas.Bool.{cases_eq, cases_lt}
use Rattle.std.proofs.lemmas.List.{get_or-set_same, get_or-set_other}
use Rattle.std.proofs.Math.ListN.{length-replicate}
use Rattle.ja_ir.specs.declared.program.Parts.{Parts}
use Rattle.ja_sets.specs.Sets.{Has, Lacks, union}
use Rattle.ja_sets.proofs.Members.{Has-union_iff, no-member}
use Rattle.ja_sets.proofs.Values.{length-union}
use Rattle.ja_facts.specs.ClassTables.{ClassTable, field_set, token_count, no_members}
use Rattle.ja_facts.specs.FactTables.{cell_count}
use Rattle.ja_holds.specs.declared.fields.Cover.{Cover}
use Rattle.ja_holds.specs.Inner.{row, MayReach, IsReachedFrom}
use Rattle.ja_holds.specs.Searches.{IsDone, AreFields}
use Rattle.ja_holds.specs.Covers.{IsCover}
use Rattle.ja_holds.proofs.Basics.{not_both, sets-copies, sets-set}
use Rattle.ja_holds.proofs.Searching.{reaches-through, done-itself, start-inside}
use Rattle.ja_holds.proofs.Owning.{owner-below}

module _ (p : Parts) (sets : ClassTable) (members : List Bool) where
  pub none-covered : IsCover p sets members 0 (record { covered = replicate (token_count p) false; held = replicate (cell_count p) false })
  none-covered = record {
    covered_size = length-replicate (token_count p) false;
    held_size = length-replicate (cell_count p) false;
    reached = λ x h. absurd (no-member (cell_count p) x h);
    covers = λ t x h m. absurd (no-member (token_count p) t h);
    all = λ t h lt below. absurd (omega arith);
  }

  -- members up to a place that has none before it
  pub covered-to : (from next : ℕ) (cover : Cover) → IsCover p sets members from cover → ((y : ℕ) → from ≤ y → y < next → y < token_count p → Lacks members y) → IsCover p sets members next cover
  covered-to from next cover is none = record {
    covered_size = is.covered_size;
    held_size = is.held_size;
    reached = is.reached;
    covers = is.covers;
    all = λ t h lt below. elim (cases_lt t from) [ inl before ↦ is.all t h before below | inr past ↦ not_both members t h (none t past lt below) ];
  }

  -- a token that is covered
  pub covered-one : (token : ℕ) (cover : Cover) → IsCover p sets members token cover → Has cover.covered token → IsCover p sets members (token + 1) cover
  covered-one token cover is has = record {
    covered_size = is.covered_size;
    held_size = is.held_size;
    reached = is.reached;
    covers = is.covers;
    all = λ t h lt below. elim (cases_eq t token) [ inl e ↦ subst (Has cover.covered) (sym e) has | inr ne ↦ is.all t h (omega arith) below ];
  }

  -- and one whose cells are added
  pub covered-more : (token : ℕ) (cover : Cover) (span held : List Bool) → IsCover p sets members token cover → Has members token → token < token_count p → length span ≡ token_count p → length held ≡ cell_count p
      → IsDone p sets token span held → IsCover p sets members (token + 1) (record { covered = union cover.covered span; held = union cover.held held })
  covered-more token cover span held is member inside span_size held_size done =
      let es : length cover.covered ≡ length span = is.covered_size ∙ sym span_size in
      let ec : length cover.held ≡ length held = is.held_size ∙ sym held_size in
      record {
        covered_size = length-union cover.covered span es ∙ is.covered_size;
        held_size = length-union cover.held held ec ∙ is.held_size;
        reached = λ x h. elim ((Has-union_iff cover.held held x ec).0 h) [ inl had ↦ is.reached x had | inr new ↦ record { t = token; member = member; reaches = (done.held x).0 new } ];
        covers = λ t x h m. (Has-union_iff cover.held held x ec).1 (elim ((Has-union_iff cover.covered span t es).0 h) [
          | inl had ↦ inl (is.covers t x had m)
          | inr new ↦ inr ((done.held x).1 (reaches-through p sets ((done.span t).0 new).0 m))
        ]);
        all = λ t h lt below. (Has-union_iff cover.covered span t es).1 (elim (cases_eq t token) [
          | inl e ↦ inr (subst (Has span) (sym e) (done-itself p sets token span held done inside))
          | inr ne ↦ inl (is.all t h (omega arith) below)
        ]);
      }

  pub same-cover : (from : ℕ) (covered held covered2 held2 : List Bool) → covered ≡ covered2 → held ≡ held2 → IsCover p sets members from (record { covered = covered2; held = held2 })
      → IsCover p sets members from (record { covered = covered; held = held })
  same-cover from covered held covered2 held2 a b h =
      subst (λ (s : List Bool). IsCover p sets members from (record { covered = s; held = held })) (sym a)
      (subst (λ (s : List Bool). IsCover p sets members from (record { covered = covered2; held = s })) (sym b) h)

  -- all that members reach is held, where a token that reaches something is one of the program
  pub covered-all : (cover : Cover) → IsCover p sets members (token_count p) cover → (x : ℕ) → Has cover.held x ↔ IsReachedFrom p sets members x
  covered-all cover is x = (
    is.reached x,
    λ r. let lt : r.t < token_count p = start-inside p sets r.reaches.leads (owner-below p r.reaches.u x r.reaches.owns) in is.covers r.t x (is.all r.t r.member lt lt) r.reaches,
  )

module _ (p : Parts) (sets : ClassTable) where
  pub no-fields : AreFields p sets 0 (replicate (length p.fields) (no_members (cell_count p)))
  no-fields = record { held_sets = sets-copies (length p.fields) (cell_count p); each = λ f x lt. absurd (omega arith) }

  pub fields-more : (f : ℕ) (held : List (List Bool)) (new : List Bool) → AreFields p sets f held → f < length p.fields → length new ≡ cell_count p → ((x : ℕ) → Has new x ↔ IsReachedFrom p sets (field_set sets f) x)
      → AreFields p sets (f + 1) (set held f new)
  fields-more f held new fields lt size each = record {
    held_sets = sets-set (length p.fields) (cell_count p) held f new fields.held_sets lt size;
    each = λ g x below. elim (cases_eq g f) [
      | inl e ↦
          let same : row (set held f new) g ≡ new = ap (λ k. get_or (set held f new) k []) e ∙ get_or-set_same held f new [] (let n = fields.held_sets.counted in omega arith) in (
            λ h. subst (λ k. IsReachedFrom p sets (field_set sets k) x) (sym e) ((each x).0 (subst (λ (s : List Bool). Has s x) same h)),
            λ r. subst (λ (s : List Bool). Has s x) (sym same) ((each x).1 (subst (λ k. IsReachedFrom p sets (field_set sets k) x) e r)),
          )
      | inr ne ↦
          let same : row (set held f new) g ≡ row held g = get_or-set_other held f g new [] ne in (
            λ h. (fields.each g x (omega arith)).0 (subst (λ (s : List Bool). Has s x) same h),
            λ r. subst (λ (s : List Bool). Has s x) (sym same) ((fields.each g x (omega arith)).1 r),
          )
    ];
  }
