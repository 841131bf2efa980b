-- What a search keeps at each of its steps, and what it has found at its end.
use Rattle.std.proofs.Common.{◌≡◌, ◌⊎◌, ◌↔◌, inl, inr, ℕ, suc, ◌+◌, ◌<◌, ◌≤◌, Bool, true, false, List, [], length, get_or, set, replicate, refl, sym, ap, subst, ◌∙◌, arith}
use Rattle.std.proofs.lemmas.Bool.{cases_eq}
use Rattle.std.proofs.lemmas.List.{get_or-set_same, get_or-set_other}
use Rattle.std.proofs.Math.ListN.{length-replicate, length-set}
use Rattle.ja_ir.specs.declared.program.Parts.{Parts}
use Rattle.ja_ir.specs.Tokens.{absorbs}
use Rattle.ja_sets.specs.Sets.{Has, Lacks, union}
use Rattle.ja_sets.proofs.Members.{Has-set, Has-union_iff, no-member}
use Rattle.ja_sets.proofs.Values.{length-union}
use Rattle.ja_facts.specs.ClassSets.{HasField}
use Rattle.ja_facts.specs.ClassTables.{ClassTable, field_set, bag_set, token_count, no_members}
use Rattle.ja_facts.specs.FactTables.{cell_count}
use Rattle.ja_facts.specs.Told.{LeadsBy, leads_itself, leads_by_field, leads_by_bag}
use Rattle.ja_holds.specs.declared.search.Search.{Search}
use Rattle.ja_holds.specs.Sized.{AreSets}
use Rattle.ja_holds.specs.Inner.{row, Follows, by_field, by_bag, Owns, MayReach, lacking}
use Rattle.ja_holds.specs.Searches.{IsSearch, IsDone, Finds, AreDone}
use Rattle.ja_holds.proofs.Basics.{not_both, Has-within, sets-copies, sets-set}
use Rattle.ja_holds.proofs.Owning.{owner-below, follower-below, class-below, absorbing-below}

module _ (p : Parts) (sets : ClassTable) where
  pub leads-on : {t u v : ℕ} → LeadsBy p sets t u → Follows p sets u v → LeadsBy p sets t v
  leads-on l (by_field f has member) = leads_by_field f has member l
  leads-on l (by_bag takes member) = leads_by_bag takes member l

  pub leads-through : {t u v : ℕ} → LeadsBy p sets t u → LeadsBy p sets u v → LeadsBy p sets t v
  leads-through l leads_itself = l
  leads-through l (leads_by_field f has member k) = leads_by_field f has member (leads-through l k)
  leads-through l (leads_by_bag takes member k) = leads_by_bag takes member (leads-through l k)

  pub reaches-through : {t u x : ℕ} → LeadsBy p sets t u → MayReach p sets u x → MayReach p sets t x
  reaches-through l m = record { u = m.u; leads = leads-through l m.leads; owns = m.owns }

  -- what leads to a token of the program is one
  pub start-inside : {t v : ℕ} → LeadsBy p sets t v → v < token_count p → t < token_count p
  start-inside leads_itself lt = lt
  start-inside (leads_by_field {u = u} f has member l) lt = start-inside l (class-below p u has.class.0 has.class.1)
  start-inside (leads_by_bag {u = u} takes member l) lt = start-inside l (absorbing-below p u takes)

  pub begun : (start : ℕ) → start < token_count p
      → IsSearch p sets (record { start = start; span = set (replicate (token_count p) false) start true; handled = replicate (token_count p) false; held = replicate (cell_count p) false })
  begun start lt =
      let size : length (replicate (token_count p) false) ≡ token_count p = length-replicate (token_count p) false in
      let inside : start < length (replicate (token_count p) false) = omega arith in
      record {
        span_size = length-set (replicate (token_count p) false) start true ∙ size;
        handled_size = size;
        held_size = length-replicate (cell_count p) false;
        starts = (Has-set (replicate (token_count p) false) start start inside).1 (inl refl);
        leads = λ v h. elim ((Has-set (replicate (token_count p) false) start v inside).0 h) [
          | inl e ↦ subst (LeadsBy p sets start) (sym e) leads_itself
          | inr none ↦ absurd (no-member (token_count p) v none)
        ];
        reaches = λ x h. absurd (no-member (cell_count p) x h);
        follows = λ u v h f lt2. absurd (no-member (token_count p) u h);
        owns = λ u x h o. absurd (no-member (token_count p) u h);
      }

  pub visited : (s : Search) (u : ℕ) (span held : List Bool) → IsSearch p sets s → Has s.span u
      → length span ≡ token_count p → ((v : ℕ) → Has span v ↔ (Has s.span v ⊎ (Follows p sets u v × (v < token_count p))))
      → length held ≡ cell_count p → ((x : ℕ) → Has held x ↔ (Has s.held x ⊎ Owns p u x))
      → IsSearch p sets (record { start = s.start; span = span; handled = set s.handled u true; held = held })
  visited s u span held search found span_size has_span held_size has_held =
      let inside : u < length s.handled = let a = Has-within s.span u found in let b = search.span_size in let d = search.handled_size in omega arith in
      record {
        span_size = span_size;
        handled_size = length-set s.handled u true ∙ search.handled_size;
        held_size = held_size;
        starts = (has_span s.start).1 (inl search.starts);
        leads = λ v h. elim ((has_span v).0 h) [ inl had ↦ search.leads v had | inr new ↦ leads-on (search.leads u found) new.0 ];
        reaches = λ x h. elim ((has_held x).0 h) [ inl had ↦ search.reaches x had | inr own ↦ record { u = u; leads = search.leads u found; owns = own } ];
        follows = λ w v h f lt. (has_span v).1 (elim ((Has-set s.handled u w inside).0 h) [
          | inl e ↦ inr (subst (λ z. Follows p sets z v) e f, lt)
          | inr had ↦ inl (search.follows w v had f lt)
        ]);
        owns = λ w x h o. (has_held x).1 (elim ((Has-set s.handled u w inside).0 h) [
          | inl e ↦ inr (subst (λ z. Owns p z x) e o)
          | inr had ↦ inl (search.owns w x had o)
        ]);
      }

  pub recalled : (s : Search) (u : ℕ) (span held : List Bool) → IsSearch p sets s → Has s.span u → length span ≡ token_count p → length held ≡ cell_count p → IsDone p sets u span held
      → IsSearch p sets (record { start = s.start; span = union s.span span; handled = union s.handled span; held = union s.held held })
  recalled s u span held search found span_size held_size done =
      let es : length s.span ≡ length span = search.span_size ∙ sym span_size in
      let eh : length s.handled ≡ length span = search.handled_size ∙ sym span_size in
      let ec : length s.held ≡ length held = search.held_size ∙ sym held_size in
      record {
        span_size = length-union s.span span es ∙ search.span_size;
        handled_size = length-union s.handled span eh ∙ search.handled_size;
        held_size = length-union s.held held ec ∙ search.held_size;
        starts = (Has-union_iff s.span span s.start es).1 (inl search.starts);
        leads = λ v h. elim ((Has-union_iff s.span span v es).0 h) [ inl had ↦ search.leads v had | inr new ↦ leads-through (search.leads u found) ((done.span v).0 new).0 ];
        reaches = λ x h. elim ((Has-union_iff s.held held x ec).0 h) [ inl had ↦ search.reaches x had | inr new ↦ reaches-through (search.leads u found) ((done.held x).0 new) ];
        follows = λ w v h f lt. (Has-union_iff s.span span v es).1 (elim ((Has-union_iff s.handled span w eh).0 h) [
          | inl had ↦ inl (search.follows w v had f lt)
          | inr new ↦ inr ((done.span v).1 (leads-on ((done.span w).0 new).0 f, lt))
        ]);
        owns = λ w x h o. (Has-union_iff s.held held x ec).1 (elim ((Has-union_iff s.handled span w eh).0 h) [
          | inl had ↦ inl (search.owns w x had o)
          | inr new ↦ inr ((done.held x).1 (record { u = w; leads = ((done.span w).0 new).0; owns = o }))
        ]);
      }

  -- a token that is done leads to itself
  pub done-itself : (u : ℕ) (span held : List Bool) → IsDone p sets u span held → u < token_count p → Has span u
  done-itself u span held done lt = (done.span u).1 (leads_itself, lt)

  -- all that a closed search's start leads to is found
  closed-span : (s : Search) → IsSearch p sets s → ((u : ℕ) → Has s.span u → Has s.handled u) → {v : ℕ} → LeadsBy p sets s.start v → v < token_count p → Has s.span v
  closed-span s search closed leads_itself lt = search.starts
  closed-span s search closed (leads_by_field {u = u} {v = v} f has member l) lt =
      search.follows u v (closed u (closed-span s search closed l (class-below p u has.class.0 has.class.1))) (by_field f has member) lt
  closed-span s search closed (leads_by_bag {u = u} {v = v} takes member l) lt =
      search.follows u v (closed u (closed-span s search closed l (absorbing-below p u takes))) (by_bag takes member) lt

  pub finds : (s : Search) (start : ℕ) → IsSearch p sets s → s.start ≡ start → ((u : ℕ) → Has s.span u → Has s.handled u) → Finds p sets start s
  finds s start search at closed = subst (λ t. Finds p sets t s) at (record {
    span_size = search.span_size;
    held_size = search.held_size;
    done = record {
      span = λ v. (
        λ h. (search.leads v h, let a = Has-within s.span v h in let b = search.span_size in omega arith),
        λ l. closed-span s search closed l.0 l.1,
      );
      held = λ x. (
        λ h. search.reaches x h,
        λ m. search.owns m.u x (closed m.u (closed-span s search closed m.leads (owner-below p m.u x m.owns))) m.owns,
      );
    };
  })

  pub none-done : AreDone p sets (replicate (token_count p) (no_members (token_count p))) (replicate (token_count p) (no_members (cell_count p))) (token_count p)
  none-done = record {
    span_sets = sets-copies (token_count p) (token_count p);
    held_sets = sets-copies (token_count p) (cell_count p);
    each = λ u from lt. absurd (omega arith);
  }

  pub same-done : (u t : ℕ) (span held span2 held2 : List Bool) → u ≡ t → span ≡ span2 → held ≡ held2 → IsDone p sets t span2 held2 → IsDone p sets u span held
  same-done u t span held span2 held2 e es eh done = record {
    span = λ v. (
      λ h. subst (λ k. LeadsBy p sets k v × (v < token_count p)) (sym e) ((done.span v).0 (subst (λ (s : List Bool). Has s v) es h)),
      λ l. subst (λ (s : List Bool). Has s v) (sym es) ((done.span v).1 (subst (λ k. LeadsBy p sets k v × (v < token_count p)) e l)),
    );
    held = λ x. (
      λ h. subst (λ k. MayReach p sets k x) (sym e) ((done.held x).0 (subst (λ (s : List Bool). Has s x) eh h)),
      λ m. subst (λ (s : List Bool). Has s x) (sym eh) ((done.held x).1 (subst (λ k. MayReach p sets k x) e m)),
    );
  }

  -- one token more is done
  pub more-done : (spans held : List (List Bool)) (t : ℕ) (s : Search) → AreDone p sets spans held (t + 1) → t < token_count p → Finds p sets t s → AreDone p sets (set spans t s.span) (set held t s.held) t
  more-done spans held t s done lt finds = record {
    span_sets = sets-set (token_count p) (token_count p) spans t s.span done.span_sets lt finds.span_size;
    held_sets = sets-set (token_count p) (cell_count p) held t s.held done.held_sets lt finds.held_size;
    each = λ u from below. elim (cases_eq u t) [
      | inl e ↦
          let span : row (set spans t s.span) u ≡ s.span = ap (λ k. get_or (set spans t s.span) k []) e ∙ get_or-set_same spans t s.span [] (let c = done.span_sets.counted in omega arith) in
          let cells : row (set held t s.held) u ≡ s.held = ap (λ k. get_or (set held t s.held) k []) e ∙ get_or-set_same held t s.held [] (let c = done.held_sets.counted in omega arith) in
          same-done u t (row (set spans t s.span) u) (row (set held t s.held) u) s.span s.held e span cells finds.done
      | inr ne ↦
          same-done u u (row (set spans t s.span) u) (row (set held t s.held) u) (row spans u) (row held u) refl (get_or-set_other spans t u s.span [] ne) (get_or-set_other held t u s.held [] ne)
          (done.each u (omega arith) below)
    ];
  }

  -- the same sets under other names
  pub same-search : (start : ℕ) (span handled held span2 handled2 held2 : List Bool) → span ≡ span2 → handled ≡ handled2 → held ≡ held2
      → IsSearch p sets (record { start = start; span = span2; handled = handled2; held = held2 }) → IsSearch p sets (record { start = start; span = span; handled = handled; held = held })
  same-search start span handled held span2 handled2 held2 a b d h =
      subst (λ (s : List Bool). IsSearch p sets (record { start = start; span = s; handled = handled; held = held })) (sym a)
      (subst (λ (s : List Bool). IsSearch p sets (record { start = start; span = span2; handled = s; held = held })) (sym b)
      (subst (λ (s : List Bool). IsSearch p sets (record { start = start; span = span2; handled = handled2; held = s })) (sym d) h))
