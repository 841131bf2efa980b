-- What class sets say of calls of the library is told by the network.
use Rattle.std.proofs.Common.{◌≡◌, ℕ, zero, suc, ◌+◌, ◌<◌, ◌==◌, ◌&&◌, Bool, true, false, List, [], ◌∷◌, ◌++◌, Option, Some, None, refl, sym, ap, subst, ◌∙◌, arith, true≢false}
use Rattle.std.specs.Prelude.{Contains, slice_get}
use Rattle.std.proofs.lemmas.Bool.{eq-eqb}
use Rattle.ja_base.specs.declared.java_type.JavaType.{JavaType}
use Rattle.ja_ir.specs.declared.program.Parts.{Parts}
use Rattle.ja_ir.specs.declared.class.Field.{Field as FieldInfo}
use Rattle.ja_ir.specs.declared.row.RowEffect.{RowEffect}
use Rattle.ja_ir.specs.declared.row.RowEffect.TheVariants.{Quiet, Absorb, Blend}
use Rattle.ja_ir.specs.declared.row.RowResult.{RowResult}
use Rattle.ja_ir.specs.declared.row.RowResult.TheVariants.{Fresh, Argument, Member, Any}
use Rattle.ja_ir.specs.declared.op.CallOp.{CallOp}
use Rattle.ja_ir.specs.declared.op.Op.TheVariants.{Call}
use Rattle.ja_ir.specs.Lookup.{Leads, is_instance_field}
use Rattle.ja_ir.specs.Operations.{arguments, has_receiver, count_of}
use Rattle.ja_ir.specs.Tokens.{fits, fits_shape, shape_of, absorbs, rarr_token, lib_token, fresh_tokens, bagged_tokens}
use Rattle.ja_ir.specs.Whole.{IsWhole}
use Rattle.ja_facts.specs.Least.{Each}
use Rattle.ja_facts.specs.ClassTables.{token_count}
use Rattle.ja_facts.specs.Slots.{OnStack, CallAt, argument}
use Rattle.ja_facts.specs.ClassSets.{HasReference, IsSource, LeadsFrom, MakesResult}
use Rattle.ja_network.specs.declared.cell.Cell.{Cell}
use Rattle.ja_network.specs.declared.cell.Cell.TheVariants.{Field, Bag, Span, Thrown, Takers, Pushed}
use Rattle.ja_network.specs.declared.cell.Action.TheVariants.{Return, Source, Take, Fill, Lead, Expand}
use Rattle.ja_network.specs.declared.cell.Event.TheVariants.{Reached, CallsLibrary, Spanned, Linked}
use Rattle.ja_network.specs.Facts.{HasToken, Happens as ItHappens}
use Rattle.ja_cells.specs.Names.{Names, AreNames, row_at, locals_of, slot_number}
use Rattle.ja_cells.specs.Rows.{cell_in}
use Rattle.ja_constraints.specs.declared.constraint.Constraint.TheVariants.{Has}
use Rattle.ja_constraints.specs.Links.{link, copy, gets}
use Rattle.ja_constraints.specs.Places.{argument_cell}
use Rattle.ja_constraints.specs.LibraryCalls.{is_source, source, answers_from, is_reference, has_reference, result_from, argument_does, arguments_do, answers_shape, answers_each, fills, makes_result, fills_result, makes_new, does_there}
use Rattle.ja_firing.specs.Tokens.{passes_to, fits_result, answers, fills_from, fills_bag, field_leads, fields_lead, bag_leads, expands}
use Rattle.ja_class_laws.specs.Shown.{LeadsBy, leads_itself, leads_by_field, leads_by_bag}
use Rattle.ja_class_laws.proofs.Lists.{each-left, each-right, each-when, each-unmap, over-at, code-told}
use Rattle.ja_class_laws.proofs.Frames.{IsAt, IsSlot}
use Rattle.ja_class_laws.proofs.TokensBelow.{fresh-below, bagged-below}
use Rattle.ja_class_laws.proofs.Telling.{Net, Told, follows-told, fires-told, below, linked, fired, copied}
use Rattle.ja_class_laws.proofs.Arriving.{Held, at-of}
use Rattle.ja_class_laws.proofs.ShownCalls.{of-op, argument-has, call-pushes}

is-source-told : (call : CallOp) (k : ℕ) (effect : RowEffect) → IsSource call k effect → is_source call.kind k effect ≡ true
is-source-told call k Quiet h = absurd h
is-source-told call k Absorb h = ap (λ (b : Bool). b && (k == 0)) h.0 ∙ eq-eqb k 0 h.1
is-source-told call k Blend h = refl

source-below : (call : CallOp) (k : ℕ) (effect : RowEffect) → IsSource call k effect → k < arguments call
source-below call k Quiet h = absurd h
source-below call k Absorb h = by (has_receiver call.kind) refl h.0
  where
    by : (b : Bool) → has_receiver call.kind ≡ b → b ≡ true → k < arguments call
    by true e f = let one : count_of (has_receiver call.kind) ≡ 1 = ap count_of e in let zero_k : k ≡ 0 = h.1 in omega arith
    by false e f = absurd (true≢false (sym f))
source-below call k Blend h = h

makes-told : (result : RowResult) → MakesResult result → makes_result result ≡ true
makes-told Fresh h = refl
makes-told Argument h = absurd h
makes-told Member h = refl
makes-told Any h = refl

module _ (p : Parts) (names : Names) (whole : IsWhole p) (right : AreNames p names) where
  -- ---- what objects lead to

  field-lead : (start t f : ℕ) (fields : List FieldInfo) (x : ℕ) (field : FieldInfo) → slice_get fields x ≡ Some field → Each (Told p names) (fields_lead p start t f fields) → Each (Told p names) (field_leads p start t (f + x) field)
  field-lead start t f [] x field e h = absurd (let y : None ≡ Some field = e in cc)
  field-lead start t f (first ∷ fields) zero field e h =
      let same : first ≡ field = (let y : Some first ≡ Some field = e in cc) in
      let none : f ≡ f + 0 = omega arith in
      subst (λ n. Each (Told p names) (field_leads p start t n field)) none
      (subst (λ (y : FieldInfo). Each (Told p names) (field_leads p start t f y)) same (each-left (Told p names) (field_leads p start t f first) (fields_lead p start t (suc f) fields) h))
  field-lead start t f (first ∷ fields) (suc x) field e h =
      let one : suc f + x ≡ f + suc x = omega arith in
      subst (λ n. Each (Told p names) (field_leads p start t n field)) one
      (field-lead start t (suc f) fields x field e (each-right (Told p names) (field_leads p start t f first) (fields_lead p start t (suc f) fields) h))

  pub spans-told : (t u : ℕ) → t < token_count p → Net p names (ItHappens (Spanned t)) → LeadsBy p (Net p names) t u → Net p names (HasToken (Span t) u)
  spans-told t _ lt asked leads_itself = (follows-told p names (Spanned t) asked).0 lt
  spans-told t _ lt asked (leads_by_field {u} {v} f has h leads) =
      let there : Net p names (HasToken (Span t) u) = spans-told t u lt asked leads in
      let all : Each (Told p names) (expands p t u) = fires-told p names (Span t) (Expand t) u there (follows-told p names (Spanned t) asked).1.0 in
      let none : 0 + f ≡ f = omega arith in
      let one : Each (Told p names) (field_leads p t u f has.field) = subst (λ n. Each (Told p names) (field_leads p t u n has.field)) none
      (field-lead t u 0 p.fields f has.field has.found (each-left (Told p names) (fields_lead p t u 0 p.fields) (bag_leads p t u) all)) in
      copied p names whole right (Field f) (Span t) v h (each-when (Told p names) (is_instance_field p u has.field) (copy (Field f) (Span t)) has.instance one)
  spans-told t _ lt asked (leads_by_bag {u} {v} absorbing h leads) =
      let there : Net p names (HasToken (Span t) u) = spans-told t u lt asked leads in
      let all : Each (Told p names) (expands p t u) = fires-told p names (Span t) (Expand t) u there (follows-told p names (Spanned t) asked).1.0 in
      copied p names whole right (Bag u) (Span t) v h (each-when (Told p names) (absorbs p u) (copy (Bag u) (Span t)) absorbing (each-right (Told p names) (fields_lead p t u 0 p.fields) (bag_leads p t u) all))

  -- ---- a call of the library

  pub library-throws : (m i : ℕ) → Net p names (ItHappens (CallsLibrary m i)) → Net p names (HasToken (Thrown m i) (lib_token p))
  library-throws m i c = (follows-told p names (CallsLibrary m i) c).0 (omega arith)

  module _ (m i under : ℕ) (call : CallOp) (r : Net p names (ItHappens (Reached m i))) (c : Net p names (ItHappens (CallsLibrary m i))) (at : CallAt p m i call under) where
    does-told : Each (Told p names) (arguments_do m i (row_at names m i) (locals_of (slice_get p.methods m)) at.height call ++ makes_new p m i call.row.result call.result)
    does-told =
        let a : IsAt p m i = at-of p names whole right m i r in
        of-op p names whole right m i at.height (Call call) a at.at (λ locals height op. does_there p m i (row_at names m i) locals height op)
        (code-told (Told p names) p m i (λ method instr. does_there p m i (row_at names m i) method.locals instr.height instr.op) a.method a.instr a.found a.at (follows-told p names (CallsLibrary m i) c).1.1)

    argument-told : (k : ℕ) → k < arguments call → Each (Told p names) (argument_does m i k (argument_cell (row_at names m i) (locals_of (slice_get p.methods m)) at.height call k) call)
    argument-told k lt =
        over-at (Told p names) (λ x. argument_does m i x (argument_cell (row_at names m i) (locals_of (slice_get p.methods m)) at.height call x) call) 0 (arguments call) k (omega arith) (omega arith)
        (each-left (Told p names) (arguments_do m i (row_at names m i) (locals_of (slice_get p.methods m)) at.height call) (makes_new p m i call.row.result call.result) does-told)

    -- what takes the arguments, and where they go
    pub taker-told : (k t b : ℕ) → IsSource call k call.row.effect → absorbs p b ≡ true → Net p names (HasToken (cell_in (row_at names m i) (slot_number p m (argument under k))) t) → LeadsBy p (Net p names) t b
        → Net p names (HasToken (Takers m i) b)
    taker-told k t b is absorbing h leads =
        let told : Each (Told p names) (link (argument_cell (row_at names m i) (locals_of (slice_get p.methods m)) at.height call k) (Source m i)) =
        each-when (Told p names) (is_source call.kind k call.row.effect) (link (argument_cell (row_at names m i) (locals_of (slice_get p.methods m)) at.height call k) (Source m i)) (is-source-told call k call.row.effect is)
        (each-left (Told p names) (source m i k (argument_cell (row_at names m i) (locals_of (slice_get p.methods m)) at.height call k) call) (result_from m i k (argument_cell (row_at names m i) (locals_of (slice_get p.methods m)) at.height call k) call)
        (argument-told k (source-below call k call.row.effect is))) in
        let here : Net p names (HasToken (argument_cell (row_at names m i) (locals_of (slice_get p.methods m)) at.height call k) t) = argument-has p names whole right m i under k t call at h in
        let sourced = fired p names whole right (argument_cell (row_at names m i) (locals_of (slice_get p.methods m)) at.height call k) (Source m i) t here told in
        let there : Net p names (HasToken (Span t) b) = spans-told t b (below p names (argument_cell (row_at names m i) (locals_of (slice_get p.methods m)) at.height call k) t here) sourced.0 leads in
        (each-when (Told p names) (absorbs p b) (gets (Takers m i) b) absorbing (fires-told p names (Span t) (Take m i) b there sourced.1.0)).0 (below p names (Span t) b there)

    pub taken-told : (k b t : ℕ) → k < arguments call → Net p names (HasToken (Takers m i) b) → Net p names (HasToken (cell_in (row_at names m i) (slot_number p m (argument under k))) t) → Net p names (HasToken (Bag b) t)
    taken-told k b t lt taker h =
        let a : IsAt p m i = at-of p names whole right m i r in
        let code = fires-told p names (Takers m i) (Fill m i) b taker (follows-told p names (CallsLibrary m i) c).1.0 in
        let all : Each (Told p names) (fills_from (row_at names m i) (locals_of (slice_get p.methods m)) at.height b call) = of-op p names whole right m i at.height (Call call) a at.at (λ locals height op. fills_bag (row_at names m i) locals height b op)
        (code-told (Told p names) p m i (λ method instr. fills_bag (row_at names m i) method.locals instr.height b instr.op) a.method a.instr a.found a.at code) in
        let told : Each (Told p names) (copy (argument_cell (row_at names m i) (locals_of (slice_get p.methods m)) at.height call k) (Bag b)) =
        over-at (Told p names) (λ x. copy (argument_cell (row_at names m i) (locals_of (slice_get p.methods m)) at.height call x) (Bag b)) 0 (arguments call) k (omega arith) (omega arith) all in
        copied p names whole right (argument_cell (row_at names m i) (locals_of (slice_get p.methods m)) at.height call k) (Bag b) t (argument-has p names whole right m i under k t call at h) told

    -- ---- what is answered

    module _ (type : JavaType) (has : HasReference call type) where
      new-told : Each (Told p names) (answers_each p m i type.name (fresh_tokens p type) ++ fills_result p call.row.result type.name)
      new-told =
          each-when (Told p names) (is_reference type.kind) (answers_each p m i type.name (fresh_tokens p type) ++ fills_result p call.row.result type.name) (ap is_reference has.reference)
          (subst (λ (o : Option JavaType). Each (Told p names) (makes_new p m i call.row.result o)) has.has
          (each-right (Told p names) (arguments_do m i (row_at names m i) (locals_of (slice_get p.methods m)) at.height call) (makes_new p m i call.row.result call.result) does-told))

      answer-among : (tokens : List ℕ) (t : ℕ) → Contains tokens t → Each (Told p names) (answers_each p m i type.name tokens) → Each (Told p names) (answers_shape p m i (shape_of p type.name) t)
      answer-among [] t (k, below, e) h = absurd (omega (arith, below))
      answer-among (x ∷ tokens) t (zero, below, e) h =
          subst (λ n. Each (Told p names) (answers_shape p m i (shape_of p type.name) n)) e (each-left (Told p names) (answers_shape p m i (shape_of p type.name) x) (answers_each p m i type.name tokens) h)
      answer-among (x ∷ tokens) t (suc k, below, e) h =
          answer-among tokens t (k, omega (arith, below), e) (each-right (Told p names) (answers_shape p m i (shape_of p type.name) x) (answers_each p m i type.name tokens) h)

      pub fresh-told : (j t : ℕ) → Leads p m i j → IsSlot p m j (OnStack under) → Contains (fresh_tokens p type) t → fits p t type.name ≡ true → Held p names m j (OnStack under) t
      fresh-told j t leads s listed fit =
          let one : Each (Told p names) (answers_shape p m i (shape_of p type.name) t) =
          answer-among (fresh_tokens p type) t listed (each-left (Told p names) (answers_each p m i type.name (fresh_tokens p type)) (fills_result p call.row.result type.name) new-told) in
          let there : Net p names (HasToken (Pushed m i) t) = (each-when (Told p names) (fits_shape p t (shape_of p type.name)) (gets (Pushed m i) t) fit one).0 (fresh-below p type t listed) in
          call-pushes p names whole right m i j under t call type r at has.has leads s there

      pub filled-told : (t : ℕ) → MakesResult call.row.result → Contains (bagged_tokens p type.name) t → Net p names (HasToken (Bag (rarr_token p)) t)
      filled-told t makes listed =
          each-unmap (Told p names) (Has (Bag (rarr_token p))) (bagged_tokens p type.name) t
          (each-when (Told p names) (makes_result call.row.result) (fills p (bagged_tokens p type.name)) (makes-told call.row.result makes)
          (each-right (Told p names) (answers_each p m i type.name (fresh_tokens p type)) (fills_result p call.row.result type.name) new-told)) listed (bagged-below p type.name t listed)

      -- a token that a link answers
      returned-told : (from : Cell) (t : ℕ) → Net p names (HasToken from t) → Net p names (ItHappens (Linked from (Return m i))) → fits p t type.name ≡ true → Net p names (HasToken (Pushed m i) t)
      returned-told from t h linked fit =
          let a : IsAt p m i = at-of p names whole right m i r in
          let all : Each (Told p names) (fits_result p m i t call.result) = of-op p names whole right m i at.height (Call call) a at.at (λ locals height op. answers p m i t op)
          (code-told (Told p names) p m i (λ method instr. answers p m i t instr.op) a.method a.instr a.found a.at (fires-told p names from (Return m i) t h linked)) in
          let passes : Each (Told p names) (passes_to p (Pushed m i) t type.name) = each-when (Told p names) (has_reference (Some type)) (passes_to p (Pushed m i) t type.name) (ap is_reference has.reference)
          (subst (λ (o : Option JavaType). Each (Told p names) (fits_result p m i t o)) has.has all) in
          (each-when (Told p names) (fits_shape p t (shape_of p type.name)) (gets (Pushed m i) t) fit passes).0 (below p names from t h)

      result-told : (k : ℕ) → k < arguments call → Each (Told p names) (answers_from m i k (argument_cell (row_at names m i) (locals_of (slice_get p.methods m)) at.height call k) call.row.result)
      result-told k lt =
          each-when (Told p names) (has_reference call.result) (answers_from m i k (argument_cell (row_at names m i) (locals_of (slice_get p.methods m)) at.height call k) call.row.result) (ap has_reference has.has ∙ ap is_reference has.reference)
          (each-right (Told p names) (source m i k (argument_cell (row_at names m i) (locals_of (slice_get p.methods m)) at.height call k) call) (result_from m i k (argument_cell (row_at names m i) (locals_of (slice_get p.methods m)) at.height call k) call)
          (argument-told k lt))

      pub argument-answered : (j t : ℕ) → Leads p m i j → IsSlot p m j (OnStack under) → call.row.result ≡ Argument → 0 < arguments call → fits p t type.name ≡ true
          → Net p names (HasToken (cell_in (row_at names m i) (slot_number p m (argument under 0))) t) → Held p names m j (OnStack under) t
      argument-answered j t leads s is some fit h =
          let here : Net p names (HasToken (argument_cell (row_at names m i) (locals_of (slice_get p.methods m)) at.height call 0) t) = argument-has p names whole right m i under 0 t call at h in
          let told : Each (Told p names) (link (argument_cell (row_at names m i) (locals_of (slice_get p.methods m)) at.height call 0) (Return m i)) =
          subst (λ result. Each (Told p names) (answers_from m i 0 (argument_cell (row_at names m i) (locals_of (slice_get p.methods m)) at.height call 0) result)) is (result-told 0 some) in
          let there : Net p names (HasToken (Pushed m i) t) =
          returned-told (argument_cell (row_at names m i) (locals_of (slice_get p.methods m)) at.height call 0) t here (linked p names whole right (argument_cell (row_at names m i) (locals_of (slice_get p.methods m)) at.height call 0) (Return m i) t here told) fit in
          call-pushes p names whole right m i j under t call type r at has.has leads s there

      lead-link : (k : ℕ) (from : Cell) (result : RowResult) → LeadsFrom call k result → Each (Told p names) (answers_from m i k from result) → Each (Told p names) (link from (Lead m i))
      lead-link k from Fresh leads_from h = absurd leads_from
      lead-link k from Argument leads_from h = absurd leads_from
      lead-link k from Member leads_from h = each-when (Told p names) (k == 0) (link from (Lead m i)) (eq-eqb k 0 leads_from.0) h
      lead-link k from Any leads_from h = h

      lead-below : (k : ℕ) (result : RowResult) → LeadsFrom call k result → k < arguments call
      lead-below k Fresh h = absurd h
      lead-below k Argument h = absurd h
      lead-below k Member h = h.1
      lead-below k Any h = h

      pub member-answered : (j k t u : ℕ) → Leads p m i j → IsSlot p m j (OnStack under) → LeadsFrom call k call.row.result → fits p u type.name ≡ true
          → Net p names (HasToken (cell_in (row_at names m i) (slot_number p m (argument under k))) t) → LeadsBy p (Net p names) t u → Held p names m j (OnStack under) u
      member-answered j k t u leads s leads_from fit h led =
          let here : Net p names (HasToken (argument_cell (row_at names m i) (locals_of (slice_get p.methods m)) at.height call k) t) = argument-has p names whole right m i under k t call at h in
          let told : Each (Told p names) (link (argument_cell (row_at names m i) (locals_of (slice_get p.methods m)) at.height call k) (Lead m i)) =
          lead-link k (argument_cell (row_at names m i) (locals_of (slice_get p.methods m)) at.height call k) call.row.result leads_from (result-told k (lead-below k call.row.result leads_from)) in
          let all = fired p names whole right (argument_cell (row_at names m i) (locals_of (slice_get p.methods m)) at.height call k) (Lead m i) t here told in
          let spans : Net p names (HasToken (Span t) u) = spans-told t u (below p names (argument_cell (row_at names m i) (locals_of (slice_get p.methods m)) at.height call k) t here) all.0 led in
          call-pushes p names whole right m i j under u call type r at has.has leads s (returned-told (Span t) u spans all.1.0 fit)
