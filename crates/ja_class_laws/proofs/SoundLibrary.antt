-- What a call of the library throws, changes and answers: what is told of it is meant.
use Rattle.std.proofs.Common.{◌≡◌, ℕ, ◌-◌, ◌<◌, ◌==◌, true, List, [], ◌∷◌, ◌++◌, Option, Some, None, refl, sym, ap, subst, ◌∙◌, arith, true≢false}
use Rattle.std.specs.Prelude.{Contains, slice_get}
use Rattle.std.proofs.lemmas.Bool.{and_parts, eqb-true}
use Rattle.std.proofs.lemmas.Option.{same_Some}
use Rattle.ja_base.specs.declared.java_type.Kind.{Kind}
use Rattle.ja_base.specs.declared.java_type.Kind.TheVariants.{P1, P2, R, T}
use Rattle.ja_base.specs.declared.java_type.JavaType.{JavaType}
use Rattle.ja_ir.specs.declared.program.Parts.{Parts}
use Rattle.ja_ir.specs.declared.method.Method.{Method}
use Rattle.ja_ir.specs.declared.method.Instr.{Instr}
use Rattle.ja_ir.specs.declared.row.RowEffect.{RowEffect}
use Rattle.ja_ir.specs.declared.row.RowEffect.TheVariants.{Quiet, Absorb, Blend}
use Rattle.ja_ir.specs.declared.row.RowResult.{RowResult}
use Rattle.ja_ir.specs.declared.row.RowResult.TheVariants.{Fresh, Argument, Member, Any}
use Rattle.ja_ir.specs.declared.op.CallOp.{CallOp}
use Rattle.ja_ir.specs.declared.op.Op.{Op}
use Rattle.ja_ir.specs.declared.op.Op.TheVariants.{Call}
use Rattle.ja_ir.specs.Operations.{arguments, has_receiver}
use Rattle.ja_ir.specs.Tokens.{fits, fits_shape, shape_of, rarr_token, lib_token, fresh_tokens, bagged_tokens}
use Rattle.ja_ir.specs.Whole.{IsWhole}
use Rattle.ja_facts.specs.Least.{Each}
use Rattle.ja_facts.proofs.LeastLaws.{Least-is_solution}
use Rattle.ja_facts.specs.Analyses.{Classes}
use Rattle.ja_facts.specs.Slots.{OnStack, CallAt, argument}
use Rattle.ja_facts.specs.ClassSets as class_sets
use Rattle.ja_facts.specs.ClassSets.{Fact as ClassFact, Rule as ClassRule, InSlot, InThrown, InBag, Spans, Takes, HasReference, IsSource, LeadsFrom, MakesResult}
use Rattle.ja_network.specs.declared.cell.Cell.TheVariants.{Bag, Pushed}
use Rattle.ja_network.specs.declared.cell.Action.TheVariants.{Return, Source, Lead}
use Rattle.ja_cells.specs.Names.{Names, AreNames, row_at}
use Rattle.ja_constraints.specs.declared.constraint.Constraint.TheVariants.{Has}
use Rattle.ja_constraints.specs.Links.{link, gets}
use Rattle.ja_constraints.specs.Places.{argument_cell}
use Rattle.ja_constraints.specs.LibraryCalls.{is_source, source, answers_from, is_reference, has_reference, result_from, argument_does, arguments_do, answers_shape, answers_each, fills, makes_result, fills_result, makes_new, does_there}
use Rattle.ja_constraints.specs.Events.{done_there, called_library}
use Rattle.ja_class_laws.proofs.Lists.{each-append, each-if, each-map, each-over, each-code, first-in, later-in}
use Rattle.ja_class_laws.proofs.Meaning.{MeansToken, Good}
use Rattle.ja_class_laws.proofs.Frames.{same-call}
use Rattle.ja_class_laws.proofs.InSlots.{call-there, good-argument}
use Rattle.ja_class_laws.proofs.SoundCalls.{pushed-by, still-reached}

-- tests answer the relations
pub is-source : (call : CallOp) (k : ℕ) (effect : RowEffect) → k < arguments call → is_source call.kind k effect ≡ true → IsSource call k effect
is-source call k Quiet lt e = absurd (true≢false (sym e))
is-source call k Absorb lt e = let both = and_parts (has_receiver call.kind) (k == 0) e in (both.0, eqb-true k 0 both.1)
is-source call k Blend lt e = lt

pub is-reference : (kind : Kind) → is_reference kind ≡ true → kind ≡ R
is-reference R e = refl
is-reference P1 e = absurd (true≢false (sym e))
is-reference P2 e = absurd (true≢false (sym e))
is-reference T e = absurd (true≢false (sym e))

pub referred : (call : CallOp) → has_reference call.result ≡ true → (type : JavaType) × HasReference call type
referred call e = by call.result refl e
  where
    by : (o : Option JavaType) → call.result ≡ o → has_reference o ≡ true → (type : JavaType) × HasReference call type
    by None is f = absurd (true≢false (sym f))
    by (Some type) is f = (type, record { has = is; reference = is-reference type.kind f })

pub makes-result : (result : RowResult) → makes_result result ≡ true → MakesResult result
makes-result Argument e = absurd (true≢false (sym e))
makes-result Fresh e = tt
makes-result Member e = tt
makes-result Any e = tt

-- a call has one result
pub same-type : (c d : CallOp) (s t : JavaType) → c ≡ d → HasReference c s → HasReference d t → s ≡ t
same-type c d s t e one other = same_Some s t (sym one.has ∙ ap (λ (x : CallOp). x.result) e ∙ other.has)

module _ (p : Parts) (names : Names) (whole : IsWhole p) (right : AreNames p names) (m i : ℕ) (reached : Classes p (class_sets.Reached m i)) (goes : Classes p (class_sets.CallsLibrary m i)) where
  close : (ps : List ClassFact) (f : ClassFact) → ClassRule p ps f → Each (Classes p) ps → Classes p f
  close = Least-is_solution (ClassRule p)

  module _ (method : Method) (instr : Instr) (found : slice_get p.methods m ≡ Some method) (at_code : slice_get method.code i ≡ Some instr) (call : CallOp) (at : CallAt p m i call (instr.height - arguments call)) where
    -- what takes the arguments
    good-source : (k : ℕ) → k < arguments call → Each (Good p) (source m i k (argument_cell (row_at names m i) method.locals instr.height call k) call)
    good-source k lt = each-if (Good p) (is_source call.kind k call.row.effect) (link (argument_cell (row_at names m i) method.locals instr.height call k) (Source m i)) (λ e.
        good-argument p names whole right m i method found reached instr.height k call (Source m i) (λ t h b spans absorbing.
        close (class_sets.Reached m i ∷ class_sets.CallsLibrary m i ∷ InSlot m i (argument (instr.height - arguments call) k) t ∷ Spans t b ∷ []) (Takes m i b) (class_sets.taker k at (is-source call k call.row.effect lt e) absorbing)
        (reached, (goes, (h, (spans, tt))))))

    -- a result that is an argument
    by-argument : (k : ℕ) → k < arguments call → (type : JavaType) → HasReference call type → call.row.result ≡ Argument → k ≡ 0 → Each (Good p) (link (argument_cell (row_at names m i) method.locals instr.height call k) (Return m i))
    by-argument k lt type has is zero_k = good-argument p names whole right m i method found reached instr.height k call (Return m i) answer
      where
        answer : (t : ℕ) → Classes p (InSlot m i (argument (instr.height - arguments call) k) t) → (under : ℕ) (other : CallOp) (other_type : JavaType) → CallAt p m i other under → HasReference other other_type
            → fits p t other_type.name ≡ true → MeansToken p (Pushed m i) t
        answer t h under other other_type other_at other_has fit =
            let same = same-call p m i call other (instr.height - arguments call) under at other_at in
            let types : type ≡ other_type = same-type call other type other_type same.0 has other_has in
            let fit_type : fits p t type.name ≡ true = subst (λ (x : JavaType). fits p t x.name ≡ true) (sym types) fit in
            let first : Classes p (InSlot m i (argument (instr.height - arguments call) 0) t) = subst (λ n. Classes p (InSlot m i (argument (instr.height - arguments call) n) t)) zero_k h in
            pushed-by p m i t (instr.height - arguments call) call at (λ j leads.
            close (class_sets.Reached m i ∷ class_sets.CallsLibrary m i ∷ InSlot m i (argument (instr.height - arguments call) 0) t ∷ []) (InSlot m j (OnStack (instr.height - arguments call)) t)
            (class_sets.library_argument at leads has is (omega arith) fit_type) (reached, (goes, (first, tt))))

    -- a result that an argument leads to
    by-lead : (k : ℕ) (type : JavaType) → HasReference call type → LeadsFrom call k call.row.result → Each (Good p) (link (argument_cell (row_at names m i) method.locals instr.height call k) (Lead m i))
    by-lead k type has leads_from = good-argument p names whole right m i method found reached instr.height k call (Lead m i) answer
      where
        answer : (t : ℕ) → Classes p (InSlot m i (argument (instr.height - arguments call) k) t) → (u under : ℕ) (other : CallOp) (other_type : JavaType) → Classes p (Spans t u) → CallAt p m i other under
            → HasReference other other_type → fits p u other_type.name ≡ true → MeansToken p (Pushed m i) u
        answer t h u under other other_type spans other_at other_has fit =
            let same = same-call p m i call other (instr.height - arguments call) under at other_at in
            let types : type ≡ other_type = same-type call other type other_type same.0 has other_has in
            let fit_type : fits p u type.name ≡ true = subst (λ (x : JavaType). fits p u x.name ≡ true) (sym types) fit in
            pushed-by p m i u (instr.height - arguments call) call at (λ j leads.
            close (class_sets.Reached m i ∷ class_sets.CallsLibrary m i ∷ InSlot m i (argument (instr.height - arguments call) k) t ∷ Spans t u ∷ []) (InSlot m j (OnStack (instr.height - arguments call)) u)
            (class_sets.library_member k at leads has leads_from fit_type) (reached, (goes, (h, (spans, tt)))))

    good-answers : (k : ℕ) → k < arguments call → (type : JavaType) → HasReference call type → (result : RowResult) → call.row.result ≡ result
        → Each (Good p) (answers_from m i k (argument_cell (row_at names m i) method.locals instr.height call k) result)
    good-answers k lt type has Fresh is = tt
    good-answers k lt type has Argument is = each-if (Good p) (k == 0) (link (argument_cell (row_at names m i) method.locals instr.height call k) (Return m i)) (λ e. by-argument k lt type has is (eqb-true k 0 e))
    good-answers k lt type has Member is = each-if (Good p) (k == 0) (link (argument_cell (row_at names m i) method.locals instr.height call k) (Lead m i))
        (λ e. by-lead k type has (subst (LeadsFrom call k) (sym is) (eqb-true k 0 e, lt)))
    good-answers k lt type has Any is = by-lead k type has (subst (LeadsFrom call k) (sym is) lt)

    good-argument-does : (k : ℕ) → k < arguments call → Each (Good p) (argument_does m i k (argument_cell (row_at names m i) method.locals instr.height call k) call)
    good-argument-does k lt =
        each-append (Good p) (source m i k (argument_cell (row_at names m i) method.locals instr.height call k) call) (result_from m i k (argument_cell (row_at names m i) method.locals instr.height call k) call) (good-source k lt)
        (each-if (Good p) (has_reference call.result) (answers_from m i k (argument_cell (row_at names m i) method.locals instr.height call k) call.row.result)
        (λ e. let r = referred call e in good-answers k lt r.0 r.1 call.row.result refl))

    -- a result that is new
    answered : (type : JavaType) → HasReference call type → (tokens : List ℕ) → ((t : ℕ) → Contains tokens t → Contains (fresh_tokens p type) t) → Each (Good p) (answers_each p m i type.name tokens)
    answered type has [] h = tt
    answered type has (token ∷ tokens) h =
        each-append (Good p) (answers_shape p m i (shape_of p type.name) token) (answers_each p m i type.name tokens)
        (each-if (Good p) (fits_shape p token (shape_of p type.name)) (gets (Pushed m i) token) (λ fit. (
          pushed-by p m i token (instr.height - arguments call) call at (λ j leads.
              close (class_sets.Reached m i ∷ class_sets.CallsLibrary m i ∷ []) (InSlot m j (OnStack (instr.height - arguments call)) token) (class_sets.library_fresh at leads has (h token (first-in token tokens)) fit) (reached, (goes, tt))),
          tt,
        )))
        (answered type has tokens (λ t c. h t (later-in token tokens t c)))

    good-makes : (o : Option JavaType) → call.result ≡ o → Each (Good p) (makes_new p m i call.row.result o)
    good-makes None is = tt
    good-makes (Some type) is = each-if (Good p) (is_reference type.kind) (answers_each p m i type.name (fresh_tokens p type) ++ fills_result p call.row.result type.name) (λ e.
        let has : HasReference call type = record { has = is; reference = is-reference type.kind e } in
        each-append (Good p) (answers_each p m i type.name (fresh_tokens p type)) (fills_result p call.row.result type.name) (answered type has (fresh_tokens p type) (λ t c. c))
        (each-if (Good p) (makes_result call.row.result) (fills p (bagged_tokens p type.name)) (λ makes. each-map (Good p) (Has (Bag (rarr_token p))) (bagged_tokens p type.name) (λ t bagged.
        close (class_sets.Reached m i ∷ class_sets.CallsLibrary m i ∷ []) (InBag (rarr_token p) t) (class_sets.library_filled at has (makes-result call.row.result makes) bagged) (reached, (goes, tt))))))

    good-call : Each (Good p) (arguments_do m i (row_at names m i) method.locals instr.height call ++ makes_new p m i call.row.result call.result)
    good-call =
        each-append (Good p) (arguments_do m i (row_at names m i) method.locals instr.height call) (makes_new p m i call.row.result call.result)
        (each-over (Good p) (λ k. argument_does m i k (argument_cell (row_at names m i) method.locals instr.height call k) call) 0 (arguments call) (λ k le lt. good-argument-does k (omega arith)))
        (good-makes call.result refl)

  good-there : (method : Method) (instr : Instr) → slice_get p.methods m ≡ Some method → slice_get method.code i ≡ Some instr → (op : Op) → instr.op ≡ op → Each (Good p) (does_there p m i (row_at names m i) method.locals instr.height op)
  good-there method instr found at (Call call) is = good-call method instr found at call (call-there p m i method instr call whole found at (still-reached p m i method instr whole found at reached) is)
  good-there method instr found at op is = tt

  pub library-sound : Each (Good p) (called_library p names m i)
  library-sound =
      let throws : Classes p (InThrown m i (lib_token p)) = close (class_sets.Reached m i ∷ class_sets.CallsLibrary m i ∷ []) (InThrown m i (lib_token p)) class_sets.library_throws (reached, (goes, tt)) in
      let rest : Each (Good p) (done_there p names m i) = each-code (Good p) p m i (λ method instr. does_there p m i (row_at names m i) method.locals instr.height instr.op) (λ method instr found at. good-there method instr found at instr.op refl) in
      (throws, ((λ t h. (reached, h)), rest))
