-- What an instruction does and throws: what is told of it is meant.
use Rattle.std.proofs.Common.{◌≡◌, ℕ, zero, suc, ◌+◌, ◌-◌, ◌≤◌, true, List, [], ◌∷◌, Some, None, refl, sym, ap, subst, arith}
use Rattle.std.specs.Prelude.{slice_get, if◌then◌else◌}
use Rattle.ja_base.specs.declared.java_type.Kind.{Kind}
use Rattle.ja_base.specs.declared.java_type.Kind.TheVariants.{P1, P2, R, T}
use Rattle.ja_ir.specs.declared.program.Parts.{Parts}
use Rattle.ja_ir.specs.declared.method.Method.{Method}
use Rattle.ja_ir.specs.declared.method.Instr.{Instr}
use Rattle.ja_ir.specs.declared.op.Op.{Op}
use Rattle.ja_ir.specs.declared.op.Op.TheVariants.{Text, New, ArrStore, Return, PutStatic, PutField, NewArray, Throw, Cast}
use Rattle.ja_ir.specs.Lookup.{OpAt, Leads}
use Rattle.ja_ir.specs.Operations.{pops, FindsOperands}
use Rattle.ja_ir.specs.Tokens.{fits, lib_token, rarr_token}
use Rattle.ja_ir.specs.Whole.{IsWhole}
use Rattle.ja_facts.specs.Least.{Each}
use Rattle.ja_facts.proofs.LeastLaws.{Least-is_solution}
use Rattle.ja_facts.specs.Analyses.{Classes}
use Rattle.ja_facts.specs.ClassTables.{throws_some}
use Rattle.ja_facts.specs.Slots.{OnStack, checked}
use Rattle.ja_facts.specs.ClassSets as class_sets
use Rattle.ja_facts.specs.ClassSets.{Fact as ClassFact, Rule as ClassRule, InSlot, InThrown, InField, InBag, InResult, ThrowsLibrary}
use Rattle.ja_network.specs.declared.cell.Cell.TheVariants.{Field, Bag, Answer, Thrown}
use Rattle.ja_network.specs.declared.cell.Action.{Action}
use Rattle.ja_network.specs.declared.cell.Action.TheVariants.{Copy, Check}
use Rattle.ja_network.specs.declared.cell.Action.TheVariants.{Throw as Throws}
use Rattle.ja_cells.specs.Names.{Names, AreNames, row_at}
use Rattle.ja_cells.specs.Rows.{is_made}
use Rattle.ja_constraints.specs.Links.{link, throws_library}
use Rattle.ja_constraints.specs.Places.{top_cell}
use Rattle.ja_constraints.specs.Operations.{does, makes, fills_array, may_throw_library, raises_library, raises}
use Rattle.ja_class_laws.proofs.Lists.{each-append, each-if}
use Rattle.ja_class_laws.proofs.Meaning.{MeansDone, Good}
use Rattle.ja_class_laws.proofs.Frames.{IsAt, instr-found, same-op, runs}
use Rattle.ja_class_laws.proofs.InSlots.{good-top}

library-throws : (op : Op) → may_throw_library op ≡ true → ThrowsLibrary op
library-throws Throw e = tt
library-throws op e = e

name-is : (c d : List ℕ) → Cast c ≡ Cast d → c ≡ d
name-is c d e = cc e

module _ (p : Parts) (names : Names) (whole : IsWhole p) (right : AreNames p names) (m i : ℕ) (method : Method) (instr : Instr) (found : slice_get p.methods m ≡ Some method) (at : slice_get method.code i ≡ Some instr)
    (is_reached : instr.reached ≡ true) (reached : Classes p (class_sets.Reached m i)) where
  close : (ps : List ClassFact) (f : ClassFact) → ClassRule p ps f → Each (Classes p) ps → Classes p f
  close = Least-is_solution (ClassRule p)

  op-here : (op : Op) → instr.op ≡ op → OpAt p m i op instr.height
  op-here op is = record { instr = instr; found = instr-found p m i method instr found at; is_op = is; is_height = refl }

  -- ---- what it throws

  pub raises-sound : Each (Good p) (raises p m i instr.op)
  raises-sound =
      let library : Each (Good p) (raises_library p m i (may_throw_library instr.op)) = each-if (Good p) (may_throw_library instr.op) (throws_library p m i)
      (λ e. (close (class_sets.Reached m i ∷ []) (InThrown m i (lib_token p)) (class_sets.throws_library (op-here instr.op refl) (library-throws instr.op e)) (reached, tt), tt)) in
      let thrown : Each (Good p) (if throws_some instr.op then link (Thrown m i) (Throws m i) else []) = each-if (Good p) (throws_some instr.op) (link (Thrown m i) (Throws m i)) (λ e. ((λ t h. (reached, h)), tt)) in
      each-append (Good p) (raises_library p m i (may_throw_library instr.op)) (if throws_some instr.op then link (Thrown m i) (Throws m i) else []) library thrown

  -- ---- what it does

  top : (a : Action) → ((k t : ℕ) → instr.height ≡ suc k → Classes p (InSlot m i (OnStack k) t) → MeansDone p a t) → Each (Good p) (link (top_cell (row_at names m i) method.locals instr.height) a)
  top = good-top p names whole right m i method found reached instr.height

  -- at this height
  at-height : (op : Op) (height : ℕ) → instr.op ≡ op → instr.height ≡ height → OpAt p m i op height
  at-height op height is e = subst (OpAt p m i op) e (op-here op is)

  enough : (op : Op) → instr.op ≡ op → FindsOperands op instr.height
  enough op is = let a : IsAt p m i = record { method = method; instr = instr; found = found; at = at; reached = is_reached } in subst (λ o. FindsOperands o instr.height) is (runs p whole m i a).operands

  filled : (last dimensions : ℕ) → instr.op ≡ NewArray (record { 0 = last }) dimensions → Each (Good p) (fills_array p last dimensions)
  filled last zero is = tt
  filled last (suc zero) is = tt
  filled last (suc (suc zero)) is = (close (class_sets.Reached m i ∷ []) (InBag (rarr_token p) last) (class_sets.array_filled (op-here _ is) (class_sets.innermost (omega arith))) (reached, tt), tt)
  filled last (suc (suc (suc n))) is =
      let one : Classes p (InBag (rarr_token p) last) = close (class_sets.Reached m i ∷ []) (InBag (rarr_token p) last) (class_sets.array_filled (op-here _ is) (class_sets.innermost (omega arith))) (reached, tt) in
      let two : Classes p (InBag (rarr_token p) (rarr_token p)) = close (class_sets.Reached m i ∷ []) (InBag (rarr_token p) (rarr_token p)) (class_sets.array_filled (op-here _ is) (class_sets.between (omega arith))) (reached, tt) in
      (one, (two, tt))

  cast : (name : List ℕ) → instr.op ≡ Cast name → (k t : ℕ) → instr.height ≡ suc k → Classes p (InSlot m i (OnStack k) t) → (other : List ℕ) (height : ℕ) → OpAt p m i (Cast other) height → fits p t other ≡ true
      → (j above under : ℕ) (op : Op) → OpAt p m i op above → above ≡ under + pops op → Leads p m i j → Classes p (InSlot m j (OnStack under) t)
  cast name is k t high h other height at_other fit j above under op to lies leads =
      let here : OpAt p m i (Cast name) (suc k) = at-height (Cast name) (suc k) is high in
      let casts = same-op p m i (Cast other) (Cast name) height (suc k) at_other here in
      let fits_name : fits p t name ≡ true = subst (λ (x : List ℕ). fits p t x ≡ true) (name-is other name casts.0) fit in
      let same = same-op p m i op (Cast name) above (suc k) to here in
      let place : under ≡ k = let pop : pops op ≡ 1 = ap pops same.0 in let up : above ≡ suc k = same.1 in omega arith in
      subst (λ n. Classes p (InSlot m j (OnStack n) t)) (sym place)
      (close (class_sets.Reached m i ∷ InSlot m i (OnStack k) t ∷ []) (InSlot m j (OnStack k) t) (class_sets.moved here leads (checked refl) (λ e. fits_name)) (reached, (h, tt)))

  put : (f k t : ℕ) → instr.op ≡ PutField (record { 0 = f }) → instr.height ≡ suc k → Classes p (InSlot m i (OnStack k) t) → Classes p (InField f t)
  put f k t is high h =
      let two : 2 ≤ instr.height = enough (PutField (record { 0 = f })) is in
      let up : instr.height ≡ suc (suc (k - 1)) = omega arith in
      let place : k ≡ suc (k - 1) = omega arith in
      close (class_sets.Reached m i ∷ InSlot m i (OnStack (suc (k - 1))) t ∷ []) (InField f t) (class_sets.put (at-height _ (suc (suc (k - 1))) is up)) (reached, (subst (λ n. Classes p (InSlot m i (OnStack n) t)) place h, tt))

  put_static : (f k t : ℕ) → instr.op ≡ PutStatic (record { 0 = f }) → instr.height ≡ suc k → Classes p (InSlot m i (OnStack k) t) → Classes p (InField f t)
  put_static f k t is high h = close (class_sets.Reached m i ∷ InSlot m i (OnStack k) t ∷ []) (InField f t) (class_sets.put_static (at-height _ (suc k) is high)) (reached, (h, tt))

  element_put : (k t : ℕ) → instr.op ≡ ArrStore R → instr.height ≡ suc k → Classes p (InSlot m i (OnStack k) t) → Classes p (InBag (rarr_token p) t)
  element_put k t is high h =
      let three : 3 ≤ instr.height = enough (ArrStore R) is in
      let up : instr.height ≡ suc (suc (suc (k - 2))) = omega arith in
      let place : k ≡ suc (suc (k - 2)) = omega arith in
      close (class_sets.Reached m i ∷ InSlot m i (OnStack (suc (suc (k - 2)))) t ∷ []) (InBag (rarr_token p) t) (class_sets.element_put (at-height _ (suc (suc (suc (k - 2)))) is up))
      (reached, (subst (λ n. Classes p (InSlot m i (OnStack n) t)) place h, tt))

  threw : (k t : ℕ) → instr.op ≡ Throw → instr.height ≡ suc k → Classes p (InSlot m i (OnStack k) t) → Classes p (InThrown m i t)
  threw k t is high h = close (class_sets.Reached m i ∷ InSlot m i (OnStack k) t ∷ []) (InThrown m i t) (class_sets.throws (at-height _ (suc k) is high)) (reached, (h, tt))

  returned : (kind : Kind) (k t : ℕ) → instr.op ≡ Return (Some kind) → instr.height ≡ suc k → Classes p (InSlot m i (OnStack k) t) → Classes p (InResult m t)
  returned kind k t is high h = close (class_sets.Reached m i ∷ InSlot m i (OnStack k) t ∷ []) (InResult m t) (class_sets.returned (at-height _ (suc k) is high)) (reached, (h, tt))

  good-does : (op : Op) → instr.op ≡ op → Each (Good p) (does p m i (top_cell (row_at names m i) method.locals instr.height) op)
  good-does Text is = (refl, tt)
  good-does (New token) is = each-if (Good p) (is_made (slice_get p.classes token.0)) (makes token.0) (λ e. (refl, tt))
  good-does (NewArray last dimensions) is = (refl, filled last.0 dimensions is)
  good-does (ArrStore P1) is = tt
  good-does (ArrStore P2) is = tt
  good-does (ArrStore T) is = tt
  good-does (ArrStore R) is = top (Copy (Bag (rarr_token p))) (λ k t high h. element_put k t is high h)
  good-does (PutField field) is = top (Copy (Field field.0)) (λ k t high h. put field.0 k t is high h)
  good-does (PutStatic field) is = top (Copy (Field field.0)) (λ k t high h. put_static field.0 k t is high h)
  good-does (Cast name) is = top (Check m i) (λ k t high h. cast name is k t high h)
  good-does Throw is = top (Copy (Thrown m i)) (λ k t high h. threw k t is high h)
  good-does (Return (Some kind)) is = top (Copy (Answer m)) (λ k t high h. returned kind k t is high h)
  good-does (Return None) is = tt
  good-does op is = tt

  pub does-sound : Each (Good p) (does p m i (top_cell (row_at names m i) method.locals instr.height) instr.op)
  does-sound = good-does instr.op refl
