-- What class sets and calls are about is there.
use Rattle.std.proofs.Common.{◌≡◌, inl, inr, ℕ, ◌<◌, true, ◌||◌, List, Option, Some, None, length, eqb, refl, subst, arith}
use Rattle.std.specs.Prelude.{All, slice_get}
use Rattle.std.proofs.lemmas.Bool.{eqb-true, or_cases}
use Rattle.std.proofs.lemmas.Option.{slice_get_within}
use Rattle.ja_ir.specs.declared.program.Parts.{Parts}
use Rattle.ja_ir.specs.declared.class.ClassInfo.{ClassInfo}
use Rattle.ja_ir.specs.declared.method.Method.{Method}
use Rattle.ja_ir.specs.declared.op.Op.{Op}
use Rattle.ja_ir.specs.declared.op.Op.TheVariants.{PutField, PutStatic}
use Rattle.ja_ir.specs.Lookup.{OpAt}
use Rattle.ja_ir.specs.Tokens.{lib_token, rarr_token, parr_token, absorbs, absorbs_as}
use Rattle.ja_ir.specs.Whole.{IsWhole, NamesAll, NamesOperands}
use Rattle.ja_facts.specs.Least.{Each, IsSolution}
use Rattle.ja_facts.proofs.LeastLaws.{Each-weaker, Least-is_solution, Least-below}
use Rattle.ja_facts.specs.Analyses.{Classes}
use Rattle.ja_facts.specs.ClassTables.{token_count}
use Rattle.ja_facts.specs.ClassSets as class_sets
use Rattle.ja_facts.specs.ClassSets.{Fact, Rule, Reached, InThrown, InOut, InField, InBag, CallsMethod, CallsAbstract, Takes, IsLibraryBag}
use Rattle.ja_facts.specs.Told.{IsCallAt}
use Rattle.ja_class_laws.proofs.Lists.{all-at}
use Rattle.ja_class_laws.proofs.Frames.{IsAt, instr-method, reached-at}
use Rattle.ja_classes.proofs.Targets.{Calls, CallsNone, selects-calls, selects-none, finds-calls, finds-none}

-- what each fact is about is there
abbrev pub Places : Parts → Fact → Type 0
Places p (InThrown m i t) = Classes p (Reached m i)
Places p (InOut m t) = m < length p.methods
Places p (InField f t) = f < length p.fields
Places p (InBag b t) = b < token_count p
Places p (CallsMethod m i n) = Calls p m i n
Places p (CallsAbstract m i n) = CallsNone p m i n
Places p (Takes m i b) = IsCallAt p m i × (absorbs p b ≡ true)
Places p f = Unit {0}

abbrev Placed : Parts → Fact → Type 0
Placed p f = Classes p f × Places p f

-- absorbing objects are of tokens
absorbing-as : (p : Parts) (b : ℕ) (class : Option ClassInfo) → slice_get p.classes b ≡ class → absorbs_as p b class ≡ true → b < token_count p
absorbing-as p b (Some class) found e = let lt = slice_get_within p.classes b class found in omega arith
absorbing-as p b None found e = elim (or_cases (eqb b (lib_token p)) (eqb b (rarr_token p) || eqb b (parr_token p)) e) [
  | inl is ↦ let same = eqb-true b (lib_token p) is in omega arith
  | inr rest ↦ elim (or_cases (eqb b (rarr_token p)) (eqb b (parr_token p)) rest) [
    | inl is ↦ let same = eqb-true b (rarr_token p) is in omega arith
    | inr is ↦ let same = eqb-true b (parr_token p) is in omega arith
  ]
]

pub absorbing-below : (p : Parts) (b : ℕ) → absorbs p b ≡ true → b < token_count p
absorbing-below p b e = absorbing-as p b (slice_get p.classes b) refl e

library-below : (p : Parts) (b : ℕ) → IsLibraryBag p b → b < token_count p
library-below p b (inl is) = omega arith
library-below p b (inr (inl is)) = omega arith
library-below p b (inr (inr is)) = omega arith

module _ (p : Parts) (whole : IsWhole p) where
  -- what an operation names is there
  operands : (m i height : ℕ) (op : Op) → OpAt p m i op height → NamesOperands p op
  operands m i height op at =
      let here = instr-method p m i at.instr at.found in
      let all : All (NamesAll p (length here.0.code)) here.0.code = all-at (λ (x : Method). All (NamesAll p (length x.code)) x.code) p.methods m here.0 whole.instructions here.1 in
      let one : NamesAll p (length here.0.code) at.instr = all-at (NamesAll p (length here.0.code)) here.0.code i at.instr all here.2 in
      subst (NamesOperands p) at.is_op one.operands

  places-solution : (ps : List Fact) (f : Fact) → Rule p ps f → Each (Placed p) ps → Places p f
  places-solution _ _ (class_sets.env_object entry objects) each = tt
  places-solution _ _ (class_sets.env_fresh entry method k t type is has fresh) each = tt
  places-solution _ _ (class_sets.initializer_runs r) each = tt
  places-solution _ _ (class_sets.constructor_runs entry objects is) each = tt
  places-solution _ _ (class_sets.entry_runs entry listed) each = tt
  places-solution _ _ (class_sets.constructor_receives entry objects is) each = tt
  places-solution _ _ (class_sets.entry_receives entry objects) each = tt
  places-solution _ _ (class_sets.entry_takes entry method k type is has reference fits) each = tt
  places-solution _ _ (class_sets.env_bag {b} {t} bag) each = library-below p b bag
  places-solution _ _ (class_sets.next_reached leads) each = tt
  places-solution _ _ (class_sets.initializes init) each = tt
  places-solution _ _ (class_sets.begins method found) each = tt
  places-solution _ _ (class_sets.moved at leads copies passes) each = tt
  places-solution _ _ (class_sets.text_made at leads) each = tt
  places-solution _ _ (class_sets.made at leads can) each = tt
  places-solution _ _ (class_sets.array_made at leads lies outer) each = tt
  places-solution _ _ (class_sets.array_filled at inner) each = omega arith
  places-solution _ _ (class_sets.got at leads) each = tt
  places-solution _ _ (class_sets.got_static at leads) each = tt
  places-solution _ _ (class_sets.put {m} {i} {f} {t} {k} at) each = operands m i _ (PutField (record { 0 = f })) at
  places-solution _ _ (class_sets.put_static {m} {i} {f} {t} {k} at) each = operands m i _ (PutStatic (record { 0 = f })) at
  places-solution _ _ (class_sets.text_field {f} field found text) each = slice_get_within p.fields f field found
  places-solution _ _ (class_sets.element_got at leads) each = tt
  places-solution _ _ (class_sets.element_put at) each = omega arith
  places-solution _ _ (class_sets.throws_library at throws) each = each.0.0
  places-solution _ _ (class_sets.throws at) each = each.0.0
  places-solution _ _ (class_sets.handler_reached inside) each = tt
  places-solution _ _ (class_sets.handled inside) each = tt
  places-solution _ _ (class_sets.handler_keeps inside) each = tt
  places-solution _ _ (class_sets.thrown_out {m} {i} {t} out) each = let a : IsAt p m i = reached-at p whole m i each.0.0 in slice_get_within p.methods m a.method a.found
  places-solution _ _ (class_sets.found_method {m} {i} {n} {under} {call} method at finds found can) each = finds-calls p whole m i n under call method at finds found can
  places-solution _ _ (class_sets.found_abstract {m} {i} {n} {under} {call} method at finds found can) each = finds-none p whole m i n under call method at finds found can
  places-solution _ _ (class_sets.found_library at finds) each = tt
  places-solution _ _ (class_sets.selects_method {m} {i} {n} {under} {t} {call} at dispatched goes) each = selects-calls p whole m i n under t call at dispatched goes
  places-solution _ _ (class_sets.selects_abstract {m} {i} {n} {under} {t} {call} at dispatched goes) each = selects-none p whole m i n under t call at dispatched goes
  places-solution _ _ (class_sets.selects_library at dispatched goes) each = tt
  places-solution _ _ class_sets.callee_reached each = tt
  places-solution _ _ (class_sets.receives at dispatched goes) each = tt
  places-solution _ _ (class_sets.hands at lt other) each = tt
  places-solution _ _ (class_sets.returned at) each = tt
  places-solution _ _ (class_sets.answered at leads) each = tt
  places-solution _ _ class_sets.callee_throws each = each.0.0
  places-solution _ _ (class_sets.null_receiver at receiver) each = each.0.0
  places-solution _ _ class_sets.abstract_throws each = each.0.0
  places-solution _ _ class_sets.library_throws each = each.0.0
  places-solution _ _ class_sets.spans_itself each = tt
  places-solution _ _ (class_sets.spans_field f has) each = tt
  places-solution _ _ (class_sets.spans_bag absorbing) each = tt
  places-solution _ _ (class_sets.taker {call = call} k at source absorbing) each = (record { call = call; height = at.height; at = at.at }, absorbing)
  places-solution _ _ (class_sets.taken {m} {i} {under} {k} {b} {t} at lt) each = absorbing-below p b each.1.0.1.1
  places-solution _ _ (class_sets.library_fresh at leads has fresh fits) each = tt
  places-solution _ _ (class_sets.library_filled at has makes bagged) each = omega arith
  places-solution _ _ (class_sets.library_argument at leads has is some fits) each = tt
  places-solution _ _ (class_sets.library_member k at leads has from fits) each = tt

  solution : IsSolution (Rule p) (Placed p)
  solution ps f rule each = (Least-is_solution (Rule p) ps f rule (Each-weaker (Placed p) (Classes p) (λ g b. b.0) ps each), places-solution ps f rule each)

  pub places : (f : Fact) → Classes p f → Places p f
  places f c = (Least-below (Rule p) (Placed p) solution f c).1
