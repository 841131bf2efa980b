-- The clauses of the ends of an instruction hold exactly where the definitions of its ends do.
use Rattle.std.proofs.Common.{◌≡◌, ◌∙◌, ◌-◌, ℕ, Some, Bool, true, false, refl, sym, ap, subst}
use Rattle.std.specs.Prelude.{◌||◌}
use Rattle.ja_ir.specs.declared.program.Parts.{Parts}
use Rattle.ja_ir.specs.declared.method.Instr.{Instr}
use Rattle.ja_ir.specs.declared.op.Op.{Op}
use Rattle.ja_ir.specs.declared.op.Op.TheVariants.{PutField, ArrStore, Call, Return, Throw}
use Rattle.ja_ir.specs.Lookup.{instr_at}
use Rattle.ja_ir.specs.Operations.{arguments, ends_method, FindsOperands}
use Rattle.ja_facts.specs.Slots.{Slot, Local as InLocal, OnStack as InStack}
use Rattle.ja_facts.specs.Analyses.{Analyses}
use Rattle.ja_facts.specs.Formulas as formula
use Rattle.ja_facts.specs.Formulas.{Assignment, any_stacked, IsLibraryPart, Turns, IsNormalEnd, IsExceptionalEnd, Throws}
use Rattle.ja_work.specs.declared.clause.Spot.TheVariants.{Local, OnStack, Dirt, Exc}
use Rattle.ja_work.specs.declared.way.Way.{Way}
use Rattle.ja_work.specs.Clauses.{fits, AllFit}
use Rattle.ja_work.specs.Ends.{Tests, AreTests, may_go_on, normal_clauses, dirt_after, may_end, exceptional_clauses}
use Rattle.ja_work.proofs.Fitting.{exact_fits, fits_exact, moved_fits, fits_moved, any_one}
use Rattle.ja_work.proofs.NormalEnds.{turns_fit, normal_turns}
use Rattle.ja_work.proofs.OtherEnds.{dirt_fits, fits_dirt, throws_fit, fit_throws}

module _ (b : Assignment) where
  -- whether something was stored after a normal end
  stored_fits : (op : Op) (height : ℕ) (t : Bool) → t ≡ formula.dirt_after op height b → fits (dirt_after op height) b t ≡ true
  stored_fits (PutField f) height t e = exact_fits (b.dirt || any_stacked b (height - 1) 1) t (e ∙ sym (ap (λ p. b.dirt || p) (any_one b (height - 1))))
  stored_fits (ArrStore kind) height t e = exact_fits (b.dirt || any_stacked b (height - 1) 1) t (e ∙ sym (ap (λ p. b.dirt || p) (any_one b (height - 1))))
  stored_fits (Call call) height t e = dirt_fits b (height - arguments call) call t e
  stored_fits op height t e = moved_fits b Dirt t e

  fits_stored : (op : Op) (height : ℕ) (t : Bool) → fits (dirt_after op height) b t ≡ true → t ≡ formula.dirt_after op height b
  fits_stored (PutField f) height t g = fits_exact (b.dirt || any_stacked b (height - 1) 1) t g ∙ ap (λ p. b.dirt || p) (any_one b (height - 1))
  fits_stored (ArrStore kind) height t g = fits_exact (b.dirt || any_stacked b (height - 1) 1) t g ∙ ap (λ p. b.dirt || p) (any_one b (height - 1))
  fits_stored (Call call) height t g = fits_dirt b (height - arguments call) call t g
  fits_stored op height t g = fits_moved b Dirt t g

module _ (p : Parts) (A : Analyses) (m i : ℕ) (instr : Instr) (tests : Tests) (b after : Assignment) (found : instr_at p m i ≡ Some instr) (finds : FindsOperands instr.op instr.height) (told : AreTests A m i tests) where
  same_instr : (other : Instr) → instr_at p m i ≡ Some other → other ≡ instr
  same_instr other is = let both : Some other ≡ Some instr = sym is ∙ found in cc both

  goes : (op : Op) → ends_method op ≡ false → IsLibraryPart A m i op → may_go_on tests op ≡ true
  goes (Return kind) e part = sym e
  goes Throw e part = sym e
  goes (Call call) e part = told.library.1 part
  goes op e part = refl

  ends : (op : Op) → may_go_on tests op ≡ true → ends_method op ≡ false
  ends (Return kind) e = sym e
  ends Throw e = sym e
  ends (Call call) e = refl
  ends op e = refl

  library : (op : Op) → may_go_on tests op ≡ true → IsLibraryPart A m i op
  library (Call call) e = told.library.0 e
  library op e = tt

  fit_all : (op : Op) (height : ℕ) → FindsOperands op height → ((y : Slot) → Turns A m i b op height y (after.slot y)) → after.dirt ≡ formula.dirt_after op height b → after.exc ≡ b.exc
      → AllFit (normal_clauses tests op height) b after
  fit_all op height finds' slots dirt exc (Local l) = turns_fit A m i tests told b op height (InLocal l) (after.slot (InLocal l)) finds' (slots (InLocal l))
  fit_all op height finds' slots dirt exc (OnStack k) = turns_fit A m i tests told b op height (InStack k) (after.slot (InStack k)) finds' (slots (InStack k))
  fit_all op height finds' slots dirt exc Dirt = stored_fits b op height after.dirt dirt
  fit_all op height finds' slots dirt exc Exc = moved_fits b Exc after.exc exc

  pub normal_fit : IsNormalEnd p A m i b after → (instr.reached ≡ true) × (may_go_on tests instr.op ≡ true) × AllFit (normal_clauses tests instr.op instr.height) b after
  normal_fit end =
      let same = same_instr end.instr end.found in (
        subst (λ (x : Instr). x.reached ≡ true) same end.reached,
        subst (λ (x : Instr). may_go_on tests x.op ≡ true) same (goes end.instr.op end.goes_on end.library),
        fit_all instr.op instr.height finds
            (subst (λ (x : Instr). (y : Slot) → Turns A m i b x.op x.height y (after.slot y)) same end.slots)
            (subst (λ (x : Instr). after.dirt ≡ formula.dirt_after x.op x.height b) same end.dirt) end.exc,
      )

  pub fit_normal : (instr.reached ≡ true) × (may_go_on tests instr.op ≡ true) × AllFit (normal_clauses tests instr.op instr.height) b after → IsNormalEnd p A m i b after
  fit_normal (reached, go, all) = record {
    instr = instr;
    found = found;
    reached = reached;
    goes_on = ends instr.op go;
    library = library instr.op go;
    slots = slots;
    dirt = fits_stored b instr.op instr.height after.dirt (all Dirt);
    exc = fits_moved b Exc after.exc (all Exc);
  }
    where
      slots : (y : Slot) → Turns A m i b instr.op instr.height y (after.slot y)
      slots (InLocal l) = normal_turns A m i tests told b instr.op instr.height (InLocal l) (after.slot (InLocal l)) finds (all (Local l))
      slots (InStack k) = normal_turns A m i tests told b instr.op instr.height (InStack k) (after.slot (InStack k)) finds (all (OnStack k))

  pub exceptional_fit : IsExceptionalEnd p A m i b after → (instr.reached ≡ true) × ((way : Way) × (may_end tests instr.op way ≡ true) × AllFit (exceptional_clauses way tests instr.op instr.height) b after)
  exceptional_fit end =
      let same = same_instr end.instr end.found in (
        subst (λ (x : Instr). x.reached ≡ true) same end.reached,
        throws_fit A m i tests told b instr.op instr.height after (subst (λ (x : Instr). Throws A m i b x.op x.height after) same end.throws),
      )

  pub fit_exceptional : (instr.reached ≡ true) × ((way : Way) × (may_end tests instr.op way ≡ true) × AllFit (exceptional_clauses way tests instr.op instr.height) b after) → IsExceptionalEnd p A m i b after
  fit_exceptional (reached, (way, ends', all)) = record { instr = instr; found = found; reached = reached; throws = fit_throws A m i tests told b instr.op instr.height after finds way ends' all }
