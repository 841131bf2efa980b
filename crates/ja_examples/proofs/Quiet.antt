-- Programs whose calls all go to the library and change nothing: no method is called, and nothing takes arguments.
use Rattle.std.proofs.Common.{◌≡◌, ℕ, false, List, Some, sym, subst, ◌∙◌}
use Rattle.ja_ir.specs.declared.program.Parts.{Parts}
use Rattle.ja_ir.specs.declared.class.MethodAt.TheVariants.{Program, Library}
use Rattle.ja_ir.specs.declared.row.RowEffect.{RowEffect}
use Rattle.ja_ir.specs.declared.row.RowEffect.TheVariants.{Quiet}
use Rattle.ja_ir.specs.declared.op.CallOp.{CallOp}
use Rattle.ja_ir.specs.declared.op.Op.TheVariants.{Call}
use Rattle.ja_ir.specs.Lookup.{OpAt}
use Rattle.ja_ir.specs.Operations.{is_dispatched}
use Rattle.ja_facts.specs.Least.{Each}
use Rattle.ja_facts.specs.ClassSets.{Fact as ClassFact, Reached, InEnv, InSlot, InThrown, InParam, InResult, InOut, InField, InBag, CallsMethod, CallsAbstract, CallsLibrary, Spans, Takes, IsSource, Rule as ClassRule, found_method, selects_method, by_static, by_special, taker}
use Rattle.ja_facts.specs.Analyses.{Classes}
use Rattle.ja_facts.proofs.LeastLaws.{Least-below}

-- the call goes to the library, whatever its receiver is, and changes nothing
abbrev pub IsQuiet : CallOp → Type 0
IsQuiet call = (is_dispatched call.kind ≡ false) × (call.found ≡ Some Library) × (call.row.effect ≡ Quiet)

module _ (p : Parts) (quiet : (m i height : ℕ) (call : CallOp) → OpAt p m i (Call call) height → IsQuiet call) where
  abbrev CallsNone : ClassFact → Type 0
  CallsNone (CallsMethod m i n) = ⊥
  CallsNone (Takes m i b) = ⊥
  CallsNone _ = Unit {0}

  pub no_callee : (m i n : ℕ) {ps : List ClassFact} → ClassRule p ps (CallsMethod m i n) → ⊥
  no_callee m i n (found_method {call = call} method at (by_static k e) found can) =
      let same : Some Library ≡ Some (Program (record { 0 = n })) = sym (quiet m i at.height call at.at).1 ∙ e in cc same
  no_callee m i n (found_method {call = call} method at (by_special k e) found can) =
      let same : Some Library ≡ Some (Program (record { 0 = n })) = sym (quiet m i at.height call at.at).1 ∙ e in cc same
  no_callee m i n (selects_method {call = call} at dispatched d) = cc ((quiet m i at.height call at.at).0, dispatched)

  no_taker : (m i b : ℕ) {ps : List ClassFact} → ClassRule p ps (Takes m i b) → ⊥
  no_taker m i b (taker {call = call} k at source absorbing) = subst (λ (effect : RowEffect). IsSource call k effect) (quiet m i at.height call at.at).2 source

  none_solve : (ps : List ClassFact) (f : ClassFact) → ClassRule p ps f → Each CallsNone ps → CallsNone f
  none_solve ps (Reached m i) rule each = tt
  none_solve ps (InEnv t) rule each = tt
  none_solve ps (InSlot m i z t) rule each = tt
  none_solve ps (InThrown m i t) rule each = tt
  none_solve ps (InParam m k t) rule each = tt
  none_solve ps (InResult m t) rule each = tt
  none_solve ps (InOut m t) rule each = tt
  none_solve ps (InField f t) rule each = tt
  none_solve ps (InBag b t) rule each = tt
  none_solve ps (CallsMethod m i n) rule each = no_callee m i n rule
  none_solve ps (CallsAbstract m i n) rule each = tt
  none_solve ps (CallsLibrary m i) rule each = tt
  none_solve ps (Spans t u) rule each = tt
  none_solve ps (Takes m i b) rule each = no_taker m i b rule

  pub calls_none : (m i n : ℕ) → Classes p (CallsMethod m i n) → ⊥
  calls_none m i n x = Least-below (ClassRule p) CallsNone none_solve (CallsMethod m i n) x

  pub takes_none : (m i b : ℕ) → Classes p (Takes m i b) → ⊥
  takes_none m i b x = Least-below (ClassRule p) CallsNone none_solve (Takes m i b) x
