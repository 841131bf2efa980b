-- Outside the frame of a called method its parameters make nothing true.
use Rattle.std.proofs.Common.{◌≡◌, ℕ, ◌<◌, Bool, false, Some, refl, ap, arith}
use Rattle.std.specs.Prelude.{◌&&◌, nat_eq, slice_get}
use Rattle.std.proofs.lemmas.Bool.{and_parts, eqb-true, ltb-false, false≢true}
use Rattle.ja_ir.specs.declared.program.Parts.{Parts}
use Rattle.ja_ir.specs.declared.method.Method.{Method}
use Rattle.ja_ir.specs.declared.op.CallOp.{CallOp}
use Rattle.ja_ir.specs.Lookup.{HasCode, is_member}
use Rattle.ja_ir.specs.Operations.{arguments}
use Rattle.ja_ir.specs.Params.{param_local, param_count, param_types}
use Rattle.ja_ir.specs.Whole.{IsWhole}
use Rattle.ja_facts.specs.Slots.{argument}
use Rattle.ja_facts.specs.Formulas.{Assignment, any_below}
use Rattle.ja_work.specs.declared.clause.Spot.{Spot}
use Rattle.ja_work.specs.declared.clause.Spot.TheVariants.{Local, OnStack, Dirt, Exc}
use Rattle.ja_work.specs.Clauses.{never, constant}
use Rattle.ja_work.proofs.Fitting.{any_some}
use Rattle.ja_order.proofs.Locals.{local-below}
use Rattle.ja_explicit.specs.InnerWords.{handed_clauses}
use Rattle.ja_explicit.proofs.Worded.{IsQuiet, is_inside}
use Rattle.ja_explicit.proofs.Quiet.{is_false, never_quiet}
use Rattle.ja_explicit.proofs.Wholeness.{starts_there}

module _ (p : Parts) (whole : IsWhole p) (n : ℕ) (callee : Method) (there : slice_get p.methods n ≡ Some callee) (has_code : HasCode callee) (call : CallOp) (counted : param_count callee ≡ arguments call) (under : ℕ) (before : Assignment) where
  pub hands_quiet : IsQuiet callee (handed_clauses callee (arguments call) under before) before
  hands_quiet = never_quiet callee (handed_clauses callee (arguments call) under before) before outside
    where
      outside : (x : Spot) → is_inside callee x ≡ false → handed_clauses callee (arguments call) under before x ≡ never
      outside (Local l) e = ap constant (is_false (any_below (λ k. nat_eq (param_local callee k) l && before.slot (argument under k)) (arguments call)) (λ t.
          let r = any_some (λ k. nat_eq (param_local callee k) l && before.slot (argument under k)) (arguments call) t in
          let parts = and_parts (nat_eq (param_local callee r.0) l) (before.slot (argument under r.0)) r.2 in
          let low = local-below (is_member callee.flags) (param_types callee) r.0 (omega (arith, r.1, counted)) in
          let room = (starts_there p whole n callee there has_code).room in
          let high = ltb-false l callee.locals e in
          let same = eqb-true (param_local callee r.0) l parts.0 in
          absurd (omega (arith, low, room, high, same))))
      outside (OnStack k) e = refl
      outside Dirt e = refl
      outside Exc e = refl
