-- A reached instruction of a program finds its operands, and the frame of its method has room for what it does.
use Rattle.std.proofs.Common.{◌≡◌, ℕ, ◌≤◌, true, Some, sym, ap, ◌∙◌, subst, arith, ⊎_elim}
use Rattle.std.specs.Prelude.{slice_get}
use Rattle.std.proofs.lemmas.Bool.{cases_Bool, false≢true}
use Rattle.std.proofs.lemmas.Option.{get_or_from_slice_get, slice_get_within}
use Rattle.ja_ir.specs.declared.program.Parts.{Parts}
use Rattle.ja_ir.specs.declared.method.Method.{Method}
use Rattle.ja_ir.specs.declared.method.Instr.{Instr}
use Rattle.ja_ir.specs.declared.op.Op.{Op}
use Rattle.ja_ir.specs.declared.op.Op.TheVariants.{Return, Throw}
use Rattle.ja_ir.specs.Lookup.{code_of, instr_at}
use Rattle.ja_ir.specs.Operations.{ends_method, height_after, UsesLocals}
use Rattle.ja_ir.specs.Whole.{IsWhole, Runs, IsReachedAt}
use Rattle.ja_work.specs.declared.frame.Frame.{Frame}
use Rattle.ja_formula.specs.Formulas.{HasSlotsOf}
use Rattle.ja_formula.specs.Inner.{IsRoomy}

-- each reached instruction of a program can go on
runs_at : (p : Parts) (m i : ℕ) (method : Method) (instr : Instr) → IsWhole p → slice_get p.methods m ≡ Some method → slice_get method.code i ≡ Some instr → instr.reached ≡ true → Runs method i instr
runs_at p m i method instr whole found at reached =
    let Run : Method → Type 0 = λ x. (j : ℕ) (y : Instr) → slice_get x.code j ≡ Some y → y.reached ≡ true → Runs x j y in
    subst Run (get_or_from_slice_get p.methods m method method found) (whole.runs m method (slice_get_within p.methods m method found)) i instr at reached

-- after the last operation of a method there are no more values on the stack than before it
ends_low : (op : Op) (height : ℕ) → ends_method op ≡ true → height_after op height ≤ height
ends_low (Return kind) height e = omega arith
ends_low Throw height e = omega arith
ends_low _ height e = absurd (false≢true e)

module _ (p : Parts) (m i : ℕ) (method : Method) (instr : Instr) (whole : IsWhole p) (found : slice_get p.methods m ≡ Some method) (at : slice_get method.code i ≡ Some instr) (reached : instr.reached ≡ true) where
  after_room : height_after instr.op instr.height ≤ method.stack
  after_room =
      let runs = runs_at p m i method instr whole found at reached in
      ⊎_elim
      (λ ends. let low = ends_low instr.op instr.height ends in let height = runs.height in omega (arith, low, height))
      (λ goes.
      let next : IsReachedAt method _ (height_after instr.op instr.height) = runs.next 0 0 (runs.goes_on goes) in
      let later = runs_at p m _ method next.instr whole found next.found next.reached in
      let height = later.height in
      let is = next.is_height in
      omega (arith, height, is))
      (cases_Bool (ends_method instr.op))

  pub roomy : (frame : Frame) → HasSlotsOf p m frame → IsRoomy frame instr
  roomy frame has =
      let runs = runs_at p m i method instr whole found at reached in
      let locals = has.locals method found in
      let stack = has.stack method found in
      let height = runs.height in
      let after = after_room in
      record {
        finds = runs.operands;
        room = record {
          locals = subst (UsesLocals instr.op) (sym locals) runs.locals;
          before = omega (arith, stack, height);
          after = omega (arith, stack, after);
        };
      }

-- where an instruction was found in its method
pub instr_found : (p : Parts) (m i : ℕ) (method : Method) (instr : Instr) → slice_get p.methods m ≡ Some method → slice_get method.code i ≡ Some instr → instr_at p m i ≡ Some instr
instr_found p m i method instr found at = ap (λ o. slice_get (code_of o) i) found ∙ at
