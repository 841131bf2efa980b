-- What the cells of locals, of values on the stack and of arguments mean.
use Rattle.std.proofs.Common.{◌≡◌, ℕ, zero, suc, ◌+◌, ◌-◌, ◌<◌, ◌≤◌, true, Some, refl, sym, ap, subst, ◌∙◌, arith}
use Rattle.std.specs.Prelude.{slice_get}
use Rattle.ja_ir.specs.declared.program.Parts.{Parts}
use Rattle.ja_ir.specs.declared.method.Method.{Method}
use Rattle.ja_ir.specs.declared.method.Instr.{Instr}
use Rattle.ja_ir.specs.declared.op.CallOp.{CallOp}
use Rattle.ja_ir.specs.declared.op.Op.TheVariants.{Call}
use Rattle.ja_ir.specs.Operations.{arguments, FindsOperands}
use Rattle.ja_ir.specs.Whole.{IsWhole}
use Rattle.ja_facts.specs.Least.{Each}
use Rattle.ja_facts.specs.Analyses.{Classes}
use Rattle.ja_facts.specs.Slots.{Slot, Local, OnStack, CallAt, argument}
use Rattle.ja_facts.specs.ClassSets.{InSlot, Reached}
use Rattle.ja_network.specs.declared.cell.Action.{Action}
use Rattle.ja_cells.specs.Names.{Names, AreNames, row_at, locals_of}
use Rattle.ja_cells.specs.Rows.{cell_in}
use Rattle.ja_constraints.specs.Links.{link}
use Rattle.ja_constraints.specs.Places.{top_cell, argument_cell}
use Rattle.ja_class_laws.proofs.Frames.{IsAt, runs, instr-found}
use Rattle.ja_class_laws.proofs.Meaning.{MeansToken, MeansDone, Good, good-link, slot_of}
use Rattle.ja_class_laws.proofs.NextNames.{slot-local, slot-stack}
use Rattle.ja_class_laws.proofs.Named.{named}

-- the slots of a method that is there
pub stack-is : (p : Parts) (m k : ℕ) (method : Method) → slice_get p.methods m ≡ Some method → slot_of p m (method.locals + k) ≡ OnStack k
stack-is p m k method found =
    let l : locals_of (slice_get p.methods m) ≡ method.locals = ap locals_of found in
    ap (λ n. slot_of p m (n + k)) (sym l) ∙ slot-stack p m k

pub local-is : (p : Parts) (m l : ℕ) (method : Method) → slice_get p.methods m ≡ Some method → l < method.locals → slot_of p m l ≡ Local l
local-is p m l method found lt =
    let same : locals_of (slice_get p.methods m) ≡ method.locals = ap locals_of found in
    slot-local p m l (omega arith)

-- a call that is reached finds its arguments
pub call-there : (p : Parts) (m i : ℕ) (method : Method) (instr : Instr) (call : CallOp) → IsWhole p → slice_get p.methods m ≡ Some method → slice_get method.code i ≡ Some instr → instr.reached ≡ true
    → instr.op ≡ Call call → CallAt p m i call (instr.height - arguments call)
call-there p m i method instr call whole found at reached is =
    let a : IsAt p m i = record { method = method; instr = instr; found = found; at = at; reached = reached } in
    let enough : arguments call ≤ instr.height = subst (λ o. FindsOperands o instr.height) is (runs p whole m i a).operands in
    record { height = instr.height; at = record { instr = instr; found = instr-found p m i method instr found at; is_op = is; is_height = refl }; under_is = omega arith }

module _ (p : Parts) (names : Names) (whole : IsWhole p) (right : AreNames p names) (m i : ℕ) (method : Method) (found : slice_get p.methods m ≡ Some method) (reached : Classes p (Reached m i)) where
  pub on-stack : (k t : ℕ) → MeansToken p (cell_in (row_at names m i) (method.locals + k)) t → Classes p (InSlot m i (OnStack k) t)
  on-stack k t h = subst (λ (z : Slot). Classes p (InSlot m i z t)) (stack-is p m k method found) (named p names whole right m i reached (method.locals + k) t h)

  pub in-local : (l t : ℕ) → l < method.locals → MeansToken p (cell_in (row_at names m i) l) t → Classes p (InSlot m i (Local l) t)
  in-local l t lt h = subst (λ (z : Slot). Classes p (InSlot m i z t)) (local-is p m l method found lt) (named p names whole right m i reached l t h)

  -- a link from the topmost value
  pub good-top : (height : ℕ) (a : Action) → ((k t : ℕ) → height ≡ suc k → Classes p (InSlot m i (OnStack k) t) → MeansDone p a t) → Each (Good p) (link (top_cell (row_at names m i) method.locals height) a)
  good-top zero a each = tt
  good-top (suc k) a each = good-link p (cell_in (row_at names m i) (method.locals + k)) a (λ t h. each k t refl (on-stack k t h))

  -- a link from an argument
  pub good-argument : (height k : ℕ) (call : CallOp) (a : Action) → ((t : ℕ) → Classes p (InSlot m i (argument (height - arguments call) k) t) → MeansDone p a t)
      → Each (Good p) (link (argument_cell (row_at names m i) method.locals height call k) a)
  good-argument height k call a each = good-link p (argument_cell (row_at names m i) method.locals height call k) a (λ t h. each t (on-stack ((height - arguments call) + k) t h))
