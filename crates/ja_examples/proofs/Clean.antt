-- What the two programs with clean sinks need: a text that is made is clean, a method without handlers catches nothing, and the argument of a
-- sink call is the one value on the stack.
use Rattle.std.proofs.Common.{◌≡◌, ℕ, zero, suc, ◌+◌, ◌⊎◌, inl, inr, Bool, false, [], ◌∷◌, Some, refl, sym, ap, ◌∙◌, arith}
use Rattle.std.specs.Prelude.{Contains}
use Rattle.ja_ir.specs.declared.program.Parts.{Parts}
use Rattle.ja_ir.specs.declared.method.Instr.{Instr}
use Rattle.ja_ir.specs.declared.op.CallOp.{CallOp}
use Rattle.ja_ir.specs.declared.op.Op.{Op}
use Rattle.ja_ir.specs.declared.op.Op.TheVariants.{Text, New, Call}
use Rattle.ja_ir.specs.Lookup.{instr_at}
use Rattle.ja_ir.specs.Operations.{arguments}
use Rattle.ja_ir.specs.Handlers.{Inside, Outside}
use Rattle.ja_facts.specs.Slots.{Slot, OnStack, Copies, CallAt, kept_local, kept_stack, loaded as pushed, stored as popped, shuffled, checked, argument}
use Rattle.ja_facts.specs.Sharing.{Writes, writes_field, writes_element}
use Rattle.ja_facts.specs.Formulas.{Assignment, Turns, Loads, loads_field, loads_element, copied, above, constant, made, measured, tested, mixed, loaded, static_loaded, written, absorbed, answered}
use Rattle.ja_examples.specs.Library.{sink}
use Rattle.ja_examples.proofs.Listed.{only_item}
use Rattle.ja_facts.specs.Analyses.{Analyses}

pub outside : {j : ℕ} → Contains (Outside ∷ []) (Inside j) → ⊥
outside (zero, below, e) = cc e
outside (suc k, below, e) = omega (arith, below)

-- nothing is copied to the place of a text or an object that is made
pub no_copy : {op : Op} {height : ℕ} {z y : Slot} (t : ℕ) → (Text ≡ op) ⊎ (New (record { 0 = t }) ≡ op) → y ≡ OnStack height → Copies op height z y → ⊥
no_copy t is e (kept_local k) = cc e
no_copy t is e (kept_stack {height = height} {k = k} h) = let same : k ≡ height = cc e in omega (arith, h, same)
no_copy t (inl is) e pushed = cc is
no_copy t (inr is) e pushed = cc is
no_copy t is e (popped h) = cc e
no_copy t (inl is) e (shuffled under j k h g) = cc is
no_copy t (inr is) e (shuffled under j k h g) = cc is
no_copy t (inl is) e (checked h) = cc is
no_copy t (inr is) e (checked h) = cc is

no_loads : {op : Op} {height : ℕ} {x r : Slot} → Text ≡ op → Loads op height x r → ⊥
no_loads e (loads_field h) = cc e
no_loads e (loads_element h) = cc e

no_writes : {op : Op} {height : ℕ} {x v : Slot} → Text ≡ op → Writes op height x v → ⊥
no_writes e (writes_field h) = cc e
no_writes e (writes_element h) = cc e

pub text_turns : (A : Analyses) (m i : ℕ) (b : Assignment) {op : Op} {height : ℕ} {y : Slot} {t : Bool}
    → Text ≡ op → y ≡ OnStack height → Turns A m i b op height y t → t ≡ false
text_turns A m i b is e (copied c) = absurd (no_copy 0 (inl is) e c)
text_turns A m i b is e (above h) = refl
text_turns A m i b is e constant = refl
text_turns A m i b is e (made h) = refl
text_turns A m i b is e (measured h) = refl
text_turns A m i b is e (tested h) = refl
text_turns A m i b is e (mixed h) = absurd (cc is)
text_turns A m i b is e (loaded h g) = absurd (no_loads is h)
text_turns A m i b is e static_loaded = absurd (cc is)
text_turns A m i b is e (written w c r g) = absurd (no_writes is w)
text_turns A m i b is e (absorbed under h c s g) = absurd (cc is)
text_turns A m i b is e (answered under h g j) = absurd (cc is)

pub lowest_argument : (p : Parts) (m i : ℕ) (instr : Instr) (call : CallOp) (under k : ℕ) → instr_at p m i ≡ Some instr → instr.op ≡ Call sink → instr.height ≡ 1
    → CallAt p m i call under → Contains (0 ∷ []) k → argument under k ≡ OnStack 0
lowest_argument p m i instr call under k there is_sink one_value found c =
    let both : Some instr ≡ Some found.at.instr = sym there ∙ found.at.found in
    let same : instr ≡ found.at.instr = cc both in
    let is : Call sink ≡ Call call = sym is_sink ∙ ap (λ (x : Instr). x.op) same ∙ found.at.is_op in
    let sinks : sink ≡ call = cc is in
    let one : 1 ≡ arguments call = ap (λ (it : CallOp). arguments it) sinks in
    let height : instr.height ≡ found.height = ap (λ (x : Instr). x.height) same ∙ found.at.is_height in
    let first : k ≡ 0 = only_item 0 k c in
    let place : under + k ≡ 0 = (let all : found.height ≡ under + arguments call = found.under_is in omega (arith, all, one, height, one_value, first)) in
    ap OnStack place
