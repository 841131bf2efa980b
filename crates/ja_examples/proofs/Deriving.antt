-- How facts follow by the rules of a program, in the form in which the examples use them.
use Rattle.std.proofs.Common.{◌≡◌, ℕ, Bool, true, false, List, [], ◌∷◌, Some, refl, arith}
use Rattle.std.specs.Prelude.{Contains, slice_get}
use Rattle.ja_ir.specs.declared.program.Parts.{Parts}
use Rattle.ja_ir.specs.declared.class.MethodAt.TheVariants.{Library, Program}
use Rattle.ja_ir.specs.declared.method.Instr.{Instr}
use Rattle.ja_ir.specs.declared.method.Method.{Method}
use Rattle.ja_ir.specs.declared.op.CallOp.{CallOp}
use Rattle.ja_ir.specs.declared.op.CallKind.TheVariants.{Static}
use Rattle.ja_ir.specs.declared.op.Op.{Op}
use Rattle.ja_ir.specs.declared.op.Op.TheVariants.{GetField, GetStatic}
use Rattle.ja_ir.specs.Lookup.{OpAt, Leads, instr_at, is_static}
use Rattle.ja_ir.specs.Operations.{ends_method}
use Rattle.ja_facts.specs.Least.{Each, Least}
use Rattle.ja_facts.specs.Slots.{Slot, CallAt}
use Rattle.ja_facts.specs.ClassSets.{Fact as ClassFact, Reached, CallsMethod, CallsLibrary, Rule as ClassRule, next_reached, found_library, found_method, callee_reached, by_static}
use Rattle.ja_facts.specs.Held.{Fact as HeldFact, Rule as HeldRule}
use Rattle.ja_facts.specs.Sharing.{Fact as HeapFact, Step, LibraryCall, Rule as HeapRule}
use Rattle.ja_facts.specs.Actions.{IsEntry}
use Rattle.ja_ir.specs.declared.entry.Entry.{Entry}
use Rattle.ja_facts.specs.Reaching.{Fact as ReachFact, Rule as ReachRule}
use Rattle.ja_facts.specs.Formulas.{Assignment, Turns, IsNormalEnd, IsLibraryPart, dirt_after}
use Rattle.ja_facts.specs.Equations.{Fact, At, Reads, reads_field, reads_static, steps, Rule, MayBegin}
use Rattle.ja_facts.specs.Example.{nothing}
use Rattle.ja_facts.proofs.LeastLaws.{Least-is_solution}
use Rattle.ja_facts.specs.Analyses.{Classes, Helds, Heaps, Reaches, analyses_of}

-- the facts of the equations of a program as it is handed in
abbrev pub Known : Parts → Fact → Type 0
Known p = Least (Rule p (analyses_of p))

module _ (p : Parts) where
  pub by_class : (ps : List ClassFact) (f : ClassFact) → ClassRule p ps f → Each (Classes p) ps → Classes p f
  by_class = Least-is_solution (ClassRule p)

  pub by_held : (ps : List HeldFact) (f : HeldFact) → HeldRule p (Classes p) ps f → Each (Helds p) ps → Helds p f
  by_held = Least-is_solution (HeldRule p (Classes p))

  pub by_heap : (ps : List HeapFact) (f : HeapFact) → HeapRule p (Classes p) ps f → Each (Heaps p) ps → Heaps p f
  by_heap = Least-is_solution (HeapRule p (Classes p))

  pub by_reach : (ps : List ReachFact) (f : ReachFact) → ReachRule p (Classes p) (Heaps p) ps f → Each (Reaches p) ps → Reaches p f
  by_reach = Least-is_solution (ReachRule p (Classes p) (Heaps p))

  pub by_taint : (ps : List Fact) (f : Fact) → Rule p (analyses_of p) ps f → Each (Known p) ps → Known p f
  by_taint = Least-is_solution (Rule p (analyses_of p))

  -- nothing is true where an entry begins
  pub nothing_begins : {entry : Entry} {method : Method} → IsEntry p entry method → MayBegin p (analyses_of p) entry nothing []
  nothing_begins {method = method} is =
      record { method = method; is_entry = is; parameters = λ z t. absurd (cc t); reasons = λ c l. absurd (omega (arith, l.1)); once = tt; dirt = refl; exc = refl }

  -- instruction i of method m is this one, and it leads on to j
  pub record Goes (m i j : ℕ) (instr : Instr) : Type 0 where
    pub found : instr_at p m i ≡ Some instr
    pub listed : Contains instr.next j

  pub op_at : {m i j : ℕ} {instr : Instr} → Goes m i j instr → OpAt p m i instr.op instr.height
  op_at {instr = instr} g = record { instr = instr; found = g.found; is_op = refl; is_height = refl }

  pub leads : {m i j : ℕ} {instr : Instr} → Goes m i j instr → Leads p m i j
  leads {instr = instr} g = record { instr = instr; found = g.found; listed = g.listed }

  pub next : {m i j : ℕ} {instr : Instr} → Goes m i j instr → Classes p (Reached m i) → Classes p (Reached m j)
  next {m = m} {i = i} {j = j} g r = by_class (Reached m i ∷ []) (Reached m j) (next_reached (leads g)) (r, tt)

  pub stepped : {m i j : ℕ} {instr : Instr} → Goes m i j instr → Classes p (Reached m i) → Step p (Classes p) m i j instr.op instr.height
  stepped g r = record { at = op_at g; reached = r; leads = leads g }

  pub at_library : {m i under : ℕ} {call : CallOp} → CallAt p m i call under → Classes p (Reached m i) → Classes p (CallsLibrary m i) → LibraryCall p (Classes p) m i call under
  at_library at r l = record { at = at; reached = r; goes = l }

  -- a static call goes to the library, or to a method
  pub to_library : {m i under : ℕ} {call : CallOp} → CallAt p m i call under → call.kind ≡ Static → call.found ≡ Some Library → Classes p (Reached m i) → Classes p (CallsLibrary m i)
  to_library {m = m} {i = i} at is finds r = by_class (Reached m i ∷ []) (CallsLibrary m i) (found_library at (by_static is finds)) (r, tt)

  pub to_callee : {m i n under : ℕ} {call : CallOp} (method : Method) → CallAt p m i call under → call.kind ≡ Static → call.found ≡ Some (Program (record { 0 = n }))
      → slice_get p.methods n ≡ Some method → is_static method.flags ≡ true → Classes p (Reached m i) → Classes p (CallsMethod m i n)
  to_callee {m = m} {i = i} {n = n} {call = call} method at is finds found static r =
      by_class (Reached m i ∷ []) (CallsMethod m i n) (found_method method at (by_static is finds) found (rw is static)) (r, tt)

  pub callee : {m i n : ℕ} → Classes p (Reached m i) → Classes p (CallsMethod m i n) → Classes p (Reached n 0)
  callee {m = m} {i = i} {n = n} r c = by_class (Reached m i ∷ CallsMethod m i n ∷ []) (Reached n 0) callee_reached (r, (c, tt))

  -- the parts of a normal end
  pub record Ends (m i : ℕ) (instr : Instr) (b after : Assignment) : Type 0 where
    pub reached : instr.reached ≡ true
    pub goes_on : ends_method instr.op ≡ false
    pub library : IsLibraryPart (analyses_of p) m i instr.op
    pub slots : (y : Slot) → Turns (analyses_of p) m i b instr.op instr.height y (after.slot y)
    pub dirt : after.dirt ≡ dirt_after instr.op instr.height b
    pub exc : after.exc ≡ b.exc

  pub normal_end : {m i j : ℕ} {instr : Instr} {b after : Assignment} → Goes m i j instr → Ends m i instr b after → IsNormalEnd p (analyses_of p) m i b after
  normal_end {instr = instr} g e =
      record { instr = instr; found = g.found; reached = e.reached; goes_on = e.goes_on; library = e.library; slots = e.slots; dirt = e.dirt; exc = e.exc }

  -- an operation that reads no field is done
  pub step : {m i j : ℕ} {instr : Instr} {a b after : Assignment} → Goes m i j instr → Ends m i instr b after
      → ((f : ℕ) (r : Slot) → Reads instr.op instr.height f r → ⊥) → Known p (At m i a b) → Known p (At m j a after)
  step {m = m} {i = i} {j = j} {a = a} {b = b} {after = after} g e none x =
      by_taint (At m i a b ∷ []) (At m j a after) (steps (op_at g) (leads g) (normal_end g e) (λ f r reads. absurd (none f r reads))) (x, tt)

-- the operation reads a field
abbrev pub is_read : Op → Bool
is_read (GetField f) = true
is_read (GetStatic f) = true
is_read _ = false

pub no_read : {op : Op} {height : ℕ} → is_read op ≡ false → (f : ℕ) (r : Slot) → Reads op height f r → ⊥
no_read e f r (reads_field h) = absurd (cc e)
no_read e f r reads_static = absurd (cc e)
