-- The ends of an instruction as functions of the variables of a method's frame.
use Rattle.std.specs.Prelude.{◌≡◌, ℕ, ◌&&◌, false, Option, Some, None, slice_get}
use Rattle.ja_ir.specs.declared.program.Parts.{Parts}
use Rattle.ja_ir.specs.declared.method.Method.{Method}
use Rattle.ja_ir.specs.declared.method.Instr.{Instr}
use Rattle.ja_ir.specs.Lookup.{instr_at}
use Rattle.ja_facts.specs.declared.facts.Facts.{Facts}
use Rattle.ja_bdd.specs.Functions.{Function}
use Rattle.ja_work.specs.declared.frame.Frame.{Frame}
use Rattle.ja_work.specs.Ends.{Tests, may_go_on, normal_clauses}
use Rattle.ja_work.specs.Frames.{whole}
use Rattle.ja_work.specs.Thrown.{ends_thrown}
use Rattle.ja_work.specs.Told.{tests_of}

-- the frame has the slots of method m
pub record HasSlotsOf (p : Parts) (m : ℕ) (frame : Frame) : Type 0 where
  pub locals : (method : Method) → slice_get p.methods m ≡ Some method → frame.locals ≡ method.locals
  pub stack : (method : Method) → slice_get p.methods m ≡ Some method → frame.stack ≡ method.stack

-- the normal end of an instruction by tests: its clauses, where it is reached and may go on
abbrev pub normal_by : Frame → Tests → Option Instr → Function
normal_by frame tests None a = false
normal_by frame tests (Some instr) a = instr.reached && (may_go_on tests instr.op && whole frame (normal_clauses tests instr.op instr.height) a)

-- its exceptional end: one of some way, where it is reached
abbrev pub thrown_by : Frame → Tests → Option Instr → Function
thrown_by frame tests None a = false
thrown_by frame tests (Some instr) a = instr.reached && ends_thrown frame tests instr.op instr.height a

-- the ends of instruction i of method m, by tables
abbrev pub normal_formula : Parts → Facts → Frame → (m i : ℕ) → Function
normal_formula p f frame m i = normal_by frame (tests_of p f m i) (instr_at p m i)

abbrev pub thrown_formula : Parts → Facts → Frame → (m i : ℕ) → Function
thrown_formula p f frame m i = thrown_by frame (tests_of p f m i) (instr_at p m i)
