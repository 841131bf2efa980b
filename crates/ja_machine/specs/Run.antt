-- Runs of methods, with nested calls, class initialisers and exceptions.
use Rattle.std.specs.Prelude.{ℕ, zero, suc, ◌+◌, ◌==◌, Bool, true, false, List, [], ◌∷◌, ◌++◌, Option, Some, None, length, slice_get, if◌then◌else◌}
use Rattle.ja_base.specs.declared.id.MethodId.{MethodId}
use Rattle.ja_base.specs.declared.java_type.Kind.{Kind}
use Rattle.ja_base.specs.declared.java_type.Kind.TheVariants.{P2}
use Rattle.ja_base.specs.declared.java_type.JavaType.{JavaType}
use Rattle.ja_ir.specs.declared.program.Parts.{Parts}
use Rattle.ja_ir.specs.declared.method.Method.{Method}
use Rattle.ja_ir.specs.declared.method.Instr.{Instr}
use Rattle.ja_ir.specs.Lookup.{instr_at, is_member}
use Rattle.ja_ir.specs.Handlers.{Place, Inside, Outside, dest}
use Rattle.ja_ir.specs.Initializing.{inits_of}
use Rattle.ja_machine.specs.declared.heap.Value.{Value}
use Rattle.ja_machine.specs.declared.heap.Value.TheVariants.{Prim, Ref}
use Rattle.ja_machine.specs.declared.heap.Object.{Object}
use Rattle.ja_machine.specs.Marks.{none}
use Rattle.ja_machine.specs.State.{Frame, Store, World, Event, Point, Next, Goes, Throws, Ends, Enters, NoRule, Outcome, Returned, Threw, Stuck, Cut, Failed, with_stack, pushed, dirtied, decide}
use Rattle.ja_machine.specs.Act.{act, noted}

-- a run of what is left from a point, with so many steps left
abbrev pub Continue : Type 0
Continue = Point → World → (left : ℕ) → Outcome

-- the point at another instruction of its method
abbrev pub at_index : Point → (index : ℕ) → Frame → Point
at_index x index frame = record { method = x.method; index = index; frame = frame; began = x.began }

-- goes on at the next instruction that was picked; where there is none the run ends as said
abbrev pub goes_at : Continue → Point → (otherwise : Outcome) → Frame → World → (left : ℕ) → Option ℕ → Outcome
goes_at go x otherwise frame world left None = otherwise
goes_at go x otherwise frame world left (Some j) = go (at_index x j frame) world left

-- a normal end goes on at one of the next instructions; where there is none the run ends as said
abbrev pub goes_on : Continue → Point → (next : List ℕ) → (otherwise : Outcome) → Frame → World → (left : ℕ) → Outcome
goes_on go x next otherwise frame world left = decide (length next) world (λ k rest. goes_at go x otherwise frame rest left (slice_get next k))

-- the frame at a handler: the locals are kept, and the stack is the exception alone
abbrev pub handling : (place : ℕ) → Frame → Frame
handling place frame = with_stack (Ref place ∷ []) frame

-- an object that is thrown at a point goes to a place: to a handler of the method, or out of the method
abbrev pub goes_to_place : Continue → Point → (place : ℕ) → Frame → World → (left : ℕ) → Place → Outcome
goes_to_place go x place frame world left (Inside target) = go (at_index x target (handling place frame)) world left
goes_to_place go x place frame world left Outside = Threw place (at_index x x.index frame) world left

-- it goes to the last of these places, or before that to one where a choice says that it is caught
abbrev pub leaves : Continue → Point → (place : ℕ) → Frame → List Place → World → (left : ℕ) → Outcome
leaves go x place frame [] world left = Threw place (at_index x x.index frame) world left
leaves go x place frame (d ∷ []) world left = goes_to_place go x place frame world left d
leaves go x place frame (d ∷ further ∷ places) world left =
    decide 2 world (λ k rest. if k == 0 then goes_to_place go x place frame rest left d else leaves go x place frame (further ∷ places) rest left)

-- the object that is thrown, where there is one; else the run ends as said
abbrev pub thrown_object : Continue → Parts → Point → (place : ℕ) → (otherwise : Outcome) → Frame → World → (left : ℕ) → Option Object → Outcome
thrown_object go p x place otherwise frame world left None = otherwise
thrown_object go p x place otherwise frame world left (Some object) =
    leaves go x place frame (dest p x.method x.index object.token.0) world left

-- the object at a place is thrown at a point
abbrev pub thrown : Continue → Parts → Point → (place : ℕ) → (otherwise : Outcome) → Frame → World → (left : ℕ) → Outcome
thrown go p x place otherwise frame world left = thrown_object go p x place otherwise frame world left (slice_get world.store.heap place)

-- the frame with what a call returned on its stack
abbrev pub pushed_some : Option Value → Frame → Frame
pushed_some None frame = frame
pushed_some (Some value) frame = pushed value frame

-- the caller goes on with what its call came to, and is as dirty as that; what was done in the call stays done
abbrev pub resumes : Continue → Parts → Point → (next : List ℕ) → Frame → Outcome → Outcome
resumes go p x next frame (Returned value dirt world left) = goes_on go x next (Failed x [] world) (pushed_some value (dirtied dirt frame)) world left
resumes go p x next frame (Threw place from world left) = thrown go p x place (Failed x [] world) (dirtied from.frame.dirt frame) world left
resumes go p x next frame (Stuck innermost callers world) = Stuck innermost (callers ++ x ∷ []) world
resumes go p x next frame (Cut innermost callers world) = Cut innermost (callers ++ x ∷ []) world
resumes go p x next frame (Failed innermost callers world) = Failed innermost (callers ++ x ∷ []) world

-- a frame goes on with what a class initialiser came to: where that returned, the frame stands before the same instruction again, as dirty
-- as that; where it threw, the run is over
abbrev pub stands_again : Continue → Point → Outcome → Outcome
stands_again go x (Returned value dirt world left) = go (at_index x x.index (dirtied dirt x.frame)) world left
stands_again go x (Threw place from world left) = Failed from (x ∷ []) world
stands_again go x (Stuck innermost callers world) = Stuck innermost (callers ++ x ∷ []) world
stands_again go x (Cut innermost callers world) = Cut innermost (callers ++ x ∷ []) world
stands_again go x (Failed innermost callers world) = Failed innermost (callers ++ x ∷ []) world

-- the locals that a value of a kind takes: a long or double takes two, the second of which it leaves unused (JVM specification 2.6.1)
abbrev pub spread : Value → Kind → List Value → List Value
spread value P2 others = value ∷ Prim none ∷ others
spread value _ others = value ∷ others

-- arguments in their locals
abbrev pub placed : List Value → List JavaType → List Value
placed [] params = []
placed (value ∷ values) [] = []
placed (value ∷ values) (type ∷ params) = spread value type.kind (placed values params)

-- so many locals, those that are given first and then unmarked primitives
abbrev pub filled : ℕ → List Value → List Value
filled zero values = []
filled (suc n) [] = Prim none ∷ filled n []
filled (suc n) (value ∷ values) = value ∷ filled n values

-- arguments in their locals, a receiver first where there is one
abbrev pub with_receiver : (member : Bool) → List Value → List JavaType → List Value
with_receiver true [] params = []
with_receiver true (receiver ∷ values) params = receiver ∷ placed values params
with_receiver false values params = placed values params

-- the locals with which a method begins
abbrev pub locals_of : Option Method → (args : List Value) → List Value
locals_of None args = []
locals_of (Some method) args = filled method.locals (with_receiver (is_member method.flags) args method.types.params)

-- before the first instruction of method n, with these arguments, a receiver first
abbrev pub start : Parts → (n : ℕ) (args : List Value) → World → Point
start p n args world = record {
  method = n;
  index = 0;
  frame = record { locals = locals_of (slice_get p.methods n) args; stack = []; dirt = none };
  began = record { args = args; store = world.store };
}

-- the run goes on as an operation says; where no rule allows a step it is stuck with the world from before the operation
abbrev pub follows : Continue → Parts → Point → (next : List ℕ) → (before : World) → (left : ℕ) → Next → Outcome
follows go p x next before left (Goes frame world) = goes_on go x next (Stuck x [] before) frame world left
follows go p x next before left (Throws place frame world) = thrown go p x place (Stuck x [] before) frame world left
follows go p x next before left (Ends value dirt world) = Returned value dirt world left
follows go p x next before left (Enters n args frame world) = resumes go p x next frame (go (start p n args world) world left)
follows go p x next before left NoRule = Stuck x [] before

-- the operation of an instruction: its events are noted, and it is done
abbrev pub operates : Continue → Parts → Point → Instr → World → (left : ℕ) → Outcome
operates go p x instr world left =
    let before : World = noted p x instr.op world in follows go p x instr.next before left (act p instr.op x.frame before)

-- a class initialiser, where there is one, is called without arguments before an instruction
abbrev pub initializes : Continue → Parts → Point → World → (left : ℕ) → Option MethodId → Outcome
initializes go p x world left None = Stuck x [] world
initializes go p x world left (Some n) = stands_again go x (go (start p n.0 [] world) world left)

-- the step that was picked: the operation of the instruction, or one of the class initialisers
abbrev pub step_by : Continue → Parts → Point → Instr → (inits : List MethodId) → World → (left : ℕ) → (way : ℕ) → Outcome
step_by go p x instr inits world left zero = operates go p x instr world left
step_by go p x instr inits world left (suc k) = initializes go p x world left (slice_get inits k)

-- a step of an instruction, with the class initialisers that may come before it: the first way is its operation
abbrev pub steps_with : Continue → Parts → Point → Instr → (inits : List MethodId) → World → (left : ℕ) → Outcome
steps_with go p x instr inits world left = decide (1 + length inits) world (λ k rest. step_by go p x instr inits rest left k)

-- a step of an instruction, where there is one
abbrev pub steps : Continue → Parts → Point → World → (left : ℕ) → Option Instr → Outcome
steps go p x world left None = Stuck x [] world
steps go p x world left (Some instr) = steps_with go p x instr (inits_of p instr.op) world left

-- cut where no step is left, and else a step with one fewer left
abbrev pub if_left : (left : ℕ) → Outcome → (ℕ → Outcome) → Outcome
if_left zero cut go = cut
if_left (suc left) cut go = go left

-- the run from a point with so many steps left; the first number bounds the recursion, and as many as there are steps suffice
abbrev pub run : ℕ → Parts → Continue
run zero p x world left = Cut x [] world
run (suc depth) p x world left = if_left left (Cut x [] world) (λ rest. steps (run depth p) p x world rest (instr_at p x.method x.index))

-- a call of a method with these arguments, in this world, of at most n steps
abbrev pub call_run : Parts → (m : ℕ) (args : List Value) → World → (n : ℕ) → Outcome
call_run p m args world n = run n p (start p m args world) world n

-- the world in which a run stands
abbrev pub world_in : Outcome → World
world_in (Returned value dirt world left) = world
world_in (Threw place from world left) = world
world_in (Stuck innermost callers world) = world
world_in (Cut innermost callers world) = world
world_in (Failed innermost callers world) = world

-- the store in which a run stands
abbrev pub store_in : Outcome → Store
store_in outcome = (world_in outcome).store

-- the events of a run so far
abbrev pub events_in : Outcome → List Event
events_in outcome = (store_in outcome).events
