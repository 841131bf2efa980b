-- The states of the marked machine, and the choices that a run is given.
use Rattle.std.specs.Prelude.{ℕ, zero, suc, ◌%◌, ◌==◌, List, [], ◌∷◌, ◌++◌, Option, Some, None, length, nat_le, if◌then◌else◌}
use Rattle.ja_machine.specs.declared.heap.Value.{Value}
use Rattle.ja_machine.specs.declared.heap.Object.{Object}
use Rattle.ja_machine.specs.Marks.{union}

-- one call of a method, as it stands: its locals, its stack with the topmost value first, and the categories in which something tainted was
-- stored since it began
pub record Frame : Type 0 where
  pub locals : List Value
  pub stack : List Value
  pub dirt : ℕ

-- a sink call was met: the number of its site, and those of its positions whose values were tainted in the site's category
pub record Event : Type 0 where
  pub site : ℕ
  pub positions : List ℕ

-- what all calls share: the objects, a value for every field by its number (of which only those of static fields are used), the record of
-- writes (the place of the object at each write of one, and the number of the field at each write of a static field, those that wrote an
-- equal value among them), and the events so far
pub record Store : Type 0 where
  pub heap : List Object
  pub statics : List Value
  pub written : List ℕ
  pub set : List ℕ
  pub events : List Event

-- the store, and the choices that are left
pub record World : Type 0 where
  pub choices : List ℕ
  pub store : Store

-- what stood when a method began: its arguments, a receiver first, and the store
pub record Began : Type 0 where
  pub args : List Value
  pub store : Store

-- a frame before an instruction
pub record Point : Type 0 where
  pub method : ℕ
  pub index : ℕ
  pub frame : Frame
  pub began : Began

-- what one operation comes to: the frame goes on, an object is thrown, the method ends, another method is called, or no rule allows a step
pub data Next : Type 0 where
  Goes : (frame : Frame) (world : World) → Next
  Throws : (place : ℕ) (frame : Frame) (world : World) → Next
  Ends : (value : Option Value) (dirt : ℕ) (world : World) → Next
  Enters : (method : ℕ) (args : List Value) (frame : Frame) (world : World) → Next
  NoRule : Next

-- how a run of a method ends. After the first two so many steps are left; of the others the innermost point is told, and those that called
-- it, the nearest first.
-- Returned: it returned.
-- Threw: it threw the object at a place out of the method, from this point, with the frame as it was left.
-- Stuck: no rule allows a step of the innermost frame, which stands as it stood before its instruction.
-- Cut: all steps were made.
-- Failed: the run cannot go on after a call that has ended: a class initialiser threw, from the innermost point; or the innermost frame has
-- no instruction, or no object that was thrown, with which to go on after a call.
pub data Outcome : Type 0 where
  Returned : (value : Option Value) (dirt : ℕ) (world : World) (left : ℕ) → Outcome
  Threw : (place : ℕ) (from : Point) (world : World) (left : ℕ) → Outcome
  Stuck : (innermost : Point) (callers : List Point) (world : World) → Outcome
  Cut : (innermost : Point) (callers : List Point) (world : World) → Outcome
  Failed : (innermost : Point) (callers : List Point) (world : World) → Outcome

-- the frame with another stack
abbrev pub with_stack : List Value → Frame → Frame
with_stack stack frame = record { locals = frame.locals; stack = stack; dirt = frame.dirt }

-- the frame with a value more on its stack
abbrev pub pushed : Value → Frame → Frame
pushed value frame = record { locals = frame.locals; stack = value ∷ frame.stack; dirt = frame.dirt }

-- the frame after its dirt rose by these categories
abbrev pub dirtied : (dirt : ℕ) → Frame → Frame
dirtied dirt frame = record { locals = frame.locals; stack = frame.stack; dirt = union frame.dirt dirt }

-- the world after a change of its store
abbrev pub changed : (Store → Store) → World → World
changed change world = record { choices = world.choices; store = change world.store }

-- the store with one object more, at the end
abbrev pub with_object : Object → Store → Store
with_object object store = record store { heap = store.heap ++ object ∷ [] }

-- the store with these events more
abbrev pub with_events : List Event → Store → Store
with_events events store = record store { events = store.events ++ events }

-- the values that are topmost on a stack, the lowest of them first
abbrev pub topmost : ℕ → (stack : List Value) → List Value
topmost zero stack = []
topmost (suc n) [] = []
topmost (suc n) (value ∷ stack) = topmost n stack ++ value ∷ []

-- what is beneath them
abbrev pub beneath : ℕ → (stack : List Value) → List Value
beneath zero stack = stack
beneath (suc n) [] = []
beneath (suc n) (value ∷ stack) = beneath n stack

-- the value of slot k of a stack, where the slots are numbered from the bottom
abbrev pub on_stack : (stack : List Value) → (k : ℕ) → Option Value
on_stack [] k = None
on_stack (value ∷ stack) k = if k == length stack then Some value else on_stack stack k

-- the way that a choice picks among k, and the first where no choice is left
abbrev pub way : (k : ℕ) → (choices : List ℕ) → ℕ
way k [] = 0
way k (choice ∷ choices) = choice % k

-- the choices that are left after one
abbrev pub after_choice : List ℕ → List ℕ
after_choice [] = []
after_choice (choice ∷ choices) = choices

-- the world after a choice was used
abbrev pub spent : World → World
spent world = record { choices = after_choice world.choices; store = world.store }

-- a decision of k ways: the next choice settles it where there are two ways or more
abbrev pub decide : {X : Type 0} → (k : ℕ) → World → (ℕ → World → X) → X
decide k world go = if nat_le k 1 then go 0 world else go (way k world.choices) (spent world)

-- the first of two for the way 0, else the second
abbrev pub either : {X : Type 0} → ℕ → X → X → X
either zero first second = first
either (suc k) first second = second

-- a decision between no and yes
abbrev pub decide_whether : {X : Type 0} → World → (World → X) → (World → X) → X
decide_whether world goes throws = decide 2 world (λ k rest. either k (goes rest) (throws rest))
