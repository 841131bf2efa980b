-- What the facts promise of the marked machine.
use Rattle.std.specs.Prelude.{◌≡◌, ◌≢◌, ℕ, ◌==◌, Bool, true, false, List, [], ◌∷◌, Option, Some, None, length, slice_get, if◌then◌else◌}
use Rattle.ja_class.specs.declared.first.FirstMethod.{FirstMethod}
use Rattle.ja_plain.specs.Least.{Each, Least}
use Rattle.ja_plain.specs.Equations.{Local, OnStack, Dirt, Exc, Assignment, Entry, At, Normal, Threw as ThrewFact, Rule}
use Rattle.ja_plain.specs.Verdict.{IsWarned, sites_from}
use Rattle.ja_plain.specs.State.{Value, Null, Ref, Object, Frame, Event}
use Rattle.ja_plain.specs.Reach.{tainted, tainted_if}
use Rattle.ja_plain.specs.Run.{Began, Point, Outcome, Returned, Threw, Stuck, Cut, run, start}
use Rattle.ja_plain.specs.Environment.{Action, EnvironmentObject, State, Idle, Over, may_pass, program_run, events_in}

-- the value under which so many lie, on a stack whose topmost is first
abbrev pub from_bottom : List Value → ℕ → Option Value
from_bottom [] k = None
from_bottom (v ∷ vs) k = if k == length vs then Some v else from_bottom vs k

-- a frame's assignment: a slot is true exactly if its value is tainted
abbrev pub truth : List Object → Frame → Assignment
truth heap f (Local n) = tainted_if heap (slice_get f.locals n)
truth heap f (OnStack k) = tainted_if heap (from_bottom f.stack k)
truth heap f Dirt = f.dirt
truth heap f Exc = false

-- the arguments that were tainted when a method began
abbrev pub entry_of : Began → Entry
entry_of began k = tainted_if began.heap (slice_get began.arguments k)

-- there is an innermost frame, and its assignment is a fact before its instruction, under what was tainted when it began
abbrev pub InnermostCovered : FirstMethod → List Point → List Object → Type 0
InnermostCovered m [] heap = ⊥
InnermostCovered m (x ∷ callers) heap = Least (Rule m) (At x.index (entry_of x.began) (truth heap x.frame))

-- a call that returned or threw did so as a fact says, and one that was stuck or cut stands at a fact
abbrev pub OutcomeCovered : FirstMethod → Began → Outcome → Type 0
OutcomeCovered m began (Returned value dirt w left) =
    Least (Rule m) (Normal (entry_of began) (record { result = tainted_if w.heap value; dirt = dirt; exc = false }))
OutcomeCovered m began (Threw place dirt w left) =
    Least (Rule m) (ThrewFact (entry_of began) (record { result = false; dirt = dirt; exc = tainted w.heap (Ref place) }))
OutcomeCovered m began (Stuck frames w) = InnermostCovered m frames w.heap
OutcomeCovered m began (Cut frames w) = InnermostCovered m frames w.heap

-- the environment may call `main` with this value: null, or one of its objects that fits and is not noted
pub data MayPass (heap : List Object) (objects : List EnvironmentObject) : Value → Type 0 where
  null : MayPass heap objects Null
  object : (k : ℕ) (e : EnvironmentObject) → slice_get objects k ≡ Some e → may_pass heap e ≡ true → MayPass heap objects (Ref e.place)

-- every call that the environment may make now is covered, at every moment; so is one that has ended the run
abbrev pub IsCovered : FirstMethod → State → Type 0
IsCovered m (Idle heap objects events) =
    (v : Value) (bound : ℕ) (choices : List ℕ) → MayPass heap objects v → OutcomeCovered m (record { arguments = v ∷ []; heap = heap }) (run m bound (start m (v ∷ []) heap) (record { heap = heap; choices = choices; events = events }))
IsCovered m (Over frames w) = InnermostCovered m frames w.heap

-- a site at which an event lists a position is warned
abbrev pub EventsWarned : FirstMethod → List Event → Type 0
EventsWarned m events = Each (λ e. e.positions ≢ [] → IsWarned m e.site) events

-- no program run has an event at this place that lists a position
abbrev pub NeverListed : FirstMethod → ℕ → Type 0
NeverListed m i = (actions : List Action) → Each (λ e. e.site ≡ i → e.positions ≡ []) (events_in (program_run m actions))

-- where the flag of a site is false, no program run passes it a tainted value at a listed position
abbrev pub AreCleanAt : FirstMethod → List ℕ → List Bool → Type 0
AreCleanAt m [] flags = Unit {0}
AreCleanAt m (i ∷ is) [] = ⊥
AreCleanAt m (i ∷ is) (flag ∷ flags) = (flag ≡ false → NeverListed m i) × AreCleanAt m is flags

-- the same for all sink calls of the method, in the order of their pcs
abbrev pub AreClean : FirstMethod → List Bool → Type 0
AreClean m flags = AreCleanAt m (sites_from 0 m.code) flags
