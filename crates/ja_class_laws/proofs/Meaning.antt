-- What the facts of a network mean: facts of class sets and of the call graph.
use Rattle.std.proofs.Common.{◌≡◌, ℕ, ◌+◌, ◌-◌, true, List}
use Rattle.std.specs.Prelude.{Some, slice_get, nat_lt, if◌then◌else◌}
use Rattle.ja_base.specs.declared.java_type.JavaType.{JavaType}
use Rattle.ja_ir.specs.declared.program.Parts.{Parts}
use Rattle.ja_ir.specs.declared.method.Method.{Method}
use Rattle.ja_ir.specs.declared.op.CallOp.{CallOp}
use Rattle.ja_ir.specs.declared.op.Op.{Op}
use Rattle.ja_ir.specs.declared.op.Op.TheVariants.{Cast}
use Rattle.ja_ir.specs.Lookup.{OpAt, Leads}
use Rattle.ja_ir.specs.Operations.{pops, is_dispatched}
use Rattle.ja_ir.specs.Tokens.{fits, absorbs}
use Rattle.ja_ir.specs.Params.{HasParam}
use Rattle.ja_facts.specs.Least.{Each}
use Rattle.ja_facts.specs.Slots.{Slot, Local, OnStack, CallAt, argument}
use Rattle.ja_facts.specs.ClassSets.{Fact as ClassFact, InEnv, InSlot, InThrown, InParam, InResult, InOut, InField, InBag, CallsMethod, Spans, Takes, HasReference}
use Rattle.ja_facts.specs.ClassSets as class_sets
use Rattle.ja_facts.specs.Analyses.{Classes}
use Rattle.ja_network.specs.declared.cell.Cell.{Cell}
use Rattle.ja_network.specs.declared.cell.Cell.TheVariants.{Nothing, Environment, Single, Field, Bag, Span, Param, Answer, Out, Thrown, Takers, Pushed, Before}
use Rattle.ja_network.specs.declared.cell.Action.{Action}
use Rattle.ja_network.specs.declared.cell.Action.TheVariants.{Copy, Check, Enter, Return, Dispatch, Throw, Source, Take, Fill, Lead, Expand, Stock}
use Rattle.ja_network.specs.declared.cell.Event.{Event}
use Rattle.ja_network.specs.declared.cell.Event.TheVariants.{Reached, Calls, CallsAbstract, CallsLibrary, Spanned, Linked}
use Rattle.ja_network.specs.Facts.{Fact, HasToken, Happens as ItHappens}
use Rattle.ja_cells.specs.Names.{locals_of}
use Rattle.ja_constraints.specs.declared.constraint.Constraint.{Constraint}
use Rattle.ja_constraints.specs.declared.constraint.Constraint.TheVariants.{Has, Happens}
use Rattle.ja_constraints.specs.Links.{link}

-- the slot of a number
abbrev pub slot_of : Parts → (m z : ℕ) → Slot
slot_of p m z = if nat_lt z (locals_of (slice_get p.methods m)) then Local z else OnStack (z - locals_of (slice_get p.methods m))

-- what it means that a cell has a token
abbrev pub MeansToken : Parts → Cell → (t : ℕ) → Type 0
MeansToken p Nothing t = ⊥
MeansToken p Environment t = Classes p (InEnv t)
MeansToken p (Single s) t = t ≡ s
MeansToken p (Field f) t = Classes p (InField f t)
MeansToken p (Bag b) t = Classes p (InBag b t)
MeansToken p (Span s) t = Classes p (Spans s t)
MeansToken p (Param m k) t = Classes p (InParam m k t)
MeansToken p (Answer m) t = Classes p (InResult m t)
MeansToken p (Out m) t = Classes p (InOut m t)
MeansToken p (Thrown m i) t = Classes p (InThrown m i t)
MeansToken p (Takers m i) t = Classes p (Takes m i t)
MeansToken p (Pushed m i) t = (j height under : ℕ) (op : Op) → OpAt p m i op height → height ≡ under + pops op → Leads p m i j → Classes p (InSlot m j (OnStack under) t)
MeansToken p (Before m j z) t = Classes p (InSlot m j (slot_of p m z) t)

-- what it means that something is done with a token
abbrev pub MeansDone : Parts → Action → (t : ℕ) → Type 0
MeansDone p (Copy to) t = MeansToken p to t
MeansDone p (Check m i) t = (name : List ℕ) (height : ℕ) → OpAt p m i (Cast name) height → fits p t name ≡ true → MeansToken p (Pushed m i) t
MeansDone p (Enter m k) t = (method : Method) (type : JavaType) → slice_get p.methods m ≡ Some method → HasParam method k type → fits p t type.name ≡ true → MeansToken p (Param m k) t
MeansDone p (Return m i) t = (under : ℕ) (call : CallOp) (type : JavaType) → CallAt p m i call under → HasReference call type → fits p t type.name ≡ true → MeansToken p (Pushed m i) t
MeansDone p (Dispatch m i) t =
    Classes p (class_sets.Reached m i) × ((under : ℕ) (call : CallOp) → CallAt p m i call under → (is_dispatched call.kind ≡ true) × Classes p (InSlot m i (argument under 0) t))
MeansDone p (Throw m i) t = Classes p (class_sets.Reached m i) × Classes p (InThrown m i t)
MeansDone p (Source m i) t = (b : ℕ) → Classes p (Spans t b) → absorbs p b ≡ true → Classes p (Takes m i b)
MeansDone p (Take m i) t = absorbs p t ≡ true → Classes p (Takes m i t)
MeansDone p (Fill m i) t = Classes p (class_sets.Reached m i) × Classes p (Takes m i t)
MeansDone p (Lead m i) t = (u under : ℕ) (call : CallOp) (type : JavaType) → Classes p (Spans t u) → CallAt p m i call under → HasReference call type → fits p u type.name ≡ true
    → MeansToken p (Pushed m i) u
MeansDone p (Expand s) t = Classes p (Spans s t)
MeansDone p Stock t = Classes p (InEnv t)

-- what it means that an event happens
abbrev pub MeansEvent : Parts → Event → Type 0
MeansEvent p (Reached m i) = Classes p (class_sets.Reached m i)
MeansEvent p (Calls m i n) = Classes p (class_sets.Reached m i) × Classes p (CallsMethod m i n)
MeansEvent p (CallsAbstract m i n) = Classes p (class_sets.Reached m i) × Classes p (class_sets.CallsAbstract m i n)
MeansEvent p (CallsLibrary m i) = Classes p (class_sets.Reached m i) × Classes p (class_sets.CallsLibrary m i)
MeansEvent p (Spanned t) = Unit {0}
MeansEvent p (Linked c a) = (t : ℕ) → MeansToken p c t → MeansDone p a t

-- what a fact of a network means
abbrev pub Means : Parts → Fact → Type 0
Means p (HasToken c t) = MeansToken p c t
Means p (ItHappens e) = MeansEvent p e

-- the same of what is told
abbrev pub Good : Parts → Constraint → Type 0
Good p (Has c t) = MeansToken p c t
Good p (Happens e) = MeansEvent p e

-- a link that is told means that what it does with each token of its cell is meant
pub good-link : (p : Parts) (c : Cell) (a : Action) → ((t : ℕ) → MeansToken p c t → MeansDone p a t) → Each (Good p) (link c a)
good-link p Nothing a each = tt
good-link p Environment a each = (each, tt)
good-link p (Single s) a each = (each, tt)
good-link p (Field n) a each = (each, tt)
good-link p (Bag b) a each = (each, tt)
good-link p (Span s) a each = (each, tt)
good-link p (Param m k) a each = (each, tt)
good-link p (Answer m) a each = (each, tt)
good-link p (Out m) a each = (each, tt)
good-link p (Thrown m i) a each = (each, tt)
good-link p (Takers m i) a each = (each, tt)
good-link p (Pushed m i) a each = (each, tt)
good-link p (Before m i z) a each = (each, tt)
