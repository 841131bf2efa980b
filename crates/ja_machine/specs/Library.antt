-- Calls of the library, by their rows: the flow, then the effect, then an exception or the result.
use Rattle.std.specs.Prelude.{ℕ, zero, suc, ◌+◌, ◌&&◌, Bool, false, List, [], ◌∷◌, Option, Some, None, length, slice_get, if◌then◌else◌}
use Rattle.std.specs.List.{list_any}
use Rattle.ja_base.specs.declared.java_type.Kind.{Kind}
use Rattle.ja_base.specs.declared.java_type.Kind.TheVariants.{R}
use Rattle.ja_base.specs.declared.java_type.JavaType.{JavaType}
use Rattle.ja_ir.specs.declared.program.Parts.{Parts}
use Rattle.ja_ir.specs.declared.op.CallOp.{CallOp}
use Rattle.ja_ir.specs.declared.row.RowFlow.{RowFlow}
use Rattle.ja_ir.specs.declared.row.RowFlow.TheVariants.{Always, Never, Args}
use Rattle.ja_ir.specs.declared.row.RowEffect.{RowEffect}
use Rattle.ja_ir.specs.declared.row.RowEffect.TheVariants.{Quiet, Absorb, Blend}
use Rattle.ja_ir.specs.declared.row.RowResult.{RowResult}
use Rattle.ja_ir.specs.declared.row.RowResult.TheVariants.{Fresh, Argument, Member, Any}
use Rattle.ja_ir.specs.Operations.{has_receiver}
use Rattle.ja_ir.specs.Tokens.{absorbs, fits}
use Rattle.ja_machine.specs.declared.heap.Value.{Value}
use Rattle.ja_machine.specs.declared.heap.Value.TheVariants.{Prim, Null, Ref}
use Rattle.ja_machine.specs.declared.heap.Object.{Object}
use Rattle.ja_machine.specs.Marks.{none, union, set_of}
use Rattle.ja_machine.specs.Reach.{links, bag_links, references, all_taints, is_reached, places_from}
use Rattle.ja_machine.specs.State.{Frame, World, Next, Goes, NoRule, dirtied, changed, way, after_choice, decide, either}
use Rattle.ja_machine.specs.Objects.{fresh}
use Rattle.ja_machine.specs.Step.{throws_new, pushes, pushes_made, object_grown, with_object_at}

-- the marks that the call gives to what it makes, where some argument is tainted in these categories: the row's marks and these, none, or these
abbrev pub flow_of : RowFlow → (marks tainted : ℕ) → ℕ
flow_of Always marks tainted = union marks tainted
flow_of Never marks tainted = none
flow_of Args marks tainted = tainted

-- the first argument, or null where there is none
abbrev pub first_of : List Value → Value
first_of [] = Null
first_of (value ∷ values) = value

-- the receiver, where the call has one
abbrev pub receiver_of : CallOp → (args : List Value) → List Value
receiver_of call [] = []
receiver_of call (value ∷ values) = if has_receiver call.kind then value ∷ [] else []

-- some of the places reaches this one by links of this kind
abbrev pub is_reached_from : (out : Object → List ℕ) (heap : List Object) → (starts : List ℕ) (place : ℕ) → Bool
is_reached_from out heap starts place = list_any (λ start. is_reached out heap start place) starts

-- the places of the absorbing objects that some start reaches by links of this kind, in ascending order
abbrev pub absorbing_places : Parts → (out : Object → List ℕ) (heap : List Object) → (starts : List ℕ) → List ℕ
absorbing_places p out heap starts = places_from 0 (λ place object. absorbs p object.token.0 && is_reached_from out heap starts place) heap

-- the places of the objects that the effect may pick: those that the receiver reaches through bags, or those that some argument reaches
abbrev pub candidates : Parts → CallOp → RowEffect → (args : List Value) → (heap : List Object) → List ℕ
candidates p call Quiet args heap = []
candidates p call Absorb args heap = absorbing_places p bag_links heap (references (receiver_of call args))
candidates p call Blend args heap = absorbing_places p links heap (references args)

-- what choices pick of a list, and the choices that are left
pub record Picked : Type 0 where
  pub places : List ℕ
  pub choices : List ℕ

-- a place is picked or not, beside what is picked of the rest
abbrev pub picked_or_not : (way : ℕ) (place : ℕ) → (rest : Picked) → Picked
picked_or_not zero place rest = rest
picked_or_not (suc k) place rest = record { places = place ∷ rest.places; choices = rest.choices }

-- each place is picked or not, by a choice each
abbrev pub picked : (places : List ℕ) → (choices : List ℕ) → Picked
picked [] choices = record { places = []; choices = choices }
picked (place ∷ places) choices = picked_or_not (way 2 choices) place (picked places (after_choice choices))

-- the world after the object at a place took those of the arguments that choices pick, and these marks
abbrev pub grown_by : (mark : ℕ) (place : ℕ) → Object → Picked → World → World
grown_by mark place object it world = changed (with_object_at place (object_grown mark it.places object)) (record { choices = it.choices; store = world.store })

-- the world after an object grew, where there is one: its marks rise or not, and its bag takes any of the places, all by choice
abbrev pub grown : (mark : ℕ) (places : List ℕ) → (place : ℕ) → Option Object → World → World
grown mark places place None world = world
grown mark places place (Some object) world =
    grown_by (either (way 2 world.choices) none mark) place object (picked places (after_choice world.choices)) world

-- the world after the objects at these places grew, one after the other
abbrev pub all_grown : (mark : ℕ) (places : List ℕ) → (candidates : List ℕ) → World → World
all_grown mark places [] world = world
all_grown mark places (place ∷ candidates) world = all_grown mark places candidates (grown mark places place (slice_get world.store.heap place) world)

-- the effect: those of the candidates that choices pick grow
abbrev pub affected : (mark : ℕ) (places : List ℕ) → (candidates : Picked) → World → World
affected mark places candidates world = all_grown mark places candidates.places (record { choices = candidates.choices; store = world.store })

-- the categories by which the effect lets the caller's dirt rise
abbrev pub stored_taint : RowEffect → (flow tainted : ℕ) → ℕ
stored_taint Quiet flow tainted = none
stored_taint Absorb flow tainted = union flow tainted
stored_taint Blend flow tainted = union flow tainted

-- the object at a place fits a type of this name
abbrev pub fits_at : Parts → (name : List ℕ) → Option Object → Bool
fits_at p name None = false
fits_at p name (Some object) = fits p object.token.0 name

-- the places to which the bag of the object at the first start leads
abbrev pub after_one : (heap : List Object) → (starts : List ℕ) → List ℕ
after_one heap [] = []
after_one heap (start ∷ starts) = bag_at (slice_get heap start)
  where
    bag_at : Option Object → List ℕ
    bag_at None = []
    bag_at (Some object) = object.bag

-- the places of the objects that fit a type of this name and that some start reaches by links of this kind, in ascending order
abbrev pub fitting_places : Parts → (name : List ℕ) → (out : Object → List ℕ) (heap : List Object) → (starts : List ℕ) → List ℕ
fitting_places p name out heap starts = places_from 0 (λ place object. fits p object.token.0 name && is_reached_from out heap starts place) heap

-- a reference to the object at a place, where there is one
abbrev pub pushes_place : Option ℕ → Frame → World → Next
pushes_place None frame world = NoRule
pushes_place (Some place) frame world = pushes (Ref place) frame world

-- the way that was picked: null, something fresh, or one of these places
abbrev pub pushes_way : Parts → JavaType → (flow : ℕ) (places : List ℕ) → Frame → World → ℕ → Next
pushes_way p type flow places frame world zero = pushes Null frame world
pushes_way p type flow places frame world (suc zero) = pushes_made frame (fresh p type flow world)
pushes_way p type flow places frame world (suc (suc k)) = pushes_place (slice_get places k) frame world

-- null, something fresh, or one of these places, by choice
abbrev pub pushes_one_of : Parts → JavaType → (flow : ℕ) (places : List ℕ) → Frame → World → Next
pushes_one_of p type flow places frame world = decide (length places + 2) world (λ k rest. pushes_way p type flow places frame rest k)

-- the first argument as the result; an object must fit
abbrev pub pushes_first : Parts → (name : List ℕ) → Value → Frame → World → Next
pushes_first p name (Prim mark) frame world = pushes (Prim mark) frame world
pushes_first p name Null frame world = pushes Null frame world
pushes_first p name (Ref place) frame world = if fits_at p name (slice_get world.store.heap place) then pushes (Ref place) frame world else NoRule

-- a reference result by the row
abbrev pub pushes_result : Parts → RowResult → JavaType → (flow : ℕ) (args : List Value) → Frame → World → Next
pushes_result p Fresh type flow args frame world = pushes_made frame (fresh p type flow world)
pushes_result p Argument type flow args frame world = pushes_first p type.name (first_of args) frame world
pushes_result p Member type flow args frame world =
    pushes_one_of p type flow (fitting_places p type.name bag_links world.store.heap (after_one world.store.heap (references (first_of args ∷ [])))) frame world
pushes_result p Any type flow args frame world =
    pushes_one_of p type flow (fitting_places p type.name links world.store.heap (references args)) frame world

-- a result of a kind
abbrev pub pushes_of_kind : Parts → Kind → RowResult → JavaType → (flow : ℕ) (args : List Value) → Frame → World → Next
pushes_of_kind p R result type flow args frame world = pushes_result p result type flow args frame world
pushes_of_kind p _ result type flow args frame world = pushes (Prim flow) frame world

-- the normal end of a library call: a primitive result has the marks of the flow, and where there is no result nothing is pushed
abbrev pub ends_with : Parts → RowResult → Option JavaType → (flow : ℕ) (args : List Value) → Frame → World → Next
ends_with p result None flow args frame world = Goes frame world
ends_with p result (Some type) flow args frame world = pushes_of_kind p type.kind result type flow args frame world

-- after the effect the call throws a new library object with the marks of the flow by choice, or ends normally
abbrev pub throws_or_ends : Parts → CallOp → (flow : ℕ) (args : List Value) → Frame → World → Next
throws_or_ends p call flow args frame world =
    decide 2 world (λ k rest. either k (ends_with p call.row.result call.result flow args frame rest) (throws_new p flow frame rest))

-- a call of the library with these arguments, a receiver first
abbrev pub library : Parts → CallOp → (args : List Value) → Frame → World → Next
library p call args frame world =
    let tainted : ℕ = all_taints world.store.heap args in
    let flow : ℕ = flow_of call.row.flow (set_of call.row.marks) tainted in
    let places : Picked = picked (candidates p call call.row.effect args world.store.heap) world.choices in
    throws_or_ends p call flow args (dirtied (stored_taint call.row.effect flow tainted) frame) (affected flow (references args) places world)
