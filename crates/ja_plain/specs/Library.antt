-- What a library call does, by its row.
use Rattle.std.specs.Prelude.{ℕ, zero, suc, ◌+◌, ◌||◌, Bool, true, false, List, [], ◌∷◌, Option, Some, None, length, slice_get, filter, if◌then◌else◌}
use Rattle.std.specs.List.{list_any}
use Rattle.ja_plain.specs.Token.{Token, Text, Lib, ReferenceArray, PrimitiveArray, absorbs}
use Rattle.ja_plain.specs.Operation.{Effect, Quiet, Absorb, Blend, Returns, Fresh, Self, Member, Any, ResultType, Primitive, ArrayOfPrimitives, ArrayOf, StringClass, ObjectClass, LibraryClass, ProgramClass, LibraryCall, flow_of, if_effect}
use Rattle.ja_plain.specs.State.{Value, Prim, Null, Ref, Object, Frame, World, Made, decide, first_way, make, change_at, raise, put_in_bag}
use Rattle.ja_plain.specs.Reach.{places_of, all_links, bag_links, links_at, reaches, below, tainted}

-- what one operation comes to: the frame goes on, or it throws an object, or it ends with a value or none, or no rule allows the operation
pub data Next : Type 0 where
  Goes : (frame : Frame) (world : World) → Next
  Throws : (place : ℕ) (frame : Frame) (world : World) → Next
  Ends : (value : Option Value) (frame : Frame) (world : World) → Next
  NoRule : Next

-- an object of this token may stand where this type is asked for
abbrev pub fits : Token → ResultType → Bool
fits token Primitive = false
fits PrimitiveArray ArrayOfPrimitives = true
fits token ArrayOfPrimitives = false
fits ReferenceArray (ArrayOf t) = true
fits token (ArrayOf t) = false
fits Text StringClass = true
fits Lib StringClass = true
fits token StringClass = false
fits token ObjectClass = true
fits token LibraryClass = true
fits token ProgramClass = false

-- there is an object, and it may stand where this type is asked for
abbrev pub object_fits : ResultType → Option Object → Bool
object_fits type None = false
object_fits type (Some o) = fits o.token type

-- the object at a place may stand where this type is asked for
abbrev pub fits_at : List Object → ResultType → ℕ → Bool
fits_at heap type place = object_fits type (slice_get heap place)

-- the object at a place has a bag that calls may fill
abbrev pub absorbs_at : List Object → ℕ → Bool
absorbs_at heap place = elim (slice_get heap place) [ None ↦ false | Some o ↦ absorbs o.token ]

-- an array of references to what was made, or of nothing where that is null
abbrev pub array_of : Bool → Made → Made
array_of mark made = make ReferenceArray mark (places_of (made.value ∷ [])) made.world

-- a new value of a type, each of its objects with this mark. Nothing makes an object of a program's class
abbrev pub fresh : ResultType → Bool → World → Made
fresh Primitive mark w = record { value = Prim mark; world = w }
fresh ArrayOfPrimitives mark w = make PrimitiveArray mark [] w
fresh (ArrayOf t) mark w = array_of mark (fresh t mark w)
fresh StringClass mark w = make Text mark [] w
fresh ObjectClass mark w =
    decide 3 w (λ way u. elim way [
      | zero ↦ make Lib mark [] u
      | suc k ↦ first_way k (make PrimitiveArray mark [] u) (array_of mark (make Lib mark [] u))
    ])
fresh LibraryClass mark w = make Lib mark [] w
fresh ProgramClass mark w = record { value = Null; world = w }

-- one of the values is tainted
abbrev pub some_tainted : List Object → List Value → Bool
some_tainted heap args = list_any (tainted heap) args

-- for each argument that is a reference, the bag takes it or not
abbrev pub take_each : ℕ → List ℕ → World → World
take_each place [] w = w
take_each place (r ∷ rs) w = decide 2 w (λ way u. take_each place rs (first_way way u (change_at place (put_in_bag r) u)))

-- the mark of a picked object rises by the flow or not, and its bag takes some arguments
abbrev pub change_picked : Bool → List ℕ → ℕ → World → World
change_picked flow refs place w = decide 2 w (λ way u. take_each place refs (first_way way u (change_at place (raise flow) u)))

-- each of the objects is picked or not
abbrev pub change_each : Bool → List ℕ → List ℕ → World → World
change_each flow refs [] w = w
change_each flow refs (c ∷ cs) w = decide 2 w (λ way u. change_each flow refs cs (first_way way u (change_picked flow refs c u)))

-- the places that one of these values reaches through such links
abbrev pub reached_from : (Object → List ℕ) → List Object → List Value → List ℕ
reached_from links heap values =
    filter (λ c. list_any (λ a. reaches links heap a c) (places_of values)) (below (length heap))

-- the first argument, if it is a receiver
abbrev pub receiver_of : Bool → List Value → List Value
receiver_of receiver [] = []
receiver_of receiver (v ∷ vs) = if receiver then v ∷ [] else []

-- the objects that a call may change, in the order of their places
abbrev pub may_change : LibraryCall → Effect → List Object → List Value → List ℕ
may_change c Quiet heap args = []
may_change c Absorb heap args = filter (absorbs_at heap) (reached_from bag_links heap (receiver_of c.receiver args))
may_change c Blend heap args = filter (absorbs_at heap) (reached_from all_links heap args)

-- the frame with one more stack value
abbrev pub pushed : Value → Frame → Frame
pushed v f = record { locals = f.locals; stack = v ∷ f.stack; dirt = f.dirt }

-- the frame goes on with what was made on its stack
abbrev pub pushes : Frame → Made → Next
pushes f made = Goes (pushed made.value f) made.world

-- a returned object must fit the result's type
abbrev pub returns_value : ResultType → Value → Frame → World → Next
returns_value type (Prim mark) f w = Goes (pushed (Prim mark) f) w
returns_value type Null f w = Goes (pushed Null f) w
returns_value type (Ref place) f w = if fits_at w.heap type place then Goes (pushed (Ref place) f) w else NoRule

-- the first argument is returned, or null where there is none
abbrev pub returns_first : ResultType → List Value → Frame → World → Next
returns_first type [] f w = Goes (pushed Null f) w
returns_first type (v ∷ vs) f w = returns_value type v f w

-- a reference to one of the places
abbrev pub value_at : List ℕ → ℕ → Value
value_at places k = elim (slice_get places k) [ None ↦ Null | Some place ↦ Ref place ]

-- null, a new object, or one of these that fits
abbrev pub returns_one : ResultType → Bool → List ℕ → Frame → World → Next
returns_one type flow places f w =
    let fitting : List ℕ = filter (fits_at w.heap type) places in
    decide (2 + length fitting) w (λ way u. elim way [
      | zero ↦ Goes (pushed Null f) u
      | suc k ↦ elim k [ zero ↦ pushes f (fresh type flow u) | suc j ↦ Goes (pushed (value_at fitting j) f) u ]
    ])

-- the places of what the first argument's object holds: those that one or more links through bags reach
abbrev pub held_by_first : List Object → List Value → List ℕ
held_by_first heap [] = []
held_by_first heap (v ∷ vs) =
    filter (λ c. list_any (λ a. list_any (λ b. reaches bag_links heap b c) (links_at bag_links heap a)) (places_of (v ∷ []))) (below (length heap))

-- the result of a call whose row returns such values
abbrev pub returns_by : ResultType → Returns → Bool → List Value → Frame → World → Next
returns_by Primitive returns flow args f w = Goes (pushed (Prim flow) f) w
returns_by type Fresh flow args f w = pushes f (fresh type flow w)
returns_by type Self flow args f w = returns_first type args f w
returns_by type Member flow args f w = returns_one type flow (held_by_first w.heap args) f w
returns_by type Any flow args f w = returns_one type flow (reached_from all_links w.heap args) f w

-- the call returns: its result is pushed, unless its type is `void`
abbrev pub returns_result : LibraryCall → Option ResultType → Bool → List Value → Frame → World → Next
returns_result c None flow args f w = Goes f w
returns_result c (Some type) flow args f w = returns_by type c.row.returns flow args f w

-- a new object of the library is thrown
abbrev pub throws_new : Bool → Frame → World → Next
throws_new mark f w = Throws (length w.heap) f (make Lib mark [] w).world

-- the third part of a call: it returns, or it throws
abbrev pub returns_or_throws : LibraryCall → Bool → List Value → Frame → World → Next
returns_or_throws c flow args f w =
    decide 2 w (λ way u. first_way way (returns_result c c.result flow args f u) (throws_new flow f u))

-- the frame, whose dirt may have risen
abbrev pub with_dirt : Bool → Frame → Frame
with_dirt dirt f = record { locals = f.locals; stack = f.stack; dirt = f.dirt || dirt }

-- the call of a library method with these arguments, the first one first, which are no longer on the frame's stack
abbrev pub library : LibraryCall → List Value → Frame → World → Next
library c args f w =
    let some : Bool = some_tainted w.heap args in
    let flow : Bool = flow_of c.row.flow some in
    returns_or_throws c flow args (with_dirt (if_effect c.row.effect (flow || some)) f) (change_each flow (places_of args) (may_change c c.row.effect w.heap args) w)

-- a call on null throws, one on a primitive has no rule
abbrev pub calls_on : Bool → LibraryCall → List Value → Frame → World → Next
calls_on false c args f w = library c args f w
calls_on true c [] f w = NoRule
calls_on true c (Prim mark ∷ args) f w = NoRule
calls_on true c (Null ∷ args) f w = throws_new false f w
calls_on true c (Ref place ∷ args) f w = library c (Ref place ∷ args) f w
