-- Program runs: any list of actions of the environment.
use Rattle.std.specs.Prelude.{ℕ, zero, suc, ◌+◌, ◌==◌, ◌&&◌, Bool, true, false, List, [], ◌∷◌, ◌++◌, Option, Some, None, length, slice_get, if◌then◌else◌}
use Rattle.std.specs.List.{list_any}
use Rattle.ja_base.specs.declared.id.MethodId.{MethodId}
use Rattle.ja_base.specs.declared.java_type.Kind.{Kind}
use Rattle.ja_base.specs.declared.java_type.Kind.TheVariants.{R}
use Rattle.ja_base.specs.declared.java_type.JavaType.{JavaType}
use Rattle.ja_ir.specs.declared.program.Parts.{Parts}
use Rattle.ja_ir.specs.declared.class.Field.{Field}
use Rattle.ja_ir.specs.declared.method.Method.{Method}
use Rattle.ja_ir.specs.declared.entry.Entry.{Entry}
use Rattle.ja_ir.specs.Lookup.{is_static, is_member}
use Rattle.ja_ir.specs.Entries.{constructor_of}
use Rattle.ja_ir.specs.Initializing.{inits_of_class}
use Rattle.ja_ir.specs.Tokens.{text_token, absorbs, fits}
use Rattle.ja_machine.specs.declared.heap.Value.{Value}
use Rattle.ja_machine.specs.declared.heap.Value.TheVariants.{Prim, Null, Ref}
use Rattle.ja_machine.specs.declared.heap.Object.{Object}
use Rattle.ja_machine.specs.Marks.{none, union, is_within, set_of}
use Rattle.ja_machine.specs.Reach.{links, is_reached}
use Rattle.ja_machine.specs.State.{Store, World, Event, Outcome, Returned, Threw, Stuck, Cut, Failed, changed, with_object}
use Rattle.ja_machine.specs.Objects.{default_of, new_object, Made, fresh}
use Rattle.ja_machine.specs.Step.{object_grown}
use Rattle.ja_machine.specs.Run.{call_run, store_in, events_in}

-- an object that the environment has: its place, and the categories in which it is noted: those of the marks that it was made with, and
-- those of the objects that were put into its bag when it was made
pub record Known : Type 0 where
  pub place : ℕ
  pub noted : ℕ

-- what the environment gives as an argument: a primitive, null, or one of its objects by its number
pub data Given : Type 0 where
  GivePrimitive : (mark : ℕ) → Given
  GiveNull : Given
  GiveObject : (k : ℕ) → Given

-- what the environment does. Each action that runs a method has its own bound and choices.
-- Initialize: it runs the k-th class initialiser of the class of an entry.
-- Create: it makes an object of the class of an entry, and runs its constructor.
-- Make: it makes something new of the type of an entry's parameter, with these marks; the bag of the k-th object made, where it is
-- absorbing, takes the environment's objects of these numbers.
-- CallEntry: it calls an entry.
pub data Action : Type 0 where
  Initialize : (entry k n : ℕ) (choices : List ℕ) → Action
  Create : (entry n : ℕ) (choices : List ℕ) → Action
  Make : (entry param : ℕ) (mark : ℕ) (takes : List (List ℕ)) (choices : List ℕ) → Action
  CallEntry : (entry : ℕ) (args : List Given) (n : ℕ) (choices : List ℕ) → Action

-- what stands between two actions
pub record Rest : Type 0 where
  pub heap : List Object
  pub statics : List Value
  pub events : List Event
  pub known : List Known

-- the state of a program run: between two actions, or ended by a call that was stuck or cut, or that failed
pub data State : Type 0 where
  Idle : (rest : Rest) → State
  Over : (outcome : Outcome) → State

-- what an action comes to: the environment may not do it; a value was made, and this stands then; or a method ran and came to this outcome,
-- after which the environment has these objects
pub data Attempt : Type 0 where
  Refused : Attempt
  MadeNew : (value : Value) (rest : Rest) → Attempt
  Ran : (known : List Known) (outcome : Outcome) → Attempt

-- the world in which an action begins: in it nothing was written yet
abbrev pub world_of : Rest → (choices : List ℕ) → World
world_of rest choices = record {
  choices = choices;
  store = record { heap = rest.heap; statics = rest.statics; written = []; set = []; events = rest.events };
}

-- what stands after an action that ended with this store
abbrev pub rest_of : Store → List Known → Rest
rest_of store known = record { heap = store.heap; statics = store.statics; events = store.events; known = known }

-- a class initialiser is run
abbrev pub initialized_by : Parts → Rest → (n : ℕ) (choices : List ℕ) → Option MethodId → Attempt
initialized_by p rest n choices None = Refused
initialized_by p rest n choices (Some m) = Ran rest.known (call_run p m.0 [] (world_of rest choices) n)

-- a class initialiser of the class of an entry is run
abbrev pub initialized : Parts → Rest → (k n : ℕ) (choices : List ℕ) → Option Entry → Attempt
initialized p rest k n choices None = Refused
initialized p rest k n choices (Some entry) = initialized_by p rest n choices (slice_get (inits_of_class (slice_get p.classes entry.class.0)) k)

-- the world with a new object of a class
abbrev pub with_new : Parts → (c : ℕ) → World → World
with_new p c world = changed (with_object (new_object p c none [])) world

-- an object of the class is made and its constructor is run
abbrev pub constructed : Parts → Rest → (c n : ℕ) (choices : List ℕ) → Option ℕ → Attempt
constructed p rest c n choices None = Refused
constructed p rest c n choices (Some m) =
    Ran (rest.known ++ record { place = length rest.heap; noted = none } ∷ [])
    (call_run p m (Ref (length rest.heap) ∷ []) (with_new p c (world_of rest choices)) n)

-- the method of an entry, where it is not static
abbrev pub takes_receiver : Option Method → Bool
takes_receiver None = false
takes_receiver (Some method) = is_member method.flags

-- an object of the class of an entry is made, where the entry's method is not static
abbrev pub created : Parts → Rest → (n : ℕ) (choices : List ℕ) → Option Entry → Attempt
created p rest n choices None = Refused
created p rest n choices (Some entry) =
    if takes_receiver (slice_get p.methods entry.method.0)
    then constructed p rest entry.class.0 n choices (constructor_of p entry.class.0)
    else Refused

-- the place of an object, where there is one, before others
abbrev pub place_and : Option Known → (others : List ℕ) → List ℕ
place_and None others = others
place_and (Some it) others = it.place ∷ others

-- the places of the environment's objects of these numbers, where it has them
abbrev pub known_places : List Known → (numbers : List ℕ) → List ℕ
known_places known [] = []
known_places known (k ∷ numbers) = place_and (slice_get known k) (known_places known numbers)

-- an object whose bag takes these places, where it is absorbing
abbrev pub absorbing : Parts → (places : List ℕ) → Object → Object
absorbing p places object = if absorbs p object.token.0 then object_grown none places object else object

-- the objects that were made last, of which each absorbing one takes what it is given
abbrev pub taking : Parts → List Known → (takes : List (List ℕ)) → List Object → List Object
taking p known takes [] = []
taking p known [] (object ∷ objects) = object ∷ objects
taking p known (numbers ∷ takes) (object ∷ objects) = absorbing p (known_places known numbers) object ∷ taking p known takes objects

-- the objects of a heap after the absorbing ones, from a place on, took what they are given
abbrev pub taking_from : Parts → List Known → (takes : List (List ℕ)) → (place : ℕ) → List Object → List Object
taking_from p known takes zero heap = taking p known takes heap
taking_from p known takes (suc place) [] = []
taking_from p known takes (suc place) (object ∷ heap) = object ∷ taking_from p known takes place heap

-- the categories in which those are noted that the object at a place reaches
abbrev pub noted_reached : (heap : List Object) → List Known → (place : ℕ) → ℕ
noted_reached heap [] place = none
noted_reached heap (it ∷ known) place =
    if is_reached links heap place it.place then union it.noted (noted_reached heap known place) else noted_reached heap known place

-- the environment's objects after one was made: it is noted in the categories of its marks and of the noted objects that it reaches
abbrev pub known_with : (heap : List Object) → List Known → (mark : ℕ) → Value → List Known
known_with heap known mark (Ref place) = known ++ record { place = place; noted = union mark (noted_reached heap known place) } ∷ []
known_with heap known mark _ = known

-- what was made takes what it is given, and the environment has it then
abbrev pub made_in : Parts → Rest → (mark : ℕ) (takes : List (List ℕ)) → Made → Attempt
made_in p rest mark takes made =
    let heap : List Object = taking_from p rest.known takes (length rest.heap) made.world.store.heap in
    MadeNew made.value (record { heap = heap; statics = rest.statics; events = rest.events; known = known_with heap rest.known mark made.value })

-- something new of a type is made; of a primitive type, or of a program class, no object is
abbrev pub made_of_type : Parts → Rest → (mark : ℕ) (takes : List (List ℕ)) (choices : List ℕ) → Option JavaType → Attempt
made_of_type p rest mark takes choices None = Refused
made_of_type p rest mark takes choices (Some type) = made_in p rest mark takes (fresh p type mark (world_of rest choices))

-- the types of the parameters of a method, if there is one, without a receiver
abbrev pub params_at : Option Method → List JavaType
params_at None = []
params_at (Some method) = method.types.params

-- the types of the parameters of an entry, without a receiver
abbrev pub entry_params : Parts → Entry → List JavaType
entry_params p entry = params_at (slice_get p.methods entry.method.0)

-- something new of the type of an entry's parameter is made
abbrev pub made : Parts → Rest → (param : ℕ) (mark : ℕ) (takes : List (List ℕ)) (choices : List ℕ) → Option Entry → Attempt
made p rest param mark takes choices None = Refused
made p rest param mark takes choices (Some entry) = made_of_type p rest mark takes choices (slice_get (entry_params p entry) param)

-- the position is one that the entry's row marks
abbrev pub is_marked_position : Entry → (position : ℕ) → Bool
is_marked_position entry position = list_any (λ k. k == position) entry.marked

-- the categories in which a position may be given something marked: those of the entry's row where it marks the position
abbrev pub allowed : Entry → (position : ℕ) → ℕ
allowed entry position = if is_marked_position entry position then set_of entry.marks else none

-- the token of the object at a place passes the test
abbrev pub token_at : List Object → (place : ℕ) → (test : ℕ → Bool) → Bool
token_at heap place test = test_token (slice_get heap place)
  where
    test_token : Option Object → Bool
    test_token None = false
    test_token (Some object) = test object.token.0

-- one of the environment's objects may go to a position where its token passes the test and the position may get what it is noted in
abbrev pub may_give : Entry → (heap : List Object) → (position : ℕ) → (test : ℕ → Bool) → Option Known → Option Value
may_give entry heap position test None = None
may_give entry heap position test (Some it) =
    if token_at heap it.place test && is_within it.noted (allowed entry position) then Some (Ref it.place) else None

-- the value of what is given for a parameter of a kind, where it may be given
abbrev pub given_value : Parts → Entry → Rest → (position : ℕ) → Kind → (name : List ℕ) → Given → Option Value
given_value p entry rest position R name GiveNull = Some Null
given_value p entry rest position R name (GiveObject k) = may_give entry rest.heap position (λ token. fits p token name) (slice_get rest.known k)
given_value p entry rest position R name (GivePrimitive mark) = None
given_value p entry rest position _ name (GivePrimitive mark) = if is_within mark (allowed entry position) then Some (Prim mark) else None
given_value p entry rest position _ name _ = None

-- a value before others, where there are both
abbrev pub and_also : Option Value → Option (List Value) → Option (List Value)
and_also (Some value) (Some values) = Some (value ∷ values)
and_also _ _ = None

-- the values of what is given for parameters, from this position on; none where something may not be given, or their numbers differ
abbrev pub given_values : Parts → Entry → Rest → (position : ℕ) → List JavaType → List Given → Option (List Value)
given_values p entry rest position [] [] = Some []
given_values p entry rest position (type ∷ params) (it ∷ given) =
    and_also (given_value p entry rest position type.kind type.name it) (given_values p entry rest (position + 1) params given)
given_values p entry rest position _ _ = None

-- the receiver is one of the environment's objects, of exactly the entry's class
abbrev pub given_receiver : Entry → Rest → Given → Option Value
given_receiver entry rest (GiveObject k) = may_give entry rest.heap 0 (λ token. token == entry.class.0) (slice_get rest.known k)
given_receiver entry rest _ = None

-- the arguments of a call of an entry, a receiver first where its method is not static
abbrev pub given_args : Parts → Entry → Rest → (member : Bool) → List Given → Option (List Value)
given_args p entry rest false given = given_values p entry rest 0 (entry_params p entry) given
given_args p entry rest true [] = None
given_args p entry rest true (it ∷ given) = and_also (given_receiver entry rest it) (given_values p entry rest 1 (entry_params p entry) given)

-- a method is called with these arguments, where they may be given
abbrev pub called_with : Parts → Rest → (m n : ℕ) (choices : List ℕ) → Option (List Value) → Attempt
called_with p rest m n choices None = Refused
called_with p rest m n choices (Some args) = Ran rest.known (call_run p m args (world_of rest choices) n)

-- an entry is called, where what is given may be given
abbrev pub called : Parts → Rest → List Given → (n : ℕ) (choices : List ℕ) → Option Entry → Attempt
called p rest given n choices None = Refused
called p rest given n choices (Some entry) =
    called_with p rest entry.method.0 n choices (given_args p entry rest (takes_receiver (slice_get p.methods entry.method.0)) given)

-- what one action comes to
abbrev pub attempt : Parts → Rest → Action → Attempt
attempt p rest (Initialize entry k n choices) = initialized p rest k n choices (slice_get p.entries entry)
attempt p rest (Create entry n choices) = created p rest n choices (slice_get p.entries entry)
attempt p rest (Make entry param mark takes choices) = made p rest param mark takes choices (slice_get p.entries entry)
attempt p rest (CallEntry entry given n choices) = called p rest given n choices (slice_get p.entries entry)

-- after a call that returned or threw the run goes on, with these objects
abbrev pub ended : List Known → Outcome → State
ended known (Returned value dirt world left) = Idle (rest_of world.store known)
ended known (Threw place from world left) = Idle (rest_of world.store known)
ended known (Stuck innermost callers world) = Over (Stuck innermost callers world)
ended known (Cut innermost callers world) = Over (Cut innermost callers world)
ended known (Failed innermost callers world) = Over (Failed innermost callers world)

-- the state after an attempt; one that was refused changes nothing
abbrev pub settled : Rest → Attempt → State
settled rest Refused = Idle rest
settled rest (MadeNew value later) = Idle later
settled rest (Ran known outcome) = ended known outcome

-- the state after one action
abbrev pub does : Parts → Rest → Action → State
does p rest action = settled rest (attempt p rest action)

-- an action in a state; a run that has ended stays so
abbrev pub happens : Parts → State → Action → State
happens p (Over outcome) action = Over outcome
happens p (Idle rest) action = does p rest action

-- the state after these actions
abbrev pub after : Parts → State → List Action → State
after p state [] = state
after p state (action ∷ actions) = after p (happens p state action) actions

-- a static field that begins as a constant text
abbrev pub begins_as_text : Field → Bool
begins_as_text field = is_static field.flags && field.text

-- the objects with which a program run begins: a text for each such field
abbrev pub first_heap : Parts → List Field → List Object
first_heap p [] = []
first_heap p (field ∷ fields) = if begins_as_text field then new_object p (text_token p) none [] ∷ first_heap p fields else first_heap p fields

-- the values of the static fields with which a program run begins, where so many objects stand before: the texts, and defaults
abbrev pub first_statics : (place : ℕ) → List Field → List Value
first_statics place [] = []
first_statics place (field ∷ fields) = if begins_as_text field then Ref place ∷ first_statics (place + 1) fields else default_of field.desc ∷ first_statics place fields

-- the beginning of a program run
abbrev pub first_state : Parts → State
first_state p = Idle (record { heap = first_heap p p.fields; statics = first_statics 0 p.fields; events = []; known = [] })

-- a program run
abbrev pub program_run : Parts → List Action → State
program_run p actions = after p (first_state p) actions

-- the events of a program run so far
abbrev pub events_of : State → List Event
events_of (Idle rest) = rest.events
events_of (Over outcome) = events_in outcome

-- the objects of a program run so far
abbrev pub heap_in : State → List Object
heap_in (Idle rest) = rest.heap
heap_in (Over outcome) = (store_in outcome).heap
