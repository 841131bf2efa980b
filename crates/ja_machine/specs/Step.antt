-- What each operation does but for calls (JVM specification 6.5).
use Rattle.std.specs.Prelude.{ℕ, zero, suc, ◌+◌, ◌==◌, ◌||◌, Bool, true, false, List, [], ◌∷◌, ◌++◌, Option, Some, None, length, slice_get, slice_set, nat_le, nat_lt, if◌then◌else◌}
use Rattle.std.specs.List.{list_all}
use Rattle.ja_base.specs.declared.java_type.Kind.{Kind}
use Rattle.ja_base.specs.declared.java_type.Kind.TheVariants.{R}
use Rattle.ja_ir.specs.declared.program.Parts.{Parts}
use Rattle.ja_ir.specs.declared.class.ClassInfo.{ClassInfo}
use Rattle.ja_ir.specs.declared.class.Field.{Field}
use Rattle.ja_ir.specs.Lookup.{is_abstract, is_interface, is_static}
use Rattle.ja_ir.specs.Tokens.{text_token, lib_token, rarr_token, parr_token, fits}
use Rattle.ja_machine.specs.declared.heap.Value.{Value}
use Rattle.ja_machine.specs.declared.heap.Value.TheVariants.{Prim, Null, Ref}
use Rattle.ja_machine.specs.declared.heap.FieldValue.{FieldValue}
use Rattle.ja_machine.specs.declared.heap.Object.{Object}
use Rattle.ja_machine.specs.Marks.{none, union}
use Rattle.ja_machine.specs.Reach.{mark_of, references, taints}
use Rattle.ja_machine.specs.State.{Frame, Store, World, Next, Goes, Throws, Ends, NoRule, with_stack, pushed, dirtied, changed, with_object, topmost, beneath, decide, decide_whether}
use Rattle.ja_machine.specs.Objects.{new_object, Made, object_made, around}

-- throws a new library object with these marks
abbrev pub throws_new : Parts → (mark : ℕ) → Frame → World → Next
throws_new p mark frame world = Throws (length world.store.heap) frame (changed (with_object (new_object p (lib_token p) mark [])) world)

-- throws a new library object by choice, and else goes on
abbrev pub throws_or_goes : Parts → Frame → World → (World → Next) → Next
throws_or_goes p frame world go = decide_whether world go (λ rest. throws_new p none frame rest)

-- goes on with a value more on the stack
abbrev pub pushes : Value → Frame → World → Next
pushes value frame world = Goes (pushed value frame) world

-- goes on with what was made on the stack
abbrev pub pushes_made : Frame → Made → Next
pushes_made frame made = Goes (pushed made.value frame) made.world

-- goes on with the value on the stack, where there is one
abbrev pub pushes_some : Option Value → Frame → World → Next
pushes_some None frame world = NoRule
pushes_some (Some value) frame world = pushes value frame world

-- Nop
abbrev pub step_nop : Frame → World → Next
step_nop frame world = Goes frame world

-- a constant of a kind
abbrev pub constant : Kind → Value
constant R = Null
constant _ = Prim none

-- Const
abbrev pub step_const : Kind → Frame → World → Next
step_const kind frame world = pushes (constant kind) frame world

-- Text: a new text
abbrev pub step_text : Parts → Frame → World → Next
step_text p frame world = pushes_made frame (object_made (new_object p (text_token p) none []) world)

-- Load: the value of a local
abbrev pub step_load : (local : ℕ) → Frame → World → Next
step_load local frame world = pushes_some (slice_get frame.locals local) frame world

-- Store: the topmost value goes into the local
abbrev pub step_store : (local : ℕ) → Frame → List Value → World → Next
step_store local frame [] world = NoRule
step_store local frame (value ∷ stack) world =
    if nat_lt local (length frame.locals)
    then Goes (record { locals = slice_set frame.locals local value; stack = stack; dirt = frame.dirt }) world
    else NoRule

-- where a value is taken that is named by its place among those that were popped
abbrev pub picked_with : Option Value → (Value → Next) → Next
picked_with None go = NoRule
picked_with (Some value) go = go value

-- the named ones of the popped values are pushed in order
abbrev pub picks : (popped : List Value) (named : List ℕ) → Frame → World → Next
picks popped [] frame world = Goes frame world
picks popped (k ∷ named) frame world = picked_with (slice_get popped k) (λ value. picks popped named (pushed value frame) world)

-- an operation on so many popped values, the lowest first
abbrev pub with_popped : (n : ℕ) → Frame → (popped : List Value → Frame → Next) → Next
with_popped n frame go =
    if nat_le n (length frame.stack) then go (topmost n frame.stack) (with_stack (beneath n frame.stack) frame) else NoRule

-- Shuffle
abbrev pub step_shuffle : (n : ℕ) (named : List ℕ) → Frame → World → Next
step_shuffle n named frame world = with_popped n frame (λ popped rest. picks popped named rest world)

-- Branch: which instruction is next is chosen later
abbrev pub step_branch : (n : ℕ) → Frame → World → Next
step_branch n frame world = with_popped n frame (λ popped rest. Goes rest world)

-- the marks of all of the values
abbrev pub joined_marks : List Value → ℕ
joined_marks [] = none
joined_marks (value ∷ values) = union (mark_of value) (joined_marks values)

-- the value is a primitive
abbrev pub is_primitive : Value → Bool
is_primitive (Prim mark) = true
is_primitive _ = false

-- a primitive that has the marks of all that was popped, where those are primitives
abbrev pub pushes_joined : (popped : List Value) → Frame → World → Next
pushes_joined popped frame world = if list_all is_primitive popped then pushes (Prim (joined_marks popped)) frame world else NoRule

-- the popped primitives become one, or it throws by choice where it may
abbrev pub mixes : Parts → (throws : Bool) (popped : List Value) → Frame → World → Next
mixes p true popped frame world = throws_or_goes p frame world (pushes_joined popped frame)
mixes p false popped frame world = pushes_joined popped frame world

-- Mix
abbrev pub step_mix : Parts → (n : ℕ) (throws : Bool) → Frame → World → Next
step_mix p n throws frame world = with_popped n frame (λ popped rest. mixes p throws popped rest world)

-- the method ends with the topmost value
abbrev pub returns_top : (dirt : ℕ) → List Value → World → Next
returns_top dirt [] world = NoRule
returns_top dirt (value ∷ stack) world = Ends (Some value) dirt world

-- Return: with the topmost value where there is a kind
abbrev pub step_return : Option Kind → Frame → World → Next
step_return None frame world = Ends None frame.dirt world
step_return (Some kind) frame world = returns_top frame.dirt frame.stack world

-- Throw: the popped reference
abbrev pub step_throw : Parts → Frame → List Value → World → Next
step_throw p frame [] world = NoRule
step_throw p frame (Prim mark ∷ stack) world = NoRule
step_throw p frame (Null ∷ stack) world = throws_new p none (with_stack stack frame) world
step_throw p frame (Ref place ∷ stack) world = Throws place (with_stack stack frame) world

-- what is done on an object, where there is one
abbrev pub object_or_none : (Object → Next) → Option Object → Next
object_or_none go None = NoRule
object_or_none go (Some object) = go object

-- an operation on an object: null throws, and any other value may throw by choice; else the rest is done on the object
abbrev pub on_object : Parts → Value → Frame → World → ((place : ℕ) → Object → World → Next) → Next
on_object p Null frame world go = throws_new p none frame world
on_object p (Prim mark) frame world go = throws_or_goes p frame world (λ rest. NoRule)
on_object p (Ref place) frame world go = throws_or_goes p frame world (λ rest. object_or_none (λ object. go place object rest) (slice_get rest.store.heap place))

-- the value of a field among those of an object
abbrev pub field_value : (field : ℕ) → List FieldValue → Option Value
field_value field [] = None
field_value field (f ∷ fields) = if f.field.0 == field then Some f.value else field_value field fields

-- the fields of an object after one was set
abbrev pub with_field : (field : ℕ) → Value → List FieldValue → List FieldValue
with_field field value [] = []
with_field field value (f ∷ fields) = if f.field.0 == field then record { field = f.field; value = value } ∷ fields else f ∷ with_field field value fields

-- an object after a field was set
abbrev pub object_with_field : (field : ℕ) → Value → Object → Object
object_with_field field value object = record { token = object.token; fields = with_field field value object.fields; mark = object.mark; bag = object.bag }

-- an object after its marks rose by these and its bag took these places
abbrev pub object_grown : (mark : ℕ) (places : List ℕ) → Object → Object
object_grown mark places object = record { token = object.token; fields = object.fields; mark = union object.mark mark; bag = object.bag ++ places }

-- the store after the object at a place was written, and is this one now
abbrev pub with_object_at : (place : ℕ) → Object → Store → Store
with_object_at place object store = record store { heap = slice_set store.heap place object; written = store.written ++ place ∷ [] }

-- the store after a static field was set
abbrev pub with_static : (field : ℕ) → Value → Store → Store
with_static field value store = record store { statics = slice_set store.statics field value; set = store.set ++ field ∷ [] }

-- GetField
abbrev pub step_get_field : Parts → (field : ℕ) → Frame → List Value → World → Next
step_get_field p field frame [] world = NoRule
step_get_field p field frame (value ∷ stack) world =
    on_object p value (with_stack stack frame) world (λ place object rest. pushes_some (field_value field object.fields) (with_stack stack frame) rest)

-- the field of an object is set, where the object has it
abbrev pub puts_field : (field : ℕ) → Value → (place : ℕ) → Object → Option Value → Frame → World → Next
puts_field field value place object None frame world = NoRule
puts_field field value place object (Some old) frame world =
    Goes (dirtied (taints world.store.heap value) frame) (changed (with_object_at place (object_with_field field value object)) world)

-- PutField
abbrev pub step_put_field : Parts → (field : ℕ) → Frame → List Value → World → Next
step_put_field p field frame (value ∷ target ∷ stack) world =
    on_object p target (with_stack stack frame) world (λ place object rest. puts_field field value place object (field_value field object.fields) (with_stack stack frame) rest)
step_put_field p field frame _ world = NoRule

-- the field, if there is one, is a static one
abbrev pub static_in : Option Field → Bool
static_in None = false
static_in (Some field) = is_static field.flags

-- the number is that of a static field
abbrev pub is_static_field : Parts → (field : ℕ) → Bool
is_static_field p field = static_in (slice_get p.fields field)

-- GetStatic
abbrev pub step_get_static : Parts → (field : ℕ) → Frame → World → Next
step_get_static p field frame world =
    if is_static_field p field then pushes_some (slice_get world.store.statics field) frame world else NoRule

-- PutStatic
abbrev pub step_put_static : Parts → (field : ℕ) → Frame → List Value → World → Next
step_put_static p field frame [] world = NoRule
step_put_static p field frame (value ∷ stack) world =
    if is_static_field p field
    then Goes (with_stack stack frame) (changed (with_static field value) world)
    else NoRule

-- a class of which there is no object of its own
abbrev pub has_no_objects : Option ClassInfo → Bool
has_no_objects None = false
has_no_objects (Some class) = is_abstract class.flags || is_interface class.flags

-- New: an object of the token; of an abstract class or an interface it throws
abbrev pub step_new : Parts → (token : ℕ) → Frame → World → Next
step_new p token frame world =
    if has_no_objects (slice_get p.classes token)
    then throws_new p none frame world
    else throws_or_goes p frame world (λ rest. pushes_made frame (object_made (new_object p token none []) rest))

-- arrays of references round an array, one for each further dimension
abbrev pub nested : Parts → (dimensions : ℕ) → Made → Made
nested p zero inner = inner
nested p (suc n) inner = nested p n (around p none inner)

-- a chain of as many arrays as dimensions, the innermost made first; each but the last has the next in its bag
abbrev pub makes_arrays : Parts → (last dimensions : ℕ) → Frame → World → Next
makes_arrays p last zero frame world = NoRule
makes_arrays p last (suc n) frame world =
    throws_or_goes p frame world (λ rest. pushes_made frame (nested p n (object_made (new_object p last none []) rest)))

-- NewArray: the lengths are popped
abbrev pub step_new_array : Parts → (last dimensions : ℕ) → Frame → World → Next
step_new_array p last dimensions frame world = with_popped dimensions frame (λ popped rest. makes_arrays p last dimensions rest world)

-- the element that was picked: null, or one of the bag's
abbrev pub element : List ℕ → (way : ℕ) → Option Value
element bag zero = Some Null
element bag (suc k) = element_in (slice_get bag k)
  where
    element_in : Option ℕ → Option Value
    element_in None = None
    element_in (Some place) = Some (Ref place)

-- an element of an array of references is loaded: null, or one of its bag by choice
abbrev pub loads_reference : Parts → Frame → Object → World → Next
loads_reference p frame object world =
    if object.token.0 == rarr_token p
    then decide (length object.bag + 1) world (λ k rest. pushes_some (element object.bag k) frame rest)
    else NoRule

-- an element of an array of primitives is loaded: a primitive with the array's marks
abbrev pub loads_primitive : Parts → Frame → Object → World → Next
loads_primitive p frame object world = if object.token.0 == parr_token p then pushes (Prim object.mark) frame world else NoRule

-- an element of a kind is loaded
abbrev pub loads_element : Parts → Kind → Frame → Object → World → Next
loads_element p R frame object world = loads_reference p frame object world
loads_element p _ frame object world = loads_primitive p frame object world

-- ArrLoad
abbrev pub step_array_load : Parts → Kind → Frame → List Value → World → Next
step_array_load p kind frame (index ∷ array ∷ stack) world =
    on_object p array (with_stack stack frame) world (λ place object rest. loads_element p kind (with_stack stack frame) object rest)
step_array_load p kind frame _ world = NoRule

-- an element of an array of references is stored: the bag takes a reference
abbrev pub stores_reference : Parts → Value → Frame → (place : ℕ) → Object → World → Next
stores_reference p value frame place object world =
    if object.token.0 == rarr_token p
    then Goes (dirtied (taints world.store.heap value) frame) (changed (with_object_at place (object_grown none (references (value ∷ [])) object)) world)
    else NoRule

-- an element of an array of primitives is stored: the marks rise by the value's
abbrev pub stores_primitive : Parts → Value → Frame → (place : ℕ) → Object → World → Next
stores_primitive p value frame place object world =
    if object.token.0 == parr_token p
    then Goes (dirtied (taints world.store.heap value) frame) (changed (with_object_at place (object_grown (mark_of value) [] object)) world)
    else NoRule

-- an element of a kind is stored
abbrev pub stores_element : Parts → Kind → Value → Frame → (place : ℕ) → Object → World → Next
stores_element p R value frame place object world = stores_reference p value frame place object world
stores_element p _ value frame place object world = stores_primitive p value frame place object world

-- ArrStore
abbrev pub step_array_store : Parts → Kind → Frame → List Value → World → Next
step_array_store p kind frame (value ∷ index ∷ array ∷ stack) world =
    on_object p array (with_stack stack frame) world (λ place object rest. stores_element p kind value (with_stack stack frame) place object rest)
step_array_store p kind frame _ world = NoRule

-- an operation that only asks that a value is not null
abbrev pub unless_null : Parts → Value → Frame → World → (World → Next) → Next
unless_null p Null frame world go = throws_new p none frame world
unless_null p _ frame world go = throws_or_goes p frame world go

-- ArrLen: a length carries no mark
abbrev pub step_array_length : Parts → Frame → List Value → World → Next
step_array_length p frame [] world = NoRule
step_array_length p frame (array ∷ stack) world = unless_null p array (with_stack stack frame) world (pushes (Prim none) (with_stack stack frame))

-- Monitor
abbrev pub step_monitor : Parts → Frame → List Value → World → Next
step_monitor p frame [] world = NoRule
step_monitor p frame (value ∷ stack) world = unless_null p value (with_stack stack frame) world (Goes (with_stack stack frame))

-- InstanceOf: the answer carries no mark
abbrev pub step_instance_of : Frame → List Value → World → Next
step_instance_of frame [] world = NoRule
step_instance_of frame (value ∷ stack) world = pushes (Prim none) (with_stack stack frame) world

-- Cast on an object: it throws where the object does not fit
abbrev pub casts_object : Parts → (name : List ℕ) → (place : ℕ) → Frame → World → Option Object → Next
casts_object p name place frame world None = NoRule
casts_object p name place frame world (Some object) =
    if fits p object.token.0 name then throws_or_goes p frame world (pushes (Ref place) frame) else throws_new p none frame world

-- Cast: null is kept, and a reference that fits
abbrev pub step_cast : Parts → (name : List ℕ) → Frame → List Value → World → Next
step_cast p name frame [] world = NoRule
step_cast p name frame (Null ∷ stack) world = throws_or_goes p (with_stack stack frame) world (pushes Null (with_stack stack frame))
step_cast p name frame (Prim mark ∷ stack) world = throws_or_goes p (with_stack stack frame) world (λ rest. NoRule)
step_cast p name frame (Ref place ∷ stack) world = casts_object p name place (with_stack stack frame) world (slice_get world.store.heap place)
