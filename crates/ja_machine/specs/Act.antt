-- The operations, and the events that are noted at a call.
use Rattle.std.specs.Prelude.{ℕ, ◌+◌, ◌==◌, ◌&&◌, Bool, false, List, [], ◌∷◌, Option, Some, None, slice_get, if◌then◌else◌}
use Rattle.ja_ir.specs.declared.program.Parts.{Parts}
use Rattle.ja_ir.specs.declared.entry.Site.{Site}
use Rattle.ja_ir.specs.declared.op.Op.{Op}
use Rattle.ja_ir.specs.declared.op.Op.TheVariants.{Nop, Const, Text, New, Load, Store, ArrLoad, ArrStore, Shuffle, Mix, Branch, Return, GetStatic, PutStatic, GetField, PutField, Call, NewArray, ArrLen, Throw, Cast, InstanceOf, Monitor}
use Rattle.ja_ir.specs.Operations.{arguments}
use Rattle.ja_machine.specs.declared.heap.Value.{Value}
use Rattle.ja_machine.specs.declared.heap.Object.{Object}
use Rattle.ja_machine.specs.Reach.{is_tainted}
use Rattle.ja_machine.specs.State.{Frame, World, Event, Point, Next, changed, with_events, topmost}
use Rattle.ja_machine.specs.Step.{step_nop, step_const, step_text, step_new, step_load, step_store, step_array_load, step_array_store, step_shuffle, step_mix, step_branch, step_return, step_get_static, step_put_static, step_get_field, step_put_field, step_new_array, step_array_length, step_throw, step_cast, step_instance_of, step_monitor}
use Rattle.ja_machine.specs.Call.{step_call}

-- one operation
abbrev pub act : Parts → Op → Frame → World → Next
act p Nop frame world = step_nop frame world
act p (Const kind) frame world = step_const kind frame world
act p Text frame world = step_text p frame world
act p (New token) frame world = step_new p token.0 frame world
act p (Load kind local) frame world = step_load local frame world
act p (Store kind local) frame world = step_store local frame frame.stack world
act p (ArrLoad kind) frame world = step_array_load p kind frame frame.stack world
act p (ArrStore kind) frame world = step_array_store p kind frame frame.stack world
act p (Shuffle n named) frame world = step_shuffle n named frame world
act p (Mix n kind throws) frame world = step_mix p n throws frame world
act p (Branch n) frame world = step_branch n frame world
act p (Return kind) frame world = step_return kind frame world
act p (GetStatic field) frame world = step_get_static p field.0 frame world
act p (PutStatic field) frame world = step_put_static p field.0 frame frame.stack world
act p (GetField field) frame world = step_get_field p field.0 frame frame.stack world
act p (PutField field) frame world = step_put_field p field.0 frame frame.stack world
act p (Call call) frame world = step_call p call frame world
act p (NewArray last dimensions) frame world = step_new_array p last.0 dimensions frame world
act p ArrLen frame world = step_array_length p frame frame.stack world
act p Throw frame world = step_throw p frame frame.stack world
act p (Cast name) frame world = step_cast p name frame frame.stack world
act p InstanceOf frame world = step_instance_of frame frame.stack world
act p Monitor frame world = step_monitor p frame frame.stack world

-- the value, if there is one, is tainted in the category
abbrev pub is_some_tainted : (c : ℕ) → List Object → Option Value → Bool
is_some_tainted c heap None = false
is_some_tainted c heap (Some value) = is_tainted c heap value

-- those of the listed positions whose arguments are tainted in the category
abbrev pub tainted_positions : (c : ℕ) (heap : List Object) (args : List Value) → (positions : List ℕ) → List ℕ
tainted_positions c heap args [] = []
tainted_positions c heap args (k ∷ positions) =
    if is_some_tainted c heap (slice_get args k) then k ∷ tainted_positions c heap args positions else tainted_positions c heap args positions

-- the events at an instruction, one for each site, from number k on, that names it
abbrev pub events_at : (m i : ℕ) (heap : List Object) (args : List Value) → (k : ℕ) → List Site → List Event
events_at m i heap args k [] = []
events_at m i heap args k (site ∷ sites) =
    if (site.method.0 == m) && (site.index == i)
    then record { site = k; positions = tainted_positions site.category heap args site.positions } ∷ events_at m i heap args (k + 1) sites
    else events_at m i heap args (k + 1) sites

-- the events at a point before an operation, of which only a call has some
abbrev pub events_before : Parts → Point → Op → List Object → List Event
events_before p x (Call call) heap = events_at x.method x.index heap (topmost (arguments call) x.frame.stack) 0 p.sites
events_before p x _ heap = []

-- the world after the events at a point before an operation were noted
abbrev pub noted : Parts → Point → Op → World → World
noted p x op world = changed (with_events (events_before p x op world.store.heap)) world
