-- Steps, calls and ways through methods of a call graph, after a change that keeps the call graph.
use Rattle.std.proofs.Common.{ℕ, List}
use Rattle.ja_ir.specs.declared.method.Method.{Method}
use Rattle.ja_ir.specs.declared.method.Instr.{Instr}
use Rattle.ja_ir.specs.declared.op.CallOp.{CallOp}
use Rattle.ja_ir.specs.declared.op.Op.{Op}
use Rattle.ja_facts.specs.Slots.{Slot}
use Rattle.ja_facts.specs.ClassSets.{Fact as ClassFact}
use Rattle.ja_facts.specs.Crossings.{Enters, by_call, by_initializer, Crossing, Crosses, call_returns, call_throws, initializer_returns}
use Rattle.ja_facts.specs.Sharing.{Root, Arg, StaticFields, Name, start_name, IsReference, IsNoCall, Loads, loads_field, loads_element, LoadsStatic, loads_static, Writes, writes_field, writes_element, WritesStatic, writes_static, Makes, makes_text, makes_object, makes_array, Step, LibraryCall, LibraryAnswer, LibraryEnds, ends_normally, ends_by_exception, RaisesNew, raised_here, raised_at_abstract, ThrowsTo}
use Rattle.ja_projection.proofs.Changes.{Change, changed}
use Rattle.ja_projection.proofs.Premises.{Reflowed, throws-new, op-at, still-at, call-at, leads, is-handled, init-at}

-- the parameters of a method do not depend on its code
pub started : (F : Name → Type 0) (method : Method) (code : List Instr) (r : Root) → F (start_name (record method { code = code }) r) → F (start_name method r)
started F method code (Arg k) h = h
started F method code StaticFields h = h

pub is-reference : (method : Method) (code : List Instr) (r : Root) → IsReference method r → IsReference (record method { code = code }) r
is-reference method code (Arg k) h = h
is-reference method code StaticFields h = h

-- operations that are no calls
pub takes-no_call : {op : Op} {height : ℕ} {x r : Slot} → Loads op height x r → IsNoCall op
takes-no_call (loads_field e) = tt
takes-no_call (loads_element e) = tt

pub static-no_call : {op : Op} {height : ℕ} {r : Slot} → LoadsStatic op height r → IsNoCall op
static-no_call loads_static = tt

pub writes-no_call : {op : Op} {height : ℕ} {x v : Slot} → Writes op height x v → IsNoCall op
writes-no_call (writes_field e) = tt
writes-no_call (writes_element e) = tt

pub writes_static-no_call : {op : Op} {height : ℕ} {v : Slot} → WritesStatic op height v → IsNoCall op
writes_static-no_call (writes_static e) = tt

pub makes-no_call : {op : Op} {height : ℕ} {r : Slot} → Makes op height r → IsNoCall op
makes-no_call makes_text = tt
makes-no_call makes_object = tt
makes-no_call (makes_array e) = tt

module _ (w : Change) (C D : ClassFact → Type 0) (known : (f : ClassFact) → C f → D f) where
  pub enters : {m i n count under : ℕ} → Enters w.program C m i n count under → Enters (changed w) D m i n count under
  enters (by_call k g c) = by_call (known _ k) (known _ g) (call-at w c).has
  enters (by_initializer k x o) = by_initializer (known _ k) (init-at w x) (op-at w o).has

  pub crosses : {m i n : ℕ} {x : Crossing} → Crosses w.program C m i n x → Crosses (changed w) D m i n x
  crosses (call_returns k g c l) = call_returns (known _ k) (known _ g) (call-at w c).has (leads w l)
  crosses (call_throws k g c h) = call_throws (known _ k) (known _ g) (call-at w c).has (is-handled w h)
  crosses (initializer_returns k x o) = initializer_returns (known _ k) (init-at w x) (op-at w o).has

  pub step : {m i j height : ℕ} {op : Op} → Step w.program C m i j op height → IsNoCall op → Step (changed w) D m i j op height
  step x n = record { at = still-at w x.at n; reached = known _ x.reached; leads = leads w x.leads }

  pub library-call : {m i under : ℕ} {call : CallOp} → LibraryCall w.program C m i call under → Reflowed call (λ c. LibraryCall (changed w) D m i c under)
  library-call x =
      let it = call-at w x.at in
      record { flow = it.flow; has = record { at = it.has; reached = known _ x.reached; goes = known _ x.goes } }

  pub library-answer : {m i j under : ℕ} {call : CallOp} → LibraryAnswer w.program C m i j call under → Reflowed call (λ c. LibraryAnswer (changed w) D m i j c under)
  library-answer x =
      let it = library-call x.library in
      record { flow = it.flow; has = record { library = it.has; leads = leads w x.leads; answers = x.answers } }

  pub library-ends : {m i j left : ℕ} → LibraryEnds w.program C m i j left → LibraryEnds (changed w) D m i j left
  library-ends (ends_normally l n) = ends_normally (library-call l).has (leads w n)
  library-ends (ends_by_exception l h) = ends_by_exception (library-call l).has (is-handled w h)

  pub raises-new : {m i j : ℕ} → RaisesNew w.program C m i j → RaisesNew (changed w) D m i j
  raises-new (raised_here o k t h) = let it = op-at w o in raised_here it.has (known _ k) (throws-new it.related t) (is-handled w h)
  raises-new (raised_at_abstract c k g h) = raised_at_abstract (call-at w c).has (known _ k) (known _ g) (is-handled w h)

  pub throws-to : {m i j k : ℕ} → ThrowsTo w.program C m i j k → ThrowsTo (changed w) D m i j k
  throws-to x = record { at = still-at w x.at tt; reached = known _ x.reached; handled = is-handled w x.handled }
