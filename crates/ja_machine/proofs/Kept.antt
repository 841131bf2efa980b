-- What each change of a world keeps, each operation keeps.
use Rattle.std.proofs.Common.{◌≡◌, ℕ, zero, suc, ◌+◌, Bool, true, false, List, [], ◌∷◌, length, map, refl, sym, ap, append-nil}
use Rattle.std.specs.Prelude.{Option, Some, None, slice_get, nat_le, nat_lt, ◌==◌, if◌then◌else◌}
use Rattle.std.specs.List.{list_all}
use Rattle.ja_base.specs.declared.java_type.Kind.{Kind}
use Rattle.ja_base.specs.declared.java_type.Kind.TheVariants.{P1, P2, R, T}
use Rattle.ja_base.specs.declared.java_type.JavaType.{JavaType}
use Rattle.ja_ir.specs.declared.program.Parts.{Parts}
use Rattle.ja_ir.specs.declared.class.MethodAt.TheVariants.{Program, Abstract, Library}
use Rattle.ja_ir.specs.declared.row.RowResult.{RowResult}
use Rattle.ja_ir.specs.declared.row.RowResult.TheVariants.{Fresh, Argument, Member, Any}
use Rattle.ja_ir.specs.declared.op.CallOp.{CallOp}
use Rattle.ja_ir.specs.declared.op.Op.{Op}
use Rattle.ja_ir.specs.declared.op.Op.TheVariants.{Nop, Const, Text, New, Load, Store as Storing, ArrLoad, ArrStore, Shuffle, Mix, Branch, Return, GetStatic, PutStatic, GetField, PutField, Call, NewArray, ArrLen, Throw, Cast, InstanceOf, Monitor}
use Rattle.ja_ir.specs.Operations.{arguments}
use Rattle.ja_ir.specs.Tokens.{fits, rarr_token, parr_token, Shape, InProgram, Primitives, References, Strings, Objects, Elsewhere, array_shape, shape_of, before_semicolon}
use Rattle.ja_machine.specs.declared.heap.Value.{Value}
use Rattle.ja_machine.specs.declared.heap.Value.TheVariants.{Prim, Null, Ref}
use Rattle.ja_machine.specs.declared.heap.FieldValue.{FieldValue}
use Rattle.ja_machine.specs.declared.heap.Object.{Object}
use Rattle.ja_machine.specs.Marks.{none, set_of}
use Rattle.ja_machine.specs.State.{Frame, Store, World, Event, Next, Goes, Throws, Ends, Enters, NoRule, with_stack, pushed, dirtied, changed, with_object, with_events, decide, spent, way, after_choice, either}
use Rattle.ja_machine.specs.Objects.{Made, new_object, object_made, around, fresh, fresh_in, fresh_named, fresh_of, fresh_plain, fresh_array, fresh_object}
use Rattle.ja_machine.specs.Reach.{links, bag_links, mark_of, references, all_taints}
use Rattle.ja_machine.specs.Step
use Rattle.ja_machine.specs.Step.{object_grown, object_with_field, with_field, with_object_at, with_static}
use Rattle.ja_machine.specs.Library
use Rattle.ja_machine.specs.Call
use Rattle.ja_machine.specs.Call.{Target, OnNull, Nowhere, To}
use Rattle.ja_machine.specs.Act.{act}
use Rattle.ja_machine.specs.Laws.{Becomes}
use Rattle.ja_machine.proofs.Marks.{union-left}

-- a property of stores that each single change of a store keeps; each object that is made is a new one of the program
pub record IsKept (p : Parts) (P : Store → Type 0) : Type 0 where
  pub made : (t m : ℕ) (bag : List ℕ) (s : Store) → P s → P (with_object (new_object p t m bag) s)
  pub wrote : (r : ℕ) (o n : Object) (s : Store) → slice_get s.heap r ≡ Some o → Becomes o n → P s → P (with_object_at r n s)
  pub assigned : (k : ℕ) (v : Value) (s : Store) → P s → P (with_static k v s)
  pub told : (es : List Event) (s : Store) → P s → P (with_events es s)

-- the store of what an operation comes to has the property
abbrev pub Holds : (Store → Type 0) → Next → Type 0
Holds P (Goes frame world) = P world.store
Holds P (Throws place frame world) = P world.store
Holds P (Ends value dirt world) = P world.store
Holds P (Enters m args frame world) = P world.store
Holds P NoRule = Unit {0}

-- a choice between two
pub if-keeps : {X : Type 0} (G : X → Type 0) (b : Bool) (x y : X) → G x → G y → G (if b then x else y)
if-keeps G true x y a b = a
if-keeps G false x y a b = b

either-keeps : {X : Type 0} (G : X → Type 0) (k : ℕ) (x y : X) → G x → G y → G (either k x y)
either-keeps G zero x y a b = a
either-keeps G (suc k) x y a b = b

-- a decision leaves the store
pub decide-keeps : {X : Type 0} (G : X → Type 0) (Q : Store → Type 0) (k : ℕ) (w : World) (go : ℕ → World → X) → Q w.store → ((i : ℕ) (v : World) → Q v.store → G (go i v)) → G (decide k w go)
decide-keeps G Q k w go h each = if-keeps G (nat_le k 1) (go 0 w) (go (way k w.choices) (spent w)) (each 0 w h) (each (way k w.choices) (spent w) h)

-- the same fields stand in an object after one was set
set-fields : (k : ℕ) (v : Value) (fs : List FieldValue) → map (λ (f : FieldValue). f.field) (with_field k v fs) ≡ map (λ (f : FieldValue). f.field) fs
set-fields k v [] = refl
set-fields k v (f ∷ fs) =
    if-keeps (λ (gs : List FieldValue). map (λ (g : FieldValue). g.field) gs ≡ map (λ (g : FieldValue). g.field) (f ∷ fs)) (f.field.0 == k)
    (record { field = f.field; value = v } ∷ fs) (f ∷ with_field k v fs) refl (ap (λ gs. f.field ∷ gs) (set-fields k v fs))

set-becomes : (k : ℕ) (v : Value) (o : Object) → Becomes o (object_with_field k v o)
set-becomes k v o = record { token = refl; fields = set-fields k v o.fields; mark = λ c h. h; bag = ([], sym (append-nil o.bag)) }

pub grown-becomes : (m : ℕ) (rs : List ℕ) (o : Object) → Becomes o (object_grown m rs o)
grown-becomes m rs o = record { token = refl; fields = refl; mark = λ c h. union-left o.mark m c h; bag = (rs, refl) }

module _ (p : Parts) (P : Store → Type 0) (kept : IsKept p P) where
  throws_or_goes-keeps : (f : Frame) (w : World) (go : World → Next) → P w.store → ((v : World) → P v.store → Holds P (go v)) → Holds P (Step.throws_or_goes p f w go)
  throws_or_goes-keeps f w go h each =
      decide-keeps (Holds P) P 2 w (λ i v. either i (go v) (Step.throws_new p none f v)) h (λ i v k. either-keeps (Holds P) i (go v) (Step.throws_new p none f v) (each v k) (kept.made _ _ _ v.store k))

  pushes_some-keeps : (v : Option Value) (f : Frame) (w : World) → P w.store → Holds P (Step.pushes_some v f w)
  pushes_some-keeps None f w h = tt
  pushes_some-keeps (Some v) f w h = h

  store-keeps : (l : ℕ) (f : Frame) (s : List Value) (w : World) → P w.store → Holds P (Step.step_store l f s w)
  store-keeps l f [] w h = tt
  store-keeps l f (v ∷ s) w h = if-keeps (Holds P) (nat_lt l (length f.locals)) _ NoRule h tt

  picked_with-keeps : (v : Option Value) (go : Value → Next) → ((v : Value) → Holds P (go v)) → Holds P (Step.picked_with v go)
  picked_with-keeps None go each = tt
  picked_with-keeps (Some v) go each = each v

  picks-keeps : (vs : List Value) (ks : List ℕ) (f : Frame) (w : World) → P w.store → Holds P (Step.picks vs ks f w)
  picks-keeps vs [] f w h = h
  picks-keeps vs (k ∷ ks) f w h = picked_with-keeps (slice_get vs k) _ (λ v. picks-keeps vs ks (pushed v f) w h)

  with_popped-keeps : (n : ℕ) (f : Frame) (go : List Value → Frame → Next) → ((vs : List Value) (g : Frame) → Holds P (go vs g)) → Holds P (Step.with_popped n f go)
  with_popped-keeps n f go each = if-keeps (Holds P) (nat_le n (length f.stack)) _ NoRule (each _ _) tt

  joined-keeps : (vs : List Value) (f : Frame) (w : World) → P w.store → Holds P (Step.pushes_joined vs f w)
  joined-keeps vs f w h = if-keeps (Holds P) (list_all Step.is_primitive vs) _ NoRule h tt

  mixes-keeps : (b : Bool) (vs : List Value) (f : Frame) (w : World) → P w.store → Holds P (Step.mixes p b vs f w)
  mixes-keeps true vs f w h = throws_or_goes-keeps f w (Step.pushes_joined vs f) h (λ v k. joined-keeps vs f v k)
  mixes-keeps false vs f w h = joined-keeps vs f w h

  returns_top-keeps : (d : ℕ) (s : List Value) (w : World) → P w.store → Holds P (Step.returns_top d s w)
  returns_top-keeps d [] w h = tt
  returns_top-keeps d (v ∷ s) w h = h

  return-keeps : (k : Option Kind) (f : Frame) (w : World) → P w.store → Holds P (Step.step_return k f w)
  return-keeps None f w h = h
  return-keeps (Some k) f w h = returns_top-keeps f.dirt f.stack w h

  throw-keeps : (f : Frame) (s : List Value) (w : World) → P w.store → Holds P (Step.step_throw p f s w)
  throw-keeps f [] w h = tt
  throw-keeps f (Prim b ∷ s) w h = tt
  throw-keeps f (Null ∷ s) w h = kept.made _ _ _ w.store h
  throw-keeps f (Ref r ∷ s) w h = h

  object_or_none-keeps : (go : Object → Next) (o : Option Object) → ((x : Object) → o ≡ Some x → Holds P (go x)) → Holds P (Step.object_or_none go o)
  object_or_none-keeps go None each = tt
  object_or_none-keeps go (Some o) each = each o refl

  on_object-keeps : (v : Value) (f : Frame) (w : World) (go : ℕ → Object → World → Next) → P w.store → ((r : ℕ) (o : Object) (u : World) → slice_get u.store.heap r ≡ Some o → P u.store → Holds P (go r o u)) → Holds P (Step.on_object p v f w go)
  on_object-keeps Null f w go h each = kept.made _ _ _ w.store h
  on_object-keeps (Prim b) f w go h each = throws_or_goes-keeps f w (λ u. NoRule) h (λ u k. tt {0})
  on_object-keeps (Ref r) f w go h each = throws_or_goes-keeps f w (λ u. Step.object_or_none (λ o. go r o u) (slice_get u.store.heap r)) h (λ u k. object_or_none-keeps (λ o. go r o u) (slice_get u.store.heap r) (λ o e. each r o u e k))

  get_field-keeps : (k : ℕ) (f : Frame) (s : List Value) (w : World) → P w.store → Holds P (Step.step_get_field p k f s w)
  get_field-keeps k f [] w h = tt
  get_field-keeps k f (v ∷ s) w h = on_object-keeps v (with_stack s f) w (λ r o u. Step.pushes_some (Step.field_value k o.fields) (with_stack s f) u) h (λ r o u e g. pushes_some-keeps (Step.field_value k o.fields) (with_stack s f) u g)

  puts_field-keeps : (k : ℕ) (v : Value) (r : ℕ) (o : Object) (old : Option Value) (f : Frame) (w : World) → slice_get w.store.heap r ≡ Some o → P w.store → Holds P (Step.puts_field k v r o old f w)
  puts_field-keeps k v r o None f w e h = tt
  puts_field-keeps k v r o (Some old) f w e h = kept.wrote r o (object_with_field k v o) w.store e (set-becomes k v o) h

  put_field-keeps : (k : ℕ) (f : Frame) (s : List Value) (w : World) → P w.store → Holds P (Step.step_put_field p k f s w)
  put_field-keeps k f [] w h = tt
  put_field-keeps k f (v ∷ []) w h = tt
  put_field-keeps k f (v ∷ t ∷ s) w h = on_object-keeps t (with_stack s f) w (λ r o u. Step.puts_field k v r o (Step.field_value k o.fields) (with_stack s f) u) h (λ r o u e g. puts_field-keeps k v r o (Step.field_value k o.fields) (with_stack s f) u e g)

  get_static-keeps : (k : ℕ) (f : Frame) (w : World) → P w.store → Holds P (Step.step_get_static p k f w)
  get_static-keeps k f w h = if-keeps (Holds P) (Step.is_static_field p k) (Step.pushes_some (slice_get w.store.statics k) f w) NoRule (pushes_some-keeps (slice_get w.store.statics k) f w h) (tt {0})

  put_static-keeps : (k : ℕ) (f : Frame) (s : List Value) (w : World) → P w.store → Holds P (Step.step_put_static p k f s w)
  put_static-keeps k f [] w h = tt
  put_static-keeps k f (v ∷ s) w h = if-keeps (Holds P) (Step.is_static_field p k) (Goes (with_stack s f) (changed (with_static k v) w)) NoRule (kept.assigned k v w.store h) (tt {0})

  new-keeps : (t : ℕ) (f : Frame) (w : World) → P w.store → Holds P (Step.step_new p t f w)
  new-keeps t f w h = if-keeps (Holds P) (Step.has_no_objects (slice_get p.classes t)) (Step.throws_new p none f w) (Step.throws_or_goes p f w (λ u. Step.pushes_made f (object_made (new_object p t none []) u))) (kept.made _ _ _ w.store h) (throws_or_goes-keeps f w (λ u. Step.pushes_made f (object_made (new_object p t none []) u)) h (λ u k. kept.made _ _ _ u.store k))

  nested-keeps : (n : ℕ) (m : Made) → P m.world.store → P (Step.nested p n m).world.store
  nested-keeps zero m h = h
  nested-keeps (suc n) m h = nested-keeps n (around p none m) (kept.made _ _ _ m.world.store h)

  makes_arrays-keeps : (t n : ℕ) (f : Frame) (w : World) → P w.store → Holds P (Step.makes_arrays p t n f w)
  makes_arrays-keeps t zero f w h = tt
  makes_arrays-keeps t (suc n) f w h = throws_or_goes-keeps f w (λ u. Step.pushes_made f (Step.nested p n (object_made (new_object p t none []) u))) h (λ u k. nested-keeps n (object_made (new_object p t none []) u) (kept.made _ _ _ u.store k))

  loads_element-keeps : (k : Kind) (f : Frame) (o : Object) (w : World) → P w.store → Holds P (Step.loads_element p k f o w)
  loads_element-keeps R f o w h = if-keeps (Holds P) (o.token.0 == rarr_token p) (decide (length o.bag + 1) w (λ i u. Step.pushes_some (Step.element o.bag i) f u)) NoRule (decide-keeps (Holds P) P (length o.bag + 1) w (λ i u. Step.pushes_some (Step.element o.bag i) f u) h (λ i u g. pushes_some-keeps (Step.element o.bag i) f u g)) (tt {0})
  loads_element-keeps P1 f o w h = if-keeps (Holds P) (o.token.0 == parr_token p) _ NoRule h tt
  loads_element-keeps P2 f o w h = if-keeps (Holds P) (o.token.0 == parr_token p) _ NoRule h tt
  loads_element-keeps T f o w h = if-keeps (Holds P) (o.token.0 == parr_token p) _ NoRule h tt

  array_load-keeps : (k : Kind) (f : Frame) (s : List Value) (w : World) → P w.store → Holds P (Step.step_array_load p k f s w)
  array_load-keeps k f [] w h = tt
  array_load-keeps k f (i ∷ []) w h = tt
  array_load-keeps k f (i ∷ a ∷ s) w h = on_object-keeps a (with_stack s f) w (λ r o u. Step.loads_element p k (with_stack s f) o u) h (λ r o u e g. loads_element-keeps k (with_stack s f) o u g)

  stores_element-keeps : (k : Kind) (v : Value) (f : Frame) (r : ℕ) (o : Object) (w : World) → slice_get w.store.heap r ≡ Some o → P w.store → Holds P (Step.stores_element p k v f r o w)
  stores_element-keeps R v f r o w e h = if-keeps (Holds P) (o.token.0 == rarr_token p) _ NoRule (kept.wrote r o (object_grown none (references (v ∷ [])) o) w.store e (grown-becomes none (references (v ∷ [])) o) h) (tt {0})
  stores_element-keeps P1 v f r o w e h = if-keeps (Holds P) (o.token.0 == parr_token p) _ NoRule (kept.wrote r o (object_grown (mark_of v) [] o) w.store e (grown-becomes (mark_of v) [] o) h) (tt {0})
  stores_element-keeps P2 v f r o w e h = if-keeps (Holds P) (o.token.0 == parr_token p) _ NoRule (kept.wrote r o (object_grown (mark_of v) [] o) w.store e (grown-becomes (mark_of v) [] o) h) (tt {0})
  stores_element-keeps T v f r o w e h = if-keeps (Holds P) (o.token.0 == parr_token p) _ NoRule (kept.wrote r o (object_grown (mark_of v) [] o) w.store e (grown-becomes (mark_of v) [] o) h) (tt {0})

  array_store-keeps : (k : Kind) (f : Frame) (s : List Value) (w : World) → P w.store → Holds P (Step.step_array_store p k f s w)
  array_store-keeps k f [] w h = tt
  array_store-keeps k f (v ∷ []) w h = tt
  array_store-keeps k f (v ∷ i ∷ []) w h = tt
  array_store-keeps k f (v ∷ i ∷ a ∷ s) w h = on_object-keeps a (with_stack s f) w (λ r o u. Step.stores_element p k v (with_stack s f) r o u) h (λ r o u e g. stores_element-keeps k v (with_stack s f) r o u e g)

  unless_null-keeps : (v : Value) (f : Frame) (w : World) (go : World → Next) → P w.store → ((u : World) → P u.store → Holds P (go u)) → Holds P (Step.unless_null p v f w go)
  unless_null-keeps Null f w go h each = kept.made _ _ _ w.store h
  unless_null-keeps (Prim b) f w go h each = throws_or_goes-keeps f w go h each
  unless_null-keeps (Ref r) f w go h each = throws_or_goes-keeps f w go h each

  array_length-keeps : (f : Frame) (s : List Value) (w : World) → P w.store → Holds P (Step.step_array_length p f s w)
  array_length-keeps f [] w h = tt
  array_length-keeps f (a ∷ s) w h = unless_null-keeps a (with_stack s f) w (Step.pushes (Prim none) (with_stack s f)) h (λ u k. k)

  monitor-keeps : (f : Frame) (s : List Value) (w : World) → P w.store → Holds P (Step.step_monitor p f s w)
  monitor-keeps f [] w h = tt
  monitor-keeps f (a ∷ s) w h = unless_null-keeps a (with_stack s f) w (Goes (with_stack s f)) h (λ u k. k)

  instance_of-keeps : (f : Frame) (s : List Value) (w : World) → P w.store → Holds P (Step.step_instance_of f s w)
  instance_of-keeps f [] w h = tt
  instance_of-keeps f (v ∷ s) w h = h

  casts_object-keeps : (n : List ℕ) (r : ℕ) (f : Frame) (w : World) (o : Option Object) → P w.store → Holds P (Step.casts_object p n r f w o)
  casts_object-keeps n r f w None h = tt
  casts_object-keeps n r f w (Some o) h = if-keeps (Holds P) (fits p o.token.0 n) (Step.throws_or_goes p f w (Step.pushes (Ref r) f)) (Step.throws_new p none f w) (throws_or_goes-keeps f w (Step.pushes (Ref r) f) h (λ u k. k)) (kept.made _ _ _ w.store h)

  cast-keeps : (n : List ℕ) (f : Frame) (s : List Value) (w : World) → P w.store → Holds P (Step.step_cast p n f s w)
  cast-keeps n f [] w h = tt
  cast-keeps n f (Null ∷ s) w h = throws_or_goes-keeps (with_stack s f) w (Step.pushes Null (with_stack s f)) h (λ u k. k)
  cast-keeps n f (Prim b ∷ s) w h = throws_or_goes-keeps (with_stack s f) w (λ u. NoRule) h (λ u k. tt {0})
  cast-keeps n f (Ref r ∷ s) w h = casts_object-keeps n r (with_stack s f) w (slice_get w.store.heap r) h

  fresh_object-made : (m : ℕ) (w : World) (k : ℕ) → P w.store → P (fresh_object p m w k).world.store
  fresh_object-made m w zero h = kept.made _ _ _ w.store h
  fresh_object-made m w (suc zero) h = kept.made _ _ _ w.store h
  fresh_object-made m w (suc (suc k)) h = kept.made _ _ _ _ (kept.made _ _ _ w.store h)

  fresh_plain-made : (s : Shape) (m : ℕ) (w : World) → P w.store → P (fresh_plain p s m w).world.store
  fresh_plain-made (InProgram c) m w h = h
  fresh_plain-made Primitives m w h = kept.made _ _ _ w.store h
  fresh_plain-made References m w h = h
  fresh_plain-made Strings m w h = kept.made _ _ _ w.store h
  fresh_plain-made Objects m w h = fresh_object-made m (spent w) (way 3 w.choices) h
  fresh_plain-made Elsewhere m w h = kept.made _ _ _ w.store h

  fresh_array-made : (s : Shape) (m : ℕ) (w : World) (inner : Made) → P w.store → P inner.world.store → P (fresh_array p s m w inner).world.store
  fresh_array-made (InProgram c) m w inner h k = kept.made _ _ _ w.store h
  fresh_array-made Primitives m w inner h k = kept.made _ _ _ w.store h
  fresh_array-made References m w inner h k = kept.made _ _ _ inner.world.store k
  fresh_array-made Strings m w inner h k = kept.made _ _ _ w.store h
  fresh_array-made Objects m w inner h k = kept.made _ _ _ w.store h
  fresh_array-made Elsewhere m w inner h k = kept.made _ _ _ w.store h

  fresh_of-made : (d : List ℕ) (m : ℕ) (w : World) → P w.store → P (fresh_of p d m w).world.store
  fresh_of-made [] m w h = h
  fresh_of-made (b ∷ d) m w h =
      if-keeps (λ (m : Made). P m.world.store) (b == 91) _ _ (fresh_array-made (array_shape d) m w _ h (fresh_of-made d m w h))
      (if-keeps (λ (m : Made). P m.world.store) (b == 76) _ _ (fresh_plain-made (shape_of p (before_semicolon d)) m w h) h)

  fresh_named-made : (s : Shape) (n : List ℕ) (m : ℕ) (w : World) → P w.store → P (fresh_named p s n m w).world.store
  fresh_named-made (InProgram c) n m w h = h
  fresh_named-made Primitives n m w h = kept.made _ _ _ w.store h
  fresh_named-made References n m w h = fresh_of-made n m w h
  fresh_named-made Strings n m w h = kept.made _ _ _ w.store h
  fresh_named-made Objects n m w h = fresh_plain-made Objects m w h
  fresh_named-made Elsewhere n m w h = kept.made _ _ _ w.store h

  fresh_in-made : (k : Kind) (n : List ℕ) (m : ℕ) (w : World) → P w.store → P (fresh_in p k n m w).world.store
  fresh_in-made R n m w h = fresh_named-made (shape_of p n) n m w h
  fresh_in-made P1 n m w h = h
  fresh_in-made P2 n m w h = h
  fresh_in-made T n m w h = h

  pub fresh-made : (t : JavaType) (m : ℕ) (w : World) → P w.store → P (fresh p t m w).world.store
  fresh-made t m w h = fresh_in-made t.kind t.name m w h

  -- the library
  grown-keeps : (m : ℕ) (rs : List ℕ) (r : ℕ) (o : Option Object) (w : World) → slice_get w.store.heap r ≡ o → P w.store → P (Library.grown m rs r o w).store
  grown-keeps m rs r None w e h = h
  grown-keeps m rs r (Some o) w e h =
      let rise : ℕ = either (way 2 w.choices) none m in
      let took : List ℕ = (Library.picked rs (after_choice w.choices)).places in
      kept.wrote r o (object_grown rise took o) w.store e (grown-becomes rise took o) h

  all_grown-keeps : (m : ℕ) (rs cs : List ℕ) (w : World) → P w.store → P (Library.all_grown m rs cs w).store
  all_grown-keeps m rs [] w h = h
  all_grown-keeps m rs (c ∷ cs) w h = all_grown-keeps m rs cs (Library.grown m rs c (slice_get w.store.heap c) w) (grown-keeps m rs c (slice_get w.store.heap c) w refl h)

  pushes_place-keeps : (r : Option ℕ) (f : Frame) (w : World) → P w.store → Holds P (Library.pushes_place r f w)
  pushes_place-keeps None f w h = tt
  pushes_place-keeps (Some r) f w h = h

  pushes_way-keeps : (t : JavaType) (m : ℕ) (rs : List ℕ) (f : Frame) (w : World) (k : ℕ) → P w.store → Holds P (Library.pushes_way p t m rs f w k)
  pushes_way-keeps t m rs f w zero h = h
  pushes_way-keeps t m rs f w (suc zero) h = fresh-made t m w h
  pushes_way-keeps t m rs f w (suc (suc k)) h = pushes_place-keeps (slice_get rs k) f w h

  one_of-keeps : (t : JavaType) (m : ℕ) (rs : List ℕ) (f : Frame) (w : World) → P w.store → Holds P (Library.pushes_one_of p t m rs f w)
  one_of-keeps t m rs f w h = decide-keeps (Holds P) P (length rs + 2) w (λ i u. Library.pushes_way p t m rs f u i) h (λ i u g. pushes_way-keeps t m rs f u i g)

  pushes_first-keeps : (n : List ℕ) (v : Value) (f : Frame) (w : World) → P w.store → Holds P (Library.pushes_first p n v f w)
  pushes_first-keeps n (Prim b) f w h = h
  pushes_first-keeps n Null f w h = h
  pushes_first-keeps n (Ref r) f w h = if-keeps (Holds P) (Library.fits_at p n (slice_get w.store.heap r)) _ NoRule h tt

  pushes_result-keeps : (r : RowResult) (t : JavaType) (m : ℕ) (args : List Value) (f : Frame) (w : World) → P w.store → Holds P (Library.pushes_result p r t m args f w)
  pushes_result-keeps Fresh t m args f w h = fresh-made t m w h
  pushes_result-keeps Argument t m args f w h = pushes_first-keeps t.name (Library.first_of args) f w h
  pushes_result-keeps Member t m args f w h =
      one_of-keeps t m (Library.fitting_places p t.name bag_links w.store.heap (Library.after_one w.store.heap (references (Library.first_of args ∷ [])))) f w h
  pushes_result-keeps Any t m args f w h =
      one_of-keeps t m (Library.fitting_places p t.name links w.store.heap (references args)) f w h

  pushes_of_kind-keeps : (k : Kind) (r : RowResult) (t : JavaType) (m : ℕ) (args : List Value) (f : Frame) (w : World) → P w.store → Holds P (Library.pushes_of_kind p k r t m args f w)
  pushes_of_kind-keeps R r t m args f w h = pushes_result-keeps r t m args f w h
  pushes_of_kind-keeps P1 r t m args f w h = h
  pushes_of_kind-keeps P2 r t m args f w h = h
  pushes_of_kind-keeps T r t m args f w h = h

  ends_with-keeps : (r : RowResult) (t : Option JavaType) (m : ℕ) (args : List Value) (f : Frame) (w : World) → P w.store → Holds P (Library.ends_with p r t m args f w)
  ends_with-keeps r None m args f w h = h
  ends_with-keeps r (Some t) m args f w h = pushes_of_kind-keeps t.kind r t m args f w h

  library-keeps : (c : CallOp) (args : List Value) (f : Frame) (w : World) → P w.store → Holds P (Library.library p c args f w)
  library-keeps c args f w h =
      let tainted : ℕ = all_taints w.store.heap args in
      let flow : ℕ = Library.flow_of c.row.flow (set_of c.row.marks) tainted in
      let g : Frame = dirtied (Library.stored_taint c.row.effect flow tainted) f in
      let picked : Library.Picked = Library.picked (Library.candidates p c c.row.effect args w.store.heap) w.choices in
      let u : World = Library.affected flow (references args) picked w in
      decide-keeps (Holds P) P 2 u (λ i v. either i (Library.ends_with p c.row.result c.result flow args g v) (Step.throws_new p flow g v))
      (all_grown-keeps flow (references args) picked.places (record { choices = picked.choices; store = w.store }) h)
      (λ i v k. either-keeps (Holds P) i (Library.ends_with p c.row.result c.result flow args g v) (Step.throws_new p flow g v) (ends_with-keeps c.row.result c.result flow args g v k) (kept.made _ _ _ v.store k))

  -- calls
  goes_to-keeps : (c : CallOp) (args : List Value) (f : Frame) (w : World) (t : Target) → P w.store → Holds P (Call.goes_to p c args f w t)
  goes_to-keeps c args f w OnNull h = kept.made _ _ _ w.store h
  goes_to-keeps c args f w Nowhere h = tt
  goes_to-keeps c args f w (To (Program m)) h = h
  goes_to-keeps c args f w (To (Abstract m)) h = kept.made _ _ _ w.store h
  goes_to-keeps c args f w (To Library) h = library-keeps c args f w h

  -- each operation keeps the property
  pub act-keeps : (op : Op) (f : Frame) (w : World) → P w.store → Holds P (act p op f w)
  act-keeps Nop f w h = h
  act-keeps (Const k) f w h = h
  act-keeps Text f w h = kept.made _ _ _ w.store h
  act-keeps (New t) f w h = new-keeps t.0 f w h
  act-keeps (Load k l) f w h = pushes_some-keeps (slice_get f.locals l) f w h
  act-keeps (Storing k l) f w h = store-keeps l f f.stack w h
  act-keeps (ArrLoad k) f w h = array_load-keeps k f f.stack w h
  act-keeps (ArrStore k) f w h = array_store-keeps k f f.stack w h
  act-keeps (Shuffle n ks) f w h = with_popped-keeps n f _ (λ vs g. picks-keeps vs ks g w h)
  act-keeps (Mix n k b) f w h = with_popped-keeps n f _ (λ vs g. mixes-keeps b vs g w h)
  act-keeps (Branch n) f w h = with_popped-keeps n f (λ vs g. Goes g w) (λ vs g. h)
  act-keeps (Return k) f w h = return-keeps k f w h
  act-keeps (GetStatic k) f w h = get_static-keeps k.0 f w h
  act-keeps (PutStatic k) f w h = put_static-keeps k.0 f f.stack w h
  act-keeps (GetField k) f w h = get_field-keeps k.0 f f.stack w h
  act-keeps (PutField k) f w h = put_field-keeps k.0 f f.stack w h
  act-keeps (Call c) f w h = with_popped-keeps (arguments c) f _ (λ args g. goes_to-keeps c args g w (Call.target_of p c args w.store.heap) h)
  act-keeps (NewArray t n) f w h = with_popped-keeps n f _ (λ vs g. makes_arrays-keeps t.0 n g w h)
  act-keeps ArrLen f w h = array_length-keeps f f.stack w h
  act-keeps Throw f w h = throw-keeps f f.stack w h
  act-keeps (Cast n) f w h = cast-keeps n f f.stack w h
  act-keeps InstanceOf f w h = instance_of-keeps f f.stack w h
  act-keeps Monitor f w h = monitor-keeps f f.stack w h
