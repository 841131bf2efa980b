-- What each change of the objects keeps, each program run keeps; so each object has exactly the fields of its class, and bags lead where links do.
use Rattle.std.proofs.Common.{◌≡◌, ℕ, zero, suc, inl, inr, List, [], ◌∷◌, length, map, refl, sym, ◌∙◌, ap, subst}
use Rattle.std.specs.Prelude.{Option, Some, None, slice_get, slice_set}
use Rattle.std.proofs.lemmas.List.Elements.{Contains-append_right}
use Rattle.std.proofs.lemmas.Option.{none-some, same_Some}
use Rattle.ja_base.specs.declared.id.MethodId.{MethodId}
use Rattle.ja_base.specs.declared.java_type.JavaType.{JavaType}
use Rattle.ja_ir.specs.declared.program.Parts.{Parts}
use Rattle.ja_ir.specs.declared.class.Field.{Field}
use Rattle.ja_ir.specs.declared.entry.Entry.{Entry}
use Rattle.ja_ir.specs.Entries.{constructor_of}
use Rattle.ja_ir.specs.Initializing.{inits_of_class}
use Rattle.ja_ir.specs.Tokens.{absorbs, text_token}
use Rattle.ja_machine.specs.declared.heap.Value.{Value}
use Rattle.ja_machine.specs.declared.heap.Value.TheVariants.{Ref}
use Rattle.ja_machine.specs.declared.heap.FieldValue.{FieldValue}
use Rattle.ja_machine.specs.declared.heap.Object.{Object}
use Rattle.ja_machine.specs.Marks.{none}
use Rattle.ja_machine.specs.Reach.{links, bag_links, field_references, Path, here, along}
use Rattle.ja_machine.specs.State.{World, Outcome, Returned, Threw, Stuck, Cut, Failed}
use Rattle.ja_machine.specs.Objects.{defaults, new_object, Made, fresh}
use Rattle.ja_machine.specs.Step.{object_grown}
use Rattle.ja_machine.specs.Run.{start, call_run, store_in}
use Rattle.ja_machine.specs.Environment
use Rattle.ja_machine.specs.Environment.{Known, Action, Initialize, Create, Make, CallEntry, Rest, State, Idle, Over, Attempt, world_of, with_new, taking, taking_from, attempt, settled, happens, after, begins_as_text, first_heap, first_state, program_run, heap_in}
use Rattle.ja_machine.specs.Laws.{Becomes, HasItsFields}
use Rattle.ja_machine.proofs.Kept.{IsKept, if-keeps, fresh-made, grown-becomes}
use Rattle.ja_machine.proofs.Runs.{run-keeps}
use Rattle.ja_machine.proofs.Later.{get-set, get-others, same-or-not}
use Rattle.ja_machine.proofs.Slots.{get-last}

-- a property of objects that new objects of the program have, and that they keep whatever they become
pub record IsOfObjects (p : Parts) (Q : Object → Type 0) : Type 0 where
  pub new : (t m : ℕ) (bag : List ℕ) → Q (new_object p t m bag)
  pub kept : (old new : Object) → Becomes old new → Q old → Q new

-- all objects of a heap have the property
abbrev pub Each : (Object → Type 0) → List Object → Type 0
Each Q heap = (r : ℕ) (o : Object) → slice_get heap r ≡ Some o → Q o

module _ (p : Parts) (Q : Object → Type 0) (of : IsOfObjects p Q) where
  -- the property stays through each change of a store
  each-kept : IsKept p (λ s. Each Q s.heap)
  each-kept = record {
    made = λ t m bag s h r o e. elim (get-last s.heap (new_object p t m bag) r o e) [ inl q ↦ h r o q | inr q ↦ subst Q q.1 (of.new t m bag) ];
    wrote = λ k a n s e b h r o q. elim (same-or-not r k) [
      | inl s' ↦ (let same : n ≡ o = same_Some n o (sym (get-set s.heap k a n e) ∙ (ap (slice_get (slice_set s.heap k n)) (sym s') ∙ q)) in subst Q same (of.kept a n b (h k a e)))
      | inr other ↦ h r o (sym (get-others s.heap k r n other) ∙ q)
    ];
    assigned = λ k v s h. h;
    told = λ es s h. h;
  }

  each-run : (m : ℕ) (args : List Value) (w : World) (n : ℕ) → Each Q w.store.heap → Each Q (store_in (call_run p m args w n)).heap
  each-run m args w n h = run-keeps p (λ s. Each Q s.heap) each-kept n (start p m args w) w n h

  abbrev EachIn : State → Type 0
  EachIn s = Each Q (heap_in s)

  ended-each : (known : List Known) (o : Outcome) → Each Q (store_in o).heap → EachIn (Environment.ended known o)
  ended-each known (Returned v d w l) h = h
  ended-each known (Threw r y w l) h = h
  ended-each known (Stuck x ys w) h = h
  ended-each known (Cut x ys w) h = h
  ended-each known (Failed x ys w) h = h

  abbrev After : Rest → Attempt → Type 0
  After rest a = EachIn (settled rest a)

  called-each : (rest : Rest) (cs : List ℕ) (known : List Known) (m : ℕ) (args : List Value) (w : World) (n : ℕ) → Each Q w.store.heap → EachIn (Environment.ended known (call_run p m args w n))
  called-each rest cs known m args w n h = ended-each known (call_run p m args w n) (each-run m args w n h)

  initialized_by-each : (rest : Rest) (n : ℕ) (cs : List ℕ) (m : Option MethodId) → Each Q rest.heap → After rest (Environment.initialized_by p rest n cs m)
  initialized_by-each rest n cs None h = h
  initialized_by-each rest n cs (Some m) h = called-each rest cs rest.known m.0 [] (world_of rest cs) n h

  initialized-each : (rest : Rest) (k n : ℕ) (cs : List ℕ) (it : Option Entry) → Each Q rest.heap → After rest (Environment.initialized p rest k n cs it)
  initialized-each rest k n cs None h = h
  initialized-each rest k n cs (Some it) h = initialized_by-each rest n cs (slice_get (inits_of_class (slice_get p.classes it.class.0)) k) h

  constructed-each : (rest : Rest) (k n : ℕ) (cs : List ℕ) (m : Option ℕ) → Each Q rest.heap → After rest (Environment.constructed p rest k n cs m)
  constructed-each rest k n cs None h = h
  constructed-each rest k n cs (Some m) h = called-each rest cs _ m (Ref (length rest.heap) ∷ []) (with_new p k (world_of rest cs)) n (each-kept.made _ _ _ (world_of rest cs).store h)

  created-each : (rest : Rest) (n : ℕ) (cs : List ℕ) (it : Option Entry) → Each Q rest.heap → After rest (Environment.created p rest n cs it)
  created-each rest n cs None h = h
  created-each rest n cs (Some it) h =
      if-keeps (After rest) (Environment.takes_receiver (slice_get p.methods it.method.0)) (Environment.constructed p rest it.class.0 n cs (constructor_of p it.class.0)) Environment.Refused
      (constructed-each rest it.class.0 n cs (constructor_of p it.class.0) h) h

  absorbing-each : (places : List ℕ) (o : Object) → Q o → Q (Environment.absorbing p places o)
  absorbing-each places o h = if-keeps Q (absorbs p o.token.0) (object_grown none places o) o (of.kept o (object_grown none places o) (grown-becomes none places o) h) h

  taking-each : (known : List Known) (takes : List (List ℕ)) (heap : List Object) → Each Q heap → Each Q (taking p known takes heap)
  taking-each known takes [] h r o e = absurd (none-some o e)
  taking-each known [] (x ∷ heap) h r o e = h r o e
  taking-each known (ks ∷ takes) (x ∷ heap) h zero o e = subst Q (same_Some (Environment.absorbing p (Environment.known_places known ks) x) o e) (absorbing-each (Environment.known_places known ks) x (h 0 x refl))
  taking-each known (ks ∷ takes) (x ∷ heap) h (suc r) o e = taking-each known takes heap (λ j y q. h (suc j) y q) r o e

  taking_from-each : (known : List Known) (takes : List (List ℕ)) (n : ℕ) (heap : List Object) → Each Q heap → Each Q (taking_from p known takes n heap)
  taking_from-each known takes zero heap h r o e = taking-each known takes heap h r o e
  taking_from-each known takes (suc n) [] h r o e = absurd (none-some o e)
  taking_from-each known takes (suc n) (x ∷ heap) h zero o e = h 0 o e
  taking_from-each known takes (suc n) (x ∷ heap) h (suc r) o e = taking_from-each known takes n heap (λ j y q. h (suc j) y q) r o e

  made-each : (rest : Rest) (mark : ℕ) (takes : List (List ℕ)) (cs : List ℕ) (t : Option JavaType) → Each Q rest.heap → After rest (Environment.made_of_type p rest mark takes cs t)
  made-each rest mark takes cs None h = h
  made-each rest mark takes cs (Some t) h =
      let made : Made = fresh p t mark (world_of rest cs) in
      taking_from-each rest.known takes (length rest.heap) made.world.store.heap (fresh-made p (λ s. Each Q s.heap) each-kept t mark (world_of rest cs) h)

  makes-each : (rest : Rest) (k mark : ℕ) (takes : List (List ℕ)) (cs : List ℕ) (it : Option Entry) → Each Q rest.heap → After rest (Environment.made p rest k mark takes cs it)
  makes-each rest k mark takes cs None h = h
  makes-each rest k mark takes cs (Some it) h = made-each rest mark takes cs (slice_get (Environment.entry_params p it) k) h

  called_with-each : (rest : Rest) (m n : ℕ) (cs : List ℕ) (args : Option (List Value)) → Each Q rest.heap → After rest (Environment.called_with p rest m n cs args)
  called_with-each rest m n cs None h = h
  called_with-each rest m n cs (Some args) h = called-each rest cs rest.known m args (world_of rest cs) n h

  entered-each : (rest : Rest) (given : List Environment.Given) (n : ℕ) (cs : List ℕ) (it : Option Entry) → Each Q rest.heap → After rest (Environment.called p rest given n cs it)
  entered-each rest given n cs None h = h
  entered-each rest given n cs (Some it) h = called_with-each rest it.method.0 n cs (Environment.given_args p it rest (Environment.takes_receiver (slice_get p.methods it.method.0)) given) h

  attempt-each : (rest : Rest) (a : Action) → Each Q rest.heap → After rest (attempt p rest a)
  attempt-each rest (Initialize e k n cs) h = initialized-each rest k n cs (slice_get p.entries e) h
  attempt-each rest (Create k n cs) h = created-each rest n cs (slice_get p.entries k) h
  attempt-each rest (Make k i mark takes cs) h = makes-each rest i mark takes cs (slice_get p.entries k) h
  attempt-each rest (CallEntry k given n cs) h = entered-each rest given n cs (slice_get p.entries k) h

  happens-each : (s : State) (a : Action) → EachIn s → EachIn (happens p s a)
  happens-each (Over o) a h = h
  happens-each (Idle rest) a h = attempt-each rest a h

  after-each : (s : State) (actions : List Action) → EachIn s → EachIn (after p s actions)
  after-each s [] h = h
  after-each s (a ∷ actions) h = after-each (happens p s a) actions (happens-each s a h)

  more-each : (o : Object) (heap : List Object) → Q o → Each Q heap → Each Q (o ∷ heap)
  more-each o heap q h zero x e = subst Q (same_Some o x e) q
  more-each o heap q h (suc r) x e = h r x e

  first-each : (fields : List Field) → Each Q (first_heap p fields)
  first-each [] r o e = absurd (none-some o e)
  first-each (f ∷ fields) r o e =
      if-keeps (Each Q) (begins_as_text f) (new_object p (text_token p) none [] ∷ first_heap p fields) (first_heap p fields)
      (more-each (new_object p (text_token p) none []) (first_heap p fields) (of.new (text_token p) none []) (first-each fields)) (first-each fields) r o e

  -- each object of a program run has the property
  pub program-each : (actions : List Action) → Each Q (heap_in (program_run p actions))
  program-each actions = after-each (first_state p) actions (first-each p.fields)

-- new objects have the fields of their class, and keep them
fields-of-objects : (p : Parts) → IsOfObjects p (HasItsFields p)
fields-of-objects p = record {
  new = λ t m bag. refl;
  kept = λ old new b h. b.fields ∙ (h ∙ ap (λ t. map (λ (f : FieldValue). f.field) (defaults p t.0 0 p.fields)) (sym b.token));
}

-- in each program run each object has exactly the fields of its class
pub program-fields : (p : Parts) (actions : List Action) → Each (HasItsFields p) (heap_in (program_run p actions))
program-fields p actions = program-each p (HasItsFields p) (fields-of-objects p) actions

-- and so in each run that begins with such objects
pub run-fields : (p : Parts) (m : ℕ) (args : List Value) (w : World) (n : ℕ) → Each (HasItsFields p) w.store.heap → Each (HasItsFields p) (store_in (call_run p m args w n)).heap
run-fields p m args w n h = each-run p (HasItsFields p) (fields-of-objects p) m args w n h

-- a path through bags is a path
pub bag-path : (heap : List Object) (a b : ℕ) → Path bag_links heap a b → Path links heap a b
bag-path heap a b here = here
bag-path heap a b (along {c = c} l q) =
    along (record { object = l.object; found = l.found; listed = Contains-append_right (field_references l.object.fields) l.object.bag c l.listed }) (bag-path heap c b q)
