-- A program run only goes on with each action.
use Rattle.std.proofs.Common.{◌≡◌, ℕ, zero, suc, ◌<◌, List, [], ◌∷◌, ◌++◌, length, refl, sym, ◌∙◌, subst, append-nil, arith}
use Rattle.std.specs.Prelude.{Option, Some, None, slice_get}
use Rattle.std.proofs.lemmas.Option.{slice_get_within}
use Rattle.ja_base.specs.declared.java_type.JavaType.{JavaType}
use Rattle.ja_base.specs.declared.id.MethodId.{MethodId}
use Rattle.ja_ir.specs.declared.program.Parts.{Parts}
use Rattle.ja_ir.specs.declared.entry.Entry.{Entry}
use Rattle.ja_ir.specs.Entries.{constructor_of}
use Rattle.ja_ir.specs.Initializing.{inits_of_class}
use Rattle.ja_machine.specs.declared.heap.Value.{Value}
use Rattle.ja_machine.specs.declared.heap.Value.TheVariants.{Ref}
use Rattle.ja_machine.specs.declared.heap.Object.{Object}
use Rattle.ja_machine.specs.State.{Store, World, Outcome, Returned, Threw, Stuck, Cut, Failed}
use Rattle.ja_machine.specs.Objects.{Made, fresh}
use Rattle.ja_machine.specs.Run.{start, call_run, store_in}
use Rattle.ja_machine.specs.Environment
use Rattle.ja_machine.specs.Environment.{Known, Action, Initialize, Create, Make, CallEntry, Rest, State, Idle, Over, Attempt, Refused, MadeNew, Ran, world_of, with_new, taking, taking_from, attempt, settled, happens, after, first_state, program_run, heap_in, events_of}
use Rattle.ja_machine.specs.Laws.{IsStill, IsLater, HasGoneOn}
use Rattle.ja_machine.proofs.Kept.{if-keeps, fresh-made}
use Rattle.ja_machine.proofs.Runs.{run-keeps}
use Rattle.ja_machine.proofs.Later.{begins-after, becomes-itself, becomes-after, later-itself, later-kept}

-- a state goes on to itself
goes-itself : (s : State) → HasGoneOn s s
goes-itself s = record { objects = λ r o e. record { new = o; found = e; became = becomes-itself o }; events = ([], sym (append-nil (events_of s))) }

goes-after : (a b c : State) → HasGoneOn a b → HasGoneOn b c → HasGoneOn a c
goes-after a b c x y = record {
  objects = λ r o e.
      let s : IsStill (heap_in b) r o = x.objects r o e in
      let t : IsStill (heap_in c) r s.new = y.objects r s.new s.found in
      record { new = t.new; found = t.found; became = becomes-after o s.new t.new s.became t.became };
  events = begins-after (events_of a) (events_of b) (events_of c) x.events y.events;
}

-- a run that begins with what stands goes on from it
ran-goes : (rest : Rest) (cs : List ℕ) (known : List Known) (o : Outcome) → IsLater (world_of rest cs).store (store_in o) → HasGoneOn (Idle rest) (Environment.ended known o)
ran-goes rest cs known (Returned v d w l) h = record { objects = h.objects; events = h.events }
ran-goes rest cs known (Threw r y w l) h = record { objects = h.objects; events = h.events }
ran-goes rest cs known (Stuck x ys w) h = record { objects = h.objects; events = h.events }
ran-goes rest cs known (Cut x ys w) h = record { objects = h.objects; events = h.events }
ran-goes rest cs known (Failed x ys w) h = record { objects = h.objects; events = h.events }

call-later : (b : Store) (p : Parts) (m : ℕ) (args : List Value) (w : World) (n : ℕ) → IsLater b w.store → IsLater b (store_in (call_run p m args w n))
call-later b p m args w n h = run-keeps p (IsLater b) (later-kept p b) n (start p m args w) w n h

-- the state after an attempt has gone on
abbrev Goes : Rest → Attempt → Type 0
Goes rest a = HasGoneOn (Idle rest) (settled rest a)

initialized_by-goes : (p : Parts) (rest : Rest) (n : ℕ) (cs : List ℕ) (m : Option MethodId) → Goes rest (Environment.initialized_by p rest n cs m)
initialized_by-goes p rest n cs None = goes-itself (Idle rest)
initialized_by-goes p rest n cs (Some m) =
    ran-goes rest cs rest.known (call_run p m.0 [] (world_of rest cs) n) (call-later (world_of rest cs).store p m.0 [] (world_of rest cs) n (later-itself (world_of rest cs).store))

initialized-goes : (p : Parts) (rest : Rest) (k n : ℕ) (cs : List ℕ) (it : Option Entry) → Goes rest (Environment.initialized p rest k n cs it)
initialized-goes p rest k n cs None = goes-itself (Idle rest)
initialized-goes p rest k n cs (Some it) = initialized_by-goes p rest n cs (slice_get (inits_of_class (slice_get p.classes it.class.0)) k)

constructed-goes : (p : Parts) (rest : Rest) (k n : ℕ) (cs : List ℕ) (m : Option ℕ) → Goes rest (Environment.constructed p rest k n cs m)
constructed-goes p rest k n cs None = goes-itself (Idle rest)
constructed-goes p rest k n cs (Some m) =
    ran-goes rest cs _ (call_run p m (Ref (length rest.heap) ∷ []) (with_new p k (world_of rest cs)) n)
    (call-later (world_of rest cs).store p m (Ref (length rest.heap) ∷ []) (with_new p k (world_of rest cs)) n ((later-kept p (world_of rest cs).store).made _ _ _ (world_of rest cs).store (later-itself (world_of rest cs).store)))

created-goes : (p : Parts) (rest : Rest) (n : ℕ) (cs : List ℕ) (it : Option Entry) → Goes rest (Environment.created p rest n cs it)
created-goes p rest n cs None = goes-itself (Idle rest)
created-goes p rest n cs (Some it) =
    if-keeps (Goes rest) (Environment.takes_receiver (slice_get p.methods it.method.0)) (Environment.constructed p rest it.class.0 n cs (constructor_of p it.class.0)) Refused
    (constructed-goes p rest it.class.0 n cs (constructor_of p it.class.0)) (goes-itself (Idle rest))

-- what takes is behind the place
taking-before : (p : Parts) (known : List Known) (takes : List (List ℕ)) (n : ℕ) (heap : List Object) (k : ℕ) → k < n → slice_get (taking_from p known takes n heap) k ≡ slice_get heap k
taking-before p known takes zero heap k h = absurd (omega (arith, h))
taking-before p known takes (suc n) [] k h = refl
taking-before p known takes (suc n) (o ∷ heap) zero h = refl
taking-before p known takes (suc n) (o ∷ heap) (suc k) h = taking-before p known takes n heap k (omega (arith, h))

made-goes : (p : Parts) (rest : Rest) (mark : ℕ) (takes : List (List ℕ)) (cs : List ℕ) (made : Made) → IsLater (world_of rest cs).store made.world.store → Goes rest (Environment.made_in p rest mark takes made)
made-goes p rest mark takes cs made h = record {
  objects = λ r o e.
      let s : IsStill made.world.store.heap r o = h.objects r o e in
      record { new = s.new; found = taking-before p rest.known takes (length rest.heap) made.world.store.heap r (slice_get_within rest.heap r o e) ∙ s.found; became = s.became };
  events = ([], sym (append-nil rest.events));
}

made_of_type-goes : (p : Parts) (rest : Rest) (mark : ℕ) (takes : List (List ℕ)) (cs : List ℕ) (t : Option JavaType) → Goes rest (Environment.made_of_type p rest mark takes cs t)
made_of_type-goes p rest mark takes cs None = goes-itself (Idle rest)
made_of_type-goes p rest mark takes cs (Some t) =
    made-goes p rest mark takes cs (fresh p t mark (world_of rest cs)) (fresh-made p (IsLater (world_of rest cs).store) (later-kept p (world_of rest cs).store) t mark (world_of rest cs) (later-itself (world_of rest cs).store))

makes-goes : (p : Parts) (rest : Rest) (k : ℕ) (mark : ℕ) (takes : List (List ℕ)) (cs : List ℕ) (it : Option Entry) → Goes rest (Environment.made p rest k mark takes cs it)
makes-goes p rest k mark takes cs None = goes-itself (Idle rest)
makes-goes p rest k mark takes cs (Some it) = made_of_type-goes p rest mark takes cs (slice_get (Environment.entry_params p it) k)

called_with-goes : (p : Parts) (rest : Rest) (m n : ℕ) (cs : List ℕ) (args : Option (List Value)) → Goes rest (Environment.called_with p rest m n cs args)
called_with-goes p rest m n cs None = goes-itself (Idle rest)
called_with-goes p rest m n cs (Some args) =
    ran-goes rest cs rest.known (call_run p m args (world_of rest cs) n) (call-later (world_of rest cs).store p m args (world_of rest cs) n (later-itself (world_of rest cs).store))

called-goes : (p : Parts) (rest : Rest) (given : List Environment.Given) (n : ℕ) (cs : List ℕ) (it : Option Entry) → Goes rest (Environment.called p rest given n cs it)
called-goes p rest given n cs None = goes-itself (Idle rest)
called-goes p rest given n cs (Some it) = called_with-goes p rest it.method.0 n cs (Environment.given_args p it rest (Environment.takes_receiver (slice_get p.methods it.method.0)) given)

attempt-goes : (p : Parts) (rest : Rest) (a : Action) → Goes rest (attempt p rest a)
attempt-goes p rest (Initialize e k n cs) = initialized-goes p rest k n cs (slice_get p.entries e)
attempt-goes p rest (Create k n cs) = created-goes p rest n cs (slice_get p.entries k)
attempt-goes p rest (Make k i mark takes cs) = makes-goes p rest i mark takes cs (slice_get p.entries k)
attempt-goes p rest (CallEntry k given n cs) = called-goes p rest given n cs (slice_get p.entries k)

happens-goes : (p : Parts) (s : State) (a : Action) → HasGoneOn s (happens p s a)
happens-goes p (Over o) a = goes-itself (Over o)
happens-goes p (Idle rest) a = attempt-goes p rest a

after-goes : (p : Parts) (s : State) (more : List Action) → HasGoneOn s (after p s more)
after-goes p s [] = goes-itself s
after-goes p s (a ∷ more) = goes-after s (happens p s a) (after p (happens p s a) more) (happens-goes p s a) (after-goes p (happens p s a) more)

-- more actions happen after the first ones
after-more : (p : Parts) (s : State) (actions more : List Action) → after p s (actions ++ more) ≡ after p (after p s actions) more
after-more p s [] more = refl
after-more p s (a ∷ actions) more = after-more p (happens p s a) actions more

pub program-goes-on : (p : Parts) (actions more : List Action) → HasGoneOn (program_run p actions) (program_run p (actions ++ more))
program-goes-on p actions more = subst (λ (s : State). HasGoneOn (program_run p actions) s) (sym (after-more p (first_state p) actions more)) (after-goes p (program_run p actions) more)
