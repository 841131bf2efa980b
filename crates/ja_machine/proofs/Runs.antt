-- What each change of a store keeps, each run keeps.
use Rattle.std.proofs.Common.{ℕ, zero, suc, ◌+◌, List, [], ◌∷◌, length}
use Rattle.std.specs.Prelude.{Option, Some, None, slice_get, ◌==◌, if◌then◌else◌}
use Rattle.ja_base.specs.declared.id.MethodId.{MethodId}
use Rattle.ja_ir.specs.declared.program.Parts.{Parts}
use Rattle.ja_ir.specs.declared.method.Instr.{Instr}
use Rattle.ja_ir.specs.Lookup.{instr_at}
use Rattle.ja_ir.specs.Initializing.{inits_of}
use Rattle.ja_ir.specs.Handlers.{Place, Inside, Outside, dest}
use Rattle.ja_machine.specs.declared.heap.Object.{Object}
use Rattle.ja_machine.specs.State.{Frame, Store, World, Point, Next, Goes, Throws, Ends, Enters, NoRule, Outcome, Returned, Threw, Stuck, Cut, Failed, dirtied}
use Rattle.ja_machine.specs.Act.{act, noted, events_before}
use Rattle.ja_machine.specs.Run.{Continue, at_index, goes_at, goes_on, handling, goes_to_place, leaves, thrown_object, pushed_some, resumes, stands_again, start, follows, operates, initializes, step_by, steps, run, store_in}
use Rattle.ja_machine.proofs.Kept.{IsKept, Holds, if-keeps, decide-keeps, act-keeps}

-- the store in which a run stands has the property
abbrev pub Stays : (Store → Type 0) → Outcome → Type 0
Stays P o = P (store_in o)

-- a run of what is left keeps the property
abbrev pub GoKeeps : (Store → Type 0) → Continue → Type 0
GoKeeps P go = (x : Point) (w : World) (l : ℕ) → P w.store → Stays P (go x w l)

module _ (p : Parts) (P : Store → Type 0) (kept : IsKept p P) where
  goes_at-keeps : (go : Continue) → GoKeeps P go → (x : Point) (b : Outcome) (f : Frame) (w : World) (l : ℕ) (j : Option ℕ) → Stays P b → P w.store → Stays P (goes_at go x b f w l j)
  goes_at-keeps go g x b f w l None a h = a
  goes_at-keeps go g x b f w l (Some j) a h = g (at_index x j f) w l h

  goes_on-keeps : (go : Continue) → GoKeeps P go → (x : Point) (next : List ℕ) (b : Outcome) (f : Frame) (w : World) (l : ℕ) → Stays P b → P w.store → Stays P (goes_on go x next b f w l)
  goes_on-keeps go g x next b f w l a h =
      decide-keeps (Stays P) P (length next) w (λ k u. goes_at go x b f u l (slice_get next k)) h (λ i u q. goes_at-keeps go g x b f u l (slice_get next i) a q)

  goes_to_place-keeps : (go : Continue) → GoKeeps P go → (x : Point) (r : ℕ) (f : Frame) (w : World) (l : ℕ) (d : Place) → P w.store → Stays P (goes_to_place go x r f w l d)
  goes_to_place-keeps go g x r f w l (Inside t) h = g (at_index x t (handling r f)) w l h
  goes_to_place-keeps go g x r f w l Outside h = h

  leaves-keeps : (go : Continue) → GoKeeps P go → (x : Point) (r : ℕ) (f : Frame) (ds : List Place) (w : World) (l : ℕ) → P w.store → Stays P (leaves go x r f ds w l)
  leaves-keeps go g x r f [] w l h = h
  leaves-keeps go g x r f (d ∷ []) w l h = goes_to_place-keeps go g x r f w l d h
  leaves-keeps go g x r f (d ∷ e ∷ ds) w l h =
      decide-keeps (Stays P) P 2 w (λ k u. if k == 0 then goes_to_place go x r f u l d else leaves go x r f (e ∷ ds) u l) h
      (λ i u q. if-keeps (Stays P) (i == 0) (goes_to_place go x r f u l d) (leaves go x r f (e ∷ ds) u l) (goes_to_place-keeps go g x r f u l d q) (leaves-keeps go g x r f (e ∷ ds) u l q))

  thrown_object-keeps : (go : Continue) → GoKeeps P go → (x : Point) (r : ℕ) (b : Outcome) (f : Frame) (w : World) (l : ℕ) (o : Option Object) → Stays P b → P w.store → Stays P (thrown_object go p x r b f w l o)
  thrown_object-keeps go g x r b f w l None a h = a
  thrown_object-keeps go g x r b f w l (Some o) a h = leaves-keeps go g x r f (dest p x.method x.index o.token.0) w l h

  pub resumes-keeps : (go : Continue) → GoKeeps P go → (x : Point) (next : List ℕ) (f : Frame) (o : Outcome) → Stays P o → Stays P (resumes go p x next f o)
  resumes-keeps go g x next f (Returned v d w l) h = goes_on-keeps go g x next (Failed x [] w) (pushed_some v (dirtied d f)) w l h h
  resumes-keeps go g x next f (Threw r y w l) h = thrown_object-keeps go g x r (Failed x [] w) (dirtied y.frame.dirt f) w l (slice_get w.store.heap r) h h
  resumes-keeps go g x next f (Stuck y ys w) h = h
  resumes-keeps go g x next f (Cut y ys w) h = h
  resumes-keeps go g x next f (Failed y ys w) h = h

  pub stands_again-keeps : (go : Continue) → GoKeeps P go → (x : Point) (o : Outcome) → Stays P o → Stays P (stands_again go x o)
  stands_again-keeps go g x (Returned v d w l) h = g (at_index x x.index (dirtied d x.frame)) w l h
  stands_again-keeps go g x (Threw r y w l) h = h
  stands_again-keeps go g x (Stuck y ys w) h = h
  stands_again-keeps go g x (Cut y ys w) h = h
  stands_again-keeps go g x (Failed y ys w) h = h

  follows-keeps : (go : Continue) → GoKeeps P go → (x : Point) (next : List ℕ) (b : World) (l : ℕ) (n : Next) → P b.store → Holds P n → Stays P (follows go p x next b l n)
  follows-keeps go g x next b l (Goes f w) a h = goes_on-keeps go g x next (Stuck x [] b) f w l a h
  follows-keeps go g x next b l (Throws r f w) a h = thrown_object-keeps go g x r (Stuck x [] b) f w l (slice_get w.store.heap r) a h
  follows-keeps go g x next b l (Ends v d w) a h = h
  follows-keeps go g x next b l (Enters n args f w) a h = resumes-keeps go g x next f (go (start p n args w) w l) (g (start p n args w) w l h)
  follows-keeps go g x next b l NoRule a h = a

  operates-keeps : (go : Continue) → GoKeeps P go → (x : Point) (i : Instr) (w : World) (l : ℕ) → P w.store → Stays P (operates go p x i w l)
  operates-keeps go g x i w l h =
      let u : World = noted p x i.op w in
      let q : P u.store = kept.told (events_before p x i.op w.store.heap) w.store h in
      follows-keeps go g x i.next u l (act p i.op x.frame u) q (act-keeps p P kept i.op x.frame u q)

  initializes-keeps : (go : Continue) → GoKeeps P go → (x : Point) (w : World) (l : ℕ) (n : Option MethodId) → P w.store → Stays P (initializes go p x w l n)
  initializes-keeps go g x w l None h = h
  initializes-keeps go g x w l (Some n) h = stands_again-keeps go g x (go (start p n.0 [] w) w l) (g (start p n.0 [] w) w l h)

  step_by-keeps : (go : Continue) → GoKeeps P go → (x : Point) (i : Instr) (ns : List MethodId) (w : World) (l k : ℕ) → P w.store → Stays P (step_by go p x i ns w l k)
  step_by-keeps go g x i ns w l zero h = operates-keeps go g x i w l h
  step_by-keeps go g x i ns w l (suc k) h = initializes-keeps go g x w l (slice_get ns k) h

  steps-keeps : (go : Continue) → GoKeeps P go → (x : Point) (w : World) (l : ℕ) (i : Option Instr) → P w.store → Stays P (steps go p x w l i)
  steps-keeps go g x w l None h = h
  steps-keeps go g x w l (Some i) h =
      decide-keeps (Stays P) P (1 + length (inits_of p i.op)) w (λ k u. step_by go p x i (inits_of p i.op) u l k) h (λ k u q. step_by-keeps go g x i (inits_of p i.op) u l k q)

  -- a run keeps the property
  pub run-keeps : (d : ℕ) (x : Point) (w : World) (l : ℕ) → P w.store → Stays P (run d p x w l)
  run-keeps zero x w l h = h
  run-keeps (suc d) x w zero h = h
  run-keeps (suc d) x w (suc l) h = steps-keeps (run d p) (run-keeps d) x w l (instr_at p x.method x.index) h
