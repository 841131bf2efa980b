-- Every run of a method stands at facts, and its events are at warned sites.
use Rattle.std.proofs.Common.{◌≡◌, ◌≢◌, ℕ, zero, suc, ◌+◌, ◌-◌, Bool, true, false, List, [], ◌∷◌, ◌++◌, Option, Some, None, length, replicate, refl, sym, ap, subst, arith, ◌∙◌, lit<}
use Rattle.std.specs.Prelude.{slice_get, if◌then◌else◌}
use Rattle.ja_class.specs.declared.first.FirstOp.{FirstOp}
use Rattle.ja_class.specs.declared.first.FirstOp.TheVariants.{Load as FLoad, Store as FStore, Text as FText, Pop as FPop, Source, Sink, Return as FReturn}
use Rattle.ja_class.specs.declared.first.FirstInstr.{FirstInstr}
use Rattle.ja_class.specs.declared.first.FirstMethod.{FirstMethod}
use Rattle.ja_class.specs.Runnable.{height_after}
use Rattle.ja_plain.specs.Least.{Each}
use Rattle.ja_plain.specs.Operation.{Call, sink_call, operation, height_from, IsAt}
use Rattle.ja_plain.specs.Equations.{Slot, Local, OnStack, Dirt, Exc, Entry, on_entry, Context, Rule, called, begins}
use Rattle.ja_plain.specs.Verdict.{IsWarned}
use Rattle.ja_plain.specs.State.{Value, Prim, Object, World}
use Rattle.ja_plain.specs.Reach.{tainted, tainted_if}
use Rattle.ja_plain.specs.Library.{Next, Goes, Throws, Ends, NoRule}
use Rattle.ja_plain.specs.Run.{Began, Point, Outcome, Returned, Threw, Stuck, Cut, at_next, act, events_of, noted, follows, steps, run, start}
use Rattle.ja_plain.specs.Covers.{truth, entry_of, from_bottom, InnermostCovered, OutcomeCovered, EventsWarned}
use Rattle.ja_plain.proofs.Rounds.{least-solves}
use Rattle.ja_plain.proofs.Grown.{Closed, Grown, grown-on, Inside}
use Rattle.ja_plain.proofs.Steps.{frame, point, FrameOk, NextOk, Here, from_bottom-top}
use Rattle.ja_plain.proofs.Calls.{act-ok}

each-append : {X : Type 0} (P : X → Type 0) (xs ys : List X) → Each P xs → Each P ys → Each P (xs ++ ys)
each-append P [] ys a b = b
each-append P (x ∷ xs) ys a b = (a.0, each-append P xs ys a.1 b)

next-height-at : (h : ℕ) (xs : List FirstInstr) (i : ℕ) (x : FirstInstr) → slice_get xs i ≡ Some x → height_from h xs (suc i) ≡ height_after x.op (height_from h xs i)
next-height-at h [] i x e = cc
next-height-at h (z ∷ []) zero x e = let same : z ≡ x = cc in rw same refl
next-height-at h (z ∷ (w ∷ ws)) zero x e = let same : z ≡ x = cc in rw same refl
next-height-at h (z ∷ zs) (suc i) x e = next-height-at (height_after z.op h) zs i x e

abbrev listed-if : Bool → List ℕ
listed-if b = if b then 0 ∷ [] else []

module _ (m : FirstMethod) where
  -- the event of a sink call at which the argument is tainted is at a warned site
  sink-warned : (i : ℕ) (began : Began) (locals : List Value) (u : Value) (rest : List Value) (d : Bool) (heap : List Object) → IsAt m i (Call sink_call) (length (u ∷ rest)) → FrameOk m (point i began locals (u ∷ rest) d) heap → tainted heap u ≡ true → IsWarned m i
  sink-warned i began locals u rest d heap at ok t = record {
    call = sink_call;
    under = length rest;
    calls = record { instr = at.instr; found = at.found; does = at.does; finds = at.finds ∙ omega arith };
    position = 0;
    lists = (0, lit< tt, refl);
    entry = entry_of began;
    present = truth heap (frame locals (u ∷ rest) d);
    fact = ok.fact;
    is_tainted = on-top (length rest + 0) (omega arith);
  } where
    on-top : (k : ℕ) → k ≡ length rest → tainted_if heap (from_bottom (u ∷ rest) k) ≡ true
    on-top k e = subst (λ (j : ℕ). tainted_if heap (from_bottom (u ∷ rest) j) ≡ true) (sym e) (ap (tainted_if heap) (from_bottom-top u rest) ∙ t)

  noted-ok : (op : FirstOp) (i : ℕ) (began : Began) (locals stack : List Value) (d : Bool) (heap : List Object) → IsAt m i (operation op) (length stack) → FrameOk m (point i began locals stack d) heap → EventsWarned m (events_of i (operation op) (frame locals stack d) heap)
  noted-ok (FLoad n) i began locals stack d heap at ok = tt
  noted-ok (FStore n) i began locals stack d heap at ok = tt
  noted-ok FText i began locals stack d heap at ok = tt
  noted-ok FPop i began locals stack d heap at ok = tt
  noted-ok Source i began locals stack d heap at ok = tt
  noted-ok Sink i began locals [] d heap at ok = tt
  noted-ok Sink i began locals (u ∷ rest) d heap at ok = (by (tainted heap u) refl, tt) where
    by : (b : Bool) → tainted heap u ≡ b → listed-if b ≢ [] → IsWarned m i
    by true e h = sink-warned i began locals u rest d heap at ok e
    by false e h = absurd (h refl)
  noted-ok FReturn i began locals stack d heap at ok = tt

  pub record Finished (w v : World) (fact : Type 0) : Type 0 where
    pub closed : Closed v.heap
    pub grown : Grown w.heap v.heap
    pub events : EventsWarned m v.events
    pub holds : fact

  pub record Stands (frames : List Point) (v : World) : Type 0 where
    pub events : EventsWarned m v.events
    pub covered : InnermostCovered m frames v.heap

  abbrev pub OutcomeOk : Began → World → Outcome → Type 0
  OutcomeOk began w (Returned value d v left) = Finished w v (OutcomeCovered m began (Returned value d v left))
  OutcomeOk began w (Threw place d v left) = Finished w v (OutcomeCovered m began (Threw place d v left))
  OutcomeOk began w (Stuck frames v) = Stands frames v
  OutcomeOk began w (Cut frames v) = Stands frames v

  since : (began : Began) (w v : World) → Grown w.heap v.heap → (o : Outcome) → OutcomeOk began v o → OutcomeOk began w o
  since began w v g (Returned value d u left) f = record { closed = f.closed; grown = grown-on w.heap v.heap u.heap g f.grown; events = f.events; holds = f.holds }
  since began w v g (Threw place d u left) f = record { closed = f.closed; grown = grown-on w.heap v.heap u.heap g f.grown; events = f.events; holds = f.holds }
  since began w v g (Stuck frames u) f = f
  since began w v g (Cut frames u) f = f

  -- what is left of a run from a point
  abbrev IsGood : (Point → World → Outcome) → Type 0
  IsGood go = (x : Point) (w : World) → FrameOk m x w.heap → Closed w.heap → EventsWarned m w.events → OutcomeOk x.began w (go x w)

  follows-ok : (go : Point → World → Outcome) → IsGood go → (left : ℕ) (x : Point) (w : World) → FrameOk m x w.heap → EventsWarned m w.events → (n : Next) → NextOk m x w n → OutcomeOk x.began w (follows go left x w n)
  follows-ok go good left x w ok warned (Goes f v) n =
      let warned' : EventsWarned m v.events = subst (EventsWarned m) (sym n.world.events) warned in
      since x.began w v n.world.grown (go (at_next x f) v) (good (at_next x f) v n.next n.world.closed warned')
  follows-ok go good left x w ok warned (Throws place f v) n =
      record { closed = n.world.closed; grown = n.world.grown; events = subst (EventsWarned m) (sym n.world.events) warned; holds = n.fact }
  follows-ok go good left x w ok warned (Ends value f v) n =
      record { closed = n.world.closed; grown = n.world.grown; events = subst (EventsWarned m) (sym n.world.events) warned; holds = n.fact }
  follows-ok go good left x w ok warned NoRule n = record { events = warned; covered = ok.fact }

  steps-ok : (go : Point → World → Outcome) → IsGood go → (left : ℕ) (x : Point) (w : World) (o : Option FirstInstr) → slice_get m.code x.index ≡ o → FrameOk m x w.heap → Closed w.heap → EventsWarned m w.events → OutcomeOk x.began w (steps go left x w o)
  steps-ok go good left x w None e ok closed warned = record { events = warned; covered = ok.fact }
  steps-ok go good left x w (Some i) e ok closed warned =
      let at : IsAt m x.index (operation i.op) (length x.frame.stack) = record { instr = i; found = e; does = refl; finds = ok.height } in
      let here : Here m x.index i.op (length x.frame.stack) = record { at = at; next = next-height-at 0 m.code x.index i e ∙ ap (height_after i.op) ok.height } in
      let v : World = noted x.index (operation i.op) x.frame w in
      let all : EventsWarned m v.events = each-append (λ ev. ev.positions ≢ [] → IsWarned m ev.site) w.events (events_of x.index (operation i.op) x.frame w.heap) warned (noted-ok i.op x.index x.began x.frame.locals x.frame.stack x.frame.dirt w.heap at ok) in
      since x.began w v (record { kept = λ a h. refl; room = omega arith }) (follows go left x v (act (operation i.op) x.frame v))
      (follows-ok go good left x v ok all (act (operation i.op) x.frame v) (act-ok m i.op x.index x.began x.frame.locals x.frame.stack x.frame.dirt v here ok closed))

  pub run-ok : (left : ℕ) → IsGood (run m left)
  run-ok zero x w ok closed warned = record { events = warned; covered = ok.fact }
  run-ok (suc left) x w ok closed warned = steps-ok (run m left) (run-ok left) left x w (slice_get m.code x.index) refl ok closed warned

  -- a call of `main` with an argument that is not tainted
  plain : (k n : ℕ) (v : Value) → slice_get (replicate k (Prim false)) n ≡ Some v → v ≡ Prim false
  plain zero n v e = cc
  plain (suc k) zero v e = cc
  plain (suc k) (suc n) v e = plain k n v e

  plain-clean : (heap : List Object) (k n : ℕ) → tainted_if heap (slice_get (replicate k (Prim false)) n) ≡ false
  plain-clean heap zero n = refl
  plain-clean heap (suc k) zero = refl
  plain-clean heap (suc k) (suc n) = plain-clean heap k n

  height-zero : (xs : List FirstInstr) → height_from 0 xs 0 ≡ 0
  height-zero [] = refl
  height-zero (x ∷ xs) = refl

  pub start-ok : (v : Value) (heap : List Object) → Inside heap v → tainted heap v ≡ false → FrameOk m (start m (v ∷ []) heap) heap
  start-ok v heap i clean = record {
    fact = least-solves (Rule m) (Context entry ∷ []) _ (begins is) (least-solves (Rule m) [] _ (called none) tt, tt);
    height = height-zero m.code;
    locals = in-heap;
    stack = tt;
  } where
    entry : Entry
    entry = entry_of (record { arguments = v ∷ []; heap = heap })

    none : (k : ℕ) → entry_of (record { arguments = v ∷ []; heap = heap }) k ≡ false
    none zero = clean
    none (suc k) = refl

    is : (y : Slot) → truth heap (start m (v ∷ []) heap).frame y ≡ on_entry (entry_of (record { arguments = v ∷ []; heap = heap })) y
    is (Local zero) = refl
    is (Local (suc n)) = plain-clean heap (m.locals - length (v ∷ [])) n
    is (OnStack k) = refl
    is Dirt = refl
    is Exc = refl

    in-heap : (n : ℕ) (u : Value) → slice_get (start m (v ∷ []) heap).frame.locals n ≡ Some u → Inside heap u
    in-heap zero u e = let same : v ≡ u = cc in subst (Inside heap) same i
    in-heap (suc n) u e = let same : u ≡ Prim false = plain (m.locals - length (v ∷ [])) n u e in subst (Inside heap) (sym same) tt
