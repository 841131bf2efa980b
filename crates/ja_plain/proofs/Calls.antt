-- The two library calls keep what the facts promise of a frame.
use Rattle.std.proofs.Common.{◌≡◌, ℕ, zero, suc, ◌+◌, ◌||◌, ◌%◌, Bool, true, false, List, [], ◌∷◌, ◌++◌, length, refl, sym, arith, ◌∙◌}
use Rattle.ja_class.specs.declared.first.FirstOp.{FirstOp}
use Rattle.ja_class.specs.declared.first.FirstOp.TheVariants.{Load as FLoad, Store as FStore, Text as FText, Pop as FPop, Source, Sink, Return as FReturn}
use Rattle.ja_class.specs.declared.first.FirstMethod.{FirstMethod}
use Rattle.ja_plain.specs.Least.{Least}
use Rattle.ja_plain.specs.Token as token
use Rattle.ja_plain.specs.Operation.{Call, LibraryCall, source_call, sink_call, operation, IsAt}
use Rattle.ja_plain.specs.Equations.{Slot, Local, OnStack, Dirt, Exc, Assignment, Entry, AtMost, flows, dirt_after, AfterThrow, At, Threw, Rule, kept, gone, dirt, thrown, returned, library_throws}
use Rattle.ja_plain.specs.State.{Value, Prim, Ref, Object, World, decide, decide_by, with_choices, first_way, make}
use Rattle.ja_plain.specs.Reach.{tainted}
use Rattle.ja_plain.specs.Library.{Next, Goes, pushes, throws_new}
use Rattle.ja_plain.specs.Run.{Began, act}
use Rattle.ja_plain.specs.Covers.{truth, entry_of}
use Rattle.ja_plain.proofs.Rounds.{least-solves}
use Rattle.ja_plain.proofs.Grown.{Closed, grown-same, taint-new, length-end}
use Rattle.ja_plain.proofs.Steps.{frame, point, FrameOk, WorldOk, NextOk, Here, same-locals, pushes-one, pops-one, world-made, load-ok, text-ok, pop-ok, return-ok, store-ok}

-- whatever the choice is
decided : (P : Next → Type 0) (w : World) (go : ℕ → World → Next) → ((way : ℕ) (cs : List ℕ) → P (go way (with_choices cs w))) → P (decide 2 w go)
decided P w go each = by w.choices where
  by : (ds : List ℕ) → P (decide_by 2 w ds go)
  by [] = each 0 w.choices
  by (c ∷ cs) = each (c % 2) cs

either-way : (P : Next → Type 0) (way : ℕ) (a b : Next) → P a → P b → P (first_way way a b)
either-way P zero a b pa pb = pa
either-way P (suc k) a b pa pb = pb

module _ (m : FirstMethod) where
  throws-fact : (c : LibraryCall) (i height under : ℕ) (entry : Entry) (present : Assignment) (exc : Bool) → IsAt m i (Call c) height → height ≡ under + c.arguments → AtMost exc (flows c present under) → Least (Rule m) (At i entry present) → Least (Rule m) (Threw entry (record { result = false; dirt = dirt_after (Call c) under present; exc = exc }))
  throws-fact c i height under entry present exc at high below fact =
      least-solves (Rule m) (At i entry present ∷ []) _ (library_throws {after = after} at change) (fact, tt) where
        after : Assignment
        after (Local n) = present (Local n)
        after (OnStack k) = false
        after Dirt = dirt_after (Call c) under present
        after Exc = exc

        change : (y : Slot) → AfterThrow present height c y (after y)
        change (Local n) = kept refl
        change (OnStack k) = gone refl
        change Dirt = dirt under high refl
        change Exc = thrown under high below

  abbrev lib : Bool → Object
  lib mark = record { token = token.Lib; fields = []; mark = mark; bag = [] }

  source-ok : (i : ℕ) (began : Began) (locals stack : List Value) (d : Bool) (w : World) → Here m i Source (length stack) → FrameOk m (point i began locals stack d) w.heap → Closed w.heap → NextOk m (point i began locals stack d) w (act (Call source_call) (frame locals stack d) w)
  source-ok i began locals stack d w here ok closed =
      decided (NextOk m (point i began locals stack d) w) w _ (λ way cs. either-way (NextOk m (point i began locals stack d) w) way _ _ (returns cs) (throws cs)) where
        returns : (cs : List ℕ) → NextOk m (point i began locals stack d) w (pushes (frame locals stack (d || false)) (make token.Text true [] (with_choices cs w)))
        returns cs =
            let o : Object = record { token = token.Text; fields = []; mark = true; bag = [] } in
            pushes-one m Source i began locals stack d w here ok closed tt (λ l. tt) refl refl (omega arith) (Ref (length w.heap)) (make token.Text true [] (with_choices cs w)).world (world-made m w token.Text true cs closed) (omega (arith, length-end w.heap o)) (d || false) refl
            (returned {under = length stack} (omega arith) refl (λ h. refl))

        throws : (cs : List ℕ) → NextOk m (point i began locals stack d) w (throws_new true (frame locals stack (d || false)) (with_choices cs w))
        throws cs = record {
          world = world-made m w token.Lib true cs closed;
          fact = throws-fact source_call i (length stack) (length stack) (entry_of began) (truth w.heap (frame locals stack d)) _ here.at (omega arith) (λ h. refl) ok.fact;
        }

  sink-ok : (i : ℕ) (began : Began) (locals stack : List Value) (d : Bool) (w : World) → Here m i Sink (length stack) → FrameOk m (point i began locals stack d) w.heap → Closed w.heap → NextOk m (point i began locals stack d) w (act (Call sink_call) (frame locals stack d) w)
  sink-ok i began locals [] d w here ok closed = tt
  sink-ok i began locals (u ∷ rest) d w here ok closed =
      decided (NextOk m (point i began locals (u ∷ rest) d) w) w _ (λ way cs. either-way (NextOk m (point i began locals (u ∷ rest) d) w) way _ _ (returns cs) (throws cs)) where
        same-world : (cs : List ℕ) → WorldOk m w (with_choices cs w)
        same-world cs = record { closed = closed; grown = grown-same w.heap; events = refl }

        returns : (cs : List ℕ) → NextOk m (point i began locals (u ∷ rest) d) w (Goes (frame locals rest (d || false)) (with_choices cs w))
        returns cs =
            pops-one m Sink i began locals u rest d w here ok closed tt refl refl (omega arith) locals (with_choices cs w) (same-world cs) (d || false) refl
            (same-locals m Sink i began locals (u ∷ rest) d w here ok closed (λ l. tt) (with_choices cs w) (same-world cs)) ok.locals

        throws : (cs : List ℕ) → NextOk m (point i began locals (u ∷ rest) d) w (throws_new false (frame locals rest (d || false)) (with_choices cs w))
        throws cs = record {
          world = world-made m w token.Lib false cs closed;
          fact = throws-fact sink_call i (length (u ∷ rest)) (length rest) (entry_of began) (truth w.heap (frame locals (u ∷ rest) d)) _ here.at (omega arith) (λ h. (let e : tainted (w.heap ++ lib false ∷ []) (Ref (length w.heap)) ≡ false = taint-new w.heap (lib false) refl refl in sym e ∙ h)) ok.fact;
        }

  -- each operation
  pub act-ok : (op : FirstOp) (i : ℕ) (began : Began) (locals stack : List Value) (d : Bool) (w : World) → Here m i op (length stack) → FrameOk m (point i began locals stack d) w.heap → Closed w.heap → NextOk m (point i began locals stack d) w (act (operation op) (frame locals stack d) w)
  act-ok (FLoad n) i began locals stack d w here ok closed = load-ok m n i began locals stack d w here ok closed
  act-ok (FStore n) i began locals stack d w here ok closed = store-ok m n i began locals stack d w here ok closed
  act-ok FText i began locals stack d w here ok closed = text-ok m i began locals stack d w here ok closed
  act-ok FPop i began locals stack d w here ok closed = pop-ok m i began locals stack d w here ok closed
  act-ok Source i began locals stack d w here ok closed = source-ok i began locals stack d w here ok closed
  act-ok Sink i began locals stack d w here ok closed = sink-ok i began locals stack d w here ok closed
  act-ok FReturn i began locals stack d w here ok closed = return-ok m i began locals stack d w here ok closed
