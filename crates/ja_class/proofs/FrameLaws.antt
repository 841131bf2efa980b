-- The run of the instructions in a frame is what the form asks for.
use Rattle.std.proofs.Common.{◌≡◌, ◌≢◌, ℕ, zero, suc, ◌+◌, ◌-◌, ◌<◌, ◌≤◌, ◌⊎◌, inl, inr, Bool, true, false, ltb, leb, List, [], ◌∷◌, length, get_or, Contains, slice_set, Option, Some, None, ◌&&◌, refl, sym, ap, subst, ◌∙◌, arith, length-set, get_or-set_same, get_or-set_other}
use Rattle.std.proofs.lemmas.Bool.{ltb-true, leb-true, le-leb}
use Rattle.std.proofs.lemmas.Bool.Decides.{eqb_tells, nat_tests}
use Rattle.ja_class.specs.declared.first.FirstInstr.{FirstInstr}
use Rattle.ja_class.specs.declared.first.FirstOp.{FirstOp}
use Rattle.ja_class.specs.declared.first.FirstOp.TheVariants.{Load, Store, Text, Pop, Source, Sink, Return}
use Rattle.ja_class.specs.declared.first.frame.Frame.{Frame}
use Rattle.ja_class.specs.Runnable.{height_after, set_after, Accepts, RunsFrom}
use Rattle.ja_class.specs.InnerReading.{holds_of, frame_after, first_frame, is_return, runs, is_runnable}
use Rattle.ja_class.proofs.Exact.{some_is, guard_holds}
use Rattle.ja_class.proofs.PoolLaws.{and_holds}

in_front : (n k : ℕ) (set : List ℕ) → Contains (n ∷ set) k → (n ≡ k) ⊎ Contains set k
in_front n k set (zero, lt, e) = inl e
in_front n k set (suc i, lt, e) = inr (i, omega arith, e)

here : (n : ℕ) (set : List ℕ) → Contains (n ∷ set) n
here n set = (0, omega arith, refl)

there : (n k : ℕ) (set : List ℕ) → Contains set k → Contains (n ∷ set) k
there n k set c = (suc c.0, omega (arith, c.1), c.2)

-- the flags tell which locals below ten are set
pub record Tracks (flags : List Bool) (set : List ℕ) : Type 0 where
  pub known : (n : ℕ) → get_or flags n false ≡ true → Contains set n
  pub shown : (n : ℕ) → n < 10 → Contains set n → get_or flags n false ≡ true
  pub size : length flags ≡ 10

stored : (flags : List Bool) (set : List ℕ) (n : ℕ) → n < 10 → Tracks flags set → Tracks (slice_set flags n true) (n ∷ set)
stored flags set n lt t =
    let within : n < length flags = omega (arith, t.size) in
    record {
      known = λ k h. elim (eqb_tells k n) [
        | inl same ↦ subst (λ (i : ℕ). Contains (n ∷ set) i) (sym same.1) (here n set)
        | inr other ↦ there n k set (t.known k (sym (get_or-set_other flags n k true false other.1) ∙ h))
      ];
      shown = λ k small c. elim (eqb_tells k n) [
        | inl same ↦ ap (λ (i : ℕ). get_or (slice_set flags n true) i false) same.1 ∙ get_or-set_same flags n true false within
        | inr other ↦ get_or-set_other flags n k true false other.1 ∙ t.shown k small (elim (in_front n k set c) [ inl e ↦ absurd (other.1 (sym e)) | inr c ↦ c ])
      ];
      size = length-set flags n true ∙ t.size;
    }

-- the frame is small, and tells which locals are set
pub record IsGood (frame : Frame) (set : List ℕ) : Type 0 where
  pub tracks : Tracks frame.set set
  pub small : frame.locals ≤ 10
  pub room : frame.height ≤ frame.stack

-- the step that an operation makes
record Steps (frame next : Frame) (set : List ℕ) (op : FirstOp) : Type 0 where
  goes_on : op ≢ Return
  accepts : Accepts frame.locals frame.stack frame.height set op
  good : IsGood next (set_after op set)
  height : next.height ≡ height_after op frame.height
  locals : next.locals ≡ frame.locals
  stack : next.stack ≡ frame.stack

-- what a frame becomes where a value is pushed, and where one is popped
abbrev pushed : Frame → Frame
pushed frame = record frame { height = frame.height + 1 }

abbrev popped : Frame → Frame
popped frame = record frame { height = frame.height - 1 }

abbrev put : Frame → ℕ → Frame
put frame n = record frame { height = frame.height - 1; set = slice_set frame.set n true }

step_takes : (frame next : Frame) (set : List ℕ) (op : FirstOp) → IsGood frame set → frame_after frame op ≡ Some next → Steps frame next set op
unfolding frame_after
step_takes frame next set (Load n) good e =
    let g = guard_holds (ltb n frame.locals && get_or frame.set n false && ltb frame.height frame.stack) (Some (pushed frame)) next e in
    let a = and_holds (ltb n frame.locals && get_or frame.set n false) (ltb frame.height frame.stack) g.0 in
    let b = and_holds (ltb n frame.locals) (get_or frame.set n false) a.0 in
    let low = ltb-true n frame.locals b.0 in
    let room = ltb-true frame.height frame.stack a.1 in
    subst (λ (f : Frame). Steps frame f set (Load n)) (some_is (pushed frame) next g.1) (record {
      goes_on = λ e. absurd cc;
      accepts = record { takes = omega arith; leaves = omega arith; local = (low, good.tracks.known n b.1) };
      good = record { tracks = good.tracks; small = good.small; room = omega arith };
      height = omega arith;
      locals = refl;
      stack = refl;
    })
step_takes frame next set (Store n) good e =
    let g = guard_holds (ltb n frame.locals && ltb 0 frame.height) (Some (put frame n)) next e in
    let b = and_holds (ltb n frame.locals) (ltb 0 frame.height) g.0 in
    let low = ltb-true n frame.locals b.0 in
    let some = ltb-true 0 frame.height b.1 in
    let small = good.small in
    let room = good.room in
    subst (λ (f : Frame). Steps frame f set (Store n)) (some_is (put frame n) next g.1) (record {
      goes_on = λ e. absurd cc;
      accepts = record { takes = omega arith; leaves = omega arith; local = low };
      good = record { tracks = stored frame.set set n (omega arith) good.tracks; small = good.small; room = omega arith };
      height = omega arith;
      locals = refl;
      stack = refl;
    })
step_takes frame next set Text good e =
    let g = guard_holds (ltb frame.height frame.stack) (Some (pushed frame)) next e in
    let room = ltb-true frame.height frame.stack g.0 in
    subst (λ (f : Frame). Steps frame f set Text) (some_is (pushed frame) next g.1) (record {
      goes_on = λ e. absurd cc;
      accepts = record { takes = omega arith; leaves = omega arith; local = tt };
      good = record { tracks = good.tracks; small = good.small; room = omega arith };
      height = omega arith;
      locals = refl;
      stack = refl;
    })
step_takes frame next set Pop good e =
    let g = guard_holds (ltb 0 frame.height) (Some (popped frame)) next e in
    let some = ltb-true 0 frame.height g.0 in
    let room = good.room in
    subst (λ (f : Frame). Steps frame f set Pop) (some_is (popped frame) next g.1) (record {
      goes_on = λ e. absurd cc;
      accepts = record { takes = omega arith; leaves = omega arith; local = tt };
      good = record { tracks = good.tracks; small = good.small; room = omega arith };
      height = omega arith;
      locals = refl;
      stack = refl;
    })
step_takes frame next set Source good e =
    let g = guard_holds (ltb frame.height frame.stack) (Some (pushed frame)) next e in
    let room = ltb-true frame.height frame.stack g.0 in
    subst (λ (f : Frame). Steps frame f set Source) (some_is (pushed frame) next g.1) (record {
      goes_on = λ e. absurd cc;
      accepts = record { takes = omega arith; leaves = omega arith; local = tt };
      good = record { tracks = good.tracks; small = good.small; room = omega arith };
      height = omega arith;
      locals = refl;
      stack = refl;
    })
step_takes frame next set Sink good e =
    let g = guard_holds (ltb 0 frame.height) (Some (popped frame)) next e in
    let some = ltb-true 0 frame.height g.0 in
    let room = good.room in
    subst (λ (f : Frame). Steps frame f set Sink) (some_is (popped frame) next g.1) (record {
      goes_on = λ e. absurd cc;
      accepts = record { takes = omega arith; leaves = omega arith; local = tt };
      good = record { tracks = good.tracks; small = good.small; room = omega arith };
      height = omega arith;
      locals = refl;
      stack = refl;
    })
step_takes frame next set Return good e = absurd cc

lt-ltb : (a b : ℕ) → a < b → ltb a b ≡ true
lt-ltb a b h = grind (arith, nat_tests)

step_again : (frame : Frame) (set : List ℕ) (op : FirstOp) → IsGood frame set → op ≢ Return → Accepts frame.locals frame.stack frame.height set op → (next : Frame) × (frame_after frame op ≡ Some next)
unfolding frame_after
step_again frame set (Load n) good other h =
    let small = good.small in
    let low = h.local.0 in
    let leaves = h.leaves in
    (pushed frame, rw (lt-ltb n frame.locals low, good.tracks.shown n (omega arith) h.local.1, lt-ltb frame.height frame.stack (omega arith)) refl)
step_again frame set (Store n) good other h =
    let takes = h.takes in
    (put frame n, rw (lt-ltb n frame.locals h.local, lt-ltb 0 frame.height (omega arith)) refl)
step_again frame set Text good other h = let leaves = h.leaves in (pushed frame, rw (lt-ltb frame.height frame.stack (omega arith)) refl)
step_again frame set Pop good other h = let takes = h.takes in (popped frame, rw (lt-ltb 0 frame.height (omega arith)) refl)
step_again frame set Source good other h = let leaves = h.leaves in (pushed frame, rw (lt-ltb frame.height frame.stack (omega arith)) refl)
step_again frame set Sink good other h = let takes = h.takes in (popped frame, rw (lt-ltb 0 frame.height (omega arith)) refl)
step_again frame set Return good other h = absurd (other refl)

return_takes : (op : FirstOp) → is_return op ≡ true → op ≡ Return
return_takes (Load n) e = absurd cc
return_takes (Store n) e = absurd cc
return_takes Text e = absurd cc
return_takes Pop e = absurd cc
return_takes Source e = absurd cc
return_takes Sink e = absurd cc
return_takes Return e = refl

pub holds_takes : {A : Type 0} (o : Option A) (p : A → Bool) → holds_of o p ≡ true → (x : A) × (o ≡ Some x) × (p x ≡ true)
holds_takes None p e = absurd cc
holds_takes (Some x) p e = (x, refl, e)

-- what runs in a frame runs as the form asks
runs_take : (frame : Frame) (set : List ℕ) (code : List FirstInstr) → IsGood frame set → runs frame code ≡ true → RunsFrom frame.locals frame.stack frame.height set code
unfolding runs
runs_take frame set [] good e = absurd cc
runs_take frame set (i ∷ []) good e =
    let is = return_takes i.op e in
    let room = good.room in
    (is, subst (λ (op : FirstOp). Accepts frame.locals frame.stack frame.height set op) (sym is) (record { takes = omega arith; leaves = omega arith; local = tt }))
runs_take frame set (i ∷ (j ∷ is)) good e =
    let h = holds_takes (frame_after frame i.op) (λ next. runs next (j ∷ is)) e in
    let s = step_takes frame h.0 set i.op good h.1 in
    let later = runs_take h.0 (set_after i.op set) (j ∷ is) s.good h.2 in (
      s.goes_on,
      s.accepts,
      subst (λ (n : ℕ). RunsFrom frame.locals frame.stack n (set_after i.op set) (j ∷ is)) s.height
          (subst (λ (n : ℕ). RunsFrom n frame.stack h.0.height (set_after i.op set) (j ∷ is)) s.locals
          (subst (λ (n : ℕ). RunsFrom h.0.locals n h.0.height (set_after i.op set) (j ∷ is)) s.stack later)),
    )

-- what runs as the form asks runs in a frame
runs_again : (frame : Frame) (set : List ℕ) (code : List FirstInstr) → IsGood frame set → RunsFrom frame.locals frame.stack frame.height set code → runs frame code ≡ true
unfolding runs
runs_again frame set [] good h = absurd h
runs_again frame set (i ∷ []) good h = ap is_return h.0
runs_again frame set (i ∷ (j ∷ is)) good h =
    let n = step_again frame set i.op good h.0 h.1 in
    let s = step_takes frame n.0 set i.op good n.1 in
    let later = subst (λ (k : ℕ). RunsFrom n.0.locals k n.0.height (set_after i.op set) (j ∷ is)) (sym s.stack)
    (subst (λ (k : ℕ). RunsFrom k frame.stack n.0.height (set_after i.op set) (j ∷ is)) (sym s.locals)
    (subst (λ (k : ℕ). RunsFrom frame.locals frame.stack k (set_after i.op set) (j ∷ is)) (sym s.height) h.2)) in
    rw n.1 (runs_again n.0 (set_after i.op set) (j ∷ is) s.good later)

no_more : (n : ℕ) → get_or (false ∷ false ∷ false ∷ false ∷ false ∷ false ∷ false ∷ false ∷ false ∷ []) n false ≡ true → ⊥
no_more zero e = absurd cc
no_more (suc zero) e = absurd cc
no_more (suc (suc zero)) e = absurd cc
no_more (suc (suc (suc zero))) e = absurd cc
no_more (suc (suc (suc (suc zero)))) e = absurd cc
no_more (suc (suc (suc (suc (suc zero))))) e = absurd cc
no_more (suc (suc (suc (suc (suc (suc zero)))))) e = absurd cc
no_more (suc (suc (suc (suc (suc (suc (suc zero))))))) e = absurd cc
no_more (suc (suc (suc (suc (suc (suc (suc (suc zero)))))))) e = absurd cc
no_more (suc (suc (suc (suc (suc (suc (suc (suc (suc n))))))))) e = absurd cc

first_known : (n : ℕ) → get_or (true ∷ false ∷ false ∷ false ∷ false ∷ false ∷ false ∷ false ∷ false ∷ false ∷ []) n false ≡ true → Contains (0 ∷ []) n
first_known zero e = here 0 []
first_known (suc n) e = absurd (no_more n e)

first_shown : (n : ℕ) → n < 10 → Contains (0 ∷ []) n → get_or (true ∷ false ∷ false ∷ false ∷ false ∷ false ∷ false ∷ false ∷ false ∷ false ∷ []) n false ≡ true
first_shown zero lt c = refl
first_shown (suc n) lt (zero, h, e) = absurd (omega (arith, e))
first_shown (suc n) lt (suc i, h, e) = absurd (omega (arith, h))

-- the flags of the first frame
first_tracks : (flags : List Bool) → flags ≡ (true ∷ false ∷ false ∷ false ∷ false ∷ false ∷ false ∷ false ∷ false ∷ false ∷ []) → Tracks flags (0 ∷ [])
first_tracks flags e = rw e (record { known = first_known; shown = first_shown; size = refl })

first_good : (locals stack : ℕ) → locals ≤ 10 → IsGood (first_frame locals stack) (0 ∷ [])
first_good locals stack small = record { tracks = first_tracks (first_frame locals stack).set refl; small = small; room = omega arith }

-- the test is that of the form
pub runnable_takes : (locals stack : ℕ) (code : List FirstInstr) → is_runnable locals stack code ≡ true → (1 ≤ locals) × (locals + stack ≤ 10) × RunsFrom locals stack 0 (0 ∷ []) code
unfolding is_runnable
runnable_takes locals stack code e =
    let a = and_holds (leb 1 locals && leb (locals + stack) 10) (runs (first_frame locals stack) code) e in
    let b = and_holds (leb 1 locals) (leb (locals + stack) 10) a.0 in
    let sum = leb-true (locals + stack) 10 b.1 in
    (leb-true 1 locals b.0, sum, runs_take (first_frame locals stack) (0 ∷ []) code (first_good locals stack (omega arith)) a.1)

pub runnable_again : (locals stack : ℕ) (code : List FirstInstr) → 1 ≤ locals → locals + stack ≤ 10 → RunsFrom locals stack 0 (0 ∷ []) code → is_runnable locals stack code ≡ true
unfolding is_runnable
runnable_again locals stack code argument frame h =
    rw (le-leb 1 locals argument, le-leb (locals + stack) 10 frame) (runs_again (first_frame locals stack) (0 ∷ []) code (first_good locals stack (omega arith)) h)
