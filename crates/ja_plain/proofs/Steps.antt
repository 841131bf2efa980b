-- One operation keeps what the facts promise of a frame.
use Rattle.std.proofs.Common.{◌≡◌, ◌≢◌, ℕ, suc, ◌+◌, ◌<◌, ◌≤◌, ◌==◌, ◌⊎◌, inl, inr, Bool, true, false, List, [], ◌∷◌, Option, Some, None, length, refl, sym, ap, subst, arith, ◌∙◌, eq-eqb}
use Rattle.std.specs.Prelude.{slice_get, slice_set, nat_lt, if◌then◌else◌}
use Rattle.std.proofs.lemmas.Bool.{cases_lt, cases_order, ltb-true}
use Rattle.std.proofs.lemmas.Bool.Decides.{eqb_tells}
use Rattle.ja_class.specs.declared.first.FirstOp.{FirstOp}
use Rattle.ja_class.specs.declared.first.FirstOp.TheVariants.{Load as FLoad, Store as FStore, Text as FText, Pop as FPop, Return as FReturn}
use Rattle.ja_class.specs.declared.first.FirstMethod.{FirstMethod}
use Rattle.ja_class.specs.Runnable.{height_after}
use Rattle.ja_plain.specs.Least.{Each, Least}
use Rattle.ja_plain.specs.Token as token
use Rattle.ja_plain.specs.Operation.{Load, Store, Text, Pop, Return, operation, takes, gives, height_from, IsAt}
use Rattle.ja_plain.specs.Equations.{Slot, Local, OnStack, Dirt, Exc, Assignment, LeavesLocal, dirt_after, AfterNormal, GoesOn, At, Normal, Threw, Rule, kept, gone, dirt, loaded, stored, new_text, goes_on, ends}
use Rattle.ja_plain.specs.State.{Value, Prim, Ref, Object, Frame, World, with_choices, make}
use Rattle.ja_plain.specs.Reach.{tainted, tainted_if}
use Rattle.ja_plain.specs.Library.{Next, Goes, Throws, Ends, NoRule}
use Rattle.ja_plain.specs.Run.{Began, Point, at_next, act, loads}
use Rattle.ja_plain.specs.Covers.{from_bottom, truth, entry_of}
use Rattle.ja_plain.proofs.Rounds.{least-solves}
use Rattle.ja_plain.proofs.Grown.{Closed, Grown, grown-same, grown-end, closed-end, Inside, inside-on, taint-kept, taint-new, length-end, get-set-same, get-set-other}

-- stacks, counted from the bottom
pub from_bottom-top : (v : Value) (vs : List Value) → from_bottom (v ∷ vs) (length vs) ≡ Some v
from_bottom-top v vs = rw (eq-eqb (length vs) (length vs) refl) refl

from_bottom-under : (v : Value) (vs : List Value) (k : ℕ) → k ≢ length vs → from_bottom (v ∷ vs) k ≡ from_bottom vs k
from_bottom-under v vs k h = elim (eqb_tells k (length vs)) [
  | inl e ↦ absurd (h e.1)
  | inr e ↦ (let f : (k == length vs) ≡ false = e.0 in rw f refl)
]

from_bottom-past : (vs : List Value) (k : ℕ) → length vs ≤ k → from_bottom vs k ≡ None
from_bottom-past [] k h = refl
from_bottom-past (v ∷ vs) k h = from_bottom-under v vs k (λ e. omega arith) ∙ from_bottom-past vs k (omega arith)

from_bottom-inside : (heap : List Object) (vs : List Value) → Each (Inside heap) vs → (k : ℕ) (v : Value) → from_bottom vs k ≡ Some v → Inside heap v
from_bottom-inside heap [] all k v e = cc
from_bottom-inside heap (u ∷ us) all k v e = elim (eqb_tells k (length us)) [
  | inl d ↦ (let same : Some u ≡ Some v = sym (from_bottom-top u us) ∙ (ap (from_bottom (u ∷ us)) (sym d.1) ∙ e) in let is : u ≡ v = cc in subst (Inside heap) is all.0)
  | inr d ↦ from_bottom-inside heap us all.1 k v (sym (from_bottom-under u us k d.1) ∙ e)
]

inside-all : (old new : List Object) → Grown old new → (vs : List Value) → Each (Inside old) vs → Each (Inside new) vs
inside-all old new g [] all = tt
inside-all old new g (v ∷ vs) all = (inside-on old new g v all.0, inside-all old new g vs all.1)

tainted_if-kept : (old new : List Object) → Closed old → Grown old new → (o : Option Value) → ((v : Value) → o ≡ Some v → Inside old v) → tainted_if new o ≡ tainted_if old o
tainted_if-kept old new k g None i = refl
tainted_if-kept old new k g (Some v) i = taint-kept old new k g v (i v refl)

abbrev pub frame : List Value → List Value → Bool → Frame
frame locals stack d = record { locals = locals; stack = stack; dirt = d }

abbrev pub point : ℕ → Began → List Value → List Value → Bool → Point
point i began locals stack d = record { index = i; frame = frame locals stack d; began = began }

module _ (m : FirstMethod) where
  pub record FrameOk (x : Point) (heap : List Object) : Type 0 where
    pub fact : Least (Rule m) (At x.index (entry_of x.began) (truth heap x.frame))
    pub height : height_from 0 m.code x.index ≡ length x.frame.stack
    pub locals : (n : ℕ) (v : Value) → slice_get x.frame.locals n ≡ Some v → Inside heap v
    pub stack : Each (Inside heap) x.frame.stack

  pub record WorldOk (w v : World) : Type 0 where
    pub closed : Closed v.heap
    pub grown : Grown w.heap v.heap
    pub events : v.events ≡ w.events

  pub record GoesOk (x : Point) (w : World) (f : Frame) (v : World) : Type 0 where
    pub world : WorldOk w v
    pub next : FrameOk (at_next x f) v.heap

  pub record ThrowsOk (x : Point) (w : World) (place : ℕ) (d : Bool) (v : World) : Type 0 where
    pub world : WorldOk w v
    pub fact : Least (Rule m) (Threw (entry_of x.began) (record { result = false; dirt = d; exc = tainted v.heap (Ref place) }))

  pub record EndsOk (x : Point) (w : World) (value : Option Value) (d : Bool) (v : World) : Type 0 where
    pub world : WorldOk w v
    pub fact : Least (Rule m) (Normal (entry_of x.began) (record { result = tainted_if v.heap value; dirt = d; exc = false }))

  abbrev pub NextOk : Point → World → Next → Type 0
  NextOk x w (Goes f v) = GoesOk x w f v
  NextOk x w (Throws place f v) = ThrowsOk x w place f.dirt v
  NextOk x w (Ends value f v) = EndsOk x w value f.dirt v
  NextOk x w NoRule = Unit {0}

  -- this operation is next, and the heights fit
  pub record Here (i : ℕ) (op : FirstOp) (height : ℕ) : Type 0 where
    pub at : IsAt m i (operation op) height
    pub next : height_from 0 m.code (suc i) ≡ height_after op height

  module _ (op : FirstOp) (i : ℕ) (began : Began) (locals stack : List Value) (d : Bool) (w : World) (here : Here i op (length stack)) (ok : FrameOk (point i began locals stack d) w.heap) (closed : Closed w.heap) where
    abbrev present : Assignment
    present = truth w.heap (frame locals stack d)

    abbrev Change : Slot → Bool → Type 0
    Change y t = AfterNormal present (length stack) (operation op) y t

    arrives : GoesOn (operation op) → (locals' stack' : List Value) (d' : Bool) (v : World) → WorldOk w v → ((y : Slot) → Change y (truth v.heap (frame locals' stack' d') y)) → length stack' ≡ height_after op (length stack) → ((n : ℕ) (u : Value) → slice_get locals' n ≡ Some u → Inside v.heap u) → Each (Inside v.heap) stack' → GoesOk (point i began locals stack d) w (frame locals' stack' d') v
    arrives on locals' stack' d' v wo change high in-locals in-stack = record {
      world = wo;
      next = record {
        fact = least-solves (Rule m) (At i (entry_of began) present ∷ []) _ (goes_on here.at on change) (ok.fact, tt);
        height = here.next ∙ sym high;
        locals = in-locals;
        stack = in-stack;
      };
    }

    pub same-locals : ((n : ℕ) → LeavesLocal (operation op) n) → (v : World) → WorldOk w v → (n : ℕ) → Change (Local n) (tainted_if v.heap (slice_get locals n))
    same-locals leaves v wo n = kept (leaves n) (tainted_if-kept w.heap v.heap closed wo.grown (slice_get locals n) (ok.locals n))

    inside-locals : (v : World) → WorldOk w v → (n : ℕ) (u : Value) → slice_get locals n ≡ Some u → Inside v.heap u
    inside-locals v wo n u e = inside-on w.heap v.heap wo.grown u (ok.locals n u e)

    same-stack : (v : World) → WorldOk w v → (k : ℕ) → tainted_if v.heap (from_bottom stack k) ≡ tainted_if w.heap (from_bottom stack k)
    same-stack v wo k = tainted_if-kept w.heap v.heap closed wo.grown (from_bottom stack k) (from_bottom-inside w.heap stack ok.stack k)

    -- the operation pushes one value
    pub pushes-one : GoesOn (operation op) → ((n : ℕ) → LeavesLocal (operation op) n) → takes (operation op) ≡ 0 → gives (operation op) ≡ 1 → height_after op (length stack) ≡ length stack + 1 → (u : Value) (v : World) → WorldOk w v → Inside v.heap u → (d' : Bool) → d' ≡ dirt_after (operation op) (length stack) present → Change (OnStack (length stack)) (tainted v.heap u) → GoesOk (point i began locals stack d) w (frame locals (u ∷ stack) d') v
    pushes-one on leaves none one high u v wo in-heap d' is-d new =
        arrives on locals (u ∷ stack) d' v wo change (omega (arith, high)) (inside-locals v wo) (in-heap, inside-all w.heap v.heap wo.grown stack ok.stack) where
          P : ℕ → Type 0
          P k = Change (OnStack k) (tainted_if v.heap (from_bottom (u ∷ stack) k))

          on-stack : (k : ℕ) → Change (OnStack k) (tainted_if v.heap (from_bottom (u ∷ stack) k))
          on-stack k =
              let go : ((k ≡ length stack) ⊎ ((k < length stack) ⊎ (length stack < k))) → Change (OnStack k) (tainted_if v.heap (from_bottom (u ∷ stack) k)) =
              elim [
                | inl e ↦ (let Q : ℕ → Type 0 = λ j. Change (OnStack j) (tainted_if v.heap (from_bottom (u ∷ stack) j)) in subst Q (sym e) (rw (from_bottom-top u stack) new))
                | inr o ↦ elim o [
                  | inl h ↦ kept (omega (arith, none)) (ap (tainted_if v.heap) (from_bottom-under u stack k (λ e. omega arith)) ∙ same-stack v wo k)
                  | inr h ↦ gone (omega (arith, none, one)) (ap (tainted_if v.heap) (from_bottom-past (u ∷ stack) k (omega arith)))
                ]
              ] in
              go (cases_order k (length stack))

          change : (y : Slot) → Change y (truth v.heap (frame locals (u ∷ stack) d') y)
          change (Local n) = same-locals leaves v wo n
          change (OnStack k) = on-stack k
          change Dirt = dirt (length stack) (omega (arith, none)) is-d
          change Exc = kept tt refl

  -- the operation pops one value
  module _ (op : FirstOp) (i : ℕ) (began : Began) (locals : List Value) (u : Value) (rest : List Value) (d : Bool) (w : World) (here : Here i op (length (u ∷ rest))) (ok : FrameOk (point i began locals (u ∷ rest) d) w.heap) (closed : Closed w.heap) where
    abbrev before : Assignment
    before = truth w.heap (frame locals (u ∷ rest) d)

    abbrev Changed : Slot → Bool → Type 0
    Changed y t = AfterNormal before (length (u ∷ rest)) (operation op) y t

    pub pops-one : GoesOn (operation op) → takes (operation op) ≡ 1 → gives (operation op) ≡ 0 → height_after op (length (u ∷ rest)) ≡ length rest → (locals' : List Value) (v : World) → WorldOk w v → (d' : Bool) → d' ≡ dirt_after (operation op) (length rest) before → ((n : ℕ) → Changed (Local n) (tainted_if v.heap (slice_get locals' n))) → ((n : ℕ) (x : Value) → slice_get locals' n ≡ Some x → Inside v.heap x) → GoesOk (point i began locals (u ∷ rest) d) w (frame locals' rest d') v
    pops-one on one none high locals' v wo d' is-d locals-change in-locals =
        arrives op i began locals (u ∷ rest) d w here ok closed on locals' rest d' v wo change (sym high) in-locals (inside-all w.heap v.heap wo.grown rest ok.stack.1) where
          on-stack : (k : ℕ) → Changed (OnStack k) (tainted_if v.heap (from_bottom rest k))
          on-stack k =
              let go : ((k < length rest) ⊎ (length rest ≤ k)) → Changed (OnStack k) (tainted_if v.heap (from_bottom rest k)) =
              elim [
                | inl h ↦ kept (omega (arith, one)) (ap (tainted_if v.heap) (sym (from_bottom-under u rest k (λ e. omega arith))) ∙ same-stack op i began locals (u ∷ rest) d w here ok closed v wo k)
                | inr h ↦ gone (omega (arith, one, none)) (ap (tainted_if v.heap) (from_bottom-past rest k h))
              ] in
              go (cases_lt k (length rest))

          change : (y : Slot) → Changed y (truth v.heap (frame locals' rest d') y)
          change (Local n) = locals-change n
          change (OnStack k) = on-stack k
          change Dirt = dirt (length rest) (omega (arith, one)) is-d
          change Exc = kept tt refl

  world-same : (w : World) → Closed w.heap → WorldOk w w
  world-same w closed = record { closed = closed; grown = grown-same w.heap; events = refl }

  -- a new object stands at the end of the heap
  pub world-made : (w : World) (t : token.Token) (mark : Bool) (cs : List ℕ) → Closed w.heap → WorldOk w (make t mark [] (with_choices cs w)).world
  world-made w t mark cs closed = record {
    closed = closed-end w.heap (record { token = t; fields = []; mark = mark; bag = [] }) closed (λ b l. absurd (omega (arith, l.1)));
    grown = grown-end w.heap (record { token = t; fields = []; mark = mark; bag = [] });
    events = refl;
  }

  pub load-ok : (n i : ℕ) (began : Began) (locals stack : List Value) (d : Bool) (w : World) → Here i (FLoad n) (length stack) → FrameOk (point i began locals stack d) w.heap → Closed w.heap → NextOk (point i began locals stack d) w (act (Load n) (frame locals stack d) w)
  load-ok n i began locals stack d w here ok closed = go (slice_get locals n) refl where
    go : (o : Option Value) → slice_get locals n ≡ o → NextOk (point i began locals stack d) w (loads o (frame locals stack d) w)
    go None e = tt
    go (Some u) e =
        pushes-one (FLoad n) i began locals stack d w here ok closed tt (λ l. tt) refl refl (omega arith) u w (world-same w closed) (ok.locals n u e) d refl
        (loaded (ap (tainted_if w.heap) (sym e)))

  pub text-ok : (i : ℕ) (began : Began) (locals stack : List Value) (d : Bool) (w : World) → Here i FText (length stack) → FrameOk (point i began locals stack d) w.heap → Closed w.heap → NextOk (point i began locals stack d) w (act Text (frame locals stack d) w)
  text-ok i began locals stack d w here ok closed =
      let o : Object = record { token = token.Text; fields = []; mark = false; bag = [] } in
      pushes-one FText i began locals stack d w here ok closed tt (λ l. tt) refl refl (omega arith) (Ref (length w.heap)) (make token.Text false [] w).world (world-made w token.Text false w.choices closed) (omega (arith, length-end w.heap o)) d refl
      (new_text (taint-new w.heap o refl refl))

  pub pop-ok : (i : ℕ) (began : Began) (locals stack : List Value) (d : Bool) (w : World) → Here i FPop (length stack) → FrameOk (point i began locals stack d) w.heap → Closed w.heap → NextOk (point i began locals stack d) w (act Pop (frame locals stack d) w)
  pop-ok i began locals [] d w here ok closed = tt
  pop-ok i began locals (u ∷ rest) d w here ok closed =
      pops-one FPop i began locals u rest d w here ok closed tt refl refl (omega arith) locals w (world-same w closed) d refl
      (same-locals FPop i began locals (u ∷ rest) d w here ok closed (λ l. tt) w (world-same w closed)) ok.locals

  pub return-ok : (i : ℕ) (began : Began) (locals stack : List Value) (d : Bool) (w : World) → Here i FReturn (length stack) → FrameOk (point i began locals stack d) w.heap → Closed w.heap → NextOk (point i began locals stack d) w (act Return (frame locals stack d) w)
  return-ok i began locals stack d w here ok closed = record {
    world = world-same w closed;
    fact = least-solves (Rule m) (At i (entry_of began) (truth w.heap (frame locals stack d)) ∷ []) _ (ends here.at) (ok.fact, tt);
  }

  pub store-ok : (n i : ℕ) (began : Began) (locals stack : List Value) (d : Bool) (w : World) → Here i (FStore n) (length stack) → FrameOk (point i began locals stack d) w.heap → Closed w.heap → NextOk (point i began locals stack d) w (act (Store n) (frame locals stack d) w)
  store-ok n i began locals [] d w here ok closed = tt
  store-ok n i began locals (u ∷ rest) d w here ok closed = go (nat_lt n (length locals)) refl where
    inside : n < length locals → (l : ℕ) (x : Value) → slice_get (slice_set locals n u) l ≡ Some x → Inside w.heap x
    inside room l x e =
        let by : ((l ≡ n) ⊎ ((l < n) ⊎ (n < l))) → Inside w.heap x =
        elim [
          | inl at ↦ (let same : Some u ≡ Some x = sym (get-set-same locals n u room) ∙ (ap (slice_get (slice_set locals n u)) (sym at) ∙ e) in let is : u ≡ x = cc in subst (Inside w.heap) is ok.stack.0)
          | inr o ↦ ok.locals l x (sym (get-set-other locals n l u (λ at. elim o [ inl h ↦ omega arith | inr h ↦ omega arith ])) ∙ e)
        ] in
        by (cases_order l n)

    change : n < length locals → (l : ℕ) → AfterNormal (truth w.heap (frame locals (u ∷ rest) d)) (length (u ∷ rest)) (Store n) (Local l) (tainted_if w.heap (slice_get (slice_set locals n u) l))
    change room l =
        let P : ℕ → Type 0 = λ j. AfterNormal (truth w.heap (frame locals (u ∷ rest) d)) (length (u ∷ rest)) (Store n) (Local j) (tainted_if w.heap (slice_get (slice_set locals n u) j)) in
        let top : P n = stored {k = length rest} (omega arith) (ap (tainted_if w.heap) (get-set-same locals n u room ∙ sym (from_bottom-top u rest))) in
        let by : ((l ≡ n) ⊎ ((l < n) ⊎ (n < l))) → P l =
        elim [
          | inl at ↦ subst P (sym at) top
          | inr o ↦ (let other : l ≢ n = λ at. elim o [ inl h ↦ omega arith | inr h ↦ omega arith ] in kept other (ap (tainted_if w.heap) (get-set-other locals n l u other)))
        ] in
        by (cases_order l n)

    go : (b : Bool) → nat_lt n (length locals) ≡ b → NextOk (point i began locals (u ∷ rest) d) w (if b then Goes (frame (slice_set locals n u) rest d) w else NoRule)
    go false e = tt
    go true e =
        let room : n < length locals = ltb-true n (length locals) e in
        pops-one (FStore n) i began locals u rest d w here ok closed tt refl refl (omega arith) (slice_set locals n u) w (world-same w closed) d refl (change room) (inside room)
