-- A run with more steps comes to the same, or goes on where the shorter one was cut.
use Rattle.std.proofs.Common.{◌≡◌, ℕ, zero, suc, ◌+◌, Bool, true, false, List, [], ◌∷◌, ◌++◌, length, refl, sym, subst, arith}
use Rattle.std.specs.Prelude.{Option, Some, None, slice_get, nat_le, ◌==◌, if◌then◌else◌}
use Rattle.ja_base.specs.declared.id.MethodId.{MethodId}
use Rattle.ja_ir.specs.declared.program.Parts.{Parts}
use Rattle.ja_ir.specs.declared.method.Instr.{Instr}
use Rattle.ja_ir.specs.Lookup.{instr_at}
use Rattle.ja_ir.specs.Initializing.{inits_of}
use Rattle.ja_ir.specs.Handlers.{Place, Inside, Outside, dest}
use Rattle.ja_machine.specs.declared.heap.Value.{Value}
use Rattle.ja_machine.specs.declared.heap.Object.{Object}
use Rattle.ja_machine.specs.State.{Frame, Store, World, Point, Next, Goes, Throws, Ends, Enters, NoRule, Outcome, Stuck, Failed, dirtied, decide, spent, way}
use Rattle.ja_machine.specs.Act.{act, noted}
use Rattle.ja_machine.specs.Run.{Continue, at_index, goes_at, goes_on, handling, goes_to_place, leaves, thrown_object, pushed_some, resumes, stands_again, start, follows, operates, initializes, step_by, steps, run, call_run, store_in}
use Rattle.ja_machine.specs.Laws.{IsLater, Extends, returned, threw, stuck, failed, cut}
use Rattle.ja_machine.proofs.Later.{later-itself, later-kept}
use Rattle.ja_machine.proofs.Runs.{GoKeeps, resumes-keeps, stands_again-keeps, run-keeps}

-- a run only goes on from its store
pub run-later : (d : ℕ) (p : Parts) (x : Point) (w : World) (l : ℕ) → IsLater w.store (store_in (run d p x w l))
run-later d p x w l = run-keeps p (IsLater w.store) (later-kept p w.store) d x w l (later-itself w.store)

-- the second run of what is left has k steps more
abbrev GoExtends : ℕ → Continue → Continue → Type 0
GoExtends k go go' = (x : Point) (w : World) (l : ℕ) → Extends k (go x w l) (go' x w (l + k))

if-extends : (k : ℕ) (b : Bool) (x y x' y' : Outcome) → Extends k x x' → Extends k y y' → Extends k (if b then x else y) (if b then x' else y')
if-extends k true x y x' y' a b = a
if-extends k false x y x' y' a b = b

decide-extends : (k n : ℕ) (w : World) (go go' : ℕ → World → Outcome) → ((i : ℕ) (v : World) → Extends k (go i v) (go' i v)) → Extends k (decide n w go) (decide n w go')
decide-extends k n w go go' each =
    if-extends k (nat_le n 1) (go 0 w) (go (way n w.choices) (spent w)) (go' 0 w) (go' (way n w.choices) (spent w)) (each 0 w) (each (way n w.choices) (spent w))

module _ (k : ℕ) (go go' : Continue) (ext : GoExtends k go go') (keep : (s : Store) → GoKeeps (IsLater s) go') (p : Parts) where
  goes_at-extends : (x : Point) (b : Outcome) (f : Frame) (w : World) (l : ℕ) (j : Option ℕ) → Extends k b b → Extends k (goes_at go x b f w l j) (goes_at go' x b f w (l + k) j)
  goes_at-extends x b f w l None e = e
  goes_at-extends x b f w l (Some j) e = ext (at_index x j f) w l

  goes_on-extends : (x : Point) (next : List ℕ) (b : Outcome) (f : Frame) (w : World) (l : ℕ) → Extends k b b → Extends k (goes_on go x next b f w l) (goes_on go' x next b f w (l + k))
  goes_on-extends x next b f w l e =
      decide-extends k (length next) w (λ i u. goes_at go x b f u l (slice_get next i)) (λ i u. goes_at go' x b f u (l + k) (slice_get next i)) (λ i u. goes_at-extends x b f u l (slice_get next i) e)

  goes_to_place-extends : (x : Point) (r : ℕ) (f : Frame) (w : World) (l : ℕ) (d : Place) → Extends k (goes_to_place go x r f w l d) (goes_to_place go' x r f w (l + k) d)
  goes_to_place-extends x r f w l (Inside t) = ext (at_index x t (handling r f)) w l
  goes_to_place-extends x r f w l Outside = threw r (at_index x x.index f) w l (l + k) refl

  leaves-extends : (x : Point) (r : ℕ) (f : Frame) (ds : List Place) (w : World) (l : ℕ) → Extends k (leaves go x r f ds w l) (leaves go' x r f ds w (l + k))
  leaves-extends x r f [] w l = threw r (at_index x x.index f) w l (l + k) refl
  leaves-extends x r f (d ∷ []) w l = goes_to_place-extends x r f w l d
  leaves-extends x r f (d ∷ c ∷ ds) w l =
      decide-extends k 2 w
      (λ i u. if i == 0 then goes_to_place go x r f u l d else leaves go x r f (c ∷ ds) u l)
      (λ i u. if i == 0 then goes_to_place go' x r f u (l + k) d else leaves go' x r f (c ∷ ds) u (l + k))
      (λ i u. if-extends k (i == 0) _ _ _ _ (goes_to_place-extends x r f u l d) (leaves-extends x r f (c ∷ ds) u l))

  thrown_object-extends : (x : Point) (r : ℕ) (b : Outcome) (f : Frame) (w : World) (l : ℕ) (o : Option Object) → Extends k b b → Extends k (thrown_object go p x r b f w l o) (thrown_object go' p x r b f w (l + k) o)
  thrown_object-extends x r b f w l None e = e
  thrown_object-extends x r b f w l (Some o) e = leaves-extends x r f (dest p x.method x.index o.token.0) w l

  resumes-extends : (x : Point) (next : List ℕ) (f : Frame) (a b : Outcome) → Extends k a b → Extends k (resumes go p x next f a) (resumes go' p x next f b)
  resumes-extends x next f _ _ (returned v d w l m e) =
      subst (λ (n : ℕ). Extends k (goes_on go x next (Failed x [] w) (pushed_some v (dirtied d f)) w l) (goes_on go' x next (Failed x [] w) (pushed_some v (dirtied d f)) w n)) (sym e)
      (goes_on-extends x next (Failed x [] w) (pushed_some v (dirtied d f)) w l (failed x [] w))
  resumes-extends x next f _ _ (threw r y w l m e) =
      subst (λ (n : ℕ). Extends k (thrown_object go p x r (Failed x [] w) (dirtied y.frame.dirt f) w l (slice_get w.store.heap r)) (thrown_object go' p x r (Failed x [] w) (dirtied y.frame.dirt f) w n (slice_get w.store.heap r))) (sym e)
      (thrown_object-extends x r (Failed x [] w) (dirtied y.frame.dirt f) w l (slice_get w.store.heap r) (failed x [] w))
  resumes-extends x next f _ _ (stuck y cs w) = stuck y (cs ++ x ∷ []) w
  resumes-extends x next f _ _ (failed y cs w) = failed y (cs ++ x ∷ []) w
  resumes-extends x next f _ _ (cut y cs w o b) = cut y (cs ++ x ∷ []) w (resumes go' p x next f o) (resumes-keeps p (IsLater w.store) (later-kept p w.store) go' (keep w.store) x next f o b)

  stands_again-extends : (x : Point) (a b : Outcome) → Extends k a b → Extends k (stands_again go x a) (stands_again go' x b)
  stands_again-extends x _ _ (returned v d w l m e) =
      subst (λ (n : ℕ). Extends k (go (at_index x x.index (dirtied d x.frame)) w l) (go' (at_index x x.index (dirtied d x.frame)) w n)) (sym e) (ext (at_index x x.index (dirtied d x.frame)) w l)
  stands_again-extends x _ _ (threw r y w l m e) = failed y (x ∷ []) w
  stands_again-extends x _ _ (stuck y cs w) = stuck y (cs ++ x ∷ []) w
  stands_again-extends x _ _ (failed y cs w) = failed y (cs ++ x ∷ []) w
  stands_again-extends x _ _ (cut y cs w o b) = cut y (cs ++ x ∷ []) w (stands_again go' x o) (stands_again-keeps p (IsLater w.store) (later-kept p w.store) go' (keep w.store) x o b)

  follows-extends : (x : Point) (next : List ℕ) (before : World) (l : ℕ) (n : Next) → Extends k (follows go p x next before l n) (follows go' p x next before (l + k) n)
  follows-extends x next before l (Goes f w) = goes_on-extends x next (Stuck x [] before) f w l (stuck x [] before)
  follows-extends x next before l (Throws r f w) = thrown_object-extends x r (Stuck x [] before) f w l (slice_get w.store.heap r) (stuck x [] before)
  follows-extends x next before l (Ends v d w) = returned v d w l (l + k) refl
  follows-extends x next before l (Enters n args f w) = resumes-extends x next f (go (start p n args w) w l) (go' (start p n args w) w (l + k)) (ext (start p n args w) w l)
  follows-extends x next before l NoRule = stuck x [] before

  operates-extends : (x : Point) (i : Instr) (w : World) (l : ℕ) → Extends k (operates go p x i w l) (operates go' p x i w (l + k))
  operates-extends x i w l = follows-extends x i.next (noted p x i.op w) l (act p i.op x.frame (noted p x i.op w))

  initializes-extends : (x : Point) (w : World) (l : ℕ) (n : Option MethodId) → Extends k (initializes go p x w l n) (initializes go' p x w (l + k) n)
  initializes-extends x w l None = stuck x [] w
  initializes-extends x w l (Some n) = stands_again-extends x (go (start p n.0 [] w) w l) (go' (start p n.0 [] w) w (l + k)) (ext (start p n.0 [] w) w l)

  step_by-extends : (x : Point) (i : Instr) (ns : List MethodId) (w : World) (l j : ℕ) → Extends k (step_by go p x i ns w l j) (step_by go' p x i ns w (l + k) j)
  step_by-extends x i ns w l zero = operates-extends x i w l
  step_by-extends x i ns w l (suc j) = initializes-extends x w l (slice_get ns j)

  steps-extends : (x : Point) (w : World) (l : ℕ) (i : Option Instr) → Extends k (steps go p x w l i) (steps go' p x w (l + k) i)
  steps-extends x w l None = stuck x [] w
  steps-extends x w l (Some i) =
      decide-extends k (1 + length (inits_of p i.op)) w (λ j u. step_by go p x i (inits_of p i.op) u l j) (λ j u. step_by go' p x i (inits_of p i.op) u (l + k) j) (λ j u. step_by-extends x i (inits_of p i.op) u l j)

-- a run with k steps and a deeper recursion more
pub run-extends : (d k : ℕ) (p : Parts) (x : Point) (w : World) (l : ℕ) → Extends k (run d p x w l) (run (d + k) p x w (l + k))
run-extends zero k p x w l = cut x [] w (run (0 + k) p x w (l + k)) (run-later (0 + k) p x w (l + k))
run-extends (suc d) k p x w zero = cut x [] w (run (suc d + k) p x w (0 + k)) (run-later (suc d + k) p x w (0 + k))
run-extends (suc d) k p x w (suc l) =
    let deeper : suc (d + k) ≡ suc d + k = omega arith in
    let more : suc (l + k) ≡ suc l + k = omega arith in
    let one : Extends k (steps (run d p) p x w l (instr_at p x.method x.index)) (steps (run (d + k) p) p x w (l + k) (instr_at p x.method x.index)) =
    steps-extends k (run d p) (run (d + k) p) (run-extends d k p) (λ s. run-keeps p (IsLater s) (later-kept p s) (d + k)) p x w l (instr_at p x.method x.index) in
    subst (λ (n : ℕ). Extends k (run (suc d) p x w (suc l)) (run n p x w (suc l + k))) deeper
    (subst (λ (n : ℕ). Extends k (run (suc d) p x w (suc l)) (run (suc (d + k)) p x w n)) more one)

pub call_run-extends : (p : Parts) (m : ℕ) (args : List Value) (w : World) (n k : ℕ) → Extends k (call_run p m args w n) (call_run p m args w (n + k))
call_run-extends p m args w n k = run-extends n k p (start p m args w) w n
