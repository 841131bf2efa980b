-- The truths of the pass are the greatest that an operation can leave.
use Rattle.std.proofs.Common.{◌≡◌, ◌≢◌, ℕ, suc, ◌+◌, ◌-◌, ◌<◌, ◌≤◌, ◌||◌, ◌⊎◌, inl, inr, Bool, true, false, List, [], ◌∷◌, ◌++◌, Some, length, get_or, refl, sym, ap, subst, arith, ◌∙◌, get_or-set_other, get_or-set_same, length-append}
use Rattle.std.specs.Prelude.{slice_set}
use Rattle.std.proofs.lemmas.Bool.{cases_order, cases_lt}
use Rattle.std.proofs.lemmas.List.{get_or_append_left, get_or-take, get_or_past}
use Rattle.std.proofs.Math.Seq.{get_or-append_seam}
use Rattle.ja_class.specs.declared.first.FirstOp.{FirstOp}
use Rattle.ja_class.specs.declared.first.FirstOp.TheVariants.{Load as FLoad, Store as FStore, Text as FText, Pop as FPop, Source, Sink, Return as FReturn}
use Rattle.ja_class.specs.Runnable.{pops}
use Rattle.ja_plain.specs.Operation.{Operation, Load, Store, Call, Effect, Quiet, LibraryCall, ResultType, source_call, sink_call, operation, takes, gives}
use Rattle.ja_plain.specs.Equations.{Slot, Local, OnStack, Dirt, Exc, Assignment, AtMost, Leaves, dirt_after, AfterNormal, GoesOn, IsSource, kept, gone, dirt, loaded, stored, new_text, returned, changed}
use Rattle.ja_plain.specs.InnerPass.{UsesWithin, top_of, rest_of, locals_after, stack_after}
use Rattle.ja_plain.proofs.Passing.{length-rest}

-- the slots that the lists say are true
abbrev pub truths : (locals stack : List Bool) → Assignment
truths locals stack (Local n) = get_or locals n false
truths locals stack (OnStack k) = get_or stack k false
truths locals stack Dirt = false
truths locals stack Exc = false

or-false : (b : Bool) → b || false ≡ b
or-false true = refl
or-false false = refl

pub dirt-same : (x : FirstOp) (under : ℕ) (present : Assignment) → dirt_after (operation x) under present ≡ present Dirt
dirt-same (FLoad n) under present = refl
dirt-same (FStore n) under present = refl
dirt-same FText under present = refl
dirt-same FPop under present = refl
dirt-same Source under present = or-false (present Dirt)
dirt-same Sink under present = or-false (present Dirt)
dirt-same FReturn under present = refl

past-one : (stack : List Bool) (t : Bool) (k : ℕ) → length stack < k → get_or (stack ++ t ∷ []) k false ≡ false
past-one stack t k h = get_or_past (stack ++ t ∷ []) k false (let e : length (stack ++ t ∷ []) ≡ length stack + length (t ∷ []) = length-append stack (t ∷ []) in omega (arith, e))

below-one : (stack : List Bool) (t : Bool) (k : ℕ) → k + 0 < length stack → get_or (stack ++ t ∷ []) k false ≡ get_or stack k false
below-one stack t k h = get_or_append_left stack (t ∷ []) false k (omega arith)

below-top : (stack : List Bool) (k : ℕ) → k + 1 < length stack → get_or (rest_of stack) k false ≡ get_or stack k false
below-top stack k h = get_or-take (length stack - 1) stack k false (omega arith)

past-top : (stack : List Bool) (k : ℕ) → length stack ≤ k + 1 → get_or (rest_of stack) k false ≡ false
past-top stack k h = get_or_past (rest_of stack) k false (omega (arith, length-rest stack))

-- an operation that pushes one value, of this truth
pushed : (x : FirstOp) (locals stack : List Bool) (t : Bool) → takes (operation x) ≡ 0 → gives (operation x) ≡ 1 → (present : Assignment) → ((k : ℕ) → present (OnStack k) ≡ get_or stack k false) → AfterNormal present (length stack) (operation x) (OnStack (length stack)) t → (k : ℕ) → AfterNormal present (length stack) (operation x) (OnStack k) (get_or (stack ++ t ∷ []) k false)
pushed x locals stack t none one present is new k =
    let P : ℕ → Type 0 = λ j. AfterNormal present (length stack) (operation x) (OnStack j) (get_or (stack ++ t ∷ []) j false) in
    let here : P (length stack) = subst (λ (u : Bool). AfterNormal present (length stack) (operation x) (OnStack (length stack)) u) (sym (get_or-append_seam stack t [] false)) new in
    let go : ((k ≡ length stack) ⊎ ((k < length stack) ⊎ (length stack < k))) → P k =
    elim [
      | inl e ↦ subst P (sym e) here
      | inr o ↦ elim o [
        | inl h ↦ kept (omega (arith, none)) (below-one stack t k (omega arith) ∙ sym (is k))
        | inr h ↦ gone (omega (arith, none, one)) (past-one stack t k h)
      ]
    ] in
    go (cases_order k (length stack))

-- an operation that pops one value
popped : (x : FirstOp) (stack : List Bool) → takes (operation x) ≡ 1 → gives (operation x) ≡ 0 → 1 ≤ length stack → (present : Assignment) → ((k : ℕ) → present (OnStack k) ≡ get_or stack k false) → (k : ℕ) → AfterNormal present (length stack) (operation x) (OnStack k) (get_or (rest_of stack) k false)
popped x stack one none full present is k =
    let go : ((k + 1 < length stack) ⊎ (length stack ≤ k + 1)) → AfterNormal present (length stack) (operation x) (OnStack k) (get_or (rest_of stack) k false) =
    elim [
      | inl h ↦ kept (omega (arith, one)) (below-top stack k h ∙ sym (is k))
      | inr h ↦ gone (omega (arith, one, none)) (past-top stack k h)
    ] in
    go (cases_lt (k + 1) (length stack))

stores-into : (n : ℕ) (locals stack : List Bool) → n < length locals → 1 ≤ length stack → (l : ℕ) → AfterNormal (truths locals stack) (length stack) (Store n) (Local l) (get_or (slice_set locals n (top_of stack)) l false)
stores-into n locals stack inside full l =
    let P : ℕ → Type 0 = λ j. AfterNormal (truths locals stack) (length stack) (Store n) (Local j) (get_or (slice_set locals n (top_of stack)) j false) in
    let here : P n = stored {k = length stack - 1} (omega arith) (get_or-set_same locals n (top_of stack) false inside) in
    let go : ((l ≡ n) ⊎ ((l < n) ⊎ (n < l))) → P l =
    elim [
      | inl e ↦ subst P (sym e) here
      | inr o ↦ (let other : l ≢ n = λ e. elim o [ inl h ↦ omega arith | inr h ↦ omega arith ] in kept other (get_or-set_other locals n l (top_of stack) false other))
    ] in
    go (cases_order l n)

-- the truths of the pass are such as the operation may leave
pub leaves : (x : FirstOp) (locals stack : List Bool) → pops x ≤ length stack → UsesWithin (length locals) x → GoesOn (operation x) → (y : Slot) → AfterNormal (truths locals stack) (length stack) (operation x) y (truths (locals_after x locals stack) (stack_after x locals stack) y)
leaves (FLoad n) locals stack p u g (Local l) = kept tt refl
leaves (FLoad n) locals stack p u g (OnStack k) = pushed (FLoad n) locals stack (get_or locals n false) refl refl (truths locals stack) (λ k. refl) (loaded refl) k
leaves (FLoad n) locals stack p u g Dirt = dirt (length stack) (omega arith) refl
leaves (FLoad n) locals stack p u g Exc = kept tt refl
leaves (FStore n) locals stack p u g (Local l) = stores-into n locals stack u p l
leaves (FStore n) locals stack p u g (OnStack k) = popped (FStore n) stack refl refl p (truths locals stack) (λ k. refl) k
leaves (FStore n) locals stack p u g Dirt = dirt (length stack - 1) (omega arith) refl
leaves (FStore n) locals stack p u g Exc = kept tt refl
leaves FText locals stack p u g (Local l) = kept tt refl
leaves FText locals stack p u g (OnStack k) = pushed FText locals stack false refl refl (truths locals stack) (λ k. refl) (new_text refl) k
leaves FText locals stack p u g Dirt = dirt (length stack) (omega arith) refl
leaves FText locals stack p u g Exc = kept tt refl
leaves FPop locals stack p u g (Local l) = kept tt refl
leaves FPop locals stack p u g (OnStack k) = popped FPop stack refl refl p (truths locals stack) (λ k. refl) k
leaves FPop locals stack p u g Dirt = dirt (length stack - 1) (omega arith) refl
leaves FPop locals stack p u g Exc = kept tt refl
leaves Source locals stack p u g (Local l) = kept tt refl
leaves Source locals stack p u g (OnStack k) = pushed Source locals stack true refl refl (truths locals stack) (λ k. refl) (returned {under = length stack} (omega arith) refl (λ _. refl)) k
leaves Source locals stack p u g Dirt = dirt (length stack) (omega arith) refl
leaves Source locals stack p u g Exc = kept tt refl
leaves Sink locals stack p u g (Local l) = kept tt refl
leaves Sink locals stack p u g (OnStack k) = popped Sink stack refl refl p (truths locals stack) (λ k. refl) k
leaves Sink locals stack p u g Dirt = dirt (length stack - 1) (omega arith) refl
leaves Sink locals stack p u g Exc = kept tt refl
leaves FReturn locals stack p u g y = absurd g

-- no call of the first form changes an object
pub quiet : (x : FirstOp) (c : LibraryCall) → operation x ≡ Call c → c.row.effect ≡ Quiet
quiet (FLoad m) c o = cc
quiet (FStore m) c o = cc
quiet FText c o = cc
quiet FPop c o = cc
quiet Source c o =
    let same : source_call ≡ c = cc in
    ap (λ (d : LibraryCall). d.row.effect) (sym same)
quiet Sink c o =
    let same : sink_call ≡ c = cc in
    ap (λ (d : LibraryCall). d.row.effect) (sym same)
quiet FReturn c o = cc

-- a slot that is left alone keeps its truth in the pass
keeps : (x : FirstOp) (locals stack : List Bool) (y : Slot) → Leaves (operation x) (length stack) y → truths (locals_after x locals stack) (stack_after x locals stack) y ≡ truths locals stack y
keeps (FLoad n) locals stack (Local l) h = refl
keeps (FLoad n) locals stack (OnStack k) h = below-one stack _ k h
keeps (FLoad n) locals stack Dirt h = refl
keeps (FLoad n) locals stack Exc h = refl
keeps (FStore n) locals stack (Local l) h = get_or-set_other locals n l (top_of stack) false h
keeps (FStore n) locals stack (OnStack k) h = below-top stack k h
keeps (FStore n) locals stack Dirt h = refl
keeps (FStore n) locals stack Exc h = refl
keeps FText locals stack (Local l) h = refl
keeps FText locals stack (OnStack k) h = below-one stack _ k h
keeps FText locals stack Dirt h = refl
keeps FText locals stack Exc h = refl
keeps FPop locals stack (Local l) h = refl
keeps FPop locals stack (OnStack k) h = below-top stack k h
keeps FPop locals stack Dirt h = refl
keeps FPop locals stack Exc h = refl
keeps Source locals stack (Local l) h = refl
keeps Source locals stack (OnStack k) h = below-one stack _ k h
keeps Source locals stack Dirt h = refl
keeps Source locals stack Exc h = refl
keeps Sink locals stack (Local l) h = refl
keeps Sink locals stack (OnStack k) h = below-top stack k h
keeps Sink locals stack Dirt h = refl
keeps Sink locals stack Exc h = refl
keeps FReturn locals stack (Local l) h = refl
keeps FReturn locals stack (OnStack k) h = refl
keeps FReturn locals stack Dirt h = refl
keeps FReturn locals stack Exc h = refl

-- the operation that an instruction does, with the way in which a slot got its truth
module _ (locals stack : List Bool) (present : Assignment) (most : (y : Slot) → AtMost (present y) (truths locals stack y)) where
  abbrev Bound : FirstOp → Operation → Slot → Bool → Type 0
  Bound x op y t = operation x ≡ op → pops x ≤ length stack → UsesWithin (length locals) x → AtMost t (truths (locals_after x locals stack) (stack_after x locals stack) y)

  of-load : (x : FirstOp) (n : ℕ) (t : Bool) → t ≡ present (Local n) → Bound x (Load n) (OnStack (length stack)) t
  of-load (FLoad m) n t e o p u h = get_or-append_seam stack (get_or locals m false) [] false ∙ (let same : m ≡ n = cc in rw same (most (Local n) (sym e ∙ h)))
  of-load (FStore m) n t e o p u h = cc
  of-load FText n t e o p u h = cc
  of-load FPop n t e o p u h = cc
  of-load Source n t e o p u h = cc
  of-load Sink n t e o p u h = cc
  of-load FReturn n t e o p u h = cc

  of-store : (x : FirstOp) (n k : ℕ) (t : Bool) → length stack ≡ suc k → t ≡ present (OnStack k) → Bound x (Store n) (Local n) t
  of-store (FLoad m) n k t room e o p u h = cc
  of-store (FStore m) n k t room e o p u h =
      let same : m ≡ n = cc in
      let at : length stack - 1 ≡ k = omega arith in
      let P : ℕ → Type 0 = λ j. get_or (slice_set locals m (top_of stack)) j false ≡ true in
      subst P same (get_or-set_same locals m (top_of stack) false u ∙ (rw at (most (OnStack k) (sym e ∙ h))))
  of-store FText n k t room e o p u h = cc
  of-store FPop n k t room e o p u h = cc
  of-store Source n k t room e o p u h = cc
  of-store Sink n k t room e o p u h = cc
  of-store FReturn n k t room e o p u h = cc

  of-returned : (x : FirstOp) (c : LibraryCall) (type : ResultType) (under : ℕ) (t : Bool) → length stack ≡ under + c.arguments → c.result ≡ Some type → Bound x (Call c) (OnStack under) t
  of-returned (FLoad m) c type under t room r o p u h = cc
  of-returned (FStore m) c type under t room r o p u h = cc
  of-returned FText c type under t room r o p u h = cc
  of-returned FPop c type under t room r o p u h = cc
  of-returned Source c type under t room r o p u h =
      let same : source_call ≡ c = cc in
      let none : source_call.arguments ≡ c.arguments = ap (λ (d : LibraryCall). d.arguments) same in
      let at : length stack ≡ under = omega (arith, none) in
      let P : ℕ → Type 0 = λ j. get_or (stack ++ true ∷ []) j false ≡ true in
      subst P at (get_or-append_seam stack true [] false)
  of-returned Sink c type under t room r o p u h =
      let same : sink_call ≡ c = cc in
      let none : sink_call.result ≡ c.result = ap (λ (d : LibraryCall). d.result) same in
      cc
  of-returned FReturn c type under t room r o p u h = cc

  no-source : (x : FirstOp) (c : LibraryCall) (under : ℕ) (s : Slot) → operation x ≡ Call c → IsSource c c.row.effect under s → ⊥
  no-source x c under s o i = subst (λ (e : Effect). IsSource c e under s) (quiet x c o) i

  -- no operation leaves more
  pub bounded : (x : FirstOp) (op : Operation) (y : Slot) (t : Bool) → AfterNormal present (length stack) op y t → Bound x op y t
  bounded x op y t (kept l e) o p u h =
      keeps x locals stack y (subst (λ (d : Operation). Leaves d (length stack) y) (sym o) l) ∙ most y (sym e ∙ h)
  bounded x op y t (gone l e) o p u h = cc
  bounded x op y t (dirt under room e) o p u h =
      let same : dirt_after op under present ≡ present Dirt = subst (λ (d : Operation). dirt_after d under present ≡ present Dirt) o (dirt-same x under present) in
      most Dirt (sym same ∙ (sym e ∙ h))
  bounded x op y t (loaded {n = n} e) o p u h = of-load x n t e o p u h
  bounded x op y t (stored {n = n} {k = k} room e) o p u h = of-store x n k t room e o p u h
  bounded x op y t (new_text e) o p u h = cc
  bounded x op y t (returned {c = c} {type = type} {under = under} room r a) o p u h = of-returned x c type under t room r o p u h
  bounded x op y t (changed {c = c} under s room i m l a) o p u h = absurd (no-source x c under s o i)
