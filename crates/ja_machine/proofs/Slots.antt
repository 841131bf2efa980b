-- The slots of a stack, numbered from the bottom.
use Rattle.std.proofs.Common.{◌≡◌, ℕ, zero, suc, ◌+◌, ◌<◌, ◌≤◌, ◌⊎◌, inl, inr, ◌==◌, Bool, true, false, List, [], ◌∷◌, ◌++◌, length, refl, sym, ◌∙◌, ap, subst, arith, eq-eqb, length-append}
use Rattle.std.specs.Prelude.{Some, slice_get, if◌then◌else◌}
use Rattle.std.proofs.lemmas.Bool.{eqb-true}
use Rattle.std.proofs.lemmas.Option.{none-some, same_Some}
use Rattle.ja_machine.specs.declared.heap.Value.{Value}
use Rattle.ja_machine.specs.State.{topmost, beneath, on_stack}

-- the topmost value stands in the slot whose number is that of the values under it
pub top-slot : (v : Value) (s : List Value) → on_stack (v ∷ s) (length s) ≡ Some v
top-slot v s = subst (λ (b : Bool). (if b then Some v else on_stack s (length s)) ≡ Some v) (sym (eq-eqb (length s) (length s) refl)) refl

-- what stands in a slot is the topmost value, or stands there without it
pub slot-cases : (v w : Value) (s : List Value) (k : ℕ) → on_stack (v ∷ s) k ≡ Some w → ((k ≡ length s) × (v ≡ w)) ⊎ (on_stack s k ≡ Some w)
slot-cases v w s k e = by (k == length s) refl e
  where
    by : (b : Bool) → (k == length s) ≡ b → (if b then Some v else on_stack s k) ≡ Some w → ((k ≡ length s) × (v ≡ w)) ⊎ (on_stack s k ≡ Some w)
    by true q e = inl (eqb-true k (length s) q, same_Some v w e)
    by false q e = inr e

-- a slot with a value is below the height
pub slot-below : (s : List Value) (k : ℕ) (v : Value) → on_stack s k ≡ Some v → k < length s
slot-below [] k v e = absurd (none-some v e)
slot-below (u ∷ s) k v e = elim (slot-cases u v s k e) [ inl q ↦ omega (arith, q.0) | inr q ↦ omega (arith, slot-below s k v q) ]

-- a value more leaves the slots under it
pub slot-under : (v : Value) (s : List Value) (k : ℕ) → k < length s → on_stack (v ∷ s) k ≡ on_stack s k
slot-under v s k lt = by (k == length s) refl
  where
    by : (b : Bool) → (k == length s) ≡ b → (if b then Some v else on_stack s k) ≡ on_stack s k
    by true q = absurd (omega (arith, lt, eqb-true k (length s) q))
    by false q = refl

pub under-slot : (v w : Value) (s : List Value) (k : ℕ) → on_stack s k ≡ Some w → on_stack (v ∷ s) k ≡ Some w
under-slot v w s k e = slot-under v s k (slot-below s k w e) ∙ e

-- what is beneath the topmost values stands where it stood
pub beneath-slot : (n : ℕ) (s : List Value) (k : ℕ) (v : Value) → on_stack (beneath n s) k ≡ Some v → on_stack s k ≡ Some v
beneath-slot zero s k v e = e
beneath-slot (suc n) [] k v e = e
beneath-slot (suc n) (u ∷ s) k v e = under-slot u v s k (beneath-slot n s k v e)

-- the number of values beneath
pub length-beneath : (n : ℕ) (s : List Value) → n ≤ length s → length (beneath n s) + n ≡ length s
length-beneath zero s le = omega arith
length-beneath (suc n) [] le = absurd (omega (arith, le))
length-beneath (suc n) (u ∷ s) le = omega (arith, length-beneath n s (omega (arith, le)))

-- the number of topmost values
pub length-topmost : (n : ℕ) (s : List Value) → n ≤ length s → length (topmost n s) ≡ n
length-topmost zero s le = refl
length-topmost (suc n) [] le = absurd (omega (arith, le))
length-topmost (suc n) (u ∷ s) le = omega (arith, length-topmost n s (omega (arith, le)), length-append (topmost n s) (u ∷ []))

-- an item of a longer list is one of the list, or the last
pub get-last : {X : Type 0} (xs : List X) (y : X) (k : ℕ) (x : X) → slice_get (xs ++ y ∷ []) k ≡ Some x → (slice_get xs k ≡ Some x) ⊎ ((k ≡ length xs) × (y ≡ x))
get-last [] y zero x e = inr (refl, same_Some y x e)
get-last [] y (suc k) x e = absurd (none-some x e)
get-last (z ∷ xs) y zero x e = inl e
get-last (z ∷ xs) y (suc k) x e = elim (get-last xs y k x e) [ inl q ↦ inl q | inr q ↦ inr (ap suc q.0, q.1) ]

-- the topmost values, the lowest first, stand in the slots that follow those beneath
pub topmost-slot : (n : ℕ) (s : List Value) → n ≤ length s → (j : ℕ) (v : Value) → slice_get (topmost n s) j ≡ Some v → on_stack s (length (beneath n s) + j) ≡ Some v
topmost-slot zero s le j v e = absurd (none-some v e)
topmost-slot (suc n) [] le j v e = absurd (omega (arith, le))
topmost-slot (suc n) (u ∷ s) le j v e = elim (get-last (topmost n s) u j v e) [
  | inl q ↦ under-slot u v s (length (beneath n s) + j) (topmost-slot n s (omega (arith, le)) j v q)
  | inr q ↦ (let place : length s ≡ length (beneath n s) + j = omega (arith, q.0, length-topmost n s (omega (arith, le)), length-beneath n s (omega (arith, le))) in
      subst (λ (k : ℕ). on_stack (u ∷ s) k ≡ Some v) place (top-slot u s ∙ ap Some q.1))
]
