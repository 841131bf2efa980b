-- What holds of each item of a list, and of what is told one after the other.
use Rattle.std.proofs.Common.{◌≡◌, inl, inr, ℕ, zero, suc, ◌+◌, ◌<◌, ◌≤◌, Bool, true, false, List, [], ◌∷◌, ◌++◌, map, refl, sym, subst, arith}
use Rattle.std.specs.Prelude.{Contains, All, slice_get, Option, Some, None, if◌then◌else◌}
use Rattle.std.proofs.lemmas.Bool.{cases_eq}
use Rattle.std.proofs.lemmas.List.Elements.{All-contains}
use Rattle.std.proofs.lemmas.Option.{slice_get_within, get_or_from_slice_get}
use Rattle.ja_ir.specs.declared.program.Parts.{Parts}
use Rattle.ja_ir.specs.declared.method.Method.{Method}
use Rattle.ja_ir.specs.declared.method.Instr.{Instr}
use Rattle.ja_facts.specs.Least.{Each}
use Rattle.ja_constraints.specs.declared.constraint.Constraint.{Constraint}
use Rattle.ja_constraints.specs.Links.{over}
use Rattle.ja_constraints.specs.Events.{of_code, of_method, of_instr}

-- an item of a list is in the list
pub contains-at : {A : Type 0} (xs : List A) (k : ℕ) (x : A) → slice_get xs k ≡ Some x → Contains xs x
contains-at xs k x e = (k, slice_get_within xs k x e, get_or_from_slice_get xs k x x e)

-- what holds of each item of a list holds of one
pub all-at : {A : Type 0} (P : A → Type 0) (xs : List A) (k : ℕ) (x : A) → All P xs → slice_get xs k ≡ Some x → P x
all-at P xs k x all e = All-contains P xs x all (contains-at xs k x e)

pub first-in : {A : Type 0} (x : A) (xs : List A) → Contains (x ∷ xs) x
first-in x xs = (0, omega arith, refl)

pub later-in : {A : Type 0} (x : A) (xs : List A) (y : A) → Contains xs y → Contains (x ∷ xs) y
later-in x xs y (k, below, e) = (suc k, omega (arith, below), e)

module _ {F : Type 0} (S : F → Type 0) where
  pub each-append : (xs ys : List F) → Each S xs → Each S ys → Each S (xs ++ ys)
  each-append [] ys h k = k
  each-append (x ∷ xs) ys h k = (h.0, each-append xs ys h.1 k)

  pub each-left : (xs ys : List F) → Each S (xs ++ ys) → Each S xs
  each-left [] ys h = tt
  each-left (x ∷ xs) ys h = (h.0, each-left xs ys h.1)

  pub each-right : (xs ys : List F) → Each S (xs ++ ys) → Each S ys
  each-right [] ys h = h
  each-right (x ∷ xs) ys h = each-right xs ys h.1

  pub each-at : (xs : List F) (x : F) → Each S xs → Contains xs x → S x
  each-at [] x h (k, below, e) = absurd (omega (arith, below))
  each-at (y ∷ xs) x h (zero, below, e) = subst S e h.0
  each-at (y ∷ xs) x h (suc k, below, e) = each-at xs x h.1 (k, omega (arith, below), e)

  pub each-from : (xs : List F) → ((x : F) → Contains xs x → S x) → Each S xs
  each-from [] h = tt
  each-from (x ∷ xs) h = (h x (first-in x xs), each-from xs (λ y c. h y (later-in x xs y c)))

  pub each-if : (b : Bool) (xs : List F) → (b ≡ true → Each S xs) → Each S (if b then xs else [])
  each-if true xs h = h refl
  each-if false xs h = tt

  pub each-when : (b : Bool) (xs : List F) → b ≡ true → Each S (if b then xs else []) → Each S xs
  each-when b xs e h = subst (λ (x : Bool). Each S (if x then xs else [])) e h

  pub each-map : {A : Type 0} (g : A → F) (xs : List A) → ((x : A) → Contains xs x → S (g x)) → Each S (map g xs)
  each-map g [] h = tt
  each-map g (x ∷ xs) h = (h x (first-in x xs), each-map g xs (λ y c. h y (later-in x xs y c)))

  pub each-unmap : {A : Type 0} (g : A → F) (xs : List A) (x : A) → Each S (map g xs) → Contains xs x → S (g x)
  each-unmap g [] x h (k, below, e) = absurd (omega (arith, below))
  each-unmap {A} g (y ∷ xs) x h (zero, below, e) = subst (λ (z : A). S (g z)) e h.0
  each-unmap g (y ∷ xs) x h (suc k, below, e) = each-unmap g xs x h.1 (k, omega (arith, below), e)

module _ (S : Constraint → Type 0) (f : ℕ → List Constraint) where
  pub each-over : (k count : ℕ) → ((x : ℕ) → k ≤ x → x < k + count → Each S (f x)) → Each S (over f k count)
  each-over k zero h = tt
  each-over k (suc count) h = each-append S (f k) (over f (suc k) count) (h k (omega arith) (omega arith)) (each-over (suc k) count (λ x le lt. h x (omega arith) (omega arith)))

  pub over-at : (k count x : ℕ) → k ≤ x → x < k + count → Each S (over f k count) → Each S (f x)
  over-at k zero x le lt h = absurd (omega arith)
  over-at k (suc count) x le lt h = elim (cases_eq x k) [
    | inl e ↦ subst (λ n. Each S (f n)) (sym e) (each-left S (f k) (over f (suc k) count) h)
    | inr ne ↦ over-at (suc k) count x (omega arith) (omega arith) (each-right S (f k) (over f (suc k) count) h)
  ]

-- of what is told of an instruction that is there
module _ (S : Constraint → Type 0) (p : Parts) (m i : ℕ) (f : Method → Instr → List Constraint) where
  pub each-code : ((method : Method) (instr : Instr) → slice_get p.methods m ≡ Some method → slice_get method.code i ≡ Some instr → Each S (f method instr)) → Each S (of_code p m i f)
  each-code h = by (slice_get p.methods m) refl
    where
      of : (method : Method) → slice_get p.methods m ≡ Some method → (o : Option Instr) → slice_get method.code i ≡ o → Each S (of_instr f method o)
      of method found None e = tt
      of method found (Some instr) e = h method instr found e

      by : (o : Option Method) → slice_get p.methods m ≡ o → Each S (of_method f i o)
      by None e = tt
      by (Some method) e = of method e (slice_get method.code i) refl

  pub code-told : (method : Method) (instr : Instr) → slice_get p.methods m ≡ Some method → slice_get method.code i ≡ Some instr → Each S (of_code p m i f) → Each S (f method instr)
  code-told method instr found at h = subst (λ (o : Option Instr). Each S (of_instr f method o)) at (subst (λ (o : Option Method). Each S (of_method f i o)) found h)
