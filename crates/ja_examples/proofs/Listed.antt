-- What holds of each instruction of a list holds of the one that stands there.
use Rattle.std.proofs.Common.{◌≡◌, ℕ, zero, suc, ◌+◌, Bool, List, [], ◌∷◌, Option, None, Some, subst, sym, arith}
use Rattle.std.specs.Prelude.{Contains, slice_get}
use Rattle.ja_ir.specs.declared.class.Field.{Field}
use Rattle.ja_ir.specs.declared.method.Instr.{Instr}

-- each instruction of the list has the property of its place, from a place on
abbrev pub AllFrom : (ℕ → Instr → Type 0) → ℕ → List Instr → Type 0
AllFrom P i [] = Unit {0}
AllFrom P i (x ∷ xs) = P i x × AllFrom P (suc i) xs

pub all_from : (P : ℕ → Instr → Type 0) (i : ℕ) (xs : List Instr) → AllFrom P i xs → (k : ℕ) (x : Instr) → slice_get xs k ≡ Some x → P (k + i) x
all_from P i [] all k x e = absurd (cc e)
all_from P i (y ∷ ys) all zero x e =
    let same : y ≡ x = cc e in
    let here : P i x = subst (λ (z : Instr). P i z) same all.0 in
    let start : i ≡ 0 + i = omega arith in
    subst (λ (j : ℕ). P j x) start here
all_from P i (y ∷ ys) all (suc k) x e =
    let rest : P (k + suc i) x = all_from P (suc i) ys all.1 k x e in
    let place : k + suc i ≡ suc k + i = omega arith in
    subst (λ (j : ℕ). P j x) place rest

pub all_at : (P : ℕ → Instr → Type 0) (xs : List Instr) → AllFrom P 0 xs → (k : ℕ) (x : Instr) → slice_get xs k ≡ Some x → P k x
all_at P xs all k x e = let place : k + 0 ≡ k = omega arith in subst (λ (j : ℕ). P j x) place (all_from P 0 xs all k x e)

-- the one item of a list
pub only_item : {A : Type 0} (x y : A) → Contains (x ∷ []) y → y ≡ x
only_item x y (zero, below, e) = sym e
only_item x y (suc k, below, e) = absurd (omega (arith, below))

pub no_item : {A : Type 0} (y : A) → Contains {X = A} [] y → ⊥
no_item y c = omega (arith, c.1)

-- an instruction that leads to the next one alone
pub next_of : (i : ℕ) (js : List ℕ) → js ≡ suc i ∷ [] → (j : ℕ) → Contains js j → j ≡ suc i
next_of i js e j c = only_item (suc i) j (subst (λ (ks : List ℕ). Contains ks j) e c)

-- whether a field begins as a constant text, if there is one
abbrev pub flag_of : Option Field → Option Bool
flag_of None = None
flag_of (Some field) = Some field.text
