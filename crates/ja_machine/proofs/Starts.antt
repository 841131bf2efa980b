-- The locals with which a method begins: its parameters hold its arguments, and all else is an unmarked primitive.
use Rattle.std.proofs.Common.{◌≡◌, ℕ, zero, suc, ◌+◌, ◌<◌, ◌⊎◌, inl, inr, Bool, true, false, List, [], ◌∷◌, length, refl, sym, ◌∙◌, ap, subst, arith}
use Rattle.std.specs.Prelude.{Some, slice_get}
use Rattle.std.proofs.lemmas.Option.{none-some, same_Some}
use Rattle.ja_base.specs.declared.java_type.Kind.{Kind}
use Rattle.ja_base.specs.declared.java_type.Kind.TheVariants.{P1, P2, R, T}
use Rattle.ja_base.specs.declared.java_type.JavaType.{JavaType}
use Rattle.ja_base.specs.Kind.{words_of}
use Rattle.ja_ir.specs.declared.method.Method.{Method}
use Rattle.ja_ir.specs.Lookup.{is_member}
use Rattle.ja_ir.specs.Params.{words_before, local_among, params_among, param_local, param_count}
use Rattle.ja_machine.specs.declared.heap.Value.{Value}
use Rattle.ja_machine.specs.declared.heap.Value.TheVariants.{Prim}
use Rattle.ja_machine.specs.Marks.{none}
use Rattle.ja_machine.specs.Run.{spread, placed, filled, with_receiver, locals_of}

-- the number of locals
pub length-filled : (n : ℕ) (vs : List Value) → length (filled n vs) ≡ n
length-filled zero vs = refl
length-filled (suc n) [] = ap suc (length-filled n [])
length-filled (suc n) (v ∷ vs) = ap suc (length-filled n vs)

-- a local is one of those given first, or an unmarked primitive
filled-cases : (n : ℕ) (vs : List Value) (l : ℕ) (v : Value) → slice_get (filled n vs) l ≡ Some v → (slice_get vs l ≡ Some v) ⊎ (v ≡ Prim none)
filled-cases zero vs l v e = absurd (none-some v e)
filled-cases (suc n) [] zero v e = inr (sym (same_Some (Prim none) v e))
filled-cases (suc n) [] (suc l) v e = elim (filled-cases n [] l v e) [ inl q ↦ absurd (none-some v q) | inr q ↦ inr q ]
filled-cases (suc n) (u ∷ vs) zero v e = inl e
filled-cases (suc n) (u ∷ vs) (suc l) v e = filled-cases n vs l v e

filled-first : (n : ℕ) (vs : List Value) (l : ℕ) (v : Value) → l < n → slice_get vs l ≡ Some v → slice_get (filled n vs) l ≡ Some v
filled-first zero vs l v lt e = absurd (omega (arith, lt))
filled-first (suc n) [] l v lt e = absurd (none-some v e)
filled-first (suc n) (u ∷ vs) zero v lt e = e
filled-first (suc n) (u ∷ vs) (suc l) v lt e = filled-first n vs l v (omega (arith, lt)) e

-- a local holds argument k of these parameters
record Holds (args : List Value) (place : ℕ → ℕ) (count l : ℕ) (v : Value) : Type 0 where
  pub k : ℕ
  pub is_place : l ≡ place k
  pub is_argument : slice_get args k ≡ Some v
  pub is_parameter : k < count

spread-later : (u : Value) (kind : Kind) (others : List Value) (l : ℕ) → slice_get (spread u kind others) (words_of kind + l) ≡ slice_get others l
spread-later u P1 others l = subst (λ (n : ℕ). slice_get (u ∷ others) n ≡ slice_get others l) (let q : suc l ≡ 1 + l = omega arith in q) refl
spread-later u P2 others l = subst (λ (n : ℕ). slice_get (u ∷ Prim none ∷ others) n ≡ slice_get others l) (let q : suc (suc l) ≡ 2 + l = omega arith in q) refl
spread-later u R others l = subst (λ (n : ℕ). slice_get (u ∷ others) n ≡ slice_get others l) (let q : suc l ≡ 1 + l = omega arith in q) refl
spread-later u T others l = subst (λ (n : ℕ). slice_get (u ∷ others) n ≡ slice_get others l) (let q : suc l ≡ 1 + l = omega arith in q) refl

spread-first : (u : Value) (kind : Kind) (others : List Value) → slice_get (spread u kind others) 0 ≡ Some u
spread-first u P1 others = refl
spread-first u P2 others = refl
spread-first u R others = refl
spread-first u T others = refl

-- a local of a spread value is the first, an unmarked primitive, or one of the others
record Further (kind : Kind) (others : List Value) (l : ℕ) (v : Value) : Type 0 where
  rest : ℕ
  is_rest : l ≡ words_of kind + rest
  found : slice_get others rest ≡ Some v

spread-cases : (u : Value) (kind : Kind) (others : List Value) (l : ℕ) (v : Value) → slice_get (spread u kind others) l ≡ Some v → ((l ≡ 0) × (u ≡ v)) ⊎ ((v ≡ Prim none) ⊎ Further kind others l v)
spread-cases u P1 others zero v e = inl (refl, same_Some u v e)
spread-cases u P1 others (suc l) v e = inr (inr (record { rest = l; is_rest = omega arith; found = e }))
spread-cases u P2 others zero v e = inl (refl, same_Some u v e)
spread-cases u P2 others (suc zero) v e = inr (inl (sym (same_Some (Prim none) v e)))
spread-cases u P2 others (suc (suc l)) v e = inr (inr (record { rest = l; is_rest = omega arith; found = e }))
spread-cases u R others zero v e = inl (refl, same_Some u v e)
spread-cases u R others (suc l) v e = inr (inr (record { rest = l; is_rest = omega arith; found = e }))
spread-cases u T others zero v e = inl (refl, same_Some u v e)
spread-cases u T others (suc l) v e = inr (inr (record { rest = l; is_rest = omega arith; found = e }))

placed-first : (args : List Value) (params : List JavaType) (k : ℕ) (v : Value) → k < length params → slice_get args k ≡ Some v → slice_get (placed args params) (words_before params k) ≡ Some v
placed-first [] params k v lt e = absurd (none-some v e)
placed-first (u ∷ args) [] k v lt e = absurd (omega (arith, lt))
placed-first (u ∷ args) (t ∷ params) zero v lt e = spread-first u t.kind (placed args params) ∙ e
placed-first (u ∷ args) (t ∷ params) (suc k) v lt e =
    spread-later u t.kind (placed args params) (words_before params k) ∙ placed-first args params k v (omega (arith, lt)) e

placed-cases : (args : List Value) (params : List JavaType) (l : ℕ) (v : Value) → slice_get (placed args params) l ≡ Some v → Holds args (words_before params) (length params) l v ⊎ (v ≡ Prim none)
placed-cases [] params l v e = absurd (none-some v e)
placed-cases (u ∷ args) [] l v e = absurd (none-some v e)
placed-cases (u ∷ args) (t ∷ params) l v e = elim (spread-cases u t.kind (placed args params) l v e) [
  | inl q ↦ inl (record { k = 0; is_place = q.0; is_argument = ap Some q.1; is_parameter = omega arith })
  | inr q ↦ elim q [
    | inl z ↦ inr z
    | inr f ↦ elim (placed-cases args params f.rest v f.found) [
      | inl h ↦ inl (record { k = suc h.k; is_place = f.is_rest ∙ ap (λ (n : ℕ). words_of t.kind + n) h.is_place; is_argument = h.is_argument; is_parameter = omega (arith, h.is_parameter) })
      | inr z ↦ inr z
    ]
  ]
]

count-is : (params : List JavaType) → (params_among false params ≡ length params) × (params_among true params ≡ suc (length params))
count-is [] = (refl, refl)
count-is (t ∷ params) = (ap suc (count-is params).0, ap suc (count-is params).1)

-- the locals behind a receiver
received-first : (b : Bool) (args : List Value) (params : List JavaType) (k : ℕ) (v : Value) → k < params_among b params → slice_get args k ≡ Some v → slice_get (with_receiver b args params) (local_among b params k) ≡ Some v
received-first true [] params k v lt e = absurd (none-some v e)
received-first true (u ∷ args) params zero v lt e = e
received-first true (u ∷ args) params (suc k) v lt e =
    subst (λ (n : ℕ). slice_get (u ∷ placed args params) n ≡ Some v) (let q : suc (words_before params k) ≡ 1 + words_before params k = omega arith in q)
    (placed-first args params k v (omega (arith, lt, (count-is params).1)) e)
received-first false args params k v lt e = placed-first args params k v (omega (arith, lt, (count-is params).0)) e

received-cases : (b : Bool) (args : List Value) (params : List JavaType) (l : ℕ) (v : Value) → slice_get (with_receiver b args params) l ≡ Some v → Holds args (local_among b params) (params_among b params) l v ⊎ (v ≡ Prim none)
received-cases true [] params l v e = absurd (none-some v e)
received-cases true (u ∷ args) params zero v e = inl (record { k = 0; is_place = refl; is_argument = e; is_parameter = omega (arith, (count-is params).1) })
received-cases true (u ∷ args) params (suc l) v e = elim (placed-cases args params l v e) [
  | inl h ↦ inl (record { k = suc h.k; is_place = omega (arith, h.is_place); is_argument = h.is_argument; is_parameter = omega (arith, h.is_parameter, (count-is params).1) })
  | inr z ↦ inr z
]
received-cases false args params l v e = elim (placed-cases args params l v e) [
  | inl h ↦ inl (record { k = h.k; is_place = h.is_place; is_argument = h.is_argument; is_parameter = omega (arith, h.is_parameter, (count-is params).0) })
  | inr z ↦ inr z
]

-- a parameter's local holds its argument
pub parameter-holds : (m : Method) (args : List Value) (k : ℕ) (v : Value) → k < param_count m → param_local m k < m.locals → slice_get args k ≡ Some v → slice_get (locals_of (Some m) args) (param_local m k) ≡ Some v
parameter-holds m args k v lt room e =
    filled-first m.locals (with_receiver (is_member m.flags) args m.types.params) (param_local m k) v room (received-first (is_member m.flags) args m.types.params k v lt e)

-- the local of a method holds argument k, and is the first local of parameter k
pub record HoldsArgument (m : Method) (args : List Value) (l : ℕ) (v : Value) : Type 0 where
  pub k : ℕ
  pub is_local : l ≡ param_local m k
  pub is_argument : slice_get args k ≡ Some v
  pub is_parameter : k < param_count m

-- each local that is no parameter's first one begins as an unmarked primitive
pub local-holds : (m : Method) (args : List Value) (l : ℕ) (v : Value) → slice_get (locals_of (Some m) args) l ≡ Some v → HoldsArgument m args l v ⊎ (v ≡ Prim none)
local-holds m args l v e = elim (filled-cases m.locals (with_receiver (is_member m.flags) args m.types.params) l v e) [
  | inr z ↦ inr z
  | inl q ↦ elim (received-cases (is_member m.flags) args m.types.params l v q) [
    | inr z ↦ inr z
    | inl h ↦ inl (record { k = h.k; is_local = h.is_place; is_argument = h.is_argument; is_parameter = h.is_parameter })
  ]
]
