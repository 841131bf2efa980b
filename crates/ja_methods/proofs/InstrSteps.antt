-- Instructions of a method, one after the other.
use Rattle.std.proofs.Common.{◌≡◌, ℕ, zero, suc, ◌+◌, ◌⊎◌, inl, inr, List, [], ◌∷◌, ◌++◌, length, get_or, Option, Some, None, refl, sym, ap, subst, ◌∙◌, arith}
use Rattle.std.specs.Prelude.{All, slice_get}
use Rattle.std.proofs.lemmas.Bool.{cases_lt}
use Rattle.std.proofs.lemmas.List.{length_push}
use Rattle.std.proofs.lemmas.Option.{get_or_from_slice_get}
use Rattle.ja_pool.specs.Table.{Table}
use Rattle.ja_code.specs.declared.instr.RawInstr.{RawInstr}
use Rattle.ja_ir.specs.declared.head.ClassHead.{ClassHead}
use Rattle.ja_ir.specs.declared.method.Instr.{Instr}
use Rattle.ja_lib.specs.Content.{Content}
use Rattle.ja_kinds.specs.declared.state.KindState.{KindState}
use Rattle.ja_kinds.specs.Effect.{IsOneOf}
use Rattle.ja_operations.specs.declared.fault.OpFault.{OpFault}
use Rattle.ja_operations.specs.declared.fault.OpFault.TheVariants as op_faults
use Rattle.ja_operations.specs.Refused.{IsRefusedFor, UnlessMemory}
use Rattle.ja_methods.specs.declared.fault.MethodFault.{MethodFault}
use Rattle.ja_methods.specs.declared.fault.MethodFault.TheVariants as faults
use Rattle.ja_methods.specs.Method.{state_before, IsInstrOf, AreInstrsOf}
use Rattle.ja_methods.specs.Refusal.{instr_refusal, IsUnrefused, IsRefusalOf, NoneBefore, IsFirstRefusal}

-- the instructions before an index, none of which is refused
pub record InstrsBelow (heads : List ClassHead) (rows : Content) (c : ℕ) (pool : Table) (instrs : List RawInstr) (kinds : List (Option KindState)) (k : ℕ) (list : List Instr) : Type 0 where
  pub size : length list ≡ k
  pub each : (j : ℕ) (raw : RawInstr) (instr : Instr) → slice_get instrs j ≡ Some raw → slice_get list j ≡ Some instr
      → IsInstrOf heads rows c pool instrs (state_before kinds j) j raw instr
  pub clean : NoneBefore heads c pool instrs k

-- one instruction found at two places that are one
pub same-item : {X : Type 0} (xs : List X) (j k : ℕ) (a b : X) → j ≡ k → slice_get xs j ≡ Some a → slice_get xs k ≡ Some b → a ≡ b
same-item xs j k a b e at there = sym (get_or_from_slice_get xs j a a at) ∙ ap (λ (n : ℕ). get_or xs n a) e ∙ get_or_from_slice_get xs k b a there

-- what holds of each item
pub all-one : {X : Type 0} (P : X → Type 0) (xs : List X) → ((x : X) → IsOneOf x xs → P x) → All P xs
all-one P [] each k d lt = absurd (omega arith)
all-one P (x ∷ xs) each zero d lt = each x (inl refl)
all-one P (x ∷ xs) each (suc k) d lt = all-one P xs (λ y there. each y (inr there)) k d (omega arith)

pushed-at : {X : Type 0} (xs : List X) (y : X) (j : ℕ) (x : X) → slice_get (xs ++ y ∷ []) j ≡ Some x → (slice_get xs j ≡ Some x) ⊎ ((j ≡ length xs) × (y ≡ x))
pushed-at [] y zero x at = inr (refl, cc)
pushed-at [] y (suc j) x at = absurd (cc)
pushed-at (z ∷ xs) y zero x at = inl at
pushed-at (z ∷ xs) y (suc j) x at = elim (pushed-at xs y j x at) [ inl before ↦ inl before | inr last ↦ inr (ap suc last.0, last.1) ]

pub instrs-none : (heads : List ClassHead) (rows : Content) (c : ℕ) (pool : Table) (instrs : List RawInstr) (kinds : List (Option KindState)) → InstrsBelow heads rows c pool instrs kinds 0 []
instrs-none heads rows c pool instrs kinds = record { size = refl; each = λ j raw instr at there. absurd (cc); clean = λ j raw lt. absurd (omega arith) }

pub instrs-more : (heads : List ClassHead) (rows : Content) (c : ℕ) (pool : Table) (instrs : List RawInstr) (kinds : List (Option KindState)) (k : ℕ) (list new : List Instr) (raw : RawInstr) (instr : Instr) (before : Option KindState)
    → slice_get instrs k ≡ Some raw → slice_get kinds k ≡ Some before → InstrsBelow heads rows c pool instrs kinds k list → IsInstrOf heads rows c pool instrs before k raw instr → IsUnrefused heads c pool raw
    → new ≡ list ++ instr ∷ [] → InstrsBelow heads rows c pool instrs kinds (k + 1) new
instrs-more heads rows c pool instrs kinds k list new raw instr before at known below is unrefused e =
    let state : state_before kinds k ≡ before = get_or_from_slice_get kinds k before None known in
    record {
      size = omega (arith, ap length e, length_push list instr, below.size);
      each = λ j other found there here. elim (pushed-at list instr j found (subst (λ (l : List Instr). slice_get l j ≡ Some found) e here)) [
        | inl old ↦ below.each j other found there old
        | inr last ↦
            let j-is : j ≡ k = last.0 ∙ below.size in
            let same : raw ≡ other = same-item instrs k j raw other (sym j-is) at there in
            subst (λ (n : ℕ). IsInstrOf heads rows c pool instrs (state_before kinds n) n other found) (sym j-is)
            (subst (λ (s : Option KindState). IsInstrOf heads rows c pool instrs s k other found) (sym state)
            (subst (λ (x : RawInstr). IsInstrOf heads rows c pool instrs before k x found) same
            (subst (λ (x : Instr). IsInstrOf heads rows c pool instrs before k raw x) last.1 is)))
      ];
      clean = λ j other lt there. elim (cases_lt j k) [
        | inl old ↦ below.clean j other old there
        | inr last ↦ subst (λ (x : RawInstr). IsUnrefused heads c pool x) (same-item instrs k j raw other (omega (arith, lt, last)) at there) unrefused
      ];
    }

pub instrs-all : (heads : List ClassHead) (rows : Content) (c : ℕ) (pool : Table) (instrs : List RawInstr) (kinds : List (Option KindState)) (k : ℕ) (list : List Instr) → k ≡ length instrs
    → InstrsBelow heads rows c pool instrs kinds k list → AreInstrsOf heads rows c pool instrs kinds list
instrs-all heads rows c pool instrs kinds k list e below = record { size = below.size ∙ e; each = below.each }

-- the first refusal
pub first-refusal : (heads : List ClassHead) (rows : Content) (c : ℕ) (pool : Table) (instrs : List RawInstr) (kinds : List (Option KindState)) (k : ℕ) (list : List Instr) (raw : RawInstr) (refusal : MethodFault)
    → slice_get instrs k ≡ Some raw → InstrsBelow heads rows c pool instrs kinds k list → (refusal ≡ faults.Memory) ⊎ IsRefusalOf heads c pool raw refusal
    → (refusal ≡ faults.Memory) ⊎ IsFirstRefusal heads c pool instrs refusal
first-refusal heads rows c pool instrs kinds k list raw refusal at below (inl memory) = inl memory
first-refusal heads rows c pool instrs kinds k list raw refusal at below (inr is) = inr (record { k = k; raw = raw; at = at; is = is; before = below.clean })

-- a fault of an instruction is a refusal of it, unless it is want of memory
pub refusal-of : (heads : List ClassHead) (c : ℕ) (pool : Table) (raw : RawInstr) (fault : OpFault) (refusal : MethodFault) → refusal ≡ instr_refusal raw.pc fault → UnlessMemory (IsRefusedFor heads c pool raw) fault
    → (refusal ≡ faults.Memory) ⊎ IsRefusalOf heads c pool raw refusal
refusal-of heads c pool raw op_faults.Memory refusal e cause = inl e
refusal-of heads c pool raw op_faults.Reflection refusal e cause = inr (record { fault = op_faults.Reflection; refused = cause; is = e })
refusal-of heads c pool raw op_faults.ThreadStart refusal e cause = inr (record { fault = op_faults.ThreadStart; refused = cause; is = e })
refusal-of heads c pool raw op_faults.LibraryStore refusal e cause = inr (record { fault = op_faults.LibraryStore; refused = cause; is = e })
refusal-of heads c pool raw op_faults.NoField refusal e cause = inr (record { fault = op_faults.NoField; refused = cause; is = e })
