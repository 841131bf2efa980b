-- Decoding one instruction after the other, as the loop does.
use Rattle.std.proofs.Common.{◌≡◌, ℕ, ◌+◌, ◌≤◌, ◌<◌, Bool, true, false, ◌||◌, eqb, List, [], ◌∷◌, ◌++◌, length, take, drop, get_or, set, replicate, Option, Some, None, refl, sym, ap, subst, ◌∙◌, arith, inl, inr, append_assoc, add-zero, slice_index}
use Rattle.std.specs.List.{list_any}
use Rattle.std.proofs.lemmas.Bool.{cases_lt, cases_eq, eq-eqb, ne_eqb, or_right}
use Rattle.std.proofs.lemmas.List.{take-append-drop, length-append, length-take, length-drop, append-nil, length-replicate, get_or-replicate, get_or_past, get_or-set_same, get_or-set_other}
use Rattle.std.proofs.Math.Seq.{take-add}
use Rattle.ja_code.specs.declared.instr.RawInstr.{RawInstr}
use Rattle.ja_code.specs.declared.handler.RawHandler.{RawHandler}
use Rattle.ja_code.specs.declared.form.Form.{Form}
use Rattle.ja_code.specs.Opcode.{form_at}
use Rattle.ja_code.specs.declared.fault.CodeFault.{CodeFault}
use Rattle.ja_code.specs.declared.fault.CodeFault.TheVariants.{BadOpcode, RefusedOpcode, CodeEnd, BadOperand, BadBranch, BadHandler, Memory}
use Rattle.ja_code.specs.Grammar.{IsInstr, AreInstrs, is_start}
use Rattle.ja_code.specs.Faults.{first_failing, instr_checks, IsFault, IsCause}
use Rattle.ja_code.specs.InnerReading.{marked, instr_with, instr_at, Fails}
use Rattle.ja_code.proofs.Sound.{instr_is}

-- nothing is marked at first
pub none_marked : (n place : ℕ) → get_or (replicate n false) place false ≡ false
none_marked n place = elim (cases_lt place n) [
  | inl below ↦ get_or-replicate n place false false below
  | inr past ↦ get_or_past (replicate n false) place false (omega (arith, length-replicate n false))
]

or_false : (b : Bool) → (b || false) ≡ b
or_false true = refl
or_false false = refl

any_push : (test : RawInstr → Bool) (is : List RawInstr) (i : RawInstr) → list_any test (is ++ i ∷ []) ≡ (list_any test is || test i)
any_push test [] i = or_false (test i)
any_push test (j ∷ is) i = ap (λ (b : Bool). test j || b) (any_push test is i) ∙ or_assoc (test j) (list_any test is) (test i)
  where
    or_assoc : (a b d : Bool) → (a || (b || d)) ≡ ((a || b) || d)
    or_assoc true b d = refl
    or_assoc false b d = refl

-- one more mark
marked_more : (starts : List Bool) (is : List RawInstr) (i : RawInstr) → i.pc < length starts → ((place : ℕ) → marked starts place ≡ is_start is place)
    → (place : ℕ) → marked (set starts i.pc true) place ≡ is_start (is ++ i ∷ []) place
marked_more starts is i below so_far place = elim (cases_eq place i.pc) [
  | inl same ↦ rw (same, get_or-set_same starts i.pc true false below)
      (sym (any_push (λ j. eqb j.pc i.pc) is i ∙ or_right (list_any (λ j. eqb j.pc i.pc) is) (eqb i.pc i.pc) (eq-eqb i.pc i.pc refl)))
  | inr other ↦
      let unlike : eqb i.pc place ≡ false = ne_eqb i.pc place (λ e. other (sym e)) in
      get_or-set_other starts i.pc place true false other ∙ so_far place
      ∙ sym (any_push (λ j. eqb j.pc place) is i ∙ ap (λ (b : Bool). list_any (λ j. eqb j.pc place) is || b) unlike ∙ or_false (list_any (λ j. eqb j.pc place) is))
]

-- the same where the pc is known by another name
pub marked_at : (starts : List Bool) (is : List RawInstr) (i : RawInstr) (pc : ℕ) → i.pc ≡ pc → pc < length starts → ((place : ℕ) → marked starts place ≡ is_start is place)
    → (place : ℕ) → marked (set starts pc true) place ≡ is_start (is ++ i ∷ []) place
marked_at starts is i pc e below so_far place =
    subst (λ (k : ℕ). marked (set starts k true) place ≡ is_start (is ++ i ∷ []) place) e (marked_more starts is i (omega (arith, e, below)) so_far place)

pc_of : (pc : ℕ) (bytes : List ℕ) → (instr_at pc bytes).pc ≡ pc
unfolding instr_at
pc_of pc bytes = by_form (form_at (slice_index bytes 0))
  where
    by_form : (o : Option Form) → (instr_with o pc bytes).pc ≡ pc
    by_form None = refl
    by_form (Some form) = refl

module _ (tags dims : List ℕ) where
  -- one more instruction
  instrs_push : (pc : ℕ) (bytes : List ℕ) (is : List RawInstr) → AreInstrs tags dims pc bytes is → (text : List ℕ) (i : RawInstr)
      → IsInstr tags dims (pc + length bytes) text i → AreInstrs tags dims pc (bytes ++ text) (is ++ i ∷ [])
  instrs_push pc bytes is AreInstrs.none text i one =
      subst (λ (t : List ℕ). AreInstrs tags dims pc t (i ∷ [])) (append-nil text) (AreInstrs.next text [] (rw add-zero at one) AreInstrs.none)
  instrs_push pc bytes is (AreInstrs.next front rest {i = j} {is = others} first more) text i one =
      let place : pc + length (front ++ rest) ≡ pc + length front + length rest = omega (arith, length-append front rest) in
      subst (λ (t : List ℕ). AreInstrs tags dims pc t (j ∷ (others ++ i ∷ []))) (sym (append_assoc front rest text))
      (AreInstrs.next front (rest ++ text) first (instrs_push (pc + length front) rest others more text i (subst (λ (k : ℕ). IsInstr tags dims k text i) place one)))

  -- the instruction at pc passes its checks
  pub one_more : (pc : ℕ) (code : List ℕ) (is : List RawInstr) (i : RawInstr) → pc ≤ length code → AreInstrs tags dims 0 (take pc code) is
      → (first_failing (instr_checks tags dims pc (drop pc code)) ≡ None) × (i ≡ instr_at pc (drop pc code))
      → (pc + i.length ≤ length code) × AreInstrs tags dims 0 (take (pc + i.length) code) (is ++ i ∷ []) × (0 < i.length) × (i.pc ≡ pc)
  one_more pc code is i there spelled given =
      subst (λ (j : RawInstr). (pc + j.length ≤ length code) × AreInstrs tags dims 0 (take (pc + j.length) code) (is ++ j ∷ []) × (0 < j.length) × (j.pc ≡ pc)) (sym given.1) (
      let one = instr_is tags dims pc (drop pc code) given.0 in
      let n : ℕ = (instr_at pc (drop pc code)).length in
      let place : pc ≡ 0 + length (take pc code) = omega (arith, length-take pc code) in
      let more = instrs_push 0 (take pc code) is spelled (take n (drop pc code)) (instr_at pc (drop pc code))
      (subst (λ (k : ℕ). IsInstr tags dims k (take n (drop pc code)) (instr_at pc (drop pc code))) place one.0) in (
        omega (arith, one.1, length-drop pc code),
        subst (λ (t : List ℕ). AreInstrs tags dims 0 t (is ++ instr_at pc (drop pc code) ∷ [])) (sym (take-add pc n code)) more,
        one.2,
        pc_of pc (drop pc code),
      ))

  -- the instruction at pc has a fault
  pub stopped : (pc : ℕ) (code : List ℕ) (is : List RawInstr) (rows : List RawHandler) (fault : CodeFault) → pc < length code → AreInstrs tags dims 0 (take pc code) is
      → first_failing (instr_checks tags dims pc (drop pc code)) ≡ Some fault → IsFault code tags dims rows fault
  stopped pc code is rows fault below spelled fails =
      let place : pc ≡ length (take pc code) = omega (arith, length-take pc code) in
      IsFault.in_instr (take pc code) (drop pc code) is (sym (take-append-drop pc code)) (omega (arith, length-drop pc code)) spelled
      (subst (λ (k : ℕ). first_failing (instr_checks tags dims k (drop pc code)) ≡ Some fault) place fails)

-- an error of a step is a cause
pub cause_from : (code tags dims : List ℕ) (rows : List RawHandler) (found : Option CodeFault) (e : CodeFault)
    → ((fault : CodeFault) → found ≡ Some fault → IsFault code tags dims rows fault) → Fails e found → IsCause code tags dims rows e
cause_from code tags dims rows found Memory is_fault fails = tt
cause_from code tags dims rows found (BadOpcode pc op) is_fault fails = is_fault (BadOpcode pc op) fails
cause_from code tags dims rows found (RefusedOpcode pc op) is_fault fails = is_fault (RefusedOpcode pc op) fails
cause_from code tags dims rows found (CodeEnd pc) is_fault fails = is_fault (CodeEnd pc) fails
cause_from code tags dims rows found (BadOperand pc) is_fault fails = is_fault (BadOperand pc) fails
cause_from code tags dims rows found (BadBranch pc) is_fault fails = is_fault (BadBranch pc) fails
cause_from code tags dims rows found (BadHandler n) is_fault fails = is_fault (BadHandler n) fails
