-- Instructions that branch name a place.
use Rattle.std.proofs.Common.{◌≡◌, ℕ, ◌+◌, ◌<◌, true, false, inl, inr, List, length, Option, Some, refl, sym, ap, subst, ◌∙◌, arith}
use Rattle.ja_code.specs.declared.form.Form.{Form}
use Rattle.ja_code.specs.declared.instr.RawInstr.{RawInstr}
use Rattle.ja_code.specs.Opcode.{form_at}
use Rattle.ja_code.specs.Grammar as grammar
use Rattle.ja_code.specs.Grammar.{IsInstr, AreInstrs, is_branch}
use Rattle.ja_code.specs.declared.behaviour.Behaviour.{Behaviour}
use Rattle.ja_code.specs.Behaviour.{behaviour_at, branches}
use Rattle.ja_kinds.specs.Effect.{IsOneOf}
use Rattle.ja_kinds.proofs.Opcodes.{branches_are}

no_branch : (o : Option Form) (form : Form) → o ≡ Some form → is_branch (Some form) ≡ false → is_branch o ≡ true → ⊥
no_branch o form e off on = (let same : is_branch o ≡ is_branch (Some form) = ap is_branch e in cc)

module _ (tags dims : List ℕ) (pc : ℕ) where
  one : (text : List ℕ) (i : RawInstr) → IsInstr tags dims pc text i → is_branch (form_at i.opcode) ≡ true → 0 < length i.operands
  one text i (grammar.plain takes) b = absurd (no_branch (form_at i.opcode) _ takes.0 refl b)
  one text i (grammar.byte takes) b = omega arith
  one text i (grammar.short takes) b = omega arith
  one text i (grammar.local takes) b = omega arith
  one text i (grammar.increment takes) b = omega arith
  one text i (grammar.byte_index takes named) b = omega arith
  one text i (grammar.index takes named) b = omega arith
  one text i (grammar.interface takes named) b = omega arith
  one text i (grammar.array_type takes low high) b = omega arith
  one text i (grammar.dimensions takes named low high) b = omega arith
  one text i (grammar.branch takes) b = omega arith
  one text i (grammar.far_branch takes) b = omega arith
  one text i (grammar.table_switch gap default low high table count takes a1 a2 a3 a4 a5 a6 a7) b = omega arith
  one text i (grammar.lookup_switch gap default count pairs takes a1 a2 a3 a4 a5) b = omega arith
  one text i (grammar.wide_local wide takes) b = omega arith
  one text i (grammar.wide_increment wide takes) b = omega arith

pub names_place : (tags dims : List ℕ) (pc : ℕ) (bytes : List ℕ) (is : List RawInstr) → AreInstrs tags dims pc bytes is → (i : RawInstr) → IsOneOf i is
    → (b : Behaviour) → behaviour_at i.opcode ≡ Some b → branches b ≡ true → 0 < length i.operands
names_place tags dims pc bytes is grammar.none i there b at on = absurd there
names_place tags dims pc bytes is (grammar.next text rest {i = first} {is = others} here more) i (inl same) b at on =
    let form : is_branch (form_at first.opcode) ≡ true = ap (λ (x : RawInstr). is_branch (form_at x.opcode)) (sym same) ∙ sym (branches_are i.opcode b at) ∙ on in
    subst (λ (x : RawInstr). 0 < length x.operands) (sym same) (one tags dims pc text first here form)
names_place tags dims pc bytes is (grammar.next text rest {i = first} {is = others} here more) i (inr there) b at on =
    names_place tags dims (pc + length text) rest others more i there b at on
