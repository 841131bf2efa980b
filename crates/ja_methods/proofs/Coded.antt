-- What a method with code gives its instructions and handlers, and why its code is refused.
use Rattle.std.proofs.Common.{◌≡◌, ℕ, ◌+◌, ◌<◌, ◌≤◌, ◌⊎◌, inl, inr, List, [], length, Option, Some, None, refl, sym, ap, subst, ◌∙◌, arith}
use Rattle.std.specs.Prelude.{slice_get}
use Rattle.std.specs.List.Sorted.{IsNonDecreasingBy}
use Rattle.ja_pool.specs.Table.{Table, tags_of, dims_of}
use Rattle.ja_code.specs.declared.instr.RawInstr.{RawInstr}
use Rattle.ja_code.specs.declared.code.Code.{Code}
use Rattle.ja_ir.specs.declared.head.ClassHead.{ClassHead}
use Rattle.ja_ir.specs.declared.head.HeadMethod.{HeadMethod}
use Rattle.ja_ir.specs.declared.method.Instr.{Instr}
use Rattle.ja_ir.specs.declared.method.Handler.{Handler}
use Rattle.ja_class.specs.declared.class.ClassMethod.{ClassMethod}
use Rattle.ja_class.specs.Meaning.{ClassSpelled}
use Rattle.ja_class.specs.ClassFile.{IsSpelled}
use Rattle.ja_lib.specs.Content.{Content}
use Rattle.ja_kinds.specs.declared.fault.KindFault.{KindFault}
use Rattle.ja_kinds.specs.declared.fault.KindFault.TheVariants as kind_faults
use Rattle.ja_kinds.specs.declared.state.KindState.{KindState}
use Rattle.ja_kinds.specs.Answer.{AreKindsOf, IsFaultOf}
use Rattle.ja_methods.specs.declared.fault.MethodFault.{MethodFault}
use Rattle.ja_methods.specs.declared.fault.MethodFault.TheVariants as faults
use Rattle.ja_methods.specs.Method.{IsCodeOf, HasContent}
use Rattle.ja_methods.specs.Refusal.{kind_refusal, IsFirstRefusal, IsCodeRefused, IsRefused}
use Rattle.ja_methods.proofs.Chain.{Chain, decoded-chain, chain-ordered, chain-count}
use Rattle.ja_methods.proofs.Profile.{IsDecoded, decoded}

-- the instructions of decoded code follow one another
pub code-chain : (pool : Table) (code : Code) (is : IsDecoded pool code) → Chain 0 (length is.bytes) code.instrs
code-chain pool code is =
    subst (λ (n : ℕ). Chain 0 n code.instrs) (omega arith) (decoded-chain (tags_of pool) (dims_of pool) 0 is.bytes code.instrs is.spells.instrs)

pub code-ordered : (pool : Table) (code : Code) → IsDecoded pool code → IsNonDecreasingBy (λ (i : RawInstr). i.pc) code.instrs
code-ordered pool code is i j d le lt = chain-ordered 0 (length is.bytes) code.instrs (code-chain pool code is) i j d le lt

pub code-few : (pool : Table) (code : Code) → IsDecoded pool code → length code.instrs ≤ 65535
code-few pool code is = omega (arith, chain-count 0 (length is.bytes) code.instrs (code-chain pool code is), is.short)

-- a fault of the kinds is a refusal of the code
pub kinds-refused : (heads : List ClassHead) (class : ClassSpelled) (c m : ℕ) (fault : KindFault) (refusal : MethodFault) → refusal ≡ kind_refusal fault
    → (fault ≡ kind_faults.Memory) ⊎ IsFaultOf class m fault → (refusal ≡ faults.Memory) ⊎ IsCodeRefused heads class c m refusal
kinds-refused heads class c m fault refusal e (inl memory) = inl (e ∙ ap kind_refusal memory)
kinds-refused heads class c m fault refusal e (inr is) = inr (subst (λ (r : MethodFault). IsCodeRefused heads class c m r) (sym e) (IsCodeRefused.kinds fault is))

-- so is the first refusal of an instruction
pub instr-refused : (heads : List ClassHead) (class : ClassSpelled) (c m : ℕ) (code : Code) (kinds : List (Option KindState)) (refusal : MethodFault) → IsCodeOf class m code → AreKindsOf class m kinds
    → (refusal ≡ faults.Memory) ⊎ IsFirstRefusal heads c class.pool code.instrs refusal → (refusal ≡ faults.Memory) ⊎ IsCodeRefused heads class c m refusal
instr-refused heads class c m code kinds refusal is are (inl memory) = inl memory
instr-refused heads class c m code kinds refusal is are (inr first) = inr (IsCodeRefused.instruction is kinds are first)

-- a refusal of the code of a method that is not native is one of the method
pub code-refused : (heads : List ClassHead) (class : ClassSpelled) (c m : ℕ) (head : HeadMethod) (refusal : MethodFault) → slice_get class.head.methods m ≡ Some head → Rattle.ja_methods.specs.Method.is_native head.flags ≡ Rattle.std.proofs.Common.false
    → (refusal ≡ faults.Memory) ⊎ IsCodeRefused heads class c m refusal → (refusal ≡ faults.Memory) ⊎ IsRefused heads class c m refusal
code-refused heads class c m head refusal at not-native (inl memory) = inl memory
code-refused heads class c m head refusal at not-native (inr is) = inr (IsRefused.coded at not-native is)

-- a method has few instructions
pub content-few : (heads : List ClassHead) (rows : Content) (class : ClassSpelled) → IsSpelled class → (c m : ℕ) (body : ClassMethod) (o : Option Code) (list : List Instr) (handlers : List Handler)
    → slice_get class.methods m ≡ Some body → body.code ≡ o → HasContent heads rows class c m o list handlers → length list ≤ 65535
content-few heads rows class spelled c m body None list handlers at e has = omega (arith, ap length has.0)
content-few heads rows class spelled c m body (Some code) list handlers at e has =
    let is : IsCodeOf class m code = record { body = body; body_at = at; code_is = e } in
    omega (arith, has.instrs.size, code-few class.pool code (decoded class spelled m code is))
