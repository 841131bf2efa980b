-- What whole programs have few of: targets and arguments have numbers that fit 32 bits.
use Rattle.std.proofs.Common.{◌≡◌, ℕ, ◌<◌, ◌≤◌, ◌^◌, inl, inr, Bool, true, false, List, [], ◌∷◌, Some, length, ap, subst, arith}
use Rattle.std.specs.Prelude.{All, slice_get}
use Rattle.std.proofs.lemmas.List.Sums.{sum_by-cons}
use Rattle.std.proofs.lemmas.Option.{slice_get_within, get_or_from_slice_get}
use Rattle.ja_base.specs.declared.java_type.Kind.{Kind}
use Rattle.ja_base.specs.declared.java_type.Kind.TheVariants.{P1, P2, R, T}
use Rattle.ja_base.specs.declared.java_type.JavaType.{JavaType}
use Rattle.ja_base.specs.Kind.{words_of}
use Rattle.ja_base.specs.Descriptor.{words_of_all}
use Rattle.ja_ir.specs.declared.program.Parts.{Parts}
use Rattle.ja_ir.specs.declared.method.Method.{Method}
use Rattle.ja_ir.specs.declared.method.Instr.{Instr}
use Rattle.ja_ir.specs.declared.op.CallOp.{CallOp}
use Rattle.ja_ir.specs.declared.op.CallKind.{CallKind}
use Rattle.ja_ir.specs.declared.op.CallKind.TheVariants.{Virtual, Special, Static, Interface, StaticField, MemberField}
use Rattle.ja_ir.specs.declared.op.Op.{Op}
use Rattle.ja_ir.specs.declared.op.Op.TheVariants.{Nop, Const, Text, New, Load, Store, ArrLoad, ArrStore, Shuffle, Mix, Branch, Return, GetStatic, PutStatic, GetField, PutField, Call, NewArray, ArrLen, Throw, Cast, InstanceOf, Monitor}
use Rattle.ja_ir.specs.Operations.{count_of, has_receiver}
use Rattle.ja_ir.specs.Whole.{IsWhole, IsWholeMethod, IsDescribed, HasTypes, NamesAll}
use Rattle.ja_cells.proofs.Naming.{few-instructions}
use Rattle.ja_constraints.specs.Places.{HasFew}

all-at : {X : Type 0} (P : X → Type 0) (xs : List X) → All P xs → (k : ℕ) (x : X) → slice_get xs k ≡ Some x → P x
all-at P xs all k x e = subst P (get_or_from_slice_get xs k x x e) (all k x (slice_get_within xs k x e))

some-words : (kind : Kind) → 1 ≤ words_of kind
some-words P1 = omega arith
some-words P2 = omega arith
some-words R = omega arith
some-words T = omega arith

-- each type takes a word at least
pub few-types : (types : List JavaType) → length types ≤ words_of_all types
few-types [] = omega arith
few-types (type ∷ types) = omega (arith, few-types types, some-words type.kind, sum_by-cons (λ (t : JavaType). words_of t.kind) type types)

few-params : (kind : CallKind) (call : CallOp) → HasTypes kind call.desc call.params call.result → length call.params ≤ 255
few-params Virtual call types = omega (arith, few-types call.params, types.most)
few-params Special call types = omega (arith, few-types call.params, types.most)
few-params Static call types = omega (arith, few-types call.params, types.most)
few-params Interface call types = omega (arith, few-types call.params, types.most)
few-params StaticField call types = omega (arith, ap length types.2)
few-params MemberField call types = elim types.2 [
  | inl read ↦ omega (arith, ap length read.0)
  | inr write ↦ omega (arith, ap length write.0)
]

few-receivers : (b : Bool) → count_of b ≤ 1
few-receivers true = omega arith
few-receivers false = omega arith

few-arguments : (p : Parts) (op : Op) → IsDescribed p op → HasFew op
few-arguments p (Call call) described = omega (arith, few-params call.kind call described.0, few-receivers (has_receiver call.kind))
few-arguments p Nop described = tt
few-arguments p (Const kind) described = tt
few-arguments p Text described = tt
few-arguments p (New token) described = tt
few-arguments p (Load kind l) described = tt
few-arguments p (Store kind l) described = tt
few-arguments p (ArrLoad kind) described = tt
few-arguments p (ArrStore kind) described = tt
few-arguments p (Shuffle n pushed) described = tt
few-arguments p (Mix n kind throws) described = tt
few-arguments p (Branch n) described = tt
few-arguments p (Return kind) described = tt
few-arguments p (GetStatic field) described = tt
few-arguments p (PutStatic field) described = tt
few-arguments p (GetField field) described = tt
few-arguments p (PutField field) described = tt
few-arguments p (NewArray last dimensions) described = tt
few-arguments p ArrLen described = tt
few-arguments p Throw described = tt
few-arguments p (Cast name) described = tt
few-arguments p InstanceOf described = tt
few-arguments p Monitor described = tt

method-whole : (p : Parts) (m : ℕ) (method : Method) → IsWhole p → slice_get p.methods m ≡ Some method → IsWholeMethod p method
method-whole p m method whole found = all-at (IsWholeMethod p) p.methods whole.methods m method found

-- of a method of the program
pub few-words : (p : Parts) (m : ℕ) (method : Method) → IsWhole p → slice_get p.methods m ≡ Some method → words_of_all method.types.params ≤ 255
few-words p m method whole found = (method-whole p m method whole found).spelled.spelled.most

pub few-method-types : (p : Parts) (m : ℕ) (method : Method) → IsWhole p → slice_get p.methods m ≡ Some method → length method.types.params ≤ 255
few-method-types p m method whole found = omega (arith, few-words p m method whole found, few-types method.types.params)

-- of an instruction of the program
pub few-handed : (p : Parts) (m i : ℕ) (method : Method) (instr : Instr) → IsWhole p → slice_get p.methods m ≡ Some method → slice_get method.code i ≡ Some instr → HasFew instr.op
few-handed p m i method instr whole found at =
    few-arguments p instr.op (all-at (λ (x : Instr). IsDescribed p x.op) method.code (method-whole p m method whole found).calls i instr at)

pub few-targets : (p : Parts) (m i : ℕ) (method : Method) (instr : Instr) → IsWhole p → slice_get p.methods m ≡ Some method → slice_get method.code i ≡ Some instr
    → All (λ j. j < 2 ^ 32) instr.next
few-targets p m i method instr whole found at =
    let instrs : All (NamesAll p (length method.code)) method.code = all-at (λ (x : Method). All (NamesAll p (length x.code)) x.code) p.methods whole.instructions m method found in
    let here : NamesAll p (length method.code) instr = all-at (NamesAll p (length method.code)) method.code instrs i instr at in
    λ k d lt. omega (arith, here.next k d lt, few-instructions p m method whole found)
