-- What operations name is there, and returns give what their methods return.
use Rattle.std.proofs.Common.{◌≡◌, ℕ, ◌+◌, ◌<◌, inl, inr, Bool, true, false, List, [], length, drop, Option, Some, None, refl, sym, ap, subst, ◌∙◌, arith}
use Rattle.std.specs.Prelude.{nat_eq, bytes_eq, if◌then◌else◌}
use Rattle.std.proofs.lemmas.List.{length-map}
use Rattle.std.proofs.lemmas.List.Quantifiers.{position-Some}
use Rattle.ja_base.specs.declared.java_type.Kind.{Kind}
use Rattle.ja_base.specs.declared.java_type.Kind.TheVariants.{P1}
use Rattle.ja_base.specs.declared.java_type.JavaType.{JavaType}
use Rattle.ja_base.specs.declared.id.FieldId.{FieldId}
use Rattle.ja_base.specs.Descriptor.{IsField, IsMethod}
use Rattle.ja_pool.specs.Table.{Table, tag_at}
use Rattle.ja_code.specs.declared.instr.RawInstr.{RawInstr}
use Rattle.ja_ir.specs.declared.head.ClassHead.{ClassHead}
use Rattle.ja_ir.specs.declared.class.MethodAt.{MethodAt}
use Rattle.ja_ir.specs.declared.op.CallOp.{CallOp}
use Rattle.ja_ir.specs.declared.op.CallKind.{CallKind}
use Rattle.ja_ir.specs.declared.op.CallKind.TheVariants.{Virtual, Special, Static, Interface, StaticField, MemberField}
use Rattle.ja_ir.specs.declared.op.Op.{Op}
use Rattle.ja_ir.specs.declared.op.Op.TheVariants as ops
use Rattle.ja_ir.specs.Whole.{HasTypes}
use Rattle.ja_lib.specs.Content.{Content}
use Rattle.ja_supertypes.specs.Supertypes.{class_named, names_of}
use Rattle.ja_kinds.specs.declared.state.KindState.{KindState}
use Rattle.ja_kinds.specs.declared.frame.Frame.{Frame}
use Rattle.ja_kinds.specs.declared.effect.Effect.{Effect}
use Rattle.ja_kinds.specs.declared.effect.Effect.TheVariants.{Leaves}
use Rattle.ja_code.specs.declared.behaviour.Behaviour.{Behaviour}
use Rattle.ja_code.specs.declared.behaviour.FieldAccess.TheVariants.{GetStatic, PutStatic, GetField, PutField}
use Rattle.ja_code.specs.declared.behaviour.Behaviour.TheVariants as does
use Rattle.ja_code.specs.declared.behaviour.Invocation.{Invocation}
use Rattle.ja_code.specs.declared.behaviour.Invocation.TheVariants as invocations
use Rattle.ja_code.specs.declared.behaviour.Elements.{Elements}
use Rattle.ja_code.specs.declared.behaviour.Elements.TheVariants.{Primitives, References}
use Rattle.ja_kinds.specs.Effect.{may_return, HasEffect, fixed, Does}
use Rattle.ja_code.specs.Grammar.{operand_at}
use Rattle.ja_kinds.specs.Solution.{accepted}
use Rattle.ja_operations.specs.declared.member.MemberRef.{MemberRef}
use Rattle.ja_operations.specs.Names.{member_in, class_in}
use Rattle.ja_operations.specs.Tokens.{library_token, references_token, primitives_token, token_of_some, token_of_array, is_primitive}
use Rattle.ja_operations.specs.Fields as fields
use Rattle.ja_operations.specs.Fields.{CallsForeign, Accesses, static_read, member_read, member_write}
use Rattle.ja_operations.specs.Targets.{call_kind, FindsFrom, FindsSome, IsFound}
use Rattle.ja_operations.specs.Operation.{loaded as loaded_op, IsCall, OperatesAs, IsOperation}
use Rattle.ja_operations.specs.Agreement.{IsSound}
use Rattle.ja_operations.proofs.Agree.{accepted_turned, leaves}

-- ---- tokens

named_inside : (heads : List ClassHead) (name : List ℕ) (c : ℕ) → class_named heads name ≡ Some c → c < length heads
named_inside heads name c e =
    let within : c < length (names_of heads) = (position-Some (bytes_eq name) (names_of heads) c [] e).0 in
    let size : length (names_of heads) ≡ length heads = simp length-map in
    omega arith

some_token : (heads : List ClassHead) (name : List ℕ) (o : Option ℕ) → class_named heads name ≡ o → (token_of_some heads o).0 < length heads + 4
some_token heads name None e = omega arith
some_token heads name (Some c) e = omega (arith, named_inside heads name c e)

chosen_token : (heads : List ClassHead) (b : Bool) → (if b then primitives_token heads else references_token heads).0 < length heads + 4
chosen_token heads true = omega arith
chosen_token heads false = omega arith

array_token : (heads : List ClassHead) (elements : Elements) → (token_of_array heads elements).0 < length heads + 4
array_token heads Primitives = omega arith
array_token heads References = omega arith

loaded_sound : (heads : List ClassHead) (tag : ℕ) → IsSound heads (loaded_op heads tag)
loaded_sound heads tag = by_tests (nat_eq tag 8) (nat_eq tag 7)
  where
    by_tests : (a b : Bool) → IsSound heads (if a then ops.Text else if b then ops.New (library_token heads) else ops.Const P1)
    by_tests true b = tt
    by_tests false true = omega arith
    by_tests false false = tt

-- ---- calls

-- a call of a method by this kind has the types of a method
abbrev is_of_method : CallKind → Bool
is_of_method Virtual = true
is_of_method Special = true
is_of_method Static = true
is_of_method Interface = true
is_of_method StaticField = false
is_of_method MemberField = false

method_types : (kind : CallKind) (desc : List ℕ) (params : List JavaType) (res : Option JavaType) → is_of_method kind ≡ true → IsMethod desc params res → HasTypes kind desc params res
method_types Virtual desc params res e m = m
method_types Special desc params res e m = m
method_types Static desc params res e m = m
method_types Interface desc params res e m = m
method_types StaticField desc params res e m = absurd (cc e)
method_types MemberField desc params res e m = absurd (cc e)

kind_of_method : (how : Invocation) → is_of_method (call_kind how) ≡ true
kind_of_method invocations.Virtual = refl
kind_of_method invocations.Special = refl
kind_of_method invocations.Static = refl
kind_of_method invocations.Interface = refl

module _ (heads : List ClassHead) where
  some_found : (class : List ℕ) (member : MemberRef) (found : Option MethodAt) (at : MethodAt) → FindsSome heads class member found → found ≡ Some at
      → FindsFrom heads class member.name member.desc at
  some_found class member found at s e =
      let both : Some s.at ≡ Some at = sym s.is ∙ e in
      let same : s.at ≡ at = cc both in
      subst (λ (x : MethodAt). FindsFrom heads class member.name member.desc x) same s.finds

  from_found : (c : ℕ) (member : MemberRef) (kind : CallKind) (found : Option MethodAt) (at : MethodAt) → IsFound heads c member kind found → found ≡ Some at
      → (class : List ℕ) × FindsFrom heads class member.name member.desc at
  from_found c member Static found at s e = (member.class, some_found member.class member found at s e)
  from_found c member Special found at s e = (s.class, some_found s.class member found at s.finds e)
  from_found c member Virtual found at s e = absurd (let both : None ≡ Some at = sym s ∙ e in cc both)
  from_found c member Interface found at s e = absurd (let both : None ≡ Some at = sym s ∙ e in cc both)
  from_found c member StaticField found at s e = absurd (let both : None ≡ Some at = sym s ∙ e in cc both)
  from_found c member MemberField found at s e = absurd (let both : None ≡ Some at = sym s ∙ e in cc both)

  call_sound : (rows : Content) (c : ℕ) (kind : CallKind) (member : MemberRef) (call : CallOp) → is_of_method kind ≡ true → IsCall heads rows c kind member call
      → IsSound heads (ops.Call call)
  call_sound rows c kind member call of_method made = (
    method_types call.kind call.desc call.params call.result (ap is_of_method made.kind_is ∙ of_method)
        (subst (λ (desc : List ℕ). IsMethod desc call.params call.result) (sym made.desc_is) made.types),
    λ at e.
        let from : (class : List ℕ) × FindsFrom heads class member.name member.desc at = from_found c member call.kind call.found at made.found e in (
          from.0,
          subst (λ (name : List ℕ). FindsFrom heads from.0 name call.desc at) (sym made.name_is)
              (subst (λ (desc : List ℕ). FindsFrom heads from.0 member.name desc at) (sym made.desc_is) from.1),
        ),
  )

  sound_as : (op other : Op) → op ≡ other → IsSound heads other → IsSound heads op
  sound_as op other e s = subst (λ (x : Op). IsSound heads x) (sym e) s

  access_sound : (member : MemberRef) (own : FieldId → Op) (foreign : JavaType → CallOp) (op : Op) → ((x : FieldId) → IsSound heads (own x))
      → ((type : JavaType) → IsField member.desc type → IsSound heads (ops.Call (foreign type))) → Accesses heads member own foreign op → IsSound heads op
  access_sound member own foreign op ours theirs (fields.of_program {f = x} p) = ours x
  access_sound member own foreign op ours theirs (fields.of_library {call = call} p r) =
      sound_as (ops.Call call) (ops.Call (foreign r.type)) (ap ops.Call r.is) (theirs r.type r.spelled)

  no_answer : {A : Type 0} (at : MethodAt) → None ≡ Some at → A
  no_answer at e = absurd (cc e)

  module _ (rows : Content) (c : ℕ) (pool : Table) (i : RawInstr) (before : Option KindState) where
    sound_by : (b : Behaviour) (op : Op) → OperatesAs heads rows c pool i before b op → IsSound heads op
    sound_by does.Loaded op p = sound_as op _ p (loaded_sound heads (tag_at pool (operand_at i 0)))
    sound_by (does.Access GetStatic) op p =
        access_sound (member_in pool i) ops.GetStatic (static_read rows.categories (member_in pool i)) op (λ x. tt)
        (λ type spelled. ((type, spelled, refl, refl), λ at e. no_answer at e)) p
    sound_by (does.Access PutStatic) op (fields.static_of_program p) = tt
    sound_by (does.Access GetField) op p =
        access_sound (member_in pool i) ops.GetField (member_read rows.categories (member_in pool i)) op (λ x. tt)
        (λ type spelled. ((type, spelled, inl (refl, refl)), λ at e. no_answer at e)) p
    sound_by (does.Access PutField) op p =
        access_sound (member_in pool i) ops.PutField (member_write rows.categories (member_in pool i)) op (λ x. tt)
        (λ type spelled. ((type, spelled, inr (refl, refl)), λ at e. no_answer at e)) p
    sound_by (does.Invoke how) op p = sound_as op _ p.is (call_sound rows c (call_kind how) (member_in pool i) p.call (kind_of_method how) p.made)
    sound_by does.New op p = sound_as op _ p (some_token heads (class_in pool i) (class_named heads (class_in pool i)) refl)
    sound_by (does.NewArray elements) op p = sound_as op _ p (array_token heads elements)
    sound_by does.NewArrays op p = sound_as op _ p (chosen_token heads (is_primitive (drop (operand_at i 1) (class_in pool i))))
    sound_by does.Nothing op p = sound_as op _ p tt
    sound_by (does.Constant kind) op p = sound_as op _ p tt
    sound_by (does.Load kind source) op p = sound_as op _ p tt
    sound_by (does.Store kind source) op p = sound_as op _ p tt
    sound_by does.Increment op p = sound_as op _ p tt
    sound_by (does.ArrayLoad kind) op p = sound_as op _ p tt
    sound_by (does.ArrayStore kind) op p = sound_as op _ p tt
    sound_by (does.Rearrange how) op p = sound_as op _ p tt
    sound_by (does.Compute operands kind throws) op p = sound_as op _ p tt
    sound_by (does.Test operands) op p = sound_as op _ p tt
    sound_by does.Jump op p = sound_as op _ p tt
    sound_by does.Switch op p = sound_as op _ p tt
    sound_by (does.Return kind) op p = sound_as op _ p tt
    sound_by does.ArrayLength op p = sound_as op _ p tt
    sound_by does.Throw op p = sound_as op _ p tt
    sound_by does.Cast op p = sound_as op _ p tt
    sound_by does.InstanceOf op p = sound_as op _ p tt
    sound_by does.Monitor op p = sound_as op _ p tt

pub operations_sound : (heads : List ClassHead) (rows : Content) (c : ℕ) (pool : Table) (i : RawInstr) (op : Op) (before : Option KindState)
    → IsOperation heads rows c pool i before op → IsSound heads op
operations_sound heads rows c pool i op before is = sound_by heads rows c pool i before is.behaviour op is.operates

-- ---- returns

-- the operation is no return
abbrev is_return : Op → Bool
is_return (ops.Return kind) = true
is_return op = false

loaded_stays : (heads : List ClassHead) (tag : ℕ) → is_return (loaded_op heads tag) ≡ false
loaded_stays heads tag = by_tests (nat_eq tag 8) (nat_eq tag 7)
  where
    by_tests : (a b : Bool) → is_return (if a then ops.Text else if b then ops.New (library_token heads) else ops.Const P1) ≡ false
    by_tests true b = refl
    by_tests false true = refl
    by_tests false false = refl

access_stays : (heads : List ClassHead) (member : MemberRef) (own : FieldId → Op) (foreign : JavaType → CallOp) (op : Op) → ((x : FieldId) → is_return (own x) ≡ false)
    → Accesses heads member own foreign op → is_return op ≡ false
access_stays heads member own foreign op ours (fields.of_program {f = x} p) = ours x
access_stays heads member own foreign op ours (fields.of_library p r) = refl

write_stays : (heads : List ClassHead) (member : MemberRef) (op : Op) → fields.WritesStatic heads member ops.PutStatic op → is_return op ≡ false
write_stays heads member op (fields.static_of_program p) = refl

module _ (heads : List ClassHead) (rows : Content) (c : ℕ) (pool : Table) (i : RawInstr) (before : Option KindState) (kind : Option Kind) where
  contrary : {A : Type 0} (other : Op) → ops.Return kind ≡ other → is_return other ≡ false → A
  contrary other e stays = absurd (let both : true ≡ false = ap is_return e ∙ stays in cc both)

  return_by : (b : Behaviour) → OperatesAs heads rows c pool i before b (ops.Return kind) → b ≡ does.Return kind
  return_by (does.Return k) p = let same : kind ≡ k = cc p in ap does.Return (sym same)
  return_by does.Loaded p = contrary _ p (loaded_stays heads (tag_at pool (operand_at i 0)))
  return_by (does.Access GetStatic) p = contrary _ refl (access_stays heads (member_in pool i) _ _ (ops.Return kind) (λ x. refl) p)
  return_by (does.Access PutStatic) p = contrary _ refl (write_stays heads (member_in pool i) (ops.Return kind) p)
  return_by (does.Access GetField) p = contrary _ refl (access_stays heads (member_in pool i) _ _ (ops.Return kind) (λ x. refl) p)
  return_by (does.Access PutField) p = contrary _ refl (access_stays heads (member_in pool i) _ _ (ops.Return kind) (λ x. refl) p)
  return_by (does.Invoke how) p = contrary _ p.is refl
  return_by does.New p = contrary _ p refl
  return_by (does.NewArray elements) p = contrary _ p refl
  return_by does.NewArrays p = contrary _ p refl
  return_by does.Nothing p = contrary _ p refl
  return_by (does.Constant k) p = contrary _ p refl
  return_by (does.Load k source) p = contrary _ p refl
  return_by (does.Store k source) p = contrary _ p refl
  return_by does.Increment p = contrary _ p refl
  return_by (does.ArrayLoad k) p = contrary _ p refl
  return_by (does.ArrayStore k) p = contrary _ p refl
  return_by (does.Rearrange how) p = contrary _ p refl
  return_by (does.Compute operands k throws) p = contrary _ p refl
  return_by (does.Test operands) p = contrary _ p refl
  return_by does.Jump p = contrary _ p refl
  return_by does.Switch p = contrary _ p refl
  return_by does.ArrayLength p = contrary _ p refl
  return_by does.Throw p = contrary _ p refl
  return_by does.Cast p = contrary _ p refl
  return_by does.InstanceOf p = contrary _ p refl
  return_by does.Monitor p = contrary _ p refl

pub returns_agree : ((pool : Table) (i : RawInstr) (behaviour : Behaviour) (effect other : Effect) → HasEffect pool i behaviour effect → HasEffect pool i behaviour other → effect ≡ other)
    → (heads : List ClassHead) (rows : Content) (c : ℕ) (pool : Table) (i : RawInstr) (kind : Option Kind) (behaviour : Behaviour) (effect : Effect) (frame : Frame) (f g : KindState)
    → IsOperation heads rows c pool i (Some f) (ops.Return kind) → Does pool i behaviour effect → accepted frame effect f ≡ Some g → may_return frame.returns kind ≡ true
returns_agree effect_law heads rows c pool i kind behaviour effect frame f g is deed e =
    let one : Some is.behaviour ≡ Some behaviour = sym is.opcode ∙ deed.opcode in
    let same : is.behaviour ≡ behaviour = cc one in
    let returns : behaviour ≡ does.Return kind = sym same ∙ return_by heads rows c pool i (Some f) kind is.behaviour is.operates in
    let has : HasEffect pool i (does.Return kind) effect = subst (λ (b : Behaviour). HasEffect pool i b effect) returns deed.effect_is in
    (leaves frame f g effect kind (accepted_turned frame effect f g e) (effect_law pool i (does.Return kind) effect (Leaves kind) has (fixed refl))).0
