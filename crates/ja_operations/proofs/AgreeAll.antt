-- Each operation agrees with the kinds of its instruction.
use Rattle.std.proofs.Common.{◌≡◌, ℕ, ◌+◌, ◌-◌, ◌||◌, Bool, true, false, List, [], ◌∷◌, ◌++◌, length, map, Option, Some, None, refl, sym, ap, subst, ◌∙◌, arith}
use Rattle.std.specs.Prelude.{nat_eq, not, option_map, replicate, if◌then◌else◌}
use Rattle.std.proofs.lemmas.List.{length-append, length-replicate, length-map}
use Rattle.ja_base.specs.declared.java_type.Kind.{Kind}
use Rattle.ja_base.specs.declared.java_type.Kind.TheVariants.{P1, R}
use Rattle.ja_base.specs.declared.java_type.JavaType.{JavaType}
use Rattle.ja_base.specs.declared.id.FieldId.{FieldId}
use Rattle.ja_base.specs.Descriptor.{IsMethod}
use Rattle.ja_pool.specs.Table.{Table, tag_at, member_desc_at}
use Rattle.ja_code.specs.declared.instr.RawInstr.{RawInstr}
use Rattle.ja_ir.specs.declared.head.ClassHead.{ClassHead}
use Rattle.ja_ir.specs.declared.op.CallOp.{CallOp}
use Rattle.ja_ir.specs.declared.op.CallKind.{CallKind}
use Rattle.ja_ir.specs.declared.op.CallKind.TheVariants.{Virtual, Special, Static, Interface}
use Rattle.ja_ir.specs.declared.op.Op.{Op}
use Rattle.ja_ir.specs.declared.op.Op.TheVariants as ops
use Rattle.ja_ir.specs.Operations.{has_receiver, count_of, arguments, result_count, ends_method}
use Rattle.ja_lib.specs.Content.{Content}
use Rattle.ja_kinds.specs.declared.state.KindState.{KindState}
use Rattle.ja_kinds.specs.declared.frame.Frame.{Frame}
use Rattle.ja_kinds.specs.declared.effect.Effect.{Effect}
use Rattle.ja_kinds.specs.declared.effect.Effect.TheVariants.{Loads, Stores, Counts, Moves, Exchanges, Leaves}
use Rattle.ja_code.specs.declared.behaviour.Rearrangement.{Rearrangement}
use Rattle.ja_code.specs.declared.behaviour.Behaviour.{Behaviour}
use Rattle.ja_code.specs.declared.behaviour.FieldAccess.TheVariants.{GetStatic, PutStatic, GetField, PutField}
use Rattle.ja_code.specs.declared.behaviour.Behaviour.TheVariants as does
use Rattle.ja_code.specs.declared.behaviour.Invocation.{Invocation}
use Rattle.ja_code.specs.declared.behaviour.Invocation.TheVariants as invocations
use Rattle.ja_code.specs.Behaviour.{behaviour_at, goes_on, branches}
use Rattle.ja_kinds.specs.Effect.{place_of, kinds_of, kinds_in, kind_of_type, receiver_of, turned, NamesMethod, HasEffect, fixed, loaded, field, method, Does}
use Rattle.ja_code.specs.Grammar.{operand_at}
use Rattle.ja_kinds.specs.Solution.{accepted}
use Rattle.ja_operations.specs.declared.member.MemberRef.{MemberRef}
use Rattle.ja_operations.specs.Names.{member_in}
use Rattle.ja_operations.specs.Shuffles.{move_after, shuffle_of}
use Rattle.ja_operations.specs.Fields as fields
use Rattle.ja_operations.specs.Fields.{CallsForeign, Accesses, WritesStatic, static_read, member_read, member_write}
use Rattle.ja_operations.specs.Tokens.{library_token}
use Rattle.ja_operations.specs.Targets.{call_kind}
use Rattle.ja_operations.specs.Operation.{loaded as loaded_op, local_of, Calls, OperatesAs, IsOperation}
use Rattle.ja_operations.specs.Agreement.{Agrees}
use Rattle.ja_operations.proofs.ShuffleAgrees.{MovesByOne, FittingMoves, shuffle_agrees}
use Rattle.ja_operations.proofs.Agree.{Changes, accepted_turned, exchanges, loads, stores, counts, leaves}

-- ---- the effects of what names a field or a method

-- the values that are exchanged, whatever their kinds are
record Swaps (effect : Effect) (taken pushed : ℕ) : Type 0 where
  low : List Kind
  high : List Kind
  is : effect ≡ Exchanges low high
  size_low : length low ≡ taken
  size_high : length high ≡ pushed

module _ (pool : Table) (i : RawInstr) where
  loaded_swaps : (e : Effect) → HasEffect pool i does.Loaded e → Swaps e 0 1
  loaded_swaps e (fixed p) = absurd (cc p)
  loaded_swaps e (loaded {kind} t p) = record { low = []; high = kind ∷ []; is = (let q : Exchanges [] (kind ∷ []) ≡ e = cc p in sym q); size_low = refl; size_high = refl }
  loaded_swaps e (field n p) = absurd (cc p)
  loaded_swaps e (method n p) = absurd (cc p)

  get_static_swaps : (e : Effect) → HasEffect pool i (does.Access GetStatic) e → Swaps e 0 1
  get_static_swaps e (fixed p) = absurd (cc p)
  get_static_swaps e (loaded t p) = absurd (cc p)
  get_static_swaps e (field {kind} n p) = record { low = []; high = kind ∷ []; is = (let q : Exchanges [] (kind ∷ []) ≡ e = cc p in sym q); size_low = refl; size_high = refl }
  get_static_swaps e (method n p) = absurd (cc p)

  put_static_swaps : (e : Effect) → HasEffect pool i (does.Access PutStatic) e → Swaps e 1 0
  put_static_swaps e (fixed p) = absurd (cc p)
  put_static_swaps e (loaded t p) = absurd (cc p)
  put_static_swaps e (field {kind} n p) = record { low = kind ∷ []; high = []; is = (let q : Exchanges (kind ∷ []) [] ≡ e = cc p in sym q); size_low = refl; size_high = refl }
  put_static_swaps e (method n p) = absurd (cc p)

  get_field_swaps : (e : Effect) → HasEffect pool i (does.Access GetField) e → Swaps e 1 1
  get_field_swaps e (fixed p) = absurd (cc p)
  get_field_swaps e (loaded t p) = absurd (cc p)
  get_field_swaps e (field {kind} n p) = record { low = R ∷ []; high = kind ∷ []; is = (let q : Exchanges (R ∷ []) (kind ∷ []) ≡ e = cc p in sym q); size_low = refl; size_high = refl }
  get_field_swaps e (method n p) = absurd (cc p)

  put_field_swaps : (e : Effect) → HasEffect pool i (does.Access PutField) e → Swaps e 2 0
  put_field_swaps e (fixed p) = absurd (cc p)
  put_field_swaps e (loaded t p) = absurd (cc p)
  put_field_swaps e (field {kind} n p) = record { low = R ∷ kind ∷ []; high = []; is = (let q : Exchanges (R ∷ kind ∷ []) [] ≡ e = cc p in sym q); size_low = refl; size_high = refl }
  put_field_swaps e (method n p) = absurd (cc p)

  kinds_given : (res : Option JavaType) (given : Option Kind) → given ≡ option_map kind_of_type res → length (kinds_in given) ≡ result_count res
  kinds_given None given e = ap (λ (o : Option Kind). length (kinds_in o)) e
  kinds_given (Some type) given e = ap (λ (o : Option Kind). length (kinds_in o)) e

  module _ (reading : (text : List ℕ) (params others : List JavaType) (res other : Option JavaType) → IsMethod text params res → IsMethod text others other
      → (params ≡ others) × (res ≡ other)) (params : List JavaType) (res : Option JavaType) (types : IsMethod (member_desc_at pool (operand_at i 0)) params res) where
    taken_size : (taken : List Kind) (given : Option Kind) → NamesMethod pool i taken given → length taken ≡ length params
    taken_size taken given n =
        let sizes : length (map kind_of_type n.params) ≡ length n.params = simp length-map in
        ap (λ (l : List Kind). length l) n.takes ∙ sizes
        ∙ ap (λ (l : List JavaType). length l) (reading (member_desc_at pool (operand_at i 0)) n.params params n.result res n.method types).0

    given_size : (taken : List Kind) (given : Option Kind) → NamesMethod pool i taken given → length (kinds_in given) ≡ result_count res
    given_size taken given n =
        kinds_given n.result given n.gives
        ∙ ap (λ (o : Option JavaType). result_count o) (reading (member_desc_at pool (operand_at i 0)) n.params params n.result res n.method types).1

    invoke_swaps : (how : Invocation) (e : Effect) → HasEffect pool i (does.Invoke how) e
        → Swaps e (length (receiver_of how) + length params) (result_count res)
    invoke_swaps how e (fixed p) = absurd (cc p)
    invoke_swaps how e (loaded t p) = absurd (cc p)
    invoke_swaps how e (field n p) = absurd (cc p)
    invoke_swaps how e (method {taken} {given} n p) = record {
      low = receiver_of how ++ taken;
      high = kinds_in given;
      is = (let q : Exchanges (receiver_of how ++ taken) (kinds_in given) ≡ e = cc p in sym q);
      size_low = length-append (receiver_of how) taken ∙ ap (λ (n : ℕ). length (receiver_of how) + n) (taken_size taken given n);
      size_high = given_size taken given n;
    }

-- ---- by behaviour

-- the effect is the one that the behaviour has for this instruction
abbrev OneEffect : Type 0
OneEffect = (pool : Table) (i : RawInstr) (behaviour : Behaviour) (effect other : Effect) → HasEffect pool i behaviour effect → HasEffect pool i behaviour other → effect ≡ other

-- a method descriptor is read in one way
abbrev OneMethod : Type 0
OneMethod =
    (text : List ℕ) (params others : List JavaType) (res other : Option JavaType) → IsMethod text params res → IsMethod text others other
    → (params ≡ others) × (res ≡ other)

agrees_as : (f g : KindState) (op other : Op) → op ≡ other → Agrees other f g → Agrees op f g
agrees_as f g op other e a = subst (λ (x : Op). Agrees x f g) (sym e) a

swap_changes : (frame : Frame) (f g : KindState) (effect : Effect) (taken pushed : ℕ) → turned frame.returns effect f ≡ Some g → Swaps effect taken pushed → Changes taken pushed f g
swap_changes frame f g effect taken pushed t s =
    let ch : Changes (length s.low) (length s.high) f g = exchanges frame f g effect s.low s.high t s.is in
    record { there = omega (arith, ch.there, s.size_low); left = omega (arith, ch.left, s.size_low, s.size_high) }

loaded_agrees : (heads : List ClassHead) (f g : KindState) (tag : ℕ) → Changes 0 1 f g → Agrees (loaded_op heads tag) f g
loaded_agrees heads f g tag ch = by_tests (nat_eq tag 8) (nat_eq tag 7)
  where
    by_tests : (a b : Bool) → Agrees (if a then ops.Text else if b then ops.New (library_token heads) else ops.Const P1) f g
    by_tests true b = record { operands = ch.there; locals = tt; height = ch.left }
    by_tests false true = record { operands = ch.there; locals = tt; height = ch.left }
    by_tests false false = record { operands = ch.there; locals = tt; height = ch.left }

call_receives : (how : Invocation) → count_of (has_receiver (call_kind how)) ≡ length (receiver_of how)
call_receives invocations.Virtual = refl
call_receives invocations.Special = refl
call_receives invocations.Static = refl
call_receives invocations.Interface = refl

count_some : (kind : Option Kind) → length (kinds_in kind) ≡ result_count kind
count_some None = refl
count_some (Some kind) = refl

module _ (effect_law : OneEffect) (reading : OneMethod) (heads : List ClassHead) (rows : Content) (c : ℕ) (pool : Table) (i : RawInstr)
    (frame : Frame) (f g : KindState) (effect : Effect) (t : turned frame.returns effect f ≡ Some g) where
  -- a behaviour that exchanges values
  swapped : (b : Behaviour) (low high : List Kind) → HasEffect pool i b effect → HasEffect pool i b (Exchanges low high) → Changes (length low) (length high) f g
  swapped b low high has other = exchanges frame f g effect low high t (effect_law pool i b effect (Exchanges low high) has other)

  accesses : (own : FieldId → Op) (foreign : JavaType → CallOp) (op : Op) → ((x : FieldId) → Agrees (own x) f g) → ((type : JavaType) → Agrees (ops.Call (foreign type)) f g)
      → Accesses heads (member_in pool i) own foreign op → Agrees op f g
  accesses own foreign op ours theirs (fields.of_program {f = x} p) = ours x
  accesses own foreign op ours theirs (fields.of_library {call = call} p r) = agrees_as f g (ops.Call call) (ops.Call (foreign r.type)) (ap ops.Call r.is) (theirs r.type)

  invoked : (how : Invocation) (op : Op) → Calls heads rows c (call_kind how) (member_in pool i) op → HasEffect pool i (does.Invoke how) effect → Agrees op f g
  invoked how op calls has =
      let ch = swap_changes frame f g effect (length (receiver_of how) + length calls.call.params) (result_count calls.call.result) t
      (invoke_swaps pool i reading calls.call.params calls.call.result calls.made.types how effect has) in
      let receives : count_of (has_receiver calls.call.kind) ≡ length (receiver_of how) =
      ap (λ (k : CallKind). count_of (has_receiver k)) calls.made.kind_is ∙ call_receives how in
      let size : arguments calls.call ≡ length (receiver_of how) + length calls.call.params = ap (λ (n : ℕ). n + length calls.call.params) receives in
      agrees_as f g op (ops.Call calls.call) calls.is
      (record { operands = omega (arith, ch.there, size); locals = tt; height = ap (λ (n : ℕ). (length f.stack - n) + result_count calls.call.result) size ∙ ch.left })

  -- what an operation takes and pushes as an exchange does
  agree_by : (shuffles : (how : Rearrangement) → HasEffect pool i (does.Rearrange how) effect → Agrees (shuffle_of (move_after how (Some f))) f g)
      → (b : Behaviour) (op : Op) → OperatesAs heads rows c pool i (Some f) b op → HasEffect pool i b effect → Agrees op f g
  agree_by shuffles does.Nothing op p has =
      let ch = swapped does.Nothing [] [] has (fixed refl) in
      agrees_as f g op ops.Nop p (record { operands = ch.there; locals = tt; height = ch.left })
  agree_by shuffles (does.Constant kind) op p has =
      let ch = swapped (does.Constant kind) [] (kind ∷ []) has (fixed refl) in
      agrees_as f g op (ops.Const kind) p (record { operands = ch.there; locals = tt; height = ch.left })
  agree_by shuffles does.Loaded op p has =
      let ch = swap_changes frame f g effect 0 1 t (loaded_swaps pool i effect has) in
      agrees_as f g op _ p (loaded_agrees heads f g (tag_at pool (operand_at i 0)) ch)
  agree_by shuffles (does.Load kind source) op p has =
      let u = loads frame f g effect kind (place_of source i) t (effect_law pool i (does.Load kind source) effect (Loads kind (place_of source i)) has (fixed refl)) in
      agrees_as f g op (ops.Load kind (local_of source i)) p
      (record { operands = u.changes.there; locals = omega (arith, u.inside); height = u.changes.left })
  agree_by shuffles (does.Store kind source) op p has =
      let u = stores frame f g effect kind (place_of source i) t (effect_law pool i (does.Store kind source) effect (Stores kind (place_of source i)) has (fixed refl)) in
      agrees_as f g op (ops.Store kind (local_of source i)) p
      (record { operands = u.changes.there; locals = omega (arith, u.inside); height = u.changes.left })
  agree_by shuffles does.Increment op p has =
      let ch = counts frame f g effect (operand_at i 0) t (effect_law pool i does.Increment effect (Counts (operand_at i 0)) has (fixed refl)) in
      agrees_as f g op ops.Nop p (record { operands = ch.there; locals = tt; height = ch.left })
  agree_by shuffles (does.ArrayLoad kind) op p has =
      let ch = swapped (does.ArrayLoad kind) (R ∷ P1 ∷ []) (kind ∷ []) has (fixed refl) in
      agrees_as f g op (ops.ArrLoad kind) p (record { operands = ch.there; locals = tt; height = ch.left })
  agree_by shuffles (does.ArrayStore kind) op p has =
      let ch = swapped (does.ArrayStore kind) (R ∷ P1 ∷ kind ∷ []) [] has (fixed refl) in
      agrees_as f g op (ops.ArrStore kind) p (record { operands = ch.there; locals = tt; height = ch.left })
  agree_by shuffles (does.Rearrange how) op p has = agrees_as f g op (shuffle_of (move_after how (Some f))) p (shuffles how has)
  agree_by shuffles (does.Compute operands kind throws) op p has =
      let ch = swapped (does.Compute operands kind throws) (kinds_of operands) (kind ∷ []) has (fixed refl) in
      agrees_as f g op (ops.Mix (length (kinds_of operands)) kind throws) p (record { operands = ch.there; locals = tt; height = ch.left })
  agree_by shuffles (does.Test operands) op p has =
      let ch = swapped (does.Test operands) (kinds_of operands) [] has (fixed refl) in
      agrees_as f g op (ops.Branch (length (kinds_of operands))) p (record { operands = ch.there; locals = tt; height = ch.left })
  agree_by shuffles does.Jump op p has =
      let ch = swapped does.Jump [] [] has (fixed refl) in
      agrees_as f g op (ops.Branch 0) p (record { operands = ch.there; locals = tt; height = ch.left })
  agree_by shuffles does.Switch op p has =
      let ch = swapped does.Switch (P1 ∷ []) [] has (fixed refl) in
      agrees_as f g op (ops.Branch 1) p (record { operands = ch.there; locals = tt; height = ch.left })
  agree_by shuffles (does.Return kind) op p has =
      let l = leaves frame f g effect kind t (effect_law pool i (does.Return kind) effect (Leaves kind) has (fixed refl)) in
      agrees_as f g op (ops.Return kind) p
      (record {
        operands = omega (arith, l.1.there, count_some kind);
        locals = tt;
        height = ap (λ (n : ℕ). (length f.stack - n) + 0) (sym (count_some kind)) ∙ l.1.left;
      })
  agree_by shuffles (does.Access GetStatic) op p has =
      let ch = swap_changes frame f g effect 0 1 t (get_static_swaps pool i effect has) in
      accesses ops.GetStatic (static_read rows.categories (member_in pool i)) op
      (λ x. record { operands = ch.there; locals = tt; height = ch.left }) (λ type. record { operands = ch.there; locals = tt; height = ch.left }) p
  agree_by shuffles (does.Access PutStatic) op (fields.static_of_program p) has =
      let ch = swap_changes frame f g effect 1 0 t (put_static_swaps pool i effect has) in
      record { operands = ch.there; locals = tt; height = ch.left }
  agree_by shuffles (does.Access GetField) op p has =
      let ch = swap_changes frame f g effect 1 1 t (get_field_swaps pool i effect has) in
      accesses ops.GetField (member_read rows.categories (member_in pool i)) op
      (λ x. record { operands = ch.there; locals = tt; height = ch.left }) (λ type. record { operands = ch.there; locals = tt; height = ch.left }) p
  agree_by shuffles (does.Access PutField) op p has =
      let ch = swap_changes frame f g effect 2 0 t (put_field_swaps pool i effect has) in
      accesses ops.PutField (member_write rows.categories (member_in pool i)) op
      (λ x. record { operands = ch.there; locals = tt; height = ch.left }) (λ type. record { operands = ch.there; locals = tt; height = ch.left }) p
  agree_by shuffles (does.Invoke how) op p has = invoked how op p has
  agree_by shuffles does.New op p has =
      let ch = swapped does.New [] (R ∷ []) has (fixed refl) in
      agrees_as f g op _ p (record { operands = ch.there; locals = tt; height = ch.left })
  agree_by shuffles (does.NewArray elements) op p has =
      let ch = swapped (does.NewArray elements) (P1 ∷ []) (R ∷ []) has (fixed refl) in
      agrees_as f g op _ p (record { operands = ch.there; locals = tt; height = ch.left })
  agree_by shuffles does.NewArrays op p has =
      let ch = swapped does.NewArrays (replicate (operand_at i 1) P1) (R ∷ []) has (fixed refl) in
      let size : length (replicate (operand_at i 1) P1) ≡ operand_at i 1 = simp length-replicate in
      agrees_as f g op _ p
      (record { operands = omega (arith, ch.there, size); locals = tt; height = ap (λ (n : ℕ). (length f.stack - n) + 1) (sym size) ∙ ch.left })
  agree_by shuffles does.ArrayLength op p has =
      let ch = swapped does.ArrayLength (R ∷ []) (P1 ∷ []) has (fixed refl) in
      agrees_as f g op ops.ArrLen p (record { operands = ch.there; locals = tt; height = ch.left })
  agree_by shuffles does.Throw op p has =
      let ch = swapped does.Throw (R ∷ []) [] has (fixed refl) in
      agrees_as f g op ops.Throw p (record { operands = ch.there; locals = tt; height = ch.left })
  agree_by shuffles does.Cast op p has =
      let ch = swapped does.Cast (R ∷ []) (R ∷ []) has (fixed refl) in
      agrees_as f g op _ p (record { operands = ch.there; locals = tt; height = ch.left })
  agree_by shuffles does.InstanceOf op p has =
      let ch = swapped does.InstanceOf (R ∷ []) (P1 ∷ []) has (fixed refl) in
      agrees_as f g op ops.InstanceOf p (record { operands = ch.there; locals = tt; height = ch.left })
  agree_by shuffles does.Monitor op p has =
      let ch = swapped does.Monitor (R ∷ []) [] has (fixed refl) in
      agrees_as f g op ops.Monitor p (record { operands = ch.there; locals = tt; height = ch.left })

-- ---- the laws

same_behaviour : (o : Option Behaviour) (a b : Behaviour) → o ≡ Some a → o ≡ Some b → a ≡ b
same_behaviour o a b e f = let g : Some a ≡ Some b = sym e ∙ f in cc g

module _ (effect_law : OneEffect) (reading : OneMethod) (moved : MovesByOne) (fitting : FittingMoves) where
  pub operations_agree : (heads : List ClassHead) (rows : Content) (c : ℕ) (pool : Table) (i : RawInstr) (op : Op) (behaviour : Behaviour) (effect : Effect)
      (frame : Frame) (f g : KindState) → IsOperation heads rows c pool i (Some f) op → Does pool i behaviour effect → accepted frame effect f ≡ Some g → Agrees op f g
  operations_agree heads rows c pool i op behaviour effect frame f g is deed e =
      let t : turned frame.returns effect f ≡ Some g = accepted_turned frame effect f g e in
      let same : is.behaviour ≡ behaviour = same_behaviour (behaviour_at i.opcode) is.behaviour behaviour is.opcode deed.opcode in
      let operates : OperatesAs heads rows c pool i (Some f) behaviour op = subst (λ (b : Behaviour). OperatesAs heads rows c pool i (Some f) b op) same is.operates in
      agree_by effect_law reading heads rows c pool i frame f g effect t
      (λ how has.
      let moves : effect ≡ Moves how = effect_law pool i (does.Rearrange how) effect (Moves how) has (fixed refl) in
      shuffle_agrees moved fitting how f g frame (subst (λ (x : Effect). turned frame.returns x f ≡ Some g) moves t))
      behaviour op operates deed.effect_is

-- an operation that is given so ends its method as the other does
ends_as : (op other : Op) (b : Bool) → op ≡ other → ends_method other ≡ b → ends_method op ≡ b
ends_as op other b e h = ap ends_method e ∙ h

ends_access : (heads : List ClassHead) (member : MemberRef) (own : FieldId → Op) (foreign : JavaType → CallOp) (op : Op) → ((x : FieldId) → ends_method (own x) ≡ false)
    → Accesses heads member own foreign op → ends_method op ≡ false
ends_access heads member own foreign op ours (fields.of_program {f = x} p) = ours x
ends_access heads member own foreign op ours (fields.of_library p r) = refl

loaded_goes : (heads : List ClassHead) (tag : ℕ) → ends_method (loaded_op heads tag) ≡ false
loaded_goes heads tag = by_tests (nat_eq tag 8) (nat_eq tag 7)
  where
    by_tests : (a b : Bool) → ends_method (if a then ops.Text else if b then ops.New (library_token heads) else ops.Const P1) ≡ false
    by_tests true b = refl
    by_tests false true = refl
    by_tests false false = refl

module _ (heads : List ClassHead) (rows : Content) (c : ℕ) (pool : Table) (i : RawInstr) (before : Option KindState) where
  ends_by : (b : Behaviour) (op : Op) → OperatesAs heads rows c pool i before b op → ends_method op ≡ not (goes_on b || branches b)
  ends_by does.Nothing op p = ends_as op _ false p refl
  ends_by (does.Constant kind) op p = ends_as op _ false p refl
  ends_by does.Loaded op p = ends_as op _ false p (loaded_goes heads (tag_at pool (operand_at i 0)))
  ends_by (does.Load kind source) op p = ends_as op _ false p refl
  ends_by (does.Store kind source) op p = ends_as op _ false p refl
  ends_by does.Increment op p = ends_as op _ false p refl
  ends_by (does.ArrayLoad kind) op p = ends_as op _ false p refl
  ends_by (does.ArrayStore kind) op p = ends_as op _ false p refl
  ends_by (does.Rearrange how) op p = ends_as op _ false p refl
  ends_by (does.Compute operands kind throws) op p = ends_as op _ false p refl
  ends_by (does.Test operands) op p = ends_as op _ false p refl
  ends_by does.Jump op p = ends_as op _ false p refl
  ends_by does.Switch op p = ends_as op _ false p refl
  ends_by (does.Return kind) op p = ends_as op _ true p refl
  ends_by (does.Access GetStatic) op p = ends_access heads (member_in pool i) _ _ op (λ x. refl) p
  ends_by (does.Access PutStatic) op (fields.static_of_program p) = refl
  ends_by (does.Access GetField) op p = ends_access heads (member_in pool i) _ _ op (λ x. refl) p
  ends_by (does.Access PutField) op p = ends_access heads (member_in pool i) _ _ op (λ x. refl) p
  ends_by (does.Invoke how) op p = ends_as op _ false p.is refl
  ends_by does.New op p = ends_as op _ false p refl
  ends_by (does.NewArray elements) op p = ends_as op _ false p refl
  ends_by does.NewArrays op p = ends_as op _ false p refl
  ends_by does.ArrayLength op p = ends_as op _ false p refl
  ends_by does.Throw op p = ends_as op _ true p refl
  ends_by does.Cast op p = ends_as op _ false p refl
  ends_by does.InstanceOf op p = ends_as op _ false p refl
  ends_by does.Monitor op p = ends_as op _ false p refl

pub operations_end : (heads : List ClassHead) (rows : Content) (c : ℕ) (pool : Table) (i : RawInstr) (op : Op) (behaviour : Behaviour) (before : Option KindState)
    → IsOperation heads rows c pool i before op → behaviour_at i.opcode ≡ Some behaviour → ends_method op ≡ not (goes_on behaviour || branches behaviour)
operations_end heads rows c pool i op behaviour before is e =
    let same : is.behaviour ≡ behaviour = same_behaviour (behaviour_at i.opcode) is.behaviour behaviour is.opcode e in
    ends_by heads rows c pool i before behaviour op (subst (λ (b : Behaviour). OperatesAs heads rows c pool i before b op) same is.operates)
