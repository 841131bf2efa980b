-- An instruction has one operation, or one refusal, and not both.
use Rattle.std.proofs.Common.{◌≡◌, ℕ, true, false, List, ◌∷◌, [], ◌++◌, Option, Some, None, refl, sym, ap, subst, ◌∙◌}
use Rattle.std.specs.Prelude.{unwrap_or}
use Rattle.ja_base.specs.declared.java_type.JavaType.{JavaType}
use Rattle.ja_base.specs.declared.id.FieldId.{FieldId}
use Rattle.ja_base.specs.Descriptor.{IsField, IsMethod}
use Rattle.ja_pool.specs.Table.{Table}
use Rattle.ja_code.specs.declared.instr.RawInstr.{RawInstr}
use Rattle.ja_ir.specs.declared.head.ClassHead.{ClassHead}
use Rattle.ja_ir.specs.declared.class.MethodAt.{MethodAt}
use Rattle.ja_ir.specs.declared.row.LibRow.{LibRow}
use Rattle.ja_ir.specs.declared.op.CallOp.{CallOp}
use Rattle.ja_ir.specs.declared.op.CallKind.{CallKind}
use Rattle.ja_ir.specs.declared.op.CallKind.TheVariants.{Virtual, Special, Static, Interface, StaticField, MemberField}
use Rattle.ja_ir.specs.declared.op.Op.{Op}
use Rattle.ja_ir.specs.declared.op.Op.TheVariants.{Call}
use Rattle.ja_lib.specs.Content.{Content}
use Rattle.ja_hier.specs.declared.field_at.FieldAt.{FieldAt}
use Rattle.ja_hier.specs.declared.field_at.FieldAt.TheVariants.{Program, Library, Missing}
use Rattle.ja_hier.specs.declared.skip.Skip.{Skip}
use Rattle.ja_hier.specs.declared.skip.Skip.TheVariants.{NoMethod}
use Rattle.ja_hier.specs.LookUps.{FindsField, Finds}
use Rattle.ja_supertypes.specs.Supertypes.{class_named, object_name}
use Rattle.ja_kinds.specs.declared.state.KindState.{KindState}
use Rattle.ja_code.specs.declared.behaviour.Behaviour.{Behaviour}
use Rattle.ja_code.specs.declared.behaviour.FieldAccess.TheVariants.{GetStatic, PutStatic, GetField, PutField}
use Rattle.ja_code.specs.declared.behaviour.Behaviour.TheVariants as does
use Rattle.ja_code.specs.Behaviour.{behaviour_at}
use Rattle.ja_operations.specs.declared.member.MemberRef.{MemberRef}
use Rattle.ja_operations.specs.declared.fault.OpFault.{OpFault}
use Rattle.ja_supertypes.specs.LibraryTypes.{AreLibraryTypes}
use Rattle.ja_operations.specs.Names.{member_in}
use Rattle.ja_operations.specs.Fields as fields
use Rattle.ja_operations.specs.Fields.{IsFieldAt, CallsForeign, Accesses, WritesStatic}
use Rattle.ja_operations.specs.Rows as tried
use Rattle.ja_operations.specs.Rows.{AreTried, IsFirstRow, IsRow, first_row, default_row}
use Rattle.ja_operations.specs.Targets as targets
use Rattle.ja_operations.specs.Targets.{call_kind, FindsFrom, BeginsAbove, BeginsAt, FindsSome, FindsSpecial, LooksUp, IsFound}
use Rattle.ja_operations.specs.Refused.{is_reflective, StartsThread, RefusesCall, reflection, thread_start, RefusesAccess, RefusesStore, library_store, Refuses, IsRefusedFor}
use Rattle.ja_operations.specs.Refused as refused
use Rattle.ja_operations.specs.Operation.{IsCall, Calls, OperatesAs, IsOperation}

pub same_some : {A : Type 0} (o : Option A) (a b : A) → o ≡ Some a → o ≡ Some b → a ≡ b
same_some o a b e f = let g : Some a ≡ Some b = sym e ∙ f in cc g

pub not_none : {A : Type 0} (o : Option A) (a : A) → o ≡ None → o ≡ Some a → ⊥
not_none o a e f = let g : None ≡ Some a = sym e ∙ f in cc g

module _ (heads : List ClassHead) where
  module _ (field_law : (name desc : List ℕ) (c : ℕ) (a b : FieldAt) → FindsField heads name desc c a → FindsField heads name desc c b → a ≡ b) where
    -- a field is in one place
    pub one_field_at : (member : MemberRef) (a b : FieldAt) → IsFieldAt heads member a → IsFieldAt heads member b → a ≡ b
    one_field_at member a b (fields.in_program {c = c} e f) (fields.in_program {c = d} g h) =
        let same : c ≡ d = same_some (class_named heads member.class) c d e g in
        field_law member.name member.desc c a b f (subst (λ (x : ℕ). FindsField heads member.name member.desc x b) (sym same) h)
    one_field_at member a b (fields.in_program {c = c} e f) (fields.in_library g) = absurd (not_none (class_named heads member.class) c g e)
    one_field_at member a b (fields.in_library e) (fields.in_program {c = d} g h) = absurd (not_none (class_named heads member.class) d e g)
    one_field_at member a b (fields.in_library e) (fields.in_library g) = refl

    one_access : (member : MemberRef) (own : FieldId → Op) (foreign : JavaType → CallOp)
        → ((text : List ℕ) (type other : JavaType) → IsField text type → IsField text other → type ≡ other)
        → (a b : Op) → Accesses heads member own foreign a → Accesses heads member own foreign b → a ≡ b
    one_access member own foreign reading a b (fields.of_program {f = f} p) (fields.of_program {f = g} q) =
        let same : Program f ≡ Program g = one_field_at member (Program f) (Program g) p q in
        let one : f ≡ g = cc same in
        ap own one
    one_access member own foreign reading a b (fields.of_program {f = f} p) (fields.of_library q s) =
        let same : Program f ≡ Library = one_field_at member (Program f) Library p q in absurd (cc same)
    one_access member own foreign reading a b (fields.of_library p r) (fields.of_program {f = g} q) =
        let same : Library ≡ Program g = one_field_at member Library (Program g) p q in absurd (cc same)
    one_access member own foreign reading a b (fields.of_library p r) (fields.of_library q s) =
        ap Call (r.is ∙ ap foreign (reading member.desc r.type s.type r.spelled s.spelled) ∙ sym s.is)

    one_write : (member : MemberRef) (own : FieldId → Op) (a b : Op) → WritesStatic heads member own a → WritesStatic heads member own b → a ≡ b
    one_write member own a b (fields.static_of_program {f = f} p) (fields.static_of_program {f = g} q) =
        let same : Program f ≡ Program g = one_field_at member (Program f) (Program g) p q in
        let one : f ≡ g = cc same in
        ap own one

    access_right : (member : MemberRef) (own : FieldId → Op) (foreign : JavaType → CallOp) (op : Op) (fault : OpFault)
        → Accesses heads member own foreign op → RefusesAccess heads member fault → ⊥
    access_right member own foreign op fault (fields.of_program {f = f} p) (refused.missing q) =
        let same : Program f ≡ Missing = one_field_at member (Program f) Missing p q in cc same
    access_right member own foreign op fault (fields.of_library p r) (refused.missing q) =
        let same : Library ≡ Missing = one_field_at member Library Missing p q in cc same

    write_right : (member : MemberRef) (own : FieldId → Op) (op : Op) (fault : OpFault) → WritesStatic heads member own op → RefusesStore heads member fault → ⊥
    write_right member own op fault (fields.static_of_program {f = f} p) (refused.nowhere q) =
        let same : Program f ≡ Missing = one_field_at member (Program f) Missing p q in cc same
    write_right member own op fault (fields.static_of_program {f = f} p) (library_store q) =
        let same : Program f ≡ Library = one_field_at member (Program f) Library p q in cc same

    one_refused_access : (member : MemberRef) (a b : OpFault) → RefusesAccess heads member a → RefusesAccess heads member b → a ≡ b
    one_refused_access member a b (refused.missing p) (refused.missing q) = refl

    one_refused_store : (member : MemberRef) (a b : OpFault) → RefusesStore heads member a → RefusesStore heads member b → a ≡ b
    one_refused_store member a b (refused.nowhere p) (refused.nowhere q) = refl
    one_refused_store member a b (refused.nowhere p) (library_store q) =
        let same : Missing ≡ Library = one_field_at member Missing Library p q in absurd (cc same)
    one_refused_store member a b (library_store p) (refused.nowhere q) =
        let same : Library ≡ Missing = one_field_at member Library Missing p q in absurd (cc same)
    one_refused_store member a b (library_store p) (library_store q) = refl

  module _ (types_law : (c : ℕ) (a b : List (List ℕ)) → AreLibraryTypes heads c a → AreLibraryTypes heads c b → a ≡ b) where
    -- one list of names is tried
    pub one_tried : (class : List ℕ) (a b : List (List ℕ)) → AreTried heads class a → AreTried heads class b → a ≡ b
    one_tried class a b (tried.of_library e) (tried.of_library f) = refl
    one_tried class a b (tried.of_library e) (tried.of_program {c = d} f g) = absurd (not_none (class_named heads class) d e f)
    one_tried class a b (tried.of_program {c = c} e t) (tried.of_library f) = absurd (not_none (class_named heads class) c f e)
    one_tried class a b (tried.of_program {c = c} {names = ns} e t) (tried.of_program {c = d} {names = ms} f u) =
        let same : c ≡ d = same_some (class_named heads class) c d e f in
        ap (λ (l : List (List ℕ)). l ++ object_name ∷ []) (types_law c ns ms t (subst (λ (x : ℕ). AreLibraryTypes heads x ms) (sym same) u))

    one_row : (rows : Content) (member : MemberRef) (a b : LibRow) → IsRow heads rows member a → IsRow heads rows member b → a ≡ b
    one_row rows member a b p q =
        let names : p.first.names ≡ q.first.names = one_tried member.class p.first.names q.first.names p.first.tried q.first.tried in
        let first : p.found ≡ q.found = p.first.is ∙ ap (λ (l : List (List ℕ)). first_row rows.rows l member.name member.desc) names ∙ sym q.first.is in
        p.is ∙ ap (λ (o : Option LibRow). unwrap_or o (default_row rows.categories)) first ∙ sym q.is

  module _ (method_law : (skip : Skip) (name desc : List ℕ) (c : ℕ) (a b : MethodAt) → Finds heads skip name desc c a → Finds heads skip name desc c b → a ≡ b) where
    -- a look-up of a method ends in one place
    pub one_from : (class name desc : List ℕ) (a b : MethodAt) → FindsFrom heads class name desc a → FindsFrom heads class name desc b → a ≡ b
    one_from class name desc a b (targets.in_program {c = c} e f) (targets.in_program {c = d} g h) =
        let same : c ≡ d = same_some (class_named heads class) c d e g in
        method_law NoMethod name desc c a b f (subst (λ (x : ℕ). Finds heads NoMethod name desc x b) (sym same) h)
    one_from class name desc a b (targets.in_program {c = c} e f) (targets.in_library g) = absurd (not_none (class_named heads class) c g e)
    one_from class name desc a b (targets.in_library e) (targets.in_program {c = d} g h) = absurd (not_none (class_named heads class) d e g)
    one_from class name desc a b (targets.in_library e) (targets.in_library g) = refl

    one_beginning : (c : ℕ) (member : MemberRef) (a b : List ℕ) → BeginsAt heads c member a → BeginsAt heads c member b → a ≡ b
    one_beginning c member a b (targets.above p) (targets.above q) = same_some _ a b p.direct q.direct
    one_beginning c member a b (targets.above p) (targets.as_named q) = absurd (q a p)
    one_beginning c member a b (targets.as_named p) (targets.above q) = absurd (p b q)
    one_beginning c member a b (targets.as_named p) (targets.as_named q) = refl

    one_some : (class : List ℕ) (member : MemberRef) (a b : Option MethodAt) → FindsSome heads class member a → FindsSome heads class member b → a ≡ b
    one_some class member a b p q = p.is ∙ ap Some (one_from class member.name member.desc p.at q.at p.finds q.finds) ∙ sym q.is

    one_special : (c : ℕ) (member : MemberRef) (a b : Option MethodAt) → FindsSpecial heads c member a → FindsSpecial heads c member b → a ≡ b
    one_special c member a b p q =
        let same : p.class ≡ q.class = one_beginning c member p.class q.class p.begins q.begins in
        one_some p.class member a b p.finds (subst (λ (x : List ℕ). FindsSome heads x member b) (sym same) q.finds)

    -- as does the look-up of a call
    pub one_look_up : (c : ℕ) (member : MemberRef) (kind : CallKind) (a b : MethodAt) → LooksUp heads c member kind a → LooksUp heads c member kind b → a ≡ b
    one_look_up c member Special a b p q = let one : Some a ≡ Some b = one_special c member (Some a) (Some b) p q in cc one
    one_look_up c member Static a b p q = one_from member.class member.name member.desc a b p q
    one_look_up c member Virtual a b p q = one_from member.class member.name member.desc a b p q
    one_look_up c member Interface a b p q = one_from member.class member.name member.desc a b p q
    one_look_up c member StaticField a b p q = one_from member.class member.name member.desc a b p q
    one_look_up c member MemberField a b p q = one_from member.class member.name member.desc a b p q

    one_found : (c : ℕ) (member : MemberRef) (kind : CallKind) (a b : Option MethodAt) → IsFound heads c member kind a → IsFound heads c member kind b → a ≡ b
    one_found c member Static a b p q = one_some member.class member a b p q
    one_found c member Special a b p q = one_special c member a b p q
    one_found c member Virtual a b p q = p ∙ sym q
    one_found c member Interface a b p q = p ∙ sym q
    one_found c member StaticField a b p q = p ∙ sym q
    one_found c member MemberField a b p q = p ∙ sym q

-- a call of these parts
made : (kind : CallKind) (class name desc : List ℕ) (params : List JavaType) (res : Option JavaType) (row : LibRow) (found : Option MethodAt) → CallOp
made kind class name desc params res row found =
    record { kind = kind; class = class; name = name; desc = desc; params = params; result = res; row = row; found = found }

same_parts : (a b : CallOp) → a.kind ≡ b.kind → a.class ≡ b.class → a.name ≡ b.name → a.desc ≡ b.desc → a.params ≡ b.params → a.result ≡ b.result
    → a.row ≡ b.row → a.found ≡ b.found
    → made a.kind a.class a.name a.desc a.params a.result a.row a.found ≡ made b.kind b.class b.name b.desc b.params b.result b.row b.found
same_parts a b kind class name desc params res row found = cc

same_call : (a b : CallOp) → a.kind ≡ b.kind → a.class ≡ b.class → a.name ≡ b.name → a.desc ≡ b.desc → a.params ≡ b.params → a.result ≡ b.result
    → a.row ≡ b.row → a.found ≡ b.found → a ≡ b
unfolding made
same_call a b kind class name desc params res row found = same_parts a b kind class name desc params res row found

module _ (heads : List ClassHead) (rows : Content)
    (field_law : (name desc : List ℕ) (c : ℕ) (a b : FieldAt) → FindsField heads name desc c a → FindsField heads name desc c b → a ≡ b)
    (types_law : (c : ℕ) (a b : List (List ℕ)) → AreLibraryTypes heads c a → AreLibraryTypes heads c b → a ≡ b)
    (find_law : (skip : Skip) (name desc : List ℕ) (c : ℕ) (a b : MethodAt) → Finds heads skip name desc c a → Finds heads skip name desc c b → a ≡ b)
    (reading : (text : List ℕ) (type other : JavaType) → IsField text type → IsField text other → type ≡ other)
    (method_reading : (text : List ℕ) (params others : List JavaType) (res other : Option JavaType) → IsMethod text params res → IsMethod text others other
    → (params ≡ others) × (res ≡ other)) where
  one_call : (c : ℕ) (kind : CallKind) (member : MemberRef) (a b : CallOp) → IsCall heads rows c kind member a → IsCall heads rows c kind member b → a ≡ b
  one_call c kind member a b p q =
      let kinds : a.kind ≡ b.kind = p.kind_is ∙ sym q.kind_is in
      let types : (a.params ≡ b.params) × (a.result ≡ b.result) = method_reading member.desc a.params b.params a.result b.result p.types q.types in
      let found : a.found ≡ b.found = one_found heads find_law c member a.kind a.found b.found p.found (subst (λ (k : CallKind). IsFound heads c member k b.found) (sym kinds) q.found) in
      same_call a b kinds (p.class_is ∙ sym q.class_is) (p.name_is ∙ sym q.name_is) (p.desc_is ∙ sym q.desc_is) types.0 types.1
      (one_row heads types_law rows member a.row b.row p.row q.row) found

  one_calls : (c : ℕ) (kind : CallKind) (member : MemberRef) (a b : Op) → Calls heads rows c kind member a → Calls heads rows c kind member b → a ≡ b
  one_calls c kind member a b p q = p.is ∙ ap Call (one_call c kind member p.call q.call p.made q.made) ∙ sym q.is

  module _ (c : ℕ) (pool : Table) (i : RawInstr) (before : Option KindState) where
    one_operates : (b : Behaviour) (x y : Op) → OperatesAs heads rows c pool i before b x → OperatesAs heads rows c pool i before b y → x ≡ y
    one_operates (does.Access GetStatic) x y p q = one_access heads field_law (member_in pool i) _ _ reading x y p q
    one_operates (does.Access PutStatic) x y p q = one_write heads field_law (member_in pool i) _ x y p q
    one_operates (does.Access GetField) x y p q = one_access heads field_law (member_in pool i) _ _ reading x y p q
    one_operates (does.Access PutField) x y p q = one_access heads field_law (member_in pool i) _ _ reading x y p q
    one_operates (does.Invoke how) x y p q = one_calls c _ (member_in pool i) x y p q
    one_operates b x y p q = p ∙ sym q

    -- an instruction has one operation
    pub one_operation : (x y : Op) → IsOperation heads rows c pool i before x → IsOperation heads rows c pool i before y → x ≡ y
    one_operation x y p q =
        let same : p.behaviour ≡ q.behaviour = same_some (behaviour_at i.opcode) p.behaviour q.behaviour p.opcode q.opcode in
        one_operates p.behaviour x y p.operates (subst (λ (b : Behaviour). OperatesAs heads rows c pool i before b y) (sym same) q.operates)

    call_right : (member : MemberRef) (kind : CallKind) (op : Op) (fault : OpFault) → Calls heads rows c kind member op → RefusesCall heads c kind member fault → ⊥
    call_right member kind op fault p (reflection e) = let no : true ≡ false = sym e ∙ p.made.no_reflection in cc no
    call_right member kind op fault p (thread_start e s) = p.made.no_thread s

    not_refused : (b : Behaviour) (op : Op) (fault : OpFault) → OperatesAs heads rows c pool i before b op → Refuses heads c pool i b fault → ⊥
    not_refused (does.Access GetStatic) op fault p q = access_right heads field_law (member_in pool i) _ _ op fault p q
    not_refused (does.Access PutStatic) op fault p q = write_right heads field_law (member_in pool i) _ op fault p q
    not_refused (does.Access GetField) op fault p q = access_right heads field_law (member_in pool i) _ _ op fault p q
    not_refused (does.Access PutField) op fault p q = access_right heads field_law (member_in pool i) _ _ op fault p q
    not_refused (does.Invoke how) op fault p q = call_right (member_in pool i) _ op fault p q
    not_refused b op fault p q = q

    -- an instruction with an operation is not refused
    pub not_both : (op : Op) (fault : OpFault) → IsOperation heads rows c pool i before op → IsRefusedFor heads c pool i fault → ⊥
    not_both op fault p q =
        let same : p.behaviour ≡ q.behaviour = same_some (behaviour_at i.opcode) p.behaviour q.behaviour p.opcode q.opcode in
        not_refused p.behaviour op fault p.operates (subst (λ (b : Behaviour). Refuses heads c pool i b fault) (sym same) q.refuses)

  one_refused_call : (c : ℕ) (kind : CallKind) (member : MemberRef) (a b : OpFault) → RefusesCall heads c kind member a → RefusesCall heads c kind member b → a ≡ b
  one_refused_call c kind member a b (reflection e) (reflection f) = refl
  one_refused_call c kind member a b (reflection e) (thread_start f s) = let no : true ≡ false = sym e ∙ f in absurd (cc no)
  one_refused_call c kind member a b (thread_start e s) (reflection f) = let no : true ≡ false = sym f ∙ e in absurd (cc no)
  one_refused_call c kind member a b (thread_start e s) (thread_start f t) = refl

  module _ (c : ℕ) (pool : Table) (i : RawInstr) where
    one_refuses : (b : Behaviour) (x y : OpFault) → Refuses heads c pool i b x → Refuses heads c pool i b y → x ≡ y
    one_refuses (does.Access GetStatic) x y p q = one_refused_access heads field_law (member_in pool i) x y p q
    one_refuses (does.Access PutStatic) x y p q = one_refused_store heads field_law (member_in pool i) x y p q
    one_refuses (does.Access GetField) x y p q = one_refused_access heads field_law (member_in pool i) x y p q
    one_refuses (does.Access PutField) x y p q = one_refused_access heads field_law (member_in pool i) x y p q
    one_refuses (does.Invoke how) x y p q = one_refused_call c (call_kind how) (member_in pool i) x y p q
    one_refuses b x y p q = absurd p

    -- an instruction has one refusal
    pub one_refusal : (x y : OpFault) → IsRefusedFor heads c pool i x → IsRefusedFor heads c pool i y → x ≡ y
    one_refusal x y p q =
        let same : p.behaviour ≡ q.behaviour = same_some (behaviour_at i.opcode) p.behaviour q.behaviour p.opcode q.opcode in
        one_refuses p.behaviour x y p.refuses (subst (λ (b : Behaviour). Refuses heads c pool i b y) (sym same) q.refuses)
