-- A method has at most one answer.
use Rattle.std.proofs.Common.{◌≡◌, ℕ, suc, inl, inr, false, List, [], ◌∷◌, length, Option, Some, None, refl, sym, ap, subst, ◌∙◌, arith}
use Rattle.std.specs.Prelude.{slice_get}
use Rattle.std.proofs.lemmas.Bool.{cases_lt}
use Rattle.std.proofs.lemmas.Option.{slice_get_within}
use Rattle.ja_base.specs.declared.java_type.Desc.{Desc}
use Rattle.ja_base.specs.declared.java_type.JavaType.{JavaType}
use Rattle.ja_base.specs.Descriptor.{AreTypes, IsMethod, words_of_all}
use Rattle.ja_pool.specs.Table.{Table}
use Rattle.ja_code.specs.declared.instr.RawInstr.{RawInstr}
use Rattle.ja_code.specs.declared.code.Code.{Code}
use Rattle.ja_ir.specs.declared.head.ClassHead.{ClassHead}
use Rattle.ja_ir.specs.declared.head.HeadMethod.{HeadMethod}
use Rattle.ja_ir.specs.declared.method.Method.{Method}
use Rattle.ja_ir.specs.declared.method.Instr.{Instr}
use Rattle.ja_ir.specs.declared.method.Handler.{Handler}
use Rattle.ja_ir.specs.declared.op.Op.{Op}
use Rattle.ja_class.specs.declared.class.ClassMethod.{ClassMethod}
use Rattle.ja_class.specs.Meaning.{ClassSpelled}
use Rattle.ja_lib.specs.Content.{Content}
use Rattle.ja_kinds.specs.declared.fault.KindFault.{KindFault}
use Rattle.ja_kinds.specs.declared.state.KindState.{KindState}
use Rattle.ja_kinds.specs.Answer.{AreKindsOf, IsFaultOf}
use Rattle.ja_operations.specs.declared.fault.OpFault.{OpFault}
use Rattle.ja_operations.specs.Operation.{IsOperation}
use Rattle.ja_operations.specs.Refused.{IsRefusedFor}
use Rattle.ja_methods.specs.declared.fault.MethodFault.{MethodFault}
use Rattle.ja_methods.specs.Method.{state_before, is_native, AreInstrsOf, HasContent, IsCodeOf, IsMethodOf}
use Rattle.ja_methods.specs.Refusal.{kind_refusal, instr_refusal, IsFirstRefusal, IsCodeRefused, IsRefused}
use Rattle.ja_methods.proofs.InstrSteps.{same-item}
use Rattle.ja_methods.proofs.Reaches.{Found, found}

-- lists with the same items are one
list-ext : {X : Type 0} (xs ys : List X) → length xs ≡ length ys → ((k : ℕ) (x y : X) → slice_get xs k ≡ Some x → slice_get ys k ≡ Some y → x ≡ y) → xs ≡ ys
list-ext [] [] e each = refl
list-ext [] (y ∷ ys) e each = absurd (omega arith)
list-ext (x ∷ xs) [] e each = absurd (omega arith)
list-ext (x ∷ xs) (y ∷ ys) e each =
    let first : x ≡ y = each 0 x y refl refl in
    let others : xs ≡ ys = list-ext xs ys (omega arith) (λ k a b p q. each (suc k) a b p q) in
    λ i. (first i) ∷ (others i)

-- what the laws below say
abbrev pub OneKinds : Type 0
OneKinds = (class : ClassSpelled) (m : ℕ) (kinds others : List (Option KindState)) → AreKindsOf class m kinds → AreKindsOf class m others → kinds ≡ others

abbrev pub OneKindFault : Type 0
OneKindFault = (class : ClassSpelled) (m : ℕ) (fault other : KindFault) → IsFaultOf class m fault → IsFaultOf class m other → fault ≡ other

abbrev pub KindsOrFault : Type 0
KindsOrFault = (class : ClassSpelled) (m : ℕ) (kinds : List (Option KindState)) (fault : KindFault) → AreKindsOf class m kinds → IsFaultOf class m fault → ⊥

abbrev pub OneOperation : Type 0
OneOperation =
    (heads : List ClassHead) (rows : Content) (c : ℕ) (pool : Table) (i : RawInstr) (before : Option KindState) (op other : Op)
    → IsOperation heads rows c pool i before op → IsOperation heads rows c pool i before other → op ≡ other

abbrev pub OperationOrRefusal : Type 0
OperationOrRefusal =
    (heads : List ClassHead) (rows : Content) (c : ℕ) (pool : Table) (i : RawInstr) (before : Option KindState) (op : Op) (fault : OpFault)
    → IsOperation heads rows c pool i before op → IsRefusedFor heads c pool i fault → ⊥

abbrev pub OneRefusal : Type 0
OneRefusal = (heads : List ClassHead) (c : ℕ) (pool : Table) (i : RawInstr) (fault other : OpFault) → IsRefusedFor heads c pool i fault → IsRefusedFor heads c pool i other → fault ≡ other

same-instr : (a b : Instr) → a.pc ≡ b.pc → a.op ≡ b.op → a.next ≡ b.next → a.height ≡ b.height → a.reached ≡ b.reached → a ≡ b
same-instr a b p o n h r = λ i. record { pc = p i; op = o i; next = n i; height = h i; reached = r i }

same-method : (a b : Method) → a.class.0 ≡ b.class.0 → a.name ≡ b.name → a.desc ≡ b.desc → a.types ≡ b.types → a.flags ≡ b.flags → a.locals ≡ b.locals → a.stack ≡ b.stack → a.code ≡ b.code → a.handlers ≡ b.handlers → a ≡ b
same-method a b c n d t f l s e h = λ i. record {
  class = record { 0 = c i };
  name = n i;
  desc = d i;
  types = t i;
  flags = f i;
  locals = l i;
  stack = s i;
  code = e i;
  handlers = h i;
}

one-instrs : OneOperation → (heads : List ClassHead) (rows : Content) (c : ℕ) (pool : Table) (instrs : List RawInstr) (kinds : List (Option KindState)) (list other : List Instr)
    → AreInstrsOf heads rows c pool instrs kinds list → AreInstrsOf heads rows c pool instrs kinds other → list ≡ other
one-instrs one heads rows c pool instrs kinds list other p q =
    list-ext list other (p.size ∙ sym q.size) (λ k a b at there.
    let raw : Found instrs k = found instrs k (omega (arith, p.size, slice_get_within list k a at)) in
    let x = p.each k raw.item a raw.at at in
    let y = q.each k raw.item b raw.at there in
    same-instr a b (x.pc_is ∙ sym y.pc_is) (one heads rows c pool raw.item (state_before kinds k) a.op b.op x.operation y.operation) (x.next_is ∙ sym y.next_is) (x.height_is ∙ sym y.height_is) (x.reached_is ∙ sym y.reached_is))

record Same (list other : List Instr) (handlers others : List Handler) : Type 0 where
  code : list ≡ other
  table : handlers ≡ others

one-content : OneKinds → OneOperation → (heads : List ClassHead) (rows : Content) (class : ClassSpelled) (c m : ℕ) (o : Option Code) (list other : List Instr) (handlers others : List Handler)
    → HasContent heads rows class c m o list handlers → HasContent heads rows class c m o other others → Same list other handlers others
one-content kinds one heads table class c m None list other handlers others p q = record { code = p.0 ∙ sym q.0; table = p.1 ∙ sym q.1 }
one-content kinds one heads rows class c m (Some code) list other handlers others p q =
    let same : q.kinds ≡ p.kinds = kinds class m q.kinds p.kinds q.are_kinds p.are_kinds in
    record {
      code = one-instrs one heads rows c class.pool code.instrs p.kinds list other p.instrs
          (subst (λ (ks : List (Option KindState)). AreInstrsOf heads rows c class.pool code.instrs ks other) same q.instrs);
      table = p.handlers_are ∙ sym q.handlers_are;
    }

-- what a descriptor spells is one
abbrev pub OneReading : Type 0
OneReading =
    (text : List ℕ) (params others : List JavaType) (result other : Option JavaType)
    → IsMethod text params result → IsMethod text others other → (params ≡ others) × (result ≡ other)

one-types : OneReading → (text other : List ℕ) (a b : Desc) → text ≡ other → AreTypes text a → AreTypes other b → a ≡ b
one-types reading text other a b e p q =
    let both : (a.params ≡ b.params) × (a.result ≡ b.result) =
    reading other a.params b.params a.result b.result (subst (λ (t : List ℕ). IsMethod t a.params a.result) e p.spelled) q.spelled in
    let words : a.words ≡ b.words = p.words ∙ ap words_of_all both.0 ∙ sym q.words in
    λ i. record { params = both.0 i; result = both.1 i; words = words i }

-- a class has one method of a number
pub one-method : OneKinds → OneOperation → OneReading → (heads : List ClassHead) (rows : Content) (class : ClassSpelled) (c m : ℕ) (a b : Method) → IsMethodOf heads rows class c m a → IsMethodOf heads rows class c m b → a ≡ b
one-method kinds one reading heads rows class c m a b p q =
    let head : p.head ≡ q.head = same-item class.head.methods m m p.head q.head refl p.declared.head_at q.declared.head_at in
    let body : p.body ≡ q.body = same-item class.methods m m p.body q.body refl p.declared.body_at q.declared.body_at in
    let content : Same a.code b.code a.handlers b.handlers =
    one-content kinds one heads rows class c m q.body.code a.code b.code a.handlers b.handlers
    (subst (λ (x : ClassMethod). HasContent heads rows class c m x.code a.code a.handlers) body p.content) q.content in
    same-method a b (p.class_is ∙ sym q.class_is) (p.name_is ∙ ap (λ (h : HeadMethod). h.name) head ∙ sym q.name_is) (p.desc_is ∙ ap (λ (h : HeadMethod). h.desc) head ∙ sym q.desc_is)
    (one-types reading p.head.desc q.head.desc a.types b.types (ap (λ (h : HeadMethod). h.desc) head) p.types_are q.types_are)
    (p.flags_are ∙ ap (λ (h : HeadMethod). h.flags) head ∙ sym q.flags_are) (p.locals_are ∙ ap (λ (x : ClassMethod). x.max_locals) body ∙ sym q.locals_are)
    (p.stack_is ∙ ap (λ (x : ClassMethod). x.max_stack) body ∙ sym q.stack_is) content.code content.table

-- ---- refusals

one-code : (class : ClassSpelled) (m : ℕ) (a b : Code) → IsCodeOf class m a → IsCodeOf class m b → a ≡ b
one-code class m a b p q =
    let body : p.body ≡ q.body = same-item class.methods m m p.body q.body refl p.body_at q.body_at in
    let both : Some a ≡ Some b = sym p.code_is ∙ ap (λ (x : ClassMethod). x.code) body ∙ q.code_is in
    cc

one-first : OneRefusal → (heads : List ClassHead) (c : ℕ) (pool : Table) (instrs : List RawInstr) (x y : MethodFault) → IsFirstRefusal heads c pool instrs x → IsFirstRefusal heads c pool instrs y → x ≡ y
one-first one heads c pool instrs x y p q = elim (cases_lt p.k q.k) [
  | inl lt ↦ absurd (q.before p.k p.raw lt p.at p.is.fault p.is.refused)
  | inr ge ↦ elim (cases_lt q.k p.k) [
    | inl lt ↦ absurd (p.before q.k q.raw lt q.at q.is.fault q.is.refused)
    | inr le ↦
        let raw : p.raw ≡ q.raw = same-item instrs p.k q.k p.raw q.raw (omega arith) p.at q.at in
        let fault : p.is.fault ≡ q.is.fault = one heads c pool q.raw p.is.fault q.is.fault (subst (λ (i : RawInstr). IsRefusedFor heads c pool i p.is.fault) raw p.is.refused) q.is.refused in
        p.is.is ∙ ap (λ (i : RawInstr). instr_refusal i.pc p.is.fault) raw ∙ ap (instr_refusal q.raw.pc) fault ∙ sym q.is.is
  ]
]

one-code-refusal : OneKindFault → KindsOrFault → OneRefusal → (heads : List ClassHead) (class : ClassSpelled) (c m : ℕ) (x y : MethodFault) → IsCodeRefused heads class c m x → IsCodeRefused heads class c m y → x ≡ y
one-code-refusal fault either one heads class c m x y (IsCodeRefused.kinds f p) (IsCodeRefused.kinds g q) = ap kind_refusal (fault class m f g p q)
one-code-refusal fault either one heads class c m x y (IsCodeRefused.kinds f p) (IsCodeRefused.instruction {code} {refusal} of ks are first) = absurd (either class m ks f are p)
one-code-refusal fault either one heads class c m x y (IsCodeRefused.instruction {code} {refusal} of ks are first) (IsCodeRefused.kinds g q) = absurd (either class m ks g are q)
one-code-refusal fault either one heads class c m x y (IsCodeRefused.instruction {code = a} {refusal = r} of ks are first) (IsCodeRefused.instruction {code = b} {refusal = s} of' ls are' first') =
    let same : a ≡ b = one-code class m a b of of' in
    one-first one heads c class.pool b.instrs x y (subst (λ (z : Code). IsFirstRefusal heads c class.pool z.instrs x) same first) first'

-- a method has one refusal
pub one-refusal : OneKindFault → KindsOrFault → OneRefusal → (heads : List ClassHead) (class : ClassSpelled) (c m : ℕ) (x y : MethodFault) → IsRefused heads class c m x → IsRefused heads class c m y → x ≡ y
one-refusal fault either one heads class c m x y (IsRefused.native {head = g} a n) (IsRefused.native {head = h} b o) = refl
one-refusal fault either one heads class c m x y (IsRefused.native {head = g} a n) (IsRefused.coded {head = h} b o is) =
    let head : g ≡ h = same-item class.head.methods m m g h refl a b in
    let flags : is_native g.flags ≡ is_native h.flags = ap (λ (z : HeadMethod). is_native z.flags) head in
    absurd (cc)
one-refusal fault either one heads class c m x y (IsRefused.coded {head = g} a n is) (IsRefused.native {head = h} b o) =
    let head : g ≡ h = same-item class.head.methods m m g h refl a b in
    let flags : is_native g.flags ≡ is_native h.flags = ap (λ (z : HeadMethod). is_native z.flags) head in
    absurd (cc)
one-refusal fault either one heads class c m x y (IsRefused.coded {head = g} a n is) (IsRefused.coded {head = h} b o is') = one-code-refusal fault either one heads class c m x y is is'

-- ---- a method that is answered is not refused

code-taken : KindsOrFault → OperationOrRefusal → (heads : List ClassHead) (rows : Content) (class : ClassSpelled) (c m : ℕ) (body : ClassMethod) (o : Option Code) (list : List Instr) (handlers : List Handler) (x : MethodFault)
    → slice_get class.methods m ≡ Some body → body.code ≡ o → HasContent heads rows class c m o list handlers → IsCodeRefused heads class c m x → ⊥
code-taken either one heads rows class c m body None list handlers x at e has (IsCodeRefused.kinds f p) =
    let same : p.has_frame.method ≡ body = same-item class.methods m m p.has_frame.method body refl p.has_frame.method_at at in
    let none : None ≡ Some p.code = sym e ∙ ap (λ (b : ClassMethod). b.code) (sym same) ∙ p.has_frame.code_is in
    cc
code-taken either one heads rows class c m body None list handlers x at e has (IsCodeRefused.instruction {code} of ks are first) =
    let same : of.body ≡ body = same-item class.methods m m of.body body refl of.body_at at in
    let none : None ≡ Some code = sym e ∙ ap (λ (b : ClassMethod). b.code) (sym same) ∙ of.code_is in
    cc
code-taken either one heads rows class c m body (Some code) list handlers x at e has (IsCodeRefused.kinds f p) = either class m has.kinds f has.are_kinds p
code-taken either one heads rows class c m body (Some code) list handlers x at e has (IsCodeRefused.instruction {code = other} of ks are first) =
    let same : other ≡ code = one-code class m other code of (record { body = body; body_at = at; code_is = e }) in
    let here : slice_get code.instrs first.k ≡ Some first.raw = subst (λ (z : Code). slice_get z.instrs first.k ≡ Some first.raw) same first.at in
    let instr : Found list first.k = found list first.k (omega (arith, has.instrs.size, slice_get_within code.instrs first.k first.raw here)) in
    one heads rows c class.pool first.raw (state_before has.kinds first.k) instr.item.op first.is.fault (has.instrs.each first.k first.raw instr.item here instr.at).operation first.is.refused

pub not-both : KindsOrFault → OperationOrRefusal → (heads : List ClassHead) (rows : Content) (class : ClassSpelled) (c m : ℕ) (method : Method) (x : MethodFault) → IsMethodOf heads rows class c m method
    → IsRefused heads class c m x → ⊥
not-both either one heads rows class c m method x is (IsRefused.native {head} at n) =
    let same : head ≡ is.head = same-item class.head.methods m m head is.head refl at is.declared.head_at in
    let flags : is_native head.flags ≡ is_native is.head.flags = ap (λ (z : HeadMethod). is_native z.flags) same in
    let off : is_native is.head.flags ≡ false = is.not_native in
    cc
not-both either one heads rows class c m method x is (IsRefused.coded {head} at n refused) =
    code-taken either one heads rows class c m is.body is.body.code method.code method.handlers x is.declared.body_at refl is.content refused
