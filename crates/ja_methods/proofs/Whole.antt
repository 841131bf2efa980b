-- Methods of a class of the profile are whole.
use Rattle.std.proofs.Common.{◌≡◌, ℕ, suc, ◌+◌, ◌<◌, ◌≤◌, Bool, true, false, ◌&&◌, not, cond, eqb, List, [], ◌∷◌, length, map, get_or, Option, Some, None, refl, sym, ap, subst, ◌∙◌, arith}
use Rattle.std.specs.Prelude.{All, slice_get, option_map, bit_and, bytes_eq}
use Rattle.std.specs.List.{flat_map}
use Rattle.std.proofs.lemmas.Option.{slice_get_within, slice_get-get_or}
use Rattle.std.proofs.lemmas.List.{length-append}
use Rattle.std.proofs.lemmas.List.Elements.{All-append}
use Rattle.std.proofs.lemmas.List.Quantifiers.{position-Some}
use Rattle.std.proofs.lemmas.List.Sums.{prefix_len-le-length, sum_by-cons}
use Rattle.ja_base.specs.Kind.{words_of}
use Rattle.ja_base.specs.Descriptor.{AreTypes, IsMethod, words_of_all}
use Rattle.ja_base.specs.declared.java_type.Desc.{Desc}
use Rattle.ja_base.specs.declared.java_type.Kind.{Kind}
use Rattle.ja_base.specs.declared.java_type.Kind.TheVariants.{P1, P2, R, T}
use Rattle.ja_base.specs.declared.java_type.JavaType.{JavaType}
use Rattle.ja_pool.specs.Table.{tags_of, dims_of, class_name_at}
use Rattle.ja_code.specs.declared.instr.RawInstr.{RawInstr}
use Rattle.ja_code.specs.declared.code.Code.{Code}
use Rattle.ja_code.specs.Grammar as grammar
use Rattle.ja_ir.specs.declared.head.ClassHead.{ClassHead}
use Rattle.ja_ir.specs.declared.head.HeadMethod.{HeadMethod}
use Rattle.ja_ir.specs.declared.method.Method.{Method}
use Rattle.ja_ir.specs.declared.method.Instr.{Instr}
use Rattle.ja_ir.specs.declared.method.Handler.{Handler}
use Rattle.ja_ir.specs.declared.op.Op.{Op}
use Rattle.ja_ir.specs.declared.op.Op.TheVariants as ops
use Rattle.ja_ir.specs.Lookup.{is_abstract, is_member, is_static}
use Rattle.ja_ir.specs.Operations.{count_of}
use Rattle.ja_ir.specs.Whole.{ReturnsAs, Starts, IsReachedAt}
use Rattle.ja_class.specs.declared.class.ClassMethod.{ClassMethod}
use Rattle.ja_class.specs.Meaning.{ClassSpelled}
use Rattle.ja_class.specs.ClassFile.{IsSpelled}
use Rattle.ja_lib.specs.Content.{Content, IsCategorized}
use Rattle.ja_supertypes.specs.Supertypes.{class_named, names_of}
use Rattle.ja_code.specs.declared.behaviour.Behaviour.{Behaviour}
use Rattle.ja_code.specs.Behaviour.{behaviour_at, goes_on}
use Rattle.ja_kinds.specs.Frame.{filled, parameter_words, words}
use Rattle.ja_kinds.specs.Effect.{kind_of_type, targets_of, may_return, IsOneOf}
use Rattle.ja_kinds.specs.Answer.{parameter_kinds}
use Rattle.ja_kinds.specs.Reached.{StartsAt, AreReached}
use Rattle.ja_kinds.proofs.Reached.{all_reached}
use Rattle.ja_kinds.proofs.Starts.{started, target_starts}
use Rattle.ja_kinds.proofs.Opcodes.{branches_are}
use Rattle.ja_operations.specs.Agreement.{OperationsAgree, OperationsEnd, ReturnsAgree, OperationsAreSound, RowsAreAbout, IsSound, IsRowAbout}
use Rattle.ja_methods.specs.Places.{index_of, is_at_or_past, following, next_by}
use Rattle.ja_methods.specs.Handlers.{caught, catch_of, handler_of}
use Rattle.ja_methods.specs.Method.{is_native, IsCodeOf, HasContent, HasInstrs, IsMethodOf}
use Rattle.ja_methods.specs.Whole.{NamesOneOf, LiesWithin, IsWholeIn}
use Rattle.ja_methods.proofs.Chain.{index-at}
use Rattle.ja_methods.proofs.InstrSteps.{same-item}
use Rattle.ja_methods.proofs.OneMethod.{OneReading}
use Rattle.ja_methods.proofs.Profile.{IsRight, decoded, rows-right, codes-need, none-need, none-frame, method-desc}
use Rattle.ja_methods.proofs.Coded.{code-chain}
use Rattle.ja_methods.proofs.Heights.{frame-small}
use Rattle.ja_methods.proofs.Reaches.{At, Found, IsCoded, place-of, one-at, all-map, all-following, decoded-at, first-reached, runs, returns-kind}

-- ---- a method with code

coded-of : (heads : List ClassHead) (rows : Content) (class : ClassSpelled) → IsSpelled class → (c m : ℕ) (method : Method) (is : IsMethodOf heads rows class c m method) (code : Code)
    → is.body.code ≡ Some code → IsCoded heads rows class c m method
coded-of heads rows class spelled c m method is code e =
    let has : HasInstrs heads rows class c m code method.code method.handlers = subst (λ (o : Option Code). HasContent heads rows class c m o method.code method.handlers) e is.content in
    let are = has.are_kinds in
    let body : are.has_frame.method ≡ is.body = same-item class.methods m m are.has_frame.method is.body refl are.has_frame.method_at is.declared.body_at in
    let both : Some are.code ≡ Some code = sym are.has_frame.code_is ∙ ap (λ (b : ClassMethod). b.code) body ∙ e in
    let same : are.code ≡ code = cc in
    let code-of : IsCodeOf class m are.code = record { body = are.has_frame.method; body_at = are.has_frame.method_at; code_is = are.has_frame.code_is } in
    record {
      kinds = has.kinds;
      are = are;
      decoded = decoded class spelled m are.code code-of;
      instrs = subst (λ (x : Code). Rattle.ja_methods.specs.Method.AreInstrsOf heads rows c class.pool x.instrs has.kinds method.code) (sym same) has.instrs;
      handlers_are = has.handlers_are ∙ ap (λ (x : Code). Rattle.ja_methods.specs.Handlers.handlers_of heads class.pool x.instrs x.handlers) (sym same);
      locals_are = is.locals_are ∙ ap (λ (b : ClassMethod). b.max_locals) (sym body) ∙ sym are.has_frame.is.locals;
      stack_is = is.stack_is ∙ ap (λ (b : ClassMethod). b.max_stack) (sym body) ∙ sym are.has_frame.is.stack;
    }

-- ---- words

length-filled : (k : Kind) → length (filled k) ≡ words_of k
length-filled P1 = refl
length-filled P2 = refl
length-filled R = refl
length-filled T = refl

length-words : (ks : List Kind) → length (flat_map filled ks) ≡ words ks
length-words [] = refl
length-words (k ∷ ks) = length-append (filled k) (flat_map filled ks) ∙ omega (arith, length-filled k, length-words ks, sum_by-cons words_of k ks)

words-of-types : (types : List JavaType) → words (map kind_of_type types) ≡ words_of_all types
words-of-types [] = refl
words-of-types (t ∷ types) = sum_by-cons words_of t.kind (map kind_of_type types) ∙ omega (arith, words-of-types types, sum_by-cons (λ (u : JavaType). words_of u.kind) t types)

parameter-room : (flags : ℕ) (params : List JavaType) → length (parameter_words (parameter_kinds flags params)) ≡ count_of (is_member flags) + words_of_all params
parameter-room flags params = pick (is_static flags)
  where
    pick : (b : Bool) → length (flat_map filled (cond b (map kind_of_type params) (R ∷ map kind_of_type params))) ≡ count_of (not b) + words_of_all params
    pick true = length-words (map kind_of_type params) ∙ words-of-types params ∙ omega arith
    pick false = length-words (R ∷ map kind_of_type params) ∙ sum_by-cons words_of R (map kind_of_type params) ∙ omega (arith, words-of-types params)

-- ---- flags

flags-tell : (a b : Bool) → not b ≡ false → (a && b) ≡ true → not a ≡ false
flags-tell true b off e = refl
flags-tell false b off e = absurd (cc)

flags-none : (a b : Bool) → not b ≡ false → (a && b) ≡ false → not a ≡ false → ⊥
flags-none true true off e g = absurd (cc)
flags-none true false off e g = absurd (cc)
flags-none false b off e g = absurd (cc)

-- ---- returns

returns-as : (result : Option JavaType) (op : Op) → ((kind : Option Kind) → op ≡ ops.Return kind → may_return (option_map kind_of_type result) kind ≡ true) → ReturnsAs result op
returns-as None (ops.Return None) may = refl
returns-as (Some t) (ops.Return None) may = (let e : false ≡ true = may None refl in absurd (cc))
returns-as None (ops.Return (Some k)) may = (let e : false ≡ true = may (Some k) refl in absurd (cc))
returns-as (Some t) (ops.Return (Some k)) may = (t, refl)
returns-as result op may = tt

-- ---- types

same-types : OneReading → (text other : List ℕ) (types : Desc) (params : List JavaType) (result : Option JavaType) → text ≡ other → AreTypes text types → IsMethod other params result
    → (params ≡ types.params) × (result ≡ types.result)
same-types reading text other types params result e are spelled =
    reading text params types.params result types.result (subst (λ (t : List ℕ). IsMethod t params result) (sym e) spelled) are.spelled

-- ---- a class that is caught

caught-one : (heads : List ClassHead) (o : Option ℕ) → ((c : ℕ) → o ≡ Some c → c < length heads) → NamesOneOf heads (caught o)
caught-one heads None in' = tt
caught-one heads (Some c) in' = in' c refl

length-names : (heads : List ClassHead) → length (names_of heads) ≡ length heads
length-names [] = refl
length-names (h ∷ heads) = ap suc (length-names heads)

class-in : (heads : List ClassHead) (name : List ℕ) (c : ℕ) → class_named heads name ≡ Some c → c < length heads
class-in heads name c e = omega (arith, (position-Some (bytes_eq name) (names_of heads) c [] e).0, length-names heads)

module _ (heads : List ClassHead) (rows : Content) (class : ClassSpelled) (spelled : IsSpelled class) (c m : ℕ) (method : Method) (is : IsCoded heads rows class c m method) where
  -- the place of an instruction has an index
  start-index : (place : ℕ) → StartsAt is.are.code.instrs place → index_of is.are.code.instrs place < length method.code
  start-index place s =
      let p : At is.are.code.instrs s.instr = place-of is.are.code.instrs s.instr s.there in
      let e : index_of is.are.code.instrs place ≡ p.k = ap (index_of is.are.code.instrs) (sym s.at) ∙ index-at 0 (length is.decoded.bytes) is.are.code.instrs (code-chain class.pool is.are.code is.decoded) p.k s.instr p.at in
      omega (arith, e, slice_get_within is.are.code.instrs p.k s.instr p.at, is.instrs.size)

  next-in : (k : ℕ) (raw : RawInstr) → IsOneOf raw is.are.code.instrs → (o : Option Behaviour) → behaviour_at raw.opcode ≡ o → All (λ j. j < length method.code) (next_by is.are.code.instrs k raw o)
  next-in k raw listed None e j d lt = absurd (omega arith)
  next-in k raw listed (Some b) e j d lt =
      let P : ℕ → Type 0 = λ j. j < length method.code in
      let same : targets_of b raw ≡ grammar.targets raw = ap (λ (t : Bool). cond t raw.operands []) (branches_are raw.opcode b e) in
      All-append P (map (index_of is.are.code.instrs) (targets_of b raw)) (following (goes_on b) k (length is.are.code.instrs))
      (all-map P (index_of is.are.code.instrs) (targets_of b raw) (λ place target.
      start-index place (target_starts is.decoded.bytes (tags_of class.pool) (dims_of class.pool) is.are.code.handlers is.are.code is.decoded.spells raw place listed (subst (λ (ps : List ℕ). IsOneOf place ps) same target))))
      (all-following P (goes_on b) k (length is.are.code.instrs) (λ goes more. omega (arith, more, is.instrs.size))) j d lt

  next-stays : All (λ (instr : Instr). All (λ j. j < length method.code) instr.next) method.code
  next-stays k d lt =
      let instr : Instr = get_or method.code k d in
      let here : slice_get method.code k ≡ Some instr = slice_get-get_or method.code k d lt in
      let raw : Found is.are.code.instrs k = decoded-at heads rows class spelled c m method is k instr here in
      subst (λ (l : List ℕ). All (λ j. j < length method.code) l) (sym (is.instrs.each k raw.item instr raw.at here).next_is)
      (next-in k raw.item (one-at is.are.code.instrs k raw.item raw.at) (behaviour_at raw.item.opcode) refl)

  handlers-lie : All (LiesWithin heads (length method.code)) method.handlers
  handlers-lie =
      subst (λ (list : List Handler). All (LiesWithin heads (length method.code)) list) (sym is.handlers_are)
      (all-map (LiesWithin heads (length method.code)) (handler_of heads class.pool is.are.code.instrs) is.are.code.handlers (λ row listed.
      let at : At is.are.code.handlers row = place-of is.are.code.handlers row listed in
      let right : IsRight class.pool is.are.code.instrs (length is.decoded.bytes) row = rows-right class.pool is.are.code is.decoded at.k row at.at in
      record {
        start = start-index row.start (started is.are.code.instrs row.start right.start);
        end = omega (arith, prefix_len-le-length (λ (i : RawInstr). not (is_at_or_past row.end i)) is.are.code.instrs, is.instrs.size);
        target = start-index row.handler (started is.are.code.instrs row.handler right.handler);
        class = pick (eqb row.catch_type 0) (class_named heads (class_name_at class.pool row.catch_type)) (λ k e. class-in heads (class_name_at class.pool row.catch_type) k e);
      }))
    where
      pick : (b : Bool) (o : Option ℕ) → ((k : ℕ) → o ≡ Some k → k < length heads) → NamesOneOf heads (cond b Rattle.ja_ir.specs.declared.method.Catch.TheVariants.All (caught o))
      pick true o in' = tt
      pick false o in' = caught-one heads o in'

  module _ (sound : OperationsAreSound) (returns : ReturnsAgree) where
    all-sound : All (λ (instr : Instr). IsSound heads instr.op) method.code
    all-sound k d lt =
        let instr : Instr = get_or method.code k d in
        let here : slice_get method.code k ≡ Some instr = slice_get-get_or method.code k d lt in
        let raw : Found is.are.code.instrs k = decoded-at heads rows class spelled c m method is k instr here in
        sound heads rows c class.pool raw.item instr.op _ (is.instrs.each k raw.item instr raw.at here).operation

    all-return : (result : Option JavaType) → is.are.has_frame.is.result ≡ result → All (λ (instr : Instr). instr.reached ≡ true → ReturnsAs result instr.op) method.code
    all-return result e k d lt on =
        let instr : Instr = get_or method.code k d in
        let here : slice_get method.code k ≡ Some instr = slice_get-get_or method.code k d lt in
        let frame = is.are.has_frame.is in
        subst (λ (r : Option JavaType). ReturnsAs r instr.op) e (returns-as frame.result instr.op
        (λ kind op. subst (λ (r : Option Kind). may_return r kind ≡ true) frame.returns (returns-kind heads rows class spelled c m method is returns k instr here on kind op)))

  module _ (about : RowsAreAbout) (categorized : IsCategorized rows) where
    all-about : All (λ (instr : Instr). IsRowAbout rows.categories instr.op) method.code
    all-about k d lt =
        let instr : Instr = get_or method.code k d in
        let here : slice_get method.code k ≡ Some instr = slice_get-get_or method.code k d lt in
        let raw : Found is.are.code.instrs k = decoded-at heads rows class spelled c m method is k instr here in
        about heads rows categorized c class.pool raw.item instr.op _ (is.instrs.each k raw.item instr raw.at here).operation

  -- it can begin
  starts : (head : HeadMethod) → is.are.has_frame.head ≡ head → is.are.has_frame.is.params ≡ method.types.params → method.flags ≡ head.flags → Starts method
  starts head same params flags =
      let frame = is.are.has_frame.is in
      let reached : AreReached class.pool is.are.code is.are.frame is.are.at = all_reached class spelled m is.are.code is.are.frame is.are.has_frame is.are.at is.are.are in
      let flags-are : is.are.has_frame.head.flags ≡ method.flags = ap (λ (h : HeadMethod). h.flags) same ∙ sym flags in
      let fits : length (parameter_words (parameter_kinds method.flags frame.params)) ≤ is.are.frame.max_locals =
      subst (λ (n : ℕ). length (parameter_words (parameter_kinds n frame.params)) ≤ is.are.frame.max_locals) flags-are
      (subst (λ (ks : List Kind). length (parameter_words ks) ≤ is.are.frame.max_locals) frame.parameters reached.parameters) in
      record {
        room = omega (arith, fits, parameter-room method.flags frame.params, is.locals_are, ap words_of_all params);
        first = first-reached heads rows class spelled c m method is;
      }

-- ---- each method

module _ (agree : OperationsAgree) (ends : OperationsEnd) (returns : ReturnsAgree) (sound : OperationsAreSound) (reading : OneReading)
    (heads : List ClassHead) (rows : Content) (class : ClassSpelled) (spelled : IsSpelled class) (c m : ℕ) (method : Method) (is : IsMethodOf heads rows class c m method) where
  spells : AreTypes method.desc method.types
  spells = subst (λ (t : List ℕ). AreTypes t method.types) (sym is.desc_is) is.types_are

  abbrev no-abstract : Bool
  no-abstract = eqb (bit_and is.head.flags 0x0400) 0

  abbrev no-native : Bool
  no-native = eqb (bit_and is.head.flags 0x0100) 0

  whole-by : (o : Option Code) → is.body.code ≡ o → IsWholeIn heads method
  whole-by None e =
      let has : (method.code ≡ []) × (method.handlers ≡ []) = subst (λ (o : Option Code). HasContent heads rows class c m o method.code method.handlers) e is.content in
      let frame = none-frame class spelled m is.body is.declared.body_at e in
      let none : length method.code ≡ 0 = ap length has.0 in
      let no-handlers : length method.handlers ≡ 0 = ap length has.1 in
      let flag : is_abstract method.flags ≡ not no-abstract = ap is_abstract is.flags_are in
      record {
        frame = omega (arith, frame.0, frame.1, is.locals_are, is.stack_is);
        spelled = spells;
        code = (λ has-code. absurd (omega (arith, has-code, none)), λ off. absurd (flags-none no-abstract no-native is.not_native (none-need class spelled m is.head is.body is.declared e) (sym flag ∙ off)));
        next = λ k d lt. absurd (omega (arith, lt, none));
        sound = λ k d lt. absurd (omega (arith, lt, none));
        handlers = λ k d lt. absurd (omega (arith, lt, no-handlers));
        starts = λ has-code. absurd (omega (arith, has-code, none));
        runs = λ i instr at on. absurd (omega (arith, slice_get_within method.code i instr at, none));
        returns = λ k d lt. absurd (omega (arith, lt, none));
      }
  whole-by (Some code) e =
      let coded : IsCoded heads rows class c m method = coded-of heads rows class spelled c m method is code e in
      let head : coded.are.has_frame.head ≡ is.head = same-item class.head.methods m m coded.are.has_frame.head is.head refl coded.are.has_frame.head_at is.declared.head_at in
      let types : (coded.are.has_frame.is.params ≡ method.types.params) × (coded.are.has_frame.is.result ≡ method.types.result) =
      same-types reading is.head.desc coded.are.has_frame.head.desc method.types coded.are.has_frame.is.params coded.are.has_frame.is.result
      (ap (λ (h : HeadMethod). h.desc) (sym head)) is.types_are coded.are.has_frame.is.descriptor in
      let first : IsReachedAt method 0 0 = first-reached heads rows class spelled c m method coded in
      let flag : is_abstract method.flags ≡ not no-abstract = ap is_abstract is.flags_are in
      record {
        frame = omega (arith, frame-small class spelled m coded.kinds coded.are, coded.locals_are, coded.stack_is);
        spelled = spells;
        code = (
          λ has-code. flag ∙ flags-tell no-abstract no-native is.not_native (codes-need class spelled m is.head is.body code is.declared e),
          λ off. slice_get_within method.code 0 first.instr first.found,
        );
        next = next-stays heads rows class spelled c m method coded;
        sound = all-sound heads rows class spelled c m method coded sound returns;
        handlers = handlers-lie heads rows class spelled c m method coded;
        starts = λ has-code. starts heads rows class spelled c m method coded is.head head types.0 is.flags_are;
        runs = λ i instr at on. runs heads rows class spelled c m method coded agree ends i instr at on;
        returns = all-return heads rows class spelled c m method coded sound returns method.types.result types.1;
      }

  pub whole : IsWholeIn heads method
  whole = whole-by is.body.code refl

-- ---- rows of calls

about-by : RowsAreAbout → (heads : List ClassHead) (rows : Content) → IsCategorized rows → (class : ClassSpelled) → IsSpelled class → (c m : ℕ) (method : Method) (is : IsMethodOf heads rows class c m method)
    → (o : Option Code) → is.body.code ≡ o → All (λ (instr : Instr). IsRowAbout rows.categories instr.op) method.code
about-by about heads rows categorized class spelled c m method is None e =
    let has : (method.code ≡ []) × (method.handlers ≡ []) = subst (λ (o : Option Code). HasContent heads rows class c m o method.code method.handlers) e is.content in
    λ k d lt. absurd (omega (arith, lt, ap length has.0))
about-by about heads rows categorized class spelled c m method is (Some code) e =
    all-about heads rows class spelled c m method (coded-of heads rows class spelled c m method is code e) about categorized

pub rows-about : RowsAreAbout → (heads : List ClassHead) (rows : Content) → IsCategorized rows → (class : ClassSpelled) → IsSpelled class → (c m : ℕ) (method : Method) → IsMethodOf heads rows class c m method
    → All (λ (instr : Instr). IsRowAbout rows.categories instr.op) method.code
rows-about about heads rows categorized class spelled c m method is = about-by about heads rows categorized class spelled c m method is is.body.code refl
