-- What a class of the profile says of its methods with code.
use Rattle.std.proofs.Common.{◌≡◌, ℕ, zero, suc, ◌+◌, ◌<◌, ◌≤◌, ◌^◌, Bool, true, false, List, [], ◌∷◌, length, Option, Some, None, refl, ap, sym, subst, ◌∙◌, arith}
use Rattle.std.specs.Prelude.{slice_get, codes}
use Rattle.std.specs.List.{AllByRecursion}
use Rattle.std.proofs.lemmas.Option.{slice_get_within}
use Rattle.ja_bytes.specs.DescriptorText.{IsMethodText}
use Rattle.ja_pool.specs.Table.{Table, tags_of, dims_of}
use Rattle.ja_code.specs.declared.instr.RawInstr.{RawInstr}
use Rattle.ja_code.specs.declared.handler.RawHandler.{RawHandler}
use Rattle.ja_code.specs.declared.code.Code.{Code}
use Rattle.ja_code.specs.Grammar.{Spells}
use Rattle.ja_ir.specs.declared.head.HeadMethod.{HeadMethod}
use Rattle.ja_attributes.specs.Attribute.{AttributeInfo, IsCode, SayCode, named}
use Rattle.ja_attributes.specs.declared.code.MethodCode.{MethodCode}
use Rattle.ja_class.specs.declared.class.ClassMethod.{ClassMethod}
use Rattle.ja_class.specs.Member.{HasDescriptor}
use Rattle.ja_class.specs.Meaning.{ClassSpelled, needs_code, code_said}
use Rattle.ja_class.specs.ClassFile.{MemberInfo, IsMethodInfo, AreMethods, Says, IsSpelled}
use Rattle.ja_kinds.specs.Effect.{IsOneOf}
use Rattle.ja_kinds.specs.declared.frame.Frame.{Frame}
use Rattle.ja_kinds.specs.Answer.{HasCode, code_size, IsFrame, HasFrame}
use Rattle.ja_kinds.specs.InnerSolving.{AreApart}
use Rattle.ja_kinds.proofs.Profile.{HasDeed, each_deed}
use Rattle.ja_kinds.proofs.Starts.{code_length, code_apart}

-- the method of a class with a number, by its file
record MethodSaid (table : Table) (heads : List HeadMethod) (m : ℕ) (method : ClassMethod) : Type 0 where
  head : HeadMethod
  head_at : slice_get heads m ≡ Some head
  member : MemberInfo
  info : IsMethodInfo table member head method

methods_at : (table : Table) (members : List MemberInfo) (heads : List HeadMethod) (methods : List ClassMethod) → AreMethods table members heads methods
    → (m : ℕ) (method : ClassMethod) → slice_get methods m ≡ Some method → MethodSaid table heads m method
methods_at table [] [] [] all m method e = absurd cc
methods_at table [] [] (b ∷ bs) all m method e = absurd all
methods_at table [] (h ∷ hs) bs all m method e = absurd all
methods_at table (x ∷ xs) [] bs all m method e = absurd all
methods_at table (x ∷ xs) (h ∷ hs) [] all m method e = absurd all
methods_at table (x ∷ xs) (h ∷ hs) (b ∷ bs) all zero method e =
    let same : b ≡ method = cc in
    record { head = h; head_at = refl; member = x; info = subst (λ (n : ClassMethod). IsMethodInfo table x h n) same all.0 }
methods_at table (x ∷ xs) (h ∷ hs) (b ∷ bs) all (suc m) method e =
    let said : MethodSaid table hs m method = methods_at table xs hs bs all.1 m method e in
    record { head = said.head; head_at = said.head_at; member = said.member; info = said.info }

-- the code of a method, by its attribute
record CodeSaid (table : Table) (method : ClassMethod) (code : Code) : Type 0 where
  info : List ℕ
  spelled : MethodCode
  is : IsCode table info spelled
  code_is : spelled.code ≡ code
  stack : method.max_stack ≡ spelled.max_stack
  locals : method.max_locals ≡ spelled.max_locals

code_in : (table : Table) (needs : Bool) (attributes : List AttributeInfo) (found : Option MethodCode) (method : ClassMethod) (code : Code)
    → SayCode table needs attributes found → method ≡ code_said found → method.code ≡ Some code → CodeSaid table method code
code_in table needs attributes None method code say is has =
    let none : method.code ≡ None = ap (λ (n : ClassMethod). n.code) is in
    absurd cc
code_in table false [] (Some mc) method code say is has = absurd say
code_in table false (a ∷ others) (Some mc) method code say is has = absurd say
code_in table true [] (Some mc) method code say is has = absurd say
code_in table true (a ∷ b ∷ others) (Some mc) method code say is has = absurd say
code_in table true (a ∷ []) (Some mc) method code say is has =
    let some : method.code ≡ Some mc.code = ap (λ (n : ClassMethod). n.code) is in
    let same : mc.code ≡ code = cc in
    record {
      info = a.info;
      spelled = mc;
      is = say;
      code_is = same;
      stack = ap (λ (n : ClassMethod). n.max_stack) is;
      locals = ap (λ (n : ClassMethod). n.max_locals) is;
    }

-- what is known of a method with code
pub record IsOfProfile (class : ClassSpelled) (m : ℕ) (method : ClassMethod) (code : Code) : Type 0 where
  pub head : HeadMethod
  pub head_at : slice_get class.head.methods m ≡ Some head
  pub descriptor : IsMethodText head.desc
  pub text : List ℕ
  pub rows : List RawHandler
  pub spells : Spells text (tags_of class.pool) (dims_of class.pool) rows code
  pub some : 0 < length text
  pub short : length text ≤ 65535
  pub stack : method.max_stack < 2 ^ 16
  pub locals : method.max_locals < 2 ^ 16
  pub size : code_size code ≡ length text
  pub apart : AreApart code.instrs
  pub deeds : (i : RawInstr) → IsOneOf i code.instrs → HasDeed class.pool i

pub of_profile : (class : ClassSpelled) → IsSpelled class → (m : ℕ) (method : ClassMethod) (code : Code) → slice_get class.methods m ≡ Some method
    → method.code ≡ Some code → IsOfProfile class m method code
of_profile class spelled m method code at has =
    let says : Says spelled.is.file class = spelled.is.says in
    let table : Table = class.pool in
    let same : class.pool ≡ Rattle.ja_class.specs.ClassFile.pool_of spelled.is.file = says.pool_is in
    let all : AreMethods class.pool spelled.is.file.methods class.head.methods class.methods =
    subst (λ (t : Table). AreMethods t spelled.is.file.methods class.head.methods class.methods) (sym same) says.methods in
    let right : AllByRecursion (HasDescriptor class.pool) class.pool =
    subst (λ (t : Table). AllByRecursion (HasDescriptor t) t) (sym same) says.pool.descriptors in
    let said : MethodSaid class.pool class.head.methods m method = methods_at class.pool spelled.is.file.methods class.head.methods class.methods all m method at in
    let coded : CodeSaid class.pool method code =
    code_in class.pool (needs_code said.member.access_flags) (named class.pool (codes "Code") said.member.attributes) said.info.found method code said.info.say said.info.code_is has in
    let attribute = coded.is.attribute in
    let spells : Spells attribute.code (tags_of class.pool) (dims_of class.pool) attribute.exception_table code =
    subst (λ (c : Code). Spells attribute.code (tags_of class.pool) (dims_of class.pool) attribute.exception_table c) coded.code_is coded.is.spells in
    let desc_is : said.head.desc ≡ Rattle.ja_pool.specs.Table.text_at class.pool said.member.descriptor_index =
    ap (λ (h : HeadMethod). h.desc) said.info.is in
    record {
      head = said.head;
      head_at = said.head_at;
      descriptor = record {
        params = said.info.descriptor.params;
        result = said.info.descriptor.result;
        method = subst (λ (t : List ℕ). Rattle.ja_base.specs.Descriptor.IsMethod t said.info.descriptor.params said.info.descriptor.result) (sym desc_is) said.info.descriptor.method;
      };
      text = attribute.code;
      rows = attribute.exception_table;
      spells = spells;
      some = omega (arith, coded.is.is.some);
      short = coded.is.is.short;
      stack = omega (arith, coded.is.is.stack, coded.is.stack, coded.stack);
      locals = omega (arith, coded.is.is.locals, coded.is.locals, coded.locals);
      size = code_length attribute.code (tags_of class.pool) (dims_of class.pool) attribute.exception_table code spells;
      apart = code_apart attribute.code (tags_of class.pool) (dims_of class.pool) attribute.exception_table code spells;
      deeds = each_deed class.pool right (dims_of class.pool) 0 attribute.code code.instrs spells.instrs;
    }

-- ---- what is found by number

-- what is known of the parts of a method that were found
pub record IsFound (inside : ClassSpelled) (m : ℕ) (head : HeadMethod) (method : ClassMethod) (code : Code) : Type 0 where
  pub head_at : slice_get inside.head.methods m ≡ Some head
  pub method_at : slice_get inside.methods m ≡ Some method
  pub profile : IsOfProfile inside m method code
  pub descriptor : IsMethodText head.desc
  pub short : code_size code < 2 ^ 32
  pub some : 0 < code_size code
  pub fits : method.max_locals + method.max_stack < 2 ^ 32

module _ (inside now : ClassSpelled) (view : inside ≡ now) (spelled : IsSpelled inside) (m : ℕ) (has : HasCode now m) where
  method_inside : slice_get inside.methods m ≡ Some has.method
  method_inside = subst (λ (k : ClassSpelled). slice_get k.methods m ≡ Some has.method) (sym view) has.method_at

  pub method_within : m < length inside.methods
  method_within = slice_get_within inside.methods m has.method method_inside

  pub head_within : m < length inside.head.methods
  head_within =
      let p : IsOfProfile inside m has.method has.code = of_profile inside spelled m has.method has.code method_inside has.code_is in
      slice_get_within inside.head.methods m p.head p.head_at

  pub is_found : (head : HeadMethod) (method : ClassMethod) (code : Code) (k l : ℕ) → k ≡ m → l ≡ m → slice_get inside.head.methods k ≡ Some head
      → slice_get inside.methods l ≡ Some method → method.code ≡ Some code → IsFound inside m head method code
  is_found head method code k l at also head_is method_is code_is =
      let heads : slice_get inside.head.methods m ≡ Some head = subst (λ (n : ℕ). slice_get inside.head.methods n ≡ Some head) at head_is in
      let methods : slice_get inside.methods m ≡ Some method = subst (λ (n : ℕ). slice_get inside.methods n ≡ Some method) also method_is in
      let p : IsOfProfile inside m method code = of_profile inside spelled m method code methods code_is in
      let same_head : p.head ≡ head = some_inj (sym p.head_at ∙ heads) in
      record {
        head_at = heads;
        method_at = methods;
        profile = p;
        descriptor = subst (λ (h : HeadMethod). IsMethodText h.desc) same_head p.descriptor;
        short = omega (arith, p.size, p.short);
        some = omega (arith, p.size, p.some);
        fits = omega (arith, p.stack, p.locals);
      }
    where
      some_inj : {x y : HeadMethod} → Some x ≡ Some y → x ≡ y
      some_inj e = cc

  -- the frame is that of the method
  pub has_frame : (head : HeadMethod) (method : ClassMethod) (code : Code) (frame : Frame) → method.code ≡ Some code → IsFound inside m head method code
      → IsFrame head method code frame → HasFrame now m code frame
  has_frame head method code frame code_is f is =
      record {
        head = head;
        head_at = subst (λ (k : ClassSpelled). slice_get k.head.methods m ≡ Some head) view f.head_at;
        method = method;
        method_at = subst (λ (k : ClassSpelled). slice_get k.methods m ≡ Some method) view f.method_at;
        code_is = code_is;
        is = is;
      }
