-- The class that is read of a class file that was written.
use Rattle.std.proofs.Common.{◌≡◌, ℕ, ◌+◌, inl, inr, Bool, true, false, List, [], ◌∷◌, length, map, codes, bytes_eq, Option, Some, None, refl, sym, ap, subst, ◌∙◌, arith}
use Rattle.std.specs.Prelude.{◌==◌}
use Rattle.std.proofs.Math.Bool.{and-false}
use Rattle.std.proofs.lemmas.Bool.{cases_eq, ne_eqb}
use Rattle.std.proofs.lemmas.List.{append-nil}
use Rattle.std.proofs.lemmas.Slice.Eq.{bytes_eq-Decides}
use Rattle.ja_bytes.specs.Reading.{Reading}
use Rattle.ja_pool.specs.Table.{Table, tag_at, text_at, class_name_at}
use Rattle.ja_attributes.specs.Attribute.{AttributeInfo, attributes_bytes, named, is_named, SayConstant, IsCode, SayCode, PassesMethod}
use Rattle.ja_attributes.specs.declared.code.MethodCode.{MethodCode}
use Rattle.ja_ir.specs.declared.head.HeadField.{HeadField}
use Rattle.ja_ir.specs.declared.head.HeadMethod.{HeadMethod}
use Rattle.ja_class.specs.declared.class.ClassMethod.{ClassMethod}
use Rattle.ja_ir.specs.Lookup.{is_static}
use Rattle.ja_class.specs.Meaning.{ClassSpelled, needs_code, code_said}
use Rattle.ja_class.specs.ClassFile.{MemberInfo, ClassFile, pool_of, AreAttributes, IsFieldInfo, IsMethodInfo, AreFields, AreMethods, Says, IsClass}
use Rattle.ja_listing.specs.declared.item.Frame.{Frame}
use Rattle.ja_listing.specs.Number.{has_code}
use Rattle.ja_listing.specs.Listed.{Listed}
use Rattle.ja_assembly.specs.Members.{Member, Body, items_of_class, fields, methods}
use Rattle.ja_assembly.specs.Written.{SaysMember, SaysAttribute, SayFields, SayAttributes, SayMethods, SaysCode, SaysListed, IsWritten}
use Rattle.ja_assembly.specs.ReadBack.{head_field, head_method, HasListedCode, HasCodeOf, HaveCodesOf, IsAsListed}
use Rattle.ja_assembly.proofs.CodeFlags.{needs_code-is}

-- the attributes of a method say one code
abbrev pub OneCode : Type 0
OneCode = (table : Table) (needs_code : Bool) (old new other : Reading) (a b : Option MethodCode)
    → PassesMethod table needs_code old new a → PassesMethod table needs_code old other b → (a ≡ b) × (new ≡ other)

-- bytes say one class
abbrev pub OneClass : Type 0
OneClass = (bytes : List ℕ) (class other : ClassSpelled) → IsClass bytes class → IsClass bytes other → class ≡ other

-- ---- fields

no_constant : (table : Table) (attributes : List AttributeInfo) (constant : Option ℕ) → attributes ≡ []
    → SayConstant table (named table (codes "ConstantValue") attributes) constant → constant ≡ None
no_constant table [] None e h = refl
no_constant table [] (Some index) e h = absurd h
no_constant table (a ∷ attributes) constant e h = cc

field_is : (table : Table) (m : Member) (info : MemberInfo) (f : HeadField) → SaysMember table m info.access_flags info.name_index info.descriptor_index
    → info.attributes ≡ [] → IsFieldInfo table info f → f ≡ head_field m
field_is table m info f says none h =
    let bare = no_constant table info.attributes h.constant none h.say in
    h.is ∙ rw (bare, says.name_is, says.desc_is, ← says.flags_are, and-false (bytes_eq m.desc (codes "Ljava/lang/String;")), and-false (is_static m.flags.size)) refl

fields_are : (table : Table) (ms : List Member) (infos : List MemberInfo) (said : List HeadField) → SayFields table ms infos → AreFields table infos said
    → said ≡ map head_field ms
fields_are table [] [] [] say are = refl
fields_are table [] [] (f ∷ said) say are = absurd are
fields_are table [] (info ∷ infos) said say are = absurd say
fields_are table (m ∷ ms) [] said say are = absurd say
fields_are table (m ∷ ms) (info ∷ infos) [] say are = absurd are
fields_are table (m ∷ ms) (info ∷ infos) (f ∷ said) say are =
    let first = field_is table m info f say.0 say.1 are.0 in
    let others = fields_are table ms infos said say.2 are.1 in
    cc

-- ---- methods

-- a reader before one attribute, and behind it
abbrev before_it : AttributeInfo → Reading
before_it a = record { place = 0; rest = attributes_bytes (a ∷ []) }

abbrev behind_it : AttributeInfo → Reading
behind_it a = record { place = 0 + length (attributes_bytes (a ∷ [])); rest = [] }

passed : (table : Table) (a : AttributeInfo) → AreAttributes table (a ∷ []) → is_named table (codes "Code") a.attribute_name_index ≡ true
    → (k : MethodCode) → IsCode table a.info k → PassesMethod table true (before_it a) (behind_it a) (Some k)
passed table a are name k h =
    record {
      attributes = a ∷ [];
      passes = record { few = are.few; each = are.each; passes = record { parts = sym (append-nil (attributes_bytes (a ∷ []))); place = refl } };
      say = rw name h;
    }

-- the code of the one attribute of a method
one_code : OneCode → (table : Table) (a : AttributeInfo) → AreAttributes table (a ∷ []) → is_named table (codes "Code") a.attribute_name_index ≡ true
    → (k l : MethodCode) → IsCode table a.info k → IsCode table a.info l → Some k ≡ Some l
one_code one table a are name k l p q =
    (one table true (before_it a) (behind_it a) (behind_it a) (Some k) (Some l) (passed table a are name k p) (passed table a are name l q)).0

said : OneCode → (table : Table) (b : Body) (frame : Frame) (a : AttributeInfo) → AreAttributes table (a ∷ []) → is_named table (codes "Code") a.attribute_name_index ≡ true
    → SaysAttribute table b frame a → (k : MethodCode) → IsCode table a.info k → HasListedCode table b frame (code_said (Some k))
said one table b frame a are name says k h =
    let one_of_them = one_code one table a are name says.spelled k says.code h in
    let same : says.spelled ≡ k = cc in
    record { code = k.code; has_it = refl; says = subst (λ (m : MethodCode). SaysCode table b frame m.max_stack m.max_locals m.code) same says.says }

code_is : OneCode → (table : Table) (b : Body) (frame : Option Frame) (code : Bool) (attributes : List AttributeInfo) (found : Option MethodCode)
    → AreAttributes table attributes → SayAttributes table b frame code attributes → SayCode table code (named table (codes "Code") attributes) found
    → HasCodeOf table b frame code (code_said found)
code_is one table b frame false [] None are say h = refl
code_is one table b frame false [] (Some k) are say h = absurd h
code_is one table b frame false (a ∷ attributes) found are say h = cc
code_is one table b None true attributes found are say h = absurd say
code_is one table b (Some frame) true [] found are say h = absurd say
code_is one table b (Some frame) true (a ∷ []) found are say h =
    let name = (bytes_eq-Decides (text_at table a.attribute_name_index) (codes "Code")).1 say.name_is in
    by name found (rw name at h)
  where
    by : is_named table (codes "Code") a.attribute_name_index ≡ true → (found : Option MethodCode) → SayCode table true (a ∷ []) found
        → HasCodeOf table b (Some frame) true (code_said found)
    by name None h = absurd h
    by name (Some k) h = said one table b frame a are name say k h
code_is one table b (Some frame) true (a ∷ other ∷ attributes) found are say h = absurd say

method_is : (table : Table) (b : Body) (info : MemberInfo) (h : HeadMethod) (m : ClassMethod) → SaysMember table b.member info.access_flags info.name_index info.descriptor_index
    → IsMethodInfo table info h m → h ≡ head_method b
method_is table b info h m says is = is.is ∙ rw (says.name_is, says.desc_is, ← says.flags_are) refl

method_code : OneCode → (table : Table) (b : Body) (info : MemberInfo) (h : HeadMethod) (m : ClassMethod)
    → SaysMember table b.member info.access_flags info.name_index info.descriptor_index
    → SayAttributes table b b.frame (has_code b.member.flags) info.attributes → IsMethodInfo table info h m → HasCodeOf table b b.frame (has_code b.member.flags) m
method_code one table b info h m says say is =
    let needs : needs_code info.access_flags ≡ has_code b.member.flags = ap needs_code (sym says.flags_are) ∙ needs_code-is b.member.flags.size in
    rw (is.code_is) (code_is one table b b.frame (has_code b.member.flags) info.attributes is.found is.member.attributes say
    (subst (λ (needed : Bool). SayCode table needed (named table (codes "Code") info.attributes) is.found) needs is.say))

methods_are : OneCode → (table : Table) (bs : List Body) (infos : List MemberInfo) (heads : List HeadMethod) (ms : List ClassMethod)
    → SayMethods table bs infos → AreMethods table infos heads ms → (heads ≡ map head_method bs) × HaveCodesOf table bs ms
methods_are one table [] [] [] [] say are = (refl, tt)
methods_are one table [] [] [] (m ∷ ms) say are = absurd are
methods_are one table [] [] (h ∷ heads) ms say are = absurd are
methods_are one table [] (info ∷ infos) heads ms say are = absurd say
methods_are one table (b ∷ bs) [] heads ms say are = absurd say
methods_are one table (b ∷ bs) (info ∷ infos) [] ms say are = absurd are
methods_are one table (b ∷ bs) (info ∷ infos) (h ∷ heads) [] say are = absurd are
methods_are one table (b ∷ bs) (info ∷ infos) (h ∷ heads) (m ∷ ms) say are =
    let first = method_is table b info h m say.0 are.0 in
    let others = methods_are one table bs infos heads ms say.2 are.1 in
    let same : h ∷ heads ≡ head_method b ∷ map head_method bs = cc (first, others.0) in
    (same, (method_code one table b info h m say.0 say.1 are.0, others.1))

-- ---- the class

-- nothing stands at index 0
some_super : (file : ClassFile) (i : ℕ) → tag_at (pool_of file) i ≡ 7 → (i == 0) ≡ false
some_super file i tag = elim (cases_eq i 0) [
  | inl none ↦ absurd (at_0 (ap (λ (j : ℕ). tag_at (pool_of file) j) (sym none) ∙ tag))
  | inr some ↦ ne_eqb i 0 some
]
  where
    at_0 : tag_at (pool_of file) 0 ≡ 7 → ⊥
    at_0 h = omega (arith, h)

as_listed : OneCode → (c : Listed) (file : ClassFile) (class : ClassSpelled) → Says file class → SaysListed c file → IsAsListed c class
as_listed one c file class says listed =
    let table = pool_of file in
    let ms = methods_are one table (methods (items_of_class c)) file.methods class.head.methods class.methods listed.methods_are says.methods in
    record {
      name = says.name_is ∙ listed.head.this_is.name_is;
      superclass = says.superclass_is ∙ rw (some_super file file.super_class listed.head.super_is.tag, listed.head.super_is.name_is) refl;
      interfaces = says.interfaces_are ∙ ap (λ (is : List ℕ). map (class_name_at table) is) listed.interfaces;
      flags = says.flags_are ∙ sym listed.head.flags_are;
      fields_are = fields_are table (fields (items_of_class c)) file.fields class.head.fields listed.fields_are says.fields;
      methods_are = ms.0;
      codes_are = rw says.pool_is ms.1;
      order = rw says.pool_is listed.order;
    }

pub read_back : OneCode → OneClass → (c : Listed) (bytes : List ℕ) (class : ClassSpelled) → IsWritten c bytes → IsClass bytes class → IsAsListed c class
read_back one one_class c bytes class w is =
    subst (λ (k : ClassSpelled). IsAsListed c k) (one_class bytes w.class class (record { file = w.file; says = w.says; whole = w.whole }) is)
    (as_listed one c w.file w.class w.says w.listed)
