-- The descriptors of the members of classes of the profile are descriptors.
use Rattle.std.proofs.Common.{◌≡◌, ℕ, zero, suc, List, [], ◌∷◌, sym, subst}
use Rattle.std.specs.Prelude.{Some, All, slice_get}
use Rattle.std.proofs.lemmas.Option.{same_Some}
use Rattle.std.proofs.lemmas.List.Elements.{All-head, All-tail}
use Rattle.ja_base.specs.Descriptor.{IsField, IsMethod}
use Rattle.ja_pool.specs.Table.{Table}
use Rattle.ja_ir.specs.declared.head.HeadField.{HeadField}
use Rattle.ja_ir.specs.declared.head.HeadMethod.{HeadMethod}
use Rattle.ja_ir.specs.Whole.{SpellsField, SpellsMethod}
use Rattle.ja_class.specs.declared.class.ClassMethod.{ClassMethod}
use Rattle.ja_class.specs.ClassFile.{pool_of, AreFields, AreMethods, IsFieldInfo, IsMethodInfo, IsSpelled, MemberInfo}
use Rattle.ja_class.specs.Meaning.{ClassSpelled}
use Rattle.ja_hier.specs.LookUps.{fields_of, methods_of}
use Rattle.ja_heads.proofs.Whole.{AreDescribed}
use Rattle.ja_lower.specs.Program.{heads_of}

-- a field and a method of a class file
field-spelled : (table : Table) (m : MemberInfo) (field : HeadField) → IsFieldInfo table m field → SpellsField field.desc
field-spelled table m field is =
    (is.descriptor.type, subst (λ (f : HeadField). IsField f.desc is.descriptor.type) (sym is.is) is.descriptor.field)

method-spelled : (table : Table) (m : MemberInfo) (method : HeadMethod) (body : ClassMethod) → IsMethodInfo table m method body → SpellsMethod method.desc
method-spelled table m method body is = (
  is.descriptor.params,
  is.descriptor.result,
  subst (λ (h : HeadMethod). IsMethod h.desc is.descriptor.params is.descriptor.result) (sym is.is) is.descriptor.method,
)

fields-spelled : (table : Table) (members : List MemberInfo) (said : List HeadField) → AreFields table members said → (k : ℕ) (field : HeadField) → slice_get said k ≡ Some field → SpellsField field.desc
fields-spelled table [] [] are k field e = absurd (cc e)
fields-spelled table [] (f ∷ said) are k field e = absurd are
fields-spelled table (m ∷ members) [] are k field e = absurd are
fields-spelled table (m ∷ members) (f ∷ said) are zero field e = subst (λ (g : HeadField). SpellsField g.desc) (same_Some f field e) (field-spelled table m f are.0)
fields-spelled table (m ∷ members) (f ∷ said) are (suc k) field e = fields-spelled table members said are.1 k field e

methods-spelled : (table : Table) (members : List MemberInfo) (said : List HeadMethod) (bodies : List ClassMethod) → AreMethods table members said bodies → (k : ℕ) (method : HeadMethod) → slice_get said k ≡ Some method
    → SpellsMethod method.desc
methods-spelled table [] [] [] are k method e = absurd (cc e)
methods-spelled table [] [] (b ∷ bodies) are k method e = absurd are
methods-spelled table [] (h ∷ said) bodies are k method e = absurd are
methods-spelled table (m ∷ members) [] bodies are k method e = absurd are
methods-spelled table (m ∷ members) (h ∷ said) [] are k method e = absurd are
methods-spelled table (m ∷ members) (h ∷ said) (b ∷ bodies) are zero method e = subst (λ (g : HeadMethod). SpellsMethod g.desc) (same_Some h method e) (method-spelled table m h b are.0)
methods-spelled table (m ∷ members) (h ∷ said) (b ∷ bodies) are (suc k) method e = methods-spelled table members said bodies are.1 k method e

-- the members of all classes
declared-methods : (classes : List ClassSpelled) → All IsSpelled classes → (c k : ℕ) (declared : HeadMethod) → slice_get (methods_of (slice_get (heads_of classes) c)) k ≡ Some declared → SpellsMethod declared.desc
declared-methods [] all c k declared e = absurd (cc e)
declared-methods (x ∷ classes) all zero k declared e =
    let s : IsSpelled x = All-head IsSpelled x classes all in
    methods-spelled (pool_of s.is.file) s.is.file.methods x.head.methods x.methods s.is.says.methods k declared e
declared-methods (x ∷ classes) all (suc c) k declared e = declared-methods classes (All-tail IsSpelled x classes all) c k declared e

declared-fields : (classes : List ClassSpelled) → All IsSpelled classes → (c k : ℕ) (declared : HeadField) → slice_get (fields_of (slice_get (heads_of classes) c)) k ≡ Some declared → SpellsField declared.desc
declared-fields [] all c k declared e = absurd (cc e)
declared-fields (x ∷ classes) all zero k declared e =
    let s : IsSpelled x = All-head IsSpelled x classes all in
    fields-spelled (pool_of s.is.file) s.is.file.fields x.head.fields s.is.says.fields k declared e
declared-fields (x ∷ classes) all (suc c) k declared e = declared-fields classes (All-tail IsSpelled x classes all) c k declared e

pub described : (classes : List ClassSpelled) → All IsSpelled classes → AreDescribed (heads_of classes)
described classes all = record { methods = declared-methods classes all; fields = declared-fields classes all }
