-- Each instruction of a class of the profile has an effect.
use Rattle.std.proofs.Common.{◌≡◌, ℕ, zero, suc, ◌+◌, inl, inr, Bool, true, false, ◌||◌, List, [], ◌∷◌, length, map, get_or, Option, Some, None, refl, ap, sym, subst, ◌∙◌, if◌then◌else◌}
use Rattle.std.specs.Prelude.{IsTrue, option_map, ◌==◌}
use Rattle.std.specs.List.{AllByRecursion}
use Rattle.std.proofs.lemmas.Bool.{or_cases, eqb-true}
use Rattle.ja_base.specs.declared.java_type.Kind.{Kind}
use Rattle.ja_base.specs.declared.java_type.Kind.TheVariants.{P1, R}
use Rattle.ja_bytes.specs.DescriptorText.{IsFieldDesc, IsMethodText}
use Rattle.ja_pool.specs.Table.{Table, entry_tag, tags_of, tag_at, member_desc_at, is_member_tag}
use Rattle.ja_code.specs.declared.form.Entry.{Entry}
use Rattle.ja_code.specs.declared.form.Entry.TheVariants.{Loadable, TwoWord, Field, Method, InterfaceMethod, AnyMethod, Class}
use Rattle.ja_code.specs.declared.form.Form.{Form}
use Rattle.ja_code.specs.declared.form.Form.TheVariants.{Plain, Byte, Short, Local, Increment, ByteIndex, Index, Interface, ArrayType, Dimensions, Branch, FarBranch, TableSwitch, LookupSwitch}
use Rattle.ja_code.specs.declared.instr.RawInstr.{RawInstr}
use Rattle.ja_code.specs.Bytes.{names, u2}
use Rattle.ja_code.specs.Grammar as grammar
use Rattle.ja_code.specs.Grammar.{Takes, Names, IsInstr, AreInstrs, operand_at}
use Rattle.ja_class.specs.Member.{is_method_tag, HasDescriptor}
use Rattle.ja_code.specs.declared.behaviour.Behaviour.{Behaviour}
use Rattle.ja_code.specs.declared.behaviour.Behaviour.TheVariants as does
use Rattle.ja_code.specs.declared.behaviour.FieldAccess.TheVariants.{GetStatic, PutStatic, GetField, PutField}
use Rattle.ja_kinds.specs.declared.effect.Effect.{Effect}
use Rattle.ja_kinds.specs.declared.reading.Part.TheVariants as parts
use Rattle.ja_kinds.specs.Effect.{kind_of_type, constant_kind, NamesField, NamesMethod, fixed_effect, loaded_effect, field_effect, method_effect, HasEffect, Does, IsOneOf}
use Rattle.ja_kinds.specs.Effect as effects
use Rattle.ja_kinds.specs.InnerReading.{part_of}
use Rattle.ja_kinds.proofs.Opcodes.{part_named, is_own, Fits, fitting}

-- an instruction has an effect
pub record HasDeed (pool : Table) (i : RawInstr) : Type 0 where
  pub behaviour : Behaviour
  pub effect : Effect
  pub does : Does pool i behaviour effect

-- ---- by what of the pool it depends on

record Total (o : Option Effect) : Type 0 where
  effect : Effect
  is : o ≡ Some effect

some : (e : Effect) → Total (Some e)
some e = record { effect = e; is = refl }

fixed_total : (i : RawInstr) (b : Behaviour) → part_of b ≡ parts.Nothing → Total (fixed_effect i b)
fixed_total i does.Loaded p = absurd cc
fixed_total i (does.Access how) p = absurd cc
fixed_total i (does.Invoke how) p = absurd cc
fixed_total i b p = record { effect = _; is = refl }

loaded_total : (b : Behaviour) (k : Kind) → part_of b ≡ parts.Constant → Total (loaded_effect b k)
loaded_total does.Loaded k p = some _
loaded_total b k p = absurd cc

field_total : (b : Behaviour) (k : Kind) → part_of b ≡ parts.Field → Total (field_effect b k)
field_total (does.Access GetStatic) k p = some _
field_total (does.Access PutStatic) k p = some _
field_total (does.Access GetField) k p = some _
field_total (does.Access PutField) k p = some _
field_total b k p = absurd cc

method_total : (b : Behaviour) (taken : List Kind) (given : Option Kind) → part_of b ≡ parts.Method → Total (method_effect b taken given)
method_total (does.Invoke how) taken given p = some _
method_total b taken given p = absurd cc

-- ---- tags

-- the kind of a constant that an instruction loads
record Loads (tag : ℕ) : Type 0 where
  kind : Kind
  is : constant_kind tag ≡ Some kind

pick : (a b c d : Bool) → (a || b || c || d) ≡ true
    → (kind : Kind) × ((if c || d then Some R else if a || b then Some P1 else None) ≡ Some kind)
pick a b true d h = (R, refl)
pick a b false true h = (R, refl)
pick true b false false h = (P1, refl)
pick false true false false h = (P1, refl)
pick false false false false h = absurd cc

loadable : (tag : ℕ) → IsTrue (names Loadable tag) → Loads tag
loadable tag h =
    let found = pick (tag == 3) (tag == 4) (tag == 7) (tag == 8) h in
    record { kind = found.0; is = found.1 }

any_method : (tag : ℕ) → IsTrue (names AnyMethod tag) → IsTrue (is_method_tag tag)
any_method tag h = elim (or_cases (tag == 10) (tag == 11) h) [
  | inl e ↦ subst (λ (t : ℕ). IsTrue (is_method_tag t)) (sym (eqb-true tag 10 e)) refl
  | inr e ↦ subst (λ (t : ℕ). IsTrue (is_method_tag t)) (sym (eqb-true tag 11 e)) refl
]

one_method : (tag : ℕ) → IsTrue (names Method tag) → IsTrue (is_method_tag tag)
one_method tag h = subst (λ (t : ℕ). IsTrue (is_method_tag t)) (sym (eqb-true tag 10 h)) refl

interface_method : (tag : ℕ) → IsTrue (names InterfaceMethod tag) → IsTrue (is_method_tag tag)
interface_method tag h = subst (λ (t : ℕ). IsTrue (is_method_tag t)) (sym (eqb-true tag 11 h)) refl

method_is_member : (tag : ℕ) → IsTrue (is_method_tag tag) → IsTrue (is_member_tag tag)
method_is_member tag h = subst (λ (b : Bool). ((tag == 9) || b) ≡ true) (sym h) (or_true (tag == 9))
  where
    or_true : (b : Bool) → (b || true) ≡ true
    or_true true = refl
    or_true false = refl

tag_seen : (table : Table) (i : ℕ) → tag_at table i ≡ entry_tag (get_or table i None)
tag_seen [] i = refl
tag_seen (entry ∷ table) zero = refl
tag_seen (entry ∷ table) (suc i) = tag_seen table i

module _ (pool : Table) (right : AllByRecursion (HasDescriptor pool) pool) where
  no_descriptor : HasDescriptor pool None
  no_descriptor = record { field = λ e. absurd cc; method = λ e. absurd cc }

  descriptor_in : (entries : Table) (n : ℕ) → AllByRecursion (HasDescriptor pool) entries → HasDescriptor pool (get_or entries n None)
  descriptor_in [] n all = no_descriptor
  descriptor_in (e ∷ es) zero all = all.0
  descriptor_in (e ∷ es) (suc n) all = descriptor_in es n all.1

  field_desc_at : (n : ℕ) → tag_at pool n ≡ 9 → IsFieldDesc (member_desc_at pool n)
  field_desc_at n e = (descriptor_in pool n right).field (sym (tag_seen pool n) ∙ e)

  method_desc_at : (n : ℕ) → IsTrue (is_method_tag (tag_at pool n)) → IsMethodText (member_desc_at pool n)
  method_desc_at n h = (descriptor_in pool n right).method (ap is_method_tag (sym (tag_seen pool n)) ∙ h)

  -- ---- an instruction

  module _ (i : RawInstr) (form : Form) (own : is_own form ≡ true) (takes : Takes i.opcode form) where
    fixed_deed : part_named form ≡ parts.Nothing → HasDeed pool i
    fixed_deed none =
        let f : Fits i.opcode form = fitting i.opcode form own takes in
        let total : Total (fixed_effect i f.behaviour) = fixed_total i f.behaviour (f.part ∙ none) in
        record { behaviour = f.behaviour; effect = total.effect; does = record { opcode = f.at; effect_is = effects.fixed total.is } }

    loaded_deed : part_named form ≡ parts.Constant → IsTrue (names Loadable (tag_at pool (operand_at i 0))) → HasDeed pool i
    loaded_deed part h =
        let f : Fits i.opcode form = fitting i.opcode form own takes in
        let l : Loads (tag_at pool (operand_at i 0)) = loadable (tag_at pool (operand_at i 0)) h in
        let total : Total (loaded_effect f.behaviour l.kind) = loaded_total f.behaviour l.kind (f.part ∙ part) in
        record { behaviour = f.behaviour; effect = total.effect; does = record { opcode = f.at; effect_is = effects.loaded l.is total.is } }

    field_deed : part_named form ≡ parts.Field → IsTrue (names Field (tag_at pool (operand_at i 0))) → HasDeed pool i
    field_deed part h =
        let f : Fits i.opcode form = fitting i.opcode form own takes in
        let tag : tag_at pool (operand_at i 0) ≡ 9 = eqb-true (tag_at pool (operand_at i 0)) 9 h in
        let desc : IsFieldDesc (member_desc_at pool (operand_at i 0)) = field_desc_at (operand_at i 0) tag in
        let named : NamesField pool i desc.type.kind =
        record {
          member = subst (λ (t : ℕ). IsTrue (is_member_tag t)) (sym tag) refl;
          type = desc.type;
          field = desc.field;
          same = refl;
        } in
        let total : Total (field_effect f.behaviour desc.type.kind) = field_total f.behaviour desc.type.kind (f.part ∙ part) in
        record { behaviour = f.behaviour; effect = total.effect; does = record { opcode = f.at; effect_is = effects.field named total.is } }

    method_deed : part_named form ≡ parts.Method → IsTrue (is_method_tag (tag_at pool (operand_at i 0))) → HasDeed pool i
    method_deed part h =
        let f : Fits i.opcode form = fitting i.opcode form own takes in
        let desc : IsMethodText (member_desc_at pool (operand_at i 0)) = method_desc_at (operand_at i 0) h in
        let named : NamesMethod pool i (map kind_of_type desc.params) (option_map kind_of_type desc.result) =
        record {
          member = method_is_member (tag_at pool (operand_at i 0)) h;
          params = desc.params;
          result = desc.result;
          method = desc.method;
          takes = refl;
          gives = refl;
        } in
        let total : Total (method_effect f.behaviour (map kind_of_type desc.params) (option_map kind_of_type desc.result)) =
        method_total f.behaviour (map kind_of_type desc.params) (option_map kind_of_type desc.result) (f.part ∙ part) in
        record { behaviour = f.behaviour; effect = total.effect; does = record { opcode = f.at; effect_is = effects.method named total.is } }

  module _ (pc : ℕ) where
    index_deed : (op n : ℕ) (entry : Entry) (len : ℕ) → Takes op (Index entry) → Names (tags_of pool) n entry → HasDeed pool (grammar.narrow pc op (n ∷ []) len)
    index_deed op n Loadable len takes h = loaded_deed (grammar.narrow pc op (n ∷ []) len) (Index Loadable) refl takes refl h
    index_deed op n Field len takes h = field_deed (grammar.narrow pc op (n ∷ []) len) (Index Field) refl takes refl h
    index_deed op n Method len takes h = method_deed (grammar.narrow pc op (n ∷ []) len) (Index Method) refl takes refl (one_method (tag_at pool n) h)
    index_deed op n InterfaceMethod len takes h =
        method_deed (grammar.narrow pc op (n ∷ []) len) (Index InterfaceMethod) refl takes refl (interface_method (tag_at pool n) h)
    index_deed op n AnyMethod len takes h = method_deed (grammar.narrow pc op (n ∷ []) len) (Index AnyMethod) refl takes refl (any_method (tag_at pool n) h)
    index_deed op n TwoWord len takes h = fixed_deed (grammar.narrow pc op (n ∷ []) len) (Index TwoWord) refl takes refl
    index_deed op n Class len takes h = fixed_deed (grammar.narrow pc op (n ∷ []) len) (Index Class) refl takes refl

    pub one_deed : (dims text : List ℕ) (i : RawInstr) → IsInstr (tags_of pool) dims pc text i → HasDeed pool i
    one_deed dims text i (grammar.plain takes) = fixed_deed i Plain refl takes refl
    one_deed dims text i (grammar.byte takes) = fixed_deed i Byte refl takes refl
    one_deed dims text i (grammar.short takes) = fixed_deed i Short refl takes refl
    one_deed dims text i (grammar.local takes) = fixed_deed i Local refl takes refl
    one_deed dims text i (grammar.increment takes) = fixed_deed i Increment refl takes refl
    one_deed dims text i (grammar.byte_index takes h) = loaded_deed i ByteIndex refl takes refl h
    one_deed dims text i (grammar.index {op} {a} {b} {entry} takes h) = index_deed op (u2 a b) entry 3 takes h
    one_deed dims text i (grammar.interface {op} {a} {b} {x} {y} takes h) =
        method_deed i Interface refl takes refl (interface_method (tag_at pool (u2 a b)) h)
    one_deed dims text i (grammar.array_type takes low high) = fixed_deed i ArrayType refl takes refl
    one_deed dims text i (grammar.dimensions takes h low high) = fixed_deed i Dimensions refl takes refl
    one_deed dims text i (grammar.branch takes) = fixed_deed i Branch refl takes refl
    one_deed dims text i (grammar.far_branch takes) = fixed_deed i FarBranch refl takes refl
    one_deed dims text i (grammar.table_switch gap default low high table count takes a b c d e f g) = fixed_deed i TableSwitch refl takes refl
    one_deed dims text i (grammar.lookup_switch gap default count pairs takes a b c d e) = fixed_deed i LookupSwitch refl takes refl
    one_deed dims text i (grammar.wide_local wide takes) = fixed_deed i Local refl takes refl
    one_deed dims text i (grammar.wide_increment wide takes) = fixed_deed i Increment refl takes refl

  -- ---- instructions one after another

  pub each_deed : (dims : List ℕ) (pc : ℕ) (bytes : List ℕ) (is : List RawInstr) → AreInstrs (tags_of pool) dims pc bytes is
      → (i : RawInstr) → IsOneOf i is → HasDeed pool i
  each_deed dims pc bytes is grammar.none i h = absurd h
  each_deed dims pc bytes is (grammar.next text rest {i = first} {is = others} one more) i (inl same) =
      subst (λ (j : RawInstr). HasDeed pool j) (sym same) (one_deed pc dims text first one)
  each_deed dims pc bytes is (grammar.next text rest {i = first} {is = others} one more) i (inr h) =
      each_deed dims (pc + length text) rest others more i h
