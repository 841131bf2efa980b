-- What a class of the profile gives for its instructions.
use Rattle.std.proofs.Common.{◌≡◌, ℕ, zero, suc, ◌+◌, ◌<◌, ◌≤◌, inl, inr, Bool, true, false, ◌&&◌, List, [], ◌∷◌, length, map, get_or, take, Option, Some, None, refl, sym, ap, subst, ◌∙◌, zero-add, cond, leb, arith}
use Rattle.std.specs.Prelude.{◌==◌, if◌then◌else◌}
use Rattle.std.specs.List.{prefix_len}
use Rattle.std.proofs.lemmas.List.{length-take}
use Rattle.std.proofs.lemmas.Bool.{and_parts, cases_lt, leb-true, lt-leb, eqb-true}
use Rattle.ja_pool.specs.Table.{Table, entry_tag, entry_first, tags_of, dims_in, dims_of, tag_at, text_at, is_bracket, brackets_of}
use Rattle.ja_code.specs.declared.form.Entry.{Entry}
use Rattle.ja_code.specs.declared.form.Entry.TheVariants.{Loadable, TwoWord, Field, Method, InterfaceMethod, AnyMethod, Class}
use Rattle.ja_code.specs.declared.form.Form.{Form}
use Rattle.ja_code.specs.declared.form.Form.TheVariants.{Plain, Byte, Short, Local, Increment, ByteIndex, Index, Interface, ArrayType, Dimensions, Branch, FarBranch, TableSwitch, LookupSwitch}
use Rattle.ja_code.specs.declared.instr.RawInstr.{RawInstr}
use Rattle.ja_code.specs.Opcode.{form_at}
use Rattle.ja_code.specs.Bytes.{u2}
use Rattle.ja_code.specs.Grammar as grammar
use Rattle.ja_code.specs.Grammar.{Takes, Names, IsInstr, AreInstrs, operand_at}
use Rattle.ja_code.specs.declared.behaviour.Behaviour.{Behaviour}
use Rattle.ja_code.specs.declared.behaviour.Behaviour.TheVariants as does
use Rattle.ja_kinds.specs.declared.effect.Effect.{Effect}
use Rattle.ja_code.specs.Behaviour.{behaviour_at}
use Rattle.ja_kinds.specs.Effect.{Does, HasEffect, IsOneOf, field, fixed, loaded, method, tag_named}
use Rattle.ja_code.proofs.Rows.{no_behaviour}
use Rattle.ja_operations.specs.Profile.{Suits, IsProfiled}

-- ---- from the effect

module _ (pool : Table) (i : RawInstr) where
  -- an instruction of this behaviour names a class, and dimensions
  abbrev NamesClassAs : Behaviour → Type 0
  NamesClassAs does.New = tag_named pool i ≡ 7
  NamesClassAs does.Cast = tag_named pool i ≡ 7
  NamesClassAs does.InstanceOf = tag_named pool i ≡ 7
  NamesClassAs does.NewArrays = (tag_named pool i ≡ 7) × (operand_at i 1 ≤ 255)
  NamesClassAs _ = Unit {0}

  suits : (b : Behaviour) (e : Effect) → HasEffect pool i b e → NamesClassAs b → Suits pool i b
  suits (does.Access how) e (fixed p) class = absurd (cc p)
  suits (does.Access how) e (loaded t p) class = absurd (cc p)
  suits (does.Access how) e (field n p) class = record { tag = n.member; desc = record { type = n.type; field = n.field } }
  suits (does.Access how) e (method n p) class = absurd (cc p)
  suits (does.Invoke how) e (fixed p) class = absurd (cc p)
  suits (does.Invoke how) e (loaded t p) class = absurd (cc p)
  suits (does.Invoke how) e (field n p) class = absurd (cc p)
  suits (does.Invoke how) e (method n p) class = record { tag = n.member; desc = record { params = n.params; result = n.result; method = n.method } }
  suits does.New e has class = class
  suits does.Cast e has class = class
  suits does.InstanceOf e has class = class
  suits does.NewArrays e has class = class
  suits b e has class = tt

-- ---- from the opcode

-- the form of an opcode whose instructions name a class
abbrev is_class_form : Option Form → Bool
is_class_form (Some (Index Class)) = true
is_class_form form = false

abbrev is_dimensions_form : Option Form → Bool
is_dimensions_form (Some Dimensions) = true
is_dimensions_form form = false

abbrev form_suits : Behaviour → Option Form → Bool
form_suits does.New form = is_class_form form
form_suits does.Cast form = is_class_form form
form_suits does.InstanceOf form = is_class_form form
form_suits does.NewArrays form = is_dimensions_form form
form_suits b form = true

abbrev row_suits_as : Option Behaviour → Option Form → Bool
row_suits_as None form = true
row_suits_as (Some b) form = form_suits b form

abbrev row_suits : ℕ → Bool
row_suits op = row_suits_as (behaviour_at op) (form_at op)

-- a test holds at so many numbers from one on
abbrev all_from : (ℕ → Bool) → ℕ → ℕ → Bool
all_from test start zero = true
all_from test start (suc count) = test start && all_from test (suc start) count

all_at : (test : ℕ → Bool) (start count n : ℕ) → all_from test start count ≡ true → n < count → test (start + n) ≡ true
all_at test start zero n all below = absurd (omega arith)
all_at test start (suc count) zero all below =
    let parts : (test start ≡ true) × (all_from test (suc start) count ≡ true) = and_parts (test start) (all_from test (suc start) count) all in
    ap test (omega arith) ∙ parts.0
all_at test start (suc count) (suc n) all below =
    let parts : (test start ≡ true) × (all_from test (suc start) count ≡ true) = and_parts (test start) (all_from test (suc start) count) all in
    ap test (omega arith) ∙ all_at test (suc start) count n parts.1 (omega arith)

each_row : all_from row_suits 0 202 ≡ true
unfolding form_at behaviour_at
each_row = refl

form_of : (op : ℕ) (b : Behaviour) → behaviour_at op ≡ Some b → form_suits b (form_at op) ≡ true
form_of op b at = elim (cases_lt op 202) [
  | inl below ↦
      subst (λ (o : Option Behaviour). row_suits_as o (form_at op) ≡ true) at
      (subst (λ (n : ℕ). row_suits n ≡ true) (zero-add op) (all_at row_suits 0 202 op each_row below))
  | inr past ↦ absurd (let none : behaviour_at op ≡ None = no_behaviour op (omega arith) in cc (none, at))
]

-- ---- from the bytes

-- an instruction names what its form says
abbrev NamesBy : Table → RawInstr → Option Form → Type 0
NamesBy pool i (Some (Index Class)) = tag_named pool i ≡ 7
NamesBy pool i (Some Dimensions) = (tag_named pool i ≡ 7) × (operand_at i 1 ≤ 255)
NamesBy pool i form = Unit {0}

-- at most 255 brackets are counted
brackets_small : (text : List ℕ) → brackets_of text ≤ 255
brackets_small text = omega (arith, length-take 255 text, length-take (prefix_len is_bracket (take 255 text)) (take 255 text))

dims_small : (pool entries : Table) (n : ℕ) → get_or (map (dims_in pool) entries) n 0 ≤ 255
dims_small pool [] n = omega arith
dims_small pool (e ∷ entries) zero = by_test (entry_tag e == 7)
  where
    by_test : (t : Bool) → (if t then brackets_of (text_at pool (entry_first e)) else 0) ≤ 255
    by_test true = brackets_small (text_at pool (entry_first e))
    by_test false = omega arith
dims_small pool (e ∷ entries) (suc n) = dims_small pool entries n

module _ (pool : Table) where
  by_form : (i : RawInstr) (form : Form) → form_at i.opcode ≡ Some form → NamesBy pool i (Some form) → NamesBy pool i (form_at i.opcode)
  by_form i form e n = subst (λ (o : Option Form). NamesBy pool i o) (sym e) n

  index_named : (pc op n : ℕ) (entry : Entry) (len : ℕ) → Takes op (Index entry) → Names (tags_of pool) n entry
      → NamesBy pool (grammar.narrow pc op (n ∷ []) len) (form_at op)
  index_named pc op n Class len takes h = by_form (grammar.narrow pc op (n ∷ []) len) (Index Class) takes.0 (eqb-true (tag_at pool n) 7 h)
  index_named pc op n Loadable len takes h = by_form (grammar.narrow pc op (n ∷ []) len) (Index Loadable) takes.0 tt
  index_named pc op n TwoWord len takes h = by_form (grammar.narrow pc op (n ∷ []) len) (Index TwoWord) takes.0 tt
  index_named pc op n Field len takes h = by_form (grammar.narrow pc op (n ∷ []) len) (Index Field) takes.0 tt
  index_named pc op n Method len takes h = by_form (grammar.narrow pc op (n ∷ []) len) (Index Method) takes.0 tt
  index_named pc op n InterfaceMethod len takes h = by_form (grammar.narrow pc op (n ∷ []) len) (Index InterfaceMethod) takes.0 tt
  index_named pc op n AnyMethod len takes h = by_form (grammar.narrow pc op (n ∷ []) len) (Index AnyMethod) takes.0 tt

  named_by : (pc : ℕ) (text : List ℕ) (i : RawInstr) → IsInstr (tags_of pool) (dims_of pool) pc text i → NamesBy pool i (form_at i.opcode)
  named_by pc text i (grammar.plain takes) = by_form i Plain takes.0 tt
  named_by pc text i (grammar.byte takes) = by_form i Byte takes.0 tt
  named_by pc text i (grammar.short takes) = by_form i Short takes.0 tt
  named_by pc text i (grammar.local takes) = by_form i Local takes.0 tt
  named_by pc text i (grammar.increment takes) = by_form i Increment takes.0 tt
  named_by pc text i (grammar.byte_index takes h) = by_form i ByteIndex takes.0 tt
  named_by pc text i (grammar.index {op} {a} {b} {entry} takes h) = index_named pc op (u2 a b) entry 3 takes h
  named_by pc text i (grammar.interface takes h) = by_form i Interface takes.0 tt
  named_by pc text i (grammar.array_type takes low high) = by_form i ArrayType takes.0 tt
  named_by pc text i (grammar.dimensions {op} {a} {b} {d} takes h low high) =
      by_form i Dimensions takes.0 (eqb-true (tag_at pool (u2 a b)) 7 h, omega (arith, high, dims_small pool pool (u2 a b)))
  named_by pc text i (grammar.branch takes) = by_form i Branch takes.0 tt
  named_by pc text i (grammar.far_branch takes) = by_form i FarBranch takes.0 tt
  named_by pc text i (grammar.table_switch gap default low high table count takes a b c d e f g) = by_form i TableSwitch takes.0 tt
  named_by pc text i (grammar.lookup_switch gap default count pairs takes a b c d e) = by_form i LookupSwitch takes.0 tt
  named_by pc text i (grammar.wide_local wide takes) = by_form i Local takes.0 tt
  named_by pc text i (grammar.wide_increment wide takes) = by_form i Increment takes.0 tt

  class_form : (i : RawInstr) (o : Option Form) → is_class_form o ≡ true → NamesBy pool i o → tag_named pool i ≡ 7
  class_form i (Some (Index Class)) e n = n
  class_form i o e n = absurd (cc e)

  dimensions_form : (i : RawInstr) (o : Option Form) → is_dimensions_form o ≡ true → NamesBy pool i o → (tag_named pool i ≡ 7) × (operand_at i 1 ≤ 255)
  dimensions_form i (Some Dimensions) e n = n
  dimensions_form i o e n = absurd (cc e)

  class_as : (i : RawInstr) (b : Behaviour) (o : Option Form) → form_suits b o ≡ true → NamesBy pool i o → NamesClassAs pool i b
  class_as i does.New o e n = class_form i o e n
  class_as i does.Cast o e n = class_form i o e n
  class_as i does.InstanceOf o e n = class_form i o e n
  class_as i does.NewArrays o e n = dimensions_form i o e n
  class_as i b o e n = tt

  one_profiled : (pc : ℕ) (text : List ℕ) (i : RawInstr) (b : Behaviour) (e : Effect) → IsInstr (tags_of pool) (dims_of pool) pc text i → Does pool i b e → IsProfiled pool i
  one_profiled pc text i b e is deed = record {
    behaviour = b;
    opcode = deed.opcode;
    suits = suits pool i b e deed.effect_is (class_as i b (form_at i.opcode) (form_of i.opcode b deed.opcode) (named_by pc text i is));
  }

  -- each instruction that has an effect
  pub each_profiled : (pc : ℕ) (bytes : List ℕ) (is : List RawInstr) → AreInstrs (tags_of pool) (dims_of pool) pc bytes is → (i : RawInstr) → IsOneOf i is
      → (b : Behaviour) (e : Effect) → Does pool i b e → IsProfiled pool i
  each_profiled pc bytes is grammar.none i h b e deed = absurd h
  each_profiled pc bytes is (grammar.next text rest {i = first} {is = others} one more) i (inl same) b e deed =
      one_profiled pc text i b e (subst (λ (j : RawInstr). IsInstr (tags_of pool) (dims_of pool) pc text j) (sym same) one) deed
  each_profiled pc bytes is (grammar.next text rest {i = first} {is = others} one more) i (inr h) b e deed =
      each_profiled (pc + length text) rest others more i h b e deed
