-- Each instruction has at most one effect.
use Rattle.std.proofs.Common.{◌≡◌, ℕ, ◌≤◌, Bool, false, IsTrue, List, length, map, Option, Some, None, Result, Ok, Err, IfOk, refl, ap, sym, subst, ◌∙◌}
use Rattle.std.specs.Prelude.{option_map}
use Rattle.std.proofs.lemmas.List.{get_or_past, length-map}
use Rattle.ja_base.specs.declared.java_type.Kind.{Kind}
use Rattle.ja_base.specs.declared.java_type.JavaType.{JavaType}
use Rattle.ja_base.specs.Descriptor.{IsField, IsMethod}
use Rattle.ja_bytes.specs.Longest.{IsWrongAt}
use Rattle.ja_bytes.specs.DescriptorText.{IsFieldDesc, IsMethodText}
use Rattle.ja_pool.specs.Table.{Table, entry_tag, tag_at, member_desc_at, is_member_tag}
use Rattle.ja_code.specs.declared.instr.RawInstr.{RawInstr}
use Rattle.ja_code.specs.declared.behaviour.Behaviour.{Behaviour}
use Rattle.ja_code.specs.declared.behaviour.Behaviour.TheVariants.{Loaded, Access, Invoke}
use Rattle.ja_code.specs.declared.behaviour.FieldAccess.TheVariants.{GetStatic, PutStatic, GetField, PutField}
use Rattle.ja_kinds.specs.declared.effect.Effect.{Effect}
use Rattle.ja_kinds.specs.declared.reading.Part.TheVariants.{Nothing, Constant, Field, Method}
use Rattle.ja_kinds.specs.Effect.{constant_kind, kind_of_type, NamesField, NamesMethod, fixed_effect, loaded_effect, field_effect, method_effect, HasEffect, fixed, loaded, field, method}
use Rattle.ja_code.specs.Grammar.{operand_at}
use Rattle.ja_kinds.specs.InnerReading.{part_of, FindsField, FindsMethod, Finds}

-- what an answer is has what it equals
pub ok_is : {A E : Type 0} (P : A → Type 0) (x : A) (r : Result A E) → IfOk r (λ found. found ≡ x) → P x → IfOk r P
ok_is P x (Ok found) e p = subst P (sym e) p
ok_is P x (Err error) e p = tt

-- what follows from what an answer is
pub if_ok : {A E : Type 0} (P Q : A → Type 0) (r : Result A E) → ((x : A) → P x → Q x) → IfOk r P → IfOk r Q
if_ok P Q (Ok found) f p = f found p
if_ok P Q (Err error) f p = tt

-- no member stands past the end of a pool
pub no_member : (pool : Table) (n : ℕ) → length pool ≤ n → is_member_tag (tag_at pool n) ≡ false
no_member pool n past =
    let beyond : length (map entry_tag pool) ≤ n = rw length-map past in
    let zero_tag : tag_at pool n ≡ 0 = get_or_past (map entry_tag pool) n 0 beyond in
    ap is_member_tag zero_tag

module _ (pool : Table) (i : RawInstr) where
  fixed_part : (b : Behaviour) (e : Effect) → fixed_effect i b ≡ Some e → part_of b ≡ Nothing
  fixed_part Loaded e p = absurd cc
  fixed_part (Access how) e p = absurd cc
  fixed_part (Invoke how) e p = absurd cc
  fixed_part b e p = refl

  loaded_part : (b : Behaviour) (k : Kind) (e : Effect) → loaded_effect b k ≡ Some e → part_of b ≡ Constant
  loaded_part Loaded k e p = refl
  loaded_part b k e p = absurd cc

  field_part : (b : Behaviour) (k : Kind) (e : Effect) → field_effect b k ≡ Some e → part_of b ≡ Field
  field_part (Access GetStatic) k e p = refl
  field_part (Access PutStatic) k e p = refl
  field_part (Access GetField) k e p = refl
  field_part (Access PutField) k e p = refl
  field_part b k e p = absurd cc

  method_part : (b : Behaviour) (taken : List Kind) (given : Option Kind) (e : Effect) → method_effect b taken given ≡ Some e → part_of b ≡ Method
  method_part (Invoke how) taken given e p = refl
  method_part b taken given e p = absurd cc

  fixed_lost : (b : Behaviour) → part_of b ≡ Nothing → None ≡ fixed_effect i b → Finds pool i b None
  fixed_lost b part is e (fixed p) = absurd cc
  fixed_lost b part is e (loaded {kind} t p) = absurd (cc (loaded_part b kind e p))
  fixed_lost b part is e (field {kind} n p) = absurd (cc (field_part b kind e p))
  fixed_lost b part is e (method {taken} {given} n p) = absurd (cc (method_part b taken given e p))

  -- an effect that does not depend on the pool
  pub fixed_found : (b : Behaviour) (found : Option Effect) → part_of b ≡ Nothing → found ≡ fixed_effect i b → Finds pool i b found
  fixed_found b (Some e) part is = fixed (sym is)
  fixed_found b None part is = fixed_lost b part is

  -- the same of an answer
  pub fixed_answer : {E : Type 0} (b : Behaviour) (r : Result (Option Effect) E) → part_of b ≡ Nothing
      → IfOk r (λ found. found ≡ fixed_effect i b) → IfOk r (Finds pool i b)
  fixed_answer b (Ok found) part is = fixed_found b found part is
  fixed_answer b (Err error) part is = tt

  -- what loads a constant
  pub loaded_found : (b : Behaviour) (k : Kind) → part_of b ≡ Constant → constant_kind (tag_at pool (operand_at i 0)) ≡ Some k
      → Finds pool i b (loaded_effect b k)
  loaded_found Loaded k part is = loaded is refl
  loaded_found b k part is = absurd cc

  pub loaded_lost : (b : Behaviour) → part_of b ≡ Constant → constant_kind (tag_at pool (operand_at i 0)) ≡ None → Finds pool i b None
  loaded_lost b part none e (fixed p) = absurd (cc (fixed_part b e p))
  loaded_lost b part none e (loaded t p) = absurd cc
  loaded_lost b part none e (field {kind} n p) = absurd (cc (field_part b kind e p))
  loaded_lost b part none e (method {taken} {given} n p) = absurd (cc (method_part b taken given e p))

  -- what names a field
  pub field_found : (b : Behaviour) (k : Kind) → part_of b ≡ Field → NamesField pool i k → Finds pool i b (field_effect b k)
  field_found (Access GetStatic) k part n = field n refl
  field_found (Access PutStatic) k part n = field n refl
  field_found (Access GetField) k part n = field n refl
  field_found (Access PutField) k part n = field n refl
  field_found b k part n = absurd cc

  pub field_lost : (b : Behaviour) → part_of b ≡ Field → FindsField pool i None → Finds pool i b None
  field_lost b part none e (fixed p) = absurd (cc (fixed_part b e p))
  field_lost b part none e (loaded {kind} t p) = absurd (cc (loaded_part b kind e p))
  field_lost b part none e (field {kind} n p) = none kind n
  field_lost b part none e (method {taken} {given} n p) = absurd (cc (method_part b taken given e p))

  -- what names a method
  pub method_found : (b : Behaviour) (taken : List Kind) (given : Option Kind) → part_of b ≡ Method → NamesMethod pool i taken given
      → Finds pool i b (method_effect b taken given)
  method_found (Invoke how) taken given part n = method n refl
  method_found b taken given part n = absurd cc

  pub method_lost : (b : Behaviour) → part_of b ≡ Method → FindsMethod pool i None → Finds pool i b None
  method_lost b part none e (fixed p) = absurd (cc (fixed_part b e p))
  method_lost b part none e (loaded {kind} t p) = absurd (cc (loaded_part b kind e p))
  method_lost b part none e (field {kind} n p) = absurd (cc (field_part b kind e p))
  method_lost b part none e (method {taken} {given} n p) = none taken given n

-- ---- what an instruction names

module _ (pool : Table) (i : RawInstr) (n : ℕ) (desc : List ℕ) (index : n ≡ operand_at i 0) (at : desc ≡ member_desc_at pool n) where
  desc_is : desc ≡ member_desc_at pool (operand_at i 0)
  desc_is = at ∙ ap (member_desc_at pool) index

  pub field_named : (kind : Kind) (name : List ℕ) → IsTrue (is_member_tag (tag_at pool n)) → IsField desc (record { kind = kind; name = name })
      → NamesField pool i kind
  field_named kind name tag spelled =
      record {
        member = subst (λ (m : ℕ). IsTrue (is_member_tag (tag_at pool m))) index tag;
        type = record { kind = kind; name = name };
        field = subst (λ (text : List ℕ). IsField text (record { kind = kind; name = name })) desc_is spelled;
        same = refl;
      }

  pub field_unnamed : (place : ℕ) → IsWrongAt IsFieldDesc desc place → FindsField pool i None
  field_unnamed place wrong kind names =
      wrong.none (record { type = names.type; field = subst (λ (text : List ℕ). IsField text names.type) (sym desc_is) names.field })

  pub method_named : (params : List JavaType) (res : Option JavaType) (taken : List Kind) (given : Option Kind) → IsTrue (is_member_tag (tag_at pool n))
      → IsMethod desc params res → taken ≡ map kind_of_type params → given ≡ option_map kind_of_type res → NamesMethod pool i taken given
  method_named params res taken given tag m t g =
      record {
        member = subst (λ (m : ℕ). IsTrue (is_member_tag (tag_at pool m))) index tag;
        params = params;
        result = res;
        method = subst (λ (text : List ℕ). IsMethod text params res) desc_is m;
        takes = t;
        gives = g;
      }

  pub method_unnamed : (place : ℕ) → IsWrongAt IsMethodText desc place → FindsMethod pool i None
  method_unnamed place wrong taken given names =
      wrong.none (record { params = names.params; result = names.result; method = subst (λ (text : List ℕ). IsMethod text names.params names.result) (sym desc_is) names.method })

no_truth : (b : Bool) → b ≡ false → IsTrue b → ⊥
no_truth b e t = absurd cc

-- where no member is named, none is found
pub no_field : (pool : Table) (i : RawInstr) → is_member_tag (tag_at pool (operand_at i 0)) ≡ false → FindsField pool i None
no_field pool i none kind names = no_truth (is_member_tag (tag_at pool (operand_at i 0))) none names.member

pub no_method : (pool : Table) (i : RawInstr) → is_member_tag (tag_at pool (operand_at i 0)) ≡ false → FindsMethod pool i None
no_method pool i none taken given names = no_truth (is_member_tag (tag_at pool (operand_at i 0))) none names.member

-- ---- one effect

module _ (field_law : (text : List ℕ) (type other : JavaType) → IsField text type → IsField text other → type ≡ other)
    (method_law : (text : List ℕ) (params others : List JavaType) (res other : Option JavaType) → IsMethod text params res → IsMethod text others other
    → (params ≡ others) × (res ≡ other)) where
  one_field : (pool : Table) (i : RawInstr) (k l : Kind) → NamesField pool i k → NamesField pool i l → k ≡ l
  one_field pool i k l n m =
      n.same ∙ (ap (λ (type : JavaType). type.kind) (field_law (member_desc_at pool (operand_at i 0)) n.type m.type n.field m.field) ∙ sym m.same)

  one_taken : (pool : Table) (i : RawInstr) (ks ls : List Kind) (g h : Option Kind) → NamesMethod pool i ks g → NamesMethod pool i ls h → ks ≡ ls
  one_taken pool i ks ls g h n m =
      n.takes ∙ (ap (map kind_of_type) (method_law (member_desc_at pool (operand_at i 0)) n.params m.params n.result m.result n.method m.method).0 ∙ sym m.takes)

  one_given : (pool : Table) (i : RawInstr) (ks ls : List Kind) (g h : Option Kind) → NamesMethod pool i ks g → NamesMethod pool i ls h → g ≡ h
  one_given pool i ks ls g h n m =
      n.gives ∙ (ap (option_map kind_of_type) (method_law (member_desc_at pool (operand_at i 0)) n.params m.params n.result m.result n.method m.method).1 ∙ sym m.gives)

  pub one_effect : (pool : Table) (i : RawInstr) (b : Behaviour) (e f : Effect) → HasEffect pool i b e → HasEffect pool i b f → e ≡ f
  one_effect pool i b e f (fixed p) (fixed q) = cc
  one_effect pool i b e f (fixed p) (loaded {kind} t q) = absurd (cc (fixed_part pool i b e p, loaded_part pool i b kind f q))
  one_effect pool i b e f (fixed p) (field {kind} n q) = absurd (cc (fixed_part pool i b e p, field_part pool i b kind f q))
  one_effect pool i b e f (fixed p) (method {taken} {given} n q) = absurd (cc (fixed_part pool i b e p, method_part pool i b taken given f q))
  one_effect pool i b e f (loaded {kind} t p) (fixed q) = absurd (cc (fixed_part pool i b f q, loaded_part pool i b kind e p))
  one_effect pool i b e f (loaded {kind = k} t p) (loaded {kind = l} u q) =
      let same : k ≡ l = cc in
      cc
  one_effect pool i b e f (loaded {kind = k} t p) (field {kind = l} n q) = absurd (cc (loaded_part pool i b k e p, field_part pool i b l f q))
  one_effect pool i b e f (loaded {kind = k} t p) (method {taken} {given} n q) = absurd (cc (loaded_part pool i b k e p, method_part pool i b taken given f q))
  one_effect pool i b e f (field {kind} n p) (fixed q) = absurd (cc (fixed_part pool i b f q, field_part pool i b kind e p))
  one_effect pool i b e f (field {kind = k} n p) (loaded {kind = l} t q) = absurd (cc (field_part pool i b k e p, loaded_part pool i b l f q))
  one_effect pool i b e f (field {kind = k} n p) (field {kind = l} m q) =
      let same : k ≡ l = one_field pool i k l n m in
      cc
  one_effect pool i b e f (field {kind} n p) (method {taken} {given} m q) = absurd (cc (field_part pool i b kind e p, method_part pool i b taken given f q))
  one_effect pool i b e f (method {taken} {given} n p) (fixed q) = absurd (cc (fixed_part pool i b f q, method_part pool i b taken given e p))
  one_effect pool i b e f (method {taken} {given} n p) (loaded {kind} t q) = absurd (cc (method_part pool i b taken given e p, loaded_part pool i b kind f q))
  one_effect pool i b e f (method {taken} {given} n p) (field {kind} m q) = absurd (cc (method_part pool i b taken given e p, field_part pool i b kind f q))
  one_effect pool i b e f (method {taken = ks} {given = g} n p) (method {taken = ls} {given = h} m q) =
      let takes : ks ≡ ls = one_taken pool i ks ls g h n m in
      let gives : g ≡ h = one_given pool i ks ls g h n m in
      cc
