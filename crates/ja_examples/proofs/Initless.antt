-- Which class initialisers a program's instructions may run, and which the environment: those that its classes name.
use Rattle.std.proofs.Common.{◌≡◌, ℕ, List, [], Option, Some, None, subst}
use Rattle.std.specs.Prelude.{Contains, slice_get}
use Rattle.ja_base.specs.declared.id.MethodId.{MethodId}
use Rattle.ja_ir.specs.declared.program.Parts.{Parts}
use Rattle.ja_ir.specs.declared.class.Field.{Field}
use Rattle.ja_ir.specs.declared.class.MethodAt.{MethodAt}
use Rattle.ja_ir.specs.declared.class.MethodAt.TheVariants.{Program, Abstract, Library}
use Rattle.ja_ir.specs.declared.method.Method.{Method}
use Rattle.ja_ir.specs.declared.op.CallKind.{CallKind}
use Rattle.ja_ir.specs.declared.op.CallKind.TheVariants.{Virtual, Special, Static, Interface, StaticField, MemberField}
use Rattle.ja_ir.specs.declared.op.Op.{Op}
use Rattle.ja_ir.specs.declared.op.Op.TheVariants.{New, GetStatic, PutStatic, Call}
use Rattle.ja_ir.specs.Initializing.{InitAt, inits_of, inits_of_class, inits_of_field, inits_of_method, inits_of_call}
use Rattle.ja_facts.specs.Actions.{IsInitializer}
use Rattle.ja_examples.proofs.Listed.{no_item}

-- class initialiser n is in the list
abbrev Names : List MethodId → ℕ → Type 0
Names ms n = Contains ms (record { 0 = n })

-- what holds of each class initialiser of each class holds of all that are run
module _ (p : Parts) (P : ℕ → Type 0) (all : (c n : ℕ) → Contains (inits_of_class (slice_get p.classes c)) (record { 0 = n }) → P n) where
  by_field : (field : Option Field) (n : ℕ) → Names (inits_of_field p field) n → P n
  by_field None n l = absurd (no_item (record { 0 = n }) l)
  by_field (Some field) n l = all field.class.0 n l

  by_method : (method : Option Method) (n : ℕ) → Names (inits_of_method p method) n → P n
  by_method None n l = absurd (no_item (record { 0 = n }) l)
  by_method (Some method) n l = all method.class.0 n l

  by_static : (target : Option MethodAt) (n : ℕ) → Names (inits_of_call p Static target) n → P n
  by_static None n l = absurd (no_item (record { 0 = n }) l)
  by_static (Some (Program m)) n l = by_method (slice_get p.methods m.0) n l
  by_static (Some (Abstract m)) n l = absurd (no_item (record { 0 = n }) l)
  by_static (Some Library) n l = absurd (no_item (record { 0 = n }) l)

  by_call : (kind : CallKind) (target : Option MethodAt) (n : ℕ) → Names (inits_of_call p kind target) n → P n
  by_call Static target n l = by_static target n l
  by_call Virtual target n l = absurd (no_item (record { 0 = n }) l)
  by_call Special target n l = absurd (no_item (record { 0 = n }) l)
  by_call Interface target n l = absurd (no_item (record { 0 = n }) l)
  by_call StaticField target n l = absurd (no_item (record { 0 = n }) l)
  by_call MemberField target n l = absurd (no_item (record { 0 = n }) l)

  by_op : (op : Op) (n : ℕ) → Names (inits_of p op) n → P n
  by_op (New token) n l = all token.0 n l
  by_op (GetStatic field) n l = by_field (slice_get p.fields field.0) n l
  by_op (PutStatic field) n l = by_field (slice_get p.fields field.0) n l
  by_op (Call call) n l = by_call call.kind call.found n l
  by_op _ n l = absurd (no_item (record { 0 = n }) l)

  pub of_init : {m i n : ℕ} → InitAt p m i n → P n
  of_init {n = n} x = by_op x.instr.op n x.listed

  pub of_initializer : {m : ℕ} → IsInitializer p m → P m
  of_initializer {m = m} x = all x.entry.class.0 m x.initializes

-- where no class has one, none is run
module _ (p : Parts) (none : (c : ℕ) → inits_of_class (slice_get p.classes c) ≡ []) where
  no_name : (c n : ℕ) → Contains (inits_of_class (slice_get p.classes c)) (record { 0 = n }) → ⊥
  no_name c n l = no_item (record { 0 = n }) (subst (λ (ms : List MethodId). Names ms n) (none c) l)

  pub no_init : {m i n : ℕ} → InitAt p m i n → ⊥
  no_init x = of_init p (λ n. ⊥) no_name x

  pub no_initializer : {m : ℕ} → IsInitializer p m → ⊥
  no_initializer x = of_initializer p (λ n. ⊥) no_name x
