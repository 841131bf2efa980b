-- What is told at first means what follows by the rules of class sets.
use Rattle.std.proofs.Common.{◌≡◌, ℕ, suc, ◌+◌, Bool, true, false, List, [], ◌∷◌, Option, Some, None, refl, sym, ap, subst, ◌∙◌, arith}
use Rattle.std.specs.Prelude.{Contains, slice_get}
use Rattle.std.proofs.lemmas.Option.{same_Some}
use Rattle.ja_base.specs.declared.id.MethodId.{MethodId}
use Rattle.ja_base.specs.declared.java_type.Kind.{Kind}
use Rattle.ja_base.specs.declared.java_type.Kind.TheVariants.{P1, P2, R, T}
use Rattle.ja_base.specs.declared.java_type.JavaType.{JavaType}
use Rattle.ja_ir.specs.declared.program.Parts.{Parts}
use Rattle.ja_ir.specs.declared.class.Field.{Field as FieldInfo}
use Rattle.ja_ir.specs.declared.method.Method.{Method}
use Rattle.ja_ir.specs.declared.entry.Entry.{Entry}
use Rattle.ja_ir.specs.Lookup.{is_member}
use Rattle.ja_ir.specs.Operations.{count_of}
use Rattle.ja_ir.specs.Params.{HasParam, param_types, type_among}
use Rattle.ja_ir.specs.Entries.{constructor_of}
use Rattle.ja_ir.specs.Initializing.{inits_of_class}
use Rattle.ja_ir.specs.Tokens.{fits, text_token, fresh_tokens}
use Rattle.ja_facts.specs.Least.{Each}
use Rattle.ja_facts.proofs.LeastLaws.{Least-is_solution}
use Rattle.ja_facts.specs.Actions.{IsEntry, HasObjects}
use Rattle.ja_facts.specs.Analyses.{Classes}
use Rattle.ja_facts.specs.ClassSets as class_sets
use Rattle.ja_facts.specs.ClassSets.{Fact as ClassFact, Rule as ClassRule, InEnv, InParam, InField}
use Rattle.ja_network.specs.declared.cell.Cell.TheVariants.{Environment, Field}
use Rattle.ja_network.specs.declared.cell.Event.TheVariants.{Reached}
use Rattle.ja_constraints.specs.declared.constraint.Constraint.TheVariants.{Has, Happens}
use Rattle.ja_constraints.specs.Links.{gets}
use Rattle.ja_constraints.specs.Flows.{begin_each}
use Rattle.ja_constraints.specs.Starts.{starts, enter_all, enters, gives_to, receives, makes_receiver, constructs, gives_each, gives, hands_over, makes_each, begin_fields, begins_as, first_param}
use Rattle.ja_class_laws.proofs.Lists.{each-append, each-if, each-map, first-in, later-in}
use Rattle.ja_class_laws.proofs.Meaning.{Good}

-- the type of a parameter, by its place among the types
pub typed-at : (receiver : Bool) (types : List JavaType) (k : ℕ) (type : JavaType) → slice_get types k ≡ Some type → type_among receiver types (count_of receiver + k) ≡ Some type
typed-at true types k type e = let s : 1 + k ≡ suc k = omega arith in ap (type_among true types) s ∙ e
typed-at false types k type e = let s : 0 + k ≡ k = omega arith in ap (slice_get types) s ∙ e

module _ (p : Parts) where
  close : (ps : List ClassFact) (f : ClassFact) → ClassRule p ps f → Each (Classes p) ps → Classes p f
  close = Least-is_solution (ClassRule p)

  constructed : (entry : Entry) → HasObjects p entry → (o : Option ℕ) → constructor_of p entry.class.0 ≡ o → Each (Good p) (constructs entry.class.0 o)
  constructed entry objects None e = tt
  constructed entry objects (Some m) e =
      (close [] (class_sets.Reached m 0) (class_sets.constructor_runs entry objects e) tt, (close [] (InParam m 0 entry.class.0) (class_sets.constructor_receives entry objects e) tt, tt))

  receiver : (entry : Entry) → HasObjects p entry → Each (Good p) (makes_receiver p entry.class.0 entry.method.0)
  receiver entry objects =
      let made : Classes p (InEnv entry.class.0) = close [] (InEnv entry.class.0) (class_sets.env_object entry objects) tt in
      let taken : Classes p (InParam entry.method.0 0 entry.class.0) = close [] (InParam entry.method.0 0 entry.class.0) (class_sets.entry_receives entry objects) tt in
      (made, (taken, constructed entry objects (constructor_of p entry.class.0) refl))

  handed : (entry : Entry) (method : Method) (k : ℕ) (type : JavaType) → IsEntry p entry method → HasParam method k type → (kind : Kind) → type.kind ≡ kind → Each (Good p) (hands_over entry.method.0 k kind)
  handed entry method k type is has R e = (takes, tt)
    where
      takes : (t : ℕ) → Classes p (InEnv t) → (other : Method) (other_type : JavaType) → slice_get p.methods entry.method.0 ≡ Some other → HasParam other k other_type → fits p t other_type.name ≡ true → Classes p (InParam entry.method.0 k t)
      takes t h other other_type found other_has fit =
          let same : method ≡ other = same_Some method other (sym is.found ∙ found) in
          let types : type ≡ other_type = same_Some type other_type (sym (subst (λ (x : Method). HasParam x k type) same has) ∙ other_has) in
          close (InEnv t ∷ []) (InParam entry.method.0 k t) (class_sets.entry_takes entry method k type is has e (subst (λ (x : JavaType). fits p t x.name ≡ true) (sym types) fit)) (h, tt)
  handed entry method k type is has P1 e = tt
  handed entry method k type is has P2 e = tt
  handed entry method k type is has T e = tt

  given-one : (entry : Entry) (method : Method) (k : ℕ) (type : JavaType) → IsEntry p entry method → HasParam method k type → Each (Good p) (gives p entry.method.0 k type)
  given-one entry method k type is has =
      each-append (Good p) (makes_each (fresh_tokens p type)) (hands_over entry.method.0 k type.kind)
      (each-map (Good p) (Has Environment) (fresh_tokens p type) (λ t fresh. close [] (InEnv t) (class_sets.env_fresh entry method k t type is has fresh) tt))
      (handed entry method k type is has type.kind refl)

  given : (entry : Entry) (method : Method) → IsEntry p entry method → (k : ℕ) (types : List JavaType) → ((x : ℕ) (type : JavaType) → slice_get types x ≡ Some type → HasParam method (k + x) type)
      → Each (Good p) (gives_each p entry.method.0 k types)
  given entry method is k [] has = tt
  given entry method is k (type ∷ types) has =
      let here : HasParam method k type = let e : k + 0 ≡ k = omega arith in subst (λ n. HasParam method n type) e (has 0 type refl) in
      each-append (Good p) (gives p entry.method.0 k type) (gives_each p entry.method.0 (suc k) types) (given-one entry method k type is here)
      (given entry method is (suc k) types (λ x other e. let n : k + suc x ≡ suc k + x = omega arith in subst (λ n. HasParam method n other) n (has (suc x) other e)))

  entered : (entry : Entry) → Contains p.entries entry → (o : Option Method) → slice_get p.methods entry.method.0 ≡ o → Each (Good p) (gives_to p entry o)
  entered entry listed None e = tt
  entered entry listed (Some method) e =
      let is : IsEntry p entry method = record { listed = listed; found = e } in
      each-append (Good p) (receives p entry method) (gives_each p entry.method.0 (first_param method) (param_types method))
      (each-if (Good p) (is_member method.flags) (makes_receiver p entry.class.0 entry.method.0) (λ member. receiver entry (record { method = method; is_entry = is; member = member })))
      (given entry method is (first_param method) (param_types method) (typed-at (is_member method.flags) (param_types method)))

  one-entry : (entry : Entry) → Contains p.entries entry → Each (Good p) (enters p entry)
  one-entry entry listed =
      let runs : Classes p (class_sets.Reached entry.method.0 0) = close [] (class_sets.Reached entry.method.0 0) (class_sets.entry_runs entry listed) tt in
      let inits : Each (Good p) (begin_each (inits_of_class (slice_get p.classes entry.class.0))) =
      each-map (Good p) (λ (n : MethodId). Happens (Reached n.0 0)) (inits_of_class (slice_get p.classes entry.class.0))
      (λ n c. close [] (class_sets.Reached n.0 0) (class_sets.initializer_runs (record { entry = entry; listed = listed; initializes = c })) tt) in
      (runs, each-append (Good p) (begin_each (inits_of_class (slice_get p.classes entry.class.0))) (gives_to p entry (slice_get p.methods entry.method.0)) inits (entered entry listed (slice_get p.methods entry.method.0) refl))

  all-entries : (entries : List Entry) → ((entry : Entry) → Contains entries entry → Contains p.entries entry) → Each (Good p) (enter_all p entries)
  all-entries [] h = tt
  all-entries (entry ∷ entries) h = each-append (Good p) (enters p entry) (enter_all p entries) (one-entry entry (h entry (first-in entry entries))) (all-entries entries (λ e c. h e (later-in entry entries e c)))

  fields : (f : ℕ) (rest : List FieldInfo) → ((x : ℕ) (field : FieldInfo) → slice_get rest x ≡ Some field → slice_get p.fields (f + x) ≡ Some field) → Each (Good p) (begin_fields p f rest)
  fields f [] h = tt
  fields f (field ∷ rest) h =
      let found : slice_get p.fields f ≡ Some field = let e : f + 0 ≡ f = omega arith in subst (λ n. slice_get p.fields n ≡ Some field) e (h 0 field refl) in
      each-append (Good p) (begins_as p f field) (begin_fields p (suc f) rest)
      (each-if (Good p) field.text (gets (Field f) (text_token p)) (λ text. (close [] (InField f (text_token p)) (class_sets.text_field field found text) tt, tt)))
      (fields (suc f) rest (λ x other e. let n : f + suc x ≡ suc f + x = omega arith in subst (λ n. slice_get p.fields n ≡ Some other) n (h (suc x) other e)))

  pub starts-sound : Each (Good p) (starts p)
  starts-sound =
      let begun : Each (Good p) (begin_fields p 0 p.fields) = fields 0 p.fields (λ x field e. let n : 0 + x ≡ x = omega arith in subst (λ k. slice_get p.fields k ≡ Some field) (sym n) e) in
      ((λ t h. h), each-append (Good p) (enter_all p p.entries) (begin_fields p 0 p.fields) (all-entries p.entries (λ e c. c)) begun)
