-- What class sets say at first is told by the network.
use Rattle.std.proofs.Common.{◌≡◌, inl, inr, ℕ, zero, suc, ◌+◌, ◌<◌, ◌==◌, ◌||◌, Bool, true, false, List, [], ◌∷◌, Option, Some, None, length, subst, arith}
use Rattle.std.specs.Prelude.{Contains, slice_get}
use Rattle.std.proofs.lemmas.Bool.{eq-eqb, or_left, or_right}
use Rattle.std.proofs.lemmas.List.Elements.{All-contains}
use Rattle.ja_base.specs.declared.id.MethodId.{MethodId}
use Rattle.ja_base.specs.declared.java_type.Kind.TheVariants.{R}
use Rattle.ja_base.specs.declared.java_type.JavaType.{JavaType}
use Rattle.ja_ir.specs.declared.program.Parts.{Parts}
use Rattle.ja_ir.specs.declared.class.Field.{Field as FieldInfo}
use Rattle.ja_ir.specs.declared.method.Method.{Method}
use Rattle.ja_ir.specs.declared.entry.Entry.{Entry}
use Rattle.ja_ir.specs.Lookup.{is_member}
use Rattle.ja_ir.specs.Operations.{count_of}
use Rattle.ja_ir.specs.Params.{HasParam, param_types, type_among}
use Rattle.ja_ir.specs.Initializing.{inits_of_class}
use Rattle.ja_ir.specs.Tokens.{fits, fits_shape, shape_of, text_token, lib_token, rarr_token, parr_token, fresh_tokens}
use Rattle.ja_ir.specs.Whole.{IsWhole, IsWholeEntry}
use Rattle.ja_facts.specs.Least.{Each}
use Rattle.ja_facts.specs.Actions.{IsEntry, HasObjects, IsConstructor, IsInitializer}
use Rattle.ja_facts.specs.ClassTables.{token_count}
use Rattle.ja_facts.specs.ClassSets.{IsLibraryBag}
use Rattle.ja_network.specs.declared.cell.Cell.TheVariants.{Environment, Field, Bag, Param}
use Rattle.ja_network.specs.declared.cell.Action.TheVariants.{Enter, Stock}
use Rattle.ja_network.specs.declared.cell.Event.TheVariants.{Reached}
use Rattle.ja_network.specs.Facts.{HasToken, Happens as ItHappens}
use Rattle.ja_cells.specs.Names.{Names, AreNames}
use Rattle.ja_constraints.specs.declared.constraint.Constraint.TheVariants.{Has, Happens}
use Rattle.ja_constraints.specs.Links.{link, copy, gets}
use Rattle.ja_constraints.specs.Flows.{begin_each}
use Rattle.ja_constraints.specs.Starts.{enter_all, enters, gives_to, receives, makes_receiver, constructs, gives_each, gives, hands_over, makes_each, begin_fields, begins_as, first_param}
use Rattle.ja_firing.specs.Tokens.{enters_param, fits_param, passes_to, is_library_bag, stocks}
use Rattle.ja_class_laws.proofs.Lists.{each-left, each-right, each-when, each-unmap}
use Rattle.ja_class_laws.proofs.Telling.{Net, Told, starts-told, below, fired, copied}
use Rattle.ja_class_laws.proofs.TokensBelow.{fresh-below}

-- the place of a parameter among the types
pub place-of : (receiver : Bool) (types : List JavaType) (k : ℕ) (type : JavaType) → type_among receiver types k ≡ Some type → (x : ℕ) × (count_of receiver + x ≡ k) × (slice_get types x ≡ Some type)
place-of true types zero type e = absurd (let x : None ≡ Some type = e in cc)
place-of true types (suc k) type e = (k, omega arith, e)
place-of false types k type e = (k, omega arith, e)

pub library-bag-told : (p : Parts) (t : ℕ) → IsLibraryBag p t → is_library_bag p t ≡ true
library-bag-told p t (inl e) = or_left (t == lib_token p) ((t == rarr_token p) || (t == parr_token p)) (eq-eqb t (lib_token p) e)
library-bag-told p t (inr (inl e)) = or_right (t == lib_token p) ((t == rarr_token p) || (t == parr_token p)) (or_left (t == rarr_token p) (t == parr_token p) (eq-eqb t (rarr_token p) e))
library-bag-told p t (inr (inr e)) = or_right (t == lib_token p) ((t == rarr_token p) || (t == parr_token p)) (or_right (t == rarr_token p) (t == parr_token p) (eq-eqb t (parr_token p) e))

module _ (p : Parts) (names : Names) (whole : IsWhole p) (right : AreNames p names) where
  entry-among : (entries : List Entry) (entry : Entry) → Contains entries entry → Each (Told p names) (enter_all p entries) → Each (Told p names) (enters p entry)
  entry-among [] entry (k, below, e) h = absurd (omega (arith, below))
  entry-among (x ∷ entries) entry (zero, below, e) h = subst (λ (y : Entry). Each (Told p names) (enters p y)) e (each-left (Told p names) (enters p x) (enter_all p entries) h)
  entry-among (x ∷ entries) entry (suc k, below, e) h = entry-among entries entry (k, omega (arith, below), e) (each-right (Told p names) (enters p x) (enter_all p entries) h)

  entry-told : (entry : Entry) → Contains p.entries entry → Each (Told p names) (enters p entry)
  entry-told entry listed = entry-among p.entries entry listed (each-left (Told p names) (enter_all p p.entries) (begin_fields p 0 p.fields) (starts-told p names).1)

  pub entry-runs : (entry : Entry) → Contains p.entries entry → Net p names (ItHappens (Reached entry.method.0 0))
  entry-runs entry listed = (entry-told entry listed).0

  pub initializer-runs : (m : ℕ) → IsInitializer p m → Net p names (ItHappens (Reached m 0))
  initializer-runs m r =
      each-unmap (Told p names) (λ (n : MethodId). Happens (Reached n.0 0)) (inits_of_class (slice_get p.classes r.entry.class.0)) (record { 0 = m })
      (each-left (Told p names) (begin_each (inits_of_class (slice_get p.classes r.entry.class.0))) (gives_to p r.entry (slice_get p.methods r.entry.method.0)) (entry-told r.entry r.listed).1) r.initializes

  given-told : (entry : Entry) (method : Method) → IsEntry p entry method → Each (Told p names) (gives_to p entry (Some method))
  given-told entry method is = subst (λ (o : Option Method). Each (Told p names) (gives_to p entry o)) is.found
      (each-right (Told p names) (begin_each (inits_of_class (slice_get p.classes entry.class.0))) (gives_to p entry (slice_get p.methods entry.method.0)) (entry-told entry is.listed).1)

  receiver-told : (entry : Entry) → HasObjects p entry → Each (Told p names) (makes_receiver p entry.class.0 entry.method.0)
  receiver-told entry objects = each-when (Told p names) (is_member objects.method.flags) (makes_receiver p entry.class.0 entry.method.0) objects.member
      (each-left (Told p names) (receives p entry objects.method) (gives_each p entry.method.0 (first_param objects.method) (param_types objects.method)) (given-told entry objects.method objects.is_entry))

  class-below : (entry : Entry) → Contains p.entries entry → entry.class.0 < token_count p
  class-below entry listed = let e : entry.class.0 < length p.classes = (All-contains (IsWholeEntry p) p.entries entry whole.entries listed).class in omega arith

  pub env-object : (entry : Entry) → HasObjects p entry → Net p names (HasToken Environment entry.class.0)
  env-object entry objects = (receiver-told entry objects).0 (class-below entry objects.is_entry.listed)

  pub entry-receives : (entry : Entry) → HasObjects p entry → Net p names (HasToken (Param entry.method.0 0) entry.class.0)
  entry-receives entry objects = (receiver-told entry objects).1.0 (class-below entry objects.is_entry.listed)

  constructs-told : (entry : Entry) → HasObjects p entry → (m : ℕ) → IsConstructor p entry.class.0 m → Each (Told p names) (constructs entry.class.0 (Some m))
  constructs-told entry objects m is = subst (λ (o : Option ℕ). Each (Told p names) (constructs entry.class.0 o)) is (receiver-told entry objects).1.1

  pub constructor-runs : (entry : Entry) → HasObjects p entry → (m : ℕ) → IsConstructor p entry.class.0 m → Net p names (ItHappens (Reached m 0))
  constructor-runs entry objects m is = (constructs-told entry objects m is).0

  pub constructor-receives : (entry : Entry) → HasObjects p entry → (m : ℕ) → IsConstructor p entry.class.0 m → Net p names (HasToken (Param m 0) entry.class.0)
  constructor-receives entry objects m is = (constructs-told entry objects m is).1.0 (class-below entry objects.is_entry.listed)

  -- ---- parameters

  gives-among : (m k : ℕ) (types : List JavaType) (x : ℕ) (type : JavaType) → slice_get types x ≡ Some type → Each (Told p names) (gives_each p m k types) → Each (Told p names) (gives p m (k + x) type)
  gives-among m k [] x type e h = absurd (let y : None ≡ Some type = e in cc)
  gives-among m k (first ∷ types) zero type e h =
      let same : first ≡ type = (let y : Some first ≡ Some type = e in cc) in
      let none : k ≡ k + 0 = omega arith in
      subst (λ n. Each (Told p names) (gives p m n type)) none (subst (λ (y : JavaType). Each (Told p names) (gives p m k y)) same (each-left (Told p names) (gives p m k first) (gives_each p m (suc k) types) h))
  gives-among m k (first ∷ types) (suc x) type e h =
      let one : suc k + x ≡ k + suc x = omega arith in
      subst (λ n. Each (Told p names) (gives p m n type)) one (gives-among m (suc k) types x type e (each-right (Told p names) (gives p m k first) (gives_each p m (suc k) types) h))

  param-told : (entry : Entry) (method : Method) (k : ℕ) (type : JavaType) → IsEntry p entry method → HasParam method k type → Each (Told p names) (gives p entry.method.0 k type)
  param-told entry method k type is has =
      let place = place-of (is_member method.flags) (param_types method) k type has in
      subst (λ n. Each (Told p names) (gives p entry.method.0 n type)) place.1
      (gives-among entry.method.0 (first_param method) (param_types method) place.0 type place.2
      (each-right (Told p names) (receives p entry method) (gives_each p entry.method.0 (first_param method) (param_types method)) (given-told entry method is)))

  pub env-fresh : (entry : Entry) (method : Method) (k t : ℕ) (type : JavaType) → IsEntry p entry method → HasParam method k type → Contains (fresh_tokens p type) t → Net p names (HasToken Environment t)
  env-fresh entry method k t type is has listed =
      each-unmap (Told p names) (Has Environment) (fresh_tokens p type) t (each-left (Told p names) (makes_each (fresh_tokens p type)) (hands_over entry.method.0 k type.kind) (param-told entry method k type is has)) listed
      (fresh-below p type t listed)

  pub entry-takes : (entry : Entry) (method : Method) (k t : ℕ) (type : JavaType) → IsEntry p entry method → HasParam method k type → type.kind ≡ R → fits p t type.name ≡ true
      → Net p names (HasToken Environment t) → Net p names (HasToken (Param entry.method.0 k) t)
  entry-takes entry method k t type is has reference fit h =
      let told : Each (Told p names) (link Environment (Enter entry.method.0 k)) = subst (λ kind. Each (Told p names) (hands_over entry.method.0 k kind)) reference
      (each-right (Told p names) (makes_each (fresh_tokens p type)) (hands_over entry.method.0 k type.kind) (param-told entry method k type is has)) in
      let entered : Each (Told p names) (enters_param p entry.method.0 k t (slice_get p.methods entry.method.0)) = fired p names whole right Environment (Enter entry.method.0 k) t h told in
      let there : Each (Told p names) (fits_param p entry.method.0 k t (type_among (is_member method.flags) (param_types method) k)) = subst (λ (o : Option Method). Each (Told p names) (enters_param p entry.method.0 k t o)) is.found entered in
      let passes : Each (Told p names) (passes_to p (Param entry.method.0 k) t type.name) = subst (λ (o : Option JavaType). Each (Told p names) (fits_param p entry.method.0 k t o)) has there in
      (each-when (Told p names) (fits_shape p t (shape_of p type.name)) (gets (Param entry.method.0 k) t) fit passes).0 (below p names Environment t h)

  pub env-bag : (b t : ℕ) → IsLibraryBag p b → Net p names (HasToken Environment b) → Net p names (HasToken Environment t) → Net p names (HasToken (Bag b) t)
  env-bag b t is h other =
      let stocked : Each (Told p names) (stocks p b) = fired p names whole right Environment Stock b h ((starts-told p names).0, tt) in
      copied p names whole right Environment (Bag b) t other (each-when (Told p names) (is_library_bag p b) (copy Environment (Bag b)) (library-bag-told p b is) stocked)

  field-among : (f : ℕ) (fields : List FieldInfo) (x : ℕ) (field : FieldInfo) → slice_get fields x ≡ Some field → Each (Told p names) (begin_fields p f fields) → Each (Told p names) (begins_as p (f + x) field)
  field-among f [] x field e h = absurd (let y : None ≡ Some field = e in cc)
  field-among f (first ∷ fields) zero field e h =
      let same : first ≡ field = (let y : Some first ≡ Some field = e in cc) in
      let none : f ≡ f + 0 = omega arith in
      subst (λ n. Each (Told p names) (begins_as p n field)) none (subst (λ (y : FieldInfo). Each (Told p names) (begins_as p f y)) same (each-left (Told p names) (begins_as p f first) (begin_fields p (suc f) fields) h))
  field-among f (first ∷ fields) (suc x) field e h =
      let one : suc f + x ≡ f + suc x = omega arith in
      subst (λ n. Each (Told p names) (begins_as p n field)) one (field-among (suc f) fields x field e (each-right (Told p names) (begins_as p f first) (begin_fields p (suc f) fields) h))

  pub text-field : (f : ℕ) (field : FieldInfo) → slice_get p.fields f ≡ Some field → field.text ≡ true → Net p names (HasToken (Field f) (text_token p))
  text-field f field found text =
      let none : 0 + f ≡ f = omega arith in
      let told : Each (Told p names) (begins_as p f field) = subst (λ n. Each (Told p names) (begins_as p n field)) none
      (field-among 0 p.fields f field found (each-right (Told p names) (enter_all p p.entries) (begin_fields p 0 p.fields) (starts-told p names).1)) in
      (each-when (Told p names) field.text (gets (Field f) (text_token p)) text told).0 (omega arith)
