-- The tests of an instruction by tables say what the tables tell.
use Rattle.std.proofs.Common.{◌≡◌, ℕ, suc, ◌+◌, Bool, true, false, refl, sym, ap, ◌∙◌, subst, arith, inl, inr, ⊎_elim, List, [], ◌∷◌}
use Rattle.std.specs.Prelude.{◌&&◌, nat_lt, Option, Some, None, Contains, slice_get, slice_index_or, if◌then◌else◌}
use Rattle.std.specs.List.{list_any}
use Rattle.std.proofs.lemmas.Bool.{and_parts, and_from, or_cases, or_left, or_right, false≢true, ltb-true, lt-ltb}
use Rattle.std.proofs.lemmas.List.Folds.{list_any_at}
use Rattle.ja_ir.specs.declared.program.Parts.{Parts}
use Rattle.ja_ir.specs.declared.method.Method.{Method}
use Rattle.ja_ir.specs.declared.method.Instr.{Instr}
use Rattle.ja_ir.specs.Params.{param_count}
use Rattle.ja_facts.specs.declared.facts.Facts.{Facts}
use Rattle.ja_facts.specs.Slots.{Slot, Local as InLocal, OnStack as InStack, argument}
use Rattle.ja_facts.specs.ClassSets.{CallsAbstract, CallsLibrary}
use Rattle.ja_facts.specs.Sharing.{OfSlot, Statics, Root, Arg, StaticFields, IsRootOf, root_name}
use Rattle.ja_facts.specs.FactTables.{targets_at, slot_count, has_effect}
use Rattle.ja_facts.specs.Told.{IsNumbered, numbered_local, numbered_stack, IsNamed, named_slot, named_statics, PairHas, IsEffectNumber, effect_on_argument, effect_on_statics, EffectHas, GoesToAbstract}
use Rattle.ja_facts.specs.Formulas.{any_below, IsAffected}
use Rattle.ja_work.specs.Ends.{AreTests, AreAffected}
use Rattle.ja_work.specs.Told.{told, number_of, has_numbers, set_at, has_slots, is_empty, lacks_code, tests_of, has_statics, changes_param, changes_statics, affected_of}
use Rattle.ja_work.proofs.Fitting.{any_some, some_any}

-- the number of a slot
numbered_is : (method : Method) (z : Slot) (n : ℕ) → IsNumbered method z n → number_of method z ≡ Some n
numbered_is method z n (numbered_local {l = l} lt) = ap (λ c. if c then Some l else None) (lt-ltb l method.locals lt)
numbered_is method z n (numbered_stack k lt e) = ap (λ c. if c then Some (method.locals + k) else None) (lt-ltb k method.stack lt) ∙ ap Some (sym e)

is_numbered : (method : Method) (z : Slot) (n : ℕ) → number_of method z ≡ Some n → IsNumbered method z n
is_numbered method (InLocal l) n e = by_test (nat_lt l method.locals) refl e
  where
    by_test : (c : Bool) → nat_lt l method.locals ≡ c → (if c then Some l else None) ≡ Some n → IsNumbered method (InLocal l) n
    by_test true t s = let same : l ≡ n = cc s in subst (IsNumbered method (InLocal l)) same (numbered_local (ltb-true l method.locals t))
    by_test false t s = absurd (cc s)
is_numbered method (InStack k) n e = by_test (nat_lt k method.stack) refl e
  where
    by_test : (c : Bool) → nat_lt k method.stack ≡ c → (if c then Some (method.locals + k) else None) ≡ Some n → IsNumbered method (InStack k) n
    by_test true t s = let same : method.locals + k ≡ n = cc s in numbered_stack k (ltb-true k method.stack t) (sym same)
    by_test false t s = absurd (cc s)

-- the name of a slot has the slot's number
name_number : (method : Method) (z : Slot) (n : ℕ) → IsNamed method (OfSlot z) n → number_of method z ≡ Some n
name_number method z n (named_slot is) = numbered_is method z n is

statics_number : (method : Method) (n : ℕ) → IsNamed method Statics n → n ≡ slot_count method
statics_number method n (named_statics e) = e

-- a pair of numbers that is in a set
pair_from : (set : List (List Bool)) (a b : Option ℕ) → has_numbers set a b ≡ true → (x : ℕ) × (y : ℕ) × (a ≡ Some x) × (b ≡ Some y) × (slice_index_or (slice_index_or set x []) y false ≡ true)
pair_from set None b e = absurd (false≢true e)
pair_from set (Some x) None e = absurd (false≢true e)
pair_from set (Some x) (Some y) e = (x, y, refl, refl, e)

pair_to : (set : List (List Bool)) (a b : Option ℕ) (x y : ℕ) → a ≡ Some x → b ≡ Some y → slice_index_or (slice_index_or set x []) y false ≡ true → has_numbers set a b ≡ true
pair_to set a b x y e d is = ap (λ o. has_numbers set o b) e ∙ ap (λ o. has_numbers set (Some x) o) d ∙ is

module _ (p : Parts) (sets : List (List (List (List Bool)))) (m i : ℕ) where
  slots_told : (y x : Slot) → has_slots (slice_get p.methods m) (set_at sets m i) y x ≡ true → PairHas p sets m i (OfSlot y) (OfSlot x)
  slots_told y x e = by_method (slice_get p.methods m) refl e
    where
      by_method : (o : Option Method) → slice_get p.methods m ≡ o → has_slots o (set_at sets m i) y x ≡ true → PairHas p sets m i (OfSlot y) (OfSlot x)
      by_method None is h = absurd (false≢true h)
      by_method (Some method) is h =
          let r = pair_from (set_at sets m i) (number_of method y) (number_of method x) h in
          record { method = method; found = is; first = r.0; second = r.1; is_first = named_slot (is_numbered method y r.0 r.2); is_second = named_slot (is_numbered method x r.1 r.3); member = r.4 }

  told_slots : (y x : Slot) → PairHas p sets m i (OfSlot y) (OfSlot x) → has_slots (slice_get p.methods m) (set_at sets m i) y x ≡ true
  told_slots y x h = ap (λ o. has_slots o (set_at sets m i) y x) h.found
      ∙ pair_to (set_at sets m i) (number_of h.method y) (number_of h.method x) h.first h.second (name_number h.method y h.first h.is_first) (name_number h.method x h.second h.is_second) h.member

  statics_told : (y : Slot) → has_statics (slice_get p.methods m) (set_at sets m i) y ≡ true → PairHas p sets m i (OfSlot y) Statics
  statics_told y e = by_method (slice_get p.methods m) refl e
    where
      by_method : (o : Option Method) → slice_get p.methods m ≡ o → has_statics o (set_at sets m i) y ≡ true → PairHas p sets m i (OfSlot y) Statics
      by_method None is h = absurd (false≢true h)
      by_method (Some method) is h =
          let r = pair_from (set_at sets m i) (number_of method y) (Some (slot_count method)) h in
          let same : slot_count method ≡ r.1 = (let e' = r.3 in cc e') in
          record { method = method; found = is; first = r.0; second = r.1; is_first = named_slot (is_numbered method y r.0 r.2); is_second = named_statics (sym same); member = r.4 }

  told_statics : (y : Slot) → PairHas p sets m i (OfSlot y) Statics → has_statics (slice_get p.methods m) (set_at sets m i) y ≡ true
  told_statics y h = ap (λ o. has_statics o (set_at sets m i) y) h.found
      ∙ pair_to (set_at sets m i) (number_of h.method y) (Some (slot_count h.method)) h.first h.second (name_number h.method y h.first h.is_first) (ap Some (sym (statics_number h.method h.second h.is_second))) h.member

-- one of a list passes a test
any_listed : {X : Type 0} (test : X → Bool) (xs : List X) → list_any test xs ≡ true → (x : X) × Contains xs x × (test x ≡ true)
any_listed test [] e = absurd (false≢true e)
any_listed test (x ∷ xs) e = ⊎_elim
    (λ here. (x, (0, omega arith, refl), here))
    (λ there. let r = any_listed test xs there in (r.0, (suc r.1.0, (let lt = r.1.1 in omega arith), r.1.2), r.2))
    (or_cases (test x) (list_any test xs) e)

empty_code : (code : List Instr) → is_empty code ≡ true → code ≡ []
empty_code [] e = refl
empty_code (x ∷ xs) e = absurd (false≢true e)

module _ (p : Parts) (f : Facts) (m i : ℕ) where
  abstract_told : (tests_of p f m i).abstract ≡ true → (n : ℕ) × (told p f).classes (CallsAbstract m i n)
  abstract_told e =
      let r = any_listed (λ n. lacks_code (slice_get p.methods n)) (targets_at f.graph m i).methods e in
      (r.0, inr (by_method r.0 r.1 (slice_get p.methods r.0) refl r.2))
    where
      by_method : (n : ℕ) → Contains (targets_at f.graph m i).methods n → (o : Option Method) → slice_get p.methods n ≡ o → lacks_code o ≡ true → GoesToAbstract p f.graph m i n
      by_method n listed None is h = absurd (false≢true h)
      by_method n listed (Some method) is h = record { listed = listed; method = method; found = is; none = empty_code method.code h }

  told_abstract : ((n : ℕ) × (told p f).classes (CallsAbstract m i n)) → (tests_of p f m i).abstract ≡ true
  told_abstract (n, inl none) = absurd none
  told_abstract (n, inr goes) =
      let test : ℕ → Bool = λ x. lacks_code (slice_get p.methods x) in
      let is : test n ≡ true = ap lacks_code goes.found ∙ ap is_empty goes.none in
      list_any_at test (targets_at f.graph m i).methods goes.listed.0 n goes.listed.1 (ap test goes.listed.2 ∙ is)

  library_told : (told p f).classes (CallsLibrary m i) → (tests_of p f m i).library ≡ true
  library_told (inl none) = absurd none
  library_told (inr goes) = goes

  pub tests_told : AreTests (told p f) m i (tests_of p f m i)
  tests_told = record {
    reaches = λ y x. (slots_told p f.reach m i y x, told_slots p f.reach m i y x);
    shares = λ y x. (slots_told p f.pairs m i y x, told_slots p f.pairs m i y x);
    abstract = (abstract_told, told_abstract);
    library = ((λ e. inr e), library_told);
  }

  -- effects on parameters and on the static fields
  param_told : (n k : ℕ) → changes_param (slice_get p.methods n) f.effects n k ≡ true → EffectHas p f.effects n (Arg k)
  param_told n k e = by_method (slice_get p.methods n) refl e
    where
      by_method : (o : Option Method) → slice_get p.methods n ≡ o → changes_param o f.effects n k ≡ true → EffectHas p f.effects n (Arg k)
      by_method None is h = absurd (false≢true h)
      by_method (Some method) is h =
          let parts = and_parts (nat_lt k (param_count method)) (has_effect f.effects n k) h in
          record { method = method; found = is; k = k; is = effect_on_argument (ltb-true k (param_count method) parts.0); member = parts.1 }

  told_param : (n k : ℕ) → EffectHas p f.effects n (Arg k) → changes_param (slice_get p.methods n) f.effects n k ≡ true
  told_param n k h = ap (λ o. changes_param o f.effects n k) h.found ∙ by_number h.k h.is h.member
    where
      by_number : (j : ℕ) → IsEffectNumber h.method (Arg k) j → has_effect f.effects n j ≡ true → changes_param (Some h.method) f.effects n k ≡ true
      by_number j (effect_on_argument lt) is = and_from (nat_lt k (param_count h.method)) (has_effect f.effects n k) (lt-ltb k (param_count h.method) lt) is

  fields_told : (n : ℕ) → changes_statics (slice_get p.methods n) f.effects n ≡ true → EffectHas p f.effects n StaticFields
  fields_told n e = by_method (slice_get p.methods n) refl e
    where
      by_method : (o : Option Method) → slice_get p.methods n ≡ o → changes_statics o f.effects n ≡ true → EffectHas p f.effects n StaticFields
      by_method None is h = absurd (false≢true h)
      by_method (Some method) is h = record { method = method; found = is; k = param_count method; is = effect_on_statics refl; member = h }

  told_fields : (n : ℕ) → EffectHas p f.effects n StaticFields → changes_statics (slice_get p.methods n) f.effects n ≡ true
  told_fields n h = ap (λ o. changes_statics o f.effects n) h.found ∙ by_number h.k h.is h.member
    where
      by_number : (j : ℕ) → IsEffectNumber h.method StaticFields j → has_effect f.effects n j ≡ true → changes_statics (Some h.method) f.effects n ≡ true
      by_number j (effect_on_statics e) is = ap (λ x. has_effect f.effects n x) (sym e) ∙ is

  pub affected_told : (n count under : ℕ) → AreAffected (told p f) m i n count under (affected_of p f m i n count under)
  affected_told n count under y = (forward, backward)
    where
      test : ℕ → Bool
      test k = changes_param (slice_get p.methods n) f.effects n k && (tests_of p f m i).shares y (argument under k)

      statics : Bool
      statics = changes_statics (slice_get p.methods n) f.effects n && has_statics (slice_get p.methods m) (set_at f.pairs m i) y

      forward : affected_of p f m i n count under y ≡ true → IsAffected (told p f) m i n count under y
      forward e = ⊎_elim
          (λ some.
          let r = any_some test count some in
          let parts = and_parts (changes_param (slice_get p.methods n) f.effects n r.0) ((tests_of p f m i).shares y (argument under r.0)) r.2 in
          record { root = Arg r.0; is_root = r.1; effect = param_told n r.0 parts.0; pair = slots_told p f.pairs m i y (argument under r.0) parts.1 })
          (λ fields.
          let parts = and_parts (changes_statics (slice_get p.methods n) f.effects n) (has_statics (slice_get p.methods m) (set_at f.pairs m i) y) fields in
          record { root = StaticFields; is_root = tt; effect = fields_told n parts.0; pair = statics_told p f.pairs m i y parts.1 })
          (or_cases (any_below test count) statics e)

      backward : IsAffected (told p f) m i n count under y → affected_of p f m i n count under y ≡ true
      backward h = by_root h.root h.is_root h.effect h.pair
        where
          by_root : (r : Root) → IsRootOf count r → EffectHas p f.effects n r → PairHas p f.pairs m i (OfSlot y) (root_name under r) → affected_of p f m i n count under y ≡ true
          by_root (Arg k) lt effect pair = or_left (any_below test count) statics
              (some_any test count k lt (and_from (changes_param (slice_get p.methods n) f.effects n k) ((tests_of p f m i).shares y (argument under k)) (told_param n k effect) (told_slots p f.pairs m i y (argument under k) pair)))
          by_root StaticFields _ effect pair = or_right (any_below test count) statics
              (and_from (changes_statics (slice_get p.methods n) f.effects n) (has_statics (slice_get p.methods m) (set_at f.pairs m i) y) (told_fields n effect) (told_statics p f.pairs m i y pair))
