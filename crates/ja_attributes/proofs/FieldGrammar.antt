-- The attributes of a field say what they say as bytes.
use Rattle.std.proofs.Common.{◌≡◌, ℕ, ◌⊎◌, inl, inr, Bool, true, false, List, [], ◌∷◌, ◌++◌, length, refl, sym, ap, subst, ◌∙◌, arith, length-append}
use Rattle.std.proofs.lemmas.Bool.{eqb-true, false≢true}
use Rattle.std.proofs.lemmas.List.{append-nil}
use Rattle.std.specs.Prelude.{Option, Some, None, is_none, codes, cond}
use Rattle.std.specs.Int.{w16, to_be_bytes}
use Rattle.std.specs.List.{flat_map}
use Rattle.ja_bytes.specs.Reading.{Reading, Passes}
use Rattle.ja_pool.specs.Table.{Table}
use Rattle.ja_attributes.specs.declared.fault.AttributeFault.{AttributeFault}
use Rattle.ja_attributes.specs.Part.{Part, u2, choose}
use Rattle.ja_attributes.specs.Attribute.{AttributeInfo, attribute_bytes, is_named, named, IsConstantValue, SayConstant, PassesField}
use Rattle.ja_attributes.specs.Faults.{constant_value, first_constant, field_attribute, field_attributes, passed_over}
use Rattle.ja_attributes.specs.InnerSteps.{behind_all, Head, content_of}
use Rattle.ja_attributes.proofs.Fields.{first_read, second_read, constant_read}
use Rattle.ja_attributes.proofs.Lists.{halves, Says, Said, Run, run_as, listed, folded, numbered, over_said, over_anywhere}

-- ---- one part or another

module _ {F A : Type 0} (first second : Part F A) (old : Reading) (a : A) (new : Reading) where
  pub chosen : (test : Bool) → (choose test first second).passes old a new → ((test ≡ true) × first.passes old a new) ⊎ ((test ≡ false) × second.passes old a new)
  chosen true p = inl (refl, p)
  chosen false p = inr (refl, p)

-- those of a longer list that have a name
pub named_more : (table : Table) (name : List ℕ) (info : AttributeInfo) (infos : List AttributeInfo) → is_named table name info.attribute_name_index ≡ true → named table name (info ∷ infos) ≡ info ∷ named table name infos
named_more table name info infos e = ap (λ (b : Bool). cond b (info ∷ named table name infos) (named table name infos)) e

pub named_same : (table : Table) (name : List ℕ) (info : AttributeInfo) (infos : List AttributeInfo) → is_named table name info.attribute_name_index ≡ false → named table name (info ∷ infos) ≡ named table name infos
named_same table name info infos e = ap (λ (b : Bool). cond b (info ∷ named table name infos) (named table name infos)) e

-- ---- one attribute

abbrev content : Table → Option ℕ → ℕ → ℕ → Part AttributeFault (Option ℕ)
content table found at name = choose (is_named table (codes "ConstantValue") name) (first_constant table found at) (passed_over found)

-- what an attribute adds
abbrev FieldStep : Table → Option ℕ → AttributeInfo → Option ℕ → Type 0
FieldStep table found info now =
    ((is_named table (codes "ConstantValue") info.attribute_name_index ≡ false) × (now ≡ found))
    ⊎ ((index : ℕ) × (is_named table (codes "ConstantValue") info.attribute_name_index ≡ true) × (found ≡ None) × (now ≡ Some index) × IsConstantValue table info.info index)

none_is : (found : Option ℕ) → is_none found ≡ true → found ≡ None
none_is None e = refl
none_is (Some x) e = absurd (false≢true e)

constant_said : (table : Table) (found now : Option ℕ) (at from : ℕ) (bytes : List ℕ) (inner : Reading) → (first_constant table found at).passes (record { place = from; rest = bytes }) now inner
    → (index : ℕ) × (found ≡ None) × (now ≡ Some index) × IsConstantValue table bytes index
unfolding first_constant constant_value
constant_said table found now at from bytes inner (u, r0, e0, (index, r1, (from2, r2, e2, (len, r3, e3, (u2, r4, e4, (index2, r5, p, (u3, r6, e6, e7))))), e8)) =
    let start : r4 ≡ record { place = from; rest = bytes } = e4.1 ∙ e3.1 ∙ e2.1 ∙ e0.1 in
    let here : Passes (record { place = from; rest = bytes }) r5 (to_be_bytes w16 index2) = subst (λ (r : Reading). Passes r r5 (to_be_bytes w16 index2)) start p.1 in
    let size : length bytes ≡ 2 = sym (ap (λ (r : Reading). length r.rest) (e2.1 ∙ e0.1)) ∙ sym e3.0 ∙ eqb-true len 2 e4.0 in
    (index2, none_is found e0.0, e8.0 ∙ ap (λ (n : ℕ). Some n) e7.0, record { fits = p.0; bytes = two_all bytes (to_be_bytes w16 index2) r5.rest here.parts size refl; names = e6.0 })
  where
    two_all : (whole front back : List ℕ) → whole ≡ front ++ back → length whole ≡ 2 → length front ≡ 2 → whole ≡ front
    two_all whole front [] e a b = e ∙ append-nil front
    two_all whole front (x ∷ back) e a b = absurd (omega (arith, ap length e, a, b, length-append front (x ∷ back)))

field_said : (table : Table) (found : Option ℕ) (info : AttributeInfo) (now : Option ℕ) → Said table (content table found) info now → FieldStep table found info now
field_said table found info now s =
    let start : Reading = record { place = s.from; rest = info.info } in
    split (chosen (first_constant table found s.at) (passed_over found) start now s.inner (is_named table (codes "ConstantValue") info.attribute_name_index) s.said)
  where
    split : ((is_named table (codes "ConstantValue") info.attribute_name_index ≡ true) × (first_constant table found s.at).passes (record { place = s.from; rest = info.info }) now s.inner)
        ⊎ ((is_named table (codes "ConstantValue") info.attribute_name_index ≡ false) × (passed_over found).passes (record { place = s.from; rest = info.info }) now s.inner)
        → FieldStep table found info now
    split (inl h) = let k = constant_said table found now s.at s.from info.info s.inner h.1 in inr (k.0, h.0, k.1, k.2, k.3)
    split (inr h) = inl (h.0, over_said found now (record { place = s.from; rest = info.info }) s.inner h.1)

field_says : (table : Table) (found : Option ℕ) (info : AttributeInfo) (now : Option ℕ) → FieldStep table found info now → Says table (content table found) info now
field_says table found info now (inl h) = λ at from.
    let start : Reading = record { place = from; rest = info.info } in
    let over = over_anywhere found info from in (
      over.0,
      second_read (first_constant table found at) (passed_over found) start (is_named table (codes "ConstantValue") info.attribute_name_index) now over.0 h.0
          (subst (λ (x : Option ℕ). (passed_over found).passes start x over.0) (sym h.1) over.1),
    )
field_says table found info now (inr (index, name, none, some, is)) = λ at from.
    let h : Head = record { at = at; name = info.attribute_name_index; from = from; content = info.info } in
    let size : length info.info ≡ 2 = ap length is.bytes in
    let reads = constant_read table found h index (ap is_none none) size is.fits (sym is.bytes) is.names in (
      behind_all (content_of h),
      first_read (first_constant table found at) (passed_over found) (content_of h) (is_named table (codes "ConstantValue") info.attribute_name_index) now (behind_all (content_of h)) name
          (subst (λ (x : Option ℕ). (first_constant table found at).passes (content_of h) x (behind_all (content_of h))) (sym some) reads),
    )

-- ---- all attributes

some_not_none : (index : ℕ) → Some index ≡ None → ⊥
some_not_none index e = cc

module _ (table : Table) where
  abbrev those : List AttributeInfo → List AttributeInfo
  those infos = named table (codes "ConstantValue") infos

  -- behind one, there is none
  no_more : (index : ℕ) (infos : List AttributeInfo) (t : Option ℕ) → Run (FieldStep table) (Some index) infos t → (those infos ≡ []) × (t ≡ Some index)
  no_more index [] t run = (refl, run)
  no_more index (info ∷ infos) t (u, inl h, run) =
      let more = no_more index infos t (subst (λ (x : Option ℕ). Run (FieldStep table) x infos t) h.1 run) in
      (named_same table (codes "ConstantValue") info infos h.0 ∙ more.0, more.1)
  no_more index (info ∷ infos) t (u, inr h, run) = absurd (some_not_none index h.2)

  run_says : (infos : List AttributeInfo) (t : Option ℕ) → Run (FieldStep table) None infos t → SayConstant table (those infos) t
  run_says [] t run = subst (λ (x : Option ℕ). SayConstant table [] x) (sym run) tt
  run_says (info ∷ infos) t (u, inl h, run) =
      subst (λ (l : List AttributeInfo). SayConstant table l t) (sym (named_same table (codes "ConstantValue") info infos h.0))
      (run_says infos t (subst (λ (x : Option ℕ). Run (FieldStep table) x infos t) h.1 run))
  run_says (info ∷ infos) t (u, inr h, run) =
      let more = no_more h.0 infos t (subst (λ (x : Option ℕ). Run (FieldStep table) x infos t) h.3 run) in
      subst (λ (l : List AttributeInfo). SayConstant table l t) (sym (named_more table (codes "ConstantValue") info infos h.1 ∙ ap (λ (l : List AttributeInfo). info ∷ l) more.0))
      (subst (λ (x : Option ℕ). SayConstant table (info ∷ []) x) (sym more.1) h.4)

  -- attributes of other names
  run_others : (found : Option ℕ) (infos : List AttributeInfo) → those infos ≡ [] → Run (FieldStep table) found infos found
  run_others found [] e = refl
  run_others found (info ∷ infos) e = other (is_named table (codes "ConstantValue") info.attribute_name_index) refl (run_others found infos)
    where
      other : (b : Bool) → is_named table (codes "ConstantValue") info.attribute_name_index ≡ b → (those infos ≡ [] → Run (FieldStep table) found infos found) → Run (FieldStep table) found (info ∷ infos) found
      other true n behind = let both : info ∷ those infos ≡ [] = sym (named_more table (codes "ConstantValue") info infos n) ∙ e in absurd (omega (arith, ap length both))
      other false n behind = (found, inl (n, refl), behind (sym (named_same table (codes "ConstantValue") info infos n) ∙ e))

  -- where the first of that name says this, and no other has it
  one_says : (info : AttributeInfo) (rest : List AttributeInfo) (t : Option ℕ) → SayConstant table (info ∷ rest) t → (index : ℕ) × (rest ≡ []) × (t ≡ Some index) × IsConstantValue table info.info index
  one_says info [] None s = absurd s
  one_says info [] (Some index) s = (index, refl, refl, s)
  one_says info (other ∷ rest) t s = absurd s

  none_says : (t : Option ℕ) → SayConstant table [] t → t ≡ None
  none_says None s = refl
  none_says (Some index) s = absurd s

  says_run : (infos : List AttributeInfo) (t : Option ℕ) → SayConstant table (those infos) t → Run (FieldStep table) None infos t
  says_run [] t s = none_says t s
  says_run (info ∷ infos) t s = one (is_named table (codes "ConstantValue") info.attribute_name_index) refl (says_run infos t)
    where
      one : (b : Bool) → is_named table (codes "ConstantValue") info.attribute_name_index ≡ b → (SayConstant table (those infos) t → Run (FieldStep table) None infos t) → Run (FieldStep table) None (info ∷ infos) t
      one true n behind =
          let k = one_says info (those infos) t (subst (λ (l : List AttributeInfo). SayConstant table l t) (named_more table (codes "ConstantValue") info infos n) s) in
          (Some k.0, inr (k.0, n, refl, refl, k.3), subst (λ (x : Option ℕ). Run (FieldStep table) (Some k.0) infos x) (sym k.2) (run_others (Some k.0) infos k.1))
      one false n behind = (None, inl (n, refl), behind (subst (λ (l : List AttributeInfo). SayConstant table l t) (named_same table (codes "ConstantValue") info infos n) s))

pub field_spelled : (table : Table) (old : Reading) (constant : Option ℕ) (new : Reading) → (field_attributes table).passes old constant new → PassesField table old new constant
unfolding field_attributes field_attribute
field_spelled table old constant new (count, mid, p, q) =
    let l = listed table (content table) count None mid constant new q in
    record {
      attributes = l.infos;
      passes = numbered table old mid new l.infos count p l.count l.each l.passes;
      say = run_says table l.infos constant (run_as (λ (v : Option ℕ). Said table (content table v)) (FieldStep table) (field_said table) None l.infos constant l.run);
    }

pub spelled_field : (table : Table) (old : Reading) (constant : Option ℕ) (new : Reading) → PassesField table old new constant → (field_attributes table).passes old constant new
unfolding field_attributes field_attribute
spelled_field table old constant new s =
    let infos = s.attributes in
    let h = halves old new (to_be_bytes w16 (length infos)) (flat_map attribute_bytes infos) s.passes.passes in (
      length infos,
      h.mid,
      (s.passes.few, h.first),
      folded table (content table) infos None h.mid constant new s.passes.each h.second
          (run_as (FieldStep table) (λ (v : Option ℕ). Says table (content table v)) (field_says table) None infos constant (says_run table infos constant s.say)),
    )
