-- Attributes read one behind the other are attributes as bytes.
use Rattle.std.proofs.Common.{◌≡◌, ℕ, zero, suc, ◌+◌, ◌<◌, ◌^◌, List, [], ◌∷◌, ◌++◌, length, refl, sym, ap, subst, ◌∙◌, append_assoc, arith, length-append, eq-eqb}
use Rattle.std.proofs.lemmas.Bool.{eqb-true}
use Rattle.std.specs.Prelude.{⊤}
use Rattle.std.specs.Int.{w16, w32, to_be_bytes}
use Rattle.std.specs.List.{flat_map, AllByRecursion}
use Rattle.ja_bytes.specs.Reading.{Reading, Passes}
use Rattle.ja_pool.specs.Table.{Table, tag_at}
use Rattle.ja_attributes.specs.declared.fault.AttributeFault.{AttributeFault}
use Rattle.ja_attributes.specs.declared.fault.AttributeFault.TheVariants.{End}
use Rattle.ja_attributes.specs.Part.{Part, u2, fold}
use Rattle.ja_attributes.specs.Attribute.{AttributeInfo, attribute_bytes, IsAttribute, PassesAttributes, PassesAny}
use Rattle.ja_attributes.specs.Faults.{name_index, attribute, passed_over, any_attribute, any_attributes}
use Rattle.ja_attributes.specs.InnerSteps.{behind_all}
use Rattle.ja_pool.proofs.PayloadParts.{passes_both}
use Rattle.ja_attributes.proofs.Parts.{nothing_passed}

-- ---- bytes in two parts

-- the reading between them
pub record Halves (old new : Reading) (a b : List ℕ) : Type 0 where
  pub mid : Reading
  pub first : Passes old mid a
  pub second : Passes mid new b

pub halves : (old new : Reading) (a b : List ℕ) → Passes old new (a ++ b) → Halves old new a b
halves old new a b p = record {
  mid = record { place = old.place + length a; rest = b ++ new.rest };
  first = record { parts = p.parts ∙ append_assoc a b new.rest; place = refl };
  second = record { parts = refl; place = omega (arith, p.place, length-append a b) };
}

-- ---- one attribute

module _ {A : Type 0} (table : Table) (content : ℕ → ℕ → Part AttributeFault A) where
  -- the content says this wherever the attribute stands
  abbrev pub Says : AttributeInfo → A → Type 0
  Says info a = (at from : ℕ) → (inner : Reading) × (content at info.attribute_name_index).passes (record { place = from; rest = info.info }) a inner

  -- the content says this where the attribute stands
  pub record Said (info : AttributeInfo) (a : A) : Type 0 where
    pub at : ℕ
    pub from : ℕ
    pub inner : Reading
    pub said : (content at info.attribute_name_index).passes (record { place = from; rest = info.info }) a inner

  pub record Spelled (old : Reading) (a : A) (new : Reading) : Type 0 where
    pub info : AttributeInfo
    pub is : IsAttribute table info
    pub passes : Passes old new (attribute_bytes info)
    pub said : Said info a

  pub attribute_spelled : (old new : Reading) (a : A) → (attribute table content).passes old a new → Spelled old a new
  unfolding attribute name_index
  attribute_spelled old new a (at, r, e, (index, mid, (at2, r2, e2, (index2, mid2, u, (ok, mid3, t, same))), (len, last, q, (bytes, inner, size, s, said)))) =
      let to_mid2 : Passes old mid2 (to_be_bytes w16 index2) = subst (λ (x : Reading). Passes x mid2 (to_be_bytes w16 index2)) (e2.1 ∙ e.1) u.1 in
      let to_mid : Passes old mid (to_be_bytes w16 index) =
      subst (λ (x : Reading). Passes old x (to_be_bytes w16 index)) (sym (same.1 ∙ t.1)) (subst (λ (n : ℕ). Passes old mid2 (to_be_bytes w16 n)) (sym same.0) to_mid2) in
      let to_last : Passes mid last (to_be_bytes w32 (length bytes)) = subst (λ (n : ℕ). Passes mid last (to_be_bytes w32 n)) (sym size) q.1 in
      record {
        info = record { attribute_name_index = index; info = bytes };
        is = record { index = subst (λ (n : ℕ). n < 2 ^ 16) (sym same.0) u.0; size = subst (λ (n : ℕ). n < 2 ^ 32) (sym size) q.0; name = ap (tag_at table) same.0 ∙ eqb-true (tag_at table index2) 1 t.0 };
        passes = passes_both old mid new (to_be_bytes w16 index) (to_be_bytes w32 (length bytes) ++ bytes) to_mid (passes_both mid last new (to_be_bytes w32 (length bytes)) bytes to_last s);
        said = record { at = at; from = last.place; inner = inner; said = said };
      }

  pub spelled_attribute : (old new : Reading) (info : AttributeInfo) (a : A) → IsAttribute table info → Passes old new (attribute_bytes info) → Says info a → (attribute table content).passes old a new
  unfolding attribute name_index
  spelled_attribute old new info a is p says =
      let index = info.attribute_name_index in
      let h = halves old new (to_be_bytes w16 index) (to_be_bytes w32 (length info.info) ++ info.info) p in
      let k = halves h.mid new (to_be_bytes w32 (length info.info)) info.info h.second in
      let said = says old.place k.mid.place in (
        old.place,
        old,
        (refl, refl),
        (
          index,
          h.mid,
          (old.place, old, (refl, refl), (index, h.mid, (is.index, h.first), (tt, h.mid, (eq-eqb (tag_at table index) 1 is.name, refl), (refl, refl)))),
          (length info.info, k.mid, (is.size, k.first), (info.info, said.0, refl, k.second, said.1)),
        ),
      )

-- ---- attributes, each of which depends on those before it

-- from a value to another, by steps over attributes
abbrev pub Run : {S : Type 0} → (S → AttributeInfo → S → Type 0) → S → List AttributeInfo → S → Type 0
Run P s [] t = t ≡ s
Run {S} P s (info ∷ infos) t = (u : S) × P s info u × Run P u infos t

pub run_as : {S : Type 0} (P Q : S → AttributeInfo → S → Type 0) → ((s : S) (info : AttributeInfo) (u : S) → P s info u → Q s info u) → (s : S) (infos : List AttributeInfo) (t : S) → Run P s infos t → Run Q s infos t
run_as P Q go s [] t r = r
run_as P Q go s (info ∷ infos) t r = (r.0, go s info r.0 r.1, run_as P Q go r.0 infos t r.2)

module _ {S : Type 0} (table : Table) (content : S → ℕ → ℕ → Part AttributeFault S) where
  abbrev next : S → Part AttributeFault S
  next s = attribute table (content s)

  pub record Listed (n : ℕ) (s : S) (old : Reading) (t : S) (new : Reading) : Type 0 where
    pub infos : List AttributeInfo
    pub count : length infos ≡ n
    pub each : AllByRecursion (IsAttribute table) infos
    pub passes : Passes old new (flat_map attribute_bytes infos)
    pub run : Run (λ (v : S). Said table (content v)) s infos t

  pub listed : (n : ℕ) (s : S) (old : Reading) (t : S) (new : Reading) → (fold next n s).passes old t new → Listed n s old t new
  listed zero s old t new p = record {
    infos = [];
    count = refl;
    each = tt;
    passes = subst (λ (r : Reading). Passes old r []) (sym p.1) (record { parts = refl; place = omega arith });
    run = p.0;
  }
  listed (suc n) s old t new (u, mid, p, q) =
      let one = attribute_spelled table (content s) old mid u p in
      let others = listed n u mid t new q in
      record {
        infos = one.info ∷ others.infos;
        count = omega (arith, others.count);
        each = (one.is, others.each);
        passes = passes_both old mid new (attribute_bytes one.info) (flat_map attribute_bytes others.infos) one.passes others.passes;
        run = (u, one.said, others.run);
      }

  pub folded : (infos : List AttributeInfo) (s : S) (old : Reading) (t : S) (new : Reading) → AllByRecursion (IsAttribute table) infos → Passes old new (flat_map attribute_bytes infos)
      → Run (λ (v : S). Says table (content v)) s infos t → (fold next (length infos) s).passes old t new
  folded [] s old t new each p run = (run, nothing_passed old new p)
  folded (info ∷ infos) s old t new each p run =
      let h = halves old new (attribute_bytes info) (flat_map attribute_bytes infos) p in
      (run.0, h.mid, spelled_attribute table (content s) old h.mid info run.0 each.0 h.first run.1, folded infos run.0 h.mid t new each.1 h.second run.2)

-- with their number
pub numbered : (table : Table) (old mid new : Reading) (infos : List AttributeInfo) (count : ℕ) → (u2 End).passes old count mid → length infos ≡ count → AllByRecursion (IsAttribute table) infos
    → Passes mid new (flat_map attribute_bytes infos) → PassesAttributes table old new infos
numbered table old mid new infos count p e each q =
    let number : Passes old mid (to_be_bytes w16 (length infos)) = subst (λ (n : ℕ). Passes old mid (to_be_bytes w16 n)) (sym e) p.1 in
    record {
      few = subst (λ (n : ℕ). n < 2 ^ 16) (sym e) p.0;
      each = each;
      passes = passes_both old mid new (to_be_bytes w16 (length infos)) (flat_map attribute_bytes infos) number q;
    }

-- ---- attributes that are passed over

over_says : {A : Type 0} (a : A) (r : Reading) → (passed_over a).passes r a (behind_all r)
unfolding passed_over
over_says a r = (r.rest, behind_all r, (refl, refl), (refl, refl))

pub over_said : {A : Type 0} (a b : A) (r inner : Reading) → (passed_over a).passes r b inner → b ≡ a
unfolding passed_over
over_said a b r inner (bytes, mid, p, q) = q.0

pub over_anywhere : {A : Type 0} (a : A) (info : AttributeInfo) (from : ℕ) → (inner : Reading) × (passed_over a).passes (record { place = from; rest = info.info }) a inner
over_anywhere a info from = (behind_all (record { place = from; rest = info.info }), over_says a (record { place = from; rest = info.info }))

pub any_spelled : (table : Table) (old new : Reading) → (any_attributes table).passes old tt new → PassesAny table old new
unfolding any_attributes any_attribute
any_spelled table old new (count, mid, p, q) =
    let l = listed table (λ (u : ⊤) (at name : ℕ). passed_over tt) count tt mid tt new q in
    record { attributes = l.infos; passes = numbered table old mid new l.infos count p l.count l.each l.passes }

pub spelled_any : (table : Table) (old new : Reading) → PassesAny table old new → (any_attributes table).passes old tt new
unfolding any_attributes any_attribute
spelled_any table old new s =
    let infos = s.attributes in
    let h = halves old new (to_be_bytes w16 (length infos)) (flat_map attribute_bytes infos) s.passes.passes in
    (length infos, h.mid, (s.passes.few, h.first), folded table (λ (u : ⊤) (at name : ℕ). passed_over tt) infos tt h.mid tt new s.passes.each h.second (all_over infos))
  where
    all_over : (infos : List AttributeInfo) → Run (λ (v : ⊤). Says table (λ (at name : ℕ). passed_over tt)) tt infos tt
    all_over [] = refl
    all_over (info ∷ others) = (tt, (λ at from. over_anywhere tt info from), all_over others)
