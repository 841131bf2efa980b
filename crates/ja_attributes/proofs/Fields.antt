-- Attributes of fields that are read step by step.
use Rattle.std.proofs.Common.{◌≡◌, ℕ, ◌<◌, ◌^◌, inl, inr, Bool, true, false, length, refl, sym, ◌∙◌, eq-eqb, arith}
use Rattle.std.proofs.lemmas.Bool.{ne_eqb, false≢true}
use Rattle.std.proofs.lemmas.List.{append-nil}
use Rattle.std.specs.Prelude.{codes, is_none, Option, Some, Result, Ok, Err}
use Rattle.std.specs.Int.{w16, to_be_bytes}
use Rattle.ja_bytes.specs.Reading.{Reading}
use Rattle.ja_pool.specs.Table.{Table, tag_at}
use Rattle.ja_attributes.specs.declared.fault.AttributeFault.{AttributeFault}
use Rattle.ja_attributes.specs.declared.fault.AttributeFault.TheVariants.{End, BadIndex, BadAttribute}
use Rattle.ja_attributes.specs.Part.{Part, u2, choose, Reads}
use Rattle.ja_attributes.specs.Attribute.{is_named, is_value_tag}
use Rattle.ja_attributes.specs.Faults.{constant_value, first_constant, field_attribute, passed_over}
use Rattle.ja_attributes.specs.InnerSteps.{behind_all, Head, content_of, head}
use Rattle.ja_attributes.proofs.Heads.{attribute_cut, attribute_read, attribute_wrong, over}

-- ---- one part or another

module _ {F A : Type 0} (first second : Part F A) (old : Reading) where
  pub first_read : (test : Bool) (a : A) (new : Reading) → test ≡ true → first.passes old a new → (choose test first second).passes old a new
  first_read true a new e p = p
  first_read false a new e p = absurd (false≢true e)

  pub first_wrong : (test : Bool) (f : F) → test ≡ true → first.fault old f → (choose test first second).fault old f
  first_wrong true f e h = h
  first_wrong false f e h = absurd (false≢true e)

  pub second_read : (test : Bool) (a : A) (new : Reading) → test ≡ false → second.passes old a new → (choose test first second).passes old a new
  second_read true a new e p = absurd (false≢true (sym e))
  second_read false a new e p = p

-- ---- the content of a ConstantValue

module _ (table : Table) (found : Option ℕ) (h : Head) where
  pub constant_second : is_none found ≡ false → (first_constant table found h.at).fault (content_of h) (BadAttribute h.at)
  unfolding first_constant
  constant_second e = inl (e, refl)

  pub constant_size : is_none found ≡ true → (length h.content ≡ 2 → ⊥) → (first_constant table found h.at).fault (content_of h) (BadAttribute h.at)
  unfolding first_constant constant_value
  constant_size e ne =
      inr (tt, content_of h, (e, refl), inl (inr (h.from, content_of h, (refl, refl), inr (length h.content, content_of h, (refl, refl), inl (ne_eqb (length h.content) 2 ne, refl)))))

  module _ (index : ℕ) (e : is_none found ≡ true) (two : length h.content ≡ 2) (fits : index < 2 ^ 16) (bytes : to_be_bytes w16 index ≡ h.content) where
    index_read : (u2 End).passes (content_of h) index (behind_all (content_of h))
    index_read = (fits, record { parts = sym bytes ∙ sym (append-nil (to_be_bytes w16 index)); place = omega (arith, two) })

    pub constant_wrong : is_value_tag (tag_at table index) ≡ false → (first_constant table found h.at).fault (content_of h) (BadIndex h.from)
    unfolding first_constant constant_value
    constant_wrong other =
        inr (
          tt,
          content_of h,
          (e, refl),
          inl (inr (
            h.from,
            content_of h,
            (refl, refl),
            inr (
              length h.content,
              content_of h,
              (refl, refl),
              inr (tt, content_of h, (eq-eqb (length h.content) 2 two, refl), inr (index, behind_all (content_of h), index_read, inl (other, refl))),
            ),
          )),
        )

    pub constant_read : is_value_tag (tag_at table index) ≡ true → (first_constant table found h.at).passes (content_of h) (Some index) (behind_all (content_of h))
    unfolding first_constant constant_value
    constant_read same =
        let behind = behind_all (content_of h) in (
          tt,
          content_of h,
          (e, refl),
          (
            index,
            behind,
            (
              h.from,
              content_of h,
              (refl, refl),
              (
                length h.content,
                content_of h,
                (refl, refl),
                (tt, content_of h, (eq-eqb (length h.content) 2 two, refl), (index, behind, index_read, (tt, behind, (same, refl), (refl, refl)))),
              ),
            ),
            (refl, refl),
          ),
        )

-- ---- an attribute of a field

module _ (table : Table) (found : Option ℕ) (old : Reading) where
  pub field_cut : (f : AttributeFault) → (head table).fault old f → (field_attribute table found).fault old f
  unfolding field_attribute
  field_cut f h = attribute_cut table _ old f h

  pub field_other : (new : Reading) (h : Head) → (head table).passes old h new → is_named table (codes "ConstantValue") h.name ≡ false → (field_attribute table found).passes old found new
  unfolding field_attribute
  field_other new h p e =
      attribute_read table _ old new (behind_all (content_of h)) h found p
      (second_read (first_constant table found h.at) (passed_over found) (content_of h) (is_named table (codes "ConstantValue") h.name) found (behind_all (content_of h)) e (over found h))

  pub field_constant : (new inner : Reading) (h : Head) (now : Option ℕ) → (head table).passes old h new → is_named table (codes "ConstantValue") h.name ≡ true
      → (first_constant table found h.at).passes (content_of h) now inner → (field_attribute table found).passes old now new
  unfolding field_attribute
  field_constant new inner h now p e q =
      attribute_read table _ old new inner h now p
      (first_read (first_constant table found h.at) (passed_over found) (content_of h) (is_named table (codes "ConstantValue") h.name) now inner e q)

  pub field_wrong : (new : Reading) (h : Head) (f : AttributeFault) → (head table).passes old h new → is_named table (codes "ConstantValue") h.name ≡ true
      → (first_constant table found h.at).fault (content_of h) f → (field_attribute table found).fault old f
  unfolding field_attribute
  field_wrong new h f p e q =
      attribute_wrong table _ old new h f p
      (first_wrong (first_constant table found h.at) (passed_over found) (content_of h) (is_named table (codes "ConstantValue") h.name) f e q)

  pub field_reads : (new : Reading) (h : Head) (r : Result (Option ℕ) AttributeFault) → (head table).passes old h new → is_named table (codes "ConstantValue") h.name ≡ true
      → Reads (λ (x : Option ℕ). x) (first_constant table found h.at) (content_of h) (behind_all (content_of h)) r → Reads (λ (x : Option ℕ). x) (field_attribute table found) old new r
  field_reads new h (Ok now) p e q = field_constant new (behind_all (content_of h)) h now p e q
  field_reads new h (Err f) p e q = field_wrong new h f p e q
