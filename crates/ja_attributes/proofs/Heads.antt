-- Attributes that are read step by step.
use Rattle.std.proofs.Common.{◌≡◌, ℕ, ◌+◌, ◌<◌, ◌≤◌, ◌^◌, inl, inr, List, length, refl, sym, ap, subst, ◌∙◌, eq-eqb, arith, zero-add}
use Rattle.std.proofs.lemmas.Bool.{ne_eqb, eqb-true, cases_lt}
use Rattle.std.specs.Prelude.{Result}
use Rattle.std.specs.Int.{w16, w32, to_be_bytes}
use Rattle.ja_bytes.specs.Reading.{Reading, Passes}
use Rattle.ja_pool.specs.Table.{Table, tag_at}
use Rattle.ja_attributes.specs.declared.fault.AttributeFault.{AttributeFault}
use Rattle.ja_attributes.specs.declared.fault.AttributeFault.TheVariants.{End, BadIndex}
use Rattle.ja_attributes.specs.Part.{Part, u2, u4, Reads}
use Rattle.ja_attributes.proofs.Exact.{name_index_exact}
use Rattle.ja_attributes.specs.Faults.{name_index, attribute, passed_over, any_attribute}
use Rattle.ja_attributes.proofs.Parts.{Forward, same_total}
use Rattle.ja_attributes.specs.InnerSteps.{onward, IsWithin, behind_all, Head, content_of, head}

-- ---- the index of a name

module _ (table : Table) (old : Reading) where
  pub name_cut : (f : AttributeFault) → (u2 End).fault old f → (name_index table).fault old f
  unfolding name_index
  name_cut f h = inr (old.place, old, (refl, refl), inl h)

  pub name_wrong : (mid : Reading) (index : ℕ) → (u2 End).passes old index mid → (tag_at table index ≡ 1 → ⊥) → (name_index table).fault old (BadIndex old.place)
  unfolding name_index
  name_wrong mid index p ne = inr (old.place, old, (refl, refl), inr (index, mid, p, inl (ne_eqb (tag_at table index) 1 ne, refl)))

  pub name_read : (mid : Reading) (index : ℕ) → (u2 End).passes old index mid → tag_at table index ≡ 1 → (name_index table).passes old index mid
  unfolding name_index
  name_read mid index p e = (old.place, old, (refl, refl), (index, mid, p, (tt, mid, (eq-eqb (tag_at table index) 1 e, refl), (refl, refl))))

-- ---- the head of an attribute

module _ (table : Table) (old : Reading) where
  pub head_name : (f : AttributeFault) → (name_index table).fault old f → (head table).fault old f
  unfolding head attribute
  head_name f h = inr (old.place, old, (refl, refl), inl h)

  pub head_length : (mid : Reading) (index : ℕ) (f : AttributeFault) → (name_index table).passes old index mid → (u4 End).fault mid f → (head table).fault old f
  unfolding head attribute
  head_length mid index f p h = inr (old.place, old, (refl, refl), inr (index, mid, p, inl h))

  pub head_cut : (mid last : Reading) (index len : ℕ) → (name_index table).passes old index mid → (u4 End).passes mid len last → length last.rest < len → (head table).fault old (End last.place)
  unfolding head attribute
  head_cut mid last index len p q short = inr (old.place, old, (refl, refl), inr (index, mid, p, inr (len, last, q, inl (short, refl))))

  pub head_read : (mid last new : Reading) (index len : ℕ) (bytes : List ℕ) → (name_index table).passes old index mid → (u4 End).passes mid len last
      → length bytes ≡ len → Passes last new bytes → (head table).passes old (record { at = old.place; name = index; from = last.place; content = bytes }) new
  unfolding head attribute
  head_read mid last new index len bytes p q size passes =
      let inner : Reading = record { place = last.place; rest = bytes } in (
        old.place,
        old,
        (refl, refl),
        (
          index,
          mid,
          p,
          (
            len,
            last,
            q,
            (
              bytes,
              behind_all inner,
              size,
              passes,
              (last.place, inner, (refl, refl), (bytes, behind_all inner, (refl, refl), (refl, refl))),
            ),
          ),
        ),
      )

  pub head_at : (mid last new : Reading) (index len : ℕ) (bytes : List ℕ) (at from : ℕ) → at ≡ old.place → from ≡ last.place → (name_index table).passes old index mid
      → (u4 End).passes mid len last → length bytes ≡ len → Passes last new bytes → (head table).passes old (record { at = at; name = index; from = from; content = bytes }) new
  head_at mid last new index len bytes at from ea ef p q size passes =
      subst (λ (n : ℕ). (head table).passes old (record { at = n; name = index; from = from; content = bytes }) new) (sym ea)
      (subst (λ (n : ℕ). (head table).passes old (record { at = old.place; name = index; from = n; content = bytes }) new) (sym ef)
      (head_read mid last new index len bytes p q size passes))

-- the name of an attribute is a text
pub head_named : (table : Table) (old new : Reading) (h : Head) → (head table).passes old h new → tag_at table h.name ≡ 1
unfolding head attribute name_index
head_named table old new h (at, r, e, (index, mid, (at2, r2, e2, (index2, mid2, u, (ok, mid3, t, same))), (len, last, q, (bytes, end, size, s, (from, i, ei, (b, j, ej, eh)))))) =
    let name : h.name ≡ index2 = ap (λ (k : Head). k.name) eh.0 ∙ same.0 in
    ap (tag_at table) name ∙ eqb-true (tag_at table index2) 1 t.0

-- ---- the whole attribute

module _ {A : Type 0} (table : Table) (content : ℕ → ℕ → Part AttributeFault A) (old : Reading) where
  pub attribute_cut : (f : AttributeFault) → (head table).fault old f → (attribute table content).fault old f
  unfolding head attribute
  attribute_cut f (inl h) = inl h
  attribute_cut f (inr (at, r, e, inl h)) = inr (at, r, e, inl h)
  attribute_cut f (inr (at, r, e, inr (index, mid, p, inl h))) = inr (at, r, e, inr (index, mid, p, inl h))
  attribute_cut f (inr (at, r, e, inr (index, mid, p, inr (len, last, q, inl h)))) = inr (at, r, e, inr (index, mid, p, inr (len, last, q, inl h)))
  attribute_cut f (inr (at, r, e, inr (index, mid, p, inr (len, last, q, inr (bytes, new, size, s, inl h))))) = absurd h
  attribute_cut f (inr (at, r, e, inr (index, mid, p, inr (len, last, q, inr (bytes, new, size, s, inr (from, i, ei, inl h)))))) = absurd h
  attribute_cut f (inr (at, r, e, inr (index, mid, p, inr (len, last, q, inr (bytes, new, size, s, inr (from, i, ei, inr (b, j, ej, h))))))) = absurd h

  -- what a head holds
  held : (h : Head) (at index from : ℕ) (last : Reading) (bytes b : List ℕ) (i : Reading) → from ≡ last.place → i ≡ record { place = last.place; rest = bytes } → b ≡ i.rest
      → h ≡ record { at = at; name = index; from = from; content = b } → h ≡ record { at = at; name = index; from = last.place; content = bytes }
  held h at index from last bytes b i ef ei eb eh =
      eh ∙ ap (λ (n : ℕ). record { at = at; name = index; from = n; content = b }) ef
      ∙ ap (λ (t : List ℕ). record { at = at; name = index; from = last.place; content = t }) (eb ∙ ap (λ (r : Reading). r.rest) ei)

  pub attribute_read : (new inner : Reading) (h : Head) (a : A) → (head table).passes old h new → (content h.at h.name).passes (content_of h) a inner → (attribute table content).passes old a new
  unfolding head attribute
  attribute_read new inner h a (at, r, e, (index, mid, p, (len, last, q, (bytes, end, size, s, (from, i, ei, (b, j, ej, eh)))))) c = (
    at,
    r,
    e,
    (
      index,
      mid,
      p,
      (
        len,
        last,
        q,
        (
          bytes,
          inner,
          size,
          s,
          subst (λ (k : Head). (content k.at k.name).passes (content_of k) a inner) (held h at index from last bytes b i ei.0 ei.1 ej.0 eh.0) c,
        ),
      ),
    ),
  )

  pub attribute_wrong : (new : Reading) (h : Head) (f : AttributeFault) → (head table).passes old h new → (content h.at h.name).fault (content_of h) f → (attribute table content).fault old f
  unfolding head attribute
  attribute_wrong new h f (at, r, e, (index, mid, p, (len, last, q, (bytes, end, size, s, (from, i, ei, (b, j, ej, eh)))))) c =
      inr (
        at,
        r,
        e,
        inr (
          index,
          mid,
          p,
          inr (
            len,
            last,
            q,
            inr (
              bytes,
              new,
              size,
              s,
              subst (λ (k : Head). (content k.at k.name).fault (content_of k) f) (held h at index from last bytes b i ei.0 ei.1 ej.0 eh.0) c,
            ),
          ),
        ),
      )

-- a content that is passed over
pub over : {A : Type 0} (a : A) (h : Head) → (passed_over a).passes (content_of h) a (behind_all (content_of h))
unfolding passed_over
over a h = (h.content, behind_all (content_of h), (refl, refl), (refl, refl))

pub any_read : (table : Table) (old new : Reading) (h : Head) → (head table).passes old h new → (any_attribute table).passes old tt new
unfolding any_attribute
any_read table old new h p = attribute_read table _ old new (behind_all (content_of h)) h tt p (over tt h)

pub any_cut : (table : Table) (old : Reading) (f : AttributeFault) → (head table).fault old f → (any_attribute table).fault old f
unfolding any_attribute
any_cut table old f h = attribute_cut table _ old f h

-- ---- bytes that begin far into the file

pub onward_passes : (base : ℕ) (old new : Reading) (bytes : List ℕ) → Passes old new bytes → Passes (onward base old) (onward base new) bytes
onward_passes base old new bytes p = record { parts = p.parts; place = omega (arith, p.place) }

pub stays_within : (base : ℕ) (old new : Reading) → IsWithin base old → Forward (onward base old) (onward base new) → IsWithin base new
stays_within base old new fits p some = omega (arith, fits some, same_total (onward base old) (onward base new) p)

pub at_start : (r : Reading) → onward 0 r ≡ r
at_start r = ap (λ (n : ℕ). record { place = n; rest = r.rest }) (zero-add r.place)

-- behind the name, and behind the length
pub name_within : (table : Table) (base : ℕ) (old mid : Reading) (index : ℕ) → IsWithin base old → (name_index table).passes (onward base old) index (onward base mid) → IsWithin base mid
name_within table base old mid index fits p = stays_within base old mid fits ((name_index_exact table).forward (onward base old) index (onward base mid) p)

pub u2_within : (base : ℕ) (old mid : Reading) (n : ℕ) → IsWithin base old → (u2 End).passes (onward base old) n (onward base mid) → IsWithin base mid
u2_within base old mid n fits p = stays_within base old mid fits (to_be_bytes w16 n, p.1)

pub u4_within : (base : ℕ) (old mid : Reading) (n : ℕ) → IsWithin base old → (u4 End).passes (onward base old) n (onward base mid) → IsWithin base mid
u4_within base old mid n fits p = stays_within base old mid fits (to_be_bytes w32 n, p.1)

pub bytes_within : (base : ℕ) (old mid : Reading) (bytes : List ℕ) → IsWithin base old → Passes old mid bytes → IsWithin base mid
bytes_within base old mid bytes fits p = stays_within base old mid fits (bytes, onward_passes base old mid bytes p)

-- at the front of the file
pub start_reads : {F A X : Type 0} (view : X → A) (part : Part F A) (old new : Reading) (r : Result X F) → Reads view part (onward 0 old) (onward 0 new) r → Reads view part old new r
start_reads view part old new r h =
    subst (λ (o : Reading). Reads view part o new r) (at_start old) (subst (λ (n : Reading). Reads view part (onward 0 old) n r) (at_start new) h)

-- a place fits 64 bits
pub place_fits : (base n : ℕ) (r : Reading) → IsWithin base r → n ≤ r.place → n < 2 ^ 64 → base + n < 2 ^ 64
place_fits base n r fits at small = elim (cases_lt 0 base) [
  | inl some ↦ omega (arith, fits some)
  | inr none ↦ omega arith
]

-- behind the length of an attribute
pub front_within : (table : Table) (base : ℕ) (old mid last : Reading) (index len : ℕ) → IsWithin base old → (name_index table).passes (onward base old) index (onward base mid)
    → (u4 End).passes (onward base mid) len (onward base last) → IsWithin base last
front_within table base old mid last index len fits p q = u4_within base mid last len (name_within table base old mid index fits p) q
