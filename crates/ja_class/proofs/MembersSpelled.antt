-- What a reader passes where fields and methods stand is what the grammar spells.
use Rattle.std.proofs.Common.{◌≡◌, ℕ, zero, suc, ◌+◌, ◌<◌, ◌^◌, List, [], ◌∷◌, ◌++◌, length, map, refl, sym, ap, subst, ◌∙◌, append_assoc, arith, length-append}
use Rattle.std.specs.Prelude.{IsTrue, false, codes}
use Rattle.std.specs.List.{flat_map, AllByRecursion}
use Rattle.std.proofs.lemmas.Bool.{eqb-true, eq-eqb, not-true, not_from_false}
use Rattle.std.proofs.lemmas.List.{append-nil}
use Rattle.ja_bytes.specs.Reading.{Reading, Passes}
use Rattle.ja_pool.specs.Table.{Table, tag_at, class_name_at}
use Rattle.ja_attributes.specs.Part.{times, fold}
use Rattle.ja_attributes.specs.Attribute.{PassesField, PassesMethod, SayCode, named, attributes_bytes}
use Rattle.ja_pool.proofs.PayloadParts.{passes_both}
use Rattle.ja_attributes.proofs.Parts.{reading_is}
use Rattle.ja_ir.specs.declared.head.HeadField.{HeadField}
use Rattle.ja_ir.specs.declared.head.HeadMethod.{HeadMethod}
use Rattle.ja_class.specs.declared.class.ClassMethod.{ClassMethod}
use Rattle.ja_class.specs.declared.member.Front.{Front}
use Rattle.ja_class.specs.declared.method.OneMethod.{OneMethod}
use Rattle.ja_class.specs.declared.method.MethodLists.{MethodLists}
use Rattle.ja_class.specs.Member.{utf8_tag, class_tag, is_array, is_super}
use Rattle.ja_class.specs.Meaning.{needs_code, field_said, method_said, code_said}
use Rattle.ja_class.specs.ClassFile.{MemberInfo, u2, member_bytes, IsIndex, IsFieldInfo, IsMethodInfo, AreFields, AreMethods}
use Rattle.ja_class.specs.ClassFault.{index, this_class, super_class, interface, front, field, method, next_method}

-- ---- bytes that are passed

-- bytes, and then bytes
pub join : {old mid new : Reading} {a b : List ℕ} → Passes old mid a → Passes mid new b → Passes old new (a ++ b)
join {old} {mid} {new} {a} {b} p q = passes_both old mid new a b p q

-- a reading between two parts
pub record Halves (old new : Reading) (a b : List ℕ) : Type 0 where
  pub mid : Reading
  pub first : Passes old mid a
  pub second : Passes mid new b

pub halve : (old new : Reading) (a b : List ℕ) → Passes old new (a ++ b) → Halves old new a b
halve old new a b p = record {
  mid = record { place = old.place + length a; rest = b ++ new.rest };
  first = record { parts = p.parts ∙ append_assoc a b new.rest; place = refl };
  second = record { parts = refl; place = omega (arith, p.place, length-append a b) };
}

pub nothing : (old : Reading) → Passes old old []
nothing old = record { parts = refl; place = omega arith }

pub still : (old new : Reading) → Passes old new [] → new ≡ old
still old new p = reading_is new old (omega (arith, p.place)) (sym p.parts)

-- the same bytes between the same readings
pub moved : (old from new to : Reading) (bytes : List ℕ) → from ≡ old → new ≡ to → Passes from to bytes → Passes old new bytes
moved old from new to bytes e f p = subst (λ (r : Reading). Passes r new bytes) e (subst (λ (r : Reading). Passes from r bytes) (sym f) p)

-- ---- indices

pub record ReadsIndex (table : Table) (tag : ℕ) (old new : Reading) (i : ℕ) : Type 0 where
  pub is : IsIndex table tag i
  pub passes : Passes old new (u2 i)

pub index_read : (table : Table) (tag : ℕ) (old new : Reading) (i : ℕ) → (index table tag).passes old i new → ReadsIndex table tag old new i
index_read table tag old new i p =
    let r = p.3 in
    let s = r.3 in
    record {
      is = record { fits = subst (λ (k : ℕ). k < 2 ^ 16) (sym s.3.0) r.2.0; names = ap (tag_at table) s.3.0 ∙ eqb-true (tag_at table r.0) tag s.2.0 };
      passes = moved old p.1 new r.1 (u2 i) p.2.1 (s.3.1 ∙ s.2.1) (subst (λ (k : ℕ). Passes p.1 r.1 (u2 k)) (sym s.3.0) r.2.1);
    }

pub index_again : (table : Table) (tag : ℕ) (old new : Reading) (i : ℕ) → IsIndex table tag i → Passes old new (u2 i) → (index table tag).passes old i new
index_again table tag old new i is passes = (old.place, old, (refl, refl), (i, new, (is.fits, passes), (tt, new, (eq-eqb (tag_at table i) tag is.names, refl), (refl, refl))))

pub record ReadsThis (table : Table) (old new : Reading) (i : ℕ) : Type 0 where
  pub is : IsIndex table class_tag i
  pub not_array : is_array (class_name_at table i) ≡ false
  pub passes : Passes old new (u2 i)

pub this_read : (table : Table) (old new : Reading) (i : ℕ) → (this_class table).passes old i new → ReadsThis table old new i
this_read table old new i p =
    let r = p.3 in
    let s = r.3 in
    let one = index_read table class_tag p.1 r.1 r.0 r.2 in
    record {
      is = subst (IsIndex table class_tag) (sym s.3.0) one.is;
      not_array = ap (λ (k : ℕ). is_array (class_name_at table k)) s.3.0 ∙ not-true (is_array (class_name_at table r.0)) s.2.0;
      passes = moved old p.1 new r.1 (u2 i) p.2.1 (s.3.1 ∙ s.2.1) (subst (λ (k : ℕ). Passes p.1 r.1 (u2 k)) (sym s.3.0) one.passes);
    }

pub this_again : (table : Table) (old new : Reading) (i : ℕ) → IsIndex table class_tag i → is_array (class_name_at table i) ≡ false → Passes old new (u2 i) → (this_class table).passes old i new
this_again table old new i is not_array passes =
    (old.place, old, (refl, refl), (i, new, index_again table class_tag old new i is passes, (tt, new, (not_from_false (is_array (class_name_at table i)) not_array, refl), (refl, refl))))

pub record ReadsSuper (table : Table) (name : List ℕ) (old new : Reading) (i : ℕ) : Type 0 where
  pub fits : i < 2 ^ 16
  pub is : IsTrue (is_super table name i)
  pub passes : Passes old new (u2 i)

pub super_read : (table : Table) (name : List ℕ) (old new : Reading) (i : ℕ) → (super_class table name).passes old i new → ReadsSuper table name old new i
super_read table name old new i p =
    let r = p.3 in
    let s = r.3 in
    record {
      fits = subst (λ (k : ℕ). k < 2 ^ 16) (sym s.3.0) r.2.0;
      is = subst (λ (k : ℕ). IsTrue (is_super table name k)) (sym s.3.0) s.2.0;
      passes = moved old p.1 new r.1 (u2 i) p.2.1 (s.3.1 ∙ s.2.1) (subst (λ (k : ℕ). Passes p.1 r.1 (u2 k)) (sym s.3.0) r.2.1);
    }

pub super_again : (table : Table) (name : List ℕ) (old new : Reading) (i : ℕ) → i < 2 ^ 16 → IsTrue (is_super table name i) → Passes old new (u2 i) → (super_class table name).passes old i new
super_again table name old new i fits is passes = (old.place, old, (refl, refl), (i, new, (fits, passes), (tt, new, (is, refl), (refl, refl))))

-- ---- interfaces

pub record ReadsInterfaces (table : Table) (count : ℕ) (old new : Reading) (names : List (List ℕ)) : Type 0 where
  pub indices : List ℕ
  pub size : length indices ≡ count
  pub each : AllByRecursion (IsIndex table class_tag) indices
  pub are : names ≡ map (class_name_at table) indices
  pub passes : Passes old new (flat_map u2 indices)

pub interfaces_read : (table : Table) (count : ℕ) (old new : Reading) (names : List (List ℕ)) → (times count (interface table)).passes old names new → ReadsInterfaces table count old new names
interfaces_read table zero old new names p = record { indices = []; size = refl; each = tt; are = p.0; passes = moved old old new old [] refl p.1 (nothing old) }
interfaces_read table (suc count) old new names p =
    let one = index_read table class_tag old p.2.1 p.2.0 p.2.2 in
    let more = interfaces_read table count p.1 p.3.1 p.3.0 p.3.2 in
    let first : Passes old p.1 (u2 p.2.0) = moved old old p.1 p.2.1 (u2 p.2.0) refl p.2.3.1 one.passes in
    record {
      indices = p.2.0 ∷ more.indices;
      size = ap suc more.size;
      each = (one.is, more.each);
      are = p.3.3.0 ∙ ap (λ (n : List ℕ). n ∷ p.3.0) p.2.3.0 ∙ ap (λ (t : List (List ℕ)). class_name_at table p.2.0 ∷ t) more.are;
      passes = moved old old new p.3.1 (u2 p.2.0 ++ flat_map u2 more.indices) refl p.3.3.1 (join first more.passes);
    }

pub interfaces_again : (table : Table) (old new : Reading) (indices : List ℕ) → AllByRecursion (IsIndex table class_tag) indices → Passes old new (flat_map u2 indices)
    → (times (length indices) (interface table)).passes old (map (class_name_at table) indices) new
interfaces_again table old new [] each passes = (refl, still old new passes)
interfaces_again table old new (i ∷ indices) each passes =
    let h = halve old new (u2 i) (flat_map u2 indices) passes in
    (class_name_at table i, h.mid, (i, h.mid, index_again table class_tag old h.mid i each.0 h.first, (refl, refl)), (map (class_name_at table) indices, new, interfaces_again table h.mid new indices each.1 h.second, (refl, refl)))

-- ---- the front of a field or a method

pub record ReadsFront (table : Table) (old new : Reading) (f : Front) : Type 0 where
  pub fits : f.flags < 2 ^ 16
  pub name : IsIndex table utf8_tag f.name
  pub descriptor : IsIndex table utf8_tag f.descriptor
  pub passes : Passes old new (u2 f.flags ++ (u2 f.name ++ u2 f.descriptor))

pub front_read : (table : Table) (old new : Reading) (f : Front) → (front table).passes old f new → ReadsFront table old new f
front_read table old new f p =
    let n = p.3 in
    let place = n.3 in
    let d = place.3 in
    let one = index_read table utf8_tag p.1 n.1 n.0 n.2 in
    let two = index_read table utf8_tag place.1 d.1 d.0 d.2 in
    let last : Passes n.1 new (u2 d.0) = moved n.1 place.1 new d.1 (u2 d.0) place.2.1 d.3.1 two.passes in
    let all : Passes old new (u2 p.0 ++ (u2 n.0 ++ u2 d.0)) = join p.2.1 (join one.passes last) in
    subst (ReadsFront table old new) (sym d.3.0) (record { fits = p.2.0; name = one.is; descriptor = two.is; passes = all })

-- a front whose descriptor's index is somewhere
pub record FrontAgain (table : Table) (old new : Reading) (flags name descriptor : ℕ) : Type 0 where
  pub place : ℕ
  pub passes : (front table).passes old (record { flags = flags; name = name; descriptor = descriptor; place = place }) new

pub front_again : (table : Table) (old new : Reading) (flags name descriptor : ℕ) → flags < 2 ^ 16 → IsIndex table utf8_tag name → IsIndex table utf8_tag descriptor
    → Passes old new (u2 flags ++ (u2 name ++ u2 descriptor)) → FrontAgain table old new flags name descriptor
front_again table old new flags name descriptor fits is_name is_descriptor passes =
    let h = halve old new (u2 flags) (u2 name ++ u2 descriptor) passes in
    let k = halve h.mid new (u2 name) (u2 descriptor) h.second in
    record {
      place = k.mid.place;
      passes = (
        flags,
        h.mid,
        (fits, h.first),
        (
          name,
          k.mid,
          index_again table utf8_tag h.mid k.mid name is_name k.first,
          (k.mid.place, k.mid, (refl, refl), (descriptor, new, index_again table utf8_tag k.mid new descriptor is_descriptor k.second, (refl, refl))),
        ),
      );
    }

-- the parts of a member's bytes
pub member_halves : (old new : Reading) (m : MemberInfo) → Passes old new (member_bytes m) → Halves old new (u2 m.access_flags ++ (u2 m.name_index ++ u2 m.descriptor_index)) (attributes_bytes m.attributes)
member_halves old new m p = halve old new (u2 m.access_flags ++ (u2 m.name_index ++ u2 m.descriptor_index)) (attributes_bytes m.attributes) p

-- ---- fields

pub record ReadsField (table : Table) (old new : Reading) (said : HeadField) : Type 0 where
  pub member : MemberInfo
  pub is : IsFieldInfo table member said
  pub passes : Passes old new (member_bytes member)

pub field_read : (table : Table) (old new : Reading) (said : HeadField) → (field table).passes old said new → ReadsField table old new said
field_read table old new said p =
    let before = p.2 in
    let f = before.0 in
    let desc = before.3 in
    let read = front_read table old before.1 f before.2 in
    let attributes = p.3.2 in
    let same : p.0 ≡ f = desc.3.0 in
    let mid : p.1 ≡ before.1 = desc.3.1 ∙ desc.2.1 in
    let m : MemberInfo = record { access_flags = f.flags; name_index = f.name; descriptor_index = f.descriptor; attributes = attributes.attributes } in
    let behind : Passes before.1 new (attributes_bytes attributes.attributes) = moved before.1 p.1 new p.3.1 (attributes_bytes attributes.attributes) mid p.3.3.1 attributes.passes.passes in
    record {
      member = m;
      is = record {
        member = record { flags = read.fits; name = read.name; descriptor = read.descriptor; attributes = record { few = attributes.passes.few; each = attributes.passes.each } };
        descriptor = desc.2.0;
        constant = p.3.0;
        say = attributes.say;
        is = p.3.3.0 ∙ ap (λ (g : Front). field_said table g.flags g.name g.descriptor p.3.0) same;
      };
      passes = join read.passes behind;
    }

pub field_again : (table : Table) (old new : Reading) (m : MemberInfo) (said : HeadField) → IsFieldInfo table m said → Passes old new (member_bytes m) → (field table).passes old said new
field_again table old new m said is passes =
    let h = member_halves old new m passes in
    let member = is.member in
    let f = front_again table old h.mid m.access_flags m.name_index m.descriptor_index member.flags member.name member.descriptor h.first in
    let front_is : Front = record { flags = m.access_flags; name = m.name_index; descriptor = m.descriptor_index; place = f.place } in
    let attributes : PassesField table h.mid new is.constant =
    record { attributes = m.attributes; passes = record { few = member.attributes.few; each = member.attributes.each; passes = h.second }; say = is.say } in
    (front_is, h.mid, (front_is, h.mid, f.passes, (tt, h.mid, (is.descriptor, refl), (refl, refl))), (is.constant, new, attributes, (is.is, refl)))

pub record ReadsFields (table : Table) (count : ℕ) (old new : Reading) (said : List HeadField) : Type 0 where
  pub members : List MemberInfo
  pub size : length members ≡ count
  pub are : AreFields table members said
  pub passes : Passes old new (flat_map member_bytes members)

pub fields_read : (table : Table) (count : ℕ) (old new : Reading) (said : List HeadField) → (times count (field table)).passes old said new → ReadsFields table count old new said
fields_read table zero old new said p =
    subst (ReadsFields table zero old new) (sym p.0) (record { members = []; size = refl; are = tt; passes = moved old old new old [] refl p.1 (nothing old) })
fields_read table (suc count) old new said p =
    let one = field_read table old p.1 p.0 p.2 in
    let more = fields_read table count p.1 p.3.1 p.3.0 p.3.2 in
    subst (ReadsFields table (suc count) old new) (sym p.3.3.0) (record {
      members = one.member ∷ more.members;
      size = ap suc more.size;
      are = (one.is, more.are);
      passes = moved old old new p.3.1 (member_bytes one.member ++ flat_map member_bytes more.members) refl p.3.3.1 (join one.passes more.passes);
    })

pub fields_again : (table : Table) (old new : Reading) (members : List MemberInfo) (said : List HeadField) → AreFields table members said → Passes old new (flat_map member_bytes members)
    → (times (length members) (field table)).passes old said new
fields_again table old new [] [] are passes = (refl, still old new passes)
fields_again table old new [] (f ∷ said) are passes = absurd are
fields_again table old new (m ∷ members) [] are passes = absurd are
fields_again table old new (m ∷ members) (f ∷ said) are passes =
    let h = halve old new (member_bytes m) (flat_map member_bytes members) passes in
    (f, h.mid, field_again table old h.mid m f are.0 h.first, (said, new, fields_again table h.mid new members said are.1 h.second, (refl, refl)))

-- ---- methods

pub record ReadsMethod (table : Table) (old new : Reading) (one : OneMethod) : Type 0 where
  pub member : MemberInfo
  pub is : IsMethodInfo table member one.head one.body
  pub passes : Passes old new (member_bytes member)

pub method_read : (table : Table) (number : ℕ) (old new : Reading) (one : OneMethod) → (method table number).passes old one new → ReadsMethod table old new one
method_read table number old new one p =
    let start = p.1 in
    let q = p.3 in
    let before = q.2 in
    let f = before.0 in
    let desc = before.3 in
    let read = front_read table start before.1 f before.2 in
    let attributes = q.3.2 in
    let same : q.0 ≡ f = desc.3.0 in
    let mid : q.1 ≡ before.1 = desc.3.1 ∙ desc.2.1 in
    let m : MemberInfo = record { access_flags = f.flags; name_index = f.name; descriptor_index = f.descriptor; attributes = attributes.attributes } in
    let first : Passes old before.1 (u2 f.flags ++ (u2 f.name ++ u2 f.descriptor)) = moved old start before.1 before.1 (u2 f.flags ++ (u2 f.name ++ u2 f.descriptor)) p.2.1 refl read.passes in
    let behind : Passes before.1 new (attributes_bytes attributes.attributes) = moved before.1 q.1 new q.3.1 (attributes_bytes attributes.attributes) mid q.3.3.1 attributes.passes.passes in
    record {
      member = m;
      is = record {
        member = record { flags = read.fits; name = read.name; descriptor = read.descriptor; attributes = record { few = attributes.passes.few; each = attributes.passes.each } };
        descriptor = desc.2.0;
        found = q.3.0;
        say = subst (λ (g : Front). SayCode table (needs_code g.flags) (named table (codes "Code") attributes.attributes) q.3.0) same attributes.say;
        is = ap (λ (o : OneMethod). o.head) q.3.3.0 ∙ ap (λ (g : Front). method_said table g.flags g.name g.descriptor) same;
        code_is = ap (λ (o : OneMethod). o.body) q.3.3.0;
      };
      passes = join first behind;
    }

pub method_again : (table : Table) (number : ℕ) (old new : Reading) (m : MemberInfo) (head : HeadMethod) (body : ClassMethod) → IsMethodInfo table m head body → Passes old new (member_bytes m)
    → (method table number).passes old (record { head = head; body = body }) new
method_again table number old new m head body is passes =
    let h = member_halves old new m passes in
    let member = is.member in
    let f = front_again table old h.mid m.access_flags m.name_index m.descriptor_index member.flags member.name member.descriptor h.first in
    let front_is : Front = record { flags = m.access_flags; name = m.name_index; descriptor = m.descriptor_index; place = f.place } in
    let attributes : PassesMethod table (needs_code m.access_flags) h.mid new is.found =
    record { attributes = m.attributes; passes = record { few = member.attributes.few; each = member.attributes.each; passes = h.second }; say = is.say } in
    let make : HeadMethod → ClassMethod → OneMethod = λ a b. record { head = a; body = b } in
    let one : make head body ≡ make (method_said table m.access_flags m.name_index m.descriptor_index) (code_said is.found) =
    ap (λ (a : HeadMethod). make a body) is.is ∙ ap (make (method_said table m.access_flags m.name_index m.descriptor_index)) is.code_is in
    (old.place, old, (refl, refl), (front_is, h.mid, (front_is, h.mid, f.passes, (tt, h.mid, (is.descriptor, refl), (refl, refl))), (is.found, new, attributes, (one, refl))))

pub record ReadsMethods (table : Table) (count : ℕ) (old new : Reading) (before after : MethodLists) : Type 0 where
  pub members : List MemberInfo
  pub heads : List HeadMethod
  pub bodies : List ClassMethod
  pub size : length members ≡ count
  pub are : AreMethods table members heads bodies
  pub heads_are : after.heads ≡ before.heads ++ heads
  pub bodies_are : after.bodies ≡ before.bodies ++ bodies
  pub passes : Passes old new (flat_map member_bytes members)

pub methods_read : (table : Table) (count : ℕ) (old new : Reading) (before after : MethodLists) → (fold (next_method table) count before).passes old after new → ReadsMethods table count old new before after
methods_read table zero old new before after p = record {
  members = [];
  heads = [];
  bodies = [];
  size = refl;
  are = tt;
  heads_are = ap (λ (s : MethodLists). s.heads) p.0 ∙ sym (append-nil before.heads);
  bodies_are = ap (λ (s : MethodLists). s.bodies) p.0 ∙ sym (append-nil before.bodies);
  passes = moved old old new old [] refl p.1 (nothing old);
}
methods_read table (suc count) old new before after p =
    let next = p.2 in
    let m = next.0 in
    let one = method_read table (length before.heads) old next.1 m next.2 in
    let more = methods_read table count p.1 new p.0 after p.3 in
    let first : Passes old p.1 (member_bytes one.member) = moved old old p.1 next.1 (member_bytes one.member) refl next.3.1 one.passes in
    record {
      members = one.member ∷ more.members;
      heads = m.head ∷ more.heads;
      bodies = m.body ∷ more.bodies;
      size = ap suc more.size;
      are = (one.is, more.are);
      heads_are = more.heads_are ∙ ap (λ (s : MethodLists). s.heads ++ more.heads) next.3.0 ∙ append_assoc before.heads (m.head ∷ []) more.heads;
      bodies_are = more.bodies_are ∙ ap (λ (s : MethodLists). s.bodies ++ more.bodies) next.3.0 ∙ append_assoc before.bodies (m.body ∷ []) more.bodies;
      passes = join first more.passes;
    }

abbrev lists : List HeadMethod → List ClassMethod → MethodLists
lists heads bodies = record { heads = heads; bodies = bodies }

pub methods_again : (table : Table) (old new : Reading) (members : List MemberInfo) (heads : List HeadMethod) (bodies : List ClassMethod) (before : MethodLists) → AreMethods table members heads bodies
    → Passes old new (flat_map member_bytes members) → (fold (next_method table) (length members) before).passes old (lists (before.heads ++ heads) (before.bodies ++ bodies)) new
methods_again table old new [] [] [] before are passes =
    (ap (λ (t : List HeadMethod). lists t (before.bodies ++ [])) (append-nil before.heads) ∙ ap (lists before.heads) (append-nil before.bodies), still old new passes)
methods_again table old new [] [] (b ∷ bodies) before are passes = absurd are
methods_again table old new [] (h ∷ heads) bodies before are passes = absurd are
methods_again table old new (m ∷ members) [] bodies before are passes = absurd are
methods_again table old new (m ∷ members) (h ∷ heads) [] before are passes = absurd are
methods_again table old new (m ∷ members) (h ∷ heads) (b ∷ bodies) before are passes =
    let halves = halve old new (member_bytes m) (flat_map member_bytes members) passes in
    let next = lists (before.heads ++ h ∷ []) (before.bodies ++ b ∷ []) in
    let one = method_again table (length before.heads) old halves.mid m h b are.0 halves.first in
    let more = methods_again table halves.mid new members heads bodies next are.1 halves.second in
    let same : lists ((before.heads ++ h ∷ []) ++ heads) ((before.bodies ++ b ∷ []) ++ bodies) ≡ lists (before.heads ++ h ∷ heads) (before.bodies ++ b ∷ bodies) =
    ap (λ (t : List HeadMethod). lists t ((before.bodies ++ b ∷ []) ++ bodies)) (append_assoc before.heads (h ∷ []) heads) ∙ ap (lists (before.heads ++ h ∷ heads)) (append_assoc before.bodies (b ∷ []) bodies) in (
      next,
      halves.mid,
      (record { head = h; body = b }, halves.mid, one, (refl, refl)),
      subst (λ (s : MethodLists). (fold (next_method table) (length members) next).passes halves.mid s new) same more,
    )
