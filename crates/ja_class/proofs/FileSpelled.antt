-- What a reader passes as a class file is what the grammar spells, and the other way round.
use Rattle.std.proofs.Common.{◌≡◌, ℕ, ◌<◌, ◌≤◌, ◌^◌, false, List, [], ◌++◌, length, map, Option, None, refl, sym, ap, subst, ◌∙◌, append_assoc, arith, length-append}
use Rattle.std.specs.Prelude.{IsTrue, nat_le}
use Rattle.std.specs.List.{flat_map, AllByRecursion}
use Rattle.std.proofs.lemmas.Bool.{eqb-true, and_parts, and_from, leb-true, le-leb}
use Rattle.std.proofs.lemmas.List.{append-nil}
use Rattle.ja_bytes.specs.Reading.{Reading, Passes}
use Rattle.ja_pool.specs.Entry.{Entry, IsEntry, spelling as entry_bytes}
use Rattle.ja_pool.specs.Table.{Table, tags_of, first_wrong, class_name_at}
use Rattle.ja_pool.specs.Pool.{table_of, PassesPool}
use Rattle.ja_attributes.specs.Attribute.{attributes_bytes, PassesAny}
use Rattle.ja_ir.specs.declared.head.HeadMethod.{HeadMethod}
use Rattle.ja_class.specs.declared.class.ClassMethod.{ClassMethod}
use Rattle.ja_class.specs.declared.head.ClassNames.{ClassNames}
use Rattle.ja_class.specs.declared.method.MethodLists.{MethodLists}
use Rattle.ja_class.specs.Member.{class_tag, HasDescriptor, is_array, is_super}
use Rattle.ja_class.specs.Meaning.{ClassSpelled, super_said}
use Rattle.ja_class.specs.ClassFile.{MemberInfo, ClassFile, u2, u4, member_bytes, pool_of, spelling, IsIndex, AreFields, AreMethods, Says, IsClass}
use Rattle.ja_class.specs.ClassFault.{names, start, members, class_file}
use Rattle.ja_class.proofs.Descriptors.{all_right, right_each}
use Rattle.ja_class.proofs.PartsExact.{pool_bytes}
use Rattle.ja_class.proofs.MembersSpelled.{join, halve, moved, this_read, this_again, super_read, super_again, interfaces_read, interfaces_again, fields_read, fields_again, methods_read, methods_again}

-- ---- magic number, version and pool

-- the bytes before the class itself
abbrev start_bytes : ℕ → ℕ → List Entry → List ℕ
start_bytes minor major entries = u4 0xcafebabe ++ (u2 minor ++ (u2 major ++ (u2 (length (table_of 8 entries)) ++ flat_map entry_bytes entries)))

record ReadsStart (old new : Reading) (table : Table) : Type 0 where
  minor : ℕ
  major : ℕ
  entries : List Entry
  minor_fits : minor < 2 ^ 16
  major_fits : (45 ≤ major) × (major ≤ 52)
  is : table ≡ table_of 8 entries
  few : length table < 2 ^ 16
  each : AllByRecursion IsEntry entries
  right : first_wrong (tags_of table) table ≡ None
  descriptors : AllByRecursion (HasDescriptor table) table
  passes : Passes old new (start_bytes minor major entries)

start_read : (bytes : List ℕ) (new : Reading) (table : Table) → start.passes (record { place = 0; rest = bytes }) table new → ReadsStart (record { place = 0; rest = bytes }) new table
start_read bytes new table p =
    let old : Reading = record { place = 0; rest = bytes } in
    let m = p.2 in
    let v = p.3.2 in
    let rest = p.3.3 in
    let pool = rest.2 in
    let at_pool = p.3.1 in
    let d = right_each rest.0 rest.1 rest.3.1 rest.3.0 rest.0 rest.3.2 in
    let magic_is : m.0 ≡ 0xcafebabe = eqb-true m.0 0xcafebabe m.3.0 in
    let magic_passes : Passes old p.1 (u4 0xcafebabe) = subst (λ (n : ℕ). Passes old p.1 (u4 n)) magic_is (moved old old p.1 m.1 (u4 m.0) refl m.3.1 m.2.1) in
    let major = v.3 in
    let major_passes : Passes v.1 at_pool (u2 major.0) = moved v.1 v.1 at_pool major.1 (u2 major.0) refl major.3.1 major.2.1 in
    let parts = and_parts (nat_le 45 major.0) (nat_le major.0 52) major.3.0 in
    let place : at_pool.place ≡ 8 = omega (arith, magic_passes.place, v.2.1.place, major_passes.place) in
    let table_is : rest.0 ≡ table_of 8 pool.entries = pool.is ∙ ap (λ (n : ℕ). table_of n pool.entries) place in
    let pool_passes : Passes at_pool rest.1 (u2 (length (table_of 8 pool.entries)) ++ flat_map entry_bytes pool.entries) =
    subst (λ (t : Table). Passes at_pool rest.1 (u2 (length t) ++ flat_map entry_bytes pool.entries)) table_is (pool_bytes at_pool rest.1 rest.0 pool) in
    let behind : Passes at_pool new (u2 (length (table_of 8 pool.entries)) ++ flat_map entry_bytes pool.entries) =
    moved at_pool at_pool new rest.1 (u2 (length (table_of 8 pool.entries)) ++ flat_map entry_bytes pool.entries) refl (rest.3.3.1 ∙ d.1) pool_passes in
    subst (ReadsStart old new) (sym rest.3.3.0) (record {
      minor = v.0;
      major = major.0;
      entries = pool.entries;
      minor_fits = v.2.0;
      major_fits = (leb-true 45 major.0 parts.0, leb-true major.0 52 parts.1);
      is = table_is;
      few = pool.passes.fits;
      each = pool.passes.each;
      right = pool.right;
      descriptors = d.0;
      passes = join magic_passes (join v.2.1 (join major_passes behind));
    })

start_again : (bytes : List ℕ) (new : Reading) (minor major : ℕ) (entries : List Entry) → minor < 2 ^ 16 → 45 ≤ major → major ≤ 52 → length (table_of 8 entries) < 2 ^ 16 → AllByRecursion IsEntry entries
    → first_wrong (tags_of (table_of 8 entries)) (table_of 8 entries) ≡ None → AllByRecursion (HasDescriptor (table_of 8 entries)) (table_of 8 entries)
    → Passes (record { place = 0; rest = bytes }) new (start_bytes minor major entries) → start.passes (record { place = 0; rest = bytes }) (table_of 8 entries) new
start_again bytes new minor major entries minor_fits least most few each right descriptors passes =
    let old : Reading = record { place = 0; rest = bytes } in
    let table : Table = table_of 8 entries in
    let pool_part : List ℕ = u2 (length table) ++ flat_map entry_bytes entries in
    let h = halve old new (u4 0xcafebabe) (u2 minor ++ (u2 major ++ pool_part)) passes in
    let k = halve h.mid new (u2 minor) (u2 major ++ pool_part) h.second in
    let l = halve k.mid new (u2 major) pool_part k.second in
    let place : l.mid.place ≡ 8 = omega (arith, h.first.place, k.first.place, l.first.place) in
    let pool : PassesPool l.mid new table = record {
      entries = entries;
      passes = record {
        some = omega arith;
        fits = few;
        each = each;
        parts = l.second.parts ∙ append_assoc (u2 (length table)) (flat_map entry_bytes entries) new.rest;
        place = omega (arith, l.second.place, length-append (u2 (length table)) (flat_map entry_bytes entries));
      };
      is = ap (λ (n : ℕ). table_of n entries) (sym place);
      right = right;
    } in
    let fits : major < 2 ^ 16 = omega (arith, most) in (
      tt,
      h.mid,
      (0xcafebabe, h.mid, (omega arith, h.first), (refl, refl)),
      (
        tt,
        l.mid,
        (minor, k.mid, (minor_fits, k.first), (major, l.mid, (fits, l.first), (and_from (nat_le 45 major) (nat_le major 52) (le-leb 45 major least) (le-leb major 52 most), refl))),
        (table, new, pool, (tt, new, all_right table new table descriptors, (refl, refl))),
      ),
    )

-- ---- the class

abbrev names_bytes : (flags this above : ℕ) → List ℕ → List ℕ
names_bytes flags this above indices = u2 flags ++ (u2 this ++ (u2 above ++ (u2 (length indices) ++ flat_map u2 indices)))

record ReadsNames (table : Table) (old new : Reading) (n : ClassNames) : Type 0 where
  this : ℕ
  above : ℕ
  indices : List ℕ
  flags_fit : n.flags < 2 ^ 16
  this_is : IsIndex table class_tag this
  not_array : is_array (class_name_at table this) ≡ false
  above_fits : above < 2 ^ 16
  above_is : IsTrue (is_super table (class_name_at table this) above)
  few : length indices < 2 ^ 16
  each : AllByRecursion (IsIndex table class_tag) indices
  name_is : n.name ≡ class_name_at table this
  superclass_is : n.superclass ≡ super_said table above
  interfaces_are : n.interfaces ≡ map (class_name_at table) indices
  passes : Passes old new (names_bytes n.flags this above indices)

names_read : (table : Table) (old new : Reading) (n : ClassNames) → (names table).passes old n new → ReadsNames table old new n
names_read table old new n p =
    let t = p.3 in
    let a = t.3 in
    let i = a.3 in
    let this = this_read table p.1 t.1 t.0 t.2 in
    let above = super_read table (class_name_at table t.0) t.1 a.1 a.0 a.2 in
    let counted = i.2 in
    let direct = interfaces_read table counted.0 counted.1 i.1 i.0 counted.3 in
    let number : Passes a.1 counted.1 (u2 (length direct.indices)) = subst (λ (k : ℕ). Passes a.1 counted.1 (u2 k)) (sym direct.size) counted.2.1 in
    let last : Passes counted.1 new (flat_map u2 direct.indices) = moved counted.1 counted.1 new i.1 (flat_map u2 direct.indices) refl i.3.1 direct.passes in
    subst (ReadsNames table old new) (sym i.3.0) (record {
      this = t.0;
      above = a.0;
      indices = direct.indices;
      flags_fit = p.2.0;
      this_is = this.is;
      not_array = this.not_array;
      above_fits = above.fits;
      above_is = above.is;
      few = subst (λ (k : ℕ). k < 2 ^ 16) (sym direct.size) counted.2.0;
      each = direct.each;
      name_is = refl;
      superclass_is = refl;
      interfaces_are = direct.are;
      passes = join p.2.1 (join this.passes (join above.passes (join number last)));
    })

names_again : (table : Table) (old new : Reading) (flags this above : ℕ) (indices : List ℕ) → flags < 2 ^ 16 → IsIndex table class_tag this → is_array (class_name_at table this) ≡ false
    → above < 2 ^ 16 → IsTrue (is_super table (class_name_at table this) above) → length indices < 2 ^ 16 → AllByRecursion (IsIndex table class_tag) indices
    → Passes old new (names_bytes flags this above indices)
    → (names table).passes old (record { flags = flags; name = class_name_at table this; superclass = super_said table above; interfaces = map (class_name_at table) indices }) new
names_again table old new flags this above indices flags_fit this_is not_array above_fits above_is few each passes =
    let behind : List ℕ = u2 (length indices) ++ flat_map u2 indices in
    let h = halve old new (u2 flags) (u2 this ++ (u2 above ++ behind)) passes in
    let k = halve h.mid new (u2 this) (u2 above ++ behind) h.second in
    let l = halve k.mid new (u2 above) behind k.second in
    let m = halve l.mid new (u2 (length indices)) (flat_map u2 indices) l.second in (
      flags,
      h.mid,
      (flags_fit, h.first),
      (
        this,
        k.mid,
        this_again table h.mid k.mid this this_is not_array k.first,
        (
          above,
          l.mid,
          super_again table (class_name_at table this) k.mid l.mid above above_fits above_is l.first,
          (map (class_name_at table) indices, new, (length indices, m.mid, (few, m.first), interfaces_again table m.mid new indices each m.second), (refl, refl)),
        ),
      ),
    )

-- ---- fields and methods

abbrev list_bytes : List MemberInfo → List ℕ
list_bytes members = u2 (length members) ++ flat_map member_bytes members

record ReadsMembers (table : Table) (old new : Reading) (class : ClassSpelled) : Type 0 where
  class_names : ClassNames
  fields : List MemberInfo
  methods : List MemberInfo
  mid : Reading
  names_are : ReadsNames table old mid class_names
  few_fields : length fields < 2 ^ 16
  few_methods : length methods < 2 ^ 16
  fields_are : AreFields table fields class.head.fields
  methods_are : AreMethods table methods class.head.methods class.methods
  passes : Passes mid new (list_bytes fields ++ list_bytes methods)
  name_is : class.head.name ≡ class_names.name
  superclass_is : class.head.superclass ≡ class_names.superclass
  interfaces_are : class.head.interfaces ≡ class_names.interfaces
  flags_are : class.head.flags ≡ class_names.flags
  pool_is : class.pool ≡ table

members_read : (table : Table) (old new : Reading) (class : ClassSpelled) → (members table).passes old class new → ReadsMembers table old new class
members_read table old new class p =
    let fs = p.3 in
    let ms = fs.3 in
    let counted_fields = fs.2 in
    let counted_methods = ms.2 in
    let fields = fields_read table counted_fields.0 counted_fields.1 fs.1 fs.0 counted_fields.3 in
    let methods = methods_read table counted_methods.0 counted_methods.1 ms.1 (record { heads = []; bodies = [] }) ms.0 counted_methods.3 in
    let field_number : Passes p.1 counted_fields.1 (u2 (length fields.members)) = subst (λ (k : ℕ). Passes p.1 counted_fields.1 (u2 k)) (sym fields.size) counted_fields.2.1 in
    let method_number : Passes fs.1 counted_methods.1 (u2 (length methods.members)) = subst (λ (k : ℕ). Passes fs.1 counted_methods.1 (u2 k)) (sym methods.size) counted_methods.2.1 in
    let last : Passes counted_methods.1 new (flat_map member_bytes methods.members) = moved counted_methods.1 counted_methods.1 new ms.1 (flat_map member_bytes methods.members) refl ms.3.1 methods.passes in
    let bodies : AreMethods table methods.members methods.heads ms.0.bodies = subst (λ (t : List ClassMethod). AreMethods table methods.members methods.heads t) (sym methods.bodies_are) methods.are in
    let both : AreMethods table methods.members ms.0.heads ms.0.bodies = subst (λ (t : List HeadMethod). AreMethods table methods.members t ms.0.bodies) (sym methods.heads_are) bodies in
    subst (ReadsMembers table old new) (sym ms.3.0) (record {
      class_names = p.0;
      fields = fields.members;
      methods = methods.members;
      mid = p.1;
      names_are = names_read table old p.1 p.0 p.2;
      few_fields = subst (λ (k : ℕ). k < 2 ^ 16) (sym fields.size) counted_fields.2.0;
      few_methods = subst (λ (k : ℕ). k < 2 ^ 16) (sym methods.size) counted_methods.2.0;
      fields_are = fields.are;
      methods_are = both;
      passes = join (join field_number fields.passes) (join method_number last);
      name_is = refl;
      superclass_is = refl;
      interfaces_are = refl;
      flags_are = refl;
      pool_is = refl;
    })

-- ---- whole files

-- the bytes of a class file, part by part
abbrev parts_bytes : ClassFile → List ℕ
parts_bytes c =
    start_bytes c.minor_version c.major_version c.constant_pool
    ++ (names_bytes c.access_flags c.this_class c.super_class c.interfaces ++ ((list_bytes c.fields ++ list_bytes c.methods) ++ attributes_bytes c.attributes))

parts_are : (c : ClassFile) → parts_bytes c ≡ spelling c
parts_are c =
    let fields : List ℕ = flat_map member_bytes c.fields in
    let methods : List ℕ = list_bytes c.methods in
    let last : List ℕ = attributes_bytes c.attributes in
    ap (λ (t : List ℕ).
    u4 0xcafebabe ++ (u2 c.minor_version ++ (u2 c.major_version ++ (u2 (length (pool_of c)) ++ (flat_map entry_bytes c.constant_pool
    ++ (u2 c.access_flags ++ (u2 c.this_class ++ (u2 c.super_class ++ (u2 (length c.interfaces) ++ (flat_map u2 c.interfaces ++ (u2 (length c.fields) ++ t)))))))))))
    (append_assoc fields methods last)

abbrev pub begin : List ℕ → Reading
begin bytes = record { place = 0; rest = bytes }

-- what is passed as a class file is spelled
pub passed_is_class : (bytes : List ℕ) (class : ClassSpelled) (new : Reading) → class_file.passes (begin bytes) class new → IsClass bytes class
passed_is_class bytes class new p =
    let b = p.3 in
    let ends = b.3.2 in
    let first = start_read bytes p.1 p.0 p.2 in
    let table : Table = table_of 8 first.entries in
    let m : ReadsMembers table p.1 b.1 b.0 = subst (λ (t : Table). ReadsMembers t p.1 b.1 b.0) first.is (members_read p.0 p.1 b.1 b.0 b.2) in
    let n = m.names_are in
    let any : PassesAny table b.1 ends.1 = subst (λ (t : Table). PassesAny t b.1 ends.1) first.is ends.2 in
    let file : ClassFile = record {
      minor_version = first.minor;
      major_version = first.major;
      constant_pool = first.entries;
      access_flags = m.class_names.flags;
      this_class = n.this;
      super_class = n.above;
      interfaces = n.indices;
      fields = m.fields;
      methods = m.methods;
      attributes = any.attributes;
    } in
    let all : Passes (begin bytes) ends.1 (parts_bytes file) = join first.passes (join n.passes (join m.passes any.passes.passes)) in
    subst (IsClass bytes) (sym b.3.3.0) (record {
      file = file;
      says = record {
        minor = first.minor_fits;
        major = first.major_fits;
        pool = record {
          few = subst (λ (t : Table). length t < 2 ^ 16) first.is first.few;
          entries = first.each;
          indices = subst (λ (t : Table). first_wrong (tags_of t) t ≡ None) first.is first.right;
          descriptors = subst (λ (t : Table). AllByRecursion (HasDescriptor t) t) first.is first.descriptors;
        };
        flags = n.flags_fit;
        this_class = n.this_is;
        not_array = n.not_array;
        super_fits = n.above_fits;
        super_class = n.above_is;
        few_interfaces = n.few;
        interfaces = n.each;
        few_fields = m.few_fields;
        fields = m.fields_are;
        few_methods = m.few_methods;
        methods = m.methods_are;
        attributes = record { few = any.passes.few; each = any.passes.each };
        name_is = m.name_is ∙ n.name_is;
        superclass_is = m.superclass_is ∙ n.superclass_is;
        interfaces_are = m.interfaces_are ∙ n.interfaces_are;
        flags_are = m.flags_are;
        pool_is = m.pool_is;
      };
      whole = all.parts ∙ ap (λ (t : List ℕ). parts_bytes file ++ t) ends.3.0 ∙ append-nil (parts_bytes file) ∙ parts_are file;
    })

-- the class that a class file says, by its parts
class_is : (c : ClassFile) (class : ClassSpelled) → Says c class → class ≡ record {
  head = record {
    name = class_name_at (pool_of c) c.this_class;
    superclass = super_said (pool_of c) c.super_class;
    interfaces = map (class_name_at (pool_of c)) c.interfaces;
    flags = c.access_flags;
    fields = class.head.fields;
    methods = class.head.methods;
  };
  pool = pool_of c;
  methods = class.methods;
}
class_is c class s =
    let make : List ℕ → Option (List ℕ) → List (List ℕ) → ℕ → Table → ClassSpelled =
    λ name superclass interfaces flags pool.
    record {
      head = record { name = name; superclass = superclass; interfaces = interfaces; flags = flags; fields = class.head.fields; methods = class.head.methods };
      pool = pool;
      methods = class.methods;
    } in
    let name : List ℕ = class_name_at (pool_of c) c.this_class in
    let above : Option (List ℕ) = super_said (pool_of c) c.super_class in
    let direct : List (List ℕ) = map (class_name_at (pool_of c)) c.interfaces in
    ap (λ (x : List ℕ). make x class.head.superclass class.head.interfaces class.head.flags class.pool) s.name_is
    ∙ ap (λ (x : Option (List ℕ)). make name x class.head.interfaces class.head.flags class.pool) s.superclass_is
    ∙ ap (λ (x : List (List ℕ)). make name above x class.head.flags class.pool) s.interfaces_are
    ∙ ap (λ (x : ℕ). make name above direct x class.pool) s.flags_are
    ∙ ap (make name above direct c.access_flags) s.pool_is

-- what is spelled is passed as a class file
pub class_is_passed : (bytes : List ℕ) (class : ClassSpelled) → IsClass bytes class → (new : Reading) × class_file.passes (begin bytes) class new
class_is_passed bytes class is =
    let c = is.file in
    let s = is.says in
    let table : Table = pool_of c in
    let end : Reading = record { place = length bytes; rest = [] } in
    let parts : bytes ≡ parts_bytes c ++ [] = is.whole ∙ sym (parts_are c) ∙ sym (append-nil (parts_bytes c)) in
    let all : Passes (begin bytes) end (parts_bytes c) = record { parts = parts; place = omega (arith, ap length (is.whole ∙ sym (parts_are c))) } in
    let heads : List ℕ = names_bytes c.access_flags c.this_class c.super_class c.interfaces in
    let lists : List ℕ = list_bytes c.fields ++ list_bytes c.methods in
    let last : List ℕ = attributes_bytes c.attributes in
    let h = halve (begin bytes) end (start_bytes c.minor_version c.major_version c.constant_pool) (heads ++ (lists ++ last)) all in
    let k = halve h.mid end heads (lists ++ last) h.second in
    let l = halve k.mid end lists last k.second in
    let f = halve k.mid l.mid (list_bytes c.fields) (list_bytes c.methods) l.first in
    let fields = halve k.mid f.mid (u2 (length c.fields)) (flat_map member_bytes c.fields) f.first in
    let methods = halve f.mid l.mid (u2 (length c.methods)) (flat_map member_bytes c.methods) f.second in
    let started = start_again bytes h.mid c.minor_version c.major_version c.constant_pool s.minor s.major.0 s.major.1 s.pool.few s.pool.entries s.pool.indices s.pool.descriptors h.first in
    let named = names_again table h.mid k.mid c.access_flags c.this_class c.super_class c.interfaces s.flags s.this_class s.not_array s.super_fits s.super_class s.few_interfaces s.interfaces k.first in
    let read_fields = fields_again table fields.mid f.mid c.fields class.head.fields s.fields fields.second in
    let read_methods = methods_again table methods.mid l.mid c.methods class.head.methods class.methods (record { heads = []; bodies = [] }) s.methods methods.second in
    let class_names : ClassNames = record { flags = c.access_flags; name = class_name_at table c.this_class; superclass = super_said table c.super_class; interfaces = map (class_name_at table) c.interfaces } in
    let method_lists : MethodLists = record { heads = class.head.methods; bodies = class.methods } in
    let any : PassesAny table l.mid end = record { attributes = c.attributes; passes = record { few = s.attributes.few; each = s.attributes.each; passes = l.second } } in (
      end,
      (
        table,
        h.mid,
        started,
        (
          class,
          l.mid,
          (
            class_names,
            k.mid,
            named,
            (
              class.head.fields,
              f.mid,
              (length c.fields, fields.mid, (s.few_fields, fields.first), read_fields),
              (method_lists, l.mid, (length c.methods, methods.mid, (s.few_methods, methods.first), read_methods), (class_is c class s, refl)),
            ),
          ),
          (tt, end, (tt, end, any, (refl, refl)), (refl, refl)),
        ),
      ),
    )
