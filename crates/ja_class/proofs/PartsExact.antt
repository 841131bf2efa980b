-- The parts of a class file are exact: each reading of bytes passes one or has a fault, and not both.
use Rattle.std.proofs.Common.{ℕ, ◌⊎◌, inl, inr, List, [], ◌∷◌, ◌++◌, length, refl, sym, ◌∙◌, append_assoc, arith, length-append}
use Rattle.std.specs.Prelude.{not, nat_le, ◌==◌, ◌&&◌}
use Rattle.std.specs.Int.{w16, to_be_bytes}
use Rattle.std.specs.List.{flat_map}
use Rattle.ja_bytes.specs.Reading.{Reading, Passes}
use Rattle.ja_bytes.specs.DescriptorText.{IsFieldDesc}
use Rattle.ja_bytes.proofs.Exact.{Decided}
use Rattle.ja_pool.specs.declared.fault.PoolFault.{PoolFault}
use Rattle.ja_pool.specs.Entry.{spelling}
use Rattle.ja_pool.specs.Table.{Table, entry_place, tag_at, text_at, class_name_at}
use Rattle.ja_pool.specs.Pool.{PassesPool, IsFirstFault}
use Rattle.ja_pool.proofs.OneReading.{pool_unique, pool_no_fault}
use Rattle.ja_pool.proofs.Exact.{pool_or_fault, one_pool_fault}
use Rattle.ja_attributes.specs.Part.{Part, IsExact}
use Rattle.ja_attributes.proofs.Parts.{both, value_exact, here_exact, check_exact, at_end_exact, u2_exact, u4_exact, stays_at, times_exact, fold_exact, renamed_exact}
use Rattle.ja_class.specs.declared.fault.ClassFault.{ClassFault}
use Rattle.ja_class.specs.declared.fault.ClassFault.TheVariants.{End, BadMagic, BadVersion, BadIndex, BadDesc, Trailing}
use Rattle.ja_class.specs.Faults.{pool_fault}
use Rattle.ja_class.specs.Member.{HasDescriptor, is_array, is_super, IsMethodDesc}
use Rattle.ja_class.specs.ClassFault.{demand, magic, version, pool, descriptors, index, this_class, super_class, counted, interface, interfaces, names, front, field_front, method_front, field, fields, method, next_method, methods, start, members, ending, body, class_file}
use Rattle.ja_class.proofs.Descriptors.{method_decided, field_decided, entry_decided}
use Rattle.ja_class.proofs.AttributesExact.{field_attributes_exact, method_attributes_exact, class_attributes_exact}

demand_exact : (holds : Type 0) (wrong : ClassFault) → Decided holds → IsExact (demand holds wrong)
demand_exact holds wrong decided = record {
  forward = λ old b new p. stays_at old new p.1;
  either = λ old bytes. elim decided [ inl h ↦ inl (tt, old, (h, refl)) | inr h ↦ inr (wrong, (h, refl)) ];
  not_both = λ old b new f p h. h.0 p.0;
  one_value = λ old a b new other p q. (refl, p.1 ∙ sym q.1);
  one_fault = λ old f g p q. p.1 ∙ sym q.1;
}

magic_exact : IsExact magic
magic_exact = both (u4_exact End) (λ number. check_exact (number == 0xcafebabe) BadMagic)

version_exact : IsExact version
version_exact = both (u2_exact End) (λ _. both (u2_exact End) (λ major. check_exact (nat_le 45 major && nat_le major 52) (BadVersion major)))

-- a pool is passed forward
pub pool_bytes : (old new : Reading) (table : Table) (p : PassesPool old new table) → Passes old new (to_be_bytes w16 (length table) ++ flat_map spelling p.entries)
pool_bytes old new table p = record {
  parts = p.passes.parts ∙ sym (append_assoc (to_be_bytes w16 (length table)) (flat_map spelling p.entries) new.rest);
  place = omega (arith, p.passes.place, length-append (to_be_bytes w16 (length table)) (flat_map spelling p.entries));
}

pool_exact : IsExact pool
pool_exact = renamed_exact pool_fault (record { passes = λ old table new. PassesPool old new table; fault = IsFirstFault }) (record {
  forward = λ old table new p. (to_be_bytes w16 (length table) ++ flat_map spelling p.entries, pool_bytes old new table p);
  either = λ old bytes. found old (pool_or_fault old bytes);
  not_both = λ old table new f p h. pool_no_fault old new table f p h;
  one_value = λ old a b new other p q. pool_unique old new other a b p q;
  one_fault = λ old f g p q. one_pool_fault old f g p q;
})
  where
    found : (old : Reading) → ((new : Reading) × (table : Table) × PassesPool old new table) ⊎ ((fault : PoolFault) × IsFirstFault old fault)
        → ((table : Table) × (new : Reading) × PassesPool old new table) ⊎ ((fault : PoolFault) × IsFirstFault old fault)
    found old (inl p) = inl (p.1, p.0, p.2)
    found old (inr h) = inr h

descriptors_exact : (table : Table) (entries : Table) → IsExact (descriptors table entries)
descriptors_exact table [] = value_exact tt
descriptors_exact table (entry ∷ entries) = both (demand_exact (HasDescriptor table entry) (BadDesc (entry_place entry)) (entry_decided table entry)) (λ _. descriptors_exact table entries)

index_exact : (table : Table) (tag : ℕ) → IsExact (index table tag)
index_exact table tag = both here_exact (λ at. both (u2_exact End) (λ i. both (check_exact (tag_at table i == tag) (BadIndex at)) (λ _. value_exact i)))

this_class_exact : (table : Table) → IsExact (this_class table)
this_class_exact table = both here_exact (λ at. both (index_exact table 7) (λ i. both (check_exact (not (is_array (class_name_at table i))) (BadIndex at)) (λ _. value_exact i)))

super_class_exact : (table : Table) (name : List ℕ) → IsExact (super_class table name)
super_class_exact table name = both here_exact (λ at. both (u2_exact End) (λ i. both (check_exact (is_super table name i) (BadIndex at)) (λ _. value_exact i)))

counted_exact : {A : Type 0} (part : Part ClassFault A) → IsExact part → IsExact (counted part)
counted_exact part exact = both (u2_exact End) (λ count. times_exact count part exact)

interfaces_exact : (table : Table) → IsExact (interfaces table)
interfaces_exact table = counted_exact (interface table) (both (index_exact table 7) (λ i. value_exact (class_name_at table i)))

names_exact : (table : Table) → IsExact (names table)
names_exact table =
    both (u2_exact End) (λ flags. both (this_class_exact table) (λ this. both (super_class_exact table (class_name_at table this)) (λ above. both (interfaces_exact table) (λ direct. value_exact _))))

front_exact : (table : Table) → IsExact (front table)
front_exact table = both (u2_exact End) (λ flags. both (index_exact table 1) (λ name. both here_exact (λ place. both (index_exact table 1) (λ descriptor. value_exact _))))

field_front_exact : (table : Table) → IsExact (field_front table)
field_front_exact table =
    both (front_exact table) (λ f. both (demand_exact (IsFieldDesc (text_at table f.descriptor)) (BadDesc f.place) (field_decided (text_at table f.descriptor))) (λ _. value_exact f))

method_front_exact : (table : Table) → IsExact (method_front table)
method_front_exact table =
    both (front_exact table) (λ f. both (demand_exact (IsMethodDesc f.flags (text_at table f.descriptor)) (BadDesc f.place) (method_decided f.flags (text_at table f.descriptor))) (λ _. value_exact f))

fields_exact : (table : Table) → IsExact (fields table)
fields_exact table = counted_exact (field table) (both (field_front_exact table) (λ f. both (field_attributes_exact table) (λ constant. value_exact _)))

method_exact : (table : Table) (number : ℕ) → IsExact (method table number)
method_exact table number =
    both here_exact (λ at. both (method_front_exact table) (λ f. both (method_attributes_exact table number f.flags at) (λ code. value_exact _)))

methods_exact : (table : Table) → IsExact (methods table)
methods_exact table =
    both (u2_exact End) (λ count. fold_exact (next_method table) (λ before. both (method_exact table (length before.heads)) (λ m. value_exact _)) count (record { heads = []; bodies = [] }))

start_exact : IsExact start
start_exact = both magic_exact (λ _. both version_exact (λ _. both pool_exact (λ table. both (descriptors_exact table table) (λ _. value_exact table))))

members_exact : (table : Table) → IsExact (members table)
members_exact table = both (names_exact table) (λ n. both (fields_exact table) (λ fs. both (methods_exact table) (λ ms. value_exact _)))

ending_exact : (table : Table) → IsExact (ending table)
ending_exact table = both (class_attributes_exact table) (λ _. at_end_exact Trailing)

body_exact : (table : Table) → IsExact (body table)
body_exact table = both (members_exact table) (λ class. both (ending_exact table) (λ _. value_exact class))

-- the whole class file
pub class_file_exact : IsExact class_file
class_file_exact = both start_exact body_exact
