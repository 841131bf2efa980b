-- A whole class file, part by part.
use Rattle.std.proofs.Common.{◌≡◌, ℕ, ◌+◌, ◌<◌, List, [], ◌∷◌, ◌++◌, length, map, refl, sym, ap, ◌∙◌, append_assoc, arith, suc, inl, inr}
use Rattle.std.specs.List.{flat_map}
use Rattle.std.proofs.lemmas.List.{append-nil, length-map, take_all}
use Rattle.std.proofs.lemmas.Grind.{flat_map-append}
use Rattle.ja_pool.specs.Entry.{spelling as entry_bytes}
use Rattle.ja_pool.specs.Table.{entries_from}
use Rattle.ja_pool.specs.Pool.{table_of}
use Rattle.ja_class.specs.ClassFile.{MemberInfo, member_bytes, spelling}
use Rattle.ja_listing.specs.Listed.{Listed}
use Rattle.ja_assembly.specs.declared.key.Key.{Key}
use Rattle.ja_assembly.specs.declared.key.Key.TheVariants as keys
use Rattle.ja_writable.specs.declared.wants.Wants.{Wants}
use Rattle.ja_assembly.specs.Members.{fields, methods, items_of_class}
use Rattle.ja_assembly.specs.Wanted.{entries}
use Rattle.ja_assembly.specs.Unwritable.{CannotBeWritten, before, expansion}
use Rattle.ja_writable.specs.InnerJudging.{IsAllowed}
use Rattle.ja_assembly.specs.Assembled.{Pool, u2, u4, class_index, string_entry, key_entry, entries_of, field_info, method_info, pool_for, file_in}
use Rattle.ja_maker.specs.InnerWriting.{pool_in, IsFew, members_bytes}

-- no entry takes two indices
keys_length : (pool : Pool) (ks : List Key) (place : ℕ) → length (entries_from place (map (key_entry pool) ks)) ≡ length ks
keys_length pool [] place = refl
keys_length pool (keys.Text text ∷ ks) place = ap suc (keys_length pool ks (place + length (entry_bytes (key_entry pool (keys.Text text)))))
keys_length pool (keys.Class name ∷ ks) place = ap suc (keys_length pool ks (place + length (entry_bytes (key_entry pool (keys.Class name)))))
keys_length pool (keys.NameAndType name desc ∷ ks) place = ap suc (keys_length pool ks (place + length (entry_bytes (key_entry pool (keys.NameAndType name desc)))))
keys_length pool (keys.Member tag class name desc ∷ ks) place = ap suc (keys_length pool ks (place + length (entry_bytes (key_entry pool (keys.Member tag class name desc)))))

entries_length : (pool : Pool) (texts : List (List ℕ)) (ks : List Key) (place : ℕ)
    → length (entries_from place (map (string_entry pool) texts ++ map (key_entry pool) ks)) ≡ length texts + length ks
entries_length pool [] ks place = keys_length pool ks place ∙ omega arith
entries_length pool (text ∷ texts) ks place =
    let rest = entries_length pool texts ks (place + length (entry_bytes (string_entry pool text))) in
    ap suc rest ∙ omega arith

-- the count of the pool
pub count_is : (pool : Pool) → length pool.strings + length pool.keys + 1 ≡ length (table_of 8 (entries_of pool))
count_is pool = let rest = entries_length pool pool.strings pool.keys 10 in omega (arith, rest)

-- the count, and then the strings and the other entries
pub pool_is : (pool : Pool) (n : ℕ) (o p q r : List ℕ) → n ≡ length (table_of 8 (entries_of pool)) → p ≡ o ++ u2 n
    → q ≡ p ++ flat_map entry_bytes (map (string_entry pool) pool.strings) → r ≡ q ++ flat_map entry_bytes (map (key_entry pool) pool.keys)
    → r ≡ o ++ (u2 (length (table_of 8 (entries_of pool))) ++ flat_map entry_bytes (entries_of pool))
pool_is pool n o p q r hn hp hq hr =
    rw (hr, hq, hp, hn, flat_map-append entry_bytes (map (string_entry pool) pool.strings) (map (key_entry pool) pool.keys)) (simp append_assoc)

-- the count, and then the members
pub members_are : {A : Type 0} (f : A → MemberInfo) (xs : List A) (n : ℕ) (o p q : List ℕ) → n ≡ length xs → p ≡ o ++ u2 n
    → q ≡ p ++ flat_map member_bytes (map f xs) → q ≡ o ++ members_bytes (map f xs)
members_are f xs n o p q hn hp hq =
    rw (hq, hp, hn, length-map xs f) (append_assoc o (u2 (length xs)) (flat_map member_bytes (map f xs)))

glued : (o a b c d e f g h i j k l m : List ℕ) (p q r s t v : List ℕ) → p ≡ o ++ (a ++ (b ++ c)) → q ≡ p ++ (d ++ e) → r ≡ q ++ (f ++ (g ++ (h ++ i)))
    → s ≡ r ++ (j ++ k) → t ≡ s ++ (l ++ m) → (z : List ℕ) → v ≡ t ++ z
    → v ≡ o ++ (a ++ (b ++ (c ++ (d ++ (e ++ (f ++ (g ++ (h ++ (i ++ (j ++ (k ++ (l ++ (m ++ z)))))))))))))
glued o a b c d e f g h i j k l m p q r s t v hp hq hr hs ht z hv = rw (hv, ht, hs, hr, hq, hp) (simp append_assoc)

-- the whole
pub whole_is : (pool : Pool) (class : Listed) (o p q r s t v : List ℕ) → p ≡ o ++ (u4 0xcafebabe ++ (u2 0 ++ u2 52))
    → q ≡ p ++ (u2 (length (table_of 8 (entries_of pool))) ++ flat_map entry_bytes (entries_of pool))
    → r ≡ q ++ (u2 class.head.flags.size ++ (u2 (class_index pool class.head.name) ++ (u2 (class_index pool class.head.superclass) ++ u2 0)))
    → s ≡ r ++ members_bytes (map (field_info pool) (fields (items_of_class class)))
    → t ≡ s ++ members_bytes (map (method_info pool) (methods (items_of_class class))) → v ≡ t ++ u2 0
    → v ≡ o ++ spelling (file_in pool class)
whole_is pool class o p q r s t v hp hq hr hs ht hv =
    let fs = map (field_info pool) (fields (items_of_class class)) in
    let ms = map (method_info pool) (methods (items_of_class class)) in
    glued o (u4 0xcafebabe) (u2 0) (u2 52) (u2 (length (table_of 8 (entries_of pool)))) (flat_map entry_bytes (entries_of pool))
    (u2 class.head.flags.size) (u2 (class_index pool class.head.name)) (u2 (class_index pool class.head.superclass)) (u2 0)
    (u2 (length fs)) (flat_map member_bytes fs) (u2 (length ms)) (flat_map member_bytes ms) p q r s t v hp hq hr hs ht (u2 0 ++ []) (rw (append-nil (u2 0)) hv)

-- what a class that can be written asks for is its pool, which has few entries
pub pool_known : (c : Listed) (w : Wants) → IsAllowed c w → pool_in w ≡ pool_for c
pool_known c w h = rw (h.strings_are, h.keys_are) refl

few_entries : (c : Listed) (w : Wants) → IsAllowed c w → 65534 < length w.strings.keys + length w.keys.keys → ⊥
few_entries c w h many =
    let all : before c (length c.items) ≡ expansion c c.items = ap (expansion c) (take_all (length c.items) c.items (omega arith)) in
    let most : 65534 < entries c.head (before c (length c.items)) = rw (all, sym h.strings_are, sym h.keys_are) many in
    h.writable (length c.items) (CannotBeWritten.too_much (length c.items) (inr (inl most)))

pub few_known : (c : Listed) (w : Wants) → IsAllowed c w → IsFew w
few_known c w h = let few = few_entries c w h in omega (arith, few)
