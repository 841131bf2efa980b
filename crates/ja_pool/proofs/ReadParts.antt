-- A pool that is read part by part.
use Rattle.std.proofs.Common.{◌≡◌, ℕ, ◌+◌, ◌-◌, ◌<◌, ◌≤◌, ◌^◌, inl, inr, List, [], ◌∷◌, ◌++◌, length, take, Some, None, refl, sym, ap, subst, ◌∙◌, arith}
use Rattle.std.specs.Prelude.{◌==◌}
use Rattle.std.specs.Int.{w16, to_be_bytes}
use Rattle.std.specs.List.{flat_map, find, AllByRecursion, All}
use Rattle.std.proofs.lemmas.List.{append-nil, take_at, length-map}
use Rattle.ja_bytes.specs.Reading.{Reading, Passes}
use Rattle.ja_pool.specs.declared.fault.PoolFault.{PoolFault}
use Rattle.ja_pool.specs.declared.fault.PoolFault.TheVariants.{End, BadTag, PoolWidth, BadText, BadIndex, Memory}
use Rattle.ja_pool.specs.declared.slot.Slot.{Slot}
use Rattle.ja_pool.specs.Entry.{Entry, spelling, IsEntry}
use Rattle.ja_pool.specs.Table.{Table, entries_from, entry_fields, tags_of, is_wrong, first_wrong}
use Rattle.ja_pool.specs.Pool.{table_of, PassesEntries, IsEntryFault, IsFaultInEntries, IsFaultInIndices, IsFirstFault}
use Rattle.ja_pool.specs.InnerSlot.{seen, slot_tags, slot_fields, wrong_place, AreInside, AreTagged}
use Rattle.ja_pool.specs.InnerKept.{table_in}
use Rattle.ja_pool.specs.InnerShape.{ReadsEntries, StopsAtEntry, OrMemory, ReadsTable, StopsAtIndex, IsFaultBehind}
use Rattle.ja_pool.proofs.Tables.{tags_are, fields_are, seen_all, places_are, texts_are, tags_stand, wrong_none, wrong_some}

-- the slots of entries hold their table
pub table_is : (old new : Reading) (slots : List Slot) (bytes : List ℕ) (read : ReadsEntries old new slots) → bytes ≡ flat_map spelling read.entries
    → table_in bytes slots ≡ None ∷ entries_from old.place read.entries
table_is old new slots bytes read e =
    let parts : bytes ≡ [] ++ (flat_map spelling read.entries ++ []) = e ∙ sym (append-nil (flat_map spelling read.entries)) in
    let start : old.place + 0 ≡ old.place = omega arith in
    ap (table_in bytes) read.slots_are ∙ ap (λ (t : Table). None ∷ t) (seen_all bytes [] [] old.place 0 read.entries parts refl ∙ ap (λ (p : ℕ). entries_from p read.entries) start)

-- the bytes of the entries
pub bytes_are : (old new : Reading) (slots : List Slot) (read : ReadsEntries old new slots) → take (new.place - old.place) old.rest ≡ flat_map spelling read.entries
bytes_are old new slots read =
    let size : length (flat_map spelling read.entries) ≡ new.place - old.place = omega (arith, read.place) in
    ap (take (new.place - old.place)) read.parts ∙ take_at (flat_map spelling read.entries) new.rest (new.place - old.place) size

pub places_ok : (old new : Reading) (slots : List Slot) → ReadsEntries old new slots → new.place < 2 ^ 64 → All (λ slot. slot.place + 3 < 2 ^ 64) slots
places_ok old new slots read fits =
    subst (λ (t : List Slot). All (λ slot. slot.place + 3 < 2 ^ 64) t) (sym read.slots_are) (places_are old.place (2 ^ 64) read.entries (omega arith) (omega (arith, read.place, fits)))

pub inside_ok : (old new : Reading) (slots : List Slot) (bytes : List ℕ) (read : ReadsEntries old new slots) → bytes ≡ flat_map spelling read.entries → AreInside bytes slots
inside_ok old new slots bytes read e =
    subst (λ (t : List Slot). AreInside bytes t) (sym read.slots_are) (texts_are old.place bytes read.entries (omega (arith, ap length e)))

pub tagged_ok : (old new : Reading) (slots : List Slot) → ReadsEntries old new slots → AreTagged slots
tagged_ok old new slots read = subst AreTagged (sym read.slots_are) (tags_stand old.place read.entries read.each)

-- the first wrong index field of a table is that of its slots
wrong_is : (bytes : List ℕ) (slots : List Slot) → first_wrong (tags_of (table_in bytes slots)) (table_in bytes slots) ≡ find (is_wrong (slot_tags slots)) (flat_map slot_fields slots)
wrong_is bytes slots =
    ap (λ (t : List ℕ). find (is_wrong t) (flat_map entry_fields (table_in bytes slots))) (tags_are bytes slots) ∙ ap (find (is_wrong (slot_tags slots))) (fields_are bytes slots)

-- all is right
pub pool_read : (old new : Reading) (slots : List Slot) (bytes tags : List ℕ) (count : ℕ) (read : ReadsEntries old new slots) → bytes ≡ flat_map spelling read.entries → length slots ≡ count
    → tags ≡ slot_tags slots → None ≡ wrong_place tags (flat_map slot_fields slots) → ReadsTable old new count (table_in bytes slots)
pool_read old new slots bytes tags count read e full tags_is right = record {
  entries = read.entries;
  each = read.each;
  parts = read.parts;
  place = read.place;
  table_is = table_is old new slots bytes read e;
  full = length-map slots (seen bytes) ∙ full;
  right = wrong_is bytes slots ∙ wrong_none (slot_tags slots) (flat_map slot_fields slots) (ap (λ (t : List ℕ). wrong_place t (flat_map slot_fields slots)) (sym tags_is) ∙ sym right);
}

-- an index field is wrong
pub index_wrong : (old new : Reading) (slots : List Slot) (tags : List ℕ) (count at : ℕ) → ReadsEntries old new slots → length slots ≡ count → tags ≡ slot_tags slots
    → Some at ≡ wrong_place tags (flat_map slot_fields slots) → IsFaultBehind old count (BadIndex at)
index_wrong old new slots tags count at read full tags_is wrong =
    let bytes = flat_map spelling read.entries in
    let w = wrong_some (slot_tags slots) (flat_map slot_fields slots) at (ap (λ (t : List ℕ). wrong_place t (flat_map slot_fields slots)) (sym tags_is) ∙ sym wrong) in
    inr (record {
      entries = read.entries;
      at = new;
      each = read.each;
      parts = read.parts;
      place = read.place;
      table = table_in bytes slots;
      table_is = table_is old new slots bytes read refl;
      full = length-map slots (seen bytes) ∙ full;
      field = w.0;
      wrong = wrong_is bytes slots ∙ w.1;
      fault_is = ap BadIndex w.2;
    })

pub or_weaker : (P Q : PoolFault → Type 0) (fault : PoolFault) → ((f : PoolFault) → P f → Q f) → OrMemory P fault → OrMemory Q fault
or_weaker P Q (End at) g h = g (End at) h
or_weaker P Q (BadTag at tag) g h = g (BadTag at tag) h
or_weaker P Q (PoolWidth at) g h = g (PoolWidth at) h
or_weaker P Q (BadText at) g h = g (BadText at) h
or_weaker P Q (BadIndex at) g h = g (BadIndex at) h
or_weaker P Q Memory g h = tt

-- ---- with the count

passes_entries : (old mid new : Reading) (count : ℕ) (es : List Entry) → Passes old mid (to_be_bytes w16 count) → 1 ≤ count → count < 2 ^ 16 → AllByRecursion IsEntry es
    → mid.rest ≡ flat_map spelling es ++ new.rest → new.place ≡ mid.place + length (flat_map spelling es) → PassesEntries old new count es
passes_entries old mid new count es passes some fits each parts place = record {
  some = some;
  fits = fits;
  each = each;
  parts = passes.parts ∙ ap (λ (t : List ℕ). to_be_bytes w16 count ++ t) parts;
  place = omega (arith, place, passes.place);
}

count_place : (old mid : Reading) (count : ℕ) → Passes old mid (to_be_bytes w16 count) → mid.place ≡ old.place + 2
count_place old mid count passes = omega (arith, passes.place)

stops_entry : (old mid : Reading) (count : ℕ) (fault : PoolFault) → Passes old mid (to_be_bytes w16 count) → 1 ≤ count → count < 2 ^ 16 → StopsAtEntry mid count fault → IsFaultInEntries old fault
stops_entry old mid count fault passes some fits stop =
    let read = stop.reads in
    let bytes = flat_map spelling read.entries in
    let table : table_in bytes stop.slots ≡ table_of old.place read.entries =
    table_is mid stop.at stop.slots bytes read refl ∙ ap (λ (p : ℕ). None ∷ entries_from p read.entries) (count_place old mid count passes) in
    let size : length stop.slots ≡ length (table_of old.place read.entries) = sym (length-map stop.slots (seen bytes)) ∙ ap length table in
    record {
      count = count;
      entries = read.entries;
      at = stop.at;
      passes = passes_entries old mid stop.at count read.entries passes some fits read.each read.parts read.place;
      left = subst (λ (n : ℕ). n < count) size stop.left;
      fault_is = subst (λ (n : ℕ). IsEntryFault stop.at.place (n + 1 == count) stop.at.rest fault) size stop.fault_is;
    }

stops_index : (old mid : Reading) (count : ℕ) (fault : PoolFault) → Passes old mid (to_be_bytes w16 count) → 1 ≤ count → count < 2 ^ 16 → StopsAtIndex mid count fault → IsFaultInIndices old fault
stops_index old mid count fault passes some fits stop =
    let table : stop.table ≡ table_of old.place stop.entries = stop.table_is ∙ ap (λ (p : ℕ). None ∷ entries_from p stop.entries) (count_place old mid count passes) in
    record {
      count = count;
      entries = stop.entries;
      at = stop.at;
      passes = passes_entries old mid stop.at count stop.entries passes some fits stop.each stop.parts stop.place;
      full = sym (ap length table) ∙ stop.full;
      field = stop.field;
      wrong = subst (λ (t : Table). first_wrong (tags_of t) t ≡ Some stop.field) table stop.wrong;
      fault_is = stop.fault_is;
    }

pub fault_first : (old mid : Reading) (count : ℕ) (fault : PoolFault) → Passes old mid (to_be_bytes w16 count) → 1 ≤ count → count < 2 ^ 16 → IsFaultBehind mid count fault → IsFirstFault old fault
fault_first old mid count fault passes some fits (inl stop) = inr (inl (stops_entry old mid count fault passes some fits stop))
fault_first old mid count fault passes some fits (inr stop) = inr (inr (stops_index old mid count fault passes some fits stop))
