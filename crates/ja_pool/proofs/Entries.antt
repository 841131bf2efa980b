-- Entries one after another.
use Rattle.std.proofs.Common.{◌≡◌, ℕ, suc, ◌+◌, ◌-◌, ◌<◌, ◌≤◌, ◌⊎◌, inl, inr, Bool, true, false, List, [], ◌∷◌, ◌++◌, length, refl, sym, ap, ◌∙◌, append_assoc, arith, length-append}
use Rattle.std.specs.Prelude.{◌==◌}
use Rattle.std.specs.List.{flat_map, AllByRecursion}
use Rattle.std.proofs.lemmas.Bool.{eqb-false}
use Rattle.std.proofs.lemmas.List.{append-nil}
use Rattle.std.proofs.lemmas.List.Concat.{flat_map-append}
use Rattle.ja_bytes.specs.Reading.{Reading}
use Rattle.ja_pool.specs.declared.slot.Slot.{Slot}
use Rattle.ja_pool.specs.Entry.{Entry, utf8, number, wide, single, pair, handle, spelling, IsEntry}
use Rattle.ja_pool.specs.InnerSlot.{form_of, slot_of, nothing, pad_slots, slots_from, form_pad}
use Rattle.ja_pool.specs.InnerShape.{ReadsEntry, ReadsEntries}

-- the padding of an entry is that of its form
pub pad_is : (offset : ℕ) (e : Entry) → form_pad (form_of offset e) ≡ pad_slots e []
pad_is offset (utf8 bytes) = refl
pad_is offset (number tag bits) = refl
pad_is offset (wide tag bits) = refl
pad_is offset (single tag index) = refl
pad_is offset (pair tag first second) = refl
pad_is offset (handle kind index) = refl

pad-append : (e : Entry) (xs ys : List Slot) → pad_slots e xs ++ ys ≡ pad_slots e (xs ++ ys)
pad-append (utf8 bytes) xs ys = refl
pad-append (number tag bits) xs ys = refl
pad-append (wide tag bits) xs ys = refl
pad-append (single tag index) xs ys = refl
pad-append (pair tag first second) xs ys = refl
pad-append (handle kind index) xs ys = refl

-- one more entry behind others
pub slots-push : (base offset : ℕ) (es : List Entry) (e : Entry)
    → slots_from base offset (es ++ e ∷ []) ≡ slots_from base offset es ++ slot_of base (offset + length (flat_map spelling es)) e ∷ pad_slots e []
slots-push base offset [] e = ap (λ (o : ℕ). slot_of base o e ∷ pad_slots e []) (omega arith)
slots-push base offset (d ∷ es) e =
    let place : offset + length (spelling d) + length (flat_map spelling es) ≡ offset + length (spelling d ++ flat_map spelling es) = omega (arith, length-append (spelling d) (flat_map spelling es)) in
    let one = slots-push base (offset + length (spelling d)) es e in
    let new = λ (o : ℕ). slot_of base o e ∷ pad_slots e [] in
    ap (λ (t : List Slot). slot_of base offset d ∷ pad_slots d t) (one ∙ ap (λ (o : ℕ). slots_from base (offset + length (spelling d)) es ++ new o) place)
    ∙ ap (λ (t : List Slot). slot_of base offset d ∷ t) (sym (pad-append d (slots_from base (offset + length (spelling d)) es) (new (offset + length (spelling d ++ flat_map spelling es)))))

pub each-push : (es : List Entry) (e : Entry) → AllByRecursion IsEntry es → IsEntry e → AllByRecursion IsEntry (es ++ e ∷ [])
each-push [] e each one = (one, tt)
each-push (d ∷ es) e each one = (each.0, each-push es e each.1 one)

pub spelled-push : (es : List Entry) (e : Entry) → flat_map spelling (es ++ e ∷ []) ≡ flat_map spelling es ++ spelling e
spelled-push es e = flat_map-append spelling es (e ∷ []) ∙ ap (λ (t : List ℕ). flat_map spelling es ++ t) (append-nil (spelling e))

-- one more is read
pub reads_more : (old mid new : Reading) (last : Bool) (slots more : List Slot) (slot : Slot) → ReadsEntries old mid slots → ReadsEntry mid new old.place last slot
    → more ≡ slots ++ slot ∷ form_pad slot.form → ReadsEntries old new more
reads_more old mid new last slots more slot read one more_are =
    let es = read.entries in
    let e = one.entry in
    let spelled = spelled-push es e in
    let offset : mid.place - old.place ≡ 0 + length (flat_map spelling es) = omega (arith, read.place) in
    let slot_is : slot ≡ slot_of old.place (0 + length (flat_map spelling es)) e = one.slot_is ∙ ap (λ (o : ℕ). slot_of old.place o e) offset in
    let pad : form_pad slot.form ≡ pad_slots e [] = ap (λ (s : Slot). form_pad s.form) one.slot_is ∙ pad_is (mid.place - old.place) e in
    record {
      entries = es ++ e ∷ [];
      each = each-push es e read.each one.is_entry;
      parts = read.parts ∙ ap (λ (t : List ℕ). flat_map spelling es ++ t) one.passes.parts ∙ sym (append_assoc (flat_map spelling es) (spelling e) new.rest) ∙ ap (λ (t : List ℕ). t ++ new.rest) (sym spelled);
      place = omega (arith, read.place, one.passes.place, ap length spelled, length-append (flat_map spelling es) (spelling e));
      slots_are = more_are ∙ ap (λ (t : List Slot). slots ++ slot ∷ t) pad ∙ ap (λ (s : Slot). slots ++ s ∷ pad_slots e []) slot_is
          ∙ ap (λ (t : List Slot). t ++ slot_of old.place (0 + length (flat_map spelling es)) e ∷ pad_slots e []) read.slots_are
          ∙ ap (λ (t : List Slot). nothing ∷ t) (sym (slots-push old.place 0 es e));
    }

pad-length : (e : Entry) → length (pad_slots e []) ≤ 1
pad-length (utf8 bytes) = omega arith
pad-length (number tag bits) = omega arith
pad-length (wide tag bits) = omega arith
pad-length (single tag index) = omega arith
pad-length (pair tag first second) = omega arith
pad-length (handle kind index) = omega arith

-- an entry is added where an index is left, and one of two indices where two are
pub room_for : (old new : Reading) (base : ℕ) (last : Bool) (slots more : List Slot) (slot : Slot) (count : ℕ) → length slots < count → last ≡ (length slots + 1 == count)
    → ReadsEntry old new base last slot → more ≡ slots ++ slot ∷ form_pad slot.form → length more ≤ count
room_for old new base last slots more slot count lt is_last one more_are =
    let pad : form_pad slot.form ≡ pad_slots one.entry [] = ap (λ (s : Slot). form_pad s.form) one.slot_is ∙ pad_is (old.place - base) one.entry in
    let size : length more ≡ length slots + suc (length (pad_slots one.entry [])) = ap length more_are ∙ length-append slots (slot ∷ form_pad slot.form) ∙ ap (λ (t : List Slot). length slots + suc (length t)) pad in
    elim (true_or_false last) [
      | inl at_end ↦ omega (arith, size, ap length (one.narrow at_end), lt)
      | inr before ↦
          let more_left : length slots + 1 ≡ count → ⊥ = eqb-false _ _ (sym is_last ∙ before) in
          omega (arith, size, pad-length one.entry, lt, more_left)
    ]
  where
    true_or_false : (b : Bool) → (b ≡ true) ⊎ (b ≡ false)
    true_or_false true = inl refl
    true_or_false false = inr refl
