-- The bytes of a pool have one reading, and no fault.
use Rattle.std.proofs.Common.{◌≡◌, ℕ, suc, ◌+◌, ◌<◌, ◌≤◌, ◌^◌, inl, inr, Bool, true, List, [], ◌∷◌, ◌++◌, length, take, drop, Some, None, refl, sym, ap, subst, ◌∙◌, append_assoc, arith, length-append, length-drop}
use Rattle.std.specs.Prelude.{◌==◌, if◌then◌else◌, Result, Ok, Err, IfOk, IfErr, MatchResult}
use Rattle.std.specs.Int.{w16, w32, w64, to_be_bytes, from_be_bytes}
use Rattle.std.specs.List.{flat_map, AllByRecursion}
use Rattle.std.proofs.lemmas.Bool.{false≢true, eqb-true}
use Rattle.std.proofs.lemmas.List.{take_at, drop_at}
use Rattle.std.proofs.lemmas.Nat.{from_be_bytes-to_be_bytes_2, from_be_bytes-to_be_bytes_4, from_be_bytes-to_be_bytes_8}
use Rattle.ja_bytes.specs.Reading.{Reading}
use Rattle.ja_bytes.specs.Text.{IsModifiedUtf8, IsFirstWrong}
use Rattle.ja_bytes.proofs.TextParts.{wrong_is_no_text}
use Rattle.ja_pool.specs.declared.fault.PoolFault.{PoolFault}
use Rattle.ja_pool.specs.declared.fault.PoolFault.TheVariants as faults
use Rattle.ja_pool.specs.Entry.{Entry, utf8, number, wide, single, pair, handle, is_number_tag, is_wide_tag, is_single_tag, is_pair_tag, tag_of, payload, spelling, IsEntry}
use Rattle.ja_pool.specs.Table.{Table, pad, entries_from, tags_of, first_wrong}
use Rattle.ja_pool.specs.Pool.{table_of, PassesEntries, PassesPool, is_tag, fields_behind, EndsInside, IsEntryFault, IsCountFault, IsFaultInEntries, IsFaultInIndices, IsFirstFault}
use Rattle.ja_pool.specs.InnerShape.{OrMemory}
use Rattle.ja_pool.proofs.PayloadParts.{one_of_each, number_fields, wide_fields, single_fields, pair_fields}

-- ---- numbers

pub be_unique_2 : (a b : ℕ) (x y : List ℕ) → a < 2 ^ 16 → b < 2 ^ 16 → to_be_bytes w16 a ++ x ≡ to_be_bytes w16 b ++ y → (a ≡ b) × (x ≡ y)
be_unique_2 a b x y p q e =
    let bytes : to_be_bytes w16 a ≡ to_be_bytes w16 b = sym (take_at (to_be_bytes w16 a) x 2 refl) ∙ ap (take 2) e ∙ take_at (to_be_bytes w16 b) y 2 refl in
    (sym (from_be_bytes-to_be_bytes_2 a p) ∙ ap (from_be_bytes w16) bytes ∙ from_be_bytes-to_be_bytes_2 b q, sym (drop_at (to_be_bytes w16 a) x 2 refl) ∙ ap (drop 2) e ∙ drop_at (to_be_bytes w16 b) y 2 refl)

be_unique_4 : (a b : ℕ) (x y : List ℕ) → a < 2 ^ 32 → b < 2 ^ 32 → to_be_bytes w32 a ++ x ≡ to_be_bytes w32 b ++ y → (a ≡ b) × (x ≡ y)
be_unique_4 a b x y p q e =
    let bytes : to_be_bytes w32 a ≡ to_be_bytes w32 b = sym (take_at (to_be_bytes w32 a) x 4 refl) ∙ ap (take 4) e ∙ take_at (to_be_bytes w32 b) y 4 refl in
    (sym (from_be_bytes-to_be_bytes_4 a p) ∙ ap (from_be_bytes w32) bytes ∙ from_be_bytes-to_be_bytes_4 b q, sym (drop_at (to_be_bytes w32 a) x 4 refl) ∙ ap (drop 4) e ∙ drop_at (to_be_bytes w32 b) y 4 refl)

be_unique_8 : (a b : ℕ) (x y : List ℕ) → a < 2 ^ 64 → b < 2 ^ 64 → to_be_bytes w64 a ++ x ≡ to_be_bytes w64 b ++ y → (a ≡ b) × (x ≡ y)
be_unique_8 a b x y p q e =
    let bytes : to_be_bytes w64 a ≡ to_be_bytes w64 b = sym (take_at (to_be_bytes w64 a) x 8 refl) ∙ ap (take 8) e ∙ take_at (to_be_bytes w64 b) y 8 refl in
    (sym (from_be_bytes-to_be_bytes_8 a p) ∙ ap (from_be_bytes w64) bytes ∙ from_be_bytes-to_be_bytes_8 b q, sym (drop_at (to_be_bytes w64 a) x 8 refl) ∙ ap (drop 8) e ∙ drop_at (to_be_bytes w64 b) y 8 refl)

-- two texts behind their lengths
pub text_unique : (a b x y : List ℕ) → length a < 2 ^ 16 → length b < 2 ^ 16 → to_be_bytes w16 (length a) ++ (a ++ x) ≡ to_be_bytes w16 (length b) ++ (b ++ y) → (a ≡ b) × (x ≡ y)
text_unique a b x y p q e =
    let one = be_unique_2 (length a) (length b) (a ++ x) (b ++ y) p q e in
    let text : a ≡ b = sym (take_at a x (length a) refl) ∙ ap (take (length a)) one.1 ∙ take_at b y (length a) (sym one.0) in
    (text, sym (drop_at a x (length a) refl) ∙ ap (drop (length a)) one.1 ∙ drop_at b y (length a) (sym one.0))

-- ---- entries

-- the form of an entry, as a number, and that of a tag
abbrev form_number : Entry → ℕ
form_number (utf8 bytes) = 1
form_number (number tag bits) = 2
form_number (wide tag bits) = 3
form_number (single tag index) = 4
form_number (pair tag first second) = 5
form_number (handle kind index) = 6

abbrev tag_number : ℕ → ℕ
tag_number tag = if tag == 1 then 1 else if is_number_tag tag then 2 else if is_wide_tag tag then 3 else if is_single_tag tag then 4 else if is_pair_tag tag then 5 else 6

form_is : (e : Entry) → IsEntry e → tag_number (tag_of e) ≡ form_number e
form_is (utf8 bytes) h = refl
form_is (number tag bits) h = one_of_each (λ n. tag_number n ≡ 2) (3 ∷ 4 ∷ []) tag h.0 (refl, (refl, tt))
form_is (wide tag bits) h = one_of_each (λ n. tag_number n ≡ 3) (5 ∷ 6 ∷ []) tag h.0 (refl, (refl, tt))
form_is (single tag index) h = one_of_each (λ n. tag_number n ≡ 4) (7 ∷ 8 ∷ 16 ∷ []) tag h.0 (refl, (refl, (refl, tt)))
form_is (pair tag first second) h = one_of_each (λ n. tag_number n ≡ 5) (9 ∷ 10 ∷ 11 ∷ 12 ∷ 18 ∷ []) tag h.0 (refl, (refl, (refl, (refl, (refl, tt)))))
form_is (handle kind index) h = refl

same_payload : (d e : Entry) (x y : List ℕ) → IsEntry d → IsEntry e → form_number d ≡ form_number e → tag_of d ≡ tag_of e → payload d ++ x ≡ payload e ++ y → (d ≡ e) × (x ≡ y)
same_payload (utf8 a) (utf8 b) x y p q form tag e =
    let one = text_unique a b x y p.0 q.0 (sym (append_assoc (to_be_bytes w16 (length a)) a x) ∙ e ∙ append_assoc (to_be_bytes w16 (length b)) b y) in
    (ap utf8 one.0, one.1)
same_payload (number s a) (number t b) x y p q form tag e =
    let one = be_unique_4 a b x y p.1 q.1 e in (ap (λ (n : ℕ). number n a) tag ∙ ap (number t) one.0, one.1)
same_payload (wide s a) (wide t b) x y p q form tag e =
    let one = be_unique_8 a b x y p.1 q.1 e in (ap (λ (n : ℕ). wide n a) tag ∙ ap (wide t) one.0, one.1)
same_payload (single s a) (single t b) x y p q form tag e =
    let one = be_unique_2 a b x y p.1 q.1 e in (ap (λ (n : ℕ). single n a) tag ∙ ap (single t) one.0, one.1)
same_payload (pair s a c) (pair t b d) x y p q form tag e =
    let one = be_unique_2 a b (to_be_bytes w16 c ++ x) (to_be_bytes w16 d ++ y) p.1 q.1 (sym (append_assoc (to_be_bytes w16 a) (to_be_bytes w16 c) x) ∙ e ∙ append_assoc (to_be_bytes w16 b) (to_be_bytes w16 d) y) in
    let two = be_unique_2 c d x y p.2 q.2 one.1 in
    (ap (λ (n : ℕ). pair n a c) tag ∙ ap (λ (n : ℕ). pair t n c) one.0 ∙ ap (pair t b) two.0, two.1)
same_payload (handle j a) (handle k b) x y p q form tag e =
    let kinds : j ≡ k = cc in
    let rest : to_be_bytes w16 a ++ x ≡ to_be_bytes w16 b ++ y = ap (drop 1) e in
    let one = be_unique_2 a b x y p.1 q.1 rest in
    (ap (λ (n : ℕ). handle n a) kinds ∙ ap (handle k) one.0, one.1)
same_payload d e x y p q form tag h = absurd (omega (arith, form))

-- no entry begins another
entry_unique : (d e : Entry) (x y : List ℕ) → IsEntry d → IsEntry e → spelling d ++ x ≡ spelling e ++ y → (d ≡ e) × (x ≡ y)
entry_unique d e x y p q h =
    let tag : tag_of d ≡ tag_of e = cc in
    let form : form_number d ≡ form_number e = sym (form_is d p) ∙ ap tag_number tag ∙ form_is e q in
    same_payload d e x y p q form tag (ap (drop 1) h)

-- ---- entries one after another

-- the indices that entries take
abbrev pub size : List Entry → ℕ
size es = length (entries_from 0 es)

pub pad-length : (e : Entry) (table : Table) → length (pad e table) ≡ length (pad e []) + length table
pad-length (utf8 bytes) table = omega arith
pad-length (number tag bits) table = omega arith
pad-length (wide tag bits) table = omega arith
pad-length (single tag index) table = omega arith
pad-length (pair tag first second) table = omega arith
pad-length (handle kind index) table = omega arith

size-anywhere : (place other : ℕ) (es : List Entry) → length (entries_from place es) ≡ length (entries_from other es)
size-anywhere place other [] = refl
size-anywhere place other (e ∷ es) =
    omega (arith, pad-length e (entries_from (place + length (spelling e)) es), pad-length e (entries_from (other + length (spelling e)) es), size-anywhere (place + length (spelling e)) (other + length (spelling e)) es)

pub size-cons : (e : Entry) (es : List Entry) → size (e ∷ es) ≡ suc (length (pad e []) + size es)
size-cons e es = omega (arith, pad-length e (entries_from (0 + length (spelling e)) es), size-anywhere (0 + length (spelling e)) 0 es)

-- the next entry of a longer list
pub record Next (bytes : List ℕ) (before total : ℕ) : Type 0 where
  pub entry : Entry
  pub rest : List ℕ
  pub is_entry : IsEntry entry
  pub parts : bytes ≡ spelling entry ++ rest
  pub fits : before + suc (length (pad entry [])) ≤ total

pub next : (ds es : List Entry) (x y : List ℕ) → AllByRecursion IsEntry ds → AllByRecursion IsEntry es → flat_map spelling ds ++ x ≡ flat_map spelling es ++ y → size es < size ds → Next y (size es) (size ds)
next [] es x y p q e lt = absurd (omega (arith, lt))
next (d ∷ ds) [] x y p q e lt = record {
  entry = d;
  rest = flat_map spelling ds ++ x;
  is_entry = p.0;
  parts = sym e ∙ append_assoc (spelling d) (flat_map spelling ds) x;
  fits = omega (arith, size-cons d ds);
}
next (d ∷ ds) (c ∷ es) x y p q e lt =
    let one = entry_unique d c (flat_map spelling ds ++ x) (flat_map spelling es ++ y) p.0 q.0 (sym (append_assoc (spelling d) (flat_map spelling ds) x) ∙ e ∙ append_assoc (spelling c) (flat_map spelling es) y) in
    let width : length (pad d []) ≡ length (pad c []) = ap (λ (f : Entry). length (pad f [])) one.0 in
    let n = next ds es x y p.1 q.1 one.1 (omega (arith, lt, size-cons d ds, size-cons c es, width)) in
    record { entry = n.entry; rest = n.rest; is_entry = n.is_entry; parts = n.parts; fits = omega (arith, n.fits, size-cons d ds, size-cons c es, width) }

pub same_entries : (ds es : List Entry) (x y : List ℕ) → AllByRecursion IsEntry ds → AllByRecursion IsEntry es → flat_map spelling ds ++ x ≡ flat_map spelling es ++ y → size ds ≡ size es → (ds ≡ es) × (x ≡ y)
same_entries [] [] x y p q e same = (refl, e)
same_entries [] (c ∷ es) x y p q e same = absurd (omega (arith, same, size-cons c es))
same_entries (d ∷ ds) [] x y p q e same = absurd (omega (arith, same, size-cons d ds))
same_entries (d ∷ ds) (c ∷ es) x y p q e same =
    let one = entry_unique d c (flat_map spelling ds ++ x) (flat_map spelling es ++ y) p.0 q.0 (sym (append_assoc (spelling d) (flat_map spelling ds) x) ∙ e ∙ append_assoc (spelling c) (flat_map spelling es) y) in
    let width : length (pad d []) ≡ length (pad c []) = ap (λ (f : Entry). length (pad f [])) one.0 in
    let two = same_entries ds es x y p.1 q.1 one.1 (omega (arith, same, size-cons d ds, size-cons c es, width)) in
    (ap (λ (f : Entry). f ∷ ds) one.0 ∙ ap (λ (t : List Entry). c ∷ t) two.0, two.1)

-- ---- an entry has no fault

no_cut_one : (len place : ℕ) (bytes : List ℕ) (at : ℕ) → len ≤ length bytes → EndsInside (len ∷ []) place bytes at → ⊥
no_cut_one len place bytes at fits (inl h) = omega (arith, fits, h.0)
no_cut_one len place bytes at fits (inr h) = h.1

pub no_cut_two : (len more place : ℕ) (bytes : List ℕ) (at : ℕ) → len + more ≤ length bytes → EndsInside (len ∷ more ∷ []) place bytes at → ⊥
no_cut_two len more place bytes at fits (inl h) = omega (arith, fits, h.0)
no_cut_two len more place bytes at fits (inr h) = no_cut_one more (place + len) (drop len bytes) at (omega (arith, fits, length-drop len bytes)) h.1

no_cut : (e : Entry) (place : ℕ) (rest : List ℕ) (at : ℕ) → IsEntry e → EndsInside (fields_behind (tag_of e) (payload e ++ rest)) place (payload e ++ rest) at → ⊥
no_cut (utf8 text) place rest at p h =
    let bytes = (to_be_bytes w16 (length text) ++ text) ++ rest in
    let len : from_be_bytes w16 (take 2 bytes) ≡ length text = ap (from_be_bytes w16) (ap (take 2) (append_assoc (to_be_bytes w16 (length text)) text rest) ∙ take_at (to_be_bytes w16 (length text)) (text ++ rest) 2 refl) ∙ from_be_bytes-to_be_bytes_2 (length text) p.0 in
    no_cut_two 2 (from_be_bytes w16 (take 2 bytes)) place bytes at (omega (arith, len, length-append (to_be_bytes w16 (length text) ++ text) rest, length-append (to_be_bytes w16 (length text)) text)) h
no_cut (number tag bits) place rest at p h =
    no_cut_one 4 place (to_be_bytes w32 bits ++ rest) at (omega (arith, length-append (to_be_bytes w32 bits) rest)) (subst (λ (l : List ℕ). EndsInside l place (to_be_bytes w32 bits ++ rest) at) (number_fields tag (to_be_bytes w32 bits ++ rest) p.0) h)
no_cut (wide tag bits) place rest at p h =
    no_cut_one 8 place (to_be_bytes w64 bits ++ rest) at (omega (arith, length-append (to_be_bytes w64 bits) rest)) (subst (λ (l : List ℕ). EndsInside l place (to_be_bytes w64 bits ++ rest) at) (wide_fields tag (to_be_bytes w64 bits ++ rest) p.0) h)
no_cut (single tag index) place rest at p h =
    no_cut_one 2 place (to_be_bytes w16 index ++ rest) at (omega (arith, length-append (to_be_bytes w16 index) rest)) (subst (λ (l : List ℕ). EndsInside l place (to_be_bytes w16 index ++ rest) at) (single_fields tag (to_be_bytes w16 index ++ rest) p.0) h)
no_cut (pair tag first second) place rest at p h =
    let bytes = (to_be_bytes w16 first ++ to_be_bytes w16 second) ++ rest in
    no_cut_two 2 2 place bytes at (omega (arith, length-append (to_be_bytes w16 first ++ to_be_bytes w16 second) rest)) (subst (λ (l : List ℕ). EndsInside l place bytes at) (pair_fields tag bytes p.0) h)
no_cut (handle kind index) place rest at p h = no_cut_two 1 2 place (kind ∷ (to_be_bytes w16 index ++ rest)) at (omega (arith, length-append (to_be_bytes w16 index) rest)) h

known_tag : (e : Entry) → IsEntry e → is_tag (tag_of e) ≡ true
known_tag (utf8 text) p = refl
known_tag (number tag bits) p = one_of_each (λ n. is_tag n ≡ true) (3 ∷ 4 ∷ []) tag p.0 (refl, (refl, tt))
known_tag (wide tag bits) p = one_of_each (λ n. is_tag n ≡ true) (5 ∷ 6 ∷ []) tag p.0 (refl, (refl, tt))
known_tag (single tag index) p = one_of_each (λ n. is_tag n ≡ true) (7 ∷ 8 ∷ 16 ∷ []) tag p.0 (refl, (refl, (refl, tt)))
known_tag (pair tag first second) p = one_of_each (λ n. is_tag n ≡ true) (9 ∷ 10 ∷ 11 ∷ 12 ∷ 18 ∷ []) tag p.0 (refl, (refl, (refl, (refl, (refl, tt)))))
known_tag (handle kind index) p = refl

-- a wide entry takes two indices
wide_takes_two : (e : Entry) → IsEntry e → is_wide_tag (tag_of e) ≡ true → 1 ≤ length (pad e [])
wide_takes_two (utf8 text) p h = absurd (false≢true h)
wide_takes_two (number tag bits) p h = absurd (one_of_each (λ n. is_wide_tag n ≡ true → ⊥) (3 ∷ 4 ∷ []) tag p.0 (false≢true, (false≢true, tt)) h)
wide_takes_two (wide tag bits) p h = omega arith
wide_takes_two (single tag index) p h = absurd (one_of_each (λ n. is_wide_tag n ≡ true → ⊥) (7 ∷ 8 ∷ 16 ∷ []) tag p.0 (false≢true, (false≢true, (false≢true, tt))) h)
wide_takes_two (pair tag first second) p h = absurd (one_of_each (λ n. is_wide_tag n ≡ true → ⊥) (9 ∷ 10 ∷ 11 ∷ 12 ∷ 18 ∷ []) tag p.0 (false≢true, (false≢true, (false≢true, (false≢true, (false≢true, tt))))) h)
wide_takes_two (handle kind index) p h = absurd (false≢true h)

no_wrong_text : (e : Entry) (text rest more : List ℕ) (wrong : ℕ) → IsEntry e → tag_of e ≡ 1 → length text < 2 ^ 16 → payload e ++ rest ≡ to_be_bytes w16 (length text) ++ (text ++ more) → IsFirstWrong text wrong → ⊥
no_wrong_text (utf8 bytes) text rest more wrong p tag fits e first =
    let one = text_unique bytes text rest more p.0 fits (sym (append_assoc (to_be_bytes w16 (length bytes)) bytes rest) ∙ e) in
    wrong_is_no_text text wrong first (subst IsModifiedUtf8 one.0 p.1)
no_wrong_text (number tag bits) text rest more wrong p is_one fits e first = one_of_each (λ n. n ≡ 1 → ⊥) (3 ∷ 4 ∷ []) tag p.0 (λ k. omega arith, (λ k. omega arith, tt)) is_one
no_wrong_text (wide tag bits) text rest more wrong p is_one fits e first = one_of_each (λ n. n ≡ 1 → ⊥) (5 ∷ 6 ∷ []) tag p.0 (λ k. omega arith, (λ k. omega arith, tt)) is_one
no_wrong_text (single tag index) text rest more wrong p is_one fits e first = one_of_each (λ n. n ≡ 1 → ⊥) (7 ∷ 8 ∷ 16 ∷ []) tag p.0 (λ k. omega arith, (λ k. omega arith, (λ k. omega arith, tt))) is_one
no_wrong_text (pair tag first second) text rest more wrong p is_one fits e wrong_is = one_of_each (λ n. n ≡ 1 → ⊥) (9 ∷ 10 ∷ 11 ∷ 12 ∷ 18 ∷ []) tag p.0 (λ k. omega arith, (λ k. omega arith, (λ k. omega arith, (λ k. omega arith, (λ k. omega arith, tt))))) is_one
no_wrong_text (handle kind index) text rest more wrong p is_one fits e first = absurd (omega (arith, is_one))

no_fault : (place : ℕ) (last : Bool) (e : Entry) (rest : List ℕ) (fault : PoolFault) → IsEntry e → (last ≡ true → length (pad e []) ≡ 0) → IsEntryFault place last (spelling e ++ rest) fault → ⊥
no_fault place last e rest (faults.End at) p narrow h = no_cut e (place + 1) rest at p h.2
no_fault place last e rest (faults.BadTag at tag) p narrow h = false≢true (sym h.2 ∙ known_tag e p)
no_fault place last e rest (faults.PoolWidth at) p narrow h = omega (arith, narrow h.1, wide_takes_two e p h.2)
no_fault place last e rest (faults.BadText at) p narrow h = no_wrong_text e h.1 rest h.2 h.3 p h.0 h.4 h.5 h.6
no_fault place last e rest (faults.BadIndex at) p narrow h = h
no_fault place last e rest faults.Memory p narrow h = h

pub no_fault_at : (place : ℕ) (last : Bool) (e : Entry) (rest bytes : List ℕ) (fault : PoolFault) → bytes ≡ spelling e ++ rest → IsEntry e → (last ≡ true → length (pad e []) ≡ 0) → IsEntryFault place last bytes fault → ⊥
no_fault_at place last e rest bytes fault parts p narrow h = no_fault place last e rest fault p narrow (subst (λ (t : List ℕ). IsEntryFault place last t fault) parts h)

-- ---- pools

pub count_unique : (old new at : Reading) (m n : ℕ) (ds es : List Entry) → PassesEntries old new m ds → PassesEntries old at n es → (m ≡ n) × (flat_map spelling ds ++ new.rest ≡ flat_map spelling es ++ at.rest)
count_unique old new at m n ds es p q = be_unique_2 m n (flat_map spelling ds ++ new.rest) (flat_map spelling es ++ at.rest) p.fits q.fits (sym p.parts ∙ q.parts)

pub table_size : (place : ℕ) (es : List Entry) → length (table_of place es) ≡ suc (size es)
table_size place es = ap suc (size-anywhere (place + 2) 0 es)

pub no_count_fault : (old new : Reading) (count : ℕ) (es : List Entry) (fault : PoolFault) → PassesEntries old new count es → IsCountFault old fault → ⊥
no_count_fault old new count es fault p (inl h) = omega (arith, h.0, ap length p.parts, length-append (to_be_bytes w16 count) (flat_map spelling es ++ new.rest))
no_count_fault old new count es fault p (inr h) =
    let one = be_unique_2 count 0 (flat_map spelling es ++ new.rest) h.0 p.fits (omega arith) (sym p.parts ∙ h.1) in
    omega (arith, one.0, p.some)

no_entry_fault : (old new : Reading) (table : Table) (fault : PoolFault) → PassesPool old new table → IsFaultInEntries old fault → ⊥
no_entry_fault old new table fault pool f =
    let one = count_unique old new f.at (length table) f.count pool.entries f.entries pool.passes f.passes in
    let total : length table ≡ suc (size pool.entries) = ap length pool.is ∙ table_size old.place pool.entries in
    let before = table_size old.place f.entries in
    let n = next pool.entries f.entries new.rest f.at.rest pool.passes.each f.passes.each one.1 (omega (arith, total, one.0, f.left, before)) in
    no_fault_at f.at.place (length (table_of old.place f.entries) + 1 == f.count) n.entry n.rest f.at.rest fault n.parts n.is_entry
    (λ last. omega (arith, eqb-true _ _ last, n.fits, before, total, one.0)) f.fault_is

pub same_pool : (old new at : Reading) (m n : ℕ) (ds es : List Entry) → PassesEntries old new m ds → PassesEntries old at n es → m ≡ length (table_of old.place ds) → length (table_of old.place es) ≡ n
    → (ds ≡ es) × (new.rest ≡ at.rest)
same_pool old new at m n ds es p q full_p full_q =
    let one = count_unique old new at m n ds es p q in
    same_entries ds es new.rest at.rest p.each q.each one.1 (omega (arith, one.0, full_p, full_q, table_size old.place ds, table_size old.place es))

no_index_fault : (old new : Reading) (table : Table) (fault : PoolFault) → PassesPool old new table → IsFaultInIndices old fault → ⊥
no_index_fault old new table fault pool f =
    let one = same_pool old new f.at (length table) f.count pool.entries f.entries pool.passes f.passes (ap length pool.is) f.full in
    let table_is : table ≡ table_of old.place f.entries = pool.is ∙ ap (table_of old.place) one.0 in
    let none : first_wrong (tags_of (table_of old.place f.entries)) (table_of old.place f.entries) ≡ None = subst (λ (t : Table). first_wrong (tags_of t) t ≡ None) table_is pool.right in
    let both : Some f.field ≡ None = sym f.wrong ∙ none in
    absurd cc

-- what spells a pool has no fault
pub pool_no_fault : (old new : Reading) (table : Table) (fault : PoolFault) → PassesPool old new table → IsFirstFault old fault → ⊥
pool_no_fault old new table fault pool (inl h) = no_count_fault old new (length table) pool.entries fault pool.passes h
pool_no_fault old new table fault pool (inr (inl h)) = no_entry_fault old new table fault pool h
pool_no_fault old new table fault pool (inr (inr h)) = no_index_fault old new table fault pool h

pub same_reading : (a b : Reading) → a.place ≡ b.place → a.rest ≡ b.rest → a ≡ b
same_reading a b p r = let make : ℕ → List ℕ → Reading = λ n t. record { place = n; rest = t } in ap (λ (n : ℕ). make n a.rest) p ∙ ap (make b.place) r

-- a pool has one table, and one end
pub pool_unique : (old new at : Reading) (table other : Table) → PassesPool old new table → PassesPool old at other → (table ≡ other) × (new ≡ at)
pool_unique old new at table other p q =
    let one = same_pool old new at (length table) (length other) p.entries q.entries p.passes q.passes (ap length p.is) (sym (ap length q.is)) in
    let place : new.place ≡ at.place = omega (arith, p.passes.place, q.passes.place, ap (λ (es : List Entry). length (flat_map spelling es)) one.0) in
    (p.is ∙ ap (table_of old.place) one.0 ∙ sym q.is, same_reading new at place one.1)

-- what is spelled so is read
pub spelled_is_read : (old now : Reading) (r : Result Table PoolFault) → IfOk r (PassesPool old now) → IfErr r (OrMemory (IsFirstFault old)) → (new : Reading) (table : Table) → PassesPool old new table
    → MatchResult r (λ pool. (pool ≡ table) × (now ≡ new)) (λ fault. fault ≡ faults.Memory)
spelled_is_read old now (Ok pool) ok fault new table spelled = pool_unique old now new pool table ok spelled
spelled_is_read old now (Err faults.Memory) ok fault new table spelled = refl
spelled_is_read old now (Err (faults.End at)) ok fault new table spelled = absurd (pool_no_fault old new table (faults.End at) spelled fault)
spelled_is_read old now (Err (faults.BadTag at tag)) ok fault new table spelled = absurd (pool_no_fault old new table (faults.BadTag at tag) spelled fault)
spelled_is_read old now (Err (faults.PoolWidth at)) ok fault new table spelled = absurd (pool_no_fault old new table (faults.PoolWidth at) spelled fault)
spelled_is_read old now (Err (faults.BadText at)) ok fault new table spelled = absurd (pool_no_fault old new table (faults.BadText at) spelled fault)
spelled_is_read old now (Err (faults.BadIndex at)) ok fault new table spelled = absurd (pool_no_fault old new table (faults.BadIndex at) spelled fault)
