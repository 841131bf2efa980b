-- Bytes spell a pool or have a first fault, and they have one.
use Rattle.std.proofs.Common.{◌≡◌, ℕ, zero, suc, ◌+◌, ◌<◌, ◌≤◌, ◌^◌, ◌⊎◌, inl, inr, Bool, true, false, List, [], ◌∷◌, ◌++◌, length, get_or, take, drop, Option, Some, None, refl, sym, ap, subst, ◌∙◌, append_assoc, arith, length-append}
use Rattle.std.specs.Prelude.{IsTrue, ◌==◌, ◌||◌}
use Rattle.std.specs.Int.{w16, w32, w64, to_be_bytes, from_be_bytes}
use Rattle.std.specs.List.{flat_map, AllByRecursion}
use Rattle.std.proofs.lemmas.Bool.{false≢true, eqb-true, eq-eqb, cases_Bool, cases_lt, cases_eq, cases_order, or_cases}
use Rattle.std.proofs.lemmas.List.{take_at, drop_at, take-append-drop, length-take-le}
use Rattle.std.proofs.lemmas.Nat.{be_bytes_2, be_bytes_4, be_bytes_8, from_be_bytes-to_be_bytes_2}
use Rattle.ja_bytes.specs.Reading.{Reading}
use Rattle.ja_bytes.specs.Text.{IsFirstWrong}
use Rattle.ja_bytes.proofs.Exact.{text_or_wrong, one_wrong}
use Rattle.ja_pool.specs.declared.fault.PoolFault.{PoolFault}
use Rattle.ja_pool.specs.declared.fault.PoolFault.TheVariants as faults
use Rattle.ja_pool.specs.Entry.{Entry, utf8, number, wide, single, pair, handle, is_number_tag, is_wide_tag, is_single_tag, is_pair_tag, spelling, IsEntry}
use Rattle.ja_pool.specs.Table.{Table, pad, tags_of, IndexField, first_wrong}
use Rattle.ja_pool.specs.Pool.{table_of, PassesEntries, PassesPool, is_tag, fields_behind, EndsInside, IsEntryFault, IsCountFault, IsFaultInEntries, IsFaultInIndices, IsFirstFault}
use Rattle.ja_pool.proofs.PayloadParts.{number_fields, wide_fields, single_fields, pair_fields}
use Rattle.ja_pool.proofs.Entries.{each-push, spelled-push}
use Rattle.ja_pool.proofs.OneReading.{text_unique, size, pad-length, size-cons, table_size, next, count_unique, no_count_fault, no_fault_at, same_entries, same_pool, same_reading, no_cut_two}

-- ---- bytes

abbrev pub AreBytes : List ℕ → Type 0
AreBytes bytes = AllByRecursion (λ b. b < 256) bytes

byte_at : (bytes : List ℕ) → AreBytes bytes → (i : ℕ) → get_or bytes i 0 < 256
byte_at [] each i = omega arith
byte_at (b ∷ bytes) each zero = each.0
byte_at (b ∷ bytes) each (suc i) = byte_at bytes each.1 i

bytes_taken : (n : ℕ) (bytes : List ℕ) → AreBytes bytes → AreBytes (take n bytes)
bytes_taken zero bytes each = tt
bytes_taken (suc n) [] each = tt
bytes_taken (suc n) (b ∷ bytes) each = (each.0, bytes_taken n bytes each.1)

bytes_behind : (n : ℕ) (bytes : List ℕ) → AreBytes bytes → AreBytes (drop n bytes)
bytes_behind zero bytes each = each
bytes_behind (suc n) [] each = tt
bytes_behind (suc n) (b ∷ bytes) each = bytes_behind n bytes each.1

module _ (bytes : List ℕ) (each : AreBytes bytes) where
  bytes_front : (n i : ℕ) → get_or (take n bytes) i 0 < 256
  bytes_front n i = byte_at (take n bytes) (bytes_taken n bytes each) i

  split_at : (n : ℕ) (front : List ℕ) → front ≡ take n bytes → bytes ≡ front ++ drop n bytes
  split_at n front e = sym (take-append-drop n bytes) ∙ ap (λ (t : List ℕ). t ++ drop n bytes) (sym e)

  -- the numbers at the front
  number_2 : 2 ≤ length bytes → (from_be_bytes w16 (take 2 bytes) < 2 ^ 16) × (bytes ≡ to_be_bytes w16 (from_be_bytes w16 (take 2 bytes)) ++ drop 2 bytes)
  number_2 le = (
    omega (arith, bytes_front 2 0, bytes_front 2 1),
    split_at 2 (to_be_bytes w16 (from_be_bytes w16 (take 2 bytes))) (be_bytes_2 (take 2 bytes) (from_be_bytes w16 (take 2 bytes)) (length-take-le 2 bytes le) (bytes_front 2) refl),
  )

  number_4 : 4 ≤ length bytes → (from_be_bytes w32 (take 4 bytes) < 2 ^ 32) × (bytes ≡ to_be_bytes w32 (from_be_bytes w32 (take 4 bytes)) ++ drop 4 bytes)
  number_4 le = (
    omega (arith, bytes_front 4 0, bytes_front 4 1, bytes_front 4 2, bytes_front 4 3),
    split_at 4 (to_be_bytes w32 (from_be_bytes w32 (take 4 bytes))) (be_bytes_4 (take 4 bytes) (from_be_bytes w32 (take 4 bytes)) (length-take-le 4 bytes le) (bytes_front 4) refl),
  )

  number_8 : 8 ≤ length bytes → (from_be_bytes w64 (take 8 bytes) < 2 ^ 64) × (bytes ≡ to_be_bytes w64 (from_be_bytes w64 (take 8 bytes)) ++ drop 8 bytes)
  number_8 le = (
    omega (arith, bytes_front 8 0, bytes_front 8 1, bytes_front 8 2, bytes_front 8 3, bytes_front 8 4, bytes_front 8 5, bytes_front 8 6, bytes_front 8 7),
    split_at 8 (to_be_bytes w64 (from_be_bytes w64 (take 8 bytes))) (be_bytes_8 (take 8 bytes) (from_be_bytes w64 (take 8 bytes)) (length-take-le 8 bytes le) (bytes_front 8) refl),
  )

-- ---- an entry, or its fault

record HasEntry (last : Bool) (bytes : List ℕ) : Type 0 where
  entry : Entry
  rest : List ℕ
  is_entry : IsEntry entry
  parts : bytes ≡ spelling entry ++ rest
  narrow : last ≡ true → length (pad entry []) ≡ 0

abbrev EntryOrFault : ℕ → Bool → List ℕ → Type 0
EntryOrFault place last bytes = HasEntry last bytes ⊎ ((fault : PoolFault) × IsEntryFault place last bytes fault)

module _ (place : ℕ) (last : Bool) where
  -- the bytes behind a tag end inside a field
  cut : (tag : ℕ) (bytes lens : List ℕ) (at : ℕ) → is_tag tag ≡ true → (IsTrue last → is_wide_tag tag ≡ false) → fields_behind tag bytes ≡ lens → EndsInside lens (place + 1) bytes at → EntryOrFault place last (tag ∷ bytes)
  cut tag bytes lens at known narrow e ends = inr (faults.End at, (known, narrow, subst (λ (l : List ℕ). EndsInside l (place + 1) bytes at) (sym e) ends))

  text_entry : (bytes : List ℕ) → AreBytes bytes → EntryOrFault place last (1 ∷ bytes)
  text_entry bytes each = elim (cases_lt (length bytes) 2) [
    | inl short ↦ inr (faults.End (place + 1), (refl, λ l. refl, inl (short, refl)))
    | inr long ↦ sized long (number_2 bytes each long)
  ]
    where
      sized : 2 ≤ length bytes → (from_be_bytes w16 (take 2 bytes) < 2 ^ 16) × (bytes ≡ to_be_bytes w16 (from_be_bytes w16 (take 2 bytes)) ++ drop 2 bytes) → EntryOrFault place last (1 ∷ bytes)
      sized long len =
          let n : ℕ = from_be_bytes w16 (take 2 bytes) in
          let behind : List ℕ = drop 2 bytes in
          elim (cases_lt (length behind) n) [
            | inl short ↦ inr (faults.End (place + 1 + 2), (refl, λ l. refl, inr (long, inl (short, refl))))
            | inr there ↦
                let text : List ℕ = take n behind in
                let size : length text ≡ n = length-take-le n behind there in
                let parts : bytes ≡ to_be_bytes w16 (length text) ++ (text ++ drop n behind) =
                len.1 ∙ ap (λ (k : ℕ). to_be_bytes w16 k ++ behind) (sym size) ∙ ap (λ (t : List ℕ). to_be_bytes w16 (length text) ++ t) (sym (take-append-drop n behind)) in
                let fits : length text < 2 ^ 16 = omega (arith, size, len.0) in
                elim (text_or_wrong text) [
                  | inl right ↦ inl (record {
                    entry = utf8 text;
                    rest = drop n behind;
                    is_entry = (fits, right);
                    parts = ap (λ (t : List ℕ). 1 ∷ t) (parts ∙ sym (append_assoc (to_be_bytes w16 (length text)) text (drop n behind)));
                    narrow = λ l. refl;
                  })
                  | inr wrong ↦ inr (faults.BadText (place + 3 + wrong.0), (refl, text, drop n behind, wrong.0, fits, parts, wrong.1, refl))
                ]
          ]

  number_entry : (tag : ℕ) (bytes : List ℕ) → AreBytes bytes → is_tag tag ≡ true → (IsTrue last → is_wide_tag tag ≡ false) → IsTrue (is_number_tag tag) → EntryOrFault place last (tag ∷ bytes)
  number_entry tag bytes each known narrow form = elim (cases_lt (length bytes) 4) [
    | inl short ↦ cut tag bytes (4 ∷ []) (place + 1) known narrow (number_fields tag bytes form) (inl (short, refl))
    | inr long ↦
        let n = number_4 bytes each long in
        inl (record { entry = number tag (from_be_bytes w32 (take 4 bytes)); rest = drop 4 bytes; is_entry = (form, n.0); parts = ap (λ (t : List ℕ). tag ∷ t) n.1; narrow = λ l. refl })
  ]

  wide_entry : (tag : ℕ) (bytes : List ℕ) → AreBytes bytes → is_tag tag ≡ true → (IsTrue last → is_wide_tag tag ≡ false) → IsTrue (is_wide_tag tag) → EntryOrFault place last (tag ∷ bytes)
  wide_entry tag bytes each known narrow form = elim (cases_lt (length bytes) 8) [
    | inl short ↦ cut tag bytes (8 ∷ []) (place + 1) known narrow (wide_fields tag bytes form) (inl (short, refl))
    | inr long ↦
        let n = number_8 bytes each long in
        inl (record {
          entry = wide tag (from_be_bytes w64 (take 8 bytes));
          rest = drop 8 bytes;
          is_entry = (form, n.0);
          parts = ap (λ (t : List ℕ). tag ∷ t) n.1;
          narrow = λ l. absurd (false≢true (sym (narrow l) ∙ form));
        })
  ]

  single_entry : (tag : ℕ) (bytes : List ℕ) → AreBytes bytes → is_tag tag ≡ true → (IsTrue last → is_wide_tag tag ≡ false) → IsTrue (is_single_tag tag) → EntryOrFault place last (tag ∷ bytes)
  single_entry tag bytes each known narrow form = elim (cases_lt (length bytes) 2) [
    | inl short ↦ cut tag bytes (2 ∷ []) (place + 1) known narrow (single_fields tag bytes form) (inl (short, refl))
    | inr long ↦
        let n = number_2 bytes each long in
        inl (record { entry = single tag (from_be_bytes w16 (take 2 bytes)); rest = drop 2 bytes; is_entry = (form, n.0); parts = ap (λ (t : List ℕ). tag ∷ t) n.1; narrow = λ l. refl })
  ]

  pair_entry : (tag : ℕ) (bytes : List ℕ) → AreBytes bytes → is_tag tag ≡ true → (IsTrue last → is_wide_tag tag ≡ false) → IsTrue (is_pair_tag tag) → EntryOrFault place last (tag ∷ bytes)
  pair_entry tag bytes each known narrow form = elim (cases_lt (length bytes) 2) [
    | inl short ↦ cut tag bytes (2 ∷ 2 ∷ []) (place + 1) known narrow (pair_fields tag bytes form) (inl (short, refl))
    | inr long ↦ elim (cases_lt (length (drop 2 bytes)) 2) [
      | inl short ↦ cut tag bytes (2 ∷ 2 ∷ []) (place + 1 + 2) known narrow (pair_fields tag bytes form) (inr (long, inl (short, refl)))
      | inr more ↦
          let a : ℕ = from_be_bytes w16 (take 2 bytes) in
          let behind : List ℕ = drop 2 bytes in
          let b : ℕ = from_be_bytes w16 (take 2 behind) in
          let n = number_2 bytes each long in
          let m = number_2 behind (bytes_behind 2 bytes each) more in
          inl (record {
            entry = pair tag a b;
            rest = drop 2 behind;
            is_entry = (form, n.0, m.0);
            parts = ap (λ (t : List ℕ). tag ∷ t) (n.1 ∙ ap (λ (t : List ℕ). to_be_bytes w16 a ++ t) m.1 ∙ sym (append_assoc (to_be_bytes w16 a) (to_be_bytes w16 b) (drop 2 behind)));
            narrow = λ l. refl;
          })
    ]
  ]

  handle_entry : (bytes : List ℕ) → AreBytes bytes → EntryOrFault place last (15 ∷ bytes)
  handle_entry [] each = inr (faults.End (place + 1), (refl, λ l. refl, inl (omega arith, refl)))
  handle_entry (kind ∷ bytes) each = elim (cases_lt (length bytes) 2) [
    | inl short ↦ inr (faults.End (place + 1 + 1), (refl, λ l. refl, inr (omega arith, inl (short, refl))))
    | inr long ↦
        let n = number_2 bytes each.1 long in
        inl (record { entry = handle kind (from_be_bytes w16 (take 2 bytes)); rest = drop 2 bytes; is_entry = (each.0, n.0); parts = ap (λ (t : List ℕ). 15 ∷ kind ∷ t) n.1; narrow = λ l. refl })
  ]

  -- an entry with a tag
  tagged_entry : (tag : ℕ) (bytes : List ℕ) → AreBytes bytes → is_tag tag ≡ true → (IsTrue last → is_wide_tag tag ≡ false) → EntryOrFault place last (tag ∷ bytes)
  tagged_entry tag bytes each known narrow =
      let handles : Bool = tag == 15 in
      elim (or_cases (tag == 1) (is_number_tag tag || (is_wide_tag tag || (is_single_tag tag || (is_pair_tag tag || handles)))) known) [
        | inl e ↦ subst (λ (t : ℕ). EntryOrFault place last (t ∷ bytes)) (sym (eqb-true tag 1 e)) (text_entry bytes each)
        | inr more ↦ elim (or_cases (is_number_tag tag) (is_wide_tag tag || (is_single_tag tag || (is_pair_tag tag || handles))) more) [
          | inl form ↦ number_entry tag bytes each known narrow form
          | inr more ↦ elim (or_cases (is_wide_tag tag) (is_single_tag tag || (is_pair_tag tag || handles)) more) [
            | inl form ↦ wide_entry tag bytes each known narrow form
            | inr more ↦ elim (or_cases (is_single_tag tag) (is_pair_tag tag || handles) more) [
              | inl form ↦ single_entry tag bytes each known narrow form
              | inr more ↦ elim (or_cases (is_pair_tag tag) handles more) [
                | inl form ↦ pair_entry tag bytes each known narrow form
                | inr e ↦ subst (λ (t : ℕ). EntryOrFault place last (t ∷ bytes)) (sym (eqb-true tag 15 e)) (handle_entry bytes each)
              ]
            ]
          ]
        ]
      ]

  entry_or_fault : (bytes : List ℕ) → AreBytes bytes → EntryOrFault place last bytes
  entry_or_fault [] each = inr (faults.End place, refl)
  entry_or_fault (tag ∷ bytes) each = elim (cases_Bool (is_tag tag)) [
    | inr unknown ↦ inr (faults.BadTag place tag, (refl, refl, unknown))
    | inl known ↦ elim (cases_Bool (is_wide_tag tag)) [
      | inr narrow ↦ tagged_entry tag bytes each.1 known (λ l. narrow)
      | inl wide_tag ↦ elim (cases_Bool last) [
        | inl at_end ↦ inr (faults.PoolWidth place, (refl, at_end, wide_tag))
        | inr before ↦ tagged_entry tag bytes each.1 known (λ l. absurd (false≢true (sym before ∙ l)))
      ]
    ]
  ]

-- ---- a pool, or its fault

abbrev pub PoolOrFault : Reading → Type 0
PoolOrFault old = ((new : Reading) × (table : Table) × PassesPool old new table) ⊎ ((fault : PoolFault) × IsFirstFault old fault)

full_pool : (old at : Reading) (count : ℕ) (es : List Entry) → PassesEntries old at count es → length (table_of old.place es) ≡ count → PoolOrFault old
full_pool old at count es passes full = by (first_wrong (tags_of (table_of old.place es)) (table_of old.place es)) refl
  where
    by : (o : Option IndexField) → first_wrong (tags_of (table_of old.place es)) (table_of old.place es) ≡ o → PoolOrFault old
    by None e = inl (at, table_of old.place es, record { entries = es; passes = subst (λ (n : ℕ). PassesEntries old at n es) (sym full) passes; is = refl; right = e })
    by (Some f) e = inr (faults.BadIndex f.place, inr (inr (record { count = count; entries = es; at = at; passes = passes; full = full; field = f; wrong = e; fault_is = refl })))

pad_most : (e : Entry) → length (pad e []) ≤ 1
pad_most (utf8 text) = omega arith
pad_most (number tag bits) = omega arith
pad_most (wide tag bits) = omega arith
pad_most (single tag index) = omega arith
pad_most (pair tag first second) = omega arith
pad_most (handle kind index) = omega arith

size-push : (es : List Entry) (e : Entry) → size (es ++ e ∷ []) ≡ size es + suc (length (pad e []))
size-push [] e = omega (arith, pad-length e [])
size-push (d ∷ es) e = omega (arith, size-cons d (es ++ e ∷ []), size-cons d es, size-push es e)

-- one more entry
entry_more : (old at : Reading) (count : ℕ) (es : List Entry) (e : Entry) (rest : List ℕ) → PassesEntries old at count es → IsEntry e → at.rest ≡ spelling e ++ rest
    → PassesEntries old (record { place = at.place + length (spelling e); rest = rest }) count (es ++ e ∷ [])
entry_more old at count es e rest passes is_entry parts =
    let spelled = spelled-push es e in
    record {
      some = passes.some;
      fits = passes.fits;
      each = each-push es e passes.each is_entry;
      parts = passes.parts ∙ ap (λ (t : List ℕ). to_be_bytes w16 count ++ t)
          (ap (λ (t : List ℕ). flat_map spelling es ++ t) parts ∙ sym (append_assoc (flat_map spelling es) (spelling e) rest) ∙ ap (λ (t : List ℕ). t ++ rest) (sym spelled));
      place = omega (arith, passes.place, ap length spelled, length-append (flat_map spelling es) (spelling e));
    }

pool_behind : (fuel : ℕ) (old at : Reading) (count : ℕ) (es : List Entry) → PassesEntries old at count es → AreBytes at.rest → length (table_of old.place es) ≤ count
    → count ≤ length (table_of old.place es) + fuel → PoolOrFault old
pool_behind zero old at count es passes each few enough = full_pool old at count es passes (omega (arith, few, enough))
pool_behind (suc fuel) old at count es passes each few enough = elim (cases_lt (length (table_of old.place es)) count) [
  | inr all ↦ full_pool old at count es passes (omega (arith, few, all))
  | inl left ↦ elim (entry_or_fault at.place (length (table_of old.place es) + 1 == count) at.rest each) [
    | inr f ↦ inr (f.0, inr (inl (record { count = count; entries = es; at = at; passes = passes; left = left; fault_is = f.1 })))
    | inl found ↦
        let e = found.entry in
        let before = table_size old.place es in
        let after = table_size old.place (es ++ e ∷ []) in
        let grown = size-push es e in
        let behind : AreBytes found.rest =
        subst AreBytes (ap (drop (length (spelling e))) found.parts ∙ drop_at (spelling e) found.rest (length (spelling e)) refl) (bytes_behind (length (spelling e)) at.rest each) in
        let room : length (table_of old.place (es ++ e ∷ [])) ≤ count = elim (cases_eq (length (table_of old.place es) + 1) count) [
          | inl last ↦ omega (arith, before, after, grown, last, found.narrow (eq-eqb _ _ last))
          | inr further ↦ omega (arith, before, after, grown, left, further, pad_most e)
        ] in
        pool_behind fuel old (record { place = at.place + length (spelling e); rest = found.rest }) count (es ++ e ∷ [])
        (entry_more old at count es e found.rest passes found.is_entry found.parts) behind room (omega (arith, before, after, grown, enough))
  ]
]

-- bytes spell a pool, or have a first fault
pub pool_or_fault : (old : Reading) → AreBytes old.rest → PoolOrFault old
pool_or_fault old each = elim (cases_lt (length old.rest) 2) [
  | inl short ↦ inr (faults.End old.place, inl (inl (short, refl)))
  | inr long ↦
      let n : ℕ = from_be_bytes w16 (take 2 old.rest) in
      let num = number_2 old.rest each long in
      elim (cases_eq n 0) [
        | inl none ↦ inr (faults.BadIndex old.place, inl (inr (drop 2 old.rest, num.1 ∙ ap (λ (k : ℕ). to_be_bytes w16 k ++ drop 2 old.rest) none, refl)))
        | inr some ↦
            pool_behind n old (record { place = old.place + 2; rest = drop 2 old.rest }) n []
            (record { some = omega (arith, some); fits = num.0; each = tt; parts = num.1; place = omega arith }) (bytes_behind 2 old.rest each) (omega (arith, some)) (omega arith)
      ]
]

-- ---- one fault

ends_once : (lens : List ℕ) (place : ℕ) (bytes : List ℕ) (a b : ℕ) → EndsInside lens place bytes a → EndsInside lens place bytes b → a ≡ b
ends_once [] place bytes a b p q = absurd p
ends_once (len ∷ lens) place bytes a b (inl p) (inl q) = p.1 ∙ sym q.1
ends_once (len ∷ lens) place bytes a b (inl p) (inr q) = absurd (omega (arith, p.0, q.0))
ends_once (len ∷ lens) place bytes a b (inr p) (inl q) = absurd (omega (arith, p.0, q.0))
ends_once (len ∷ lens) place bytes a b (inr p) (inr q) = ends_once lens (place + len) (drop len bytes) a b p.1 q.1

-- a text that is there ends inside no field
text_is_there : (tag : ℕ) (text more bytes : List ℕ) (place at : ℕ) → tag ≡ 1 → length text < 2 ^ 16 → bytes ≡ to_be_bytes w16 (length text) ++ (text ++ more) → EndsInside (fields_behind tag bytes) place bytes at → ⊥
text_is_there tag text more bytes place at is_text fits parts ends =
    let len : from_be_bytes w16 (take 2 bytes) ≡ length text = ap (from_be_bytes w16) (ap (take 2) parts ∙ take_at (to_be_bytes w16 (length text)) (text ++ more) 2 refl) ∙ from_be_bytes-to_be_bytes_2 (length text) fits in
    no_cut_two 2 (from_be_bytes w16 (take 2 bytes)) place bytes at
    (omega (arith, len, ap length parts, length-append (to_be_bytes w16 (length text)) (text ++ more), length-append text more))
    (subst (λ (t : ℕ). EndsInside (fields_behind t bytes) place bytes at) is_text ends)

text_is_known : (tag : ℕ) → tag ≡ 1 → is_tag tag ≡ true
text_is_known tag e = ap is_tag e

text_is_narrow : (tag : ℕ) → tag ≡ 1 → is_wide_tag tag ≡ true → ⊥
text_is_narrow tag e wide_tag = false≢true (ap is_wide_tag (sym e) ∙ wide_tag)

wide_is_known : (tag : ℕ) → is_wide_tag tag ≡ true → is_tag tag ≡ true
wide_is_known tag e = by (tag == 1) (is_number_tag tag) (is_wide_tag tag) (is_single_tag tag || (is_pair_tag tag || tag == 15)) e
  where
    by : (a b c d : Bool) → c ≡ true → (a || (b || (c || d))) ≡ true
    by true b c d e = refl
    by false true c d e = refl
    by false false true d e = refl
    by false false false d e = absurd cc

module _ (place : ℕ) (last : Bool) where
  one_entry_fault : (bytes : List ℕ) (f g : PoolFault) → IsEntryFault place last bytes f → IsEntryFault place last bytes g → f ≡ g
  one_entry_fault [] (faults.End a) (faults.End b) p q = ap faults.End (p ∙ sym q)
  one_entry_fault [] (faults.End a) (faults.BadTag b t) p q = absurd q
  one_entry_fault [] (faults.End a) (faults.PoolWidth b) p q = absurd q
  one_entry_fault [] (faults.End a) (faults.BadText b) p q = absurd q
  one_entry_fault [] (faults.End a) (faults.BadIndex b) p q = absurd q
  one_entry_fault [] (faults.End a) faults.Memory p q = absurd q
  one_entry_fault [] (faults.BadTag a t) g p q = absurd p
  one_entry_fault [] (faults.PoolWidth a) g p q = absurd p
  one_entry_fault [] (faults.BadText a) g p q = absurd p
  one_entry_fault [] (faults.BadIndex a) g p q = absurd p
  one_entry_fault [] faults.Memory g p q = absurd p
  one_entry_fault (tag ∷ bytes) (faults.BadIndex a) g p q = absurd p
  one_entry_fault (tag ∷ bytes) faults.Memory g p q = absurd p
  one_entry_fault (tag ∷ bytes) f (faults.BadIndex b) p q = absurd q
  one_entry_fault (tag ∷ bytes) f faults.Memory p q = absurd q
  one_entry_fault (tag ∷ bytes) (faults.End a) (faults.End b) p q = ap faults.End (ends_once (fields_behind tag bytes) (place + 1) bytes a b p.2 q.2)
  one_entry_fault (tag ∷ bytes) (faults.End a) (faults.BadTag b t) p q = absurd (false≢true (sym q.2 ∙ p.0))
  one_entry_fault (tag ∷ bytes) (faults.End a) (faults.PoolWidth b) p q = absurd (false≢true (sym (p.1 q.1) ∙ q.2))
  one_entry_fault (tag ∷ bytes) (faults.End a) (faults.BadText b) p q = absurd (text_is_there tag q.1 q.2 bytes (place + 1) a q.0 q.4 q.5 p.2)
  one_entry_fault (tag ∷ bytes) (faults.BadTag a t) (faults.End b) p q = absurd (false≢true (sym p.2 ∙ q.0))
  one_entry_fault (tag ∷ bytes) (faults.BadTag a t) (faults.BadTag b u) p q = ap (λ (n : ℕ). faults.BadTag n t) (p.0 ∙ sym q.0) ∙ ap (faults.BadTag b) (p.1 ∙ sym q.1)
  one_entry_fault (tag ∷ bytes) (faults.BadTag a t) (faults.PoolWidth b) p q = absurd (false≢true (sym p.2 ∙ wide_is_known tag q.2))
  one_entry_fault (tag ∷ bytes) (faults.BadTag a t) (faults.BadText b) p q = absurd (false≢true (sym p.2 ∙ text_is_known tag q.0))
  one_entry_fault (tag ∷ bytes) (faults.PoolWidth a) (faults.End b) p q = absurd (false≢true (sym (q.1 p.1) ∙ p.2))
  one_entry_fault (tag ∷ bytes) (faults.PoolWidth a) (faults.BadTag b t) p q = absurd (false≢true (sym q.2 ∙ wide_is_known tag p.2))
  one_entry_fault (tag ∷ bytes) (faults.PoolWidth a) (faults.PoolWidth b) p q = ap faults.PoolWidth (p.0 ∙ sym q.0)
  one_entry_fault (tag ∷ bytes) (faults.PoolWidth a) (faults.BadText b) p q = absurd (text_is_narrow tag q.0 p.2)
  one_entry_fault (tag ∷ bytes) (faults.BadText a) (faults.End b) p q = absurd (text_is_there tag p.1 p.2 bytes (place + 1) b p.0 p.4 p.5 q.2)
  one_entry_fault (tag ∷ bytes) (faults.BadText a) (faults.BadTag b t) p q = absurd (false≢true (sym q.2 ∙ text_is_known tag p.0))
  one_entry_fault (tag ∷ bytes) (faults.BadText a) (faults.PoolWidth b) p q = absurd (text_is_narrow tag p.0 q.2)
  one_entry_fault (tag ∷ bytes) (faults.BadText a) (faults.BadText b) p q =
      let same = text_unique p.1 q.1 p.2 q.2 p.4 q.4 (sym p.5 ∙ q.5) in
      let wrong : p.3 ≡ q.3 = one_wrong q.1 p.3 q.3 (subst (λ (t : List ℕ). IsFirstWrong t p.3) same.0 p.6) q.6 in
      ap faults.BadText (omega (arith, p.7, q.7, wrong))

one_count_fault : (old : Reading) (f g : PoolFault) → IsCountFault old f → IsCountFault old g → f ≡ g
one_count_fault old f g (inl p) (inl q) = p.1 ∙ sym q.1
one_count_fault old f g (inl p) (inr q) = absurd (omega (arith, p.0, ap length q.1))
one_count_fault old f g (inr p) (inl q) = absurd (omega (arith, q.0, ap length p.1))
one_count_fault old f g (inr p) (inr q) = p.2 ∙ sym q.2

-- where the next entry of a longer list has a spelling, none is at fault
no_longer : (old new : Reading) (count : ℕ) (es : List Entry) (f : PoolFault) (h : IsFaultInEntries old f) → PassesEntries old new count es → length (table_of old.place es) ≤ count
    → length (table_of old.place h.entries) < length (table_of old.place es) → ⊥
no_longer old new count es f h passes most shorter =
    let one = count_unique old new h.at count h.count es h.entries passes h.passes in
    let total = table_size old.place es in
    let before = table_size old.place h.entries in
    let n = next es h.entries new.rest h.at.rest passes.each h.passes.each one.1 (omega (arith, total, before, shorter)) in
    no_fault_at h.at.place (length (table_of old.place h.entries) + 1 == h.count) n.entry n.rest h.at.rest f n.parts n.is_entry
    (λ last. omega (arith, eqb-true _ _ last, n.fits, before, total, one.0, most)) h.fault_is

one_in_entries : (old : Reading) (f g : PoolFault) → IsFaultInEntries old f → IsFaultInEntries old g → f ≡ g
one_in_entries old f g p q = elim (cases_order (length (table_of old.place p.entries)) (length (table_of old.place q.entries))) [
  | inl same ↦ here same
  | inr apart ↦ elim apart [
    | inl less ↦ absurd (no_longer old q.at q.count q.entries f p q.passes (omega (arith, q.left)) less)
    | inr less ↦ absurd (no_longer old p.at p.count p.entries g q p.passes (omega (arith, p.left)) less)
  ]
]
  where
    here : length (table_of old.place p.entries) ≡ length (table_of old.place q.entries) → f ≡ g
    here same =
        let one = count_unique old p.at q.at p.count q.count p.entries q.entries p.passes q.passes in
        let entries = same_entries p.entries q.entries p.at.rest q.at.rest p.passes.each q.passes.each one.1 (omega (arith, same, table_size old.place p.entries, table_size old.place q.entries)) in
        let place : p.at.place ≡ q.at.place = omega (arith, p.passes.place, q.passes.place, ap (λ (es : List Entry). length (flat_map spelling es)) entries.0) in
        let at : p.at ≡ q.at = same_reading p.at q.at place entries.1 in
        let last : (length (table_of old.place p.entries) + 1 == p.count) ≡ (length (table_of old.place q.entries) + 1 == q.count) =
        ap (λ (n : ℕ). n + 1 == p.count) same ∙ ap (λ (n : ℕ). length (table_of old.place q.entries) + 1 == n) one.0 in
        let moved : IsEntryFault q.at.place (length (table_of old.place q.entries) + 1 == q.count) q.at.rest f =
        subst (λ (b : Bool). IsEntryFault q.at.place b q.at.rest f) last
        (subst (λ (r : Reading). IsEntryFault r.place (length (table_of old.place p.entries) + 1 == p.count) r.rest f) at p.fault_is) in
        one_entry_fault q.at.place (length (table_of old.place q.entries) + 1 == q.count) q.at.rest f g moved q.fault_is

entries_or_indices : (old : Reading) (f g : PoolFault) → IsFaultInEntries old f → IsFaultInIndices old g → ⊥
entries_or_indices old f g p q =
    let one = count_unique old p.at q.at p.count q.count p.entries q.entries p.passes q.passes in
    no_longer old q.at q.count q.entries f p q.passes (omega (arith, q.full)) (omega (arith, p.left, q.full, one.0))

one_in_indices : (old : Reading) (f g : PoolFault) → IsFaultInIndices old f → IsFaultInIndices old g → f ≡ g
one_in_indices old f g p q =
    let one = same_pool old p.at q.at p.count q.count p.entries q.entries p.passes q.passes (sym p.full) q.full in
    let fields : Some p.field ≡ Some q.field =
    sym p.wrong ∙ ap (λ (es : List Entry). first_wrong (tags_of (table_of old.place es)) (table_of old.place es)) one.0 ∙ q.wrong in
    let field : p.field ≡ q.field = cc in
    p.fault_is ∙ ap (λ (f : IndexField). faults.BadIndex f.place) field ∙ sym q.fault_is

-- bytes have one first fault
pub one_pool_fault : (old : Reading) (f g : PoolFault) → IsFirstFault old f → IsFirstFault old g → f ≡ g
one_pool_fault old f g (inl p) (inl q) = one_count_fault old f g p q
one_pool_fault old f g (inl p) (inr (inl q)) = absurd (no_count_fault old q.at q.count q.entries f q.passes p)
one_pool_fault old f g (inl p) (inr (inr q)) = absurd (no_count_fault old q.at q.count q.entries f q.passes p)
one_pool_fault old f g (inr (inl p)) (inl q) = absurd (no_count_fault old p.at p.count p.entries g p.passes q)
one_pool_fault old f g (inr (inr p)) (inl q) = absurd (no_count_fault old p.at p.count p.entries g p.passes q)
one_pool_fault old f g (inr (inl p)) (inr (inl q)) = one_in_entries old f g p q
one_pool_fault old f g (inr (inl p)) (inr (inr q)) = absurd (entries_or_indices old f g p q)
one_pool_fault old f g (inr (inr p)) (inr (inl q)) = absurd (entries_or_indices old g f q p)
one_pool_fault old f g (inr (inr p)) (inr (inr q)) = one_in_indices old f g p q
