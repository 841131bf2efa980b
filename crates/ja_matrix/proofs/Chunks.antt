-- The rows of a table, as words that lie in a longer list.
use Rattle.std.proofs.Common.{◌≡◌, ◌≢◌, ℕ, zero, suc, ◌+◌, ◌-◌, ◌*◌, ◌/◌, ◌%◌, ◌^◌, ◌<◌, ◌≤◌, ◌⊎◌, Bool, true, false, ◌==◌, List, [], length, get_or, set, drop, replicate, min, bit_or, bit_and, refl, ap, sym, subst, ◌∙◌, inl, inr, arith}
use Rattle.std.proofs.Math.Nat.{mul-le-mul_right}
use Rattle.std.proofs.lemmas.Nat.{mul-add-lt, pow_pos}
use Rattle.std.proofs.lemmas.List.{ext_get_or, get_or-set_same, get_or-set_other, get_or_past, get_or_default, get_or-take, get_or-drop, length-take, length-drop}
use Rattle.std.proofs.Math.ListN.{length-set}
use Rattle.std.proofs.lemmas.Bool.{cases_eq, cases_lt}
use Rattle.std.specs.Int.{bit_at}
use Rattle.std.proofs.lemmas.Nat.Bits.{bit_at-zero}
use Rattle.ja_sets.specs.Sets.{Has, HasPair}
use Rattle.ja_sets.specs.InnerWords.{flags, bit_of, IsTidy, JoinsWords, GainsBits}
use Rattle.ja_sets.proofs.Flags.{length-flags, flags-at, word-there, shift-read}
use Rattle.ja_sets.proofs.Members.{get_or-copies}
use Rattle.ja_matrix.specs.Matrices.{IsTable, KeepsShape}
use Rattle.ja_matrix.specs.InnerChunks.{width, chunk, rows_from, table, IsStored, IsOutside, JoinsPiece, ChangesPiece}

length-rows_from : (columns a count : ℕ) (words : List ℕ) → length (rows_from columns a count words) ≡ count
length-rows_from columns a zero words = refl
length-rows_from columns a (suc count) words = ap suc (length-rows_from columns (suc a) count words)

rows_from-at : (columns a count k : ℕ) (words : List ℕ) → k < count → get_or (rows_from columns a count words) k [] ≡ flags columns (chunk (width columns) (a + k) words)
rows_from-at columns a zero k words h = absurd (omega arith)
rows_from-at columns a (suc count) zero words h = ap (λ b. flags columns (chunk (width columns) b words)) (omega arith)
rows_from-at columns a (suc count) (suc k) words h =
    rows_from-at columns (suc a) count k words (omega arith) ∙ ap (λ b. flags columns (chunk (width columns) b words)) (omega arith)

pub length-table : (rows columns : ℕ) (words : List ℕ) → length (table rows columns words) ≡ rows
unfolding table
length-table rows columns words = length-rows_from columns 0 rows words

pub table-row : (rows columns a : ℕ) (words : List ℕ) → a < rows → get_or (table rows columns words) a [] ≡ flags columns (chunk (width columns) a words)
unfolding table
table-row rows columns a words h = rows_from-at columns 0 rows a words h ∙ ap (λ b. flags columns (chunk (width columns) b words)) (omega arith)

-- a word of a row
pub chunk-at : (count a k : ℕ) (words : List ℕ) → k < count → get_or (chunk count a words) k 0 ≡ get_or words (a * count + k) 0
chunk-at count a k words h = get_or-take count (drop (a * count) words) k 0 h ∙ get_or-drop (a * count) words k 0

pub length-chunk : (count a : ℕ) (words : List ℕ) → length (chunk count a words) ≤ count
length-chunk count a words = let e = length-take count (drop (a * count) words) in omega arith

pub same-length : (count a : ℕ) (old new : List ℕ) → length new ≡ length old → length (chunk count a new) ≡ length (chunk count a old)
same-length count a old new e =
    length-take count (drop (a * count) new) ∙ ap (min count) (length-drop (a * count) new ∙ ap (λ n. n - a * count) e ∙ sym (length-drop (a * count) old)) ∙ sym (length-take count (drop (a * count) old))

-- rows with the same words are the same
pub same-chunk : (count a : ℕ) (old new : List ℕ) → length new ≡ length old → ((k : ℕ) → k < count → get_or new (a * count + k) 0 ≡ get_or old (a * count + k) 0) → chunk count a new ≡ chunk count a old
same-chunk count a old new e each =
    ext_get_or 0 (chunk count a new) (chunk count a old) (same-length count a old new e)
    (λ k room. let h : k < count = omega (arith, room, length-chunk count a new) in chunk-at count a k new h ∙ each k h ∙ sym (chunk-at count a k old h))

apart : (count a to k : ℕ) → k < count → a ≢ to → (a * count + k < to * count) ⊎ (to * count + count ≤ a * count + k)
apart count a to k h ne = elim (cases_lt a to) [
  | inl lt ↦ inl (omega (arith, mul-add-lt a count k to lt h))
  | inr past ↦ let more : suc to ≤ a = omega arith in inr (omega (arith, mul-le-mul_right count more))
]

-- another row than the one that was written
pub outside-chunk : (count to a : ℕ) (old new : List ℕ) → IsOutside old (to * count) count new → a ≢ to → chunk count a new ≡ chunk count a old
outside-chunk count to a old new outside ne =
    same-chunk count a old new outside.same_length
    (λ k h. elim (apart count a to k h ne) [ inl before ↦ outside.before (a * count + k) before | inr after ↦ outside.after (a * count + k) after ])

pub joins-chunk : (count to from : ℕ) (old others new : List ℕ) → length (chunk count to old) ≡ count → JoinsPiece old (to * count) others (from * count) count new
    → JoinsWords (chunk count to old) (chunk count from others) (chunk count to new)
joins-chunk count to from old others new full joins = record {
  same_length = same-length count to old new joins.outside.same_length;
  each = λ k room. let h : k < count = omega (arith, room, full) in
      chunk-at count to k new h ∙ joins.inside k h
      ∙ ap (λ w. bit_or w (get_or others (from * count + k) 0)) (sym (chunk-at count to k old h))
      ∙ ap (λ w. bit_or (get_or (chunk count to old) k 0) w) (sym (chunk-at count from k others h));
}

pub gains-chunk : (count to : ℕ) (old new : List ℕ) → length (chunk count to old) ≡ count → ChangesPiece old (to * count) count new → GainsBits (chunk count to old) (chunk count to new)
gains-chunk count to old new full changes =
    (changes.0, omega (arith, changes.1, full), λ same. changes.2 (sym (chunk-at count to changes.0 new changes.1) ∙ same ∙ chunk-at count to changes.0 old changes.1))

-- what is known of stored words and of the rows that they are
module _ (rows columns : ℕ) (words : List ℕ) (xs : List (List Bool)) (stored : IsStored rows columns words) (e : table rows columns words ≡ xs) where
  pub size : length xs ≡ rows
  size = ap length (sym e) ∙ length-table rows columns words

  pub row : (a : ℕ) → a < rows → get_or xs a [] ≡ flags columns (chunk (width columns) a words)
  row a h = ap (λ (ys : List (List Bool)). get_or ys a []) (sym e) ∙ table-row rows columns a words h

  pub row-size : (a : ℕ) → a < rows → length (get_or xs a []) ≡ columns
  row-size a h = ap length (row a h) ∙ length-flags columns (chunk (width columns) a words)

  pub inside : (a : ℕ) → a < length xs → a < rows
  inside a h = subst (λ n. a < n) size h

  pub inside-row : (a b : ℕ) → a < length xs → b < length (get_or xs a []) → b < columns
  inside-row a b ha hb = subst (λ n. b < n) (row-size a (inside a ha)) hb

  pub full : (a : ℕ) → a < rows → length (chunk (width columns) a words) ≡ width columns
  full a h = (stored.tidy a h).enough

  -- the words of a row are there
  pub room : (a : ℕ) → a < rows → a * width columns + width columns ≤ length words
  room a h = let more : suc a ≤ rows = omega arith in omega (arith, stored.filled, mul-le-mul_right (width columns) more)

  pub place-there : (a b : ℕ) → a < length xs → b < length (get_or xs a []) → a * width columns + b / 64 < length words
  place-there a b ha hb =
      let h : a < rows = inside a ha in
      let below : b / 64 < width columns = word-there columns (width columns) b refl (inside-row a b ha hb) in
      omega (arith, room a h)

  pub read : (a b w : ℕ) → a < length xs → b < length (get_or xs a []) → w ≡ get_or words (a * width columns + b / 64) w → (bit_and (w / 2 ^ (b % 64)) 1 == 1) ≡ get_or (get_or xs a []) b false
  read a b w ha hb is =
      let h : a < rows = inside a ha in
      let below : b / 64 < width columns = word-there columns (width columns) b refl (inside-row a b ha hb) in
      let there : b / 64 < length (chunk (width columns) a words) = subst (λ n. b / 64 < n) (sym (full a h)) below in
      shift-read columns (chunk (width columns) a words) (get_or xs a []) b w (stored.tidy a h) (sym (row a h)) hb
      (is ∙ get_or_default words (a * width columns + b / 64) w 0 (place-there a b ha hb) ∙ sym (chunk-at (width columns) a (b / 64) words below) ∙ get_or_default (chunk (width columns) a words) (b / 64) 0 w there)

  -- words in which one row was written
  module _ (to : ℕ) (new : List ℕ) (lt : to < rows) (longs : length new ≡ length words) (tidy : IsTidy columns (chunk (width columns) to new))
      (others : (a : ℕ) → a ≢ to → chunk (width columns) a new ≡ chunk (width columns) a words) where
    pub stored-with : IsStored rows columns new
    stored-with = record {
      few_rows = stored.few_rows;
      few_columns = stored.few_columns;
      filled = longs ∙ stored.filled;
      tidy = λ a h. elim (cases_eq a to) [
        | inl same ↦ subst (λ k. IsTidy columns (chunk (width columns) k new)) (sym same) tidy
        | inr ne ↦ subst (IsTidy columns) (sym (others a ne)) (stored.tidy a h)
      ];
    }

    pub table-with : table rows columns new ≡ set xs to (flags columns (chunk (width columns) to new))
    table-with =
        ext_get_or [] (table rows columns new) (set xs to (flags columns (chunk (width columns) to new)))
        (length-table rows columns new ∙ sym size ∙ sym (length-set xs to (flags columns (chunk (width columns) to new))))
        (λ a below. let h : a < rows = subst (λ n. a < n) (length-table rows columns new) below in
        table-row rows columns a new h ∙ elim (cases_eq a to) as (λ _. flags columns (chunk (width columns) a new) ≡ get_or (set xs to (flags columns (chunk (width columns) to new))) a []) [
          | inl same ↦ ap (λ k. flags columns (chunk (width columns) k new)) same
              ∙ sym (get_or-set_same xs to (flags columns (chunk (width columns) to new)) [] (subst (λ n. to < n) (sym size) lt))
              ∙ ap (λ k. get_or (set xs to (flags columns (chunk (width columns) to new))) k []) (sym same)
          | inr ne ↦ ap (flags columns) (others a ne) ∙ sym (row a h) ∙ sym (get_or-set_other xs to a (flags columns (chunk (width columns) to new)) [] ne)
        ])

-- words of which none has a bit
module _ (rows columns : ℕ) (words : List ℕ) (zeros : (k : ℕ) → get_or words k 0 ≡ 0) where
  zero-chunk : (a k : ℕ) → get_or (chunk (width columns) a words) k 0 ≡ 0
  zero-chunk a k = elim (cases_lt k (width columns)) [
    | inl h ↦ chunk-at (width columns) a k words h ∙ zeros (a * width columns + k)
    | inr past ↦ get_or_past (chunk (width columns) a words) k 0 (omega (arith, length-chunk (width columns) a words))
  ]

  pub stored-zeros : rows < 2 ^ 32 → columns < 2 ^ 32 → length words ≡ rows * width columns → IsStored rows columns words
  stored-zeros few many long = record {
    few_rows = few;
    few_columns = many;
    filled = long;
    tidy = λ a h. record {
      bound = omega arith;
      enough = let more : suc a ≤ rows = omega arith in
          length-take (width columns) (drop (a * width columns) words) ∙ ap (min (width columns)) (length-drop (a * width columns) words) ∙ omega (arith, long, mul-le-mul_right (width columns) more);
      fits = λ k. rw (zero-chunk a k) (pow_pos 64);
      clear = λ i past. ap (λ w. bit_at w (i % 64)) (zero-chunk a (i / 64)) ∙ bit_at-zero (i % 64);
    };
  }

  pub no-pairs : (a b : ℕ) → HasPair (table rows columns words) a b → ⊥
  no-pairs a b has = elim (cases_lt a rows) [
    | inl h ↦
        let in_row : Has (flags columns (chunk (width columns) a words)) b = subst (λ (r : List Bool). Has r b) (table-row rows columns a words h) has in
        elim (cases_lt b columns) [
          | inl below ↦
              let bit : bit_of (chunk (width columns) a words) b ≡ 0 = ap (λ w. bit_at w (b % 64)) (zero-chunk a (b / 64)) ∙ bit_at-zero (b % 64) in
              let told : (bit_of (chunk (width columns) a words) b == 1) ≡ true = sym (flags-at columns (chunk (width columns) a words) b below) ∙ in_row in
              let f : (0 == 1) ≡ true = ap (λ v. v == 1) (sym bit) ∙ told in
              absurd (cc f)
          | inr past ↦
              let none : get_or (flags columns (chunk (width columns) a words)) b false ≡ false = get_or_past (flags columns (chunk (width columns) a words)) b false (omega (arith, length-flags columns (chunk (width columns) a words))) in
              absurd (cc (none, in_row))
        ]
    | inr past ↦
        let none : get_or (table rows columns words) a [] ≡ [] = get_or_past (table rows columns words) a [] (omega (arith, length-table rows columns words)) in
        let e : Has [] b = subst (λ (r : List Bool). Has r b) none has in
        absurd (cc e)
  ]

pub shaped : (rows columns : ℕ) (words : List ℕ) → IsTable rows columns (table rows columns words)
shaped rows columns words = record {
  count = length-table rows columns words;
  each = λ a h. ap length (table-row rows columns a words h) ∙ length-flags columns (chunk (width columns) a words);
}

-- a table of as many rows and columns
pub same-shape : (rows columns : ℕ) (words : List ℕ) (xs : List (List Bool)) → IsStored rows columns words → table rows columns words ≡ xs → (new : List ℕ) → KeepsShape xs (table rows columns new)
same-shape rows columns words xs stored e new count width' is =
    let rows-same : rows ≡ count = sym (size rows columns words xs stored e) ∙ is.count in
    record {
      count = length-table rows columns new ∙ rows-same;
      each = λ a h. let lt : a < rows = omega arith in
          ap length (table-row rows columns a new lt) ∙ length-flags columns (chunk (width columns) a new)
          ∙ sym (row-size rows columns words xs stored e a lt) ∙ is.each a h;
    }

pub zero-copies : (words : List ℕ) (count : ℕ) → words ≡ replicate count 0 → (k : ℕ) → get_or words k 0 ≡ 0
zero-copies words count e k = ap (λ (ws : List ℕ). get_or ws k 0) e ∙ get_or-copies count k 0
