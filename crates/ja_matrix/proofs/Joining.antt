-- A row that is joined with a row of another table.
use Rattle.std.proofs.Common.{◌≡◌, ◌≢◌, ℕ, zero, suc, ◌+◌, ◌*◌, ◌/◌, ◌%◌, ◌^◌, ◌<◌, ◌≤◌, ◌⊎◌, ◌↔◌, Bool, true, false, ◌==◌, IsTrue, List, [], ◌∷◌, length, get_or, set, min, not, bit_or, bit_and, refl, ap, sym, subst, ◌∙◌, inl, inr, arith}
use Rattle.std.specs.Int.{bit_at}
use Rattle.std.specs.Int.Bits.{and_zero_r}
use Rattle.std.proofs.lemmas.Nat.{and_le_l, same_from_place}
use Rattle.std.proofs.lemmas.Nat.Bits.{bit_at_and, bit_at-lt}
use Rattle.std.proofs.lemmas.List.{ext_get_or, get_or-set_same, get_or-set_other, get_or_past}
use Rattle.std.proofs.Math.ListN.{length-set}
use Rattle.std.proofs.lemmas.Bool.{cases_eq, cases_lt}
use Rattle.ja_sets.specs.Sets.{Has, Adds, union, Lacks}
use Rattle.ja_sets.specs.InnerWords.{flags, bit_of, IsTidy, JoinsWords}
use Rattle.ja_sets.proofs.Values.{length-union, union-changes}
use Rattle.ja_sets.proofs.Members.{Has-set, Has-union_iff}
use Rattle.ja_sets.proofs.Flags.{length-flags, flags-at, word-there, joined-tidy, joined-flags, joined-adds, with_bit, with_bit-tidy, with_bit-flags, set-changes, lacks-iff}
use Rattle.ja_matrix.specs.Matrices.{KeepsShape, Gains}
use Rattle.ja_matrix.specs.InnerChunks.{width, chunk, table, IsStored, IsOutside, KeepsPiece, ChangesPiece}
use Rattle.ja_matrix.proofs.Chunks.{chunk-at, length-chunk, same-length, same-chunk, outside-chunk, gains-chunk, row, row-size, inside, inside-row, full, room, place-there, stored-with, table-with}
use Rattle.ja_matrix.proofs.Rows.{row-gains, row-keeps}

is-true : (r : Bool) → (r ≡ false → ⊥) → IsTrue r
is-true true h = refl
is-true false h = absurd (h refl)

-- another table of which a row has as many columns
module _ (rows columns : ℕ) (words : List ℕ) (xs : List (List Bool)) (stored : IsStored rows columns words) (e : table rows columns words ≡ xs)
    (others-rows others-columns : ℕ) (others : List ℕ) (ys : List (List Bool)) (kept : IsStored others-rows others-columns others) (f : table others-rows others-columns others ≡ ys)
    (to from : ℕ) (ht : to < length xs) (hf : from < length ys) (same : length (get_or xs to []) ≡ length (get_or ys from [])) where
  as-wide : others-columns ≡ columns
  as-wide =
      sym (row-size others-rows others-columns others ys kept f from (inside others-rows others-columns others ys kept f from hf))
      ∙ sym same ∙ row-size rows columns words xs stored e to (inside rows columns words xs stored e to ht)

  pub room-other : from * width columns + width columns ≤ length others
  room-other = subst (λ n. from * width n + width n ≤ length others) as-wide (room others-rows others-columns others ys kept f from (inside others-rows others-columns others ys kept f from hf))

  pub tidy-other : IsTidy columns (chunk (width columns) from others)
  tidy-other = subst (λ n. IsTidy n (chunk (width n) from others)) as-wide (kept.tidy from (inside others-rows others-columns others ys kept f from hf))

  pub row-other : get_or ys from [] ≡ flags columns (chunk (width columns) from others)
  row-other = row others-rows others-columns others ys kept f from (inside others-rows others-columns others ys kept f from hf) ∙ ap (λ n. flags n (chunk (width n) from others)) as-wide

-- the words of one row are joined with tidy ones
module _ (rows columns : ℕ) (words : List ℕ) (xs : List (List Bool)) (stored : IsStored rows columns words) (e : table rows columns words ≡ xs)
    (to : ℕ) (ht : to < length xs) (others : List ℕ) (ys : List Bool) (tidy : IsTidy columns others) (f : flags columns others ≡ ys)
    (new : List ℕ) (outside : IsOutside words (to * width columns) (width columns) new) (joins : JoinsWords (chunk (width columns) to words) others (chunk (width columns) to new)) where
  here : to < rows
  here = inside rows columns words xs stored e to ht

  same-size : length (get_or xs to []) ≡ length ys
  same-size = row-size rows columns words xs stored e to here ∙ sym (length-flags columns others) ∙ ap length f

  tidy-new : IsTidy columns (chunk (width columns) to new)
  tidy-new = joined-tidy columns (chunk (width columns) to words) others (chunk (width columns) to new) (stored.tidy to here) tidy joins

  flags-new : flags columns (chunk (width columns) to new) ≡ union (get_or xs to []) ys
  flags-new = joined-flags columns (chunk (width columns) to words) others (chunk (width columns) to new) (get_or xs to []) ys (stored.tidy to here) tidy joins (sym (row rows columns words xs stored e to here)) f

  pub joined-stored : IsStored rows columns new
  joined-stored = stored-with rows columns words xs stored e to new here outside.same_length tidy-new (λ a ne. outside-chunk (width columns) to a words new outside ne)

  pub joined-table : table rows columns new ≡ set xs to (union (get_or xs to []) ys)
  joined-table =
      table-with rows columns words xs stored e to new here outside.same_length tidy-new (λ a ne. outside-chunk (width columns) to a words new outside ne)
      ∙ ap (set xs to) flags-new

  pub joined-gains : Gains xs (table rows columns new) (λ a b. (a ≡ to) × Has ys b)
  joined-gains =
      subst (λ (t : List (List Bool)). Gains xs t (λ a b. (a ≡ to) × Has ys b)) (sym joined-table)
      (row-gains xs to (union (get_or xs to []) ys) (Has ys) ht (λ b. Has-union_iff (get_or xs to []) ys b same-size))

  pub joined-keeps : KeepsShape xs (table rows columns new)
  joined-keeps =
      subst (λ (t : List (List Bool)). KeepsShape xs t) (sym joined-table)
      (row-keeps xs to (union (get_or xs to []) ys) ht (length-union (get_or xs to []) ys same-size))

  pub joined-changed : (r : Bool) → (IsTrue r → ChangesPiece words (to * width columns) (width columns) new) → (r ≡ false → new ≡ words) → IsTrue r ↔ Adds ys (get_or xs to [])
  joined-changed r changed unchanged = (
    λ t. joined-adds columns (chunk (width columns) to words) others (chunk (width columns) to new) (get_or xs to []) ys (stored.tidy to here) tidy tidy-new joins (sym (row rows columns words xs stored e to here)) f
        (gains-chunk (width columns) to words new (full rows columns words xs stored e to here) (changed t)),
    λ adds. is-true r (λ no. union-changes (get_or xs to []) ys same-size adds
        (sym flags-new ∙ ap (λ (ws : List ℕ). flags columns (chunk (width columns) to ws)) (unchanged no) ∙ sym (row rows columns words xs stored e to here))),
  )

-- the bits that both of two words have, word by word
pub both : List ℕ → List ℕ → List ℕ
both [] ys = []
both (x ∷ xs) [] = []
both (x ∷ xs) (y ∷ ys) = bit_and x y ∷ both xs ys

length-both : (xs ys : List ℕ) → length xs ≡ length ys → length (both xs ys) ≡ length xs
unfolding both
length-both [] ys h = refl
length-both (x ∷ xs) [] h = absurd (cc h)
length-both (x ∷ xs) (y ∷ ys) h = ap suc (length-both xs ys (omega (arith, h)))

both-at : (xs ys : List ℕ) (k : ℕ) → length xs ≡ length ys → get_or (both xs ys) k 0 ≡ bit_and (get_or xs k 0) (get_or ys k 0)
unfolding both
both-at [] [] k h = sym (and_zero_r 0)
both-at [] (y ∷ ys) k h = absurd (cc h)
both-at (x ∷ xs) [] k h = absurd (cc h)
both-at (x ∷ xs) (y ∷ ys) zero h = refl
both-at (x ∷ xs) (y ∷ ys) (suc k) h = both-at xs ys k (omega (arith, h))

bit_of-both : (xs ys : List ℕ) (i : ℕ) → length xs ≡ length ys → bit_of (both xs ys) i ≡ min (bit_of xs i) (bit_of ys i)
bit_of-both xs ys i h = ap (λ w. bit_at w (i % 64)) (both-at xs ys (i / 64) h) ∙ bit_at_and (get_or xs (i / 64) 0) (get_or ys (i / 64) 0) (i % 64)

pub tidy-both : (len : ℕ) (xs ys : List ℕ) → IsTidy len xs → IsTidy len ys → IsTidy len (both xs ys)
tidy-both len xs ys tx ty =
    let same : length xs ≡ length ys = tx.enough ∙ sym ty.enough in
    record {
      bound = tx.bound;
      enough = length-both xs ys same ∙ tx.enough;
      fits = λ k. rw (both-at xs ys k same) (let le = and_le_l (get_or xs k 0) (get_or ys k 0) in omega (arith, le, tx.fits k));
      clear = λ i past. bit_of-both xs ys i same ∙ ap (λ b. min b (bit_of ys i)) (tx.clear i past) ∙ omega arith;
    }

one-both : (p q : ℕ) → p < 2 → q < 2 → ((min p q == 1) ≡ true) ↔ (((p == 1) ≡ true) × ((q == 1) ≡ true))
one-both zero q hp hq = (
  λ h. let none : min 0 q ≡ 0 = omega arith in absurd (cc (h, ap (λ v. v == 1) none)),
  λ h. absurd (cc (h.0)),
)
one-both (suc zero) zero hp hq = (λ h. absurd (cc h), λ h. absurd (cc (h.1)))
one-both (suc zero) (suc zero) hp hq = (λ h. (refl, refl), λ h. refl)
one-both (suc zero) (suc (suc q)) hp hq = absurd (omega arith)
one-both (suc (suc p)) q hp hq = absurd (omega arith)

past-flags : (len : ℕ) (words : List ℕ) (b : ℕ) → len ≤ b → Has (flags len words) b → ⊥
past-flags len words b past has =
    let none : get_or (flags len words) b false ≡ false = get_or_past (flags len words) b false (omega (arith, length-flags len words)) in
    absurd (cc (none, has))

pub Has-both : (len : ℕ) (xs ys : List ℕ) (b : ℕ) → length xs ≡ length ys → Has (flags len (both xs ys)) b ↔ (Has (flags len xs) b × Has (flags len ys) b)
Has-both len xs ys b h = elim (cases_lt b len) [
  | inl below ↦
      let iff = one-both (bit_of xs b) (bit_of ys b) (bit_at-lt (get_or xs (b / 64) 0) (b % 64)) (bit_at-lt (get_or ys (b / 64) 0) (b % 64)) in
      let at : get_or (flags len (both xs ys)) b false ≡ (min (bit_of xs b) (bit_of ys b) == 1) = flags-at len (both xs ys) b below ∙ ap (λ v. v == 1) (bit_of-both xs ys b h) in (
        λ has. let two = iff.0 (sym at ∙ has) in (flags-at len xs b below ∙ two.0, flags-at len ys b below ∙ two.1),
        λ two. at ∙ iff.1 (sym (flags-at len xs b below) ∙ two.0, sym (flags-at len ys b below) ∙ two.1),
      )
  | inr past ↦ (λ has. absurd (past-flags len (both xs ys) b past has), λ two. absurd (past-flags len xs b past two.0))
]

-- the words of a row that gained what two others have in common
pub keeps-chunk : (count to from : ℕ) (old others kept new : List ℕ) → length (chunk count to old) ≡ count → length (chunk count from others) ≡ length (chunk count 0 kept) → KeepsPiece old (to * count) others (from * count) kept count new
    → JoinsWords (chunk count to old) (both (chunk count from others) (chunk count 0 kept)) (chunk count to new)
keeps-chunk count to from old others kept new filled same keeps =
    let long : length (chunk count to new) ≡ length (chunk count to old) = same-length count to old new keeps.outside.same_length in
    record {
      same_length = long;
      each = λ k below. let h : k < count = omega (arith, below, filled) in
          let first : get_or (chunk count 0 kept) k 0 ≡ get_or kept k 0 = chunk-at count 0 k kept h ∙ ap (λ i. get_or kept i 0) (omega arith) in
          chunk-at count to k new h ∙ keeps.inside k h
          ∙ ap (λ w. bit_or w (bit_and (get_or others (from * count + k) 0) (get_or kept k 0))) (sym (chunk-at count to k old h))
          ∙ ap (λ w. bit_or (get_or (chunk count to old) k 0) w)
          (ap (λ w. bit_and w (get_or kept k 0)) (sym (chunk-at count from k others h)) ∙ ap (bit_and (get_or (chunk count from others) k 0)) (sym first) ∙ sym (both-at (chunk count from others) (chunk count 0 kept) k same));
    }

-- one bit is set
module _ (rows columns : ℕ) (words : List ℕ) (xs : List (List Bool)) (stored : IsStored rows columns words) (e : table rows columns words ≡ xs)
    (a b : ℕ) (ha : a < length xs) (hb : b < length (get_or xs a [])) (w : ℕ) (is : w ≡ get_or words (a * width columns + b / 64) 0) where
  line : a < rows
  line = inside rows columns words xs stored e a ha

  below : b / 64 < width columns
  below = word-there columns (width columns) b refl (inside-row rows columns words xs stored e a b ha hb)

  pub read-word : w ≡ get_or (chunk (width columns) a words) (b / 64) 0
  read-word = is ∙ sym (chunk-at (width columns) a (b / 64) words below)

  there : b / 64 < length (chunk (width columns) a words)
  there = subst (λ n. b / 64 < n) (sym (full rows columns words xs stored e a line)) below

  place : a * width columns + b / 64 < length words
  place = place-there rows columns words xs stored e a b ha hb

  set-chunk : chunk (width columns) a (set words (a * width columns + b / 64) (bit_or w (2 ^ (b % 64)))) ≡ with_bit (chunk (width columns) a words) b
  set-chunk =
      ext_get_or 0 (chunk (width columns) a (set words (a * width columns + b / 64) (bit_or w (2 ^ (b % 64))))) (with_bit (chunk (width columns) a words) b)
      (same-length (width columns) a words (set words (a * width columns + b / 64) (bit_or w (2 ^ (b % 64)))) (length-set words (a * width columns + b / 64) (bit_or w (2 ^ (b % 64))))
      ∙ sym (length-set (chunk (width columns) a words) (b / 64) (bit_or (get_or (chunk (width columns) a words) (b / 64) 0) (2 ^ (b % 64)))))
      (λ k lt.
      let h : k < width columns = omega (arith, lt, length-chunk (width columns) a (set words (a * width columns + b / 64) (bit_or w (2 ^ (b % 64))))) in
      chunk-at (width columns) a k (set words (a * width columns + b / 64) (bit_or w (2 ^ (b % 64)))) h
      ∙ elim (cases_eq k (b / 64)) as (λ _. get_or (set words (a * width columns + b / 64) (bit_or w (2 ^ (b % 64)))) (a * width columns + k) 0 ≡ get_or (with_bit (chunk (width columns) a words) b) k 0) [
        | inl same ↦
            ap (λ i. get_or (set words (a * width columns + b / 64) (bit_or w (2 ^ (b % 64)))) (a * width columns + i) 0) same
            ∙ get_or-set_same words (a * width columns + b / 64) (bit_or w (2 ^ (b % 64))) 0 place
            ∙ ap (λ v. bit_or v (2 ^ (b % 64))) read-word
            ∙ sym (get_or-set_same (chunk (width columns) a words) (b / 64) (bit_or (get_or (chunk (width columns) a words) (b / 64) 0) (2 ^ (b % 64))) 0 there)
            ∙ ap (λ i. get_or (with_bit (chunk (width columns) a words) b) i 0) (sym same)
        | inr ne ↦
            let other : (a * width columns + k ≡ a * width columns + b / 64 → ⊥) = λ same. ne (omega (arith, same)) in
            get_or-set_other words (a * width columns + b / 64) (a * width columns + k) (bit_or w (2 ^ (b % 64))) 0 other
            ∙ sym (chunk-at (width columns) a k words h)
            ∙ sym (get_or-set_other (chunk (width columns) a words) (b / 64) k (bit_or (get_or (chunk (width columns) a words) (b / 64) 0) (2 ^ (b % 64))) 0 ne)
      ])

  others-same : (c : ℕ) → c ≢ a → chunk (width columns) c (set words (a * width columns + b / 64) (bit_or w (2 ^ (b % 64)))) ≡ chunk (width columns) c words
  others-same c ne =
      same-chunk (width columns) c words (set words (a * width columns + b / 64) (bit_or w (2 ^ (b % 64)))) (length-set words (a * width columns + b / 64) (bit_or w (2 ^ (b % 64))))
      (λ k h. get_or-set_other words (a * width columns + b / 64) (c * width columns + k) (bit_or w (2 ^ (b % 64))) 0 (λ same. ne (same_from_place c k a (b / 64) (width columns) h below same).0))

  tidy-set : IsTidy columns (chunk (width columns) a (set words (a * width columns + b / 64) (bit_or w (2 ^ (b % 64)))))
  tidy-set = subst (IsTidy columns) (sym set-chunk) (with_bit-tidy columns (chunk (width columns) a words) b (stored.tidy a line) (inside-row rows columns words xs stored e a b ha hb))

  pub set-stored : IsStored rows columns (set words (a * width columns + b / 64) (bit_or w (2 ^ (b % 64))))
  set-stored = stored-with rows columns words xs stored e a (set words (a * width columns + b / 64) (bit_or w (2 ^ (b % 64)))) line (length-set words (a * width columns + b / 64) (bit_or w (2 ^ (b % 64)))) tidy-set others-same

  set-table : table rows columns (set words (a * width columns + b / 64) (bit_or w (2 ^ (b % 64)))) ≡ set xs a (set (get_or xs a []) b true)
  set-table =
      table-with rows columns words xs stored e a (set words (a * width columns + b / 64) (bit_or w (2 ^ (b % 64)))) line (length-set words (a * width columns + b / 64) (bit_or w (2 ^ (b % 64)))) tidy-set others-same
      ∙ ap (set xs a) (ap (flags columns) set-chunk
      ∙ with_bit-flags columns (chunk (width columns) a words) (get_or xs a []) b (stored.tidy a line) (sym (row rows columns words xs stored e a line)) (inside-row rows columns words xs stored e a b ha hb))

  swapped : (d : ℕ) → Has (set (get_or xs a []) b true) d ↔ (Has (get_or xs a []) d ⊎ (d ≡ b))
  swapped d = let iff = Has-set (get_or xs a []) b d hb in (
    λ has. elim (iff.0 has) [ inl new ↦ inr new | inr old ↦ inl old ],
    λ either. iff.1 (elim either [ inl old ↦ inr old | inr new ↦ inl new ]),
  )

  pub set-gains : Gains xs (table rows columns (set words (a * width columns + b / 64) (bit_or w (2 ^ (b % 64))))) (λ c d. (c ≡ a) × (d ≡ b))
  set-gains =
      subst (λ (t : List (List Bool)). Gains xs t (λ c d. (c ≡ a) × (d ≡ b))) (sym set-table)
      (row-gains xs a (set (get_or xs a []) b true) (λ d. d ≡ b) ha swapped)

  pub set-keeps : KeepsShape xs (table rows columns (set words (a * width columns + b / 64) (bit_or w (2 ^ (b % 64)))))
  set-keeps =
      subst (λ (t : List (List Bool)). KeepsShape xs t) (sym set-table)
      (row-keeps xs a (set (get_or xs a []) b true) ha (length-set (get_or xs a []) b true))

  pub set-changed : IsTrue (not (bit_or w (2 ^ (b % 64)) == w)) ↔ Lacks (get_or xs a []) b
  set-changed =
      lacks-iff (not (bit_or w (2 ^ (b % 64)) == w)) (get_or (get_or xs a []) b false)
      (set-changes columns (chunk (width columns) a words) (get_or xs a []) b w (stored.tidy a line) (sym (row rows columns words xs stored e a line)) (inside-row rows columns words xs stored e a b ha hb) read-word)
