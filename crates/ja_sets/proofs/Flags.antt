-- The bits of words.
use Rattle.std.proofs.Common.{◌≡◌, ◌≢◌, ℕ, zero, suc, ◌+◌, ◌*◌, ◌/◌, ◌%◌, ◌^◌, ◌<◌, ◌⊎◌, Bool, true, false, ◌||◌, ◌==◌, List, ◌++◌, take, subst, Decides, bytes_eq, length, get_or, set, replicate, max, not, IsTrue, ◌↔◌, bit_and, refl, ap, sym, ◌∙◌, inl, inr, arith, bit_or}
use Rattle.std.specs.Int.{bit_at}
use Rattle.std.proofs.lemmas.Nat.{div-mul-add, mod-mul-add, div-add-mod', or_lt, pow_below, pow_pos, one_shl}
use Rattle.std.proofs.lemmas.Nat.Bits.{bit_at-zero, bit_at_or, bit_at-pow_same, bit_at-pow_other, bit_at-lt, shr_and_one, same_from_bits_below, same_from_bits}
use Rattle.std.proofs.lemmas.List.{ext_get_or, get_or-set_same, get_or-set_other, get_or-replicate, get_or_past, get_or_default}
use Rattle.std.proofs.Math.ListN.{length-set, length-replicate}
use Rattle.std.proofs.lemmas.Slice.Eq.{bytes_eq-Decides}
use Rattle.std.proofs.Math.Seq.{take-append_seam}
use Rattle.std.proofs.lemmas.Bool.{cases_eq, cases_lt, eq-eqb, ne_eqb}
use Rattle.ja_sets.specs.Sets.{union, Adds}
use Rattle.ja_sets.specs.InnerWords.{flags, bit_of, IsTidy, JoinsWords, GainsBits}
use Rattle.ja_sets.proofs.Values.{length-values_from, values_from-at, length-union, union-at, adds_or_not}

pub length-flags : (len : ℕ) (words : List ℕ) → length (flags len words) ≡ len
unfolding flags
length-flags len words = length-values_from _ 0 len

pub flags-at : (len : ℕ) (words : List ℕ) (i : ℕ) → i < len → get_or (flags len words) i false ≡ (bit_of words i == 1)
unfolding flags
flags-at len words i h = values_from-at (λ k. bit_of words k == 1) 0 len i h ∙ ap (λ k. bit_of words k == 1) (omega arith)

pub flags-from : (len : ℕ) (words : List ℕ) (xs : List Bool) → length xs ≡ len → ((i : ℕ) → i < len → get_or xs i false ≡ (bit_of words i == 1)) → flags len words ≡ xs
flags-from len words xs h each =
    ext_get_or false (flags len words) xs (length-flags len words ∙ sym h)
    (λ i room. let below : i < len = omega (arith, length-flags len words, room) in flags-at len words i below ∙ sym (each i below))

-- no bit is set in zeros
pub bit_of-zeros : (count i : ℕ) → bit_of (replicate count 0) i ≡ 0
bit_of-zeros count i =
    let zeros : get_or (replicate count 0) (i / 64) 0 ≡ 0 =
    elim (cases_lt (i / 64) count) [ inl h ↦ get_or-replicate count (i / 64) 0 0 h | inr h ↦ get_or_past (replicate count 0) (i / 64) 0 (omega (arith, length-replicate {A = ℕ} count 0, h)) ] in
    ap (λ w. bit_at w (i % 64)) zeros ∙ bit_at-zero (i % 64)

pub flags-zeros : (len count : ℕ) → flags len (replicate count 0) ≡ replicate len false
flags-zeros len count =
    flags-from len (replicate count 0) (replicate len false) (length-replicate len false)
    (λ i h. get_or-replicate len i false false h ∙ sym (ap (λ b. b == 1) (bit_of-zeros count i)))

-- the place of a bit in the words
pub place-of : (k j : ℕ) → j < 64 → ((k * 64 + j) / 64 ≡ k) × ((k * 64 + j) % 64 ≡ j)
place-of k j h = (div-mul-add k 64 j h, mod-mul-add k 64 j h)

-- words with the same bits are equal
pub same-words : (xs ys : List ℕ) → length xs ≡ length ys → ((k : ℕ) → get_or xs k 0 < 2 ^ 64) → ((k : ℕ) → get_or ys k 0 < 2 ^ 64) → ((i : ℕ) → bit_of xs i ≡ bit_of ys i) → xs ≡ ys
same-words xs ys h fx fy each =
    ext_get_or 0 xs ys h
    (λ k room. same_from_bits_below 64 (get_or xs k 0) (get_or ys k 0) (fx k) (fy k)
    (λ j below. let p = place-of k j below in
    let e : bit_of xs (k * 64 + j) ≡ bit_of ys (k * 64 + j) = each (k * 64 + j) in
    rw (p.0, p.1) at e))

bit_cases : (b : ℕ) → b < 2 → (b ≡ 0) ⊎ (b ≡ 1)
bit_cases zero h = inl refl
bit_cases (suc zero) h = inr refl
bit_cases (suc (suc b)) h = absurd (omega arith)

-- two bits that pass the same test for 1 are equal
same-bit : (a b : ℕ) → a < 2 → b < 2 → (a == 1) ≡ (b == 1) → a ≡ b
same-bit a b ha hb e =
    elim (bit_cases a ha) [
      | inl x ↦ elim (bit_cases b hb) [ inl y ↦ x ∙ sym y | inr y ↦ absurd (let f : (0 == 1) ≡ (1 == 1) = ap (λ v. v == 1) (sym x) ∙ e ∙ ap (λ v. v == 1) y in cc f) ]
      | inr x ↦ elim (bit_cases b hb) [ inl y ↦ absurd (let f : (1 == 1) ≡ (0 == 1) = ap (λ v. v == 1) (sym x) ∙ e ∙ ap (λ v. v == 1) y in cc f) | inr y ↦ x ∙ sym y ]
    ]

-- tidy words are settled by their flags
pub same-flags : (len : ℕ) (xs ys : List ℕ) → IsTidy len xs → IsTidy len ys → flags len xs ≡ flags len ys → xs ≡ ys
same-flags len xs ys tx ty e =
    same-words xs ys (tx.enough ∙ sym ty.enough) tx.fits ty.fits
    (λ i. elim (cases_lt i len) [
      | inl h ↦ same-bit (bit_of xs i) (bit_of ys i) (bit_at-lt (get_or xs (i / 64) 0) (i % 64)) (bit_at-lt (get_or ys (i / 64) 0) (i % 64))
          (sym (flags-at len xs i h) ∙ ap (λ (zs : List Bool). get_or zs i false) e ∙ flags-at len ys i h)
      | inr h ↦ tx.clear i h ∙ sym (ty.clear i h)
    ])

-- the words with one bit set
abbrev pub with_bit : List ℕ → ℕ → List ℕ
with_bit words at = set words (at / 64) (bit_or (get_or words (at / 64) 0) (2 ^ (at % 64)))

max-one : (b : ℕ) → b < 2 → max b 1 ≡ 1
max-one b h = omega arith

max-zero : (b : ℕ) → max b 0 ≡ b
max-zero b = omega arith

pub with_bit-same : (words : List ℕ) (at : ℕ) → at / 64 < length words → bit_of (with_bit words at) at ≡ 1
with_bit-same words at h =
    ap (λ w. bit_at w (at % 64)) (get_or-set_same words (at / 64) (bit_or (get_or words (at / 64) 0) (2 ^ (at % 64))) 0 h)
    ∙ bit_at_or (get_or words (at / 64) 0) (2 ^ (at % 64)) (at % 64)
    ∙ ap (λ b. max (bit_at (get_or words (at / 64) 0) (at % 64)) b) (bit_at-pow_same (at % 64))
    ∙ max-one (bit_at (get_or words (at / 64) 0) (at % 64)) (bit_at-lt (get_or words (at / 64) 0) (at % 64))

pub with_bit-other : (words : List ℕ) (at i : ℕ) → at / 64 < length words → i ≢ at → bit_of (with_bit words at) i ≡ bit_of words i
with_bit-other words at i h ne =
    elim (cases_eq (i / 64) (at / 64)) [
      | inl e ↦
          let other : i % 64 ≢ at % 64 = λ same. ne (sym (div-add-mod' i 64) ∙ ap (λ q. q * 64 + i % 64) e ∙ ap (λ r. at / 64 * 64 + r) same ∙ div-add-mod' at 64) in
          ap (λ q. bit_at (get_or (set words (at / 64) (bit_or (get_or words (at / 64) 0) (2 ^ (at % 64)))) q 0) (i % 64)) e
          ∙ ap (λ w. bit_at w (i % 64)) (get_or-set_same words (at / 64) (bit_or (get_or words (at / 64) 0) (2 ^ (at % 64))) 0 h)
          ∙ bit_at_or (get_or words (at / 64) 0) (2 ^ (at % 64)) (i % 64)
          ∙ ap (λ b. max (bit_at (get_or words (at / 64) 0) (i % 64)) b) (bit_at-pow_other (at % 64) (i % 64) other)
          ∙ max-zero (bit_at (get_or words (at / 64) 0) (i % 64))
          ∙ ap (λ q. bit_at (get_or words q 0) (i % 64)) (sym e)
      | inr e ↦ ap (λ w. bit_at w (i % 64)) (get_or-set_other words (at / 64) (i / 64) (bit_or (get_or words (at / 64) 0) (2 ^ (at % 64))) 0 e)
    ]

-- the word of a bit is there
pub word-there : (len count at : ℕ) → count ≡ (len + 63) / 64 → at < len → at / 64 < count
word-there len count at enough h = omega arith

-- what is known of a word read by a bit's place
pub word-read : (words : List ℕ) (place w : ℕ) → place < length words → w ≡ get_or words place w → w ≡ get_or words place 0
word-read words place w h e = e ∙ get_or_default words place w 0 h

-- a list of bits has as many as it says
pub len-is : (len : ℕ) (words : List ℕ) (xs : List Bool) → flags len words ≡ xs → length xs ≡ len
len-is len words xs e = ap length (sym e) ∙ length-flags len words

pub shift-read : (len : ℕ) (words : List ℕ) (xs : List Bool) (at w : ℕ) → IsTidy len words → flags len words ≡ xs → at < length xs → w ≡ get_or words (at / 64) w → (bit_and (w / 2 ^ (at % 64)) 1 == 1) ≡ get_or xs at false
shift-read len words xs at w tidy e h read =
    let below : at < len = omega (arith, h, len-is len words xs e) in
    let there : at / 64 < length words = word-there len (length words) at tidy.enough below in
    ap (λ b. b == 1) (shr_and_one w (at % 64) ∙ ap (λ v. bit_at v (at % 64)) (word-read words (at / 64) w there read))
    ∙ sym (flags-at len words at below) ∙ ap (λ (ys : List Bool). get_or ys at false) e

-- the code's shifted one
pub one-bit : (at : ℕ) → (1 * 2 ^ (at % 64)) % 2 ^ 64 ≡ 2 ^ (at % 64)
one-bit at = one_shl (at % 64) 64 (omega arith)

fits-or : (w at : ℕ) → w < 2 ^ 64 → bit_or w (2 ^ (at % 64)) < 2 ^ 64
fits-or w at h = or_lt 64 w (2 ^ (at % 64)) h (pow_below (at % 64) 64 (omega arith))

fits-set : (words : List ℕ) (place w : ℕ) → ((k : ℕ) → get_or words k 0 < 2 ^ 64) → w < 2 ^ 64 → (k : ℕ) → get_or (set words place w) k 0 < 2 ^ 64
fits-set words place w fits h k =
    elim (cases_eq k place) [
      | inl e ↦ elim (cases_lt place (length words)) [
        | inl there ↦ rw e (rw (get_or-set_same words place w 0 there) h)
        | inr past ↦ rw (get_or_past (set words place w) k 0 (omega (arith, length-set words place w))) (pow_pos 64)
      ]
      | inr ne ↦ rw (get_or-set_other words place k w 0 ne) (fits k)
    ]

pub with_bit-tidy : (len : ℕ) (words : List ℕ) (at : ℕ) → IsTidy len words → at < len → IsTidy len (with_bit words at)
with_bit-tidy len words at tidy h = record {
  bound = tidy.bound;
  enough = length-set words (at / 64) (bit_or (get_or words (at / 64) 0) (2 ^ (at % 64))) ∙ tidy.enough;
  fits = fits-set words (at / 64) (bit_or (get_or words (at / 64) 0) (2 ^ (at % 64))) tidy.fits (fits-or (get_or words (at / 64) 0) at (tidy.fits (at / 64)));
  clear = λ i past. with_bit-other words at i (word-there len (length words) at tidy.enough h) (omega arith) ∙ tidy.clear i past;
}

pub with_bit-flags : (len : ℕ) (words : List ℕ) (xs : List Bool) (at : ℕ) → IsTidy len words → flags len words ≡ xs → at < len → flags len (with_bit words at) ≡ set xs at true
with_bit-flags len words xs at tidy e h =
    let there : at / 64 < length words = word-there len (length words) at tidy.enough h in
    let size : length xs ≡ len = len-is len words xs e in
    flags-from len (with_bit words at) (set xs at true) (length-set xs at true ∙ size)
    (λ i below. elim (cases_eq i at) [
      | inl same ↦ rw same (get_or-set_same xs at true false (omega arith) ∙ sym (ap (λ b. b == 1) (with_bit-same words at there)))
      | inr ne ↦ get_or-set_other xs at i true false ne ∙ ap (λ (ys : List Bool). get_or ys i false) (sym e) ∙ flags-at len words i below ∙ sym (ap (λ b. b == 1) (with_bit-other words at i there ne))
    ])

-- two tests of which each holds where the other does
same-tests : (a b p q : ℕ) → (a ≡ b → p ≡ q) → (p ≡ q → a ≡ b) → (a == b) ≡ (p == q)
same-tests a b p q to back =
    elim (cases_eq a b) [
      | inl e ↦ eq-eqb a b e ∙ sym (eq-eqb p q (to e))
      | inr ne ↦ ne_eqb a b ne ∙ sym (ne_eqb p q (λ e. ne (back e)))
    ]

-- the word changes exactly where its bit was not set
word-changes : (w k : ℕ) → (bit_or w (2 ^ k) ≡ w → bit_at w k ≡ 1) × (bit_at w k ≡ 1 → bit_or w (2 ^ k) ≡ w)
word-changes w k = (
  λ same. sym (ap (λ v. bit_at v k) same) ∙ bit_at_or w (2 ^ k) k ∙ ap (λ b. max (bit_at w k) b) (bit_at-pow_same k) ∙ max-one (bit_at w k) (bit_at-lt w k),
  λ set-before. same_from_bits (bit_or w (2 ^ k)) w (λ i. bit_at_or w (2 ^ k) i ∙
      elim (cases_eq i k) [
        | inl e ↦ ap (λ j. max (bit_at w j) (bit_at (2 ^ k) j)) e ∙ ap (λ b. max (bit_at w k) b) (bit_at-pow_same k) ∙ max-one (bit_at w k) (bit_at-lt w k) ∙ sym set-before ∙ ap (bit_at w) (sym e)
        | inr ne ↦ ap (λ b. max (bit_at w i) b) (bit_at-pow_other k i ne) ∙ max-zero (bit_at w i)
      ]),
)

-- whether the word changes
pub set-changes : (len : ℕ) (words : List ℕ) (xs : List Bool) (at w : ℕ) → IsTidy len words → flags len words ≡ xs → at < len → w ≡ get_or words (at / 64) 0 → not (bit_or w (2 ^ (at % 64)) == w) ≡ not (get_or xs at false)
set-changes len words xs at w tidy e h read =
    let bit : get_or xs at false ≡ (bit_at w (at % 64) == 1) =
    ap (λ (ys : List Bool). get_or ys at false) (sym e) ∙ flags-at len words at h ∙ ap (λ v. bit_at v (at % 64) == 1) (sym read) in
    let both : (bit_or w (2 ^ (at % 64)) ≡ w → bit_at w (at % 64) ≡ 1) × (bit_at w (at % 64) ≡ 1 → bit_or w (2 ^ (at % 64)) ≡ w) = word-changes w (at % 64) in
    ap not (same-tests (bit_or w (2 ^ (at % 64))) w (bit_at w (at % 64)) 1 both.0 both.1 ∙ sym bit)

-- a test that is the negation of a member's value says that the member is lacking
pub lacks-iff : (test member : Bool) → test ≡ not member → IsTrue test ↔ (member ≡ false)
lacks-iff test true e = (λ t. absurd (cc (t, e)), λ f. absurd (cc f))
lacks-iff test false e = (λ t. refl, λ f. e)

-- ---- joined words

pub joined-bit : (old others new : List ℕ) (i : ℕ) → length old ≡ length others → JoinsWords old others new → bit_of new i ≡ max (bit_of old i) (bit_of others i)
joined-bit old others new i h joins =
    elim (cases_lt (i / 64) (length old)) [
      | inl room ↦ ap (λ w. bit_at w (i % 64)) (joins.each (i / 64) room) ∙ bit_at_or (get_or old (i / 64) 0) (get_or others (i / 64) 0) (i % 64)
      | inr past ↦
          let new-past : get_or new (i / 64) 0 ≡ 0 = get_or_past new (i / 64) 0 (omega (arith, joins.same_length)) in
          let old-past : get_or old (i / 64) 0 ≡ 0 = get_or_past old (i / 64) 0 past in
          let others-past : get_or others (i / 64) 0 ≡ 0 = get_or_past others (i / 64) 0 (omega arith) in
          rw (new-past, old-past, others-past) (bit_at-zero (i % 64) ∙ sym (max-zero 0) ∙ ap (λ b. max b 0) (sym (bit_at-zero (i % 64))) ∙ ap (λ b. max (bit_at 0 (i % 64)) b) (sym (bit_at-zero (i % 64))))
    ]

pub joined-tidy : (len : ℕ) (old others new : List ℕ) → IsTidy len old → IsTidy len others → JoinsWords old others new → IsTidy len new
joined-tidy len old others new to tother joins = record {
  bound = to.bound;
  enough = joins.same_length ∙ to.enough;
  fits = λ k. elim (cases_lt k (length old)) [
    | inl room ↦ rw (joins.each k room) (or_lt 64 (get_or old k 0) (get_or others k 0) (to.fits k) (tother.fits k))
    | inr past ↦ rw (get_or_past new k 0 (omega (arith, joins.same_length))) (pow_pos 64)
  ];
  clear = λ i past. joined-bit old others new i (to.enough ∙ sym tother.enough) joins ∙ ap (λ b. max b (bit_of others i)) (to.clear i past) ∙ ap (max 0) (tother.clear i past) ∙ max-zero 0;
}

either-one : (a b : ℕ) → a < 2 → b < 2 → (max a b == 1) ≡ ((a == 1) || (b == 1))
either-one a b ha hb =
    elim (bit_cases a ha) [
      | inl x ↦ elim (bit_cases b hb) [ inl y ↦ rw (x, y) refl | inr y ↦ rw (x, y) refl ]
      | inr x ↦ elim (bit_cases b hb) [ inl y ↦ rw (x, y) refl | inr y ↦ rw (x, y) refl ]
    ]

pub joined-flags : (len : ℕ) (old others new : List ℕ) (xs ys : List Bool) → IsTidy len old → IsTidy len others → JoinsWords old others new → flags len old ≡ xs → flags len others ≡ ys → flags len new ≡ union xs ys
joined-flags len old others new xs ys to tother joins ex ey =
    let sizes : length xs ≡ length ys = len-is len old xs ex ∙ sym (len-is len others ys ey) in
    flags-from len new (union xs ys) (length-union xs ys sizes ∙ len-is len old xs ex)
    (λ i below.
    union-at xs ys i sizes
    ∙ ap (λ b. b || get_or ys i false) (ap (λ (zs : List Bool). get_or zs i false) (sym ex) ∙ flags-at len old i below)
    ∙ ap (λ b. (bit_of old i == 1) || b) (ap (λ (zs : List Bool). get_or zs i false) (sym ey) ∙ flags-at len others i below)
    ∙ sym (either-one (bit_of old i) (bit_of others i) (bit_at-lt (get_or old (i / 64) 0) (i % 64)) (bit_at-lt (get_or others (i / 64) 0) (i % 64)))
    ∙ ap (λ b. b == 1) (sym (joined-bit old others new i (to.enough ∙ sym tother.enough) joins)))

-- where the words changed, a number was added
pub joined-adds : (len : ℕ) (old others new : List ℕ) (xs ys : List Bool) → IsTidy len old → IsTidy len others → IsTidy len new → JoinsWords old others new → flags len old ≡ xs → flags len others ≡ ys → GainsBits old new → Adds ys xs
joined-adds len old others new xs ys to tother tnew joins ex ey gains =
    elim (adds_or_not ys xs (len-is len old xs ex ∙ sym (len-is len others ys ey))) [
      | inl adds ↦ adds
      | inr same ↦ absurd (gains.2 (ap (λ (ws : List ℕ). get_or ws gains.0 0) (same-flags len new old tnew to (joined-flags len old others new xs ys to tother joins ex ey ∙ same ∙ sym ex))))
    ]

-- two lists of bits are equal exactly where their words are
pub same-iff : (xlen ylen : ℕ) (xs ys : List ℕ) (ms ns : List Bool) (r : Bool) → IsTidy xlen xs → IsTidy ylen ys → flags xlen xs ≡ ms → flags ylen ys ≡ ns → length ms ≡ length ns → r ≡ bytes_eq xs ys → IsTrue r ↔ (ms ≡ ns)
same-iff xlen ylen xs ys ms ns r tx ty ex ey sizes e =
    let lens : ylen ≡ xlen = sym (len-is ylen ys ns ey) ∙ sym sizes ∙ len-is xlen xs ms ex in
    let test : Decides (bytes_eq xs ys) (xs ≡ ys) = bytes_eq-Decides xs ys in
    let ty' : IsTidy xlen ys = subst (λ (n : ℕ). IsTidy n ys) lens ty in
    let ey' : flags xlen ys ≡ ns = subst (λ (n : ℕ). flags n ys ≡ ns) lens ey in (
      λ t. sym ex ∙ ap (flags xlen) (test.0 (sym e ∙ t)) ∙ ey',
      λ same. e ∙ test.1 (same-flags xlen xs ys tx ty' (ex ∙ same ∙ sym ey')),
    )

-- what a vector holds after its whole slice was written
pub written : (count : ℕ) (new rest : List ℕ) → length new ≡ count → take count (new ++ rest) ≡ new
written count new rest h = ap (λ n. take n (new ++ rest)) (sym h) ∙ take-append_seam new rest
