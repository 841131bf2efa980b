-- Numbers and offsets that fit their fields, and the bytes that spell them.
use Rattle.std.proofs.Common.{◌≡◌, ℕ, ◌+◌, ◌-◌, ◌/◌, ◌%◌, ◌^◌, ◌<◌, ◌≤◌, inl, inr, Bool, true, false, arith}
use Rattle.std.proofs.lemmas.Nat.{from_be_bytes-to_be_bytes_2, from_be_bytes-to_be_bytes_4}
use Rattle.std.proofs.lemmas.Bool.{and_parts, cases_lt, ltb-true, lt-ltb, le-ltb}
use Rattle.ja_code.specs.Bytes.{u2, u4, near, far}
use Rattle.ja_listing.specs.declared.number.Number.{Number}
use Rattle.ja_assembly.specs.Members.{fits, fits_signed, unsigned}
use Rattle.ja_assembly.specs.Unwritable.{IsTooFar}
use Rattle.ja_assembly.specs.Assembled.{offset}

-- ---- numbers that bytes spell

pub number_2 : (n : ℕ) → n < 2 ^ 16 → u2 (n / 256 % 256) (n % 256) ≡ n
number_2 n h = omega (arith, from_be_bytes-to_be_bytes_2 n h)

pub number_4 : (n : ℕ) → n < 2 ^ 32 → u4 (n / 16777216 % 256) (n / 65536 % 256) (n / 256 % 256) (n % 256) ≡ n
number_4 n h = omega (arith, from_be_bytes-to_be_bytes_4 n h)

pub number_1 : (n : ℕ) → n < 256 → n % 256 ≡ n
number_1 n h = omega arith

-- ---- numbers that fit

pub size_fits : (bits : ℕ) (n : Number) → fits bits n ≡ true → n.size < 2 ^ bits
size_fits bits n h = ltb-true n.size (2 ^ bits) (and_parts _ _ h).0

unsigned_8 : (negative : Bool) (size : ℕ) → fits_signed 7 (record { negative = negative; size = size }) ≡ true → unsigned 8 (record { negative = negative; size = size }) < 256
unsigned_8 true size h = omega arith
unsigned_8 false size h = let below : size < 128 = ltb-true size 128 h in omega arith

pub unsigned_fits_8 : (n : Number) → fits_signed 7 n ≡ true → unsigned 8 n < 256
unsigned_fits_8 n h = unsigned_8 n.negative n.size h

unsigned_16 : (negative : Bool) (size : ℕ) → fits_signed 15 (record { negative = negative; size = size }) ≡ true → unsigned 16 (record { negative = negative; size = size }) < 2 ^ 16
unsigned_16 true size h = omega arith
unsigned_16 false size h = let below : size < 32768 = ltb-true size 32768 h in omega arith

pub unsigned_fits_16 : (n : Number) → fits_signed 15 n ≡ true → unsigned 16 n < 2 ^ 16
unsigned_fits_16 n h = unsigned_16 n.negative n.size h

-- ---- offsets

pub offset_16 : (pc place : ℕ) → offset 16 pc place < 2 ^ 16
offset_16 pc place = omega arith

pub offset_32 : (pc place : ℕ) → offset 32 pc place < 2 ^ 32
offset_32 pc place = omega arith

pub far_place : (pc place : ℕ) → pc < 2 ^ 16 → place < 2 ^ 16 → far pc (offset 32 pc place) ≡ place
far_place pc place p q = omega arith

module _ (pc place : ℕ) (p : pc < 2 ^ 16) (q : place < 2 ^ 16) where
  onward : pc ≤ place → place ≤ pc + 32767 → near pc (offset 16 pc place) ≡ place
  onward order reached =
      let is : offset 16 pc place ≡ place - pc = omega arith in
      rw (is, lt-ltb (place - pc) 32768 (omega arith)) (omega arith)

  backward : place < pc → pc ≤ place + 32768 → near pc (offset 16 pc place) ≡ place
  backward order reached =
      let is : offset 16 pc place ≡ 65536 + place - pc = omega arith in
      rw (is, le-ltb (65536 + place - pc) 32768 (omega arith)) (omega arith)

  pub near_place : (IsTooFar pc place → ⊥) → near pc (offset 16 pc place) ≡ place
  near_place reached = elim (cases_lt place pc) [
    | inl before ↦ elim (cases_lt (place + 32768) pc) [ inl far ↦ absurd (reached (inr far)) | inr close ↦ backward before close ]
    | inr behind ↦ elim (cases_lt (pc + 32767) place) [ inl far ↦ absurd (reached (inl far)) | inr close ↦ onward behind close ]
  ]
