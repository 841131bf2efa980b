-- Numbers, in decimal digits.
use Rattle.std.specs.Prelude.{ℕ, ◌+◌, ◌-◌, ◌*◌, Bool, true, false, List, [], ◌∷◌, length, drop, slice_index, Option, Some, None, min, nat_le, nat_lt, ◌==◌, ◌&&◌, bit_and, if◌then◌else◌}
use Rattle.std.specs.List.{list_all}
use Rattle.ja_base.specs.AccessFlags.{acc_native, acc_abstract}
use Rattle.ja_listing.specs.declared.number.Number.{Number}

-- `0` to `9`
abbrev pub is_digit : ℕ → Bool
is_digit b = nat_le 48 b && nat_le b 57

-- the number that digits behind a number spell together with it
unfoldable pub decimal : ℕ → List ℕ → ℕ
decimal front [] = front
decimal front (b ∷ digits) = decimal (10 * front + (b - 48)) digits

-- a number of this size; no field of a class file has one from 2 ^ 32 - 1 on, which are all held alike
abbrev pub sized : Bool → ℕ → Number
sized negative size = record { negative = negative; size = min size 4294967295 }

-- whether bytes are digits
abbrev pub are_digits : List ℕ → Bool
are_digits bytes = list_all is_digit bytes

-- the number that one digit or more spell
abbrev pub size_of : Bool → List ℕ → Option Number
size_of negative digits = if nat_lt 0 (length digits) && are_digits digits then Some (sized negative (decimal 0 digits)) else None

-- whether a word begins with `-`
abbrev pub has_sign : List ℕ → Bool
has_sign word = nat_lt 0 (length word) && (slice_index word 0 == 45)

-- the number that a word spells: digits, and before them `-` or not
unfoldable pub number_of : List ℕ → Option Number
number_of word = if has_sign word then size_of true (drop 1 word) else size_of false word

-- whether a method with these flags has code: it is neither abstract nor native (JVM specification 4.6 and 4.7.3)
abbrev pub has_code : Number → Bool
has_code flags = bit_and flags.size (acc_abstract + acc_native) == 0
