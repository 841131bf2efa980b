-- Words that are numbers in decimal digits.
use Rattle.std.proofs.Common.{◌≡◌, ◌≢◌, ℕ, zero, suc, ◌<◌, ◌^◌, List, [], ◌∷◌, length, get_or, Result, Ok, Err, refl, ap, sym, ◌∙◌, subst, lit<, arith}
use Rattle.std.specs.Fmt.{decimal}
use Rattle.std.specs.Prelude.{IsUtf8}
use Rattle.std.specs.Result.{OkIff}
use Rattle.std.specs.Str.Parse.{AllDigits, digits_value, ParsesUnsigned}
use Rattle.std.proofs.lemmas.Fmt.{decimal_digit, decimal_injective, decimal_nonempty, decimal-digits_value, first_decimal, parse-decimal, IsAscii-decimal}
use Rattle.std.proofs.lemmas.Str.{IsUtf8-from_ascii}
use Rattle.std.proofs.lemmas.Str.Parse.{IsNumeralModel, numerals_by_value, parse_plain, tells_digits}
use Rattle.ja_words.specs.Numbers.{IsGiven, not_given, given, IsNumberIn}

own : IsNumeralModel (AllDigits 10) (digits_value 10)
own = numerals_by_value (AllDigits 10) tells_digits

-- bytes without a sign or a zero in front, which are read as a number, are its decimal digits
pub read_digits : {E : Type 0} (bs : List ℕ) (r : Result ℕ E) (n : ℕ) → 0 < length bs → get_or bs 0 0 ≢ 43 → (get_or bs 0 0 ≡ 48 → length bs ≡ 1)
    → ParsesUnsigned 64 10 bs r → r ≡ Ok n → bs ≡ decimal n
read_digits {E} bs r n some plus front parses is =
    let ok : OkIff r (AllDigits 10 bs × (0 < length bs) × (digits_value 10 bs < 2 ^ 64)) (digits_value 10 bs) = parse_plain own 64 bs r parses plus in
    let P : Result ℕ E → Type 0 = λ x. OkIff x (AllDigits 10 bs × (0 < length bs) × (digits_value 10 bs < 2 ^ 64)) (digits_value 10 bs) in
    let facts = subst P is ok in
    sym (decimal-digits_value own bs facts.0.0 some front facts.0.2) ∙ ap decimal (sym facts.1)

-- bytes that are not read as a number are no decimal digits
pub no_digits : {E : Type 0} (bs : List ℕ) (r : Result ℕ E) (e : E) → ParsesUnsigned 64 10 bs r → r ≡ Err e → (n : ℕ) → n < 2 ^ 64 → bs ≢ decimal n
no_digits bs r e parses is n small spelled =
    let ok : r ≡ Ok n = parse-decimal 64 n bs r small small spelled parses in
    cc

-- decimal digits have neither a sign nor a zero in front, but for `0` itself
pub digits_begin : (n : ℕ) → n < 2 ^ 64 → (0 < length (decimal n)) × (get_or (decimal n) 0 0 ≢ 43) × (get_or (decimal n) 0 0 ≡ 48 → length (decimal n) ≡ 1)
digits_begin zero small =
    let is : decimal 0 ≡ 48 ∷ [] = decimal_digit 0 (lit< tt) in
    rw is (lit< tt, λ e. absurd (omega arith), λ _. refl)
digits_begin (suc n) small =
    let first : 48 < get_or (decimal (suc n)) 0 0 = first_decimal (suc n) (omega arith) small in
    (decimal_nonempty (suc n) small, λ e. absurd (omega arith), λ e. absurd (omega arith))

-- bytes that begin otherwise are no decimal digits
pub begins_otherwise : (bs : List ℕ) → ((0 < length bs) × (get_or bs 0 0 ≢ 43) × (get_or bs 0 0 ≡ 48 → length bs ≡ 1) → ⊥) → (n : ℕ) → n < 2 ^ 64 → bs ≢ decimal n
begins_otherwise bs other n small is = other (rw is (digits_begin n small))

-- decimal digits are a text
pub digits_are_text : (n : ℕ) → n < 2 ^ 64 → IsUtf8 (decimal n)
digits_are_text n small = IsUtf8-from_ascii _ (IsAscii-decimal n small)

-- an option gives one number
pub one_given : (otherwise least most : ℕ) (values others : List (List ℕ)) (a b : ℕ) → most < 2 ^ 64 → values ≡ others → IsGiven otherwise least most values a
    → IsGiven otherwise least most others b → a ≡ b
one_given otherwise least most values others _ _ small same (not_given none) (not_given none_of_others) = refl
one_given otherwise least most values others _ b small same (not_given none) (given value number one is) = cc
one_given otherwise least most values others a _ small same (given value number one is) (not_given none) = cc
one_given otherwise least most values others a b small same (given value _ one is) (given other _ one_of_others other_is) =
    let one_value : value ≡ other = cc in
    decimal_injective a b (omega (arith, is.high)) (omega (arith, other_is.high)) (sym is.spelled ∙ one_value ∙ other_is.spelled)

-- a word spells one number
pub one_number : (least most : ℕ) (word other : List ℕ) (a b : ℕ) → most < 2 ^ 64 → word ≡ other → IsNumberIn least most word a → IsNumberIn least most other b → a ≡ b
one_number least most word other a b small same is other_is =
    decimal_injective a b (omega (arith, is.high)) (omega (arith, other_is.high)) (sym is.spelled ∙ same ∙ other_is.spelled)
