-- Texts of ASCII can be written.
use Rattle.std.proofs.Common.{◌≡◌, ℕ, ◌%◌, ◌<◌, ◌≤◌, inl, inr, Bool, true, ◌&&◌, List, [], ◌∷◌, length, refl, ap, arith, nat_le, nat_lt, leb-true, ltb-true, lit≤}
use Rattle.std.specs.List.{AllByRecursion}
use Rattle.std.proofs.lemmas.Bool.{and_parts}
use Rattle.ja_bytes.specs.Text.{IsModifiedUtf8}
use Rattle.ja_assembly.specs.Unwritable.{IsNoText}
use Rattle.ja_generator.specs.Drawn.{digit, class_name}

abbrev IsAscii : ℕ → Type 0
IsAscii b = (1 ≤ b) × (b < 128)

abbrev are_ascii : List ℕ → Bool
are_ascii [] = true
are_ascii (b ∷ bytes) = (nat_le 1 b && nat_lt b 128) && are_ascii bytes

utf8 : (bytes : List ℕ) → AllByRecursion IsAscii bytes → IsModifiedUtf8 bytes
utf8 [] h = record { characters = []; each = tt; parts = refl }
utf8 (b ∷ bytes) h =
    let rest = utf8 bytes h.1 in
    record { characters = (b ∷ []) ∷ rest.characters; each = (h.0, rest.each); parts = ap (λ (t : List ℕ). b ∷ t) rest.parts }

ascii : (bytes : List ℕ) → are_ascii bytes ≡ true → AllByRecursion IsAscii bytes
ascii [] h = tt
ascii (b ∷ bytes) h =
    let p = and_parts (nat_le 1 b && nat_lt b 128) (are_ascii bytes) h in
    let q = and_parts (nat_le 1 b) (nat_lt b 128) p.0 in
    ((leb-true 1 b q.0, ltb-true b 128 q.1), ascii bytes p.1)

text : (bytes : List ℕ) → length bytes ≤ 65535 → AllByRecursion IsAscii bytes → IsNoText bytes → ⊥
text bytes short plain (inl long) = omega (arith, short, long)
text bytes short plain (inr wrong) = wrong (utf8 bytes plain)

-- a text that is written out
pub literal : (bytes : List ℕ) → are_ascii bytes ≡ true → length bytes ≤ 65535 → IsNoText bytes → ⊥
literal bytes plain short = text bytes short (ascii bytes plain)

digit-is : (n : ℕ) → IsAscii (digit n)
digit-is n = let below : n % 10 < 10 = omega arith in (omega (arith, below), omega (arith, below))

-- the name of a class
pub class_name-text : (i : ℕ) → IsNoText (class_name i) → ⊥
class_name-text i = text (class_name i) (lit≤ tt) ((lit≤ tt, omega arith), (digit-is _, (digit-is _, (digit-is _, (digit-is _, tt)))))
