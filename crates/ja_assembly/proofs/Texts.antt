-- The texts that each listed class may ask for: the names of the attribute of code and of a constructor, and its descriptor.
use Rattle.std.proofs.Common.{ℕ, ◌<◌, ◌≤◌, inl, inr, List, [], ◌∷◌, length, None, refl, ap, arith}
use Rattle.std.specs.Prelude.{codes}
use Rattle.std.specs.List.{AllByRecursion}
use Rattle.ja_bytes.specs.Text.{IsModifiedUtf8}
use Rattle.ja_bytes.specs.DescriptorText.{IsMethodText}
use Rattle.ja_assembly.specs.Unwritable.{IsNoText}

-- bytes of ASCII, each a character
ascii : (bytes : List ℕ) → AllByRecursion (λ b. (1 ≤ b) × (b < 128)) bytes → IsModifiedUtf8 bytes
ascii [] h = record { characters = []; each = tt; parts = refl }
ascii (b ∷ bytes) h =
    let rest = ascii bytes h.1 in
    record { characters = (b ∷ []) ∷ rest.characters; each = (h.0, rest.each); parts = ap (λ (t : List ℕ). b ∷ t) rest.parts }

text : (bytes : List ℕ) → length bytes ≤ 65535 → AllByRecursion (λ b. (1 ≤ b) × (b < 128)) bytes → IsNoText bytes → ⊥
text bytes short plain (inl long) = omega (arith, short, long)
text bytes short plain (inr wrong) = wrong (ascii bytes plain)

letter : (b : ℕ) → 1 ≤ b → b < 128 → (1 ≤ b) × (b < 128)
letter b some few = (some, few)

pub code_text : IsNoText (codes "Code") → ⊥
code_text = text (codes "Code") (omega arith)
    (letter 67 (omega arith) (omega arith), (letter 111 (omega arith) (omega arith), (letter 100 (omega arith) (omega arith), (letter 101 (omega arith) (omega arith), tt))))

pub constructor_text : IsNoText (codes "<init>") → ⊥
constructor_text = text (codes "<init>") (omega arith)
    (letter 60 (omega arith) (omega arith), (letter 105 (omega arith) (omega arith), (letter 110 (omega arith) (omega arith), (letter 105 (omega arith) (omega arith), (letter 116 (omega arith) (omega arith), (letter 62 (omega arith) (omega arith), tt))))))

pub no_parameters_text : IsNoText (codes "()V") → ⊥
no_parameters_text = text (codes "()V") (omega arith)
    (letter 40 (omega arith) (omega arith), (letter 41 (omega arith) (omega arith), (letter 86 (omega arith) (omega arith), tt)))

pub no_parameters : IsMethodText (codes "()V")
no_parameters = record { params = []; result = None; method = record { inner = []; last = 86 ∷ []; parts = refl; fields = refl; most = omega arith; ends = refl } }
