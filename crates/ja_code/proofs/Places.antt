-- The targets of a table of offsets, one after the other.
use Rattle.std.proofs.Common.{◌≡◌, ℕ, suc, ◌+◌, ◌-◌, ◌<◌, List, [], ◌∷◌, ◌++◌, ◌∙◌, append_assoc, arith}
use Rattle.ja_code.specs.Bytes.{far, u4_at, places}

-- one more target
pub places_more : (front : List ℕ) (pc : ℕ) (bytes : List ℕ) (stride place counter count : ℕ) (total : List ℕ) → counter < count
    → front ++ places pc bytes stride place (count - counter) ≡ total
    → (front ++ far pc (u4_at bytes place) ∷ []) ++ places pc bytes stride (place + stride) (count - (counter + 1)) ≡ total
places_more front pc bytes stride place counter count total below so_far =
    let k : count - counter ≡ suc (count - (counter + 1)) = omega arith in
    let opened : front ++ places pc bytes stride place (suc (count - (counter + 1))) ≡ total = rw k at so_far in
    append_assoc front (far pc (u4_at bytes place) ∷ []) (places pc bytes stride (place + stride) (count - (counter + 1))) ∙ opened
