-- Fronts of a text that are written one after another.
use Rattle.std.proofs.Common.{◌≡◌, ℕ, zero, suc, ◌+◌, ◌-◌, ◌≤◌, List, [], ◌∷◌, ◌++◌, length, take, drop, refl, ap, sym, ◌∙◌, arith}
use Rattle.std.proofs.lemmas.List.{take_rest, length-take-le, take-append-drop}
use Rattle.std.proofs.Math.Seq.{take-append-add}

-- a longer front is a shorter one and the front of the rest
pub take_more_front : (at n : ℕ) (text : List ℕ) → at ≤ length text → take (at + n) text ≡ take at text ++ take n (drop at text)
take_more_front at n text h =
    ap (λ (k : ℕ). take (k + n) text) (sym (length-take-le at text h))
    ∙ ap (take (length (take at text) + n)) (sym (take-append-drop at text))
    ∙ take-append-add (take at text) (drop at text) n

-- a front as long as the whole is the whole
pub take_all : (n : ℕ) (xs : List ℕ) → length xs ≤ n → take n xs ≡ xs
take_all zero [] h = refl
take_all zero (x ∷ xs) h = absurd (omega arith)
take_all (suc n) [] h = refl
take_all (suc n) (x ∷ xs) h = ap (λ (rest : List ℕ). x ∷ rest) (take_all n xs (omega arith))
