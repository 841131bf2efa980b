use Rattle.std.proofs.Common.{◌≡◌, ◌∷◌, ◌++◌, [], length, map, ℕ, List, refl, ap, sym, ◌∙◌, ◌<◌, ◌≤◌, suc, zero, slice_index_or, arith}
use Rattle.ja_methods.specs.Places.{index_of, following}
use Rattle.ja_methods.proofs.next.successors.Goals as goal

-- a list of one is its first
one : (xs : List ℕ) (d : ℕ) → 1 ≤ length xs → length xs < 2 → slice_index_or xs 0 d ∷ [] ≡ xs
one [] d least below = absurd (omega arith)
one (x ∷ []) d least below = refl
one (x ∷ y ∷ xs) d least below = absurd (omega arith)

pub returns-in-len1 : goal.returns-in-len1
returns-in-len1 c = c.branching.ensures ∙ ap (λ (t : ℕ). (t ∷ []) ++ following c.args.goes c.args.k (length c.args.instrs.now)) c.index_of-target.ensures.at ∙ ap (λ (xs : List ℕ). map (index_of c.args.instrs.now) xs ++ following c.args.goes c.args.k (length c.args.instrs.now)) (one c.args.targets.now _ c.in-len1.len_at_least c.in-len1.len_below)
