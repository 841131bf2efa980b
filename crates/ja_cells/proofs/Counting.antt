-- Cells of their own, one after the other.
use Rattle.std.proofs.Common.{◌≡◌, ℕ, suc, ◌+◌, ◌-◌, ◌<◌, List, [], ◌∷◌, ◌++◌, sym, ap, ◌∙◌, arith, append_assoc, replicate}
use Rattle.ja_network.specs.declared.cell.Cell.{Cell}
use Rattle.ja_network.specs.declared.cell.Cell.TheVariants.{Nothing, Before}
use Rattle.ja_cells.specs.Rows.{own_row}

-- the next of the cells that are left
own-next : (m j z count : ℕ) → z < count → own_row m j z (count - z) ≡ Before m j z ∷ own_row m j (z + 1) (count - (z + 1))
own-next m j z count lt =
    let left : count - z ≡ suc (count - (z + 1)) = omega arith in
    let next : suc z ≡ z + 1 = omega arith in
    ap (own_row m j z) left ∙ ap (λ (n : ℕ). Before m j z ∷ own_row m j n (count - (z + 1))) next

-- one cell more
pub own-more : (m j z count : ℕ) (row new all : List Cell) → z < count → new ≡ row ++ Before m j z ∷ [] → row ++ own_row m j z (count - z) ≡ all → new ++ own_row m j (z + 1) (count - (z + 1)) ≡ all
own-more m j z count row new all lt is before =
    ap (λ (r : List Cell). r ++ own_row m j (z + 1) (count - (z + 1))) is
    ∙ append_assoc row (Before m j z ∷ []) (own_row m j (z + 1) (count - (z + 1)))
    ∙ ap (λ (r : List Cell). row ++ r) (sym (own-next m j z count lt)) ∙ before

-- one cell without tokens more
pub nothing-more : (i count : ℕ) (row new all : List Cell) → i < count → new ≡ row ++ Nothing ∷ [] → row ++ replicate (count - i) Nothing ≡ all → new ++ replicate (count - (i + 1)) Nothing ≡ all
nothing-more i count row new all lt is before =
    let left : count - i ≡ suc (count - (i + 1)) = omega arith in
    ap (λ (r : List Cell). r ++ replicate (count - (i + 1)) Nothing) is
    ∙ append_assoc row (Nothing ∷ []) (replicate (count - (i + 1)) Nothing)
    ∙ ap (λ (n : ℕ). row ++ replicate n Nothing) (sym left) ∙ before
