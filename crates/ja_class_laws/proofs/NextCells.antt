-- Which cells are where behind an operation.
use Rattle.std.proofs.Common.{◌≡◌, ◌≢◌, ℕ, zero, suc, ◌+◌, ◌-◌, ◌<◌, ◌≤◌, List, [], ◌∷◌, ◌++◌, length, map, refl, ap, ◌∙◌, Some, arith}
use Rattle.std.specs.Prelude.{slice_get}
use Rattle.std.proofs.lemmas.List.{get_or-append_right, get_or_append_left, get_or-set_same, get_or-set_other, get_or-take, length-take-le, get_or-map, get_or-drop}
use Rattle.std.proofs.lemmas.Option.{slice_get_within, get_or_from_slice_get}
use Rattle.ja_base.specs.declared.java_type.Kind.{Kind}
use Rattle.ja_ir.specs.declared.program.Parts.{Parts}
use Rattle.ja_ir.specs.declared.op.Op.{Op}
use Rattle.ja_ir.specs.declared.op.Op.TheVariants.{Load, Store, Shuffle}
use Rattle.ja_ir.specs.Operations.{pops}
use Rattle.ja_network.specs.declared.cell.Cell.{Cell}
use Rattle.ja_network.specs.declared.cell.Cell.TheVariants.{Nothing, Before}
use Rattle.ja_cells.specs.Rows.{cell_in, without_last, last_of, loaded, stored, shuffled, pushed_cells, plain, next_row, own_row}

-- cells of their own
pub own-cell : (m j from count y : ℕ) → y < count → cell_in (own_row m j from count) y ≡ Before m j (from + y)
own-cell m j from zero y lt = absurd (omega arith)
own-cell m j from (suc count) zero lt = let e : from ≡ from + 0 = omega arith in ap (Before m j) e
own-cell m j from (suc count) (suc y) lt = let e : suc from + y ≡ from + suc y = omega arith in own-cell m j (suc from) count y (omega arith) ∙ ap (Before m j) e

-- the cells that are left
pub left-cell : (row more : List Cell) (n y : ℕ) → n ≤ length row → y < length row - n → cell_in (without_last n row ++ more) y ≡ cell_in row y
left-cell row more n y fits lt =
    let left : length (without_last n row) ≡ length row - n = length-take-le (length row - n) row (omega arith) in
    get_or_append_left (without_last n row) more Nothing y (omega arith) ∙ get_or-take (length row - n) row y Nothing lt

-- the cells behind them
pub more-cell : (row more : List Cell) (n y : ℕ) → n ≤ length row → cell_in (without_last n row ++ more) ((length row - n) + y) ≡ cell_in more y
more-cell row more n y fits =
    let left : length (without_last n row) ≡ length row - n = length-take-le (length row - n) row (omega arith) in
    let past : (length row - n) ≤ (length row - n) + y = omega arith in
    let less : ((length row - n) + y) - (length row - n) ≡ y = omega arith in
    get_or-append_right (without_last n row) more (length row - n) ((length row - n) + y) Nothing left past ∙ ap (cell_in more) less

-- a cell that is not popped, nor stored to, stays
pub kept-cell : (p : Parts) (m i : ℕ) (op : Op) (row : List Cell) (y : ℕ) → pops op ≤ length row → y < length row - pops op → ((kind : Kind) (l : ℕ) → op ≡ Store kind l → y ≢ l) → cell_in (next_row p m i op row) y ≡ cell_in row y
kept-cell p m i (Load kind l) row y fits lt keeps = get_or_append_left row (cell_in row l ∷ []) Nothing y (omega arith)
kept-cell p m i (Store kind l) row y fits lt keeps =
    get_or-set_other (without_last 1 row) l y (cell_in row (length row - 1)) Nothing (keeps kind l refl) ∙ get_or-take (length row - 1) row y Nothing lt
kept-cell p m i (Shuffle n pushed) row y fits lt keeps = left-cell row (map (cell_in (last_of n row)) pushed) n y fits lt
kept-cell p m i op row y fits lt keeps = left-cell row (pushed_cells p m i op) (pops op) y fits lt

-- a load pushes its local
pub loaded-cell : (row : List Cell) (l y : ℕ) → y ≡ length row → cell_in (loaded row l) y ≡ cell_in row l
loaded-cell row l y e =
    let less : y - length row ≡ 0 = omega arith in
    get_or-append_right row (cell_in row l ∷ []) (length row) y Nothing refl (omega arith) ∙ ap (cell_in (cell_in row l ∷ [])) less

-- a store pops into its local
pub stored-cell : (row : List Cell) (l k : ℕ) → length row ≡ suc k → l < k → cell_in (stored row l) l ≡ cell_in row k
stored-cell row l k e lt =
    let left : length (without_last 1 row) ≡ length row - 1 = length-take-le (length row - 1) row (omega arith) in
    let last : length row - 1 ≡ k = omega arith in
    get_or-set_same (without_last 1 row) l (cell_in row (length row - 1)) Nothing (omega arith) ∙ ap (cell_in row) last

-- a shuffle pushes some of what it popped
pub shuffled-cell : (row : List Cell) (n : ℕ) (pushed : List ℕ) (j k : ℕ) → n ≤ length row → slice_get pushed j ≡ Some k → cell_in (shuffled row n pushed) ((length row - n) + j) ≡ cell_in row ((length row - n) + k)
shuffled-cell row n pushed j k fits found =
    let within : j < length pushed = slice_get_within pushed j k found in
    more-cell row (map (cell_in (last_of n row)) pushed) n j fits ∙ get_or-map (cell_in (last_of n row)) pushed j 0 Nothing within
    ∙ ap (cell_in (last_of n row)) (get_or_from_slice_get pushed j k 0 found) ∙ get_or-drop (length row - n) row k Nothing

-- what an operation that copies nothing pushes first
pub pushed-cell : (p : Parts) (m i : ℕ) (op : Op) (row : List Cell) (y : ℕ) → pops op ≤ length row → y ≡ length row - pops op → cell_in (plain p m i op row) y ≡ cell_in (pushed_cells p m i op) 0
pushed-cell p m i op row y fits e =
    let same : y ≡ (length row - pops op) + 0 = omega arith in
    ap (cell_in (plain p m i op row)) same ∙ more-cell row (pushed_cells p m i op) (pops op) 0 fits
