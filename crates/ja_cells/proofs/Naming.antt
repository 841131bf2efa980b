-- Rows of cells of one instruction more, and of one method more.
use Rattle.std.proofs.Common.{◌≡◌, inl, inr, ℕ, ◌+◌, ◌<◌, ◌≤◌, ◌^◌, true, List, [], ◌∷◌, ◌++◌, Some, length, get_or, sym, ap, subst, ◌∙◌, arith}
use Rattle.std.specs.Prelude.{All, slice_get}
use Rattle.std.specs.List.{sum_by}
use Rattle.std.proofs.lemmas.Bool.{cases_lt}
use Rattle.std.proofs.lemmas.List.{get_or_append_left}
use Rattle.std.proofs.lemmas.List.Sums.{get_or-le-sum_by}
use Rattle.std.proofs.lemmas.Option.{slice_get_within, get_or_from_slice_get}
use Rattle.std.proofs.Math.Seq.{get_or-append_seam}
use Rattle.ja_ir.specs.declared.program.Parts.{Parts}
use Rattle.ja_ir.specs.declared.method.Method.{Method}
use Rattle.ja_ir.specs.declared.method.Instr.{Instr}
use Rattle.ja_ir.specs.Blocks.{StaysInside}
use Rattle.ja_ir.specs.Whole.{IsWhole, NamesAll, LiesIn, Runs}
use Rattle.ja_network.specs.declared.cell.Cell.{Cell}
use Rattle.ja_cells.specs.Rows.{next_row}
use Rattle.ja_cells.specs.Names.{Names, IsRow, own, shared, AreRows, AreNamesBelow}

all-at : {X : Type 0} (P : X → Type 0) (xs : List X) → All P xs → (k : ℕ) (x : X) → slice_get xs k ≡ Some x → P x
all-at P xs all k x e = subst P (get_or_from_slice_get xs k x x e) (all k x (slice_get_within xs k x e))

-- what a whole program says of a method
pub stays-inside : (p : Parts) (m : ℕ) (method : Method) → IsWhole p → slice_get p.methods m ≡ Some method → StaysInside method
stays-inside p m method whole found =
    let instrs : All (NamesAll p (length method.code)) method.code = all-at (λ (x : Method). All (NamesAll p (length x.code)) x.code) p.methods whole.instructions m method found in
    let handlers : All (LiesIn p (length method.code)) method.handlers = all-at (λ (x : Method). All (LiesIn p (length x.code)) x.handlers) p.methods whole.handlers m method found in
    record { next = λ k d lt. (instrs k d lt).next; handlers = λ k d lt. (handlers k d lt).target }

pub few-instructions : (p : Parts) (m : ℕ) (method : Method) → IsWhole p → slice_get p.methods m ≡ Some method → length method.code < 2 ^ 32
few-instructions p m method whole found =
    let at : get_or p.methods m method ≡ method = get_or_from_slice_get p.methods m method method found in
    let some : length (get_or p.methods m method).code ≤ sum_by (λ (x : Method). length x.code) p.methods =
    get_or-le-sum_by (λ (x : Method). length x.code) p.methods m method (slice_get_within p.methods m method found) in
    let here : length method.code ≤ sum_by (λ (x : Method). length x.code) p.methods = subst (λ (x : Method). length x.code ≤ sum_by (λ (y : Method). length y.code) p.methods) at some in
    omega (arith, whole.small.instructions, here)

-- a frame has room for what is before a reached instruction
pub room-before : (p : Parts) (m j : ℕ) (method : Method) (instr : Instr) → IsWhole p → slice_get p.methods m ≡ Some method → slice_get method.code j ≡ Some instr → instr.reached ≡ true
    → method.locals + instr.height < 2 ^ 32
room-before p m j method instr whole found at reached =
    let frame : method.locals + method.stack ≤ 512 = all-at (λ (x : Method). x.locals + x.stack ≤ 512) p.methods whole.frames m method found in
    let runs : Runs method j instr = all-at (λ (x : Method). (i : ℕ) (y : Instr) → slice_get x.code i ≡ Some y → y.reached ≡ true → Runs x i y) p.methods whole.runs m method found j instr at reached in
    omega (arith, frame, runs.height)

-- a row stays right when rows follow
row-stays : (p : Parts) (m : ℕ) (method : Method) (rows : List (List Cell)) (j : ℕ) (instr : Instr) (row last : List Cell) → j ≤ length rows → IsRow p m method rows j instr row
    → IsRow p m method (rows ++ last ∷ []) j instr row
row-stays p m method rows j instr row last inside (own is) = own is
row-stays p m method rows j instr row last inside (shared i before next at reached only is) =
    let same : get_or (rows ++ last ∷ []) i [] ≡ get_or rows i [] = get_or_append_left rows (last ∷ []) [] i (omega arith) in
    shared i before next at reached only (is ∙ sym (ap (next_row p m i before.op) same))

pub rows-fewer : (p : Parts) (m : ℕ) (method : Method) (more count : ℕ) (rows : List (List Cell)) → count ≤ more → AreRows p m method more rows → AreRows p m method count rows
rows-fewer p m method more count rows less are = record { each = λ j instr lt found reached. are.each j instr (omega arith) found reached }

pub names-fewer : (p : Parts) (more count : ℕ) (names : Names) → count ≤ more → AreNamesBelow p more names → AreNamesBelow p count names
names-fewer p more count names less are = record { each = λ m method lt found. are.each m method (omega arith) found }

-- the rows with one more
pub rows_more : (p : Parts) (m : ℕ) (method : Method) (rows : List (List Cell)) (j : ℕ) (instr : Instr) (row : List Cell) → length rows ≡ j → slice_get method.code j ≡ Some instr
    → AreRows p m method j rows → (instr.reached ≡ true → IsRow p m method rows j instr row) → AreRows p m method (j + 1) (rows ++ row ∷ [])
rows_more p m method rows j instr row size at before here = record {
  each = λ k other lt found reached. elim (cases_lt k j) [
    | inl less ↦
        let same : get_or (rows ++ row ∷ []) k [] ≡ get_or rows k [] = get_or_append_left rows (row ∷ []) [] k (omega arith) in
        subst (λ (r : List Cell). IsRow p m method (rows ++ row ∷ []) k other r) (sym same)
        (row-stays p m method rows k other (get_or rows k []) row (omega arith) (before.each k other (omega arith) found reached))
    | inr past ↦
        let is : k ≡ j = omega arith in
        let equal : instr ≡ other = cc in
        let seam : get_or (rows ++ row ∷ []) k [] ≡ row = ap (λ (n : ℕ). get_or (rows ++ row ∷ []) n []) (is ∙ sym size) ∙ get_or-append_seam rows row [] [] in
        let now : IsRow p m method (rows ++ row ∷ []) j instr row = row-stays p m method rows j instr row row (omega arith) (here (cc reached)) in
        subst (λ (r : List Cell). IsRow p m method (rows ++ row ∷ []) k other r) (sym seam)
        (subst (λ (n : ℕ). IsRow p m method (rows ++ row ∷ []) n other row) (sym is) (subst (λ (x : Instr). IsRow p m method (rows ++ row ∷ []) j x row) equal now))
  ];
}

-- the names with those of one more method
pub names_more : (p : Parts) (names : Names) (m : ℕ) (method : Method) (rows : List (List Cell)) → length names ≡ m → slice_get p.methods m ≡ Some method → AreNamesBelow p m names
    → AreRows p m method (length method.code) rows → AreNamesBelow p (m + 1) (names ++ rows ∷ [])
names_more p names m method rows size at before here = record {
  each = λ k other lt found. elim (cases_lt k m) [
    | inl less ↦
        let same : get_or (names ++ rows ∷ []) k [] ≡ get_or names k [] = get_or_append_left names (rows ∷ []) [] k (omega arith) in
        subst (λ (r : List (List Cell)). AreRows p k other (length other.code) r) (sym same) (before.each k other (omega arith) found)
    | inr past ↦
        let is : k ≡ m = omega arith in
        let equal : method ≡ other = cc in
        let seam : get_or (names ++ rows ∷ []) k [] ≡ rows = ap (λ (n : ℕ). get_or (names ++ rows ∷ []) n []) (is ∙ sym size) ∙ get_or-append_seam names rows [] [] in
        subst (λ (r : List (List Cell)). AreRows p k other (length other.code) r) (sym seam)
        (subst (λ (n : ℕ). AreRows p n other (length other.code) rows) (sym is) (subst (λ (x : Method). AreRows p m x (length x.code) rows) equal here))
  ];
}
