-- A pool that grows keeps its names.
use Rattle.std.proofs.Common.{◌≡◌, ℕ, zero, suc, inl, inr, Bool, List, [], ◌∷◌, ◌++◌, Option, Some, None, cond, length, refl, sym, ap, subst, ◌∙◌}
use Rattle.std.specs.Prelude.{slice_get, Result, Ok, Err, OnOk}
use Rattle.std.specs.HashMap.{get, Updates}
use Rattle.std.proofs.lemmas.Bool.{cases_Bool}
use Rattle.std.proofs.lemmas.Option.{same_Some}
use Rattle.ja_facts.specs.FactTables.{GraphTable}
use Rattle.ja_network.specs.declared.cell.Cell.{Cell}
use Rattle.ja_network.specs.declared.network.Network.{Network}
use Rattle.ja_network.specs.Facts.{same_cell}
use Rattle.ja_class_tables.proofs.Cells.{cell_is}
use Rattle.ja_cells.specs.Names.{Names}
use Rattle.ja_class_tables.specs.declared.pool.Pool.{Pool}
use Rattle.ja_class_tables.specs.InnerPool.{IsNamed, Grows, AreSets, IsPool, AreNamed, IsNumber, cells_before, row_of, AreRowsNamed}

-- an item stays where the list gets one more
front : {A : Type 0} (xs : List A) (y x : A) (k : ℕ) → slice_get xs k ≡ Some x → slice_get (xs ++ y ∷ []) k ≡ Some x
front [] y x k h = absurd (cc h)
front (z ∷ xs) y x zero h = h
front (z ∷ xs) y x (suc k) h = front xs y x k h

-- and the one more stands at the end
pub last : {A : Type 0} (xs : List A) (y : A) → slice_get (xs ++ y ∷ []) (length xs) ≡ Some y
last [] y = refl
last (x ∷ xs) y = last xs y

pub grows-push : {A : Type 0} (old new : List A) (y : A) → new ≡ old ++ y ∷ [] → Grows old new
grows-push old new y is = record { kept = λ k item h. subst (λ xs. slice_get xs k ≡ Some item) (sym is) (front old y item k h) }

pub grows-same : {A : Type 0} (old new : List A) → new ≡ old → Grows old new
grows-same old new is = record { kept = λ k item h. subst (λ xs. slice_get xs k ≡ Some item) (sym is) h }

pub grows-on : {A : Type 0} (old mid new : List A) → Grows old mid → Grows mid new → Grows old new
grows-on old mid new a b = record { kept = λ k item h. b.kept k item (a.kept k item h) }

pub named-on : (net : Network) (old new : List (List Bool)) (cell : Cell) (name : ℕ) → Grows old new → IsNamed net old cell name → IsNamed net new cell name
named-on net old new cell name grows named = record { set = named.set; found = grows.kept name named.set named.found; exact = named.exact }

-- the names of cells stay
pub pool-on : (net : Network) (old new : Pool) → IsPool net old → AreSets net new.sets → Grows old.sets new.sets → new.by_cell ≡ old.by_cell → IsPool net new
pool-on net old new pool sets grows same = record {
  sets = sets;
  cells = λ cell name h. named-on net old.sets new.sets cell name grows (pool.cells cell name (subst (λ cells. get same_cell cells cell ≡ Some name) same h));
}

pub row-on : (net : Network) (old new : List (List Bool)) (cells : List Cell) (row : List ℕ) → Grows old new → AreNamed net old cells row → AreNamed net new cells row
row-on net old new [] [] grows named = tt
row-on net old new [] (n ∷ row) grows named = named
row-on net old new (c ∷ cells) [] grows named = named
row-on net old new (c ∷ cells) (n ∷ row) grows named = (named-on net old new c n grows named.0, row-on net old new cells row grows named.1)

pub number-on : (net : Network) (old new : List (List Bool)) (cell : Option Cell) (number : ℕ) → Grows old new → IsNumber net old cell number → IsNumber net new cell number
number-on net old new None number grows is = is
number-on net old new (Some cell) number grows is = (is.0, is.1, named-on net old new cell is.0 grows is.2)

pub rows-on : (net : Network) (names : Names) (graph : GraphTable) (old new : List (List Bool)) (m : ℕ) (rows : List (List ℕ)) → Grows old new → AreRowsNamed net names graph old m rows → AreRowsNamed net names graph new m rows
rows-on net names graph old new m rows grows named = record { each = λ i. row-on net old new (cells_before names graph m i) (row_of rows i) grows (named.each i) }

-- the same where a set is named that way
pub once : {T E : Type 0} (net : Network) (old new : Pool) (r : Result T E) → IsPool net old → OnOk r (AreSets net new.sets) → OnOk r (Grows old.sets new.sets) → OnOk r (new.by_cell ≡ old.by_cell)
    → OnOk r (IsPool net new)
once net old new (Ok x) pool sets grows same = pool-on net old new pool sets grows same
once net old new (Err e) pool sets grows same = tt

-- a cell has got a name
pub pool-cell : (net : Network) (old new : Pool) (cell : Cell) (name : ℕ) → IsPool net old → IsNamed net old.sets cell name → Updates same_cell old.by_cell new.by_cell cell (Some name) → new.sets ≡ old.sets → IsPool net new
pool-cell net old new cell name pool named updates same = record {
  sets = subst (AreSets net) (sym same) pool.sets;
  cells = λ d n h. elim (cases_Bool (same_cell cell d)) [
    | inl is ↦
        let now : get same_cell new.by_cell d ≡ Some name = updates.0 d ∙ ap (λ (b : Bool). cond b (Some name) (get same_cell old.by_cell d)) is in
        let e : name ≡ n = same_Some name n (sym now ∙ h) in
        let there : cell ≡ d = cell_is cell d is in
        subst (λ (sets : List (List Bool)). IsNamed net sets d n) (sym same) (subst (λ (c : Cell). IsNamed net old.sets c n) there (subst (IsNamed net old.sets cell) e named))
    | inr nay ↦
        let was : get same_cell old.by_cell d ≡ Some n = sym (updates.0 d ∙ ap (λ (b : Bool). cond b (Some name) (get same_cell old.by_cell d)) nay) ∙ h in
        subst (λ (sets : List (List Bool)). IsNamed net sets d n) (sym same) (pool.cells d n was)
  ];
}
