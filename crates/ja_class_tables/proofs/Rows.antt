-- Rows of names, one instruction or method more.
use Rattle.std.proofs.Common.{◌≡◌, ℕ, ◌+◌, ◌<◌, ◌≤◌, inl, inr, Bool, false, List, [], ◌∷◌, ◌++◌, Option, Some, None, length, take, get_or, refl, sym, ap, subst, ◌∙◌, arith}
use Rattle.std.specs.Prelude.{slice_get, if◌then◌else◌}
use Rattle.std.proofs.lemmas.Bool.{cases_lt}
use Rattle.std.proofs.lemmas.List.{get_or_at, get_or_append_left, get_or_past, take_more}
use Rattle.std.specs.List.{AllZip}
use Rattle.std.proofs.lemmas.Option.{slice_get_past, slice_get_read}
use Rattle.ja_ir.specs.declared.program.Parts.{Parts}
use Rattle.ja_ir.specs.declared.method.Method.{Method}
use Rattle.ja_ir.specs.declared.method.Instr.{Instr}
use Rattle.ja_ir.specs.Lookup.{code_of, instr_at}
use Rattle.ja_facts.specs.FactTables.{GraphTable}
use Rattle.ja_network.specs.declared.cell.Cell.{Cell}
use Rattle.ja_network.specs.declared.cell.Cell.TheVariants.{Thrown}
use Rattle.ja_network.specs.declared.network.Network.{Network}
use Rattle.ja_cells.specs.Names.{Names, row_at}
use Rattle.ja_class_tables.specs.declared.numbers.Part.{Part}
use Rattle.ja_class_tables.specs.declared.numbers.Part.TheVariants.{OfThrown, OfTakers}
use Rattle.ja_class_tables.specs.InnerPool.{IsNamed, Grows, AreNamed, IsNumber, cells_before, part_of, row_of, AreRowsNamed, AreSlotsNamed, AreNumbers, AreAllNumbers}
use Rattle.ja_class_tables.specs.InnerNotes.{HasItems, code_size}
use Rattle.ja_class_tables.proofs.Pools.{row-on, rows-on, number-on}

-- an item that was read from a list of a program
pub read-at : {A : Type 0} (items xs : List A) (k : ℕ) (item : A) → items ≡ xs → k < length items → item ≡ get_or items k item → slice_get xs k ≡ Some item
read-at items xs k item is lt read = subst (λ ys. slice_get ys k ≡ Some item) is (slice_get_read items (length items) k item refl lt read)

-- what holds of each of the first so many items, and of one more
pub below-push : {A : Type 0} (P : ℕ → A → Type 0) (d : A) (rows new : List A) (row : A) (i : ℕ) → length rows ≡ i → ((b : ℕ) → b < i → P b (get_or rows b d)) → P i row → new ≡ rows ++ row ∷ []
    → (b : ℕ) → b < i + 1 → P b (get_or new b d)
below-push P d rows new row i size below here is b lt = elim (cases_lt b i) [
  | inl l ↦
      let within : b < length rows = omega arith in
      subst (P b) (sym (ap (λ xs. get_or xs b d) is ∙ get_or_append_left rows (row ∷ []) d b within)) (below b l)
  | inr past ↦
      let e : i ≡ b = omega arith in
      subst (λ k. P k (get_or new k d)) e (subst (P i) (sym (ap (λ xs. get_or xs i d) is ∙ get_or_at rows row [] d i size)) here)
]

-- and past the end, where each item is the other one
pub below-all : {A : Type 0} (P : ℕ → A → Type 0) (d : A) (rows : List A) (i : ℕ) → length rows ≡ i → ((b : ℕ) → b < i → P b (get_or rows b d)) → ((b : ℕ) → i ≤ b → P b d) → (b : ℕ) → P b (get_or rows b d)
below-all P d rows i size below past b = elim (cases_lt b i) [
  | inl l ↦ below b l
  | inr le ↦ let out : length rows ≤ b = omega arith in subst (P b) (sym (get_or_past rows b d out)) (past b le)
]

-- one pair more
zip-push : {A B : Type 0} (R : A → B → Type 0) (xs : List A) (ys : List B) (x : A) (y : B) → AllZip R xs ys → R x y → AllZip R (xs ++ x ∷ []) (ys ++ y ∷ [])
zip-push R [] [] x y pairs pair = (pair, tt)
zip-push R [] (b ∷ ys) x y pairs pair = absurd pairs
zip-push R (a ∷ xs) [] x y pairs pair = absurd pairs
zip-push R (a ∷ xs) (b ∷ ys) x y pairs pair = (pairs.0, zip-push R xs ys x y pairs.1 pair)

-- one name more
pub row-more : (net : Network) (old new : List (List Bool)) (cells : List Cell) (i : ℕ) (d : Cell) (row next : List ℕ) (name : ℕ) → i < length cells → Grows old new
    → AreNamed net old (take i cells) row → IsNamed net new (get_or cells i d) name → next ≡ row ++ name ∷ [] → AreNamed net new (take (i + 1) cells) next
row-more net old new cells i d row next name lt grows named here is =
    subst (λ (cs : List Cell). AreNamed net new cs next) (sym (take_more cells i d lt))
    (subst (AreNamed net new (take i cells ++ get_or cells i d ∷ [])) (sym is) (zip-push (IsNamed net new) (take i cells) row (get_or cells i d) name (row-on net old new (take i cells) row grows named) here))

-- an instruction that is not there is not reached, and so has no cells
pub no-cells : (names : Names) (graph : GraphTable) (m i : ℕ) → length (get_or graph.reached m []) ≤ i → cells_before names graph m i ≡ []
no-cells names graph m i past = ap (λ (b : Bool). if b then row_at names m i else []) (get_or_past (get_or graph.reached m []) i false past)

pub none-named : (net : Network) (sets : List (List Bool)) (names : Names) (graph : GraphTable) (m i : ℕ) → length (get_or graph.reached m []) ≤ i → AreNamed net sets (cells_before names graph m i) []
none-named net sets names graph m i past = subst (λ (cells : List Cell). AreNamed net sets cells []) (sym (no-cells names graph m i past)) tt

-- the instructions of a method of the program
pub method-size : (p : Parts) (m : ℕ) (method : Method) → slice_get p.methods m ≡ Some method → code_size p m ≡ length method.code
method-size p m method found = ap (λ (o : Option Method). length (code_of o)) found

pub no-method-size : (p : Parts) (m : ℕ) → length p.methods ≤ m → code_size p m ≡ 0
no-method-size p m past = ap (λ (o : Option Method). length (code_of o)) (slice_get_past p.methods m past)

-- an instruction of a method of the program
pub instr-there : (p : Parts) (m i : ℕ) (method : Method) (instr : Instr) → slice_get p.methods m ≡ Some method → slice_get method.code i ≡ Some instr → instr_at p m i ≡ Some instr
instr-there p m i method instr found at = ap (λ (o : Option Method). slice_get (code_of o) i) found ∙ at

-- the rows of a method more
pub slots-more : (net : Network) (names : Names) (graph : GraphTable) (old new : List (List Bool)) (m : ℕ) (table next : List (List (List ℕ))) (rows : List (List ℕ)) → length table ≡ m → Grows old new
    → ((a : ℕ) → a < m → AreRowsNamed net names graph old a (row_of table a)) → AreRowsNamed net names graph new m rows → next ≡ table ++ rows ∷ []
    → (a : ℕ) → a < m + 1 → AreRowsNamed net names graph new a (row_of next a)
slots-more net names graph old new m table next rows size grows below here is =
    below-push (AreRowsNamed net names graph new) [] table next rows m size (λ a lt. rows-on net names graph old new a (row_of table a) grows (below a lt)) here is

-- all rows
pub slots-all : (p : Parts) (net : Network) (names : Names) (graph : GraphTable) (sets : List (List Bool)) (m : ℕ) (table : List (List (List ℕ))) → HasItems p graph.reached → length table ≡ m → length p.methods ≤ m
    → ((a : ℕ) → a < m → AreRowsNamed net names graph sets a (row_of table a)) → AreSlotsNamed net names graph sets table
slots-all p net names graph sets m table room size all below = record {
  each = below-all (AreRowsNamed net names graph sets) [] table m size below
      (λ a le. record { each = λ i. none-named net sets names graph a i (let e = room a in let none = no-method-size p a (omega arith) in omega arith) });
}

-- an instruction that is not there has no cell
no-part : (p : Parts) (graph : GraphTable) (part : Part) (m i : ℕ) → HasItems p graph.reached → code_size p m ≤ i → part_of part graph m i (instr_at p m i) ≡ None
no-part p graph OfThrown m i room past = ap (λ (b : Bool). if b then Some (Thrown m i) else None) (get_or_past (get_or graph.reached m []) i false (let e = room m in omega arith))
no-part p graph OfTakers m i room past = ap (part_of OfTakers graph m i) (slice_get_past (code_of (slice_get p.methods m)) i past)

none-numbered : (p : Parts) (net : Network) (graph : GraphTable) (sets : List (List Bool)) (part : Part) (m i : ℕ) → HasItems p graph.reached → code_size p m ≤ i → IsNumber net sets (part_of part graph m i (instr_at p m i)) 0
none-numbered p net graph sets part m i room past = subst (λ (cell : Option Cell). IsNumber net sets cell 0) (sym (no-part p graph part m i room past)) refl

-- one number more
pub numbers-more : (p : Parts) (net : Network) (part : Part) (graph : GraphTable) (old new : List (List Bool)) (m i : ℕ) (method : Method) (instr : Instr) (row next : List ℕ) (number : ℕ)
    → slice_get p.methods m ≡ Some method → slice_get method.code i ≡ Some instr → length row ≡ i → Grows old new
    → ((b : ℕ) → b < i → IsNumber net old (part_of part graph m b (instr_at p m b)) (get_or row b 0)) → IsNumber net new (part_of part graph m i (Some instr)) number → next ≡ row ++ number ∷ []
    → (b : ℕ) → b < i + 1 → IsNumber net new (part_of part graph m b (instr_at p m b)) (get_or next b 0)
numbers-more p net part graph old new m i method instr row next number found at size grows below here is =
    below-push (λ b (n : ℕ). IsNumber net new (part_of part graph m b (instr_at p m b)) n) 0 row next number i size
    (λ b lt. number-on net old new (part_of part graph m b (instr_at p m b)) (get_or row b 0) grows (below b lt))
    (subst (λ (o : Option Instr). IsNumber net new (part_of part graph m i o) number) (sym (instr-there p m i method instr found at)) here) is

-- all numbers of a method
pub numbers-all : (p : Parts) (net : Network) (part : Part) (graph : GraphTable) (sets : List (List Bool)) (m i : ℕ) (method : Method) (row : List ℕ) → HasItems p graph.reached → slice_get p.methods m ≡ Some method
    → length row ≡ i → length method.code ≤ i → ((b : ℕ) → b < i → IsNumber net sets (part_of part graph m b (instr_at p m b)) (get_or row b 0)) → AreNumbers p net part graph sets m row
numbers-all p net part graph sets m i method row room found size all below = record {
  each = below-all (λ b (n : ℕ). IsNumber net sets (part_of part graph m b (instr_at p m b)) n) 0 row i size below
      (λ b le. none-numbered p net graph sets part m b room (let e = method-size p m method found in omega arith));
}

numbers-on : (p : Parts) (net : Network) (part : Part) (graph : GraphTable) (old new : List (List Bool)) (m : ℕ) (row : List ℕ) → Grows old new → AreNumbers p net part graph old m row → AreNumbers p net part graph new m row
numbers-on p net part graph old new m row grows are = record { each = λ i. number-on net old new (part_of part graph m i (instr_at p m i)) (get_or row i 0) grows (are.each i) }

-- the numbers of a method more
pub all-more : (p : Parts) (net : Network) (part : Part) (graph : GraphTable) (old new : List (List Bool)) (m : ℕ) (table next : List (List ℕ)) (row : List ℕ) → length table ≡ m → Grows old new
    → ((a : ℕ) → a < m → AreNumbers p net part graph old a (row_of table a)) → AreNumbers p net part graph new m row → next ≡ table ++ row ∷ []
    → (a : ℕ) → a < m + 1 → AreNumbers p net part graph new a (row_of next a)
all-more p net part graph old new m table next row size grows below here is =
    below-push (AreNumbers p net part graph new) [] table next row m size (λ a lt. numbers-on p net part graph old new a (row_of table a) grows (below a lt)) here is

-- the numbers of all methods
pub all-numbers : (p : Parts) (net : Network) (part : Part) (graph : GraphTable) (sets : List (List Bool)) (m : ℕ) (table : List (List ℕ)) → HasItems p graph.reached → length table ≡ m → length p.methods ≤ m
    → ((a : ℕ) → a < m → AreNumbers p net part graph sets a (row_of table a)) → AreAllNumbers p net part graph sets table
all-numbers p net part graph sets m table room size all below = record {
  each = below-all (AreNumbers p net part graph sets) [] table m size below
      (λ a le. record { each = λ i. none-numbered p net graph sets part a i room (let none = no-method-size p a (omega arith) in omega arith) });
}

pub slots-on : (net : Network) (names : Names) (graph : GraphTable) (old new : List (List Bool)) (table : List (List (List ℕ))) → Grows old new → AreSlotsNamed net names graph old table → AreSlotsNamed net names graph new table
slots-on net names graph old new table grows named = record { each = λ m. rows-on net names graph old new m (row_of table m) grows (named.each m) }
