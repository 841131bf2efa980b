-- Reading the items of an array one by one, and tables that spell things.
use Rattle.std.proofs.Common.{◌≡◌, ℕ, ◌+◌, ◌<◌, ℤ, true, ◌==◌, false, is_some, length, length-append, get_or, drop, List, [], ◌∷◌, ◌++◌, Option, Some, None, option_and_then, Err, refl, subst, sym, ◌∙◌, append_assoc, append-nil}
use Rattle.std.specs.List.{list_any}
use Rattle.std.proofs.lemmas.Option.{same_Some}
use Rattle.toml.specs.Data.{Data, Members, Items, no_items, item, as_table, as_array, as_integer}
use Rattle.toml.specs.View.{view, items_view}
use Rattle.toml.specs.declared.value.Value.{Value}
use Rattle.toml.proofs.Views.{items_view-drop}
use Rattle.ja_lib.specs.declared.part.PartFault.{PartFault}
use Rattle.ja_lib.specs.declared.part.PartFault.TheVariants.{Wrong, Memory}
use Rattle.ja_lib.specs.File.{read_items, SpellAll, IsFirstWrong, position, new_position, tables_in, tables_at, IsDesc, MayBeDesc}
use Rattle.ja_lib.specs.InnerReading.{Finds}

-- where a thing needs a part that is not there, there is no thing
pub finds_without : {A B : Type 0} (IsPart : A → Type 0) (IsThing : B → Type 0) (part : (y : B) → IsThing y → (x : A) × IsPart x) (fault : PartFault)
    → Finds IsPart (Err fault) → Finds IsThing (Err fault)
finds_without IsPart IsThing part Wrong none = λ y is. let found : (x : _) × IsPart x = part y is in none found.0 found.1
finds_without IsPart IsThing part Memory none = tt

-- one more item
pub read_next : {A : Type 0} (next : List A → Data → Option A) (seen : List A) (vs : List Value) (i : ℕ) (d : Value) (x : A) → i < length vs
    → next seen (view (get_or vs i d)) ≡ Some x → read_items next (seen ++ x ∷ []) (items_view (drop (i + 1) vs)) ≡ read_items next seen (items_view (drop i vs))
read_next next seen vs i d x h e = rw (items_view-drop vs i d h, e)

-- an item that is not read
pub read_stops : {A : Type 0} (next : List A → Data → Option A) (seen : List A) (vs : List Value) (i : ℕ) (d : Value) → i < length vs
    → next seen (view (get_or vs i d)) ≡ None → read_items next seen (items_view (drop i vs)) ≡ None
read_stops next seen vs i d h e = rw (items_view-drop vs i d h, e)

front_of : {A : Type 0} (next : List A → Data → Option A) (seen : List A) (rest : Items) (all : List A) (o : Option A)
    → ((x : A) → read_items next (seen ++ x ∷ []) rest ≡ Some all → (more : List A) × (all ≡ (seen ++ x ∷ []) ++ more))
    → option_and_then (λ x. read_items next (seen ++ x ∷ []) rest) o ≡ Some all → (more : List A) × (all ≡ seen ++ more)
front_of next seen rest all None ih e = absurd (cc)
front_of next seen rest all (Some x) ih e = let found : (more : _) × (all ≡ (seen ++ x ∷ []) ++ more) = ih x e in (x ∷ found.0, found.1 ∙ append_assoc seen (x ∷ []) found.0)

-- what is read begins with the things seen
pub read_front : {A : Type 0} (next : List A → Data → Option A) (seen : List A) (items : Items) (all : List A) → read_items next seen items ≡ Some all
    → (more : List A) × (all ≡ seen ++ more)
read_front next seen no_items all e = ([], sym (same_Some _ _ e) ∙ sym (append-nil seen))
read_front next seen (item v rest) all e = front_of next seen rest all (next seen v) (λ x. read_front next (seen ++ x ∷ []) rest all) e

-- one more table that spells a thing
pub SpellAll-last : {A : Type 0} (Spells : Members → A → Type 0) (ts : List Members) (xs : List A) (t : Members) (x : A)
    → SpellAll Spells ts xs → Spells t x → SpellAll Spells (ts ++ t ∷ []) (xs ++ x ∷ [])
SpellAll-last Spells [] [] t x h s = (s, tt)
SpellAll-last Spells (a ∷ ts) (b ∷ xs) t x h s = (h.0, SpellAll-last Spells ts xs t x h.1 s)
SpellAll-last Spells [] (b ∷ xs) t x h s = absurd h
SpellAll-last Spells (a ∷ ts) [] t x h s = absurd h

-- a table that spells nothing behind tables that do
pub first_wrong : {A : Type 0} (Spells : Members → A → Type 0) (ts : List Members) (xs : List A) (t : Members) (after : List Members)
    → SpellAll Spells ts xs → ((x : A) → Spells t x → ⊥) → IsFirstWrong Spells (ts ++ t ∷ after) (length ts)
first_wrong Spells [] [] t after h none = none
first_wrong Spells (a ∷ ts) (b ∷ xs) t after h none = (b, h.0, first_wrong Spells ts xs t after h.1 none)
first_wrong Spells [] (b ∷ xs) t after h none = absurd h
first_wrong Spells (a ∷ ts) [] t after h none = absurd h

-- the array's table at this place spells nothing
pub wrong_at : {A : Type 0} (Spells : Members → A → Type 0) (vs : List Value) (tables done : List Members) (things : List A) (i : ℕ) (v : Value) (t : Members)
    → i < length vs → v ≡ get_or vs i v → Some t ≡ as_table (view v) → ((x : A) → Spells t x → ⊥)
    → length done ≡ i → SpellAll Spells done things → read_items (λ seen. as_table) done (items_view (drop i vs)) ≡ Some tables
    → IsFirstWrong Spells tables i
wrong_at Spells vs tables done things i v t h is table none len spelled reads =
    let e : as_table (view (get_or vs i v)) ≡ Some t = rw (← is) (sym table) in
    let more : read_items (λ seen. as_table) (done ++ t ∷ []) (items_view (drop (i + 1) vs)) ≡ Some tables = read_next (λ seen. as_table) done vs i v t h e ∙ reads in
    let found : (rest : List Members) × (tables ≡ (done ++ t ∷ []) ++ rest) = read_front (λ seen. as_table) (done ++ t ∷ []) (items_view (drop (i + 1) vs)) tables more in
    let parts : tables ≡ done ++ t ∷ found.0 = found.1 ∙ append_assoc done (t ∷ []) found.0 in
    let first : IsFirstWrong Spells tables (length done) = rw parts (first_wrong Spells done things t found.0 spelled none) in
    subst (λ n. IsFirstWrong Spells tables n) len first

-- the array's table at this place spells a thing
pub spelled_at : {A : Type 0} (Spells : Members → A → Type 0) (vs : List Value) (tables done : List Members) (things : List A) (i : ℕ) (v : Value) (t : Members) (x : A)
    → i < length vs → v ≡ get_or vs i v → Some t ≡ as_table (view v) → Spells t x
    → length done ≡ i → SpellAll Spells done things → read_items (λ seen. as_table) done (items_view (drop i vs)) ≡ Some tables
    → (all : List Members) × (length all ≡ i + 1) × SpellAll Spells all (things ++ x ∷ []) × (read_items (λ seen. as_table) all (items_view (drop (i + 1) vs)) ≡ Some tables)
spelled_at Spells vs tables done things i v t x h is table spells len spelled reads =
    let e : as_table (view (get_or vs i v)) ≡ Some t = rw (← is) (sym table) in
    let size : length (done ++ t ∷ []) ≡ i + 1 = length-append done (t ∷ []) ∙ rw len in
    (done ++ t ∷ [], size, SpellAll-last Spells done things t x spelled spells, read_next (λ seen. as_table) done vs i v t h e ∙ reads)

the_some : {A : Type 0} (o : Option A) → is_some o ≡ true → (x : A) × (o ≡ Some x)
the_some None h = absurd (cc)
the_some (Some x) h = (x, refl)

-- an array of tables is found at a key
pub tables_found : (member : Option Data) (value : Data) (items slice checked : List Value) → Some value ≡ member → Some (items_view items) ≡ as_array value
    → slice ≡ items → checked ≡ items → is_some (tables_in (items_view checked)) ≡ true
    → (tables : List Members) × (tables_in (items_view slice) ≡ Some tables) × (tables_at member ≡ Some tables)
tables_found member value items slice checked at is s k some =
    let found : (tables : List Members) × (tables_in (items_view items) ≡ Some tables) = the_some (tables_in (items_view items)) (rw k at some) in
    (found.0, rw s found.1, rw (← at, ← is) found.1)

-- a position that is new
pub position_found : (seen : List ℕ) (value : Data) (z : ℤ) (n : ℕ) → Some z ≡ as_integer value → Some n ≡ position z → list_any (λ other. other == n) seen ≡ false
    → Some n ≡ new_position seen value
position_found seen value z n integer fits new = rw (← integer, ← fits, new)

-- where a descriptor may be missing and is not, there is one
pub desc_there : (value : Data) (desc : Option (List ℕ)) → MayBeDesc (Some value) desc → (there : List ℕ) × IsDesc (Some value) there
desc_there value None is = absurd is
desc_there value (Some desc) is = (desc, is)
