-- What tables whose items are named by numbers say.
use Rattle.std.proofs.Common.{◌≡◌, ℕ, zero, suc, ◌+◌, ◌<◌, ◌≤◌, Bool, true, false, cond, List, [], ◌∷◌, ◌++◌, length, map, take, drop, replicate, get_or, refl, ap, sym, ◌∙◌, subst, Some, None, arith}
use Rattle.std.specs.Prelude.{slice_get, if◌then◌else◌}
use Rattle.std.proofs.lemmas.List.{take-append-le, drop-append-le, length-append, length-map, map-append, get_or-map, get_or_past, take_all, length-drop}
use Rattle.std.proofs.Math.Seq.{drop-append_seam}
use Rattle.std.proofs.lemmas.Option.{slice_get_past, get_or_from_slice_get, slice_get-get_or}
use Rattle.ja_ir.specs.declared.method.Method.{Method}
use Rattle.ja_ir.specs.declared.method.Instr.{Instr}
use Rattle.ja_ir.specs.declared.op.Op.{Op}
use Rattle.ja_ir.specs.declared.op.Op.TheVariants.{Call}
use Rattle.ja_facts.specs.declared.flat.Span.{Span}
use Rattle.ja_facts.specs.ClassTables.{slots_before, throws_before, throws_some, empty_slots_of, empty_thrown_of, no_members}
use Rattle.ja_facts.specs.FactTables.{calls_of}
use Rattle.ja_facts.specs.Shared.{named, named_rows, named_table, option_named, option_rows, in_span, AreWithin, zero_slots_of, zero_thrown_of, zero_calls_of, method_names}

-- ---- items of rows that are mapped

pub item-map : {A B : Type 0} (f : A → B) (xs : List A) (i : ℕ) (d : A) → get_or (map f xs) i (f d) ≡ f (get_or xs i d)
item-map f [] i d = refl
item-map f (x ∷ xs) zero d = refl
item-map f (x ∷ xs) (suc i) d = item-map f xs i d

-- the row of rows that are mapped is the row, mapped
pub row-map : {A B : Type 0} (f : A → B) (rows : List (List A)) (m : ℕ) → get_or (map (map f) rows) m [] ≡ map f (get_or rows m [])
row-map f [] m = refl
row-map f (row ∷ rows) zero = refl
row-map f (row ∷ rows) (suc m) = row-map f rows m

pub get-map : {A B : Type 0} (f : A → B) (xs : List A) (k : ℕ) (x : A) → slice_get xs k ≡ Some x → slice_get (map f xs) k ≡ Some (f x)
get-map f [] k x e = absurd (cc e)
get-map f (y ∷ xs) zero x e = let same : y ≡ x = cc e in ap (λ z. Some (f z)) same
get-map f (y ∷ xs) (suc k) x e = get-map f xs k x e

-- ---- pieces of a list

get-take : {A : Type 0} (n : ℕ) (xs : List A) (k : ℕ) → k < n → slice_get (take n xs) k ≡ slice_get xs k
get-take zero xs k h = absurd (omega arith)
get-take (suc n) [] k h = refl
get-take (suc n) (x ∷ xs) zero h = refl
get-take (suc n) (x ∷ xs) (suc k) h = get-take n xs k (omega arith)

get-drop : {A : Type 0} (n : ℕ) (xs : List A) (k : ℕ) → slice_get (drop n xs) k ≡ slice_get xs (n + k)
get-drop zero xs k = let e : zero + k ≡ k = omega arith in sym (ap (slice_get xs) e)
get-drop (suc n) [] k = refl
get-drop (suc n) (x ∷ xs) k = let e : suc n + k ≡ suc (n + k) = omega arith in get-drop n xs k ∙ sym (ap (slice_get (x ∷ xs)) e)

-- what stands in a piece stands in the list
pub in_span-at : (items : List ℕ) (span : Span) (k : ℕ) → k < span.count → slice_get (in_span items span) k ≡ slice_get items (span.from + k)
in_span-at items span k h = get-take span.count (drop span.from items) k h ∙ get-drop span.from items k

take-short : {A : Type 0} (n : ℕ) (xs : List A) → length (take n xs) ≤ n
take-short zero xs = omega arith
take-short (suc n) [] = omega arith
take-short (suc n) (x ∷ xs) = omega (arith, take-short n xs)

-- and nothing stands past it
pub in_span-past : (items : List ℕ) (span : Span) (k : ℕ) → span.count ≤ k → slice_get (in_span items span) k ≡ None
in_span-past items span k h = slice_get_past (in_span items span) k (let e = take-short span.count (drop span.from items) in omega arith)

-- the piece of a place
pub span-row : (items : List ℕ) (spans : List Span) (i : ℕ) (d : Span) → i < length spans → get_or (map (in_span items) spans) i [] ≡ in_span items (get_or spans i d)
span-row items spans i d h = get_or-map (in_span items) spans i d [] h

-- a piece lies within the list
pub span-within : (size : ℕ) (spans : List Span) (i : ℕ) (d : Span) → AreWithin size spans → i < length spans → (get_or spans i d).from + (get_or spans i d).count ≤ size
span-within size [] i d h lt = absurd (omega arith)
span-within size (span ∷ spans) zero d h lt = h.0
span-within size (span ∷ spans) (suc i) d h lt = span-within size spans i d h.1 (omega arith)

-- pieces stay where the list grows
pub are-within : (size more : ℕ) (spans : List Span) → size ≤ more → AreWithin size spans → AreWithin more spans
are-within size more [] le h = tt
are-within size more (span ∷ spans) le h = (let e = h.0 in omega arith, are-within size more spans le h.1)

pub are-within_one : (size : ℕ) (spans : List Span) (span : Span) → AreWithin size spans → span.from + span.count ≤ size → AreWithin size (spans ++ span ∷ [])
are-within_one size [] span h le = (le, tt)
are-within_one size (s ∷ spans) span h le = (h.0, are-within_one size spans span h.1 le)

in_span-grown : (items row : List ℕ) (span : Span) → span.from + span.count ≤ length items → in_span (items ++ row) span ≡ in_span items span
in_span-grown items row span h =
    let past : span.from ≤ length items = omega arith in
    let short : span.count ≤ length (drop span.from items) = omega (arith, length-drop span.from items) in
    ap (take span.count) (drop-append-le span.from items row past) ∙ take-append-le span.count (drop span.from items) row short

pub spans-grown : (items row : List ℕ) (spans : List Span) → AreWithin (length items) spans → map (in_span (items ++ row)) spans ≡ map (in_span items) spans
spans-grown items row [] h = refl
spans-grown items row (span ∷ spans) h = ap (λ (s : List ℕ). s ∷ map (in_span (items ++ row)) spans) (in_span-grown items row span h.0) ∙ ap (λ (ss : List (List ℕ)). in_span items span ∷ ss) (spans-grown items row spans h.1)

-- the piece behind the list is what is added there
pub in_span-added : (items row : List ℕ) (span : Span) → span.from ≡ length items → span.count ≡ length row → in_span (items ++ row) span ≡ row
in_span-added items row span from count =
    ap (λ (n : ℕ). take n (drop span.from (items ++ row))) count ∙ ap (λ (n : ℕ). take (length row) (drop n (items ++ row))) from
    ∙ ap (take (length row)) (drop-append_seam items row) ∙ take_all (length row) row (omega arith)

-- one more piece
pub spans-pushed : (items row : List ℕ) (spans : List Span) (span : Span) → AreWithin (length items) spans → span.from ≡ length items → span.count ≡ length row
    → map (in_span (items ++ row)) (spans ++ span ∷ []) ≡ map (in_span items) spans ++ row ∷ []
spans-pushed items row spans span h from count =
    map-append (in_span (items ++ row)) spans (span ∷ [])
    ∙ ap (λ (ss : List (List ℕ)). ss ++ in_span (items ++ row) span ∷ []) (spans-grown items row spans h)
    ∙ ap (λ (s : List ℕ). map (in_span items) spans ++ s ∷ []) (in_span-added items row span from count)

-- a number of a row, from where the row lies
pub flat-at : (items : List ℕ) (spans : List Span) (i k x : ℕ) (span : Span) → span ≡ get_or spans i span → i < length spans → k < span.count → span.from + k < length items
    → x ≡ get_or items (span.from + k) x → Some x ≡ slice_get (get_or (map (in_span items) spans) i []) k
flat-at items spans i k x span is lt below inside e =
    let row : get_or (map (in_span items) spans) i [] ≡ in_span items span = span-row items spans i span lt ∙ ap (in_span items) (sym is) in
    ap Some e ∙ sym (slice_get-get_or items (span.from + k) x inside) ∙ sym (in_span-at items span k below) ∙ sym (ap (λ (r : List ℕ). slice_get r k) row)

-- a row lies within the items
pub flat-within : (size : ℕ) (spans : List Span) (i : ℕ) (span : Span) → span ≡ get_or spans i span → AreWithin size spans → i < length spans → span.from + span.count ≤ size
flat-within size spans i span is inv lt = subst (λ (s : Span). s.from + s.count ≤ size) (sym is) (span-within size spans i span inv lt)

-- a row that is added, or not
pub flat-invariant : (items row more : List ℕ) (spans now : List Span) (span : Span) (ok : Bool) → AreWithin (length items) spans → more ≡ items ++ row → now ≡ cond ok (spans ++ span ∷ []) spans
    → span.from ≡ length items → span.count ≡ length row → AreWithin (length more) now
flat-invariant items row more spans now span ok inv is pushed from count =
    let both : length (items ++ row) ≡ length items + length row = length-append items row in
    let size : length more ≡ length (items ++ row) = ap length is in
    let old : AreWithin (length more) spans = are-within (length items) (length more) spans (omega arith) inv in
    subst (AreWithin (length more)) (sym pushed) (by ok old)
  where
    by : (b : Bool) → AreWithin (length more) spans → AreWithin (length more) (cond b (spans ++ span ∷ []) spans)
    by true old = are-within_one (length more) spans span old
        (let both : length (items ++ row) ≡ length items + length row = length-append items row in let size : length more ≡ length (items ++ row) = ap length is in omega arith)
    by false old = old

pub flat-pushed : (items row more : List ℕ) (spans now : List Span) (span : Span) → AreWithin (length items) spans → more ≡ items ++ row → now ≡ spans ++ span ∷ []
    → span.from ≡ length items → span.count ≡ length row → map (in_span more) now ≡ map (in_span items) spans ++ row ∷ []
flat-pushed items row more spans now span inv is pushed from count =
    ap (λ (ss : List Span). map (in_span more) ss) pushed ∙ ap (λ (its : List ℕ). map (in_span its) (spans ++ span ∷ [])) is ∙ spans-pushed items row spans span inv from count

pub flat-kept : (items row more : List ℕ) (spans now : List Span) → AreWithin (length items) spans → more ≡ items ++ row → now ≡ spans → map (in_span more) now ≡ map (in_span items) spans
flat-kept items row more spans now inv is same = ap (λ (ss : List Span). map (in_span more) ss) same ∙ ap (λ (its : List ℕ). map (in_span its) spans) is ∙ spans-grown items row spans inv

-- ---- what tables say

absent_past : {A : Type 0} (xs : List A) (z : ℕ) → slice_get xs z ≡ None → length xs ≤ z
absent_past [] z e = omega arith
absent_past (x ∷ xs) zero e = absurd (cc e)
absent_past (x ∷ xs) (suc z) e = omega (arith, absent_past xs z e)

-- the item that a table of names says
pub named-listed : {A : Type 0} (pool : List A) (none : A) (table : List (List (List ℕ))) (m i z name : ℕ)
    → slice_get (get_or (get_or table m []) i []) z ≡ Some name → get_or (get_or (get_or (named_table pool none table) m []) i []) z none ≡ get_or pool name none
named-listed pool none table m i z name e =
    ap (λ (rows : List (List _)). get_or (get_or rows i []) z none) (row-map (map (named pool none)) table m)
    ∙ ap (λ (row : List _). get_or row z none) (row-map (named pool none) (get_or table m []) i)
    ∙ get_or_from_slice_get (map (named pool none) (get_or (get_or table m []) i [])) z (named pool none name) none (get-map (named pool none) (get_or (get_or table m []) i []) z name e)

pub named-unlisted : {A : Type 0} (pool : List A) (none : A) (table : List (List (List ℕ))) (m i z : ℕ)
    → slice_get (get_or (get_or table m []) i []) z ≡ None → get_or (get_or (get_or (named_table pool none table) m []) i []) z none ≡ none
named-unlisted pool none table m i z e =
    let past : length (get_or (get_or table m []) i []) ≤ z = absent_past (get_or (get_or table m []) i []) z e in
    ap (λ (rows : List (List _)). get_or (get_or rows i []) z none) (row-map (map (named pool none)) table m)
    ∙ ap (λ (row : List _). get_or row z none) (row-map (named pool none) (get_or table m []) i)
    ∙ get_or_past (map (named pool none) (get_or (get_or table m []) i [])) z none (let l = length-map (get_or (get_or table m []) i []) (named pool none) in omega arith)

-- the item that a table of numbers says which may be no names
pub option-listed : {A : Type 0} (pool : List A) (none : A) (rows : List (List ℕ)) (m i : ℕ)
    → get_or (get_or (get_or (option_rows pool none rows) m []) i []) 0 none ≡ get_or (option_named pool none (get_or (get_or rows m []) i 0)) 0 none
option-listed pool none rows m i =
    ap (λ (row : List (List _)). get_or (get_or row i []) 0 none) (row-map (option_named pool none) rows m)
    ∙ ap (λ (item : List _). get_or item 0 none) (item-map (option_named pool none) (get_or rows m []) i 0)

-- the item that rows of names say
pub named-row : {A : Type 0} (pool : List A) (none : A) (rows : List (List ℕ)) (m i : ℕ) → i < length (get_or (named_rows pool none rows) m [])
    → slice_get (get_or (named_rows pool none rows) m []) i ≡ Some (get_or pool (get_or (get_or rows m []) i 0) none)
named-row pool none rows m i lt =
    let e : get_or (named_rows pool none rows) m [] ≡ map (named pool none) (get_or rows m []) = row-map (named pool none) rows m in
    let l = length-map (get_or rows m []) (named pool none) in
    let same = ap length e in
    let below : i < length (get_or rows m []) = omega arith in
    ap (λ (row : List _). slice_get row i) e ∙ get-map (named pool none) (get_or rows m []) i (get_or (get_or rows m []) i 0) (slice_get-get_or (get_or rows m []) i 0 below)

-- ---- tables as they are made

map-copies : {A B : Type 0} (f : A → B) (count : ℕ) (x : A) → map f (replicate count x) ≡ replicate count (f x)
map-copies f zero x = refl
map-copies f (suc count) x = ap (λ (ys : List _). f x ∷ ys) (map-copies f count x)

map-twice : {A B C : Type 0} (f : B → C) (g : A → B) (h : A → C) → ((x : A) → f (g x) ≡ h x) → (xs : List A) → map f (map g xs) ≡ map h xs
map-twice f g h same [] = refl
map-twice f g h same (x ∷ xs) = ap (λ y. y ∷ map f (map g xs)) (same x) ∙ ap (λ ys. h x ∷ ys) (map-twice f g h same xs)

pub empty-slots : (n : ℕ) (methods : List Method) → named_table [] (no_members n) (map zero_slots_of methods) ≡ map (empty_slots_of n) methods
empty-slots n methods = map-twice (named_rows [] (no_members n)) zero_slots_of (empty_slots_of n)
    (λ (method : Method). map-twice (map (named [] (no_members n))) (λ (instr : Instr). replicate (slots_before method instr) 0) (λ (instr : Instr). replicate (slots_before method instr) (no_members n))
    (λ (instr : Instr). map-copies (named [] (no_members n)) (slots_before method instr) 0) method.code) methods

-- a number that is 0 or 1 says one item or none, where the pool is empty
few : {A : Type 0} (none : A) (n : ℕ) → n ≤ 1 → option_named [] none n ≡ replicate n none
few none zero h = refl
few none (suc zero) h = refl
few none (suc (suc n)) h = absurd (omega arith)

few-thrown : (instr : Instr) → throws_before instr ≤ 1
few-thrown instr = by instr.reached (throws_some instr.op)
  where
    by : (reached throws : Bool) → (if reached then (if throws then 1 else 0) else 0) ≤ 1
    by true true = omega arith
    by true false = omega arith
    by false throws = omega arith

few-calls : (op : Op) → calls_of op ≤ 1
few-calls (Call call) = omega arith
few-calls op = omega arith

pub empty-thrown : (n : ℕ) (methods : List Method) → option_rows [] (no_members n) (map zero_thrown_of methods) ≡ map (empty_thrown_of n) methods
empty-thrown n methods = map-twice (map (option_named [] (no_members n))) zero_thrown_of (empty_thrown_of n)
    (λ (method : Method). map-twice (option_named [] (no_members n)) throws_before (λ (instr : Instr). replicate (throws_before instr) (no_members n))
    (λ (instr : Instr). few (no_members n) (throws_before instr) (few-thrown instr)) method.code) methods

pub empty-calls : {A : Type 0} (none : A) (methods : List Method) → option_rows [] none (map zero_calls_of methods) ≡ map (λ (method : Method). map (λ (instr : Instr). replicate (calls_of instr.op) none) method.code) methods
empty-calls none methods = map-twice (map (option_named [] none)) zero_calls_of (λ (method : Method). map (λ (instr : Instr). replicate (calls_of instr.op) none) method.code)
    (λ (method : Method). map-twice (option_named [] none) (λ (instr : Instr). calls_of instr.op) (λ (instr : Instr). replicate (calls_of instr.op) none)
    (λ (instr : Instr). few none (calls_of instr.op) (few-calls instr.op)) method.code) methods

pub calls-made : {A : Type 0} (pool : List A) (none other : A) (numbers : List (List ℕ)) (methods : List Method) → pool ≡ [] → none ≡ other → numbers ≡ map zero_calls_of methods
    → option_rows pool none numbers ≡ map (λ (method : Method). map (λ (instr : Instr). replicate (calls_of instr.op) other) method.code) methods
calls-made pool none other numbers methods empty same is =
    ap (λ (ns : List (List ℕ)). option_rows pool none ns) is ∙ ap (λ (pl : List _). option_rows pl none (map zero_calls_of methods)) empty ∙ ap (λ (x : _). option_rows [] x (map zero_calls_of methods)) same ∙ empty-calls other methods

pub slots-made : (n : ℕ) (pool : List (List Bool)) (none : List Bool) (names : List (List (List ℕ))) (methods : List Method) → pool ≡ [] → none ≡ no_members n → names ≡ map zero_slots_of methods
    → named_table pool none names ≡ map (empty_slots_of n) methods
slots-made n pool none names methods empty same is =
    ap (λ (ns : List (List (List ℕ))). named_table pool none ns) is ∙ ap (λ (pl : List (List Bool)). named_table pl none (map zero_slots_of methods)) empty
    ∙ ap (λ (x : List Bool). named_table [] x (map zero_slots_of methods)) same ∙ empty-slots n methods

pub thrown-made : (n : ℕ) (pool : List (List Bool)) (none : List Bool) (numbers : List (List ℕ)) (methods : List Method) → pool ≡ [] → none ≡ no_members n → numbers ≡ map zero_thrown_of methods
    → option_rows pool none numbers ≡ map (empty_thrown_of n) methods
thrown-made n pool none numbers methods empty same is =
    ap (λ (ns : List (List ℕ)). option_rows pool none ns) is ∙ ap (λ (pl : List (List Bool)). option_rows pl none (map zero_thrown_of methods)) empty
    ∙ ap (λ (x : List Bool). option_rows [] x (map zero_thrown_of methods)) same ∙ empty-thrown n methods

-- the numbers of methods, of one method more
pub method_names-more : (m : ℕ) (methods : List Method) (method : Method) → method_names m (methods ++ method ∷ []) ≡ method_names m methods ++ replicate (length method.code) (m + length methods) ∷ []
method_names-more m [] method = ap (λ (n : ℕ). replicate (length method.code) n ∷ []) (let e : m ≡ m + length {A = Method} [] = omega arith in e)
method_names-more m (first ∷ methods) method =
    ap (λ (rows : List (List ℕ)). replicate (length first.code) m ∷ rows) (method_names-more (suc m) methods method
    ∙ ap (λ (n : ℕ). method_names (suc m) methods ++ replicate (length method.code) n ∷ []) (let e : suc m + length methods ≡ m + length (first ∷ methods) = omega arith in e))

-- each instruction of a method has the method's item
pub named-methods : {A : Type 0} (f : Method → A) (pool : List A) (none : A) (m : ℕ) (methods : List Method)
    → ((k : ℕ) (method : Method) → slice_get methods k ≡ Some method → get_or pool (m + k) none ≡ f method)
    → named_rows pool none (method_names m methods) ≡ map (λ (method : Method). replicate (length method.code) (f method)) methods
named-methods f pool none m [] at = refl
named-methods f pool none m (method ∷ methods) at =
    ap (λ (row : List _). row ∷ named_rows pool none (method_names (suc m) methods))
    (map-copies (named pool none) (length method.code) m ∙ ap (replicate (length method.code)) (ap (λ (n : ℕ). get_or pool n none) (let e : m ≡ m + 0 = omega arith in e) ∙ at 0 method refl))
    ∙ ap (λ (rows : List (List _)). replicate (length method.code) (f method) ∷ rows)
    (named-methods f pool none (suc m) methods (λ k other e. ap (λ (n : ℕ). get_or pool n none) (let same : suc m + k ≡ m + suc k = omega arith in same) ∙ at (suc k) other e))

pub named-by_method : {A : Type 0} (f : Method → A) (none : A) (methods : List Method)
    → named_rows (map f methods) none (method_names 0 methods) ≡ map (λ (method : Method). replicate (length method.code) (f method)) methods
named-by_method f none methods =
    named-methods f (map f methods) none 0 methods (λ k method e. get_or_from_slice_get (map f methods) (0 + k) (f method) none (get-map f methods (0 + k) method (let same : 0 + k ≡ k = omega arith in ap (slice_get methods) same ∙ e)))
