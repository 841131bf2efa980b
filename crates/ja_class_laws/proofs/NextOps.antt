-- The cells of slots behind each operation.
use Rattle.std.proofs.Common.{◌≡◌, inl, inr, ℕ, zero, suc, ◌+◌, ◌-◌, ◌<◌, ◌≤◌, Bool, true, false, List, [], ◌∷◌, ◌++◌, length, map, replicate, get_or, set, refl, sym, ap, subst, ◌∙◌, Option, Some, None, true≢false, arith}
use Rattle.std.specs.Prelude.{slice_get, All, if◌then◌else◌}
use Rattle.std.proofs.lemmas.Bool.{cases_lt, cases_eq}
use Rattle.std.proofs.lemmas.List.{get_or-append_right, get_or_append_left, get_or-set_same, get_or-set_other, get_or-take, length-take-le, get_or_past, get_or-map, get_or-drop, length-map}
use Rattle.std.proofs.lemmas.Option.{slice_get-get_or}
use Rattle.ja_base.specs.declared.java_type.Kind.{Kind}
use Rattle.ja_base.specs.declared.java_type.Kind.TheVariants.{P1, P2, R, T}
use Rattle.ja_base.specs.declared.java_type.JavaType.{JavaType}
use Rattle.ja_ir.specs.declared.program.Parts.{Parts}
use Rattle.ja_ir.specs.declared.op.Op.{Op}
use Rattle.ja_ir.specs.declared.op.Op.TheVariants.{Nop, Const, Text, New, Load, Store, ArrLoad, ArrStore, Shuffle, Mix, Branch, Return, GetStatic, PutStatic, GetField, PutField, Call, NewArray, ArrLen, Throw, Cast, InstanceOf, Monitor}
use Rattle.ja_ir.specs.Lookup.{OpAt, Leads}
use Rattle.ja_ir.specs.Operations.{pops, arguments, result_count, FindsOperands, UsesLocals}
use Rattle.ja_ir.specs.Lookup.{is_abstract, is_interface}
use Rattle.ja_ir.specs.Tokens.{text_token, rarr_token}
use Rattle.ja_facts.specs.Least.{Each}
use Rattle.ja_facts.proofs.LeastLaws.{Least-is_solution}
use Rattle.ja_facts.specs.Slots.{Slot, Local, OnStack, KeepsLocal, loaded, stored, shuffled}
use Rattle.ja_facts.specs.ClassSets as class_sets
use Rattle.ja_facts.specs.ClassSets.{Rule, InSlot, Reached, InField, InBag, CanBeMade}
use Rattle.ja_facts.specs.Analyses.{Classes}
use Rattle.ja_network.specs.declared.cell.Cell.{Cell}
use Rattle.ja_network.specs.declared.cell.Cell.TheVariants.{Nothing, Single, Field, Bag, Pushed}
use Rattle.ja_cells.specs.Names.{locals_of}
use Rattle.ja_cells.specs.Rows.{is_made, without_last, last_of, cell_in, pushed_cells, made_cell, outer_token, next_row}
use Rattle.ja_class_laws.proofs.Meaning.{MeansToken, slot_of}
use Rattle.ja_class_laws.proofs.NextNames.{slot-local, slot-stack, moves, kept-sound, plain-sound}

-- no token is in a cell of nothing
nothing-at : (p : Parts) {A : Type 0} (n y t : ℕ) → MeansToken p (get_or (replicate n Nothing) y Nothing) t → A
nothing-at p n y t h = absurd (subst (λ (c : Cell). MeansToken p c t) (copies n y) h)
  where
    copies : (n y : ℕ) → get_or (replicate n Nothing) y Nothing ≡ Nothing
    copies zero y = refl
    copies (suc n) zero = refl
    copies (suc n) (suc y) = copies n y

module _ (p : Parts) (m i j height : ℕ) (row : List Cell) (reached : Classes p (Reached m i)) (leads : Leads p m i j)
    (size : length row ≡ locals_of (slice_get p.methods m) + height)
    (sound : (y t : ℕ) → MeansToken p (get_or row y Nothing) t → Classes p (InSlot m i (slot_of p m y) t)) where
  close : (ps : List class_sets.Fact) (f : class_sets.Fact) → Rule p ps f → Each (Classes p) ps → Classes p f
  close = Least-is_solution (Rule p)

  -- what is pushed by an operation that pushes one value or none
  pushed-one : (c : Cell) (under : ℕ) → ((t : ℕ) → MeansToken p c t → Classes p (InSlot m j (OnStack under) t))
      → (y t : ℕ) → MeansToken p (get_or (c ∷ []) y Nothing) t → Classes p (InSlot m j (OnStack (under + y)) t)
  pushed-one c under means zero t h = let e : under ≡ under + 0 = omega arith in subst (λ n. Classes p (InSlot m j (OnStack n) t)) e (means t h)
  pushed-one c under means (suc y) t h = absurd h

  pushed-none : (n under : ℕ) → (y t : ℕ) → MeansToken p (get_or (replicate n Nothing) y Nothing) t → Classes p (InSlot m j (OnStack (under + y)) t)
  pushed-none n under y t h = nothing-at p n y t h

  pushed-copies : (c : Cell) (n under : ℕ) → ((t : ℕ) → MeansToken p c t → Classes p (InSlot m j (OnStack under) t)) → n ≤ 1
      → (y t : ℕ) → MeansToken p (get_or (replicate n c) y Nothing) t → Classes p (InSlot m j (OnStack (under + y)) t)
  pushed-copies c zero under means le y t h = absurd h
  pushed-copies c (suc zero) under means le y t h = pushed-one c under means y t h
  pushed-copies c (suc (suc n)) under means le y t h = absurd (omega arith)

  -- a field's tokens, those of bags, new objects and arrays, and what a call or a cast pushes
  got : (f k t : ℕ) → OpAt p m i (GetField (record { 0 = f })) (suc k) → Classes p (InField f t) → Classes p (InSlot m j (OnStack k) t)
  got f k t at h = close (Reached m i ∷ InField f t ∷ []) (InSlot m j (OnStack k) t) (class_sets.got at leads) (reached, (h, tt))

  got_static : (f t : ℕ) → OpAt p m i (GetStatic (record { 0 = f })) height → Classes p (InField f t) → Classes p (InSlot m j (OnStack height) t)
  got_static f t at h = close (Reached m i ∷ InField f t ∷ []) (InSlot m j (OnStack height) t) (class_sets.got_static at leads) (reached, (h, tt))

  element_got : (k t : ℕ) → OpAt p m i (ArrLoad R) (suc (suc k)) → Classes p (InBag (rarr_token p) t) → Classes p (InSlot m j (OnStack k) t)
  element_got k t at h = close (Reached m i ∷ InBag (rarr_token p) t ∷ []) (InSlot m j (OnStack k) t) (class_sets.element_got at leads) (reached, (h, tt))

  can-be-made : (token : ℕ) → is_made (slice_get p.classes token) ≡ true → CanBeMade p token
  can-be-made token is class found = by (is_abstract class.flags) (is_interface class.flags) refl refl (sym (ap is_made found) ∙ is)
    where
      by : (a b : Bool) → is_abstract class.flags ≡ a → is_interface class.flags ≡ b → (if is_abstract class.flags then false else (if is_interface class.flags then false else true)) ≡ true
          → (is_abstract class.flags ≡ false) × (is_interface class.flags ≡ false)
      by true b e f h = absurd (true≢false (sym h ∙ ap (λ (x : Bool). if x then false else (if is_interface class.flags then false else true)) e))
      by false true e f h = absurd (true≢false (sym h ∙ ap (λ (x : Bool). if x then false else (if is_interface class.flags then false else true)) e ∙ ap (λ (x : Bool). if x then false else true) f))
      by false false e f h = (e, f)

  made : (token t : ℕ) → OpAt p m i (New (record { 0 = token })) height → MeansToken p (made_cell p token) t → Classes p (InSlot m j (OnStack height) t)
  made token t at h = by (is_made (slice_get p.classes token)) refl h
    where
      by : (b : Bool) → is_made (slice_get p.classes token) ≡ b → MeansToken p (if b then Single token else Nothing) t → Classes p (InSlot m j (OnStack height) t)
      by true e same = subst (λ n. Classes p (InSlot m j (OnStack height) n)) (sym same) (close (Reached m i ∷ []) (InSlot m j (OnStack height) token) (class_sets.made at leads (can-be-made token e)) (reached, tt))
      by false e none = absurd none

  is-outer : (last dimensions : ℕ) → class_sets.IsOuter p last dimensions (outer_token p last dimensions)
  is-outer last zero = class_sets.single (omega arith)
  is-outer last (suc zero) = class_sets.single (omega arith)
  is-outer last (suc (suc n)) = class_sets.nested (omega arith)

  array_made : (last dimensions under t : ℕ) → OpAt p m i (NewArray (record { 0 = last }) dimensions) height → height ≡ under + dimensions → t ≡ outer_token p last dimensions
      → Classes p (InSlot m j (OnStack under) t)
  array_made last dimensions under t at lies same = subst (λ n. Classes p (InSlot m j (OnStack under) n)) (sym same)
      (close (Reached m i ∷ []) (InSlot m j (OnStack under) (outer_token p last dimensions)) (class_sets.array_made at leads lies (is-outer last dimensions)) (reached, tt))

  -- an operation that copies nothing but what it leaves
  plain : (op : Op) → OpAt p m i op height → pops op ≤ height → ((l : ℕ) → KeepsLocal op l) → ((l t : ℕ) → class_sets.Passes p op height (Local l) t)
      → ((k t : ℕ) → pops op + k < height → class_sets.Passes p op height (OnStack k) t)
      → ((y t : ℕ) → MeansToken p (get_or (pushed_cells p m i op) y Nothing) t → Classes p (InSlot m j (OnStack ((height - pops op) + y)) t))
      → (y t : ℕ) → MeansToken p (get_or (without_last (pops op) row ++ pushed_cells p m i op) y Nothing) t → Classes p (InSlot m j (slot_of p m y) t)
  plain op at enough = plain-sound p m i j height op row reached at leads size enough sound

  less : (k n : ℕ) → height ≡ k + n → (height - n) ≡ k
  less k n e = omega arith

  kept : (op : Op) → OpAt p m i op height → pops op ≤ height → ((l t : ℕ) → class_sets.Passes p op height (Local l) t) → ((k t : ℕ) → pops op + k < height → class_sets.Passes p op height (OnStack k) t)
      → (y t : ℕ) → (y < locals_of (slice_get p.methods m) → KeepsLocal op y) → y < length row - pops op → Classes p (InSlot m i (slot_of p m y) t) → Classes p (InSlot m j (slot_of p m y) t)
  kept op at enough = kept-sound p m i j height op row reached at leads size enough sound

  -- a load pushes its local
  load-sound : (kind : Kind) (l : ℕ) → OpAt p m i (Load kind l) height → l < locals_of (slice_get p.methods m) → (y t : ℕ) → MeansToken p (get_or (row ++ get_or row l Nothing ∷ []) y Nothing) t
      → Classes p (InSlot m j (slot_of p m y) t)
  load-sound kind l at uses y t h = elim (cases_lt y (length row)) [
    | inl below ↦ kept (Load kind l) at (omega arith) (λ x u. tt) (λ k u lt. tt) y t (λ local. tt) (omega arith)
        (sound y t (subst (λ (c : Cell). MeansToken p c t) (get_or_append_left row (get_or row l Nothing ∷ []) Nothing y below) h))
    | inr past ↦ pushed (y - length row) refl past (subst (λ (c : Cell). MeansToken p c t) (get_or-append_right row (get_or row l Nothing ∷ []) (length row) y Nothing refl past) h)
  ]
    where
      top : Classes p (InSlot m i (slot_of p m l) t) → Classes p (InSlot m j (OnStack height) t)
      top there = moves p m i j height (Load kind l) row reached at leads size (omega arith) sound (Local l) (OnStack height) t loaded tt (subst (λ (s : Slot). Classes p (InSlot m i s t)) (slot-local p m l uses) there)

      pushed : (n : ℕ) → n ≡ y - length row → length row ≤ y → MeansToken p (get_or (get_or row l Nothing ∷ []) n Nothing) t → Classes p (InSlot m j (slot_of p m y) t)
      pushed zero e past means =
          let is : y ≡ locals_of (slice_get p.methods m) + height = omega arith in
          subst (λ (s : Slot). Classes p (InSlot m j s t)) (sym (ap (slot_of p m) is ∙ slot-stack p m height)) (top (sound l t means))
      pushed (suc n) e past none = absurd none

  -- the value of the stack that is above so many
  on-stack : (k t : ℕ) → MeansToken p (get_or row (locals_of (slice_get p.methods m) + k) Nothing) t → Classes p (InSlot m i (OnStack k) t)
  on-stack k t h = subst (λ (s : Slot). Classes p (InSlot m i s t)) (slot-stack p m k) (sound (locals_of (slice_get p.methods m) + k) t h)

  -- a store pops into its local
  store-sound : (kind : Kind) (l : ℕ) → OpAt p m i (Store kind l) height → 1 ≤ height → l < locals_of (slice_get p.methods m) → (y t : ℕ)
      → MeansToken p (get_or (set (without_last 1 row) l (cell_in row (length row - 1))) y Nothing) t → Classes p (InSlot m j (slot_of p m y) t)
  store-sound kind l at enough uses y t h =
      let left : length (without_last 1 row) ≡ length row - 1 = length-take-le (length row - 1) row (omega arith) in
      elim (cases_eq y l) [
        | inl e ↦
            let in_left : l < length (without_last 1 row) = omega arith in
            let same : get_or (set (without_last 1 row) l (cell_in row (length row - 1))) y Nothing ≡ get_or row (length row - 1) Nothing = ap (λ n. get_or (set (without_last 1 row) l (cell_in row (length row - 1))) n Nothing) e ∙ get_or-set_same (without_last 1 row) l (cell_in row (length row - 1)) Nothing in_left in
            let top : length row - 1 ≡ locals_of (slice_get p.methods m) + (height - 1) = omega arith in
            let there : Classes p (InSlot m i (OnStack (height - 1)) t) = on-stack (height - 1) t (subst (λ n. MeansToken p (get_or row n Nothing) t) top (subst (λ (c : Cell). MeansToken p c t) same h)) in
            subst (λ (s : Slot). Classes p (InSlot m j s t)) (sym (ap (slot_of p m) e ∙ slot-local p m l uses))
            (moves p m i j height (Store kind l) row reached at leads size enough sound (OnStack (height - 1)) (Local l) t (stored (omega arith)) tt there)
        | inr ne ↦
            let other : get_or (set (without_last 1 row) l (cell_in row (length row - 1))) y Nothing ≡ get_or (without_last 1 row) y Nothing = get_or-set_other (without_last 1 row) l y (cell_in row (length row - 1)) Nothing ne in
            elim (cases_lt y (length row - 1)) [
              | inl below ↦ kept (Store kind l) at enough (λ x u. tt) (λ k u lt. tt) y t (λ local. ne) below
                  (sound y t (subst (λ (c : Cell). MeansToken p c t) (other ∙ get_or-take (length row - 1) row y Nothing below) h))
              | inr past ↦ absurd (subst (λ (c : Cell). MeansToken p c t) (other ∙ get_or_past (without_last 1 row) y Nothing (omega arith)) h)
            ]
      ]

  -- a shuffle pushes some of what it popped
  shuffle-sound : (n : ℕ) (pushed : List ℕ) → OpAt p m i (Shuffle n pushed) height → (n ≤ height) × All (λ k. k < n) pushed → (y t : ℕ)
      → MeansToken p (get_or (without_last n row ++ map (cell_in (last_of n row)) pushed) y Nothing) t → Classes p (InSlot m j (slot_of p m y) t)
  shuffle-sound n pushed at enough y t h =
      let fits : n ≤ height = enough.0 in
      let left : length (without_last n row) ≡ length row - n = length-take-le (length row - n) row (omega arith) in
      elim (cases_lt y (length row - n)) [
        | inl below ↦
            let in_left : y < length (without_last n row) = omega arith in
            kept (Shuffle n pushed) at fits (λ x u. tt) (λ k u lt. tt) y t (λ local. tt) below
            (sound y t (subst (λ (c : Cell). MeansToken p c t)
            (get_or_append_left (without_last n row) (map (cell_in (last_of n row)) pushed) Nothing y in_left ∙ get_or-take (length row - n) row y Nothing below) h))
        | inr past ↦ copied (y - (length row - n)) (omega arith)
            (subst (λ (c : Cell). MeansToken p c t) (get_or-append_right (without_last n row) (map (cell_in (last_of n row)) pushed) (length row - n) y Nothing left past) h)
      ]
    where
      copied : (x : ℕ) → y ≡ (length row - n) + x → MeansToken p (get_or (map (cell_in (last_of n row)) pushed) x Nothing) t → Classes p (InSlot m j (slot_of p m y) t)
      copied x is means = elim (cases_lt x (length pushed)) [
        | inl below ↦
            let fits : n ≤ height = enough.0 in
            let k : ℕ = get_or pushed x 0 in
            let found : slice_get pushed x ≡ Some (get_or pushed x 0) = slice_get-get_or pushed x 0 below in
            let lies : height ≡ (height - n) + n = omega arith in
            let from : (length row - n) + get_or pushed x 0 ≡ locals_of (slice_get p.methods m) + ((height - n) + get_or pushed x 0) = omega arith in
            let means_cell : MeansToken p (get_or row (locals_of (slice_get p.methods m) + ((height - n) + get_or pushed x 0)) Nothing) t =
            subst (λ a. MeansToken p (get_or row a Nothing) t) from (subst (λ (c : Cell). MeansToken p c t) (get_or-map (cell_in (last_of n row)) pushed x 0 Nothing below ∙ get_or-drop (length row - n) row (get_or pushed x 0) Nothing) means) in
            let to : y ≡ locals_of (slice_get p.methods m) + ((height - n) + x) = omega arith in
            subst (λ (s : Slot). Classes p (InSlot m j s t)) (sym (ap (slot_of p m) to ∙ slot-stack p m ((height - n) + x)))
            (moves p m i j height (Shuffle n pushed) row reached at leads size fits sound (OnStack ((height - n) + get_or pushed x 0)) (OnStack ((height - n) + x)) t
            (shuffled (height - n) x (get_or pushed x 0) lies found) tt (on-stack ((height - n) + get_or pushed x 0) t means_cell))
        | inr past ↦ absurd (subst (λ (c : Cell). MeansToken p c t) (get_or_past (map (cell_in (last_of n row)) pushed) x Nothing (let l = length-map pushed (cell_in (last_of n row)) in omega arith)) means)
      ]

  pub next-sound : (op : Op) → OpAt p m i op height → FindsOperands op height → UsesLocals op (locals_of (slice_get p.methods m)) → (y t : ℕ)
      → MeansToken p (get_or (next_row p m i op row) y Nothing) t → Classes p (InSlot m j (slot_of p m y) t)
  next-sound Nop at enough uses = plain Nop at enough (λ l. tt) (λ l t. tt) (λ k t lt. tt) (pushed-none 0 (height - 0))
  next-sound (Const kind) at enough uses = plain (Const kind) at enough (λ l. tt) (λ l t. tt) (λ k t lt. tt) (pushed-none 1 (height - 0))
  next-sound Text at enough uses = plain Text at enough (λ l. tt) (λ l t. tt) (λ k t lt. tt)
      (pushed-one (Single (text_token p)) (height - 0) (λ t same. let e : height - 0 ≡ height = omega arith in
      subst (λ n. Classes p (InSlot m j (OnStack n) t)) (sym e) (subst (λ n. Classes p (InSlot m j (OnStack height) n)) (sym same) (close (Reached m i ∷ []) (InSlot m j (OnStack height) (text_token p)) (class_sets.text_made at leads) (reached, tt)))))
  next-sound (New token) at enough uses = plain (New token) at enough (λ l. tt) (λ l t. tt) (λ k t lt. tt)
      (pushed-one (made_cell p token.0) (height - 0) (λ t h. let e : height - 0 ≡ height = omega arith in subst (λ n. Classes p (InSlot m j (OnStack n) t)) (sym e) (made token.0 t at h)))
  next-sound (Load kind l) at enough uses = load-sound kind l at uses
  next-sound (Store kind l) at enough uses = store-sound kind l at enough uses
  next-sound (ArrLoad P1) at enough uses = plain (ArrLoad P1) at enough (λ l. tt) (λ l t. tt) (λ k t lt. tt) (pushed-none 1 (height - 2))
  next-sound (ArrLoad P2) at enough uses = plain (ArrLoad P2) at enough (λ l. tt) (λ l t. tt) (λ k t lt. tt) (pushed-none 1 (height - 2))
  next-sound (ArrLoad T) at enough uses = plain (ArrLoad T) at enough (λ l. tt) (λ l t. tt) (λ k t lt. tt) (pushed-none 1 (height - 2))
  next-sound (ArrLoad R) at enough uses = plain (ArrLoad R) at enough (λ l. tt) (λ l t. tt) (λ k t lt. tt)
      (pushed-one (Bag (rarr_token p)) (height - 2) (λ t h. let e : height ≡ suc (suc (height - 2)) = omega arith in element_got (height - 2) t (subst (OpAt p m i (ArrLoad R)) e at) h))
  next-sound (ArrStore kind) at enough uses = plain (ArrStore kind) at enough (λ l. tt) (λ l t. tt) (λ k t lt. tt) (pushed-none 0 (height - 3))
  next-sound (Shuffle n pushed) at enough uses = shuffle-sound n pushed at enough
  next-sound (Mix n kind throws) at enough uses = plain (Mix n kind throws) at enough (λ l. tt) (λ l t. tt) (λ k t lt. tt) (pushed-none 1 (height - n))
  next-sound (Branch n) at enough uses = plain (Branch n) at enough (λ l. tt) (λ l t. tt) (λ k t lt. tt) (pushed-none 0 (height - n))
  next-sound (Return kind) at enough uses = plain (Return kind) at enough (λ l. tt) (λ l t. tt) (λ k t lt. tt) (pushed-none 0 (height - pops (Return kind)))
  next-sound (GetStatic field) at enough uses = plain (GetStatic field) at enough (λ l. tt) (λ l t. tt) (λ k t lt. tt)
      (pushed-one (Field field.0) (height - 0) (λ t h. let e : height - 0 ≡ height = omega arith in subst (λ n. Classes p (InSlot m j (OnStack n) t)) (sym e) (got_static field.0 t at h)))
  next-sound (PutStatic field) at enough uses = plain (PutStatic field) at enough (λ l. tt) (λ l t. tt) (λ k t lt. tt) (pushed-none 0 (height - 1))
  next-sound (GetField field) at enough uses = plain (GetField field) at enough (λ l. tt) (λ l t. tt) (λ k t lt. tt)
      (pushed-one (Field field.0) (height - 1) (λ t h. let e : height ≡ suc (height - 1) = omega arith in got field.0 (height - 1) t (subst (OpAt p m i (GetField field)) e at) h))
  next-sound (PutField field) at enough uses = plain (PutField field) at enough (λ l. tt) (λ l t. tt) (λ k t lt. tt) (pushed-none 0 (height - 2))
  next-sound (Call call) at enough uses = plain (Call call) at enough (λ l. tt) (λ l t. tt) (λ k t lt. tt)
      (pushed-copies (Pushed m i) (result_count call.result) (height - arguments call) (λ t h. h j height (height - arguments call) (Call call) at (omega arith) leads) (few call.result))
    where
      few : (r : Option JavaType) → result_count r ≤ 1
      few None = omega arith
      few (Some x) = omega arith
  next-sound (NewArray last dimensions) at enough uses = plain (NewArray last dimensions) at enough (λ l. tt) (λ l t. tt) (λ k t lt. tt)
      (pushed-one (Single (outer_token p last.0 dimensions)) (height - dimensions) (λ t same. array_made last.0 dimensions (height - dimensions) t at (omega arith) same))
  next-sound ArrLen at enough uses = plain ArrLen at enough (λ l. tt) (λ l t. tt) (λ k t lt. tt) (pushed-none 1 (height - 1))
  next-sound Throw at enough uses = plain Throw at enough (λ l. tt) (λ l t. tt) (λ k t lt. tt) (pushed-none 0 (height - 1))
  next-sound (Cast name) at enough uses = plain (Cast name) at enough (λ l. tt) (λ l t. tt) (λ k t lt e. absurd (omega arith))
      (pushed-one (Pushed m i) (height - 1) (λ t h. h j height (height - 1) (Cast name) at (omega arith) leads))
  next-sound InstanceOf at enough uses = plain InstanceOf at enough (λ l. tt) (λ l t. tt) (λ k t lt. tt) (pushed-none 1 (height - 1))
  next-sound Monitor at enough uses = plain Monitor at enough (λ l. tt) (λ l t. tt) (λ k t lt. tt) (pushed-none 0 (height - 1))
