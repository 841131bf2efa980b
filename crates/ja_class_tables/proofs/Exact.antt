-- What the tables have that are made of names.
use Rattle.std.proofs.Common.{◌≡◌, ◌↔◌, inl, inr, ℕ, zero, suc, ◌<◌, ◌≤◌, Bool, true, false, List, [], ◌∷◌, Option, Some, None, length, map, get_or, refl, sym, ap, subst, ◌∙◌, true≢false, arith}
use Rattle.std.specs.Prelude.{slice_get, if◌then◌else◌}
use Rattle.std.proofs.lemmas.Bool.{cases_lt, cases_Bool}
use Rattle.std.proofs.lemmas.List.{get_or_default, get_or_past, get_or-replicate, length-replicate}
use Rattle.std.proofs.lemmas.Option.{get_or_from_slice_get, same_Some, none-some, slice_get_past}
use Rattle.ja_ir.specs.declared.program.Parts.{Parts}
use Rattle.ja_ir.specs.declared.method.Method.{Method}
use Rattle.ja_ir.specs.declared.method.Instr.{Instr}
use Rattle.ja_ir.specs.declared.op.Op.{Op}
use Rattle.ja_ir.specs.declared.op.Op.TheVariants.{Nop, Const, Text, New, Load, Store, ArrLoad, ArrStore, Shuffle, Mix, Branch, Return, GetStatic, PutStatic, GetField, PutField, Call, NewArray, ArrLen, Throw, Cast, InstanceOf, Monitor}
use Rattle.ja_ir.specs.declared.op.CallOp.{CallOp}
use Rattle.ja_ir.specs.Lookup.{instr_at}
use Rattle.ja_ir.specs.Params.{param_count}
use Rattle.ja_sets.specs.Sets.{Has}
use Rattle.ja_facts.specs.declared.targets.Targets.{Targets}
use Rattle.ja_facts.specs.ClassTables.{ClassTable, token_count, no_members, slot_set, thrown_set, param_set, result_set, out_set, field_set, bag_set, empty_classes}
use Rattle.ja_facts.specs.FactTables.{GraphTable, is_reached, targets_at, takers_at, no_targets}
use Rattle.ja_facts.specs.Listing.{listed_at}
use Rattle.ja_facts.specs.Shared.{named, named_table, option_named, option_rows}
use Rattle.ja_facts.specs.Told.{IsCallAt}
use Rattle.ja_network.specs.declared.cell.Cell.{Cell}
use Rattle.ja_network.specs.declared.cell.Cell.TheVariants.{Field, Bag, Param, Answer, Out, Thrown, Takers}
use Rattle.ja_network.specs.declared.network.Network.{Network}
use Rattle.ja_network.specs.Facts.{HasToken, Tells, events_of}
use Rattle.ja_cells.specs.Rows.{cell_in}
use Rattle.ja_cells.specs.Names.{Names, row_at}
use Rattle.ja_class_tables.specs.declared.numbers.Part.TheVariants.{OfThrown, OfTakers}
use Rattle.ja_class_tables.specs.Reads.{HasExactly, IsBefore, IsParam, MayRun, ReadsReached, ReadsSets, ReadsGraph}
use Rattle.ja_class_tables.specs.InnerPool.{IsSetOf, AreNamed, AreSlotsNamed, AreAllNumbers, IsNumber, cells_before, is_call, part_of, row_of}
use Rattle.ja_class_tables.specs.declared.notes.Notes.{Notes}
use Rattle.ja_class_tables.specs.InnerMembers.{AreSetsOf, params_in, HasParams, HasResults, HasFields, HasBags, HasMembers}
use Rattle.ja_class_tables.specs.InnerNotes.{IsInOrder, IsNoted, IsSaid, nowhere, somewhere, AreAllTargets, item_at, noted_at}

-- ---- sets

none-has : (n t : ℕ) → Has (no_members n) t → ⊥
none-has n t has = elim (cases_lt t n) [
  | inl lt ↦ true≢false (sym has ∙ get_or-replicate n t false false lt)
  | inr past ↦ true≢false (sym has ∙ get_or_past (no_members n) t false (let e = length-replicate n false in omega arith))
]

-- the empty set has exactly nothing
exact-none : (n : ℕ) (S : ℕ → Type 0) (set : List Bool) → set ≡ no_members n → ((t : ℕ) → S t → ⊥) → HasExactly n S set
exact-none n S set is none = record {
  size = ap length is ∙ length-replicate n false;
  each = λ t. (λ has. absurd (none-has n t (subst (λ (s : List Bool). Has s t) is has)), λ s. absurd (none t s));
}

-- the same where other words say the same
pub exact-as : (n : ℕ) (S R : ℕ → Type 0) (set : List Bool) → ((t : ℕ) → S t ↔ R t) → HasExactly n S set → HasExactly n R set
exact-as n S R set same exact = record {
  size = exact.size;
  each = λ t. (λ has. (same t).0 ((exact.each t).0 has), λ r. (exact.each t).1 ((same t).1 r));
}

-- ---- rows of names

map-at : {A B : Type 0} (f : A → B) (xs : List A) (k : ℕ) (d : A) → get_or (map f xs) k (f d) ≡ f (get_or xs k d)
map-at f [] k d = refl
map-at f (x ∷ xs) zero d = refl
map-at f (x ∷ xs) (suc k) d = map-at f xs k d

-- a slot's set, by the name in its row
named-slot : {A : Type 0} (pool : List A) (none : A) (slots : List (List (List ℕ))) (m i z : ℕ)
    → listed_at (named_table pool none slots) m i z none ≡ get_or (map (named pool none) (row_of (row_of slots m) i)) z none
named-slot pool none slots m i z =
    ap (λ rows. get_or (get_or rows i []) z none) (map-at (map (map (named pool none))) slots m [])
    ∙ ap (λ row. get_or row z none) (map-at (map (named pool none)) (row_of slots m) i [])

-- what is said of an instruction by its number
numbered : {A : Type 0} (pool : List A) (none : A) (numbers : List (List ℕ)) (m i : ℕ)
    → listed_at (option_rows pool none numbers) m i 0 none ≡ get_or (option_named pool none (get_or (row_of numbers m) i 0)) 0 none
numbered pool none numbers m i =
    ap (λ rows. get_or (get_or rows i []) 0 none) (map-at (map (option_named pool none)) numbers m [])
    ∙ ap (λ items. get_or items 0 none) (map-at (option_named pool none) (row_of numbers m) i 0)

-- the token is in the cell at a place of a row
abbrev pub InRow : Network → List Cell → (z t : ℕ) → Type 0
InRow net cells z t = (z < length cells) × Tells net (HasToken (cell_in cells z) t)

exact-row : (net : Network) (pool : List (List Bool)) (none : List Bool) → none ≡ no_members net.tokens → (cells : List Cell) (row : List ℕ) → AreNamed net pool cells row → (z : ℕ)
    → HasExactly net.tokens (InRow net cells z) (get_or (map (named pool none) row) z none)
exact-row net pool none empty [] [] named z = exact-none net.tokens (InRow net [] z) none empty (λ t h. let lt = h.0 in omega arith)
exact-row net pool none empty [] (n ∷ row) named z = absurd named
exact-row net pool none empty (c ∷ cells) [] named z = absurd named
exact-row net pool none empty (c ∷ cells) (n ∷ row) named zero =
    let set : get_or pool n none ≡ named.0.set = get_or_from_slice_get pool n named.0.set none named.0.found in
    exact-as net.tokens (λ t. Tells net (HasToken c t)) (InRow net (c ∷ cells) zero) (get_or pool n none) (λ t. (λ h. (omega arith, h), λ h. h.1))
    (subst (IsSetOf net c) (sym set) named.0.exact)
exact-row net pool none empty (c ∷ cells) (n ∷ row) named (suc z) =
    exact-as net.tokens (InRow net cells z) (InRow net (c ∷ cells) (suc z)) (get_or (map (λ x. get_or pool x none) row) z none)
    (λ t. (λ h. (let lt = h.0 in omega arith, h.1), λ h. (let lt = h.0 in omega arith, h.1)))
    (exact-row net pool none empty cells row named.1 z)

-- the cells of a slot, where the instruction may run
before-cells : (p : Parts) (names : Names) (net : Network) (graph : GraphTable) → ReadsReached p net graph → (m i z t : ℕ) → InRow net (cells_before names graph m i) z t ↔ IsBefore p names net m i z t
before-cells p names net graph reads m i z t = elim (cases_Bool (is_reached graph m i)) [
  | inl on ↦
      let same : cells_before names graph m i ≡ row_at names m i = ap (λ (b : Bool). if b then row_at names m i else []) on in (
        λ h. let r = subst (λ cells. InRow net cells z t) same h in record { runs = (reads m i).0 on; within = r.0; told = r.1 },
        λ h. subst (λ cells. InRow net cells z t) (sym same) (h.within, h.told),
      )
  | inr off ↦
      let same : cells_before names graph m i ≡ [] = ap (λ (b : Bool). if b then row_at names m i else []) off in (
        λ h. let r = subst (λ cells. InRow net cells z t) same h in let lt = r.0 in absurd (omega arith),
        λ h. absurd (true≢false (sym ((reads m i).1 h.runs) ∙ off)),
      )
]

pub exact-slot : (p : Parts) (names : Names) (net : Network) (graph : GraphTable) (pool : List (List Bool)) (slots : List (List (List ℕ))) (sets : ClassTable) → net.tokens ≡ token_count p → ReadsReached p net graph
    → sets.none ≡ no_members net.tokens → sets.slots ≡ named_table pool sets.none slots → AreSlotsNamed net names graph pool slots → (m i z : ℕ) → HasExactly (token_count p) (IsBefore p names net m i z) (slot_set sets m i z)
exact-slot p names net graph pool slots sets tokens reads none is named m i z =
    let row = row_of (row_of slots m) i in
    let set : slot_set sets m i z ≡ get_or (map (λ n. get_or pool n sets.none) row) z sets.none = ap (λ table. listed_at table m i z sets.none) is ∙ named-slot pool sets.none slots m i z in
    subst (HasExactly (token_count p) (IsBefore p names net m i z)) (sym set)
    (subst (λ n. HasExactly n (IsBefore p names net m i z) (get_or (map (λ x. get_or pool x sets.none) row) z sets.none)) tokens
    (exact-as net.tokens (InRow net (cells_before names graph m i) z) (IsBefore p names net m i z) (get_or (map (λ x. get_or pool x sets.none) row) z sets.none) (before-cells p names net graph reads m i z)
    (exact-row net pool sets.none none (cells_before names graph m i) row ((named.each m).each i) z)))

-- ---- numbers

-- the token is in the cell, if there is one
abbrev pub InSome : Network → Option Cell → (t : ℕ) → Type 0
InSome net cell t = (c : Cell) × (cell ≡ Some c) × Tells net (HasToken c t)

exact-number : (net : Network) (pool : List (List Bool)) (none : List Bool) → none ≡ no_members net.tokens → (cell : Option Cell) (number : ℕ) → IsNumber net pool cell number
    → HasExactly net.tokens (InSome net cell) (get_or (option_named pool none number) 0 none)
exact-number net pool none empty None number is =
    subst (λ n. HasExactly net.tokens (InSome net None) (get_or (option_named pool none n) 0 none)) (sym is)
    (exact-none net.tokens (InSome net None) none empty (λ t h. none-some h.0 h.1))
exact-number net pool none empty (Some c) number is =
    let set : get_or pool is.0 none ≡ is.2.set = get_or_from_slice_get pool is.0 is.2.set none is.2.found in
    subst (λ n. HasExactly net.tokens (InSome net (Some c)) (get_or (option_named pool none n) 0 none)) (sym is.1)
    (exact-as net.tokens (λ t. Tells net (HasToken c t)) (InSome net (Some c)) (get_or pool is.0 none)
    (λ t. (λ h. (c, refl, h), λ h. subst (λ (d : Cell). Tells net (HasToken d t)) (sym (same_Some c h.0 h.1)) h.2))
    (subst (IsSetOf net c) (sym set) is.2.exact))

-- what an instruction that may run throws
thrown-cells : (p : Parts) (net : Network) (graph : GraphTable) → ReadsReached p net graph → (m i t : ℕ) → InSome net (part_of OfThrown graph m i (instr_at p m i)) t ↔ (MayRun p net m i × Tells net (HasToken (Thrown m i) t))
thrown-cells p net graph reads m i t = elim (cases_Bool (is_reached graph m i)) [
  | inl on ↦
      let same : part_of OfThrown graph m i (instr_at p m i) ≡ Some (Thrown m i) = ap (λ (b : Bool). if b then Some (Thrown m i) else None) on in (
        λ h. ((reads m i).0 on, subst (λ (d : Cell). Tells net (HasToken d t)) (sym (same_Some (Thrown m i) h.0 (sym same ∙ h.1))) h.2),
        λ h. (Thrown m i, same, h.1),
      )
  | inr off ↦
      let same : part_of OfThrown graph m i (instr_at p m i) ≡ None = ap (λ (b : Bool). if b then Some (Thrown m i) else None) off in (
        λ h. absurd (none-some h.0 (sym same ∙ h.1)),
        λ h. absurd (true≢false (sym ((reads m i).1 h.0) ∙ off)),
      )
]

pub exact-thrown : (p : Parts) (net : Network) (graph : GraphTable) (pool : List (List Bool)) (numbers : List (List ℕ)) (sets : ClassTable) → net.tokens ≡ token_count p → ReadsReached p net graph
    → sets.none ≡ no_members net.tokens → sets.thrown ≡ option_rows pool sets.none numbers → AreAllNumbers p net OfThrown graph pool numbers → (m i : ℕ)
    → HasExactly (token_count p) (λ t. MayRun p net m i × Tells net (HasToken (Thrown m i) t)) (thrown_set sets m i)
exact-thrown p net graph pool numbers sets tokens reads none is are m i =
    let number = get_or (row_of numbers m) i 0 in
    let set : thrown_set sets m i ≡ get_or (option_named pool sets.none number) 0 sets.none = ap (λ table. listed_at table m i 0 sets.none) is ∙ numbered pool sets.none numbers m i in
    subst (HasExactly (token_count p) (λ t. MayRun p net m i × Tells net (HasToken (Thrown m i) t))) (sym set)
    (subst (λ n. HasExactly n (λ t. MayRun p net m i × Tells net (HasToken (Thrown m i) t)) (get_or (option_named pool sets.none number) 0 sets.none)) tokens
    (exact-as net.tokens (InSome net (part_of OfThrown graph m i (instr_at p m i))) (λ t. MayRun p net m i × Tells net (HasToken (Thrown m i) t)) (get_or (option_named pool sets.none number) 0 sets.none)
    (thrown-cells p net graph reads m i) (exact-number net pool sets.none none (part_of OfThrown graph m i (instr_at p m i)) number ((are.each m).each i))))

-- what an operation is that is a call
call-of : (op : Op) → is_call op ≡ true → (call : CallOp) × (op ≡ Call call)
call-of (Call call) is = (call, refl)
call-of Nop is = absurd (true≢false (sym is))
call-of (Const kind) is = absurd (true≢false (sym is))
call-of Text is = absurd (true≢false (sym is))
call-of (New token) is = absurd (true≢false (sym is))
call-of (Load kind l) is = absurd (true≢false (sym is))
call-of (Store kind l) is = absurd (true≢false (sym is))
call-of (ArrLoad kind) is = absurd (true≢false (sym is))
call-of (ArrStore kind) is = absurd (true≢false (sym is))
call-of (Shuffle n pushed) is = absurd (true≢false (sym is))
call-of (Mix n kind throws) is = absurd (true≢false (sym is))
call-of (Branch n) is = absurd (true≢false (sym is))
call-of (Return kind) is = absurd (true≢false (sym is))
call-of (GetStatic field) is = absurd (true≢false (sym is))
call-of (PutStatic field) is = absurd (true≢false (sym is))
call-of (GetField field) is = absurd (true≢false (sym is))
call-of (PutField field) is = absurd (true≢false (sym is))
call-of (NewArray last dimensions) is = absurd (true≢false (sym is))
call-of ArrLen is = absurd (true≢false (sym is))
call-of Throw is = absurd (true≢false (sym is))
call-of (Cast name) is = absurd (true≢false (sym is))
call-of InstanceOf is = absurd (true≢false (sym is))
call-of Monitor is = absurd (true≢false (sym is))

-- the cell of a call's takers, if there is one
taker-cell : (graph : GraphTable) (m i : ℕ) (instr : Option Instr) (c : Cell) → part_of OfTakers graph m i instr ≡ Some c → (Takers m i ≡ c) × ((x : Instr) × (instr ≡ Some x) × (is_call x.op ≡ true))
taker-cell graph m i None c is = absurd (none-some c is)
taker-cell graph m i (Some instr) c is = elim (cases_Bool (is_call instr.op)) [
  | inl on ↦ (same_Some (Takers m i) c (sym (ap (λ (b : Bool). if b then Some (Takers m i) else None) on) ∙ is), (instr, refl, on))
  | inr off ↦ absurd (none-some c (sym (ap (λ (b : Bool). if b then Some (Takers m i) else None) off) ∙ is))
]

-- what takes the arguments of a call
taker-cells : (p : Parts) (net : Network) (graph : GraphTable) (m i t : ℕ) → InSome net (part_of OfTakers graph m i (instr_at p m i)) t ↔ (IsCallAt p m i × Tells net (HasToken (Takers m i) t))
taker-cells p net graph m i t = (
  λ h.
      let is = taker-cell graph m i (instr_at p m i) h.0 h.1 in
      let call = call-of is.1.0.op is.1.2 in
      (record { call = call.0; height = is.1.0.height; at = record { instr = is.1.0; found = is.1.1; is_op = call.1; is_height = refl } }, subst (λ (d : Cell). Tells net (HasToken d t)) (sym is.0) h.2),
  λ h.
      let at = h.0.at in
      (Takers m i, ap (part_of OfTakers graph m i) at.found ∙ ap (λ (op : Op). if is_call op then Some (Takers m i) else None) at.is_op, h.1),
)

pub exact-takers : (p : Parts) (net : Network) (graph made : GraphTable) (pool : List (List Bool)) (numbers : List (List ℕ)) → net.tokens ≡ token_count p → made.none ≡ no_members net.tokens
    → made.takers ≡ option_rows pool made.none numbers → AreAllNumbers p net OfTakers graph pool numbers → (m i : ℕ)
    → HasExactly (token_count p) (λ t. IsCallAt p m i × Tells net (HasToken (Takers m i) t)) (takers_at made m i)
exact-takers p net graph made pool numbers tokens none is are m i =
    let number = get_or (row_of numbers m) i 0 in
    let set : takers_at made m i ≡ get_or (option_named pool made.none number) 0 made.none = ap (λ table. listed_at table m i 0 made.none) is ∙ numbered pool made.none numbers m i in
    subst (HasExactly (token_count p) (λ t. IsCallAt p m i × Tells net (HasToken (Takers m i) t))) (sym set)
    (subst (λ n. HasExactly n (λ t. IsCallAt p m i × Tells net (HasToken (Takers m i) t)) (get_or (option_named pool made.none number) 0 made.none)) tokens
    (exact-as net.tokens (InSome net (part_of OfTakers graph m i (instr_at p m i))) (λ t. IsCallAt p m i × Tells net (HasToken (Takers m i) t)) (get_or (option_named pool made.none number) 0 made.none)
    (taker-cells p net graph m i) (exact-number net pool made.none none (part_of OfTakers graph m i (instr_at p m i)) number ((are.each m).each i))))

-- ---- targets

said-in-order : (pool : List Targets) (noted : Targets) (number : ℕ) → IsSaid pool noted number → IsInOrder noted (get_or (option_named pool no_targets number) 0 no_targets)
said-in-order pool noted number (nowhere is order) = subst (λ n. IsInOrder noted (get_or (option_named pool no_targets n) 0 no_targets)) (sym is) order
said-in-order pool noted number (somewhere place targets is found order) =
    subst (λ n. IsInOrder noted (get_or (option_named pool no_targets n) 0 no_targets)) (sym is)
    (subst (IsInOrder noted) (sym (get_or_from_slice_get pool place targets no_targets found)) order)

pub targets-read : (pool : List Targets) (noted : List (List Targets)) (numbers : List (List ℕ)) (graph : GraphTable) → graph.targets ≡ option_rows pool no_targets numbers → AreAllTargets pool noted numbers → (m i : ℕ)
    → IsInOrder (item_at noted m i no_targets) (targets_at graph m i)
targets-read pool noted numbers graph is are m i =
    subst (IsInOrder (item_at noted m i no_targets)) (sym (ap (λ table. listed_at table m i 0 no_targets) is ∙ numbered pool no_targets numbers m i))
    (said-in-order pool (item_at noted m i no_targets) (get_or (row_of numbers m) i 0) ((are.each m).each i))

-- ---- the graph

both-ways : {A B C : Type 0} → (A ↔ B) → (B ↔ C) → A ↔ C
both-ways ab bc = (λ a. bc.0 (ab.0 a), λ c. ab.1 (bc.1 c))

pub graph-read : (p : Parts) (net : Network) (notes : Notes) (graph made : GraphTable) (target_pool : List Targets) (targets : List (List ℕ)) (pool : List (List Bool)) (numbers : List (List ℕ)) → net.tokens ≡ token_count p
    → IsNoted p (events_of net) notes → AreAllTargets target_pool notes.targets targets → graph ≡ record notes.graph { targets = option_rows target_pool no_targets targets }
    → AreAllNumbers p net OfTakers graph pool numbers → made ≡ record graph { takers = option_rows pool graph.none numbers } → ReadsGraph p net made
graph-read p net notes graph made target_pool targets pool numbers tokens noted said is are last =
    let reached : made.reached ≡ notes.graph.reached = ap (λ (g : GraphTable). g.reached) last ∙ ap (λ (g : GraphTable). g.reached) is in
    let all : made.targets ≡ option_rows target_pool no_targets targets = ap (λ (g : GraphTable). g.targets) last ∙ ap (λ (g : GraphTable). g.targets) is in
    let none : made.none ≡ graph.none = ap (λ (g : GraphTable). g.none) last in
    let empty : made.none ≡ no_members net.tokens = none ∙ ap (λ (g : GraphTable). g.none) is ∙ noted.room.none ∙ ap no_members (sym tokens) in
    let order : (m i : ℕ) → IsInOrder (noted_at notes m i) (targets_at made m i) = targets-read target_pool notes.targets targets made all said in
    record {
      reached = λ m i. (
        λ h. (noted.reached m i).0 (ap (λ rows. item_at rows m i false) (sym reached) ∙ h),
        λ h. ap (λ rows. item_at rows m i false) reached ∙ (noted.reached m i).1 h,
      );
      targets = λ m i n. both-ways ((order m i).methods n) (noted.methods m i n);
      ascending = λ m i. (order m i).ascending;
      library = λ m i. (
        λ h. (noted.library m i).0 (sym (order m i).library ∙ h),
        λ h. (order m i).library ∙ (noted.library m i).1 h,
      );
      takers = exact-takers p net graph made pool numbers tokens empty (ap (λ (g : GraphTable). g.takers) last ∙ ap (λ set. option_rows pool set numbers) (sym none)) are;
    }

-- ---- the sets

-- a set of a list, and the empty one where there is none
exact-at : (net : Network) (cell : ℕ → Cell) (total : ℕ) (sets : List (List Bool)) (none : List Bool) → none ≡ no_members net.tokens → AreSetsOf net cell total total sets → (k : ℕ)
    → HasExactly net.tokens (λ t. (k < total) × Tells net (HasToken (cell k) t)) (get_or sets k none)
exact-at net cell total sets none empty are k = elim (cases_lt k total) [
  | inl lt ↦
      let inside : k < length sets = let s = are.size in omega arith in
      subst (HasExactly net.tokens (λ t. (k < total) × Tells net (HasToken (cell k) t))) (get_or_default sets k [] none inside)
      (exact-as net.tokens (λ t. Tells net (HasToken (cell k) t)) (λ t. (k < total) × Tells net (HasToken (cell k) t)) (get_or sets k []) (λ t. (λ h. (lt, h), λ h. h.1)) (are.each k lt))
  | inr past ↦
      let out : length sets ≤ k = let s = are.size in omega arith in
      exact-none net.tokens (λ t. (k < total) × Tells net (HasToken (cell k) t)) (get_or sets k none) (get_or_past sets k none out ∙ empty) (λ t h. let lt = h.0 in omega arith)
]

-- a parameter is below the number of parameters
param-below : (p : Parts) (m k : ℕ) → (k < params_in (slice_get p.methods m)) ↔ IsParam p m k
param-below p m k = below (slice_get p.methods m)
  where
    below : (o : Option Method) → (k < params_in o) ↔ ((method : Method) × (o ≡ Some method) × (k < param_count method))
    below None = (λ h. absurd (omega arith), λ h. absurd (none-some h.0 h.1))
    below (Some method) = (λ h. (method, refl, h), λ h. subst (λ (x : Method). k < param_count x) (sym (same_Some method h.0 h.1)) h.2)

pub sets-read : (p : Parts) (names : Names) (net : Network) (graph : GraphTable) (members sets : ClassTable) (pool : List (List Bool)) (slots : List (List (List ℕ))) (thrown : List (List ℕ)) → net.tokens ≡ token_count p
    → ReadsReached p net graph → HasMembers p net members → AreSlotsNamed net names graph pool slots → AreAllNumbers p net OfThrown graph pool thrown
    → sets ≡ record members { slots = named_table pool members.none slots; thrown = option_rows pool members.none thrown } → ReadsSets p names net sets
sets-read p names net graph members sets pool slots thrown tokens reads has named are is =
    let none : sets.none ≡ members.none = ap (λ (s : ClassTable). s.none) is in
    let empty : sets.none ≡ no_members net.tokens = none ∙ has.none ∙ ap no_members (sym tokens) in
    let of_params : (m : ℕ) → AreSetsOf net (Param m) (params_in (slice_get p.methods m)) (params_in (slice_get p.methods m)) (row_of sets.params m) =
    λ m. subst (λ rows. AreSetsOf net (Param m) (params_in (slice_get p.methods m)) (params_in (slice_get p.methods m)) (row_of rows m)) (sym (ap (λ (s : ClassTable). s.params) is)) (has.params m) in
    let of_results : AreSetsOf net Answer (length p.methods) (length p.methods) sets.results = subst (AreSetsOf net Answer (length p.methods) (length p.methods)) (sym (ap (λ (s : ClassTable). s.results) is)) has.results in
    let of_outs : AreSetsOf net Out (length p.methods) (length p.methods) sets.outs = subst (AreSetsOf net Out (length p.methods) (length p.methods)) (sym (ap (λ (s : ClassTable). s.outs) is)) has.outs in
    let of_fields : AreSetsOf net Field (length p.fields) (length p.fields) sets.fields = subst (AreSetsOf net Field (length p.fields) (length p.fields)) (sym (ap (λ (s : ClassTable). s.fields) is)) has.fields in
    let of_bags : AreSetsOf net Bag (token_count p) (token_count p) sets.bags = subst (AreSetsOf net Bag (token_count p) (token_count p)) (sym (ap (λ (s : ClassTable). s.bags) is)) has.bags in
    record {
      slots = exact-slot p names net graph pool slots sets tokens reads empty (ap (λ (s : ClassTable). s.slots) is ∙ ap (λ set. named_table pool set slots) (sym none)) named;
      thrown = exact-thrown p net graph pool thrown sets tokens reads empty (ap (λ (s : ClassTable). s.thrown) is ∙ ap (λ set. option_rows pool set thrown) (sym none)) are;
      params = λ m k. subst (λ n. HasExactly n (λ t. IsParam p m k × Tells net (HasToken (Param m k) t)) (param_set sets m k)) tokens
          (exact-as net.tokens (λ t. (k < params_in (slice_get p.methods m)) × Tells net (HasToken (Param m k) t)) (λ t. IsParam p m k × Tells net (HasToken (Param m k) t)) (param_set sets m k)
          (λ t. (λ h. ((param-below p m k).0 h.0, h.1), λ h. ((param-below p m k).1 h.0, h.1)))
          (exact-at net (Param m) (params_in (slice_get p.methods m)) (row_of sets.params m) sets.none empty (of_params m) k));
      results = λ m. subst (λ n. HasExactly n (λ t. (m < length p.methods) × Tells net (HasToken (Answer m) t)) (result_set sets m)) tokens (exact-at net Answer (length p.methods) sets.results sets.none empty of_results m);
      outs = λ m. subst (λ n. HasExactly n (λ t. (m < length p.methods) × Tells net (HasToken (Out m) t)) (out_set sets m)) tokens (exact-at net Out (length p.methods) sets.outs sets.none empty of_outs m);
      fields = λ f. subst (λ n. HasExactly n (λ t. (f < length p.fields) × Tells net (HasToken (Field f) t)) (field_set sets f)) tokens (exact-at net Field (length p.fields) sets.fields sets.none empty of_fields f);
      bags = λ b. subst (λ n. HasExactly n (λ t. (b < token_count p) × Tells net (HasToken (Bag b) t)) (bag_set sets b)) tokens (exact-at net Bag (token_count p) sets.bags sets.none empty of_bags b);
    }

-- ---- the members

pub members-read : (p : Parts) (net : Network) (s0 s1 s2 s3 s4 : ClassTable) → s0 ≡ empty_classes p → HasParams p net (length p.methods) s0 s1 → HasResults p net (length p.methods) s1 s2 → HasFields p net (length p.fields) s2 s3
    → HasBags p net (token_count p) s3 s4 → HasMembers p net s4
members-read p net s0 s1 s2 s3 s4 empty params results fields bags =
    let params_is : s4.params ≡ s1.params = ap (λ (s : ClassTable). s.params) bags.others ∙ ap (λ (s : ClassTable). s.params) fields.others ∙ ap (λ (s : ClassTable). s.params) results.others in
    let results_is : s4.results ≡ s2.results = ap (λ (s : ClassTable). s.results) bags.others ∙ ap (λ (s : ClassTable). s.results) fields.others in
    let outs_is : s4.outs ≡ s2.outs = ap (λ (s : ClassTable). s.outs) bags.others ∙ ap (λ (s : ClassTable). s.outs) fields.others in
    let fields_is : s4.fields ≡ s3.fields = ap (λ (s : ClassTable). s.fields) bags.others in
    let none_is : s4.none ≡ s0.none = ap (λ (s : ClassTable). s.none) bags.others ∙ ap (λ (s : ClassTable). s.none) fields.others ∙ ap (λ (s : ClassTable). s.none) results.others ∙ ap (λ (s : ClassTable). s.none) params.others in
    record {
      params = λ m. subst (λ rows. AreSetsOf net (Param m) (params_in (slice_get p.methods m)) (params_in (slice_get p.methods m)) (row_of rows m)) (sym params_is) (elim (cases_lt m (length p.methods)) [
        | inl lt ↦ params.each m lt
        | inr past ↦
            let few : params_in (slice_get p.methods m) ≡ 0 = ap params_in (slice_get_past p.methods m past) in
            record { size = params.size m; each = λ k lt. absurd (omega arith) }
      ]);
      results = subst (AreSetsOf net Answer (length p.methods) (length p.methods)) (sym results_is) results.results;
      outs = subst (AreSetsOf net Out (length p.methods) (length p.methods)) (sym outs_is) results.outs;
      fields = subst (AreSetsOf net Field (length p.fields) (length p.fields)) (sym fields_is) fields.fields;
      bags = bags.bags;
      none = none_is ∙ ap (λ (s : ClassTable). s.none) empty;
    }
