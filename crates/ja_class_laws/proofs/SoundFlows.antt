-- How control goes on from an instruction, what it brings along, and how a method begins: what is told of it is meant.
use Rattle.std.proofs.Common.{◌≡◌, ℕ, suc, ◌+◌, ◌<◌, ◌==◌, ◌&&◌, Bool, true, false, List, [], ◌∷◌, ◌++◌, Some, length, refl, sym, ap, subst, ◌∙◌, arith}
use Rattle.std.specs.Prelude.{Contains, slice_get}
use Rattle.std.proofs.lemmas.Bool.{and_parts, eqb-true}
use Rattle.ja_base.specs.declared.id.MethodId.{MethodId}
use Rattle.ja_base.specs.declared.java_type.JavaType.{JavaType}
use Rattle.ja_base.specs.Kind.{words_of}
use Rattle.ja_ir.specs.declared.program.Parts.{Parts}
use Rattle.ja_ir.specs.declared.method.Method.{Method}
use Rattle.ja_ir.specs.declared.method.Instr.{Instr}
use Rattle.ja_ir.specs.Lookup.{Leads, is_member}
use Rattle.ja_ir.specs.Params.{param_types, param_local, param_count, local_among, words_before, params_among}
use Rattle.ja_ir.specs.Initializing.{inits_of}
use Rattle.ja_ir.specs.Whole.{IsWhole}
use Rattle.ja_facts.specs.Least.{Each}
use Rattle.ja_facts.proofs.LeastLaws.{Least-is_solution}
use Rattle.ja_facts.specs.Analyses.{Classes}
use Rattle.ja_facts.specs.Slots.{Slot, Local}
use Rattle.ja_facts.specs.ClassSets as class_sets
use Rattle.ja_facts.specs.ClassSets.{Fact as ClassFact, Rule as ClassRule, InSlot, InParam}
use Rattle.ja_network.specs.declared.cell.Cell.{Cell}
use Rattle.ja_network.specs.declared.cell.Cell.TheVariants.{Before}
use Rattle.ja_network.specs.declared.cell.Action.TheVariants.{Copy}
use Rattle.ja_network.specs.declared.cell.Event.TheVariants.{Reached}
use Rattle.ja_cells.specs.Names.{Names, AreNames, row_at}
use Rattle.ja_cells.specs.Rows.{cell_in, next_row}
use Rattle.ja_constraints.specs.declared.constraint.Constraint.TheVariants.{Happens}
use Rattle.ja_constraints.specs.Links.{copy}
use Rattle.ja_constraints.specs.Flows.{flow, flows, way, goes_on, begin_each, enter, enter_types, enter_among, enters}
use Rattle.ja_constraints.specs.Events.{enters_at, leads_on}
use Rattle.ja_class_laws.proofs.Lists.{each-append, each-if, each-map, first-in, later-in}
use Rattle.ja_class_laws.proofs.Params.{params-count}
use Rattle.ja_class_laws.proofs.Meaning.{MeansToken, Good, good-link, slot_of}
use Rattle.ja_class_laws.proofs.Frames.{IsAt, instr-found, op-at, local-says, code-there}
use Rattle.ja_class_laws.proofs.Named.{named, next-means}
use Rattle.ja_class_laws.proofs.InSlots.{local-is}

module _ (p : Parts) (names : Names) (whole : IsWhole p) (right : AreNames p names) (m i : ℕ) (method : Method) (instr : Instr) (found : slice_get p.methods m ≡ Some method) (at : slice_get method.code i ≡ Some instr)
    (is_reached : instr.reached ≡ true) (reached : Classes p (class_sets.Reached m i)) where
  close : (ps : List ClassFact) (f : ClassFact) → ClassRule p ps f → Each (Classes p) ps → Classes p f
  close = Least-is_solution (ClassRule p)

  -- ---- to next instructions

  moved-to : (j : ℕ) → Leads p m i j → (n x z t : ℕ) → n ≡ m → x ≡ j → MeansToken p (cell_in (next_row p m i instr.op (row_at names m i)) z) t → Classes p (InSlot n x (slot_of p n z) t)
  moved-to j leads n x z t same other h =
      let there : Classes p (InSlot m j (slot_of p m z) t) = next-means p names whole right m i j instr.height instr.op reached (op-at p m i method instr found at) leads (named p names whole right m i reached) z t h in
      subst (λ a. Classes p (InSlot a x (slot_of p a z) t)) (sym same) (subst (λ a. Classes p (InSlot m a (slot_of p m z) t)) (sym other) there)

  good-flow : (j : ℕ) → Leads p m i j → (cell : Cell) → Each (Good p) (flow m j (next_row p m i instr.op (row_at names m i)) cell)
  good-flow j leads (Before n x z) = each-if (Good p) ((n == m) && (x == j)) (copy (cell_in (next_row p m i instr.op (row_at names m i)) z) (Before n x z)) (λ e.
      let both = and_parts (n == m) (x == j) e in
      good-link p (cell_in (next_row p m i instr.op (row_at names m i)) z) (Copy (Before n x z)) (λ t h. moved-to j leads n x z t (eqb-true n m both.0) (eqb-true x j both.1) h))
  good-flow j leads cell = tt

  good-flows : (j : ℕ) → Leads p m i j → (there : List Cell) → Each (Good p) (flows m j (next_row p m i instr.op (row_at names m i)) there)
  good-flows j leads [] = tt
  good-flows j leads (cell ∷ there) =
      each-append (Good p) (flow m j (next_row p m i instr.op (row_at names m i)) cell) (flows m j (next_row p m i instr.op (row_at names m i)) there) (good-flow j leads cell) (good-flows j leads there)

  good-ways : (js : List ℕ) → ((j : ℕ) → Contains js j → Leads p m i j) → Each (Good p) (goes_on names m (next_row p m i instr.op (row_at names m i)) js)
  good-ways [] h = tt
  good-ways (j ∷ js) h =
      let leads : Leads p m i j = h j (first-in j js) in
      let next : Classes p (class_sets.Reached m j) = close (class_sets.Reached m i ∷ []) (class_sets.Reached m j) (class_sets.next_reached leads) (reached, tt) in
      each-append (Good p) (way names m (next_row p m i instr.op (row_at names m i)) j) (goes_on names m (next_row p m i instr.op (row_at names m i)) js) (next, good-flows j leads (row_at names m j)) (good-ways js (λ k c. h k (later-in j js k c)))

  -- ---- to class initialisers

  good-inits : Each (Good p) (begin_each (inits_of p instr.op))
  good-inits = each-map (Good p) (λ (n : MethodId). Happens (Reached n.0 0)) (inits_of p instr.op)
      (λ n c. close (class_sets.Reached m i ∷ []) (class_sets.Reached n.0 0) (class_sets.initializes (record { instr = instr; found = instr-found p m i method instr found at; listed = c })) (reached, tt))

  -- ---- into the method

  module _ (first : i ≡ 0) where
    good-enter : (k local : ℕ) → param_local method k ≡ local → k < param_count method → Each (Good p) (enter m k local)
    good-enter k local e lt = (begun, tt)
      where
        begun : (t : ℕ) → Classes p (InParam m k t) → Classes p (InSlot m 0 (slot_of p m local) t)
        begun t h =
            let a : IsAt p m i = record { method = method; instr = instr; found = found; at = at; reached = is_reached } in
            let below : param_local method k < method.locals = local-says p whole m k method found (code-there p whole m i a) lt in
            let start : Classes p (class_sets.Reached m 0) = subst (λ x. Classes p (class_sets.Reached m x)) first reached in
            let there : Classes p (InSlot m 0 (Local (param_local method k)) t) = close (class_sets.Reached m 0 ∷ InParam m k t ∷ []) (InSlot m 0 (Local (param_local method k)) t) (class_sets.begins method found) (start, (h, tt)) in
            let is : slot_of p m local ≡ Local (param_local method k) = ap (slot_of p m) (sym e) ∙ local-is p m (param_local method k) method found below in
            subst (λ (z : Slot). Classes p (InSlot m 0 z t)) (sym is) there

    good-types : (k local : ℕ) (types : List JavaType) → ((x : ℕ) → x < length types → param_local method (k + x) ≡ local + words_before types x) → ((x : ℕ) → x < length types → k + x < param_count method)
        → Each (Good p) (enter_types m k local types)
    good-types k local [] lies below = tt
    good-types k local (type ∷ types) lies below =
        let same : k + 0 ≡ k = omega arith in
        let none : local + 0 ≡ local = omega arith in
        let here : param_local method k ≡ local = ap (param_local method) (sym same) ∙ lies 0 (omega arith) ∙ none in
        each-append (Good p) (enter m k local) (enter_types m (suc k) (local + words_of type.kind) types)
        (good-enter k local here (let lt = below 0 (omega arith) in omega arith))
        (good-types (suc k) (local + words_of type.kind) types
        (λ x lt. let n : suc k + x ≡ k + suc x = omega arith in let one = lies (suc x) (omega arith) in ap (param_local method) n ∙ one ∙ (let e : local + (words_of type.kind + words_before types x) ≡ local + words_of type.kind + words_before types x = omega arith in e))
        (λ x lt. let one = below (suc x) (omega arith) in omega arith))

    good-among : (receiver : Bool) → is_member method.flags ≡ receiver → Each (Good p) (enter_among m receiver (param_types method))
    good-among true e =
        let count : param_count method ≡ 1 + length (param_types method) = ap (λ b. params_among b (param_types method)) e ∙ params-count true (param_types method) in
        each-append (Good p) (enter m 0 0) (enter_types m 1 1 (param_types method)) (good-enter 0 0 (ap (λ b. local_among b (param_types method) 0) e) (omega arith))
        (good-types 1 1 (param_types method)
        (λ x lt. let s : 1 + x ≡ suc x = omega arith in ap (λ b. local_among b (param_types method) (1 + x)) e ∙ ap (local_among true (param_types method)) s)
        (λ x lt. omega arith))
    good-among false e =
        let count : param_count method ≡ 0 + length (param_types method) = ap (λ b. params_among b (param_types method)) e ∙ params-count false (param_types method) in
        good-types 0 0 (param_types method)
        (λ x lt. let s : 0 + x ≡ x = omega arith in let z : words_before (param_types method) x ≡ 0 + words_before (param_types method) x = omega arith in
        ap (λ b. local_among b (param_types method) (0 + x)) e ∙ ap (local_among false (param_types method)) s ∙ z)
        (λ x lt. omega arith)

    good-enters : Each (Good p) (enters m method)
    good-enters = good-among (is_member method.flags) refl

  pub leads-sound : Each (Good p) (leads_on p names m i method instr)
  leads-sound =
      let ways : Each (Good p) (goes_on names m (next_row p m i instr.op (row_at names m i)) instr.next) = good-ways instr.next (λ j c. record { instr = instr; found = instr-found p m i method instr found at; listed = c }) in
      let begun : Each (Good p) (enters_at m i method) = each-if (Good p) (i == 0) (enters m method) (λ e. good-enters (eqb-true i 0 e)) in
      each-append (Good p) (goes_on names m (next_row p m i instr.op (row_at names m i)) instr.next ++ begin_each (inits_of p instr.op)) (enters_at m i method)
      (each-append (Good p) (goes_on names m (next_row p m i instr.op (row_at names m i)) instr.next) (begin_each (inits_of p instr.op)) ways good-inits) begun
