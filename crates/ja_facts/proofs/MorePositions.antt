-- With more marks no fact is lost.
use Rattle.std.proofs.Common.{◌≡◌, ℕ, true, List, [], ◌∷◌, inl, inr, refl, ap, sym, subst, ◌∙◌, if◌then◌else◌}
use Rattle.std.specs.Prelude.{Contains, slice_get}
use Rattle.ja_base.specs.declared.id.ClassId.{ClassId}
use Rattle.ja_base.specs.declared.id.MethodId.{MethodId}
use Rattle.ja_ir.specs.declared.program.Parts.{Parts}
use Rattle.ja_ir.specs.declared.method.Method.{Method}
use Rattle.ja_ir.specs.declared.method.Handler.{Handler}
use Rattle.ja_ir.specs.declared.method.Catch.{Catch}
use Rattle.ja_ir.specs.declared.method.Catch.TheVariants.{All as Everything, Program as InClass, Library as InLibrary}
use Rattle.ja_ir.specs.declared.entry.Entry.{Entry}
use Rattle.ja_ir.specs.declared.op.CallOp.{CallOp}
use Rattle.ja_ir.specs.declared.op.Op.{Op}
use Rattle.ja_ir.specs.Lookup.{OpAt, Leads}
use Rattle.ja_ir.specs.Handlers.{Place, Inside, Outside, dest, dest_at, dest_among, in_range, handlers_of}
use Rattle.ja_ir.specs.Params.{param_count}
use Rattle.ja_ir.specs.Initializing.{InitAt, inits_of, inits_of_class}
use Rattle.ja_facts.specs.Least.{Each, Least}
use Rattle.ja_facts.specs.Slots.{Slot, CallAt}
use Rattle.ja_facts.specs.Actions.{IsInitializer, IsConstructor, IsEntry}
use Rattle.ja_facts.specs.Held.{Cell}
use Rattle.ja_facts.specs.Analyses.{Analyses}
use Rattle.ja_facts.specs.Formulas.{Assignment, IsNormalEnd, IsExceptionalEnd}
use Rattle.ja_facts.specs.Equations.{Fact, Context, Rule, MayBegin, MayBeTrue, HoldsStored, Calls, Stores, stores_field, stores_static, stores_reference, stores_word, stores_pair, stored_facts, initializer_called, constructor_called, entry_called, called, initialized, begins, steps, reads_stored_field, call_resumes, initializer_resumes, caught, callee_caught, leaves, callee_leaves, method_returns, method_ends, stored, taken}
use Rattle.ja_facts.specs.MarkedPositions.{HasMarked, MarkMorePositions, with_entries}
use Rattle.ja_facts.proofs.LeastLaws.{Least-is_solution, Least-below}
use Rattle.ja_facts.proofs.Reasons.{Chosen, choose, all-chosen, each-inside}

module _ (p : Parts) (entries : List Entry) where
  at : {m i height : ℕ} {op : Op} → OpAt p m i op height → OpAt (with_entries p entries) m i op height
  at x = record { instr = x.instr; found = x.found; is_op = x.is_op; is_height = x.is_height }

  leads : {m i j : ℕ} → Leads p m i j → Leads (with_entries p entries) m i j
  leads x = record { instr = x.instr; found = x.found; listed = x.listed }

  call : {m i under : ℕ} {c : CallOp} → CallAt p m i c under → CallAt (with_entries p entries) m i c under
  call x = record { height = x.height; at = at x.at; under_is = x.under_is }

  same-at : (t target : ℕ) (catch : Catch) (further : List Place) → dest_at (with_entries p entries) t target catch further ≡ dest_at p t target catch further
  same-at t target Everything further = refl
  same-at t target (InClass c) further = refl
  same-at t target InLibrary further = refl

  same-among : (i t : ℕ) (handlers : List Handler) → dest_among (with_entries p entries) i t handlers ≡ dest_among p i t handlers
  same-among i t [] = refl
  same-among i t (h ∷ handlers) =
      let rest : dest_among (with_entries p entries) i t handlers ≡ dest_among p i t handlers = same-among i t handlers in
      ap (λ (places : List Place). if in_range h i then dest_at (with_entries p entries) t h.target h.catch places else places) rest
      ∙ ap (λ (places : List Place). if in_range h i then places else dest_among p i t handlers) (same-at t h.target h.catch (dest_among p i t handlers))

  goes : (m i t : ℕ) (place : Place) → Contains (dest p m i t) place → Contains (dest (with_entries p entries) m i t) place
  goes m i t place x = subst (λ (places : List Place). Contains places place) (sym (same-among i t (handlers_of (slice_get p.methods m)))) x

  init : {m i n : ℕ} → InitAt p m i n → InitAt (with_entries p entries) m i n
  init x = record { instr = x.instr; found = x.found; listed = inits x.instr.op x.listed }
    where
      inits : {n : ℕ} (op : Op) → Contains (inits_of p op) (record { 0 = n }) → Contains (inits_of (with_entries p entries) op) (record { 0 = n })
      inits op l = l

  stores : {op : Op} {height : ℕ} {cell : Cell} {v : Slot} → Stores p op height cell v → Stores (with_entries p entries) op height cell v
  stores (stores_field h) = stores_field h
  stores (stores_static h) = stores_static h
  stores (stores_reference h) = stores_reference h
  stores (stores_word h) = stores_word h
  stores (stores_pair h) = stores_pair h

  module _ (A : Analyses) where
    normal : {m i : ℕ} {b after : Assignment} → IsNormalEnd p A m i b after → IsNormalEnd (with_entries p entries) A m i b after
    normal x = record { instr = x.instr; found = x.found; reached = x.reached; goes_on = x.goes_on; library = x.library; slots = x.slots; dirt = x.dirt; exc = x.exc }

    exceptional : {m i : ℕ} {b after : Assignment} → IsExceptionalEnd p A m i b after → IsExceptionalEnd (with_entries p entries) A m i b after
    exceptional x = record { instr = x.instr; found = x.found; reached = x.reached; throws = x.throws }

    calls : {m i n under : ℕ} {c : CallOp} {b a : Assignment} → Calls p A m i n c under b a → Calls (with_entries p entries) A m i n c under b a
    calls x = record { at = call x.at; goes = x.goes; method = x.method; found = x.found; hands = x.hands }

    -- an entry that is there with more marks
    module _ (more : MarkMorePositions p.entries entries) where
      initializes : {m : ℕ} → IsInitializer p m → IsInitializer (with_entries p entries) m
      initializes {m = m} x =
          let y : HasMarked entries x.entry = more x.entry x.listed in
          record { entry = y.other; listed = y.listed; initializes = subst (λ (c : ClassId). Contains (inits_of_class (slice_get p.classes c.0)) (record { 0 = m })) (sym y.class) x.initializes }

      is_entry : (entry : Entry) (method : Method) (x : IsEntry p entry method) → IsEntry (with_entries p entries) (more entry x.listed).other method
      is_entry entry method x =
          let y : HasMarked entries entry = more entry x.listed in
          record { listed = y.listed; found = ap (λ (n : MethodId). slice_get p.methods n.0) y.method ∙ x.found }

      may_be : (entry : Entry) (method : Method) (x : IsEntry p entry method) (cells : List Cell) (z : Slot) → MayBeTrue A entry method cells z → MayBeTrue A (more entry x.listed).other method cells z
      may_be entry method x cells z t =
          let y : HasMarked entries entry = more entry x.listed in
          record {
            k = t.k;
            below = t.below;
            is_slot = t.is_slot;
            why = elim t.why [ inl marked ↦ inl (y.marked t.k marked) | inr holds ↦ inr (subst (λ (n : MethodId). HoldsStored A n.0 method t.k cells) (sym y.method) holds) ];
          }

      begins_more : (entry : Entry) (a : Assignment) (cells : List Cell) (x : MayBegin p A entry a cells)
          → (kept : List Cell) × MayBegin (with_entries p entries) A (more entry x.is_entry.listed).other a kept × ((c : Cell) → Contains kept c → Contains cells c)
      begins_more entry a cells x =
          let other : Entry = (more entry x.is_entry.listed).other in
          let may : (z : Slot) → a.slot z ≡ true → MayBeTrue A other x.method cells z = λ z t. may_be entry x.method x.is_entry cells z (x.parameters z t) in
          let chosen : Chosen A other x.method a cells (param_count x.method) = choose A other x.method a cells may (param_count x.method) in (
            chosen.chosen,
            record {
              method = x.method;
              is_entry = is_entry entry x.method x.is_entry;
              parameters = all-chosen A other x.method a cells may chosen;
              reasons = chosen.reasons;
              once = chosen.once;
              dirt = x.dirt;
              exc = x.exc;
            },
            chosen.inside,
          )

      by : (ps : List Fact) (f : Fact) → Rule (with_entries p entries) A ps f → Each (Least (Rule (with_entries p entries) A)) ps → Least (Rule (with_entries p entries) A) f
      by = Least-is_solution (Rule (with_entries p entries) A)

      more_solves : (ps : List Fact) (f : Fact) → Rule p A ps f → Each (Least (Rule (with_entries p entries) A)) ps → Least (Rule (with_entries p entries) A) f
      more_solves ps f (initializer_called x is) each = by ps f (initializer_called (initializes x) is) each
      more_solves ps f (constructor_called {m = m} entry objects cons is) each =
          let y : HasMarked entries entry = more entry objects.is_entry.listed in
          by ps f (constructor_called y.other (record { method = objects.method; is_entry = is_entry entry objects.method objects.is_entry; member = objects.member })
          (subst (λ (n : ClassId). IsConstructor (with_entries p entries) n.0 m) (sym y.class) cons) is) each
      more_solves ps f (entry_called {a = a} entry cells x) each =
          let y : HasMarked entries entry = more entry x.is_entry.listed in
          let less : (kept : List Cell) × MayBegin (with_entries p entries) A (more entry x.is_entry.listed).other a kept × ((c : Cell) → Contains kept c → Contains cells c) = begins_more entry a cells x in
          subst (λ (n : MethodId). Least (Rule (with_entries p entries) A) (Context n.0 a)) y.method
          (by (stored_facts less.0) (Context y.other.method.0 a) (entry_called y.other less.0 less.1) (each-inside (Least (Rule (with_entries p entries) A)) cells less.0 less.2 each))
      more_solves ps f (called x) each = by ps f (called (calls x)) each
      more_solves ps f (initialized x is) each = by ps f (initialized (init x) is) each
      more_solves ps f begins each = by ps f begins each
      more_solves ps f (steps o l n r) each = by ps f (steps (at o) (leads l) (normal n) r) each
      more_solves ps f (reads_stored_field o l n r t h) each = by ps f (reads_stored_field (at o) (leads l) (normal n) r t h) each
      more_solves ps f (call_resumes c l r) each = by ps f (call_resumes (calls c) (leads l) r) each
      more_solves ps f (initializer_resumes o x is r) each = by ps f (initializer_resumes (at o) (init x) is r) each
      more_solves ps f (caught {m = m} {i = i} {j = j} {t = k} t d e h) each = by ps f (caught t (goes m i k (Inside j) d) (exceptional e) h) each
      more_solves ps f (callee_caught {m = m} {i = i} {j = j} {t = k} c t d e h) each = by ps f (callee_caught (calls c) t (goes m i k (Inside j) d) e h) each
      more_solves ps f (leaves {m = m} {i = i} {t = k} t d e) each = by ps f (leaves t (goes m i k Outside d) (exceptional e)) each
      more_solves ps f (callee_leaves {m = m} {i = i} {t = k} c t d e) each = by ps f (callee_leaves (calls c) t (goes m i k Outside d) e) each
      more_solves ps f (method_returns o) each = by ps f (method_returns (at o)) each
      more_solves ps f (method_ends o) each = by ps f (method_ends (at o)) each
      more_solves ps f (stored o s t) each = by ps f (stored (at o) (stores s) t) each
      more_solves ps f (taken c t h) each = by ps f (taken (call c) t h) each

      pub more_facts : (f : Fact) → Least (Rule p A) f → Least (Rule (with_entries p entries) A) f
      more_facts = Least-below (Rule p A) (Least (Rule (with_entries p entries) A)) more_solves
