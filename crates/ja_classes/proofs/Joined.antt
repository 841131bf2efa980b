-- Tables that say what a solved network tells are the least class sets and the least call graph.
use Rattle.std.proofs.Common.{◌≡◌, ◌⊎◌, ◌↔◌, inl, inr, ℕ, ◌+◌, ◌<◌, [], Some, length, sym, ap, subst, ◌∙◌, arith}
use Rattle.std.specs.Prelude.{Contains, slice_get}
use Rattle.std.proofs.lemmas.Option.{same_Some, slice_get_within}
use Rattle.ja_ir.specs.declared.program.Parts.{Parts}
use Rattle.ja_ir.specs.declared.method.Method.{Method}
use Rattle.ja_ir.specs.declared.op.CallOp.{CallOp}
use Rattle.ja_ir.specs.declared.op.Op.TheVariants.{Call}
use Rattle.ja_ir.specs.Lookup.{HasCode, OpAt}
use Rattle.ja_ir.specs.Whole.{IsWhole}
use Rattle.ja_facts.specs.Analyses.{Classes}
use Rattle.ja_facts.specs.Slots.{Slot, Local, OnStack}
use Rattle.ja_facts.specs.ClassSets.{Fact, Reached, InEnv, InSlot, InThrown, InParam, InResult, InOut, InField, InBag, CallsMethod, CallsAbstract, CallsLibrary, Spans, Takes}
use Rattle.ja_facts.specs.ClassTables.{ClassTable}
use Rattle.ja_facts.specs.FactTables.{GraphTable, targets_at}
use Rattle.ja_facts.specs.Told.{IsNumbered, numbered_local, numbered_stack, SlotIs, LeadsBy, leads_itself, leads_by_field, leads_by_bag, TellsSets, TellsGraph, IsKeptSets, IsKeptGraph, IsGraphFor, IsTargetOf}
use Rattle.ja_network.specs.declared.network.Network.{Network}
use Rattle.ja_network.specs.Facts.{Tells}
use Rattle.ja_cells.specs.Names.{Names, AreNames, row_at}
use Rattle.ja_class_tables.specs.Reads.{IsBefore, IsInstr, MayRun, ReadsSets, ReadsGraph}
use Rattle.ja_class_laws.specs.Shown.{Shows, SlotShows}
use Rattle.ja_class_laws.specs.Shown as shown_words
use Rattle.ja_class_laws.proofs.Frames.{IsAt, IsCall, IsSlot, IsWithin, HasResult, instr-found, reached-at, says, same-op, call-is}
use Rattle.ja_class_laws.proofs.Frames as frames
use Rattle.ja_class_laws.proofs.Named.{row-size}
use Rattle.ja_classes.proofs.Targets.{Calls, CallsNone}
use Rattle.ja_classes.proofs.Placed.{places, absorbing-below}
use Rattle.ja_classes.specs.Sized.{AreSetsFor, AreTakersFor}

module _ (p : Parts) (whole : IsWhole p) where
  -- an instruction that may run is there
  instr-of : (m i : ℕ) → Classes p (Reached m i) → IsInstr p m i
  instr-of m i c = let a : IsAt p m i = reached-at p whole m i c in (a.instr, instr-found p m i a.method a.instr a.found a.at)

  -- a slot of an instruction that may run is one of the row
  slot-within : (names : Names) → AreNames p names → (m i t n : ℕ) (z : Slot) → Classes p (InSlot m i z t) → SlotIs p m z n → n < length (row_at names m i)
  slot-within names right m i t n z c is =
      let s : IsSlot p m i z = says p whole (InSlot m i z t) c in
      let size = row-size p names whole right m i s.at in
      let same : is.method ≡ s.at.method = same_Some is.method s.at.method (sym is.found ∙ s.at.found) in
      by z n s.at.method s.at.instr.height (subst (λ (x : Method). IsNumbered x z n) same is.numbered) s.within size
    where
      by : (z : Slot) (n : ℕ) (method : Method) (height : ℕ) → IsNumbered method z n → IsWithin method.locals height z → length (row_at names m i) ≡ method.locals + height → n < length (row_at names m i)
      by (Local l) n method height (numbered_local lt) within size = omega arith
      by (OnStack k) n method height (numbered_stack _ lt e) within size = omega arith

  -- ---- class sets

  module _ (names : Names) (right : AreNames p names) (net : Network) (shown : (f : Fact) → Classes p f ↔ Shows p names (Tells net) f) (sets : ClassTable) (reads : ReadsSets p names net sets) where
    leads-told : (t u : ℕ) → LeadsBy p sets t u → shown_words.LeadsBy p (Tells net) t u
    leads-told t _ leads_itself = shown_words.leads_itself
    leads-told t _ (leads_by_field {u} {v} f has h leads) = shown_words.leads_by_field f has (((reads.fields f).each v).0 h).1 (leads-told t u leads)
    leads-told t _ (leads_by_bag {u} {v} absorbing h leads) = shown_words.leads_by_bag absorbing (((reads.bags u).each v).0 h).1 (leads-told t u leads)

    leads-had : (t u : ℕ) → shown_words.LeadsBy p (Tells net) t u → LeadsBy p sets t u
    leads-had t _ shown_words.leads_itself = leads_itself
    leads-had t _ (shown_words.leads_by_field {u} {v} f has h leads) = leads_by_field f has (((reads.fields f).each v).1 (slice_get_within p.fields f has.field has.found, h)) (leads-had t u leads)
    leads-had t _ (shown_words.leads_by_bag {u} {v} absorbing h leads) = leads_by_bag absorbing (((reads.bags u).each v).1 (absorbing-below p u absorbing, h)) (leads-had t u leads)

    sets-tell : (f : Fact) → TellsSets p sets f → Classes p f
    sets-tell (Reached m i) h = absurd h
    sets-tell (InEnv t) h = absurd h
    sets-tell (InSlot m i z t) h =
        let b : IsBefore p names net m i h.n t = ((reads.slots m i h.n).each t).0 h.member in
        (shown (InSlot m i z t)).1 (record { n = h.n; is = h.is; reached = b.runs.1; member = b.told })
    sets-tell (InThrown m i t) h = (shown (InThrown m i t)).1 (((reads.thrown m i).each t).0 h).1
    sets-tell (InParam m k t) h = (shown (InParam m k t)).1 (((reads.params m k).each t).0 h).1
    sets-tell (InResult m t) h = (shown (InResult m t)).1 (((reads.results m).each t).0 h).1
    sets-tell (InOut m t) h = (shown (InOut m t)).1 (((reads.outs m).each t).0 h).1
    sets-tell (InField f t) h = (shown (InField f t)).1 (((reads.fields f).each t).0 h).1
    sets-tell (InBag b t) h = (shown (InBag b t)).1 (((reads.bags b).each t).0 h).1
    sets-tell (CallsMethod m i n) h = absurd h
    sets-tell (CallsAbstract m i n) h = absurd h
    sets-tell (CallsLibrary m i) h = absurd h
    sets-tell (Spans t u) h = (shown (Spans t u)).1 (leads-told t u h)
    sets-tell (Takes m i b) h = absurd h

    runs-there : (m i : ℕ) → Classes p (Reached m i) → MayRun p net m i
    runs-there m i c = (instr-of m i c, (shown (Reached m i)).0 c)

    sets-have : (f : Fact) → IsKeptSets f → Classes p f → TellsSets p sets f
    sets-have (Reached m i) kept c = absurd kept
    sets-have (InEnv t) kept c = absurd kept
    sets-have (InSlot m i z t) kept c =
        let s : SlotShows p names (Tells net) m i z t = (shown (InSlot m i z t)).0 c in
        let reached : Classes p (Reached m i) = (shown (Reached m i)).1 s.reached in
        record { n = s.n; is = s.is; member = ((reads.slots m i s.n).each t).1 (record { runs = (instr-of m i reached, s.reached); within = slot-within names right m i t s.n z c s.is; told = s.member }) }
    sets-have (InThrown m i t) kept c = ((reads.thrown m i).each t).1 (runs-there m i (places p whole (InThrown m i t) c), (shown (InThrown m i t)).0 c)
    sets-have (InParam m k t) kept c = let s : frames.IsParam p m k = says p whole (InParam m k t) c in ((reads.params m k).each t).1 ((s.method, s.found, s.below), (shown (InParam m k t)).0 c)
    sets-have (InResult m t) kept c = let s : HasResult p m = says p whole (InResult m t) c in ((reads.results m).each t).1 (slice_get_within p.methods m s.method s.found, (shown (InResult m t)).0 c)
    sets-have (InOut m t) kept c = ((reads.outs m).each t).1 (places p whole (InOut m t) c, (shown (InOut m t)).0 c)
    sets-have (InField f t) kept c = ((reads.fields f).each t).1 (places p whole (InField f t) c, (shown (InField f t)).0 c)
    sets-have (InBag b t) kept c = ((reads.bags b).each t).1 (places p whole (InBag b t) c, (shown (InBag b t)).0 c)
    sets-have (CallsMethod m i n) kept c = absurd kept
    sets-have (CallsAbstract m i n) kept c = absurd kept
    sets-have (CallsLibrary m i) kept c = absurd kept
    sets-have (Spans t u) kept c = leads-had t u ((shown (Spans t u)).0 c)
    sets-have (Takes m i b) kept c = absurd kept

    pub sets-least : (f : Fact) → IsKeptSets f → TellsSets p sets f ↔ Classes p f
    sets-least f kept = (sets-tell f, sets-have f kept)

    pub sets-sized : AreSetsFor p sets
    sets-sized = record {
      slots = λ m i z. (reads.slots m i z).size;
      thrown = λ m i. (reads.thrown m i).size;
      params = λ m k. (reads.params m k).size;
      results = λ m. (reads.results m).size;
      outs = λ m. (reads.outs m).size;
      fields = λ f. (reads.fields f).size;
      bags = λ b. (reads.bags b).size;
      only_fields = λ f t h. (((reads.fields f).each t).0 h).0;
    }

  -- ---- the call graph

  module _ (names : Names) (net : Network) (shown : (f : Fact) → Classes p f ↔ Shows p names (Tells net) f) (graph : GraphTable) (reads : ReadsGraph p net graph) where
    -- a method that is listed is called, or is one without code that is
    listed-calls : (m i n : ℕ) → Contains (targets_at graph m i).methods n → Calls p m i n ⊎ CallsNone p m i n
    listed-calls m i n h = elim ((reads.targets m i n).0 h).1 [
      | inl told ↦ inl (places p whole (CallsMethod m i n) ((shown (CallsMethod m i n)).1 told))
      | inr told ↦ inr (places p whole (CallsAbstract m i n) ((shown (CallsAbstract m i n)).1 told))
    ]

    no-code : (m i n : ℕ) (method : Method) → slice_get p.methods n ≡ Some method → HasCode method → CallsNone p m i n → ⊥
    no-code m i n method found code c =
        let same : c.method ≡ method = same_Some c.method method (sym c.found ∙ found) in
        let none : length method.code ≡ 0 = ap (λ (x : Method). length x.code) (sym same) ∙ ap length c.none in
        omega arith

    some-code : (m i n : ℕ) (method : Method) → slice_get p.methods n ≡ Some method → method.code ≡ [] → Calls p m i n → ⊥
    some-code m i n method found none c =
        let same : c.method ≡ method = same_Some c.method method (sym c.found ∙ found) in
        let size : length c.method.code ≡ 0 = ap (λ (x : Method). length x.code) same ∙ ap length none in
        let code = c.code in
        omega arith

    graph-tell : (f : Fact) → TellsGraph p graph f → Classes p f
    graph-tell (Reached m i) h = (shown (Reached m i)).1 ((reads.reached m i).0 h).1
    graph-tell (InEnv t) h = absurd h
    graph-tell (InSlot m i z t) h = absurd h
    graph-tell (InThrown m i t) h = absurd h
    graph-tell (InParam m k t) h = absurd h
    graph-tell (InResult m t) h = absurd h
    graph-tell (InOut m t) h = absurd h
    graph-tell (InField f t) h = absurd h
    graph-tell (InBag b t) h = absurd h
    graph-tell (CallsMethod m i n) h = elim ((reads.targets m i n).0 h.listed).1 [
      | inl told ↦ (shown (CallsMethod m i n)).1 told
      | inr told ↦ absurd (no-code m i n h.method h.found h.code (places p whole (CallsAbstract m i n) ((shown (CallsAbstract m i n)).1 told)))
    ]
    graph-tell (CallsAbstract m i n) h = elim ((reads.targets m i n).0 h.listed).1 [
      | inl told ↦ absurd (some-code m i n h.method h.found h.none (places p whole (CallsMethod m i n) ((shown (CallsMethod m i n)).1 told)))
      | inr told ↦ (shown (CallsAbstract m i n)).1 told
    ]
    graph-tell (CallsLibrary m i) h = (shown (CallsLibrary m i)).1 ((reads.library m i).0 h).1
    graph-tell (Spans t u) h = absurd h
    graph-tell (Takes m i b) h = (shown (Takes m i b)).1 (((reads.takers m i).each b).0 h).1

    graph-has : (f : Fact) → IsKeptGraph f → Classes p f → TellsGraph p graph f
    graph-has (Reached m i) kept c = (reads.reached m i).1 (instr-of m i c, (shown (Reached m i)).0 c)
    graph-has (InEnv t) kept c = absurd kept
    graph-has (InSlot m i z t) kept c = absurd kept
    graph-has (InThrown m i t) kept c = absurd kept
    graph-has (InParam m k t) kept c = absurd kept
    graph-has (InResult m t) kept c = absurd kept
    graph-has (InOut m t) kept c = absurd kept
    graph-has (InField f t) kept c = absurd kept
    graph-has (InBag b t) kept c = absurd kept
    graph-has (CallsMethod m i n) kept c =
        let s : Calls p m i n = places p whole (CallsMethod m i n) c in
        record { listed = (reads.targets m i n).1 ((s.at.at.instr, s.at.at.found), inl ((shown (CallsMethod m i n)).0 c)); method = s.method; found = s.found; code = s.code }
    graph-has (CallsAbstract m i n) kept c =
        let s : CallsNone p m i n = places p whole (CallsAbstract m i n) c in
        record { listed = (reads.targets m i n).1 ((s.at.at.instr, s.at.at.found), inr ((shown (CallsAbstract m i n)).0 c)); method = s.method; found = s.found; none = s.none }
    graph-has (CallsLibrary m i) kept c =
        let s : IsCall p m i = says p whole (CallsLibrary m i) c in
        (reads.library m i).1 ((s.at.at.instr, s.at.at.found), (shown (CallsLibrary m i)).0 c)
    graph-has (Spans t u) kept c = absurd kept
    graph-has (Takes m i b) kept c = ((reads.takers m i).each b).1 ((places p whole (Takes m i b) c).0, (shown (Takes m i b)).0 c)

    pub graph-least : (f : Fact) → IsKeptGraph f → TellsGraph p graph f ↔ Classes p f
    graph-least f kept = (graph-tell f, graph-has f kept)

    -- one call stands at an instruction
    target-here : (m i n height under : ℕ) (call other : CallOp) → OpAt p m i (Call call) height → OpAt p m i (Call other) under → IsTargetOf p other n → IsTargetOf p call n
    target-here m i n height under call other at to target = subst (λ (x : CallOp). IsTargetOf p x n) (call-is other call (same-op p m i (Call other) (Call call) under height to at).0) target

    pub graph-for : IsGraphFor p graph
    graph-for = record {
      reached = λ m i h.
          let a : IsAt p m i = reached-at p whole m i ((shown (Reached m i)).1 ((reads.reached m i).0 h).1) in
          record { instr = a.instr; found = instr-found p m i a.method a.instr a.found a.at; reached = a.reached };
      targets = λ m i n h. elim (listed-calls m i n h) [
        | inl c ↦ record { call = c.call; height = c.at.height; at = c.at.at }
        | inr c ↦ record { call = c.call; height = c.at.height; at = c.at.at }
      ];
      each = λ m i n height call at h. elim (listed-calls m i n h) [
        | inl c ↦ target-here m i n height c.at.height call c.call at c.at.at c.target
        | inr c ↦ target-here m i n height c.at.height call c.call at c.at.at c.target
      ];
      library = λ m i h.
          let s : IsCall p m i = says p whole (CallsLibrary m i) ((shown (CallsLibrary m i)).1 ((reads.library m i).0 h).1) in
          record { call = s.call; height = s.at.height; at = s.at.at };
      takers = λ m i t h. places p whole (Takes m i t) ((shown (Takes m i t)).1 (((reads.takers m i).each t).0 h).1);
    }

    pub graph-sized : AreTakersFor p graph
    graph-sized = record { size = λ m i. (reads.takers m i).size }
