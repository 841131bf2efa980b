-- Tables of empty sets have no member.
use Rattle.std.proofs.Common.{◌≡◌, ℕ, zero, suc, ◌+◌, ◌<◌, Bool, true, false, List, [], ◌∷◌, length, map, replicate, get_or, subst, refl, ap, sym, ◌∙◌, inl, inr, arith}
use Rattle.std.specs.Prelude.{Contains}
use Rattle.std.proofs.lemmas.List.{get_or-replicate, get_or_past}
use Rattle.std.proofs.Math.ListN.{length-replicate}
use Rattle.std.proofs.lemmas.Bool.{cases_lt}
use Rattle.ja_ir.specs.declared.program.Parts.{Parts}
use Rattle.ja_ir.specs.declared.method.Method.{Method}
use Rattle.ja_ir.specs.declared.method.Instr.{Instr}
use Rattle.ja_sets.specs.Sets.{Has, HasPair}
use Rattle.ja_ir.specs.Params.{param_count}
use Rattle.ja_facts.specs.Slots.{argument}
use Rattle.ja_facts.specs.ClassTables.{no_members, token_count, empty_classes, slots_before, throws_before}
use Rattle.ja_facts.specs.FactTables.{empty_graph, calls_of, no_targets, empty_held, empty_pairs, empty_effects, empty_reach, cell_count, no_pairs, name_count, live_count}
use Rattle.ja_facts.specs.declared.targets.Targets.{Targets}
use Rattle.ja_facts.specs.ClassSets.{Fact as ClassFact, Reached, InEnv, InSlot, InThrown, InParam, InResult, InOut, InField, InBag, CallsMethod, CallsAbstract, CallsLibrary, Spans, Takes}
use Rattle.ja_facts.specs.Told.{LeadsBy, leads_itself, leads_by_field, leads_by_bag, TellsSets, TellsGraph, TellsHeld, TellsHeap, TellsReach, PairHas, WithinHas, within_before, within_absorbed, within_turned, cell_number}
use Rattle.ja_facts.specs.Held.{Fact as HeldFact, TokenHolds, FieldHolds}
use Rattle.ja_facts.specs.Sharing.{Fact as HeapFact, PairAt, PairWithin, Effect, Name, OfSlot}
use Rattle.ja_facts.specs.Reaching.{Fact as ReachFact, ReachAt, ReachWithin}

-- an item of a list of copies is the copy
get_or-copies : {A : Type 0} (count k : ℕ) (x : A) → get_or (replicate count x) k x ≡ x
get_or-copies count k x = elim (cases_lt k count) [ inl h ↦ get_or-replicate count k x x h | inr past ↦ get_or_past (replicate count x) k x (let e : length (replicate count x) ≡ count = length-replicate count x in omega arith) ]

no-member : (n t : ℕ) → Has (no_members n) t → ⊥
no-member n t has = let e : get_or (replicate n false) t false ≡ false = get_or-copies n t false in absurd (cc (has, e))

-- an item of a list of rows of copies is the copy
row-copies : {A B : Type 0} (count : B → ℕ) (x : A) (items : List B) (row k : ℕ) → get_or (get_or (map (λ (b : B). replicate (count b) x) items) row []) k x ≡ x
row-copies count x [] row k = refl
row-copies count x (b ∷ items) zero k = get_or-copies (count b) k x
row-copies count x (b ∷ items) (suc row) k = row-copies count x items row k

-- an item of a table of such rows is the copy
table-copies : {A B C : Type 0} (inner : C → List B) (count : C → B → ℕ) (x : A) (items : List C) (row column k : ℕ)
    → get_or (get_or (get_or (map (λ (c : C). map (λ (b : B). replicate (count c b) x) (inner c)) items) row []) column []) k x ≡ x
table-copies inner count x [] row column k = refl
table-copies inner count x (c ∷ items) zero column k = row-copies (count c) x (inner c) column k
table-copies inner count x (c ∷ items) (suc row) column k = table-copies inner count x items row column k

same-member : (n t : ℕ) (set : List Bool) → set ≡ no_members n → Has set t → ⊥
same-member n t set e has = no-member n t (sym (ap (λ (s : List Bool). get_or s t false) e) ∙ has)

module _ (p : Parts) where
  none : List Bool
  none = no_members (token_count p)

  nowhere : (m i : ℕ) → get_or (get_or (get_or (empty_graph p).targets m []) i []) 0 no_targets ≡ no_targets
  nowhere m i = table-copies (λ (method : Method). method.code) (λ (method : Method) (instr : Instr). calls_of instr.op) no_targets p.methods m i 0

  no-target : (m i n : ℕ) → Contains (get_or (get_or (get_or (empty_graph p).targets m []) i []) 0 no_targets).methods n → ⊥
  no-target m i n listed =
      let empty : (get_or (get_or (get_or (empty_graph p).targets m []) i []) 0 no_targets).methods ≡ [] = ap (λ (goes : Targets). goes.methods) (nowhere m i) in
      let below : listed.0 < length {A = ℕ} [] = subst (λ (ms : List ℕ). listed.0 < length ms) empty listed.1 in
      omega arith

  -- no bag and no field has a token, so that each token leads to itself alone
  pub leads-alone : {t u : ℕ} → LeadsBy p (empty_classes p) t u → u ≡ t
  leads-alone leads_itself = refl
  leads-alone (leads_by_field {v = v} f has member l) = absurd (same-member (token_count p) v _ (get_or-copies (length p.fields) f (no_members (token_count p))) member)
  leads-alone (leads_by_bag {u = u} {v = v} takes member l) = absurd (same-member (token_count p) v _ (get_or-copies (token_count p) u (no_members (token_count p))) member)

  pub only-spans : (f : ClassFact) → TellsSets p (empty_classes p) f → (t : ℕ) × (f ≡ Spans t t)
  only-spans (Reached m i) h = absurd h
  only-spans (InEnv t) h = absurd h
  only-spans (InSlot m i z t) h = absurd (same-member (token_count p) t _ (table-copies (λ (method : Method). method.code) (λ (method : Method) (instr : Instr). slots_before method instr) (no_members (token_count p)) p.methods m i h.n) h.member)
  only-spans (InThrown m i t) h = absurd (same-member (token_count p) t _ (table-copies (λ (method : Method). method.code) (λ (method : Method) (instr : Instr). throws_before instr) (no_members (token_count p)) p.methods m i 0) h)
  only-spans (InParam m k t) h = absurd (same-member (token_count p) t _ (row-copies param_count (no_members (token_count p)) p.methods m k) h)
  only-spans (InResult m t) h = absurd (same-member (token_count p) t _ (get_or-copies (length p.methods) m (no_members (token_count p))) h)
  only-spans (InOut m t) h = absurd (same-member (token_count p) t _ (get_or-copies (length p.methods) m (no_members (token_count p))) h)
  only-spans (InField f t) h = absurd (same-member (token_count p) t _ (get_or-copies (length p.fields) f (no_members (token_count p))) h)
  only-spans (InBag b t) h = absurd (same-member (token_count p) t _ (get_or-copies (token_count p) b (no_members (token_count p))) h)
  only-spans (CallsMethod m i n) h = absurd h
  only-spans (CallsAbstract m i n) h = absurd h
  only-spans (CallsLibrary m i) h = absurd h
  only-spans (Spans t u) h = (t, ap (Spans t) (leads-alone h))
  only-spans (Takes m i b) h = absurd h

  pub no-graph_fact : (f : ClassFact) → TellsGraph p (empty_graph p) f → ⊥
  no-graph_fact (Reached m i) h =
      let e : get_or (get_or (empty_graph p).reached m []) i false ≡ false = row-copies (λ (method : Method). length method.code) false p.methods m i in absurd (cc (h, e))
  no-graph_fact (InEnv t) h = h
  no-graph_fact (InSlot m i z t) h = h
  no-graph_fact (InThrown m i t) h = h
  no-graph_fact (InParam m k t) h = h
  no-graph_fact (InResult m t) h = h
  no-graph_fact (InOut m t) h = h
  no-graph_fact (InField f t) h = h
  no-graph_fact (InBag b t) h = h
  no-graph_fact (CallsMethod m i n) h = no-target m i n h.listed
  no-graph_fact (CallsAbstract m i n) h = no-target m i n h.listed
  no-graph_fact (CallsLibrary m i) h = let e : (get_or (get_or (get_or (empty_graph p).targets m []) i []) 0 no_targets).library ≡ false = ap (λ (goes : Targets). goes.library) (nowhere m i) in absurd (cc (h, e))
  no-graph_fact (Spans t u) h = h
  no-graph_fact (Takes m i b) h = same-member (token_count p) b _ (table-copies (λ (method : Method). method.code) (λ (method : Method) (instr : Instr). calls_of instr.op) (no_members (token_count p)) p.methods m i 0) h

-- ---- held cells, pairs, effects and reachability

no-member_or : (count n k t : ℕ) → Has (get_or (replicate count (no_members n)) k []) t → ⊥
no-member_or count n k t has =
    elim (cases_lt k count) [
      | inl h ↦ same-member n t (get_or (replicate count (no_members n)) k []) (get_or-replicate count k (no_members n) [] h) has
      | inr past ↦
          let none : get_or (replicate count (no_members n)) k [] ≡ [] = get_or_past (replicate count (no_members n)) k [] (let e : length (replicate count (no_members n)) ≡ count = length-replicate count (no_members n) in omega arith) in
          let e : get_or {A = Bool} [] t false ≡ true = sym (ap (λ (s : List Bool). get_or s t false) none) ∙ has in
          absurd (cc e)
    ]

no-pair : (n a b : ℕ) → HasPair (no_pairs n) a b → ⊥
no-pair n a b has = no-member_or n n a b has

no-listed_pair : (bound : Method → ℕ) (methods : List Method) (m i a b : ℕ)
    → HasPair (get_or (get_or (map (λ (method : Method). replicate (length method.code) (no_pairs (bound method))) methods) m []) i []) a b → ⊥
no-listed_pair bound [] m i a b has = absurd (cc has)
no-listed_pair bound (method ∷ methods) (suc m) i a b has = no-listed_pair bound methods m i a b has
no-listed_pair bound (method ∷ methods) zero i a b has =
    elim (cases_lt i (length method.code)) [
      | inl h ↦ no-pair (bound method) a b (subst (λ (set : List (List Bool)). HasPair set a b) (get_or-replicate (length method.code) i (no_pairs (bound method)) [] h) has)
      | inr past ↦
          let none : get_or (replicate (length method.code) (no_pairs (bound method))) i [] ≡ [] =
          get_or_past (replicate (length method.code) (no_pairs (bound method))) i [] (let e : length (replicate (length method.code) (no_pairs (bound method))) ≡ length method.code = length-replicate (length method.code) (no_pairs (bound method)) in omega arith) in
          let e : HasPair [] a b = subst (λ (set : List (List Bool)). HasPair set a b) none has in
          absurd (cc e)
    ]

pub no-held_fact : (p : Parts) (f : HeldFact) → TellsHeld p (empty_held p) f → ⊥
no-held_fact p (TokenHolds t c) h = no-member_or (token_count p) (cell_count p) t (cell_number p c) h.1
no-held_fact p (FieldHolds f c) h = no-member_or (length p.fields) (cell_count p) f (cell_number p c) h.1

module _ (p : Parts) where
  no-pair_fact : (m i : ℕ) (a b : Name) → PairHas p (empty_pairs p) m i a b → ⊥
  no-pair_fact m i a b h = no-listed_pair name_count p.methods m i h.first h.second h.member

  no-within : (C : ClassFact → Type 0) (m i : ℕ) (a b : Name) → WithinHas p C (empty_pairs p) m i a b → ⊥
  no-within C m i a b (within_before l h) = no-pair_fact m i a b h
  no-within C m i a b (within_absorbed {under = under} x v l s w live h g) = no-pair_fact m i a (OfSlot (argument under x)) h
  no-within C m i a b (within_turned {under = under} x v l s w live h g) = no-pair_fact m i b (OfSlot (argument under x)) h

  pub no-heap_fact : (C : ClassFact → Type 0) (f : HeapFact) → TellsHeap p C (empty_pairs p) (empty_effects p) f → ⊥
  no-heap_fact C (PairAt m i a b) h = no-pair_fact m i a b h
  no-heap_fact C (PairWithin m i a b) h = no-within C m i a b h
  no-heap_fact C (Effect m r) h =
      let e : get_or (get_or (empty_effects p) m []) h.k false ≡ false = row-copies (λ (method : Method). param_count method + 1) false p.methods m h.k in absurd (let has : get_or (get_or (empty_effects p) m []) h.k false ≡ true = h.member in cc (has, e))

  pub no-reach_fact : (f : ReachFact) → TellsReach p (empty_reach p) f → ⊥
  no-reach_fact (ReachAt m i a z) h = no-listed_pair live_count p.methods m i h.first h.second h.member
  no-reach_fact (ReachWithin m i a z) h = h
