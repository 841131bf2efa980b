-- The rules of a block go by what it reads, and by what is before its own instructions.
use Rattle.std.proofs.Common.{◌≡◌, ◌⊎◌, ℕ, zero, suc, ◌<◌, true, false, List, [], ◌∷◌, refl, sym, ap, ◌∙◌, subst, inl, inr, arith}
use Rattle.std.specs.Prelude.{nat_eq, Option, Some, Contains, slice_get, slice_index_or}
use Rattle.std.proofs.lemmas.Bool.{and_from, eq-eqb}
use Rattle.std.proofs.lemmas.List.Folds.{list_any_at}
use Rattle.std.proofs.lemmas.Option.{slice_get_within, get_or_from_slice_get}
use native.Mathlib.Decide.{ℕ_discrete}
use mathlib.Core.Logic.{dite}
use Rattle.ja_ir.specs.declared.method.Method.{Method}
use Rattle.ja_ir.specs.declared.entry.Entry.{Entry}
use Rattle.ja_ir.specs.Lookup.{code_of, Leads}
use Rattle.ja_ir.specs.Handlers.{Inside, dest}
use Rattle.ja_ir.specs.Blocks.{handles}
use Rattle.ja_sets.specs.Sets.{Has as HasMember}
use Rattle.ja_facts.specs.ClassSets.{CallsMethod}
use Rattle.ja_facts.specs.Held.{Cell, FieldHolds}
use Rattle.ja_facts.specs.FactTables.{targets_at}
use Rattle.ja_facts.specs.Told.{cell_number}
use Rattle.ja_facts.specs.Formulas.{Assignment}
use Rattle.ja_facts.specs.Equations.{Fact, Context, At, Normal, Threw, Stored, stored_facts, initializer_called, constructor_called, entry_called, called, initialized, begins, steps, reads_stored_field, call_resumes, initializer_resumes, caught, callee_caught, leaves, callee_leaves, method_returns, method_ends, stored, taken}
use Rattle.ja_blocks.specs.declared.blocks.ProgramBlock.{ProgramBlock}
use Rattle.ja_blocks.specs.Blocks.{IsBlockIn, HasPlace, AreProgramBlocks}
use Rattle.ja_blocks.specs.Readers.{IsRead}
use Rattle.ja_blocks.proofs.Reading.{reads}
use Rattle.ja_solution.specs.Problem.{Problem, known, Gives}
use Rattle.ja_solution.specs.Cells.{begins_at, has_cell}
use Rattle.ja_solution.specs.Settled.{applied_at, Has}
use Rattle.ja_solution.specs.Reads.{BlockReads}
use Rattle.ja_solution.proofs.Unique.{listed_at}
use Rattle.ja_solution.proofs.Placed.{in_code}
use Rattle.ja_solution.proofs.Caught.{HasTarget, caught_at, none_of}

module _ (x : Problem) where
  -- what the tables have of calls, and of what fields hold
  calls_listed : (m i n : ℕ) → (known x).classes (CallsMethod m i n) → Contains (targets_at x.facts.graph m i).methods n
  calls_listed m i n (inr goes) = goes.listed
  calls_listed m i n (inl never) = absurd never

  held_listed : (f : ℕ) (c : Cell) → (known x).held (FieldHolds f c) → HasMember (slice_index_or x.facts.holds.fields f []) (cell_number x.program c)
  held_listed f c has = has.1

module _ (x : Problem) (blocks : AreProgramBlocks x.program x.blocks) (number : ℕ) (block : ProgramBlock) (at : slice_get x.blocks number ≡ Some block) where
  -- the fact is of what is before an instruction of the block
  abbrev pub IsBefore : Fact → Type 0
  IsBefore (At m i a b) = HasPlace block m i
  IsBefore (Context m a) = ⊥
  IsBefore (Normal m a s) = ⊥
  IsBefore (Threw m a s) = ⊥
  IsBefore (Stored c) = ⊥

  -- it is that, or one that the block reads
  abbrev pub IsUsed : Fact → Type 0
  IsUsed f = IsBefore f ⊎ BlockReads x block f

  read_used : (m i : ℕ) → HasPlace block m i → (f : Fact) → IsRead x.program x.facts.graph x.facts.holds m i f → IsUsed f
  read_used m i place (Context n a) never = absurd never
  read_used m i (own, from, to) (At n j a b) (is, same) = inl (own ∙ sym is, omega arith, omega arith)
  read_used m i (own, from, to) (Normal n a s) read = inr (record { i = i; from = from; to = to; holds = subst (λ k. IsRead x.program x.facts.graph x.facts.holds k i (Normal n a s)) (sym own) read })
  read_used m i (own, from, to) (Threw n a s) read = inr (record { i = i; from = from; to = to; holds = subst (λ k. IsRead x.program x.facts.graph x.facts.holds k i (Threw n a s)) (sym own) read })
  read_used m i (own, from, to) (Stored c) read = inr (inl (record { i = i; from = from; to = to; holds = subst (λ k. IsRead x.program x.facts.graph x.facts.holds k i (Stored c)) (sym own) read }))

  -- the premises of a rule with one before an instruction
  by_at : (m i : ℕ) (a b : Assignment) (ps : List Fact) (f : Fact) → Gives x (At m i a b ∷ ps) f → HasPlace block m i → (y : Fact) → Contains (At m i a b ∷ ps) y → IsUsed y
  by_at m i a b ps f gives place y has =
      read_used m i place y (reads x.program (known x) x.facts.graph x.facts.holds (calls_listed x) (held_listed x) (At m i a b ∷ ps) f gives m i a b (0, omega arith, refl) y has)

  stored_used : (entry : Entry) → Contains x.program.entries entry → (cells : List Cell) (a : Assignment) → Has block (applied_at (stored_facts cells) (Context entry.method.0 a)) → (y : Fact) → Contains (stored_facts cells) y → IsUsed y
  stored_used entry listed [] a has y (k, lt, is) = absurd (omega arith)
  stored_used entry listed (c ∷ cells) a has y (zero, lt, is) = subst IsUsed is (inr (inr (record { entry = entry; listed = listed; is_method = has.0; is_first = (let from = has.1 in omega arith) })))
  stored_used entry listed (c ∷ []) a has y (suc k, lt, is) = absurd (omega arith)
  stored_used entry listed (c ∷ d ∷ cells) a has y (suc k, lt, is) = stored_used entry listed (d ∷ cells) a has y (k, omega arith, is)

  -- the premises of a rule that is applied in the block
  pub premise_used : (ps : List Fact) (f : Fact) → Gives x ps f → Has block (applied_at ps f) → (y : Fact) → Contains ps y → IsUsed y
  premise_used ps f (initializer_called is nothing) place y has = absurd (none_of y has)
  premise_used ps f (constructor_called entry objects is nothing) place y has = absurd (none_of y has)
  premise_used ps f (entry_called {a = a} entry cells may) place y has = stored_used entry may.is_entry.listed cells a place y has
  premise_used ps f (called {m = m} {i = i} {c = c} {b = b} call) place y has = by_at m i c b [] f (called call) place y has
  premise_used ps f (initialized {m = m} {i = i} {c = c} {b = b} init nothing) place y has = by_at m i c b [] f (initialized init nothing) place y has
  premise_used ps f (begins {m = m} {a = a}) place y (zero, lt, is) = subst IsUsed is (inr (place.0, (let from = place.1 in omega arith)))
  premise_used ps f (begins {m = m} {a = a}) place y (suc k, lt, is) = absurd (omega arith)
  premise_used ps f (steps {m = m} {i = i} {a = a} {b = b} op leads end unread) place y has = by_at m i a b [] f (steps op leads end unread) place y has
  premise_used ps f (reads_stored_field {m = m} {i = i} {a = a} {b = b} {cell = cell} op leads end gets is answers) place y has = by_at m i a b (Stored cell ∷ []) f (reads_stored_field op leads end gets is answers) place y has
  premise_used ps f (call_resumes {m = m} {i = i} {n = n} {a = a} {b = b} {c = c} {s = s} call leads end) place y has = by_at m i a b (Normal n c s ∷ []) f (call_resumes call leads end) place y has
  premise_used ps f (initializer_resumes {m = m} {i = i} {n = n} {a = a} {b = b} {c = c} {s = s} op init nothing end) place y has = by_at m i a b (Normal n c s ∷ []) f (initializer_resumes op init nothing end) place y has
  premise_used ps f (caught {m = m} {i = i} {a = a} {b = b} thrown goes end takes) place y has = by_at m i a b [] f (caught thrown goes end takes) place y has
  premise_used ps f (callee_caught {m = m} {i = i} {n = n} {a = a} {b = b} {c = c} {s = s} call thrown goes end takes) place y has = by_at m i a b (Threw n c s ∷ []) f (callee_caught call thrown goes end takes) place y has
  premise_used ps f (leaves {m = m} {i = i} {a = a} {b = b} thrown goes end) place y has = by_at m i a b [] f (leaves thrown goes end) place y has
  premise_used ps f (callee_leaves {m = m} {i = i} {n = n} {a = a} {b = b} {c = c} {s = s} call thrown goes end) place y has = by_at m i a b (Threw n c s ∷ []) f (callee_leaves call thrown goes end) place y has
  premise_used ps f (method_returns {m = m} {i = i} {a = a} {b = b} op) place y has = by_at m i a b [] f (method_returns op) place y has
  premise_used ps f (method_ends {m = m} {i = i} {a = a} {b = b} op) place y has = by_at m i a b [] f (method_ends op) place y has
  premise_used ps f (stored {m = m} {i = i} {a = a} {b = b} op stores is) place y has = by_at m i a b [] f (stored op stores is) place y has
  premise_used ps f (taken {m = m} {i = i} {a = a} {b = b} call takes is) place y has = by_at m i a b [] f (taken call takes is) place y has

  own : IsBlockIn x.program block
  own = blocks.each block (listed_at x.blocks number block at)

  -- an instruction of the block before which no cell is lies behind its first
  inner : (m i : ℕ) (a b : Assignment) → HasPlace block m i → has_cell x (At m i a b) ≡ false → block.first < i
  inner m i a b (is_method, from, to) none = dite (ℕ_discrete block.first i)
      (λ same. absurd (true_not_false (sym (begun same) ∙ none)))
      (λ ne. omega arith)
    where
      begun : block.first ≡ i → has_cell x (At m i a b) ≡ true
      begun same = list_any_at (begins_at m i) x.blocks number block (slice_get_within x.blocks number block at)
          (ap (begins_at m i) (get_or_from_slice_get x.blocks number block block at) ∙ and_from (nat_eq block.method.0 m) (nat_eq block.first i) (eq-eqb block.method.0 m is_method) (eq-eqb block.first i same))

      true_not_false : true ≡ false → ⊥
      true_not_false e = cc e

  -- where an instruction leads into the block, it is the one before
  led : (m i j : ℕ) → HasPlace block m j → block.first < j → Leads x.program m i j → HasPlace block m i
  led m i j (is_method, from, to) past leads =
      let code = in_code x.program m i leads.instr leads.found in
      let one : Some own.method ≡ Some code.0 = sym own.found ∙ ap (slice_get x.program.methods) is_method ∙ code.1 in
      let same : own.method ≡ code.0 = cc one in
      let here : slice_get code.0.code i ≡ Some leads.instr = sym (ap (λ (o : Option Method). slice_get (code_of o) i) code.1) ∙ leads.found in
      let next : j ≡ suc i = own.is.entered i j leads.instr past to (subst (λ (method : Method). slice_get method.code i ≡ Some leads.instr) (sym same) here) leads.listed in
      (is_method, omega arith, omega arith)

  -- no handler is inside the block
  not_caught : (m i token j : ℕ) → HasPlace block m j → block.first < j → Contains (dest x.program m i token) (Inside j) → ⊥
  not_caught m i token j (is_method, from, to) past goes =
      let found : slice_get x.program.methods m ≡ Some own.method = sym (ap (slice_get x.program.methods) is_method) ∙ own.found in
      let target : HasTarget own.method.handlers j = caught_at x.program m i token j own.method found goes in
      own.is.straight j past to (handles target.k target.handler target.at target.is_target)

  -- what is before an instruction inside the block follows by rules that are applied in the block
  pub inside : (ps : List Fact) (f : Fact) → Gives x ps f → (m i : ℕ) (a b : Assignment) → f ≡ At m i a b → HasPlace block m i → has_cell x (At m i a b) ≡ false → Has block (applied_at ps f)
  inside ps f gives m i a b is place none = by ps f gives is
    where
      past : block.first < i
      past = inner m i a b place none

      step : (n k j : ℕ) → n ≡ m → j ≡ i → Leads x.program n k j → HasPlace block n k
      step n k j p q leads = led n k j (subst (λ (r : ℕ × ℕ). HasPlace block r.0 r.1) (λ t. (sym p t, sym q t)) place) (subst (λ r. block.first < r) (sym q) past) leads

      catch : (n k j t : ℕ) → n ≡ m → j ≡ i → Contains (dest x.program n k t) (Inside j) → HasPlace block n k
      catch n k j t p q goes = absurd (not_caught n k t j (subst (λ (r : ℕ × ℕ). HasPlace block r.0 r.1) (λ u. (sym p u, sym q u)) place) (subst (λ r. block.first < r) (sym q) past) goes)

      by : (ps : List Fact) (f : Fact) → Gives x ps f → f ≡ At m i a b → Has block (applied_at ps f)
      by qs g (initializer_called _ _) e = absurd (cc e)
      by qs g (constructor_called _ _ _ _) e = absurd (cc e)
      by qs g (entry_called _ _ _) e = absurd (cc e)
      by qs g (called _) e = absurd (cc e)
      by qs g (initialized _ _) e = absurd (cc e)
      by qs g (begins {m = n} {a = c}) e = let zeroth : 0 ≡ i = cc e in absurd (omega (arith, past))
      by qs g (steps {m = n} {i = k} {j = j} _ leads _ _) e = step n k j (cc e) (cc e) leads
      by qs g (reads_stored_field {m = n} {i = k} {j = j} _ leads _ _ _ _) e = step n k j (cc e) (cc e) leads
      by qs g (call_resumes {m = n} {i = k} {j = j} _ leads _) e = step n k j (cc e) (cc e) leads
      by qs g (initializer_resumes {m = n} {i = k} _ _ _ _) e = let p : n ≡ m = cc e in let q : k ≡ i = cc e in subst (λ (r : ℕ × ℕ). HasPlace block r.0 r.1) (λ t. (sym p t, sym q t)) place
      by qs g (caught {m = n} {i = k} {j = j} {t = t} _ goes _ _) e = catch n k j t (cc e) (cc e) goes
      by qs g (callee_caught {m = n} {i = k} {j = j} {t = t} _ _ goes _ _) e = catch n k j t (cc e) (cc e) goes
      by qs g (leaves _ _ _) e = absurd (cc e)
      by qs g (callee_leaves _ _ _ _) e = absurd (cc e)
      by qs g (method_returns _) e = absurd (cc e)
      by qs g (method_ends _) e = absurd (cc e)
      by qs g (stored _ _ _) e = absurd (cc e)
      by qs g (taken _ _ _) e = absurd (cc e)
