-- Each rule is applied at an instruction of some block.
use Rattle.std.proofs.Common.{◌≡◌, ℕ, zero, suc, ◌<◌, Bool, true, false, List, [], ◌∷◌, length, refl, sym, ap, ◌∙◌, arith}
use Rattle.std.specs.Prelude.{◌||◌, nat_eq, Option, Some, None, All, Contains, slice_get}
use Rattle.std.specs.List.{list_any}
use Rattle.std.proofs.lemmas.Bool.{and_parts, eqb-true}
use Rattle.std.proofs.lemmas.Option.{slice_get_within}
use Rattle.ja_base.specs.declared.id.MethodId.{MethodId}
use Rattle.ja_ir.specs.declared.program.Parts.{Parts}
use Rattle.ja_ir.specs.declared.method.Method.{Method}
use Rattle.ja_ir.specs.declared.method.Instr.{Instr}
use Rattle.ja_ir.specs.declared.class.ClassInfo.{ClassInfo}
use Rattle.ja_ir.specs.declared.entry.Entry.{Entry}
use Rattle.ja_ir.specs.Lookup.{HasCode, code_of, instr_at}
use Rattle.ja_ir.specs.Initializing.{inits_of_class}
use Rattle.ja_ir.specs.Entries.{IsConstructorOf}
use Rattle.ja_ir.specs.Whole.{IsWhole, IsWholeEntry, NamesInitializer}
use Rattle.ja_ir.proofs.Cuts.{all-at}
use Rattle.ja_ir.proofs.Entered.{constructor-says}
use Rattle.ja_facts.specs.Held.{Cell}
use Rattle.ja_facts.specs.Actions.{IsInitializer, IsConstructor}
use Rattle.ja_facts.specs.Formulas.{Assignment}
use Rattle.ja_facts.specs.Equations.{Fact, Context, At, stored_facts, initializer_called, constructor_called, entry_called, called, initialized, begins, steps, reads_stored_field, call_resumes, initializer_resumes, caught, callee_caught, leaves, callee_leaves, method_returns, method_ends, stored, taken}
use Rattle.ja_blocks.specs.Blocks.{IsInSome, AreProgramBlocks}
use Rattle.ja_solution.specs.Problem.{Problem, Gives}
use Rattle.ja_solution.specs.Cells.{begins_at, has_cell}
use Rattle.ja_solution.specs.Settled.{Place, applied_at}

-- what a list has is at a place of it
pub at_place : {X : Type 0} (xs : List X) (y : X) → Contains xs y → (k : ℕ) × (slice_get xs k ≡ Some y)
at_place [] y (k, lt, is) = absurd (omega arith)
at_place (z ∷ xs) y (zero, lt, is) = (0, ap Some is)
at_place (z ∷ xs) y (suc k, lt, is) = let rest = at_place xs y (k, omega arith, is) in (suc rest.0, rest.1)

-- what passes a test of some item is there
any_at : {X : Type 0} (t : X → Bool) (xs : List X) → list_any t xs ≡ true → (y : X) × Contains xs y × (t y ≡ true)
any_at t [] e = absurd (cc e)
any_at {X} t (z ∷ xs) e = by (t z) refl (any_at t xs)
  where
    by : (b : Bool) → t z ≡ b → (list_any t xs ≡ true → (y : X) × Contains xs y × (t y ≡ true)) → (y : X) × Contains (z ∷ xs) y × (t y ≡ true)
    by true is _ = (z, (0, omega arith, refl), is)
    by false is found = let rest = found (sym (ap (λ b. b || list_any t xs) is) ∙ e) in (rest.0, (suc rest.1.0, omega (arith, rest.1.1), rest.1.2), rest.2)

-- an instruction of the program, in its method
pub in_code : (p : Parts) (m i : ℕ) (instr : Instr) → instr_at p m i ≡ Some instr → (method : Method) × (slice_get p.methods m ≡ Some method) × (i < length method.code)
in_code p m i instr found = by (slice_get p.methods m) refl found
  where
    by : (o : Option Method) → slice_get p.methods m ≡ o → slice_get (code_of o) i ≡ Some instr → (method : Method) × (slice_get p.methods m ≡ Some method) × (i < length method.code)
    by None e no_code = absurd (cc no_code)
    by (Some method) e is = (method, e, slice_get_within method.code i instr is)

module _ (x : Problem) (whole : IsWhole x.program) (blocks : AreProgramBlocks x.program x.blocks) where
  -- the instruction is in a block
  pub in_block : (m i : ℕ) (instr : Instr) → instr_at x.program m i ≡ Some instr → IsInSome x.blocks m i
  in_block m i instr found = let at = in_code x.program m i instr found in blocks.all m i at.0 at.1 at.2

  -- and so is the first one of a method with code
  begins_in : (m : ℕ) (method : Method) → slice_get x.program.methods m ≡ Some method → HasCode method → IsInSome x.blocks m 0
  begins_in m method found code = blocks.all m 0 method found code

  initializer_in : (m : ℕ) → IsInitializer x.program m → IsInSome x.blocks m 0
  initializer_in m is = by (slice_get x.program.classes is.entry.class.0) refl is.initializes
    where
      by : (o : Option ClassInfo) → slice_get x.program.classes is.entry.class.0 ≡ o → Contains (inits_of_class o) (record { 0 = m }) → IsInSome x.blocks m 0
      by None e (k, lt, never) = absurd (omega arith)
      by (Some class) e has =
          let inits = all-at (λ (c : ClassInfo). All (λ (n : MethodId). NamesInitializer x.program n.0) c.inits) x.program.classes whole.inits is.entry.class.0 class e in
          let at = at_place class.inits (record { 0 = m }) has in
          let names : NamesInitializer x.program m = all-at (λ (n : MethodId). NamesInitializer x.program n.0) class.inits inits at.0 (record { 0 = m }) at.1 in
          begins_in m names.method names.named.found names.code

  constructor_in : (c m : ℕ) → IsConstructor x.program c m → IsInSome x.blocks m 0
  constructor_in c m is = let of : IsConstructorOf x.program c m = (constructor-says x.program c m).0 is in begins_in m of.method of.found of.constructs.plain.code

  entry_in : (entry : Entry) → Contains x.program.entries entry → IsInSome x.blocks entry.method.0 0
  entry_in entry has =
      let at = at_place x.program.entries entry has in
      let is : IsWholeEntry x.program entry = all-at (IsWholeEntry x.program) x.program.entries whole.entries at.0 entry at.1 in
      begins_in entry.method.0 is.method is.found is.code

  -- a block that begins a method has its first instruction
  beginning_in : (m : ℕ) (a : Assignment) → has_cell x (At m 0 a a) ≡ true → IsInSome x.blocks m 0
  beginning_in m a e =
      let found = any_at (begins_at m 0) x.blocks e in
      let parts = and_parts (nat_eq found.0.method.0 m) (nat_eq found.0.first 0) found.2 in
      record { block = found.0; listed = found.1; has = (eqb-true found.0.method.0 m parts.0, (let zeroth = eqb-true found.0.first 0 parts.1 in omega arith), omega arith) }

  abbrev InBlock : Place → Type 0
  InBlock place = IsInSome x.blocks place.m place.i

  stored_beginning : (cells : List Cell) (m : ℕ) (a : Assignment) → IsInSome x.blocks m 0 → InBlock (applied_at (stored_facts cells) (Context m a))
  stored_beginning [] m a is = is
  stored_beginning (c ∷ cells) m a is = is

  -- a rule that gives a fact of some cell is applied in a block
  pub applied_in : (ps : List Fact) (f : Fact) → Gives x ps f → has_cell x f ≡ true → InBlock (applied_at ps f)
  applied_in ps f (initializer_called {m = m} is _) e = initializer_in m is
  applied_in ps f (constructor_called {m = m} entry _ is _) e = constructor_in entry.class.0 m is
  applied_in ps f (entry_called {a = a} entry cells may) e = stored_beginning cells entry.method.0 a (entry_in entry may.is_entry.listed)
  applied_in ps f (called {m = m} {i = i} call) e = in_block m i call.at.at.instr call.at.at.found
  applied_in ps f (initialized {m = m} {i = i} at _) e = in_block m i at.instr at.found
  applied_in ps f (begins {m = m} {a = a}) e = beginning_in m a e
  applied_in ps f (steps {m = m} {i = i} at _ _ _) e = in_block m i at.instr at.found
  applied_in ps f (reads_stored_field {m = m} {i = i} at _ _ _ _ _) e = in_block m i at.instr at.found
  applied_in ps f (call_resumes {m = m} {i = i} call _ _) e = in_block m i call.at.at.instr call.at.at.found
  applied_in ps f (initializer_resumes {m = m} {i = i} at _ _ _) e = in_block m i at.instr at.found
  applied_in ps f (caught {m = m} {i = i} _ _ end _) e = in_block m i end.instr end.found
  applied_in ps f (callee_caught {m = m} {i = i} call _ _ _ _) e = in_block m i call.at.at.instr call.at.at.found
  applied_in ps f (leaves {m = m} {i = i} _ _ end) e = in_block m i end.instr end.found
  applied_in ps f (callee_leaves {m = m} {i = i} call _ _ _) e = in_block m i call.at.at.instr call.at.at.found
  applied_in ps f (method_returns {m = m} {i = i} at) e = in_block m i at.instr at.found
  applied_in ps f (method_ends {m = m} {i = i} at) e = in_block m i at.instr at.found
  applied_in ps f (stored {m = m} {i = i} at _ _) e = in_block m i at.instr at.found
  applied_in ps f (taken {m = m} {i = i} at _ _) e = in_block m i at.at.instr at.at.found
