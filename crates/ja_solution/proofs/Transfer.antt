-- Rules of a block that hold go on holding while what the block reads stays.
use Rattle.std.proofs.Common.{◌≡◌, ℕ, zero, suc, true, false, List, [], ◌∷◌, refl, sym, ap, ◌∙◌, subst, inl, inr, arith}
use Rattle.std.specs.Prelude.{Some, Contains, slice_get}
use Rattle.ja_bdd.specs.Functions.{Function}
use Rattle.ja_join.specs.Steps.{IsBelow}
use Rattle.ja_facts.specs.Least.{Each, Iterate}
use Rattle.ja_facts.proofs.LeastLaws.{Least-is_solution}
use Rattle.ja_facts.specs.Formulas.{Assignment}
use Rattle.ja_facts.specs.Equations.{Fact, Context, At, Normal, Threw, Stored}
use Rattle.ja_solution.specs.declared.cells.CellName.TheVariants.{Called, Returned, Thrown, Before}
use Rattle.ja_blocks.specs.declared.blocks.ProgramBlock.{ProgramBlock}
use Rattle.ja_blocks.specs.Blocks.{HasPlace, AreProgramBlocks}
use Rattle.ja_solution.specs.Problem.{Problem}
use Rattle.ja_solution.specs.Cells.{Values, Shows, InCells, has_cell, SaidBy, by_cell, by_rule, Said}
use Rattle.ja_solution.specs.Settled.{applied_at, Has, IsSettled}
use Rattle.ja_solution.specs.Reads.{BlockReads, ReadsNoMore, Grow}
use Rattle.ja_solution.proofs.Unique.{one_block, has_first}
use Rattle.ja_solution.proofs.Reading.{IsUsed, premise_used, inside}

-- each fact of a list
each_of : {F : Type 0} (S : F → Type 0) (fs : List F) → ((f : F) → Contains fs f → S f) → Each S fs
each_of S [] h = tt
each_of S (f ∷ fs) h = (h f (0, omega arith, refl), each_of S fs (λ g has. h g (suc has.0, omega (arith, has.1), has.2)))

of_each : {F : Type 0} (S : F → Type 0) (fs : List F) → Each S fs → (f : F) → Contains fs f → S f
of_each S [] each f (k, lt, is) = absurd (omega arith)
of_each S (g ∷ fs) each f (zero, lt, is) = subst S is each.0
of_each S (g ∷ fs) each f (suc k, lt, is) = of_each S fs each.1 f (k, omega arith, is)

-- more variables are shown by a larger function
shows_more : (x : Problem) (m : ℕ) (φ ψ : Function) (a : Assignment) (Now : Assignment → Type 0) → IsBelow φ ψ → Shows x m φ a Now → Shows x m ψ a Now
shows_more x m φ ψ a Now less s = record { method = s.method; frame = s.frame; is = s.is; variables = s.variables; holds = less s.variables s.holds; entry = s.entry; present = s.present }

-- cells that grow say what they said
pub in_grown : (x : Problem) (v w : Values) → Grow v w → (f : Fact) → InCells x v f → InCells x w f
in_grown x v w grow (Context m a) s = shows_more x m (v.at (Called m)) (w.at (Called m)) a (λ now. Unit {0}) (grow.cells (Called m)) s
in_grown x v w grow (Normal m a t) s = shows_more x m (v.at (Returned m)) (w.at (Returned m)) a _ (grow.cells (Returned m)) s
in_grown x v w grow (Threw m a t) s = shows_more x m (v.at (Thrown m)) (w.at (Thrown m)) a _ (grow.cells (Thrown m)) s
in_grown x v w grow (Stored c) s = (s.0, grow.stored _ s.1)
in_grown x v w grow (At m i a b) r = record { number = r.number; block = r.block; at = r.at; is_method = r.is_method; is_first = r.is_first; shows = shows_more x m (v.at (Before r.number)) (w.at (Before r.number)) a _ (grow.cells (Before r.number)) r.shows }

-- what is said of a fact that has a cell, its cell says
cell_says : (x : Problem) (v : Values) (n : ℕ) (f : Fact) → has_cell x f ≡ true → Iterate (SaidBy x v) n f → InCells x v f
cell_says x v zero f has never = absurd never
cell_says x v (suc n) f has (ps, said, each) = by ps f said has
  where
    by : (ps : List Fact) (f : Fact) → SaidBy x v ps f → has_cell x f ≡ true → InCells x v f
    by ps f (by_cell c) _ = c
    by ps f (by_rule none _) some = absurd (let e : true ≡ false = sym some ∙ none in cc e)

module _ (x : Problem) (blocks : AreProgramBlocks x.program x.blocks) (number : ℕ) (block : ProgramBlock) (at : slice_get x.blocks number ≡ Some block) (from to : Values) (no_more : ReadsNoMore x block from to) where
  abbrev Used : Fact → Type 0
  Used = IsUsed x blocks number block at

  said : (f : Fact) → InCells x from f → Said x from f
  said f is = Least-is_solution (SaidBy x from) [] f (by_cell is) tt

  -- what is read is said before
  read_said : (n : ℕ) (f : Fact) → has_cell x f ≡ true → BlockReads x block f → Iterate (SaidBy x to) n f → Said x from f
  read_said n f has reads it = said f (no_more f reads (cell_says x to n f has it))

  -- and what the block's own cell says
  own_said : (m i : ℕ) (a b : Assignment) → HasPlace block m i → InCells x to (At m i a b) → Said x from (At m i a b)
  own_said m i a b place r =
      let here : HasPlace r.block m i = subst (λ (q : ℕ × ℕ). HasPlace r.block q.0 q.1) (λ t. (r.is_method t, r.is_first t)) (has_first x.program x.blocks blocks r.number r.block r.at) in
      let same : r.number ≡ number = one_block x.program x.blocks blocks r.number number r.block block m i r.at at here place in
      let one : Some r.block ≡ Some block = sym r.at ∙ ap (slice_get x.blocks) same ∙ at in
      let is : r.block ≡ block = cc one in
      said (At m i a b) (no_more (At m i a b) (sym (ap (λ (c : ProgramBlock). c.method.0) is) ∙ r.is_method, sym (ap (λ (c : ProgramBlock). c.first) is) ∙ r.is_first) r)

  -- all that the rules of the block go by
  used_said : (n : ℕ) (f : Fact) → Used f → Iterate (SaidBy x to) n f → Said x from f
  used_said zero f used never = absurd never
  used_said (suc n) (Context m a) (inl never) it = absurd never
  used_said (suc n) (Context m a) (inr reads) it = read_said (suc n) (Context m a) refl reads it
  used_said (suc n) (Normal m a s) (inl never) it = absurd never
  used_said (suc n) (Normal m a s) (inr reads) it = read_said (suc n) (Normal m a s) refl reads it
  used_said (suc n) (Threw m a s) (inl never) it = absurd never
  used_said (suc n) (Threw m a s) (inr reads) it = read_said (suc n) (Threw m a s) refl reads it
  used_said (suc n) (Stored c) (inl never) it = absurd never
  used_said (suc n) (Stored c) (inr reads) it = read_said (suc n) (Stored c) refl reads it
  used_said (suc n) (At m i a b) used (ps, said_by, each) = by (place used) (used_said n) ps (At m i a b) said_by each refl
    where
      place : Used (At m i a b) → HasPlace block m i
      place (inl here) = here
      place (inr (is_method, is_first)) = subst (λ (q : ℕ × ℕ). HasPlace block q.0 q.1) (λ t. (is_method t, is_first t)) (has_first x.program x.blocks blocks number block at)

      by : HasPlace block m i → ((g : Fact) → Used g → Iterate (SaidBy x to) n g → Said x from g) → (ps : List Fact) (f : Fact) → SaidBy x to ps f → Each (Iterate (SaidBy x to) n) ps → f ≡ At m i a b → Said x from (At m i a b)
      by here rest ps f (by_cell r) each is = own_said m i a b here (subst (InCells x to) is r)
      by here rest ps f (by_rule none gives) each is =
          let at_here : Has block (applied_at ps f) = inside x blocks number block at ps f gives m i a b is here (sym (ap (has_cell x) is) ∙ none) in
          subst (Said x from) is (Least-is_solution (SaidBy x from) ps f (by_rule none gives)
          (each_of (Said x from) ps (λ g has. rest g (premise_used x blocks number block at ps f gives at_here g has) (of_each (Iterate (SaidBy x to) n) ps each g has))))

  -- the block stays settled
  pub stays_settled : (old new : Values) → Grow old new → IsSettled x block from old → IsSettled x block to new
  stays_settled old new grow settled = record {
    rules = λ ps f gives has each cell.
        in_grown x old new grow f (settled.rules ps f gives has
        (each_of (Said x from) ps (λ g in_ps. let it = of_each (Said x to) ps each g in_ps in used_said it.0 g (premise_used x blocks number block at ps f gives has g in_ps) it.1)) cell);
    sites = λ k site found has w.
        grow.warned k (settled.sites k site found has (record { call = w.call; under = w.under; at = w.at; a = w.a; b = w.b; fact = used_said w.fact.0 (At site.method.0 site.index w.a w.b) (inl has) w.fact.1; k = w.k; listed = w.listed; true_argument = w.true_argument }));
  }
