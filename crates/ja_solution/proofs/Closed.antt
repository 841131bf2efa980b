-- Cells below the least solution, from which no rule gives more, mean it.
use Rattle.std.proofs.Common.{◌≡◌, ℕ, zero, suc, ◌%◌, Bool, true, false, List, [], get_or, refl, sym, ap, ◌∙◌, subst}
use Rattle.std.specs.Prelude.{◌&&◌, nat_eq, Some, slice_get}
use Rattle.std.proofs.lemmas.Bool.{and_parts, and_from, eqb-true, eq-eqb}
use Rattle.std.proofs.lemmas.List.Folds.{list_any_at}
use Rattle.std.proofs.lemmas.Option.{slice_get_within, get_or_from_slice_get}
use Rattle.ja_ir.specs.declared.method.Method.{Method}
use Rattle.ja_node_core.specs.Tree.{Assignment as Variables}
use Rattle.ja_bdd.specs.Functions.{Function, IsFree}
use Rattle.ja_facts.specs.Least.{Each, Iterate, IsSolution}
use Rattle.ja_facts.specs.Slots.{Slot, Local, OnStack}
use Rattle.ja_facts.specs.Formulas.{Assignment, Summary}
use Rattle.ja_facts.specs.Equations.{Fact, Context, At, Normal, Threw, Stored}
use Rattle.ja_facts.proofs.LeastLaws.{Each-weaker, Least-is_solution, Least-below}
use Rattle.ja_work.specs.declared.frame.Frame.{Frame}
use Rattle.ja_work.specs.Frames.{read}
use Rattle.ja_work.specs.Ends.{summary_of}
use Rattle.ja_work.specs.Work.{IsMethod, TellsSummary, entry_of, is_own, Saying, before, of_context, of_return, of_throw}
use Rattle.ja_solution.specs.declared.cells.CellName.TheVariants.{Called, Returned, Thrown, Before}
use Rattle.ja_blocks.specs.declared.blocks.ProgramBlock.{ProgramBlock}
use Rattle.ja_blocks.specs.Blocks.{HasPlace, AreProgramBlocks}
use Rattle.ja_solution.specs.Problem.{Problem, known, Gives, Solution}
use Rattle.ja_solution.specs.Cells.{Values, Shows, ShowsBefore, InCells, begins_at, has_cell, SaidBy, by_cell, by_rule, Said}
use Rattle.ja_solution.specs.Solved.{IsPartOf, AreBelow, IsClosed, AreExact}
use Rattle.ja_solution.proofs.Looks.{looks_at_own, same_own, same_zeroth, present_copy}
use Rattle.ja_solution.proofs.Unique.{one_block, has_first}

module _ (x : Problem) (v : Values) (below : AreBelow x v) where
  -- a cell says facts of the least solution alone
  pub in_solution : (f : Fact) → InCells x v f → Solution x f
  in_solution (Context m a) s = subst (λ b. Solution x (Context m b)) s.entry (((below.cells (Called m)).0.set s.method s.frame s.is).facts s.variables s.holds)
  in_solution (Normal m a t) s =
      let says = ((below.cells (Returned m)).set s.method s.frame s.is).facts s.variables s.holds in
      subst (λ (q : Assignment × Summary). Solution x (Normal m q.0 q.1)) (λ i. (s.entry i, s.present.1 i)) says.0
  in_solution (Threw m a t) s =
      let says = ((below.cells (Thrown m)).set s.method s.frame s.is).facts s.variables s.holds in
      subst (λ (q : Assignment × Summary). Solution x (Threw m q.0 q.1)) (λ i. (s.entry i, s.present.1 i)) says.0
  in_solution (Stored c) s = below.stored c s.0 s.1
  in_solution (At m i a b) r =
      let s = r.shows in
      let is : IsMethod x.program (known x) x.frames r.block.method.0 s.method s.frame = subst (λ n. IsMethod x.program (known x) x.frames n s.method s.frame) (sym r.is_method) s.is in
      let fact : Solution x (At r.block.method.0 r.block.first (entry_of s.method s.frame s.variables) (read s.frame 1 s.variables)) = ((below.cells (Before r.number) r.block r.at).set s.method s.frame is).facts s.variables s.holds in
      subst (λ (q : ℕ × ℕ × Assignment × Assignment). Solution x (At q.0 q.1 q.2 q.3)) (λ t. (r.is_method t, r.is_first t, s.entry t, s.present t)) fact

  said_solves : IsSolution (SaidBy x v) (Solution x)
  said_solves ps f (by_cell c) each = in_solution f c
  said_solves ps f (by_rule none gives) each = Least-is_solution (Gives x) ps f gives each

  pub said_is_solution : (f : Fact) → Said x v f → Solution x f
  said_is_solution = Least-below (SaidBy x v) (Solution x) said_solves

module _ (x : Problem) (v : Values) (closed : IsClosed x v) where
  gives_said : (ps : List Fact) (f : Fact) → Gives x ps f → Each (Said x v) ps → (b : Bool) → has_cell x f ≡ b → Said x v f
  gives_said ps f gives each true e = Least-is_solution (SaidBy x v) [] f (by_cell (closed.rules ps f gives each e)) tt
  gives_said ps f gives each false e = Least-is_solution (SaidBy x v) ps f (by_rule e gives) each

  pub solution_is_said : (f : Fact) → Solution x f → Said x v f
  solution_is_said = Least-below (Gives x) (Said x v) (λ ps f gives each. gives_said ps f gives each (has_cell x f) refl)

  pub solution_in_cells : (f : Fact) → has_cell x f ≡ true → Solution x f → InCells x v f
  solution_in_cells f e (zero, never) = absurd never
  solution_in_cells f e (suc n, (ps, gives, each)) = closed.rules ps f gives (Each-weaker (Iterate (Gives x) n) (Said x v) (λ g it. solution_is_said g (n, it)) ps each) e

-- one summary is told by one assignment
same_summary : (b c : Assignment) → TellsSummary b → TellsSummary c → summary_of b ≡ summary_of c → b ≡ c
same_summary b c first second same = (λ i. record { slot = λ z. slots z i; dirt = ap (λ (s : Summary). s.dirt) same i; exc = ap (λ (s : Summary). s.exc) same i })
  where
    slots : (z : Slot) → b.slot z ≡ c.slot z
    slots (Local l) = first.locals l ∙ sym (second.locals l)
    slots (OnStack zero) = ap (λ (s : Summary). s.result) same
    slots (OnStack (suc k)) = first.stack k ∙ sym (second.stack k)

module _ (x : Problem) (m : ℕ) (method : Method) (frame : Frame) (is : IsMethod x.program (known x) x.frames m method frame) where
  same_method : (s-method : Method) (s-frame : Frame) → IsMethod x.program (known x) x.frames m s-method s-frame → (s-method ≡ method) × (s-frame ≡ frame)
  same_method s-method s-frame other =
      let one : Some s-method ≡ Some method = sym other.found ∙ is.found in
      let two : Some s-frame ≡ Some frame = sym other.framed ∙ is.framed in
      (cc one, cc two)

  -- what is shown of the entry and the present of some variables is true for these
  shown_here : (saying : Saying x.program (known x)) (φ : Function) (u : Variables) → IsPartOf x m saying φ → Shows x m φ (entry_of method frame u) (λ now. now ≡ read frame 1 u) → φ u ≡ true
  shown_here saying φ u part s =
      let same = same_method s.method s.frame s.is in
      let entry : entry_of method frame s.variables ≡ entry_of method frame u = subst (λ (q : Method × Frame). entry_of q.0 q.1 s.variables ≡ entry_of method frame u) (λ t. (same.0 t, same.1 t)) s.entry in
      let present : read frame 1 s.variables ≡ read frame 1 u = subst (λ (g : Frame). read g 1 s.variables ≡ read frame 1 u) same.1 s.present in
      sym (looks_at_own φ (is_own method frame) part.low (part.set method frame is).own s.variables u (same_own method frame s.variables u entry present)) ∙ s.holds

  -- the same of the entry alone, where the function looks at nothing else
  entered_here : (φ : Function) (u : Variables) → IsPartOf x m of_context φ → ((w : ℕ) → w % 4 ≡ 1 → IsFree w φ) → Shows x m φ (entry_of method frame u) (λ now. Unit {0}) → φ u ≡ true
  entered_here φ u part alone s =
      let same = same_method s.method s.frame s.is in
      let entry : entry_of method frame s.variables ≡ entry_of method frame u = subst (λ (q : Method × Frame). entry_of q.0 q.1 s.variables ≡ entry_of method frame u) (λ t. (same.0 t, same.1 t)) s.entry in
      sym (looks_at_own φ (λ w. is_own method frame w && nat_eq (w % 4) 0) part.low free s.variables u (λ w own. let parts = and_parts (is_own method frame w) (nat_eq (w % 4) 0) own in same_zeroth method frame s.variables u entry w parts.0 (eqb-true (w % 4) 0 parts.1))) ∙ s.holds
    where
      free : (w : ℕ) → (is_own method frame w && nat_eq (w % 4) 0) ≡ false → IsFree w φ
      free w e = by (is_own method frame w) (nat_eq (w % 4) 0) refl refl e
        where
          by : (c d : Bool) → is_own method frame w ≡ c → nat_eq (w % 4) 0 ≡ d → (c && d) ≡ false → IsFree w φ
          by false d own zeroth e = (part.set method frame is).own w own
          by true true own zeroth e = absurd (cc e)
          by true false own zeroth e = alone w (present_copy method frame w own zeroth)

  summary_here : (saying : Saying x.program (known x)) (φ : Function) (u : Variables) → IsPartOf x m saying φ → TellsSummary (read frame 1 u)
      → Shows x m φ (entry_of method frame u) (λ now. TellsSummary now × (summary_of now ≡ summary_of (read frame 1 u))) → φ u ≡ true
  summary_here saying φ u part tells s = shown_here saying φ u part (record { method = s.method; frame = s.frame; is = s.is; variables = s.variables; holds = s.holds; entry = s.entry; present = same_summary (read s.frame 1 s.variables) (read frame 1 u) s.present.0 tells s.present.1 })

-- there is a cell for what is before a block
pub cell_of : (x : Problem) (k : ℕ) (block : ProgramBlock) → slice_get x.blocks k ≡ Some block → (a b : Assignment) → has_cell x (At block.method.0 block.first a b) ≡ true
cell_of x k block at a b =
    let here : get_or x.blocks k block ≡ block = get_or_from_slice_get x.blocks k block block at in
    list_any_at (begins_at block.method.0 block.first) x.blocks k block (slice_get_within x.blocks k block at)
    (ap (begins_at block.method.0 block.first) here ∙ and_from (nat_eq block.method.0 block.method.0) (nat_eq block.first block.first) (eq-eqb block.method.0 block.method.0 refl) (eq-eqb block.first block.first refl))

module _ (x : Problem) (v : Values) (blocks : AreProgramBlocks x.program x.blocks) (below : AreBelow x v) (closed : IsClosed x v) where
  from_block : (k : ℕ) (block : ProgramBlock) (at : slice_get x.blocks k ≡ Some block) (method : Method) (frame : Frame) (is : IsMethod x.program (known x) x.frames block.method.0 method frame) (u : Variables)
      → ShowsBefore x v block.method.0 block.first (entry_of method frame u) (read frame 1 u) → v.at (Before k) u ≡ true
  from_block k block at method frame is u r =
      let here : HasPlace r.block block.method.0 block.first = subst (λ (q : ℕ × ℕ). HasPlace r.block q.0 q.1) (λ t. (r.is_method t, r.is_first t)) (has_first x.program x.blocks blocks r.number r.block r.at) in
      let same : r.number ≡ k = one_block x.program x.blocks blocks r.number k r.block block block.method.0 block.first r.at at here (has_first x.program x.blocks blocks k block at) in
      shown_here x block.method.0 method frame is (before block.first) (v.at (Before k)) u (below.cells (Before k) block at) (subst (λ n. Shows x block.method.0 (v.at (Before n)) (entry_of method frame u) (λ now. now ≡ read frame 1 u)) same r.shows)

pub exact : (x : Problem) (v : Values) → AreProgramBlocks x.program x.blocks → AreBelow x v → IsClosed x v → AreExact x v
exact x v blocks below closed = record {
  contexts = λ m method frame is u. (
    (λ e. ((below.cells (Called m)).0.set method frame is).facts u e),
    (λ fact. entered_here x m method frame is (v.at (Called m)) u (below.cells (Called m)).0 (below.cells (Called m)).1 (solution_in_cells x v closed (Context m (entry_of method frame u)) refl fact)),
  );
  returns = λ m method frame is u. (
    (λ e. ((below.cells (Returned m)).set method frame is).facts u e),
    (λ fact. summary_here x m method frame is of_return (v.at (Returned m)) u (below.cells (Returned m)) fact.1 (solution_in_cells x v closed (Normal m (entry_of method frame u) (summary_of (read frame 1 u))) refl fact.0)),
  );
  throws = λ m method frame is u. (
    (λ e. ((below.cells (Thrown m)).set method frame is).facts u e),
    (λ fact. summary_here x m method frame is of_throw (v.at (Thrown m)) u (below.cells (Thrown m)) fact.1 (solution_in_cells x v closed (Threw m (entry_of method frame u) (summary_of (read frame 1 u))) refl fact.0)),
  );
  befores = λ k block method frame at is u. (
    (λ e. ((below.cells (Before k) block at).set method frame is).facts u e),
    (λ fact. from_block x v blocks below closed k block at method frame is u (solution_in_cells x v closed (At block.method.0 block.first (entry_of method frame u) (read frame 1 u)) (cell_of x k block at (entry_of method frame u) (read frame 1 u)) fact)),
  );
  stored = λ c is. (below.stored c is, (λ fact. (solution_in_cells x v closed (Stored c) refl fact).1));
  warned = λ k site at. (below.warned k site at, (λ w. closed.sites k site at (record { call = w.call; under = w.under; at = w.at; a = w.a; b = w.b; fact = solution_is_said x v closed _ w.fact; k = w.k; listed = w.listed; true_argument = w.true_argument })));
}
