-- What a worker learns changes nothing that the cells mean; and what cells are for is kept where two functions are joined.
use Rattle.std.proofs.Common.{◌≡◌, ℕ, zero, suc, ◌<◌, Bool, true, false, List, [], ◌∷◌, length, refl, sym, ap, ◌∙◌, subst, arith}
use Rattle.std.specs.Prelude.{◌||◌, Some, slice_get}
use Rattle.ja_ir.specs.declared.method.Method.{Method}
use Rattle.ja_node_core.specs.Tree.{Tree, Assignment as Variables}
use Rattle.ja_node_core.specs.Node.{Words, Knows}
use Rattle.ja_bdd.specs.Functions.{Function, either, IsAimed}
use Rattle.ja_bdd.specs.Meaning.{meaning, IsMeant, Keeps}
use Rattle.ja_bdd.proofs.Fixing.{free_op}
use Rattle.ja_work.specs.declared.frame.Frame.{Frame}
use Rattle.ja_work.specs.Frames.{read}
use Rattle.ja_work.specs.Work.{IsMethod, entry_of, Says, Saying, of_context, of_return, of_throw, before}
use Rattle.ja_work.proofs.Working.{work_aimed, facts_work}
use Rattle.ja_blocks.specs.declared.blocks.ProgramBlock.{ProgramBlock}
use Rattle.ja_solution.specs.declared.cells.CellName.{CellName}
use Rattle.ja_solution.specs.declared.cells.CellName.TheVariants.{Called, Returned, Thrown, Before}
use Rattle.ja_solution.specs.declared.cells.Cells.{Cells}
use Rattle.ja_solution.specs.declared.given.Given.{Given}
use Rattle.ja_solution.specs.declared.state.State.{State}
use Rattle.ja_solution.specs.Problem.{Problem, known}
use Rattle.ja_solution.specs.Cells.{Values}
use Rattle.ja_solution.specs.Solved.{IsPartOf, IsOfCell, AreBelow}
use Rattle.ja_solution.specs.Settled.{AreSettled}
use Rattle.ja_solution.specs.Reads.{Grow}
use Rattle.ja_solution.specs.Nodes.{number_at, values_of, problem_of, IsGiven, IsForWork, IsCellName, IsState, is_dirty}
use Rattle.ja_solution.proofs.Unique.{listed_at}

-- known nodes mean the same later
pub values_kept : (k l : Words) (cells : Cells) → Keeps k l → ((name : CellName) → Knows k (number_at cells name)) → values_of k cells ≡ values_of l cells
values_kept k l cells keeps knows = λ i. record {
  at = λ name. sym (keeps (number_at cells name) (knows name)).1 i;
  stored = (values_of k cells).stored;
  warned = (values_of k cells).warned;
}

pub state_kept : (x : Problem) (k l : Words) (state : State) → Keeps k l → IsState x k state → IsState x l state
state_kept x k l state keeps is =
    let same : values_of k state.cells ≡ values_of l state.cells = values_kept k l state.cells keeps is.known in
    record {
      sized = is.sized;
      known = λ name. (keeps (number_at state.cells name) (is.known name)).0;
      below = subst (AreBelow x) same is.below;
      settled = subst (AreSettled x (λ b. is_dirty state.dirty.items b ≡ false)) same is.settled;
    }

pub grow_same : (v : Values) → Grow v v
grow_same v = record { cells = λ name u e. e; stored = λ n e. e; warned = λ s e. e }

pub grow_kept : (k l : Words) (cells : Cells) → Keeps k l → ((name : CellName) → Knows k (number_at cells name)) → Grow (values_of k cells) (values_of l cells)
grow_kept k l cells keeps knows = subst (Grow (values_of k cells)) (values_kept k l cells keeps knows) (grow_same (values_of k cells))

-- both parts of what a cell is for
module _ (x : Problem) (m : ℕ) (saying : Saying x.program (known x)) (φ ψ : Function) where
  pub either_part : IsPartOf x m saying φ → IsPartOf x m saying ψ → IsPartOf x m saying (either φ ψ)
  either_part first second = record {
    set = λ method frame is. record {
      facts = λ a e. by method frame is a (φ a) refl e;
      own = λ v none. free_op (λ b c. b || c) v φ ψ ((first.set method frame is).own v none) ((second.set method frame is).own v none);
    };
    low = λ a b same i. first.low a b same i || second.low a b same i;
  }
    where
      by : (method : Method) (frame : Frame) (is : IsMethod x.program (known x) x.frames m method frame) (a : Variables) (c : Bool) → φ a ≡ c → either φ ψ a ≡ true → Says x.program (known x) m saying (entry_of method frame a) (read frame 1 a)
      by method frame is a true e _ = (first.set method frame is).facts a e
      by method frame is a false e holds = (second.set method frame is).facts a (sym (ap (λ b. b || ψ a) e) ∙ holds)

pub either_cell : (x : Problem) (name : CellName) (φ ψ : Function) → IsOfCell x name φ → IsOfCell x name ψ → IsOfCell x name (either φ ψ)
either_cell x (Called m) φ ψ first second = (either_part x m of_context φ ψ first.0 second.0, λ u e. free_op (λ b c. b || c) u φ ψ (first.1 u e) (second.1 u e))
either_cell x (Returned m) φ ψ first second = either_part x m of_return φ ψ first second
either_cell x (Thrown m) φ ψ first second = either_part x m of_throw φ ψ first second
either_cell x (Before k) φ ψ first second = λ block at. either_part x block.method.0 (before block.first) φ ψ (first block at) (second block at)

-- what a cell is for is work
get_within : {X : Type 0} (xs : List X) (i : ℕ) → i < length xs → (y : X) × (slice_get xs i ≡ Some y)
get_within [] i lt = absurd (omega arith)
get_within (y ∷ xs) zero lt = (y, refl)
get_within (y ∷ xs) (suc i) lt = get_within xs i (omega arith)

module _ (given : Given) (is : IsGiven given) (aim : Tree → Type 0) (for_work : IsForWork (problem_of given) aim) where
  pub part_aimed : (m : ℕ) (saying : Saying (problem_of given).program (known (problem_of given))) (φ : Function) → m < length given.program.now.methods → IsPartOf (problem_of given) m saying φ → IsAimed aim φ
  part_aimed m saying φ lt part t tree =
      let found = get_within given.program.now.methods m lt in
      let framed = is.frames m found.0 found.1 in
      for_work t (work_aimed given.program.now (known (problem_of given)) given.frames.now φ (facts_work given.program.now (known (problem_of given)) given.frames.now m found.0 framed.0 saying φ framed.1 (part.set found.0 framed.0 framed.1)) t tree)

  pub cell_aimed : (name : CellName) (φ : Function) → IsCellName (problem_of given) name → IsOfCell (problem_of given) name φ → IsAimed aim φ
  cell_aimed (Called m) φ lt of = part_aimed m of_context φ lt of.0
  cell_aimed (Returned m) φ lt of = part_aimed m of_return φ lt of
  cell_aimed (Thrown m) φ lt of = part_aimed m of_throw φ lt of
  cell_aimed (Before k) φ lt of =
      let found = get_within given.layout.now.blocks k lt in
      let block : ProgramBlock = found.0 in
      let own = is.layout.blocks.each block (listed_at given.layout.now.blocks k block found.1) in
      part_aimed block.method.0 (before block.first) φ (within given.program.now.methods block.method.0 own.method own.found) (of block found.1)
    where
      within : (xs : List Method) (i : ℕ) (y : Method) → slice_get xs i ≡ Some y → i < length xs
      within [] i y e = absurd (cc e)
      within (z ∷ xs) zero y e = omega arith
      within (z ∷ xs) (suc i) y e = omega (arith, within xs i y e)

-- what a known node means, when more is known
pub cell_kept : (x : Problem) (name : CellName) (k l : Words) (n : ℕ) → Keeps k l → Knows k n → IsOfCell x name (meaning k n) → IsOfCell x name (meaning l n)
cell_kept x name k l n keeps knows of = subst (IsOfCell x name) (sym (keeps n knows).1) of

pub joined_kept : (k l : Words) (m old n made : ℕ) → Keeps k l → Knows k m → Knows k n → old ≡ m → IsMeant l made (either (meaning k old) (meaning k n)) → IsMeant l made (either (meaning l m) (meaning l n))
joined_kept k l m old n made keeps first second same is =
    (is.0, is.1 ∙ ap (λ q. either (meaning k q) (meaning k n)) same ∙ sym (λ i. either ((keeps m first).1 i) ((keeps n second).1 i)))
