-- A cell that says more, and whose readers are marked.
use Rattle.std.proofs.Common.{◌≡◌, ◌⊎◌, ℕ, ◌<◌, Bool, true, false, length, refl, sym, ap, ◌∙◌, subst, inl, inr, ⊎_elim, arith}
use Rattle.std.specs.declared.alloc.Global.{Global}
use Rattle.std.specs.Prelude.{◌||◌, Vec, Some, slice_get, slice_index_or, if◌then◌else◌}
use Rattle.std.proofs.lemmas.Bool.{eqb-true, eq-eqb}
use Rattle.std.proofs.lemmas.Option.{slice_get_within}
use Rattle.ja_node_core.specs.Node.{Words, Knows}
use Rattle.ja_bdd.specs.Functions.{Function, either}
use Rattle.ja_bdd.specs.Meaning.{meaning, IsMeant}
use Rattle.ja_join.specs.Steps.{IsBelow}
use Rattle.ja_facts.specs.Held.{Cell}
use Rattle.ja_facts.specs.Told.{cell_number, IsCell}
use Rattle.ja_facts.specs.Equations.{Context, At, Normal, Threw, Stored}
use Rattle.ja_blocks.specs.declared.blocks.ProgramBlock.{ProgramBlock}
use Rattle.ja_blocks.specs.Blocks.{IsBlockIn, HasPlace}
use Rattle.ja_blocks.specs.Readers.{ReadsEnd, GetsAt, HasInstr}
use Rattle.ja_work.specs.Ends.{summary_of}
use Rattle.ja_work.specs.Work.{TellsSummary}
use Rattle.ja_solution.specs.declared.cells.CellName.{CellName}
use Rattle.ja_solution.specs.declared.cells.CellName.TheVariants.{Called, Returned, Thrown, Before}
use Rattle.ja_solution.specs.declared.cells.Cells.{Cells}
use Rattle.ja_solution.specs.declared.given.Given.{Given}
use Rattle.ja_solution.specs.declared.state.State.{State}
use Rattle.ja_solution.specs.Cells.{Values, Shows}
use Rattle.ja_solution.specs.Solved.{IsOfCell, AreBelow}
use Rattle.ja_solution.specs.Reads.{BlockReads, ReadsNoMore, Grow}
use Rattle.ja_solution.specs.Nodes.{row, number_at, values_of, same_cell, problem_of, IsGiven, IsCellName, IsState, is_dirty}
use Rattle.ja_solution.specs.InnerMarks.{AreMarked, ReadsCell, ReadsStored}
use Rattle.ja_solution.proofs.Unique.{listed_at, one_block, has_first}
use Rattle.ja_solution.proofs.Named.{cell_lt, field_named}
use Rattle.ja_solution.proofs.Transfer.{stays_settled}
use Rattle.ja_solution.proofs.Keeping.{either_cell}

-- cells with one name are one
pub one_cell : (a b : CellName) → same_cell a b ≡ true → b ≡ a
one_cell (Called m) (Called n) e = ap Called (sym (eqb-true m n e))
one_cell (Returned m) (Returned n) e = ap Returned (sym (eqb-true m n e))
one_cell (Thrown m) (Thrown n) e = ap Thrown (sym (eqb-true m n e))
one_cell (Before m) (Before n) e = ap Before (sym (eqb-true m n e))
one_cell (Called m) (Returned n) e = absurd (cc e)
one_cell (Called m) (Thrown n) e = absurd (cc e)
one_cell (Called m) (Before n) e = absurd (cc e)
one_cell (Returned m) (Called n) e = absurd (cc e)
one_cell (Returned m) (Thrown n) e = absurd (cc e)
one_cell (Returned m) (Before n) e = absurd (cc e)
one_cell (Thrown m) (Called n) e = absurd (cc e)
one_cell (Thrown m) (Returned n) e = absurd (cc e)
one_cell (Thrown m) (Before n) e = absurd (cc e)
one_cell (Before m) (Called n) e = absurd (cc e)
one_cell (Before m) (Returned n) e = absurd (cc e)
one_cell (Before m) (Thrown n) e = absurd (cc e)

cell_itself : (a : CellName) → same_cell a a ≡ true
cell_itself (Called m) = eq-eqb m m refl
cell_itself (Returned m) = eq-eqb m m refl
cell_itself (Thrown m) = eq-eqb m m refl
cell_itself (Before m) = eq-eqb m m refl

-- a block that reads none of what has changed
module _ (given : Given) (is : IsGiven given) (v w : Values) (number : ℕ) (block : ProgramBlock) (at : slice_get given.layout.now.blocks number ≡ Some block)
    (same : (name : CellName) → (ReadsCell given.layout.now name number → ⊥) ⊎ (w.at name ≡ v.at name)) (flags : (n : ℕ) → (ReadsStored given.layout.now given.program.now.entries n number → ⊥) ⊎ (w.stored n ≡ v.stored n)) where
  listed : (name : CellName) → ReadsCell given.layout.now name number → w.at name ≡ v.at name
  listed name reads = ⊎_elim (λ none. absurd (none reads)) (λ e. e) (same name)

  own : IsBlockIn given.program.now block
  own = is.layout.blocks.each block (listed_at given.layout.now.blocks number block at)

  begins_listed : (m : ℕ) → block.method.0 ≡ m → block.first ≡ 0 → ReadsCell given.layout.now (Called m) number
  begins_listed m is_method is_first =
      (is.layout.beginners.exact m number (subst (λ n. n < length given.program.now.methods) is_method (slice_get_within given.program.now.methods block.method.0 own.method own.found))).1
      (record { block = block; at = at; holds = (is_method, is_first) })

  ends_listed : (n : ℕ) → n < length given.program.now.methods → HasInstr block (λ m i. ReadsEnd given.program.now given.facts.now.graph m i n) → ReadsCell given.layout.now (Returned n) number
  ends_listed n lt reads = (is.layout.callers.exact n number lt).1 (record { block = block; at = at; holds = reads })

  stored_listed : (c : Cell) → IsCell given.program.now c → BlockReads (problem_of given) block (Stored c) → ReadsStored given.layout.now given.program.now.entries (cell_number given.program.now c) number
  stored_listed c is_cell (inl has) =
      let read = has.holds in
      let f : ℕ = read.0 in
      let gets : GetsAt given.program.now block.method.0 has.i f = read.1 in
      let lt : f < length given.program.now.fields = field_named given.program.now is.whole block.method.0 has.i f gets in
      inl (
        f,
        (is.layout.holders.exact (cell_number given.program.now c) f (cell_lt given.program.now c is_cell)).1 (lt, read.2),
        (is.layout.readers.exact f number lt).1 (record { block = block; at = at; holds = record { i = has.i; from = has.from; to = has.to; holds = gets } }),
      )
  stored_listed c is_cell (inr begins) = inr (begins.entry, begins.listed, begins_listed begins.entry.method.0 begins.is_method begins.is_first)

  pub unread : ReadsNoMore (problem_of given) block v w
  unread (Context m a) (is_method, is_first) s = subst (λ φ. Shows (problem_of given) m φ a (λ now. Unit {0})) (listed (Called m) (begins_listed m is_method is_first)) s
  unread (Normal n a t) reads s = subst (λ φ. Shows (problem_of given) n φ a (λ now. TellsSummary now × (summary_of now ≡ t))) (listed (Returned n) (ends_listed n (slice_get_within given.program.now.methods n s.method s.is.found) reads)) s
  unread (Threw n a t) reads s = subst (λ φ. Shows (problem_of given) n φ a (λ now. TellsSummary now × (summary_of now ≡ t))) (listed (Thrown n) (ends_listed n (slice_get_within given.program.now.methods n s.method s.is.found) reads)) s
  unread (Stored c) reads s = ⊎_elim (λ none. absurd (none (stored_listed c s.0 reads))) (λ e. (s.0, sym e ∙ s.1)) (flags (cell_number given.program.now c))
  unread (At m i a b) (is_method, is_first) r =
      let ours : HasPlace block m i = subst (λ (q : ℕ × ℕ). HasPlace block q.0 q.1) (λ t. (is_method t, is_first t)) (has_first given.program.now given.layout.now.blocks is.layout.blocks number block at) in
      let theirs : HasPlace r.block m i = subst (λ (q : ℕ × ℕ). HasPlace r.block q.0 q.1) (λ t. (r.is_method t, r.is_first t)) (has_first given.program.now given.layout.now.blocks is.layout.blocks r.number r.block r.at) in
      let one : r.number ≡ number = one_block given.program.now given.layout.now.blocks is.layout.blocks r.number number r.block block m i r.at at theirs ours in
      record { number = r.number; block = r.block; at = r.at; is_method = r.is_method; is_first = r.is_first; shows = subst (λ φ. Shows (problem_of given) m φ a (λ now. now ≡ b)) (listed (Before r.number) (sym one)) r.shows }

-- the state after a cell was given what it said and what a node says
module _ (given : Given) (is : IsGiven given) (k : Words) (state : State) (kept : IsState (problem_of given) k state) (name : CellName) (is_name : IsCellName (problem_of given) name) (n made : ℕ)
    (cell : IsOfCell (problem_of given) name (meaning k n)) (is_made : IsMeant k made (either (meaning k (number_at state.cells name)) (meaning k n)))
    (cells : Cells) (sets : (other : CellName) → number_at cells other ≡ (if same_cell name other then made else number_at state.cells other))
    (rows : (other : CellName) → length (row cells other) ≡ length (row state.cells other)) (flags : (cells.stored ≡ state.cells.stored) × (cells.warned ≡ state.cells.warned)) where
  -- each cell is as it was, or this one
  each_cell : (other : CellName) → ((same_cell name other ≡ false) × (number_at cells other ≡ number_at state.cells other)) ⊎ ((other ≡ name) × (number_at cells other ≡ made))
  each_cell other = by (same_cell name other) refl
    where
      by : (b : Bool) → same_cell name other ≡ b → ((same_cell name other ≡ false) × (number_at cells other ≡ number_at state.cells other)) ⊎ ((other ≡ name) × (number_at cells other ≡ made))
      by true e = inr (one_cell name other e, sets other ∙ ap (λ b. if b then made else number_at state.cells other) e)
      by false e = inl (e, sets other ∙ ap (λ b. if b then made else number_at state.cells other) e)

  joined : (other : CellName) → other ≡ name → number_at cells other ≡ made → (values_of k cells).at other ≡ either ((values_of k state.cells).at name) (meaning k n)
  joined other e at = ap (meaning k) at ∙ is_made.1

  pub raised_known : (other : CellName) → Knows k (number_at cells other)
  raised_known other = ⊎_elim (λ old. subst (Knows k) (sym old.1) (kept.known other)) (λ new. subst (Knows k) (sym new.1) is_made.0) (each_cell other)

  raised_of : (other : CellName) → IsOfCell (problem_of given) other ((values_of k cells).at other)
  raised_of other = ⊎_elim
      (λ old. subst (λ m. IsOfCell (problem_of given) other (meaning k m)) (sym old.1) (kept.below.cells other))
      (λ new. subst (λ (a : CellName). IsOfCell (problem_of given) a ((values_of k cells).at other)) (sym new.0)
      (subst (IsOfCell (problem_of given) name) (sym (joined other new.0 new.1)) (either_cell (problem_of given) name ((values_of k state.cells).at name) (meaning k n) (kept.below.cells name) cell)))
      (each_cell other)

  stored_same : (m : ℕ) → (values_of k cells).stored m ≡ (values_of k state.cells).stored m
  stored_same m = ap (λ (bits : Vec Bool Global). slice_index_or bits.items m false) flags.0

  warned_same : (s : ℕ) → (values_of k cells).warned s ≡ (values_of k state.cells).warned s
  warned_same s = ap (λ (bits : Vec Bool Global). slice_index_or bits.items s false) flags.1

  pub raised_below : AreBelow (problem_of given) (values_of k cells)
  raised_below = record {
    cells = raised_of;
    stored = λ c is_cell e. kept.below.stored c is_cell (sym (stored_same _) ∙ e);
    warned = λ s site found e. kept.below.warned s site found (sym (warned_same s) ∙ e);
  }

  pub raised_grows : Grow (values_of k state.cells) (values_of k cells)
  raised_grows = record {
    cells = λ other u e. ⊎_elim
        (λ old. ap (λ m. meaning k m u) old.1 ∙ e)
        (λ new. ap (λ (φ : Function). φ u) (joined other new.0 new.1) ∙ ap (λ b. b || meaning k n u) (ap (λ (a : CellName). (values_of k state.cells).at a u) (sym new.0) ∙ e))
        (each_cell other);
    stored = λ m e. stored_same m ∙ e;
    warned = λ s e. warned_same s ∙ e;
  }

  pub raised_says : IsBelow (meaning k n) ((values_of k cells).at name)
  raised_says u e = ⊎_elim
      (λ old. absurd (let f : true ≡ false = sym (cell_itself name) ∙ old.0 in cc f))
      (λ new. ap (λ (φ : Function). φ u) (joined name new.0 new.1) ∙ or_right ((values_of k state.cells).at name u) (meaning k n u) e)
      (each_cell name)
    where
      or_right : (a b : Bool) → b ≡ true → (a || b) ≡ true
      or_right true b e = refl
      or_right false b e = e

  pub raised_state : (dirty : Vec Bool Global) → AreMarked state.dirty.items dirty.items (ReadsCell given.layout.now name) → IsState (problem_of given) k (record { cells = cells; dirty = dirty })
  raised_state dirty marks = record {
    sized = record {
      rows = λ other. rows other ∙ kept.sized.rows other;
      stored = ap (λ (bits : Vec Bool Global). length bits.items) flags.0 ∙ kept.sized.stored;
      warned = ap (λ (bits : Vec Bool Global). length bits.items) flags.1 ∙ kept.sized.warned;
      dirty = marks.counted ∙ kept.sized.dirty;
    };
    known = raised_known;
    below = raised_below;
    settled = λ b block at clean. stays_settled (problem_of given) is.layout.blocks b block at (values_of k state.cells) (values_of k cells)
        (unread given is (values_of k state.cells) (values_of k cells) b block at
        (λ other. ⊎_elim (λ old. inr (ap (meaning k) old.1)) (λ new. inl (λ reads. unmarked b block at clean (subst (λ (a : CellName). ReadsCell given.layout.now a b) new.0 reads))) (each_cell other))
        (λ m. inr (stored_same m)))
        (values_of k state.cells) (values_of k cells) raised_grows (kept.settled b block at (was_clean b clean));
  }
    where
      unmarked : (b : ℕ) (block : ProgramBlock) → slice_get given.layout.now.blocks b ≡ Some block → is_dirty dirty.items b ≡ false → ReadsCell given.layout.now name b → ⊥
      unmarked b block at clean reads =
          let lt = slice_get_within given.layout.now.blocks b block at in
          let long = kept.sized.dirty in
          let e : true ≡ false = sym (marks.marked b (omega arith) reads) ∙ clean in
          cc e

      was_clean : (b : ℕ) → is_dirty dirty.items b ≡ false → is_dirty state.dirty.items b ≡ false
      was_clean b clean = by (is_dirty state.dirty.items b) refl
        where
          by : (c : Bool) → is_dirty state.dirty.items b ≡ c → is_dirty state.dirty.items b ≡ false
          by true e = absurd (let f : true ≡ false = sym (marks.kept b e) ∙ clean in cc f)
          by false e = e
