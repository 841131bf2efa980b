-- A flag that is set, a block that is settled, and the first state.
use Rattle.std.proofs.Common.{◌≡◌, ◌⊎◌, ℕ, zero, suc, ◌<◌, Bool, true, false, List, length, get_or, set, refl, sym, ap, ◌∙◌, subst, inl, inr, ⊎_elim, arith}
use Rattle.std.specs.declared.alloc.Global.{Global}
use Rattle.std.specs.Prelude.{Vec, Some, replicate, slice_get, slice_index_or}
use Rattle.std.proofs.lemmas.List.{get_or-set_other, get_or-set_same, length-set, get_or-replicate, length-replicate}
use Rattle.std.proofs.lemmas.Option.{slice_get_within}
use native.Mathlib.Decide.{ℕ_discrete}
use mathlib.Core.Logic.{dite}
use Rattle.ja_ir.specs.declared.entry.Site.{Site}
use Rattle.ja_node_core.specs.Node.{Words, Knows}
use Rattle.ja_bdd.specs.Functions.{Function, IsFree}
use Rattle.ja_bdd.specs.Meaning.{meaning, value_within}
use Rattle.ja_base.specs.Limit.{max_variables}
use Rattle.ja_bdd.proofs.Sound.{knows_constant}
use Rattle.ja_work.specs.Work.{of_context, of_return, of_throw, before}
use Rattle.ja_facts.specs.FactTables.{cell_count}
use Rattle.ja_facts.specs.Held.{Cell}
use Rattle.ja_facts.specs.Told.{cell_number, IsCell}
use Rattle.ja_facts.specs.Equations.{Stored, IsWarned}
use Rattle.ja_blocks.specs.declared.blocks.ProgramBlock.{ProgramBlock}
use Rattle.ja_solution.specs.declared.cells.CellName.{CellName}
use Rattle.ja_solution.specs.declared.cells.CellName.TheVariants.{Called, Returned, Thrown, Before}
use Rattle.ja_solution.specs.declared.cells.Cells.{Cells}
use Rattle.ja_solution.specs.declared.cells.Counts.{Counts}
use Rattle.ja_solution.specs.declared.given.Given.{Given}
use Rattle.ja_solution.specs.declared.state.State.{State}
use Rattle.ja_solution.specs.Problem.{Problem, Solution}
use Rattle.ja_solution.specs.Solved.{IsPartOf, IsOfCell}
use Rattle.ja_solution.specs.Settled.{IsSettled}
use Rattle.ja_solution.specs.Reads.{Grow}
use Rattle.ja_solution.specs.Nodes.{row, count_of, number_at, values_of, problem_of, IsGiven, IsStored, AreNothing, IsState, is_dirty}
use Rattle.ja_solution.specs.InnerMarks.{AreMarked, ReadsStored}
use Rattle.ja_solution.proofs.Transfer.{stays_settled}
use Rattle.ja_solution.proofs.Raised.{unread}

-- a flag that is set stays, and so do the others
flag_kept : (bits : List Bool) (i n : ℕ) → i < length bits → slice_index_or bits n false ≡ true → slice_index_or (set bits i true) n false ≡ true
flag_kept bits i n lt e = dite (ℕ_discrete n i) (λ same. ap (λ j. get_or (set bits i true) j false) same ∙ get_or-set_same bits i true false lt) (λ ne. get_or-set_other bits i n true false ne ∙ e)

flag_old : (bits : List Bool) (i n : ℕ) → i < length bits → slice_index_or (set bits i true) n false ≡ true → (n ≡ i) ⊎ (slice_index_or bits n false ≡ true)
flag_old bits i n lt e = dite (ℕ_discrete n i) (λ same. inl same) (λ ne. inr (sym (get_or-set_other bits i n true false ne) ∙ e))

-- what holds of marked blocks
was_clean : (old new : List Bool) (P : ℕ → Type 0) → AreMarked old new P → (b : ℕ) → is_dirty new b ≡ false → is_dirty old b ≡ false
was_clean old new P marks b clean = by (is_dirty old b) refl
  where
    by : (c : Bool) → is_dirty old b ≡ c → is_dirty old b ≡ false
    by true e = absurd (let f : true ≡ false = sym (marks.kept b e) ∙ clean in cc f)
    by false e = e

unmarked : (old new : List Bool) (P : ℕ → Type 0) → AreMarked old new P → (b : ℕ) → b < length old → is_dirty new b ≡ false → P b → ⊥
unmarked old new P marks b lt clean p = let f : true ≡ false = sym (marks.marked b lt p) ∙ clean in cc f

-- the same nodes, with other flags
abbrev pub with_flags : Cells → (stored warned : Vec Bool Global) → Cells
with_flags cells stored warned = record { called = cells.called; returned = cells.returned; thrown = cells.thrown; before = cells.before; stored = stored; warned = warned }

same_number : (cells : Cells) (stored warned : Vec Bool Global) (name : CellName) → number_at (with_flags cells stored warned) name ≡ number_at cells name
same_number cells stored warned (Called m) = refl
same_number cells stored warned (Returned m) = refl
same_number cells stored warned (Thrown m) = refl
same_number cells stored warned (Before m) = refl

same_row : (cells : Cells) (stored warned : Vec Bool Global) (name : CellName) → length (row (with_flags cells stored warned) name) ≡ length (row cells name)
same_row cells stored warned (Called m) = refl
same_row cells stored warned (Returned m) = refl
same_row cells stored warned (Thrown m) = refl
same_row cells stored warned (Before m) = refl

module _ (k : Words) (cells : Cells) (stored warned : Vec Bool Global) where
  same_at : (name : CellName) → (values_of k (with_flags cells stored warned)).at name ≡ (values_of k cells).at name
  same_at name = ap (meaning k) (same_number cells stored warned name)

  flags_grow : ((n : ℕ) → slice_index_or cells.stored.items n false ≡ true → slice_index_or stored.items n false ≡ true) → ((s : ℕ) → slice_index_or cells.warned.items s false ≡ true → slice_index_or warned.items s false ≡ true)
      → Grow (values_of k cells) (values_of k (with_flags cells stored warned))
  flags_grow first second = record { cells = λ name u e. ap (λ (φ : Function). φ u) (same_at name) ∙ e; stored = first; warned = second }

module _ (given : Given) (is : IsGiven given) (k : Words) (state : State) (stored warned dirty : Vec Bool Global) (P : ℕ → Type 0) where
  -- other flags, where the readers of what has changed are marked
  flagged_state : IsState (problem_of given) k state → length stored.items ≡ length state.cells.stored.items → length warned.items ≡ length state.cells.warned.items → AreMarked state.dirty.items dirty.items P
      → Grow (values_of k state.cells) (values_of k (with_flags state.cells stored warned))
      → ((c : Cell) → IsCell given.program.now c → slice_index_or stored.items (cell_number given.program.now c) false ≡ true → Solution (problem_of given) (Stored c))
      → ((s : ℕ) (site : Site) → slice_get given.program.now.sites s ≡ Some site → slice_index_or warned.items s false ≡ true → IsWarned given.program.now (Solution (problem_of given)) site)
      → ((n b : ℕ) → (P b → ⊥) → (ReadsStored given.layout.now given.program.now.entries n b → ⊥) ⊎ (slice_index_or stored.items n false ≡ slice_index_or state.cells.stored.items n false))
      → IsState (problem_of given) k (record { cells = with_flags state.cells stored warned; dirty = dirty })
  flagged_state kept stored_size warned_size marks grow below_stored below_warned changed = record {
    sized = record {
      rows = λ name. same_row state.cells stored warned name ∙ kept.sized.rows name;
      stored = stored_size ∙ kept.sized.stored;
      warned = warned_size ∙ kept.sized.warned;
      dirty = marks.counted ∙ kept.sized.dirty;
    };
    known = λ name. subst (Knows k) (sym (same_number state.cells stored warned name)) (kept.known name);
    below = record {
      cells = λ name. subst (IsOfCell (problem_of given) name) (sym (same_at k state.cells stored warned name)) (kept.below.cells name);
      stored = below_stored;
      warned = below_warned;
    };
    settled = λ b block at clean. stays_settled (problem_of given) is.layout.blocks b block at (values_of k state.cells) (values_of k (with_flags state.cells stored warned))
        (unread given is (values_of k state.cells) (values_of k (with_flags state.cells stored warned)) b block at (λ name. inr (same_at k state.cells stored warned name))
        (λ n. changed n b (unmarked state.dirty.items dirty.items P marks b (let lt = slice_get_within given.layout.now.blocks b block at in let long = kept.sized.dirty in omega arith) clean)))
        (values_of k state.cells) (values_of k (with_flags state.cells stored warned)) grow (kept.settled b block at (was_clean state.dirty.items dirty.items P marks b clean));
  }

module _ (given : Given) (is : IsGiven given) (k : Words) (state : State) (number : ℕ) (flags : Vec Bool Global) where
  -- something was stored
  module _ (lt : number < length state.cells.stored.items) (set_is : flags.items ≡ set state.cells.stored.items number true) where
    pub stored_grows : Grow (values_of k state.cells) (values_of k (with_flags state.cells flags state.cells.warned))
    stored_grows = flags_grow k state.cells flags state.cells.warned (λ n e. subst (λ (bits : List Bool). slice_index_or bits n false ≡ true) (sym set_is) (flag_kept state.cells.stored.items number n lt e)) (λ s e. e)

    pub stored_state : IsStored (problem_of given) number → (dirty : Vec Bool Global) → AreMarked state.dirty.items dirty.items (ReadsStored given.layout.now given.program.now.entries number) → IsState (problem_of given) k state
        → IsState (problem_of given) k (record { cells = with_flags state.cells flags state.cells.warned; dirty = dirty })
    stored_state is_stored dirty marks kept = flagged_state given is k state flags state.cells.warned dirty (ReadsStored given.layout.now given.program.now.entries number) kept
        (ap (λ (bits : List Bool). length bits) set_is ∙ length-set state.cells.stored.items number true) refl marks stored_grows
        (λ c is_cell e. ⊎_elim (λ here. is_stored c is_cell here) (λ old. kept.below.stored c is_cell old)
        (flag_old state.cells.stored.items number (cell_number given.program.now c) lt (subst (λ (bits : List Bool). slice_index_or bits (cell_number given.program.now c) false ≡ true) set_is e)))
        kept.below.warned
        (λ n b unmarked_b. dite (ℕ_discrete n number)
        (λ same. inl (λ reads. unmarked_b (subst (λ m. ReadsStored given.layout.now given.program.now.entries m b) same reads)))
        (λ ne. inr (ap (λ (bits : List Bool). slice_index_or bits n false) set_is ∙ get_or-set_other state.cells.stored.items number n true false ne)))

  -- a site is warned
  module _ (lt : number < length state.cells.warned.items) (set_is : flags.items ≡ set state.cells.warned.items number true) where
    pub warned_grows : Grow (values_of k state.cells) (values_of k (with_flags state.cells state.cells.stored flags))
    warned_grows = flags_grow k state.cells state.cells.stored flags (λ n e. e) (λ s e. subst (λ (bits : List Bool). slice_index_or bits s false ≡ true) (sym set_is) (flag_kept state.cells.warned.items number s lt e))

    pub warned_state : ((site : Site) → slice_get given.program.now.sites number ≡ Some site → IsWarned given.program.now (Solution (problem_of given)) site) → IsState (problem_of given) k state
        → IsState (problem_of given) k (record { cells = with_flags state.cells state.cells.stored flags; dirty = state.dirty })
    warned_state is_warned kept = flagged_state given is k state state.cells.stored flags state.dirty (λ b. ⊥) kept
        refl (ap (λ (bits : List Bool). length bits) set_is ∙ length-set state.cells.warned.items number true)
        (record { counted = refl; kept = λ b e. e; marked = λ b within never. absurd never }) warned_grows
        kept.below.stored
        (λ s site found e. ⊎_elim (λ here. is_warned site (ap (slice_get given.program.now.sites) (sym here) ∙ found)) (λ old. kept.below.warned s site found old)
        (flag_old state.cells.warned.items number s lt (subst (λ (bits : List Bool). slice_index_or bits s false ≡ true) set_is e)))
        (λ n b _. inr refl)

-- a block whose rules hold needs no mark
pub settled_state : (x : Problem) (k : Words) (state : State) (block : ℕ) (dirty : Vec Bool Global) → dirty.items ≡ set state.dirty.items block false → IsState x k state
    → ((b : ProgramBlock) → slice_get x.blocks block ≡ Some b → IsSettled x b (values_of k state.cells) (values_of k state.cells)) → IsState x k (record { cells = state.cells; dirty = dirty })
settled_state x k state block dirty set_is kept settled = record {
  sized = record { rows = kept.sized.rows; stored = kept.sized.stored; warned = kept.sized.warned; dirty = ap (λ (bits : List Bool). length bits) set_is ∙ length-set state.dirty.items block false ∙ kept.sized.dirty };
  known = kept.known;
  below = kept.below;
  settled = λ b own at clean. dite (ℕ_discrete b block)
      (λ same. settled own (ap (slice_get x.blocks) (sym same) ∙ at))
      (λ ne. kept.settled b own at (sym (ap (λ (bits : List Bool). slice_index_or bits b false) set_is ∙ get_or-set_other state.dirty.items block b false false ne) ∙ clean));
}

-- the constant false
false_within : (levels : ℕ) (k : Words) → value_within levels k 0 ≡ (λ a. false)
unfolding value_within
false_within zero k = refl
false_within (suc levels) k = refl

false_means : (k : Words) → meaning k 0 ≡ (λ a. false)
unfolding meaning
false_means k = false_within max_variables k

-- nothing is said
nothing_free : (u : ℕ) → IsFree u (λ a. false)
nothing_free u b a = refl

nothing_part : (x : Problem) (m : ℕ) (saying : _) → IsPartOf x m saying (λ a. false)
nothing_part x m saying = record { set = λ method frame is. record { facts = λ a e. absurd (let f : false ≡ true = e in cc f); own = λ v _. nothing_free v }; low = λ a b same. refl }

nothing_of : (x : Problem) (name : CellName) → IsOfCell x name (λ a. false)
nothing_of x (Called m) = (nothing_part x m of_context, λ u e. nothing_free u)
nothing_of x (Returned m) = nothing_part x m of_return
nothing_of x (Thrown m) = nothing_part x m of_throw
nothing_of x (Before k) = λ block at. nothing_part x block.method.0 (before block.first)

none_set : (count n : ℕ) → slice_index_or (replicate count false) n false ≡ true → ⊥
none_set count n e = let f : false ≡ true = sym (law count n) ∙ e in cc f
  where
    law : (count n : ℕ) → slice_index_or (replicate count false) n false ≡ false
    law zero n = refl
    law (suc count) zero = refl
    law (suc count) (suc n) = law count n

-- the first state
pub first : (given : Given) → IsGiven given → (k : Words) (cells : Cells) (dirty : Vec Bool Global) (counts : Counts) → AreNothing counts cells
    → counts.methods ≡ length given.program.now.methods → counts.blocks ≡ length given.layout.now.blocks → counts.stored ≡ cell_count given.program.now → counts.sites ≡ length given.program.now.sites
    → dirty.items ≡ replicate counts.blocks true → IsState (problem_of given) k (record { cells = cells; dirty = dirty })
first given is k cells dirty counts none methods blocks stored sites marked = record {
  sized = record {
    rows = sizes;
    stored = ap (λ (bits : List Bool). length bits) none.stored ∙ length-replicate counts.stored false ∙ stored;
    warned = ap (λ (bits : List Bool). length bits) none.warned ∙ length-replicate counts.sites false ∙ sites;
    dirty = ap (λ (bits : List Bool). length bits) marked ∙ length-replicate counts.blocks true ∙ blocks;
  };
  known = λ name. subst (Knows k) (sym (none.at name)) (knows_constant k false);
  below = record {
    cells = λ name. subst (IsOfCell (problem_of given) name) (sym (ap (meaning k) (none.at name) ∙ false_means k)) (nothing_of (problem_of given) name);
    stored = λ c is_cell e. absurd (none_set counts.stored (cell_number given.program.now c) (sym (ap (λ (bits : List Bool). slice_index_or bits (cell_number given.program.now c) false) none.stored) ∙ e));
    warned = λ s site found e. absurd (none_set counts.sites s (sym (ap (λ (bits : List Bool). slice_index_or bits s false) none.warned) ∙ e));
  };
  settled = λ b block at clean. absurd (all_marked b block at clean);
}
  where
    sizes : (name : CellName) → length (row cells name) ≡ count_of (problem_of given) name
    sizes (Called m) = none.called ∙ methods
    sizes (Returned m) = none.returned ∙ methods
    sizes (Thrown m) = none.thrown ∙ methods
    sizes (Before m) = none.before ∙ blocks

    all_marked : (b : ℕ) (block : ProgramBlock) → slice_get given.layout.now.blocks b ≡ Some block → is_dirty dirty.items b ≡ false → ⊥
    all_marked b block at clean =
        let lt = slice_get_within given.layout.now.blocks b block at in
        let f : true ≡ false = sym (ap (λ (bits : List Bool). slice_index_or bits b false) marked ∙ get_or-replicate counts.blocks b true false (omega (arith, lt, blocks))) ∙ clean in
        cc f
