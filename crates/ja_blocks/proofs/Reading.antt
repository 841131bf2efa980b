-- What the rules of the equations go by.
use Rattle.std.proofs.Common.{◌≡◌, ◌⊎◌, ℕ, suc, zero, List, [], ◌∷◌, refl, sym, subst, inl, inr, ⊎_elim, arith}
use Rattle.std.specs.Prelude.{Contains, slice_index_or}
use Rattle.ja_ir.specs.declared.program.Parts.{Parts}
use Rattle.ja_ir.specs.declared.op.Op.{Op}
use Rattle.ja_ir.specs.Lookup.{OpAt}
use Rattle.ja_sets.specs.Sets.{Has}
use Rattle.ja_facts.specs.ClassSets.{CallsMethod}
use Rattle.ja_facts.specs.Slots.{Slot}
use Rattle.ja_facts.specs.Held.{FieldHolds, Cell}
use Rattle.ja_facts.specs.Analyses.{Analyses}
use Rattle.ja_facts.specs.FactTables.{GraphTable, targets_at, HeldTable}
use Rattle.ja_facts.specs.Told.{cell_number}
use Rattle.ja_facts.specs.Formulas.{Assignment}
use Rattle.ja_facts.specs.Equations.{Fact, Context, At, Normal, Threw, Stored, stored_facts, Reads, reads_field, reads_static, Answers, itself, held, Rule, initializer_called, constructor_called, entry_called, called, initialized, begins, steps, reads_stored_field, call_resumes, initializer_resumes, caught, callee_caught, leaves, callee_leaves, method_returns, method_ends, stored, taken}
use Rattle.ja_blocks.specs.Readers.{Gets, IsRead}

one_of : {X : Type 0} (x y : X) → Contains (x ∷ []) y → x ≡ y
one_of x y (zero, lt, is) = is
one_of x y (suc k, lt, is) = absurd (omega arith)

two_of : {X : Type 0} (x z y : X) → Contains (x ∷ z ∷ []) y → (x ≡ y) ⊎ (z ≡ y)
two_of x z y (zero, lt, is) = inl is
two_of x z y (suc zero, lt, is) = inr is
two_of x z y (suc (suc k), lt, is) = absurd (omega arith)

no_at : (cells : List Cell) (m i : ℕ) (a b : Assignment) → Contains (stored_facts cells) (At m i a b) → ⊥
no_at [] m i a b (k, lt, is) = absurd (omega arith)
no_at (c ∷ cells) m i a b (zero, lt, is) = absurd (cc is)
no_at (c ∷ cells) m i a b (suc k, lt, is) = no_at cells m i a b (k, (omega arith), is)

gets_of : (op : Op) (height f : ℕ) (r : Slot) → Reads op height f r → Gets op f
gets_of op height f r (reads_field e) = refl
gets_of op height f r reads_static = refl

module _ (p : Parts) (A : Analyses) (graph : GraphTable) (table : HeldTable) (calls : (m i n : ℕ) → A.classes (CallsMethod m i n) → Contains (targets_at graph m i).methods n) (holds : (f : ℕ) (c : Cell) → A.held (FieldHolds f c) → Has (slice_index_or table.fields f []) (cell_number p c)) where
  alone : (m i m' i' : ℕ) (a b c d : Assignment) (other : Fact) → Contains (At m' i' c d ∷ []) (At m i a b) → Contains (At m' i' c d ∷ []) other → IsRead p graph table m i other
  alone m i m' i' a b c d other x y =
      let one : At m' i' c d ≡ At m i a b = one_of (At m' i' c d) (At m i a b) x in
      let first : m' ≡ m = cc one in
      let second : i' ≡ i = cc one in
      subst (IsRead p graph table m i) (one_of (At m' i' c d) other y) (first, second)

  -- beside a fact that is not before an instruction
  beside : (m i m' i' : ℕ) (a b c d : Assignment) (z other : Fact) → ((n j : ℕ) (e f : Assignment) → z ≡ At n j e f → ⊥) → IsRead p graph table m' i' z → Contains (At m' i' c d ∷ z ∷ []) (At m i a b) → Contains (At m' i' c d ∷ z ∷ []) other
      → IsRead p graph table m i other
  beside m i m' i' a b c d z other not_at read x y = ⊎_elim
      (λ one.
      let first : m' ≡ m = cc one in
      let second : i' ≡ i = cc one in
      ⊎_elim (λ is. subst (IsRead p graph table m i) is (first, second)) (λ is. subst (λ (q : ℕ × ℕ × Fact). IsRead p graph table q.0 q.1 q.2) (λ t. (first t, second t, is t)) read) (two_of (At m' i' c d) z other y))
      (λ is. absurd (not_at m i a b is))
      (two_of (At m' i' c d) z (At m i a b) x)

  answer_at : (f : ℕ) (cell : Cell) → Answers A f cell → (cell_number p cell ≡ f) ⊎ Has (slice_index_or table.fields f []) (cell_number p cell)
  answer_at f _ itself = inl refl
  answer_at f cell (held h) = inr (holds f cell h)

  reads_cell : (m i f height : ℕ) (op : Op) (r : Slot) (cell : Cell) → OpAt p m i op height → Reads op height f r → Answers A f cell → IsRead p graph table m i (Stored cell)
  reads_cell m i f height op r cell at reads answers = (
    f,
    record { instr = at.instr; found = at.found; gets = subst (λ (o : Op). Gets o f) (sym at.is_op) (gets_of op height f r reads) },
    answer_at f cell answers,
  )

  pub reads : (facts : List Fact) (fact : Fact) → Rule p A facts fact → (m i : ℕ) (a b : Assignment) → Contains facts (At m i a b) → (other : Fact) → Contains facts other → IsRead p graph table m i other
  reads facts fact (initializer_called _ _) m i a b x other y = absurd (omega (arith, x.1))
  reads facts fact (constructor_called _ _ _ _) m i a b x other y = absurd (omega (arith, x.1))
  reads facts fact (entry_called entry cells _) m i a b x other y = absurd (no_at cells m i a b x)
  reads facts fact (called _) m i a b x other y = alone m i _ _ a b _ _ other x y
  reads facts fact (initialized _ _) m i a b x other y = alone m i _ _ a b _ _ other x y
  reads facts fact (begins {m = n} {a = c}) m i a b x other y = absurd (cc (one_of (Context n c) (At m i a b) x))
  reads facts fact (steps _ _ _ _) m i a b x other y = alone m i _ _ a b _ _ other x y
  reads facts fact (reads_stored_field {cell = cell} at _ _ gets _ answers) m i a b x other y = beside m i _ _ a b _ _ (Stored cell) other (λ n j e f is. cc is) (reads_cell _ _ _ _ _ _ cell at gets answers) x y
  reads facts fact (call_resumes {n = n} {c = c} {s = s} call _ _) m i a b x other y = beside m i _ _ a b _ _ (Normal n c s) other (λ k j e f is. cc is) (inl (calls _ _ n call.goes)) x y
  reads facts fact (initializer_resumes {n = n} {c = c} {s = s} _ init _ _) m i a b x other y = beside m i _ _ a b _ _ (Normal n c s) other (λ k j e f is. cc is) (inr init) x y
  reads facts fact (caught _ _ _ _) m i a b x other y = alone m i _ _ a b _ _ other x y
  reads facts fact (callee_caught {n = n} {c = c} {s = s} call _ _ _ _) m i a b x other y = beside m i _ _ a b _ _ (Threw n c s) other (λ k j e f is. cc is) (inl (calls _ _ n call.goes)) x y
  reads facts fact (leaves _ _ _) m i a b x other y = alone m i _ _ a b _ _ other x y
  reads facts fact (callee_leaves {n = n} {c = c} {s = s} call _ _ _) m i a b x other y = beside m i _ _ a b _ _ (Threw n c s) other (λ k j e f is. cc is) (inl (calls _ _ n call.goes)) x y
  reads facts fact (method_returns _) m i a b x other y = alone m i _ _ a b _ _ other x y
  reads facts fact (method_ends _) m i a b x other y = alone m i _ _ a b _ _ other x y
  reads facts fact (stored _ _ _) m i a b x other y = alone m i _ _ a b _ _ other x y
  reads facts fact (taken _ _ _) m i a b x other y = alone m i _ _ a b _ _ other x y
