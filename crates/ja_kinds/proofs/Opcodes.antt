-- What each opcode does, beside the operands that it takes.
use Rattle.std.proofs.Common.{◌≡◌, ℕ, zero, suc, ◌+◌, ◌<◌, inl, inr, Bool, true, false, ◌&&◌, ◌||◌, cond, leb, List, [], ◌∷◌, Option, Some, None, refl, ap, subst, ◌∙◌, zero-add, arith}
use Rattle.std.proofs.lemmas.Bool.{and_parts, cases_lt, leb-true, lt-leb}
use Rattle.ja_code.specs.declared.form.Entry.TheVariants.{Loadable, Field, Method, InterfaceMethod, AnyMethod}
use Rattle.ja_code.specs.declared.form.Form.{Form}
use Rattle.ja_code.specs.declared.form.Form.TheVariants.{ByteIndex, Index, Interface, Wide}
use Rattle.ja_code.specs.Opcode.{Run, runs, form_in, form_at, is_refused}
use Rattle.ja_code.specs.Grammar.{Takes, is_branch}
use Rattle.ja_code.specs.declared.behaviour.Behaviour.{Behaviour}
use Rattle.ja_kinds.specs.declared.reading.Part.{Part}
use Rattle.ja_kinds.specs.declared.reading.Part.TheVariants as parts
use Rattle.ja_code.specs.Behaviour.{behaviour_at, branches}
use Rattle.ja_kinds.specs.InnerReading.{part_of}
use Rattle.ja_code.proofs.Rows.{no_form, no_behaviour}

-- what of the pool the operands of a form name
abbrev pub part_named : Form → Part
part_named ByteIndex = parts.Constant
part_named (Index Loadable) = parts.Constant
part_named (Index Field) = parts.Field
part_named (Index Method) = parts.Method
part_named (Index InterfaceMethod) = parts.Method
part_named (Index AnyMethod) = parts.Method
part_named Interface = parts.Method
part_named form = parts.Nothing

abbrev same_part : Part → Part → Bool
same_part parts.Nothing parts.Nothing = true
same_part parts.Constant parts.Constant = true
same_part parts.Field parts.Field = true
same_part parts.Method parts.Method = true
same_part a b = false

same_part_is : (a b : Part) → same_part a b ≡ true → a ≡ b
same_part_is parts.Nothing parts.Nothing e = refl
same_part_is parts.Constant parts.Constant e = refl
same_part_is parts.Field parts.Field e = refl
same_part_is parts.Method parts.Method e = refl
same_part_is a b e = absurd cc

abbrev same_truth : Bool → Bool → Bool
same_truth true b = b
same_truth false true = false
same_truth false false = true

same_truth_is : (a b : Bool) → same_truth a b ≡ true → a ≡ b
same_truth_is true true e = refl
same_truth_is true false e = absurd cc
same_truth_is false true e = absurd cc
same_truth_is false false e = refl

-- a form and a behaviour of one opcode fit: both name the same of the pool
abbrev fits : Form → Option Behaviour → Bool
fits Wide b = true
fits form None = false
fits form (Some b) = same_part (part_of b) (part_named form)

abbrev fits_row : Option Form → Option Behaviour → Bool
fits_row None b = true
fits_row (Some form) b = fits form b

abbrev row_fits : ℕ → Bool
row_fits op = is_refused op || fits_row (form_at op) (behaviour_at op)

-- a test holds at so many numbers from one on
abbrev all_from : (ℕ → Bool) → ℕ → ℕ → Bool
all_from test start zero = true
all_from test start (suc count) = test start && all_from test (suc start) count

all_at : (test : ℕ → Bool) (start count i : ℕ) → all_from test start count ≡ true → i < count → test (start + i) ≡ true
all_at test start zero i all below = absurd (omega arith)
all_at test start (suc count) zero all below =
    let parts : (test start ≡ true) × (all_from test (suc start) count ≡ true) = and_parts (test start) (all_from test (suc start) count) all in
    ap test (omega arith) ∙ parts.0
all_at test start (suc count) (suc i) all below =
    let parts : (test start ≡ true) × (all_from test (suc start) count ≡ true) = and_parts (test start) (all_from test (suc start) count) all in
    ap test (omega arith) ∙ all_at test (suc start) count i parts.1 (omega arith)

each_row : all_from row_fits 0 202 ≡ true
unfolding form_at behaviour_at
each_row = refl

-- a form and a behaviour of one opcode both branch, or none does
abbrev branch_fits : Option Behaviour → Option Form → Bool
branch_fits None form = true
branch_fits (Some b) form = same_truth (branches b) (is_branch form)

abbrev row_branches : ℕ → Bool
row_branches op = branch_fits (behaviour_at op) (form_at op)

each_branch : all_from row_branches 0 202 ≡ true
unfolding form_at behaviour_at
each_branch = refl

row_at : (op : ℕ) → op < 202 → row_fits op ≡ true
row_at op below = subst (λ (n : ℕ). row_fits n ≡ true) (zero-add op) (all_at row_fits 0 202 op each_row below)

taken_fits : (refused : Bool) (o : Option Form) (b : Option Behaviour) (form : Form) → refused ≡ false → o ≡ Some form → (refused || fits_row o b) ≡ true
    → fits form b ≡ true
taken_fits true o b form r e h = absurd cc
taken_fits false None b form r e h = absurd cc
taken_fits false (Some f) b form r e h =
    let same : f ≡ form = cc in
    subst (λ (g : Form). fits g b ≡ true) same h

takes_fits : (op : ℕ) (form : Form) → Takes op form → fits form (behaviour_at op) ≡ true
takes_fits op form takes = elim (cases_lt op 202) [
  | inl below ↦ taken_fits (is_refused op) (form_at op) (behaviour_at op) form takes.1 takes.0 (row_at op below)
  | inr past ↦
      let none : form_at op ≡ None = no_form op (omega arith) in
      absurd cc
]

-- a form that an instruction of its own has
abbrev pub is_own : Form → Bool
is_own Wide = false
is_own form = true

-- what an opcode that is taken does: it names of the pool what its form says
pub record Fits (op : ℕ) (form : Form) : Type 0 where
  pub behaviour : Behaviour
  pub at : behaviour_at op ≡ Some behaviour
  pub part : part_of behaviour ≡ part_named form

found : (op : ℕ) (form : Form) (o : Option Behaviour) → is_own form ≡ true → behaviour_at op ≡ o → fits form o ≡ true → Fits op form
found op Wide o own e h = absurd cc
found op form None own e h = absurd cc
found op form (Some b) own e h = record { behaviour = b; at = e; part = same_part_is (part_of b) (part_named form) h }

pub fitting : (op : ℕ) (form : Form) → is_own form ≡ true → Takes op form → Fits op form
fitting op form own takes = found op form (behaviour_at op) own refl (takes_fits op form takes)

-- the operands of an opcode are places where it may go, where its form says so
pub branches_are : (op : ℕ) (b : Behaviour) → behaviour_at op ≡ Some b → branches b ≡ is_branch (form_at op)
branches_are op b at = elim (cases_lt op 202) [
  | inl below ↦
      same_truth_is (branches b) (is_branch (form_at op))
      (subst (λ (o : Option Behaviour). branch_fits o (form_at op) ≡ true) at
      (subst (λ (n : ℕ). row_branches n ≡ true) (zero-add op) (all_at row_branches 0 202 op each_branch below)))
  | inr past ↦
      let none : behaviour_at op ≡ None = no_behaviour op (omega arith) in
      absurd cc
]
