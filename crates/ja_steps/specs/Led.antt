-- What the clauses of an end make of sets of facts: from which variables before it they may lead to which after it.
use Rattle.std.specs.Prelude.{◌≡◌, ◌↔◌, ℕ, ◌/◌, ◌%◌, ◌&&◌, nat_lt, nat_eq, Bool, true, false}
use Rattle.ja_node_core.specs.Tree.{Assignment as Variables}
use Rattle.ja_bdd.specs.Functions.{Function}
use Rattle.ja_ir.specs.declared.program.Parts.{Parts}
use Rattle.ja_facts.specs.Analyses.{Analyses}
use Rattle.ja_facts.specs.Formulas.{Assignment}
use Rattle.ja_join.specs.declared.rule.Rule.{Rule}
use Rattle.ja_join.specs.Steps.{Leads, IsStill}
use Rattle.ja_work.specs.declared.clause.Spot.{Spot}
use Rattle.ja_work.specs.declared.clause.Clause.{Clause}
use Rattle.ja_work.specs.declared.frame.Frame.{Frame}
use Rattle.ja_work.specs.Clauses.{AllFit}
use Rattle.ja_work.specs.Frames.{size, read}
use Rattle.ja_work.specs.Work.{Saying, Says, IsThrown}

-- the variable is one of the frame's in the copy at present
abbrev pub is_present : Frame → (v : ℕ) → Bool
is_present frame v = nat_eq (v % 4) 1 && nat_lt (v / 4) (size frame)

-- the clauses may lead from the variables before to those after: they hold between what both say at present, and all other variables stay
pub record IsLed (frame : Frame) (clauses : Spot → Clause) (before after : Variables) : Type 0 where
  pub fits : AllFit clauses (read frame 1 before) (read frame 1 after)
  pub others : (v : ℕ) → is_present frame v ≡ false → before v ≡ after v

-- the second function is what the clauses make of the first: true exactly where they may lead to from where the first is true
abbrev pub IsLedOn : Frame → (Spot → Clause) → (φ ψ : Function) → Type 0
IsLedOn frame clauses φ ψ = (after : Variables) → (ψ after ≡ true) ↔ ((before : Variables) × IsLed frame clauses before after × (φ before ≡ true))

-- the rule is that of the clauses: it leads where they do, and has moves for variables of the frame at present alone
pub record IsRuleOf (frame : Frame) (clauses : Spot → Clause) (rule : Rule) : Type 0 where
  pub leads : (before after : Variables) → Leads rule before after ↔ IsLed frame clauses before after
  pub still : (v : ℕ) → is_present frame v ≡ false → IsStill rule.moves.items v

module _ (p : Parts) (A : Analyses) where
  -- what is told of the parameters and of an assignment: what sets of facts of the program's work say, or what an exceptional end of an
  -- instruction may lead to
  pub data Telling : Type 0 where
    said : Saying p A → Telling
    thrown_at : (i : ℕ) → Telling

  abbrev pub Tells : (m : ℕ) → Telling → (a b : Assignment) → Type 0
  Tells m (said saying) a b = Says p A m saying a b
  Tells m (thrown_at i) a b = IsThrown p A m i a b

  -- from what the first tells of method m the clauses lead to what the second does
  abbrev pub LeadOn : (m : ℕ) → (Spot → Clause) → (first second : Telling) → Type 0
  LeadOn m clauses first second = (a b after : Assignment) → Tells m first a b → AllFit clauses b after → Tells m second a after
