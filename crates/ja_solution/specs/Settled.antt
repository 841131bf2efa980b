-- The rules of a block, and when they hold.
use Rattle.std.specs.Prelude.{◌≡◌, ℕ, Bool, true, false, List, [], ◌∷◌, Some, slice_get}
use Rattle.ja_ir.specs.declared.entry.Site.{Site}
use Rattle.ja_facts.specs.Least.{Each}
use Rattle.ja_facts.specs.Formulas.{Assignment}
use Rattle.ja_facts.specs.Equations.{Fact, Context, At, Normal, Threw, Stored, IsWarned}
use Rattle.ja_blocks.specs.declared.blocks.ProgramBlock.{ProgramBlock}
use Rattle.ja_blocks.specs.Blocks.{HasPlace}
use Rattle.ja_solution.specs.Problem.{Problem, Gives}
use Rattle.ja_solution.specs.Cells.{Values, InCells, has_cell, Said}

-- an instruction of a method
pub record Place : Type 0 where
  pub m : ℕ
  pub i : ℕ

-- the first instruction of the method that a fact is about
abbrev pub beginning_of : Fact → Place
beginning_of (Context m a) = record { m = m; i = 0 }
beginning_of (At m i a b) = record { m = m; i = 0 }
beginning_of (Normal m a s) = record { m = m; i = 0 }
beginning_of (Threw m a s) = record { m = m; i = 0 }
beginning_of (Stored c) = record { m = 0; i = 0 }

-- the instruction at which a rule with these premises gives this fact: the one before which the first premise is, and else the first one of the
-- method that is called, or that begins
abbrev pub applied_at : List Fact → Fact → Place
applied_at (At m i a b ∷ ps) f = record { m = m; i = i }
applied_at [] f = beginning_of f
applied_at (Context m a ∷ ps) f = beginning_of f
applied_at (Normal m a s ∷ ps) f = beginning_of f
applied_at (Threw m a s ∷ ps) f = beginning_of f
applied_at (Stored c ∷ ps) f = beginning_of f

-- the block has the place
abbrev pub Has : ProgramBlock → Place → Type 0
Has block place = HasPlace block place.m place.i

-- the rules of the block, and the sites in it: what they give from what the first cells say, the second cells have
pub record IsSettled (x : Problem) (block : ProgramBlock) (from to : Values) : Type 0 where
  pub rules : (ps : List Fact) (f : Fact) → Gives x ps f → Has block (applied_at ps f) → Each (Said x from) ps → has_cell x f ≡ true → InCells x to f
  pub sites : (k : ℕ) (site : Site) → slice_get x.program.sites k ≡ Some site → HasPlace block site.method.0 site.index → IsWarned x.program (Said x from) site → to.warned k ≡ true

-- the rules of instruction i of method m that go by what is before it, and its sites: what they give from what the first cells say, the second
-- cells have
pub record IsCovered (x : Problem) (m i : ℕ) (from to : Values) : Type 0 where
  pub rules : (a b : Assignment) (ps : List Fact) (f : Fact) → Gives x (At m i a b ∷ ps) f → Said x from (At m i a b) → Each (Said x from) ps → has_cell x f ≡ true → InCells x to f
  pub sites : (k : ℕ) (site : Site) → slice_get x.program.sites k ≡ Some site → site.method.0 ≡ m → site.index ≡ i → IsWarned x.program (Said x from) site → to.warned k ≡ true

-- the first premise is one of what is before an instruction
abbrev pub goes_by_at : List Fact → Bool
goes_by_at (At m i a b ∷ ps) = true
goes_by_at [] = false
goes_by_at (Context m a ∷ ps) = false
goes_by_at (Normal m a s ∷ ps) = false
goes_by_at (Threw m a s ∷ ps) = false
goes_by_at (Stored c ∷ ps) = false

-- the rules by which method m is called by the environment, and begins
pub record IsBegun (x : Problem) (m : ℕ) (from to : Values) : Type 0 where
  pub rules : (ps : List Fact) (f : Fact) → Gives x ps f → goes_by_at ps ≡ false → (beginning_of f).m ≡ m → Each (Said x from) ps → has_cell x f ≡ true → InCells x to f

-- each block of which this holds is settled
abbrev pub AreSettled : Problem → (ℕ → Type 0) → Values → Type 0
AreSettled x P v = (k : ℕ) (block : ProgramBlock) → slice_get x.blocks k ≡ Some block → P k → IsSettled x block v v
