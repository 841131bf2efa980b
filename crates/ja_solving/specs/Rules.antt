-- The rules by which a network that is solved for class sets tells facts.
use Rattle.std.specs.Prelude.{◌≡◌, ℕ, ◌<◌, ◌↔◌, List, [], ◌∷◌, Contains}
use Rattle.ja_ir.specs.declared.program.Parts.{Parts}
use Rattle.ja_facts.specs.Least.{Least}
use Rattle.ja_facts.specs.ClassTables.{token_count}
use Rattle.ja_network.specs.declared.cell.Cell.{Cell}
use Rattle.ja_network.specs.declared.cell.Action.{Action}
use Rattle.ja_network.specs.declared.cell.Event.{Event}
use Rattle.ja_network.specs.declared.cell.Event.TheVariants.{Linked}
use Rattle.ja_network.specs.declared.network.Network.{Network}
use Rattle.ja_network.specs.Facts.{Fact, HasToken, Happens as ItHappens, Tells}
use Rattle.ja_cells.specs.Names.{Names}
use Rattle.ja_constraints.specs.declared.constraint.Constraint.{Constraint}
use Rattle.ja_constraints.specs.declared.constraint.Constraint.TheVariants.{Has, Happens}
use Rattle.ja_constraints.specs.Starts.{starts}
use Rattle.ja_constraints.specs.Events.{follows}
use Rattle.ja_firing.specs.Tokens.{fires}

-- a constraint tells a fact; a token is one of the program's
abbrev pub Says : Parts → Constraint → Fact → Type 0
Says p (Has cell token) f = (f ≡ HasToken cell token) × (token < token_count p)
Says p (Happens event) f = f ≡ ItHappens event

-- one of the constraints tells a fact
abbrev pub OneSays : Parts → List Constraint → Fact → Type 0
OneSays p told f = (c : Constraint) × Contains told c × Says p c f

-- from these facts comes this fact: what is told at first; what follows where an event happens; and what comes of a token of a cell for
-- which something is done
pub data Rule (p : Parts) (names : Names) : List Fact → Fact → Type 0 where
  starts_so : {f : Fact} → OneSays p (starts p) f → Rule p names [] f
  follows_so : {e : Event} {f : Fact} → OneSays p (follows p names e) f → Rule p names (ItHappens e ∷ []) f
  fires_so : {c : Cell} {a : Action} {t : ℕ} {f : Fact} → OneSays p (fires p names t a) f
      → Rule p names (HasToken c t ∷ ItHappens (Linked c a) ∷ []) f

-- exactly the least set of facts is told
abbrev pub IsSolved : Parts → Names → Network → Type 0
IsSolved p names net = (f : Fact) → Tells net f ↔ Least (Rule p names) f
