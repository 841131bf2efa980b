-- What holds while a network is solved.
use Rattle.std.specs.Prelude.{ℕ}
use Rattle.ja_sets.specs.Sets.{Has}
use Rattle.ja_ir.specs.declared.program.Parts.{Parts}
use Rattle.ja_facts.specs.Least.{Least}
use Rattle.ja_network.specs.declared.cell.Cell.{Cell}
use Rattle.ja_network.specs.declared.cell.Action.{Action}
use Rattle.ja_network.specs.declared.cell.Event.{Event}
use Rattle.ja_network.specs.declared.cell.Event.TheVariants.{Linked}
use Rattle.ja_network.specs.declared.network.Network.{Network}
use Rattle.ja_network.specs.Facts.{Fact, HasToken, Happens, state_of, Tells, IsSettled}
use Rattle.ja_cells.specs.Names.{Names}
use Rattle.ja_constraints.specs.Starts.{starts}
use Rattle.ja_constraints.specs.Events.{follows}
use Rattle.ja_firing.specs.Tokens.{fires}
use Rattle.ja_solving.specs.Rules.{OneSays, Rule}

-- what comes of the tokens of a set, for each of which this is done
abbrev pub FiresAll : Parts → Names → (ℕ → Type 0) → Action → Fact → Type 0
FiresAll p names S a f = (t : ℕ) × S t × OneSays p (fires p names t a) f

-- the same, for each of these things that are done
abbrev pub FiresEach : Parts → Names → (ℕ → Type 0) → (Action → Type 0) → Fact → Type 0
FiresEach p names S A f = (a : Action) × A a × FiresAll p names S a f

-- what comes of the tokens that a cell has, where the event is that something is done with each of them
abbrev pub FiresAt : Parts → Names → Network → Event → Fact → Type 0
FiresAt p names net (Linked c a) f = FiresAll p names (Has (state_of net c).has) a f
FiresAt p names net _ f = ⊥

-- each fact that is told follows by the rules, and what follows from facts that have been worked on is told
pub record IsWorking (p : Parts) (names : Names) (net : Network) : Type 0 where
  pub sound : (f : Fact) → Tells net f → Least (Rule p names) f
  pub starts : (f : Fact) → OneSays p (starts p) f → Tells net f
  pub follows : (e : Event) (f : Fact) → IsSettled net (Happens e) → OneSays p (follows p names e) f → Tells net f
  pub fires : (c : Cell) (a : Action) (t : ℕ) (f : Fact) → IsSettled net (HasToken c t) → IsSettled net (Happens (Linked c a))
      → OneSays p (fires p names t a) f → Tells net f
