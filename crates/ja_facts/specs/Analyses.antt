-- What the equations of taint are given: what class sets, the call graph, pairs, effects, reachability and held cells say.
use Rattle.ja_ir.specs.declared.program.Parts.{Parts}
use Rattle.ja_facts.specs.Least.{Least}
use Rattle.ja_facts.specs.ClassSets.{Fact as ClassFact, Rule as ClassRule}
use Rattle.ja_facts.specs.Held.{Fact as HeldFact, Rule as HeldRule}
use Rattle.ja_facts.specs.Sharing.{Fact as HeapFact, Rule as HeapRule}
use Rattle.ja_facts.specs.Reaching.{Fact as ReachFact, Rule as ReachRule}

-- what is known of a program before its equations are solved
pub record Analyses : Type 1 where
  -- class sets and the call graph
  pub classes : ClassFact → Type 0
  -- which cells tokens and fields hold
  pub held : HeldFact → Type 0
  -- pairs and effects
  pub heaps : HeapFact → Type 0
  -- reachability
  pub reach : ReachFact → Type 0

-- the least class sets and call graph of a program
abbrev pub Classes : Parts → ClassFact → Type 0
Classes p = Least (ClassRule p)

-- the least cells that its tokens and fields hold
abbrev pub Helds : Parts → HeldFact → Type 0
Helds p = Least (HeldRule p (Classes p))

-- its least pairs and effects
abbrev pub Heaps : Parts → HeapFact → Type 0
Heaps p = Least (HeapRule p (Classes p))

-- its least reachability
abbrev pub Reaches : Parts → ReachFact → Type 0
Reaches p = Least (ReachRule p (Classes p) (Heaps p))

-- the least of all four
abbrev pub analyses_of : Parts → Analyses
analyses_of p = record { classes = Classes p; held = Helds p; heaps = Heaps p; reach = Reaches p }
