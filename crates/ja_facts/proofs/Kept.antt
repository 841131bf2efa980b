-- What tables tell is of the kinds that they keep.
use Rattle.std.proofs.Common.{Bool, List}
use Rattle.ja_ir.specs.declared.program.Parts.{Parts}
use Rattle.ja_facts.specs.ClassSets.{Fact as ClassFact, Reached, InEnv, InSlot, InThrown, InParam, InResult, InOut, InField, InBag, CallsMethod, CallsAbstract, CallsLibrary, Spans, Takes}
use Rattle.ja_facts.specs.Reaching.{Fact as ReachFact, ReachAt, ReachWithin}
use Rattle.ja_facts.specs.ClassTables.{ClassTable}
use Rattle.ja_facts.specs.FactTables.{GraphTable}
use Rattle.ja_facts.specs.Told.{TellsSets, TellsGraph, TellsReach, IsKeptSets, IsKeptGraph, IsKeptReach}

pub kept_sets : (p : Parts) (sets : ClassTable) (f : ClassFact) → TellsSets p sets f → IsKeptSets f
kept_sets p sets (Reached m i) h = h
kept_sets p sets (InEnv t) h = h
kept_sets p sets (InSlot m i z t) h = tt
kept_sets p sets (InThrown m i t) h = tt
kept_sets p sets (InParam m k t) h = tt
kept_sets p sets (InResult m t) h = tt
kept_sets p sets (InOut m t) h = tt
kept_sets p sets (InField f t) h = tt
kept_sets p sets (InBag b t) h = tt
kept_sets p sets (CallsMethod m i n) h = h
kept_sets p sets (CallsAbstract m i n) h = h
kept_sets p sets (CallsLibrary m i) h = h
kept_sets p sets (Spans t u) h = tt
kept_sets p sets (Takes m i b) h = h

pub kept_graph : (p : Parts) (graph : GraphTable) (f : ClassFact) → TellsGraph p graph f → IsKeptGraph f
kept_graph p graph (Reached m i) h = tt
kept_graph p graph (InEnv t) h = h
kept_graph p graph (InSlot m i z t) h = h
kept_graph p graph (InThrown m i t) h = h
kept_graph p graph (InParam m k t) h = h
kept_graph p graph (InResult m t) h = h
kept_graph p graph (InOut m t) h = h
kept_graph p graph (InField f t) h = h
kept_graph p graph (InBag b t) h = h
kept_graph p graph (CallsMethod m i n) h = tt
kept_graph p graph (CallsAbstract m i n) h = tt
kept_graph p graph (CallsLibrary m i) h = tt
kept_graph p graph (Spans t u) h = h
kept_graph p graph (Takes m i b) h = tt

pub kept_reach : (p : Parts) (reach : List (List (List (List Bool)))) (f : ReachFact) → TellsReach p reach f → IsKeptReach f
kept_reach p reach (ReachAt m i a z) h = tt
kept_reach p reach (ReachWithin m i a z) h = h
