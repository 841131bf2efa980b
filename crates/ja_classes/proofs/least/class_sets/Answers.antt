use Rattle.std.proofs.Common.{◌↔◌, subst}
use Rattle.std.proofs.lemmas.Result.{IfOk-weaker}
use Rattle.ja_ir.specs.Whole.{IsWhole}
use Rattle.ja_facts.specs.Analyses.{Classes}
use Rattle.ja_facts.specs.ClassSets.{Fact}
use Rattle.ja_facts.specs.Told.{IsGraphFor, IsKeptGraph, IsKeptSets, TellsGraph, TellsSets}
use Rattle.ja_class_tables.specs.Reads.{ReadsSets, ReadsGraph}
use Rattle.ja_classes.specs.Sized.{AreSetsFor, AreTakersFor}
use Rattle.ja_classes.proofs.Joined.{sets-least, sets-sized, graph-least, graph-for, graph-sized}
use Rattle.ja_classes.proofs.least.class_sets.Goals as goal

pub returns-clause-sets : goal.returns-clause-sets
returns-clause-sets c =
    let p = c.args.p.now in
    let names = c.in_ok-names.names in
    let net = c.in_ok-network.network in
    let whole : IsWhole p = subst IsWhole c.parts-parts.ensures.same c.parts-parts.ensures.whole in
    let shown = c.law_network_shows_class_sets.ensures.solved p names net whole c.in_ok-names.ensures c.in_ok-network.ensures.solved in
    IfOk-weaker c.tables.result (λ both. ReadsSets p names net both.0) (λ both. (f : Fact) → IsKeptSets f → TellsSets p both.0 f ↔ Classes p f)
    (λ both reads. sets-least p whole names c.in_ok-names.ensures net shown both.0 reads) c.tables.ensures.sets

pub returns-clause-sets_of_program : goal.returns-clause-sets_of_program
returns-clause-sets_of_program c =
    let p = c.args.p.now in
    let names = c.in_ok-names.names in
    let net = c.in_ok-network.network in
    let whole : IsWhole p = subst IsWhole c.parts-parts.ensures.same c.parts-parts.ensures.whole in
    let shown = c.law_network_shows_class_sets.ensures.solved p names net whole c.in_ok-names.ensures c.in_ok-network.ensures.solved in
    IfOk-weaker c.tables.result (λ both. ReadsSets p names net both.0) (λ both. AreSetsFor p both.0)
    (λ both reads. sets-sized p whole names c.in_ok-names.ensures net shown both.0 reads) c.tables.ensures.sets

pub returns-clause-graph : goal.returns-clause-graph
returns-clause-graph c =
    let p = c.args.p.now in
    let names = c.in_ok-names.names in
    let net = c.in_ok-network.network in
    let whole : IsWhole p = subst IsWhole c.parts-parts.ensures.same c.parts-parts.ensures.whole in
    let shown = c.law_network_shows_class_sets.ensures.solved p names net whole c.in_ok-names.ensures c.in_ok-network.ensures.solved in
    IfOk-weaker c.tables.result (λ both. ReadsGraph p net both.1) (λ both. (f : Fact) → IsKeptGraph f → TellsGraph p both.1 f ↔ Classes p f)
    (λ both reads. graph-least p whole names net shown both.1 reads) c.tables.ensures.graph

pub returns-clause-graph_of_program : goal.returns-clause-graph_of_program
returns-clause-graph_of_program c =
    let p = c.args.p.now in
    let names = c.in_ok-names.names in
    let net = c.in_ok-network.network in
    let whole : IsWhole p = subst IsWhole c.parts-parts.ensures.same c.parts-parts.ensures.whole in
    let shown = c.law_network_shows_class_sets.ensures.solved p names net whole c.in_ok-names.ensures c.in_ok-network.ensures.solved in
    IfOk-weaker c.tables.result (λ both. ReadsGraph p net both.1) (λ both. IsGraphFor p both.1)
    (λ both reads. graph-for p whole names net shown both.1 reads) c.tables.ensures.graph

pub returns-clause-takers_of_program : goal.returns-clause-takers_of_program
returns-clause-takers_of_program c =
    let p = c.args.p.now in
    let names = c.in_ok-names.names in
    let net = c.in_ok-network.network in
    let whole : IsWhole p = subst IsWhole c.parts-parts.ensures.same c.parts-parts.ensures.whole in
    let shown = c.law_network_shows_class_sets.ensures.solved p names net whole c.in_ok-names.ensures c.in_ok-network.ensures.solved in
    IfOk-weaker c.tables.result (λ both. ReadsGraph p net both.1) (λ both. AreTakersFor p both.1)
    (λ both reads. graph-sized p whole names net shown both.1 reads) c.tables.ensures.graph
