use Rattle.std.proofs.Common.{◌≡◌, List, Bool, ap, ◌∙◌}
use Rattle.ja_facts.specs.declared.targets.Targets.{Targets}
use Rattle.ja_facts.specs.ClassTables.{token_count, no_members}
use Rattle.ja_facts.specs.FactTables.{GraphTable, no_targets, empty_graph}
use Rattle.ja_facts.specs.Shared.{option_rows}
use Rattle.ja_facts.proofs.Shared.{calls-made}
use Rattle.ja_facts.proofs.graph.CallGraph.new.Goals as goal

abbrev graph : List (List Bool) → List (List (List Targets)) → List (List (List (List Bool))) → List Bool → GraphTable
graph reached targets takers none = record { reached = reached; targets = targets; takers = takers; none = none }

-- the graph from its parts
made : (reached reached' : List (List Bool)) (targets targets' : List (List (List Targets))) (takers takers' : List (List (List (List Bool)))) (none none' : List Bool)
    → reached ≡ reached' → targets ≡ targets' → takers ≡ takers' → none ≡ none' → graph reached targets takers none ≡ graph reached' targets' takers' none'
made reached reached' targets targets' takers takers' none none' r t k n =
    ap (λ (x : List (List Bool)). graph x targets takers none) r ∙ ap (λ (x : List (List (List Targets))). graph reached' x takers none) t
    ∙ ap (λ (x : List (List (List (List Bool)))). graph reached' targets' x none) k ∙ ap (λ (x : List Bool). graph reached' targets' takers' x) n

pub returns : goal.returns
returns c =
    let none = c.in_ok-none.ensures ∙ ap no_members c.token_count-n.ensures in
    made c.in_ok-reached.reached (empty_graph c.args.p.now).reached (option_rows c.new-2.result c.new-4.result c.in_ok-targets.targets) (empty_graph c.args.p.now).targets
    (option_rows c.new-3.result c.in_ok-none.none c.in_ok-takers.takers) (empty_graph c.args.p.now).takers c.in_ok-none.none (empty_graph c.args.p.now).none
    c.in_ok-reached.ensures
    (calls-made c.new-2.result c.new-4.result no_targets c.in_ok-targets.targets c.args.p.now.methods c.new-2.ensures c.new-4.ensures c.in_ok-targets.ensures)
    (calls-made c.new-3.result c.in_ok-none.none (no_members (token_count c.args.p.now)) c.in_ok-takers.takers c.args.p.now.methods c.new-3.ensures none c.in_ok-takers.ensures)
    none
