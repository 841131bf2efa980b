use Rattle.std.proofs.Common.{Bool, List, length, ap, ◌∙◌}
use Rattle.ja_facts.specs.FactTables.{GraphTable}
use Rattle.ja_facts.specs.Shared.{option_rows}
use Rattle.ja_class_tables.specs.InnerPool.{row_of}
use Rattle.ja_class_tables.proofs.Exact.{graph-read}
use Rattle.ja_class_tables.proofs.reading.graph_of.Goals as goal

pub numbers_of-requires-clause-room : goal.numbers_of-requires-clause-room
numbers_of-requires-clause-room c m = ap (λ (g : GraphTable). length (row_of g.reached m)) c.share_targets.ensures ∙ c.in_ok-graph.ensures.room.reached m

pub numbers_of-requires-clause-pool : goal.numbers_of-requires-clause-pool
numbers_of-requires-clause-pool c = c.new-takers.ensures c.args.net.now

pub returns-clause-room : goal.returns-clause-room
returns-clause-room c m =
    ap (λ (g : GraphTable). length (row_of g.reached m)) c.share_takers.ensures ∙ ap (λ (g : GraphTable). length (row_of g.reached m)) c.share_targets.ensures ∙ c.in_ok-graph.ensures.room.reached m

pub returns-clause-reads : goal.returns-clause-reads
returns-clause-reads c =
    let graph = c.share_targets.new.self in
    let pool = c.numbers_of.new.pool.sets in
    let numbers = c.in_ok-numbers-2.numbers in
    graph-read c.args.p.now c.args.net.now c.in_ok-graph.field-0 graph c.share_takers.new.self c.target_numbers.new.pool c.in_ok-numbers.numbers pool numbers c.requires.tokens c.in_ok-graph.ensures
    c.in_ok-numbers.ensures.said c.share_targets.ensures c.in_ok-numbers-2.ensures.numbers
    (c.share_takers.ensures ∙ ap (λ (sets : List (List Bool)). let g : GraphTable = record graph { takers = option_rows sets graph.none numbers } in g) c.into_sets.ensures)
