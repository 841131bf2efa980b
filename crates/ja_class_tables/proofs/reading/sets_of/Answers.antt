use Rattle.std.proofs.Common.{Bool, List, ap, ◌∙◌}
use Rattle.ja_facts.specs.ClassTables.{ClassTable}
use Rattle.ja_facts.specs.Shared.{named_table, option_rows}
use Rattle.ja_class_tables.proofs.Exact.{sets-read}
use Rattle.ja_class_tables.proofs.Rows.{slots-on}
use Rattle.ja_class_tables.proofs.reading.sets_of.Goals as goal

pub slot_names-requires-clause-pool : goal.slot_names-requires-clause-pool
slot_names-requires-clause-pool c = c.new-pool.ensures c.args.net.now

pub returns : goal.returns
returns c =
    let net = c.args.net.now in
    let names = c.args.names.now in
    let graph = c.args.graph.now in
    let sets = c.in_ok-sets.sets in
    let slots = c.in_ok-slots.slots in
    let thrown = c.in_ok-thrown.thrown in
    let pool = c.numbers_of.new.pool.sets in
    sets-read c.args.p.now names net graph sets c.share.new.self pool slots thrown c.requires.tokens c.requires.reached c.in_ok-sets.ensures
    (slots-on net names graph c.slot_names.new.pool.sets pool slots c.in_ok-thrown.ensures.grows c.in_ok-slots.ensures.named) c.in_ok-thrown.ensures.numbers
    (c.share.ensures ∙ ap (λ (items : List (List Bool)). let s : ClassTable = record sets { slots = named_table items sets.none slots; thrown = option_rows items sets.none thrown } in s) c.into_sets.ensures)
