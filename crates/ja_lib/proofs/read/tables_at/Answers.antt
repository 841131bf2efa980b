use Rattle.std.proofs.Common.{sym, ◌∙◌}
use Rattle.toml.specs.View.{view, table_view}
use Rattle.toml.specs.Data.{get_member}
use Rattle.ja_lib.proofs.Reading.{tables_found}
use Rattle.ja_lib.proofs.read.tables_at.Goals as goal

pub returns-then-are_tables : goal.returns-then-are_tables
returns-then-are_tables c =
    tables_found (get_member c.args.key.now (table_view c.args.document.now)) (view c.in-Some.value.now) c.in-Some-as_array.array.now.items c.as_slice.result.now c.deref.result.now
    c.in-Some.ensures c.in-Some-as_array.ensures c.as_slice.ensures.value c.deref.ensures.value (sym c.are_tables.ensures ∙ c.if-are_tables.true)
