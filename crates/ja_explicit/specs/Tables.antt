-- The facts of a table.
use Rattle.std.specs.Prelude.{List}
use Rattle.ja_explicit.specs.declared.item.Item.{Item}
use Rattle.ja_explicit.specs.declared.table.Table.{Table}

-- the facts, in their order
abbrev pub items_of : Table → List Item
items_of table = table.items.keys
