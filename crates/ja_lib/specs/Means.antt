-- Rows with at most one sink.
use Rattle.std.specs.Prelude.{true, [], ◌∷◌, option_to_list}
use Rattle.ja_ir.specs.declared.row.LibRow.{LibRow}
use Rattle.ja_lib.specs.declared.default.Means.{Means}

-- the row of a meaning with at most one sink, where there is one category of marks
abbrev pub lib_row : Means → LibRow
lib_row means = record { flow = means.flow; effect = means.effect; result = means.result; sinks = option_to_list means.sink; marks = true ∷ []; category = 0 }
