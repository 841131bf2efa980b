use Rattle.std.proofs.Common.{◌≡◌, ◌++◌, map, take}
use Rattle.ja_lib.specs.Defaults.{rows_of}
use Rattle.ja_lib.specs.Means.{lib_row}
use Rattle.ja_lib.proofs.default.add_rows.Given as goal

abbrev pub invariant-loop-method : goal.invariant-loop-method
invariant-loop-method l =
    l.rows ≡ l.fn.rows ++ rows_of (map (λ text. text.now) l.classes) (lib_row l.means) (map (λ text. text.now) (take l.method-index l.methods))
