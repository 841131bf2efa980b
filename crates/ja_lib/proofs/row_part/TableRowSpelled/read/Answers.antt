use Rattle.std.proofs.lemmas.Result.{err_from_is_err_and}
use Rattle.toml.specs.View.{table_view}
use Rattle.ja_lib.specs.File.{MayBeDesc, SpellsRow}
use Rattle.ja_lib.specs.InnerReading.{seen_of}
use Rattle.ja_lib.proofs.Reading.{finds_without}
use Rattle.ja_lib.proofs.row_part.TableRowSpelled.read.Goals as goal

pub returns-in_err-desc : goal.returns-in_err-desc
returns-in_err-desc c =
    let p = err_from_is_err_and c.from_residual-in_err-desc.result c.from_residual-in_err-desc.ensures.1 in
    rw (p.1, p.2) (finds_without (MayBeDesc (seen_of c.value_at-3.result)) (SpellsRow c.args.categories.now (table_view c.args.members.now))
    (λ spelled is. (spelled.desc, rw c.value_at-3.ensures is.desc)) c.in_err-desc.field-0.0 c.in_err-desc.ensures)
