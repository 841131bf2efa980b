use Rattle.std.proofs.Common.{◌≡◌, ap, ◌∙◌}
use Rattle.ja_lib.specs.InnerIndex.{places_from, first_at}
use Rattle.ja_lib.proofs.Places.{row_by_places}
use Rattle.ja_lib.proofs.table.Table.row_of.Goals as goal

pub returns : goal.returns
returns c =
    let rows = c.self.inside.rows in
    let places : c.at.result.now ≡ places_from 0 rows c.args.class.now = c.at.ensures ∙ c.self.invariant.0 c.args.class.now in
    let said = c.first_row.ensures ∙ ap (first_at rows c.args.method.now c.args.desc.now) places ∙ row_by_places rows c.args.class.now c.args.method.now c.args.desc.now in
    rw (← c.self.view_is) said
