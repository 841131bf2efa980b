use Rattle.ja_base.specs.Index.{numbers_at}
use Rattle.ja_lib.proofs.Places.{row_noted}
use Rattle.ja_lib.proofs.index.places_by_class.Goals as goal

pub loop-place-preserved : goal.loop-place-preserved
loop-place-preserved c = λ class.
    row_noted c.args.rows.now c.loop-place.place c.index-rows-place.result c.as_slice.result.now (numbers_at c.loop-place.index class) (numbers_at c.note_row.new.index class) class
    c.loop-place-test.true c.index-rows-place.is c.as_slice.ensures (c.loop-place.invariant class) (c.in_ok-note_row.ensures class)
