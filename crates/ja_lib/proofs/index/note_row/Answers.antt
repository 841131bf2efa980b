use Rattle.ja_base.specs.Index.{numbers_at}
use Rattle.ja_lib.proofs.Places.{class_noted}
use Rattle.ja_lib.proofs.index.note_row.Goals as goal

pub loop-listed-preserved : goal.loop-listed-preserved
loop-listed-preserved c = λ class.
    class_noted c.args.place c.args.classes.now c.loop-listed.listed-index c.listed-item.result (numbers_at c.args.index.now class) (numbers_at c.loop-listed.index class) (numbers_at c.note.new.self class) class
    c.loop-listed-test.true c.listed-item.is (c.loop-listed.invariant class) (c.in_ok-note.ensures class)
