use Rattle.toml.specs.View.{table_view}
use Rattle.ja_lib.proofs.Reading.{wrong_at, spelled_at}
use Rattle.ja_lib.proofs.spelled.read_all.Goals as goal

pub returns-in-Err-Wrong : goal.returns-in-Err-Wrong
returns-in-Err-Wrong g c = λ tables are.
    let (done, size, spelled, reads) = c.loop-place.invariant tables are in
    let none = rw c.in-Err-Wrong.field-0-is at c.in-Err-Wrong.ensures in
    wrong_at (g.T.Spelled.spells c.args.categories.now) c.args.values.now tables done c.loop-place.things c.loop-place.place c.index-values-place.result (table_view c.in-Some.members.now)
    c.loop-place-test.true c.index-values-place.is c.in-Some.ensures none size spelled reads

pub loop-place-preserved : goal.loop-place-preserved
loop-place-preserved g c = λ tables are.
    let (done, size, spelled, reads) = c.loop-place.invariant tables are in
    rw c.in_ok-push-in-Ok.ensures.ok (spelled_at (g.T.Spelled.spells c.args.categories.now) c.args.values.now tables done c.loop-place.things c.loop-place.place c.index-values-place.result
    (table_view c.in-Some.members.now) c.in-Ok.thing c.loop-place-test.true c.index-values-place.is c.in-Some.ensures c.in-Ok.ensures size spelled reads)
