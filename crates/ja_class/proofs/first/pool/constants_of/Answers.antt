use Rattle.std.proofs.Common.{◌≡◌, ◌++◌, ◌∷◌, []}
use Rattle.std.proofs.lemmas.Result.{err_from_is_err_and}
use Rattle.std.proofs.lemmas.List.{map_push}
use Rattle.ja_class.specs.InnerViews.{entries, entry_view}
use Rattle.ja_class.specs.InnerReading.{entries_from}
use Rattle.ja_class.proofs.EntryLoop.{more, refused, all}
use Rattle.ja_class.proofs.first.pool.constants_of.Goals as goal

pub returns-in_err-constant : goal.returns-in_err-constant
returns-in_err-constant c =
    let p = err_from_is_err_and c.from_residual.result c.from_residual.ensures.1 in
    rw (p.1, p.2) (refused c.in_err-constant.field-0.0 (entries c.loop.constants.items) c.args.count c.loop.counter c.loop.rest.now (entries_from c.args.count c.args.bytes.now) c.loop-test.true c.in_err-constant.ensures c.loop.invariant)

pub loop-preserved : goal.loop-preserved
loop-preserved c =
    let e = c.in_ok-constant.constant in
    let pushed : entries c.push.new.self.items ≡ entries c.loop.constants.items ++ entry_view e ∷ [] = rw c.in_ok-push.ensures.items (map_push _ c.loop.constants.items e) in
    rw pushed (more (entries c.loop.constants.items) c.args.count c.loop.counter c.loop.rest.now (entry_view e) c.in_ok-constant.after.now (entries_from c.args.count c.args.bytes.now) c.loop-test.true c.in_ok-constant.ensures c.loop.invariant)

pub returns : goal.returns
returns c = all (entries c.loop.constants.items) c.args.count c.loop.counter c.loop.rest.now (entries_from c.args.count c.args.bytes.now) c.loop-test.false c.loop.invariant
