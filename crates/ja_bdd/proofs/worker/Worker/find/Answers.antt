use Rattle.std.proofs.Common.{◌<◌, length, refl, arith}
use Rattle.std.proofs.lemmas.Option.{slice_get_read}
use Rattle.ja_bdd.proofs.worker.Worker.find.Goals as goal

pub returns-then-is_one : goal.returns-then-is_one
returns-then-is_one g c =
    let w = c.args.self.now in
    let lt : c.place.result < length w.cache.items = (let long = c.len.ensures in let less = c.place.ensures.within in omega arith) in
    (c.place.result, c.index-entry.result.now, slice_get_read w.cache.items (length w.cache.items) c.place.result c.index-entry.result.now refl lt c.index-entry.ensures, c.is_one.ensures c.if-is_one.true, refl)
