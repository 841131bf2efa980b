use Rattle.std.proofs.Common.{length, refl}
use Rattle.std.proofs.lemmas.Option.{slice_get_read}
use Rattle.ja_join.proofs.memo.Memo.find.Goals as goal

pub returns-then-answers : goal.returns-then-answers
returns-then-answers c =
    let es = c.args.self.now.entries.items in
    let is = c.answers.ensures c.if-answers.true in
    (c.place-place.result, c.index.result.now, slice_get_read es (length es) c.place-place.result c.index.result.now refl c.place-place.ensures c.index.ensures, is.0, is.1, is.2, is.3, is.4, refl)
