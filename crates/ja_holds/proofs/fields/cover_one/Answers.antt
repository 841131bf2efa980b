use Rattle.std.proofs.Common.{◌≡◌, List, Bool, [], refl, sym, ap, ◌∙◌, subst, length, arith}
use Rattle.std.proofs.lemmas.Option.{get_or_from_slice_get}
use Rattle.ja_holds.specs.Covers.{IsCover}
use Rattle.ja_holds.specs.Inner.{row}
use Rattle.ja_holds.specs.Searches.{IsDone}
use Rattle.ja_holds.proofs.Covering.{covered-more, same-cover}
use Rattle.ja_holds.proofs.Searching.{same-done}
use Rattle.ja_holds.proofs.fields.cover_one.Goals as goal

pub returns-then-not-contains : goal.returns-then-not-contains
returns-then-not-contains c =
    let span : row c.args.found.now.spans c.args.token ≡ c.at.result.now = get_or_from_slice_get c.args.found.now.spans c.args.token c.at.result.now [] c.at.ensures in
    let held : row c.args.found.now.holds.tokens c.args.token ≡ c.of_token.result.now = get_or_from_slice_get c.args.found.now.holds.tokens c.args.token c.of_token.result.now [] c.of_token.ensures in
    let done : IsDone c.args.p.now c.args.c.now c.args.token c.at.result.now c.of_token.result.now =
    same-done c.args.p.now c.args.c.now c.args.token c.args.token c.at.result.now c.of_token.result.now (row c.args.found.now.spans c.args.token) (row c.args.found.now.holds.tokens c.args.token) refl (sym span) (sym held)
    (c.requires.done.each c.args.token (omega arith) c.requires.inside) in
    same-cover c.args.p.now c.args.c.now c.args.set.now _ _ _ _ _ c.join.ensures.joined c.join-then-not-contains.ensures.joined
    (covered-more c.args.p.now c.args.c.now c.args.set.now c.args.token c.args.cover.now c.at.result.now c.of_token.result.now c.requires.cover c.requires.member c.requires.inside
    (ap length (sym span) ∙ c.requires.done.span_sets.each c.args.token c.requires.inside) (ap length (sym held) ∙ c.requires.done.held_sets.each c.args.token c.requires.inside) done)
