use Rattle.std.proofs.Common.{◌≡◌, ◌<◌, ◌+◌, ◌≤◌, List, Bool, [], sym, ap, refl, subst, ◌∙◌, arith, length}
use Rattle.std.proofs.lemmas.Option.{get_or_from_slice_get}
use Rattle.ja_facts.specs.ClassTables.{token_count}
use Rattle.ja_sets.specs.Sets.{Has, union}
use Rattle.ja_holds.specs.Inner.{row, lacking}
use Rattle.ja_holds.specs.Searches.{IsDone}
use Rattle.ja_holds.proofs.Basics.{Has-within, lacking-joined}
use Rattle.ja_holds.proofs.Searching.{recalled, same-search, done-itself, same-done}
use Rattle.ja_holds.proofs.search.recall.Goals as goal

pub returns-clause-search : goal.returns-clause-search
returns-clause-search c =
    let inside : c.args.token < token_count c.args.p.now = omega (arith, Has-within c.args.search.now.span c.args.token c.requires.found, c.requires.search.span_size) in
    let span : row c.args.found.now.spans c.args.token ≡ c.at-span.result.now = get_or_from_slice_get c.args.found.now.spans c.args.token c.at-span.result.now [] c.at-span.ensures in
    let held : row c.args.found.now.holds.tokens c.args.token ≡ c.of_token.result.now = get_or_from_slice_get c.args.found.now.holds.tokens c.args.token c.of_token.result.now [] c.of_token.ensures in
    let done : IsDone c.args.p.now c.args.c.now c.args.token c.at-span.result.now c.of_token.result.now =
    same-done c.args.p.now c.args.c.now c.args.token c.args.token c.at-span.result.now c.of_token.result.now (row c.args.found.now.spans c.args.token) (row c.args.found.now.holds.tokens c.args.token) refl (sym span) (sym held)
    (c.requires.done.each c.args.token (omega (arith, c.requires.later)) inside) in
    same-search c.args.p.now c.args.c.now c.args.search.now.start _ _ _ _ _ _ c.join.ensures.joined c.join-2.ensures.joined c.join-3.ensures.joined
    (recalled c.args.p.now c.args.c.now c.args.search.now c.args.token c.at-span.result.now c.of_token.result.now c.requires.search c.requires.found
    (ap length (sym span) ∙ c.requires.done.span_sets.each c.args.token inside) (ap length (sym held) ∙ c.requires.done.held_sets.each c.args.token inside) done)

pub returns-clause-falls : goal.returns-clause-falls
returns-clause-falls c =
    let inside : c.args.token < token_count c.args.p.now = omega (arith, Has-within c.args.search.now.span c.args.token c.requires.found, c.requires.search.span_size) in
    let span : row c.args.found.now.spans c.args.token ≡ c.at-span.result.now = get_or_from_slice_get c.args.found.now.spans c.args.token c.at-span.result.now [] c.at-span.ensures in
    let itself : Has (row c.args.found.now.spans c.args.token) c.args.token =
    done-itself c.args.p.now c.args.c.now c.args.token (row c.args.found.now.spans c.args.token) (row c.args.found.now.holds.tokens c.args.token) (c.requires.done.each c.args.token (omega (arith, c.requires.later)) inside) inside in
    subst (λ (s : List Bool). lacking s < lacking c.args.search.now.handled) (sym c.join-2.ensures.joined)
    (lacking-joined c.args.search.now.handled c.at-span.result.now c.args.token c.requires.new (subst (λ (s : List Bool). Has s c.args.token) span itself) (omega (arith, c.requires.search.handled_size)))
