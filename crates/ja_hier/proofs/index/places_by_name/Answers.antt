use Rattle.std.proofs.Common.{◌≡◌, List, ℕ, ap, ◌∙◌, arith}
use Rattle.std.proofs.lemmas.List.{take_all}
use Rattle.ja_base.specs.Index.{numbers_at}
use Rattle.ja_hier.specs.InnerIndex.{member_names, places_from}
use Rattle.ja_hier.proofs.Indexed.{member-count}
use Rattle.ja_hier.proofs.ByPlace.{place-noted}
use Rattle.ja_hier.proofs.index.places_by_name.Goals as goal

pub loop-place-preserved : goal.loop-place-preserved
loop-place-preserved c = λ name.
    place-noted (member_names c.args.member c.args.head.now) c.loop-place.place c.name_of.result.now (numbers_at c.loop-place.index name) (numbers_at c.note.new.self name) name
    c.name_of.ensures (c.loop-place.invariant name) (c.in_ok-note.ensures name)

pub returns : goal.returns
returns c = λ name.
    c.loop-place.invariant name ∙ ap (λ (names : List (List ℕ)). places_from 0 names name)
    (take_all c.loop-place.place (member_names c.args.member c.args.head.now) (omega (arith, member-count c.args.member c.args.head.now, c.count_of-place-end.ensures)))

pub loop-place-init : goal.loop-place-init
loop-place-init c = c.new-index.ensures
