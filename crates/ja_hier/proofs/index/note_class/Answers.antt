use Rattle.std.proofs.Common.{List, ℕ, subst, arith}
use Rattle.std.proofs.lemmas.List.{take_all}
use Rattle.ja_hier.specs.InnerIndex.{member_names, IsNoted}
use Rattle.ja_hier.proofs.Indexed.{member-count, noted-none, noted-more}
use Rattle.ja_hier.proofs.index.note_class.Goals as goal

pub loop-place-preserved : goal.loop-place-preserved
loop-place-preserved c =
    noted-more c.args.class (member_names c.args.member c.args.head.now) c.loop-place.place c.name_of.result.now c.args.index.now c.loop-place.index c.note_once.new.index
    c.name_of.ensures c.loop-place.invariant c.in_ok-note_once.ensures

pub returns : goal.returns
returns c =
    subst (λ (names : List (List ℕ)). IsNoted c.args.class names c.args.index.now c.loop-place.index)
    (take_all c.loop-place.place (member_names c.args.member c.args.head.now) (omega (arith, member-count c.args.member c.args.head.now, c.count_of-place-end.ensures))) c.loop-place.invariant

pub loop-place-init : goal.loop-place-init
loop-place-init c = noted-none c.args.class c.args.index.now
