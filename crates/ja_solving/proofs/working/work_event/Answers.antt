use Rattle.std.proofs.Common.{◌≡◌, List, ◌++◌, subst, ap, ◌∙◌}
use Rattle.std.proofs.lemmas.Result.{on_ok_weaker}
use Rattle.ja_network.specs.Facts.{Extends}
use Rattle.ja_constraints.specs.declared.constraint.Constraint.{Constraint}
use Rattle.ja_constraints.specs.Events.{follows}
use Rattle.ja_solving.specs.Rules.{OneSays}
use Rattle.ja_solving.proofs.Solved.{worked-event}
use Rattle.ja_solving.proofs.working.work_event.Goals as goal

pub returns-clause-working : goal.returns-clause-working
returns-clause-working c =
    let p = c.args.p.now in
    let names = c.args.names.now in
    let event = c.args.event in
    let old = c.args.net.now in
    let told = c.tell_all.new.net in
    let all : c.as_slice.result.now ≡ follows p names event =
    c.as_slice.ensures ∙ c.in_ok-add_follows.ensures ∙ ap (λ (before : List Constraint). before ++ follows p names event) c.clear.ensures in
    on_ok_weaker c.settle_event.result
    (worked-event p names old told c.fire_at.new.net c.settle_event.new.self event c.requires.working c.requires.next
    (subst (λ (list : List Constraint). Extends old told (OneSays p list)) all c.in_ok-tell_all.ensures.extends) c.in_ok-fire_at.ensures.extends)
    c.settle_event.ensures.settles
