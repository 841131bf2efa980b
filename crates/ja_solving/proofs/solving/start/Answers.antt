use Rattle.std.proofs.Common.{◌≡◌, List, ◌++◌, subst, ap, ◌∙◌}
use Rattle.std.proofs.lemmas.Result.{on_ok_weaker}
use Rattle.ja_network.specs.Facts.{Extends}
use Rattle.ja_constraints.specs.declared.constraint.Constraint.{Constraint}
use Rattle.ja_constraints.specs.Starts.{starts}
use Rattle.ja_solving.specs.Rules.{OneSays}
use Rattle.ja_solving.proofs.Solved.{begun}
use Rattle.ja_solving.proofs.solving.start.Goals as goal

pub returns-clause-working : goal.returns-clause-working
returns-clause-working c =
    let old = c.args.net.now in
    let new = c.tell_all.new.net in
    let told : c.as_slice.result.now ≡ starts c.args.p.now =
    c.as_slice.ensures ∙ c.in_ok-add_starts.ensures ∙ ap (λ (before : List Constraint). before ++ starts c.args.p.now) c.requires.none in
    on_ok_weaker c.tell_all.result
    (λ x. begun c.args.p.now c.args.names.now old new c.requires.empty
    (subst (λ (all : List Constraint). Extends old new (OneSays c.args.p.now all)) told x))
    c.tell_all.ensures.extends
