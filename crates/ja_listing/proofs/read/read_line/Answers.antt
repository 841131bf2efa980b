use Rattle.std.proofs.Common.{◌∷◌, refl, subst}
use Rattle.ja_listing.specs.declared.item.Line.{Line}
use Rattle.ja_listing.specs.InnerScope.{IsScope}
use Rattle.ja_listing.proofs.Kept.{class_kept}
use Rattle.ja_listing.proofs.read.read_line.Goals as goal

pub returns-in_ok-begin-in-Class-clause-kept : goal.returns-in_ok-begin-in-Class-clause-kept
returns-in_ok-begin-in-Class-clause-kept c =
    λ earlier k n.
    let scope = subst (λ (line : Line). IsScope (line ∷ earlier) c.enter.new.self) c.in-Class.is (c.in_ok-enter.ensures earlier k.scope_is) in
    rw c.in-Class.is (refl, class_kept earlier c.args.draft.now c.begin.new.self c.args.scope.now c.enter.new.self c.args.number c.in-Class.head c.new.result k n c.new.ensures c.in_ok-begin-in-Class.ensures scope)
