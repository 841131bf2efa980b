use Rattle.std.proofs.Common.{◌≡◌, ℕ, List, get_or, sym, ap, ◌∙◌}
use Rattle.std.specs.Prelude.{Option, Some, None}
use Rattle.ja_supertypes.specs.Supertypes.{superclass_of}
use Rattle.ja_supertypes.proofs.Climbs.{stands-on, stands-end}
use Rattle.ja_supertypes.proofs.Falls.{superclass-direct}
use Rattle.ja_supertypes.proofs.Places.{superclass-at}
use Rattle.ja_supertypes.proofs.Ranks.{rank-falls}
use Rattle.ja_supertypes.proofs.superclasses.top_of.Goals as goal

pub loop-top-smaller : goal.loop-top-smaller
loop-top-smaller c =
    let up : superclass_of c.args.heads.now c.loop-top.top ≡ Some c.in-Some.superclass =
    sym (ap (λ (ps : List (Option ℕ)). get_or ps c.loop-top.top None) c.requires.superclasses ∙ superclass-at c.args.heads.now c.loop-top.top None c.loop-top.invariant.inside) ∙ c.in-Some.is in
    rank-falls c.args.heads.now c.requires.acyclic c.loop-top.top c.in-Some.superclass (superclass-direct c.args.heads.now c.loop-top.top c.in-Some.superclass up)

pub loop-top-preserved : goal.loop-top-preserved
loop-top-preserved c =
    stands-on c.args.heads.now c.args.class c.loop-top.top c.in-Some.superclass
    (sym (ap (λ (ps : List (Option ℕ)). get_or ps c.loop-top.top None) c.requires.superclasses ∙ superclass-at c.args.heads.now c.loop-top.top None c.loop-top.invariant.inside) ∙ c.in-Some.is)
    c.loop-top.invariant

pub returns : goal.returns
returns c =
    stands-end c.args.heads.now c.args.class c.loop-top.top
    (sym (ap (λ (ps : List (Option ℕ)). get_or ps c.loop-top.top None) c.requires.superclasses ∙ superclass-at c.args.heads.now c.loop-top.top None c.loop-top.invariant.inside) ∙ c.in_default.is)
    c.loop-top.invariant
