use Rattle.std.proofs.Common.{◌≡◌, ℕ, ◌<◌, List, length, get_or, sym, ap, ◌∙◌, subst, arith}
use Rattle.std.specs.Prelude.{Option, None}
use Rattle.ja_supertypes.specs.Supertypes.{superclass_of}
use Rattle.ja_supertypes.proofs.Climbs.{gathers-begin, gathers-inside, gathers-on, gathers-end}
use Rattle.ja_supertypes.proofs.Places.{superclass-at, length-superclasses}
use Rattle.ja_supertypes.proofs.Ranks.{height_of, height-falls}
use Rattle.ja_supertypes.proofs.superclasses.superclass_set.Goals as goal

pub loop-at-init : goal.loop-at-init
loop-at-init c =
    gathers-begin c.args.heads.now c.args.class (get_or c.args.superclasses.now c.args.class None) c.in_ok-set.set
    (ap (λ (ps : List (Option ℕ)). get_or ps c.args.class None) c.requires.superclasses ∙ superclass-at c.args.heads.now c.args.class None c.requires.inside) c.in_ok-set.ensures

pub add-requires : goal.add-requires
add-requires c =
    omega (arith, gathers-inside c.args.heads.now c.args.class c.loop-at.at c.loop-at.set c.in-Some.superclass c.in-Some.is c.loop-at.invariant, c.loop-at.invariant.width)

pub bounds-superclasses-superclass : goal.bounds-superclasses-superclass
bounds-superclasses-superclass c =
    omega (
      arith,
      gathers-inside c.args.heads.now c.args.class c.loop-at.at c.loop-at.set c.in-Some.superclass c.in-Some.is c.loop-at.invariant,
      ap (λ (ps : List (Option ℕ)). length ps) c.requires.superclasses,
      length-superclasses c.args.heads.now,
    )

pub loop-at-smaller : goal.loop-at-smaller
loop-at-smaller c =
    let inside : c.in-Some.superclass < length c.args.heads.now = gathers-inside c.args.heads.now c.args.class c.loop-at.at c.loop-at.set c.in-Some.superclass c.in-Some.is c.loop-at.invariant in
    let up : get_or c.args.superclasses.now c.in-Some.superclass None ≡ superclass_of c.args.heads.now c.in-Some.superclass =
    ap (λ (ps : List (Option ℕ)). get_or ps c.in-Some.superclass None) c.requires.superclasses ∙ superclass-at c.args.heads.now c.in-Some.superclass None inside in
    subst (λ (o : Option ℕ). height_of c.args.heads.now (get_or c.args.superclasses.now c.in-Some.superclass None) < height_of c.args.heads.now o) (sym c.in-Some.is)
    (height-falls c.args.heads.now c.requires.acyclic c.in-Some.superclass (get_or c.args.superclasses.now c.in-Some.superclass None) up)

pub loop-at-preserved : goal.loop-at-preserved
loop-at-preserved c =
    let inside : c.in-Some.superclass < length c.args.heads.now = gathers-inside c.args.heads.now c.args.class c.loop-at.at c.loop-at.set c.in-Some.superclass c.in-Some.is c.loop-at.invariant in
    gathers-on c.args.heads.now c.args.class c.loop-at.at (get_or c.args.superclasses.now c.in-Some.superclass None) c.loop-at.set c.add.new.self c.in-Some.superclass c.in-Some.is
    (ap (λ (ps : List (Option ℕ)). get_or ps c.in-Some.superclass None) c.requires.superclasses ∙ superclass-at c.args.heads.now c.in-Some.superclass None inside) c.add.ensures.set c.loop-at.invariant

pub returns : goal.returns
returns c = gathers-end c.args.heads.now c.args.class c.loop-at.at c.loop-at.set c.in_default.is c.loop-at.invariant
