use Rattle.std.proofs.Common.{◌≡◌, ◌<◌, List, Bool, [], length, get_or, sym, ap, subst, ◌∙◌, arith}
use Rattle.std.proofs.lemmas.Option.{get_or_from_slice_get}
use Rattle.ja_sets.specs.Sets.{HasPair}
use Rattle.ja_names.specs.Frames.{old_of}
use Rattle.ja_effects.proofs.Marking.{old-inside, touched-none, touched-one, not-told}
use Rattle.ja_effects.proofs.marks.touch_root.Goals as goal

pub contains-requires-clause-first : goal.contains-requires-clause-first
contains-requires-clause-first c =
    let row : get_or (get_or c.args.s.now c.args.m []) c.args.i [] ≡ c.at.result.now = get_or_from_slice_get (get_or c.args.s.now c.args.m []) c.args.i c.at.result.now [] c.at.ensures in
    omega (arith, c.requires.sets.each c.args.m c.args.i c.args.method.now c.requires.found c.requires.inside, ap length row)

pub contains-requires-clause-second : goal.contains-requires-clause-second
contains-requires-clause-second c =
    let row : get_or (get_or c.args.s.now c.args.m []) c.args.i [] ≡ c.at.result.now = get_or_from_slice_get (get_or c.args.s.now c.args.m []) c.args.i c.at.result.now [] c.at.ensures in
    omega (arith, old-inside c.args.p.now c.args.s.now c.args.m c.args.i c.args.x c.args.k c.args.method.now c.args.frame c.requires.found c.requires.frame c.requires.sets c.requires.inside c.requires.root, ap length row, c.old.ensures)

pub returns-then-not-contains-clause-gains : goal.returns-then-not-contains-clause-gains
returns-then-not-contains-clause-gains c = λ a r name number.
    let row : get_or (get_or c.args.s.now c.args.m []) c.args.i [] ≡ c.at.result.now = get_or_from_slice_get (get_or c.args.s.now c.args.m []) c.args.i c.at.result.now [] c.at.ensures in
    touched-none c.args.p.now c.args.s.now c.args.m c.args.i c.args.x c.args.k c.args.method.now c.args.frame c.requires.found c.requires.frame c.args.effects.now a r name number
    (λ has. not-told c.contains.result (HasPair c.at.result.now c.args.x c.old.result) c.contains.ensures c.if-not-contains.true
    (subst (λ y. HasPair c.at.result.now c.args.x y) (sym c.old.ensures) (subst (λ (t : List (List Bool)). HasPair t c.args.x (old_of c.args.frame c.args.k)) row has)))

pub returns-clause-gains : goal.returns-clause-gains
returns-clause-gains c = λ a r name number.
    let row : get_or (get_or c.args.s.now c.args.m []) c.args.i [] ≡ c.at.result.now = get_or_from_slice_get (get_or c.args.s.now c.args.m []) c.args.i c.at.result.now [] c.at.ensures in
    touched-one c.args.p.now c.args.s.now c.args.m c.args.i c.args.x c.args.k c.args.method.now c.args.frame c.requires.found c.requires.frame c.args.effects.now c.mark.new.effects a r name number
    (subst (λ (t : List (List Bool)). HasPair t c.args.x (old_of c.args.frame c.args.k)) (sym row) (subst (λ y. HasPair c.at.result.now c.args.x y) c.old.ensures (c.contains.ensures.0 c.if-not-contains.false)))
    (c.mark.ensures.gains r number)
