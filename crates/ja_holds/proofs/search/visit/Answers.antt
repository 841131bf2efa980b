use Rattle.std.proofs.Common.{◌<◌, List, Bool, sym, refl, subst, arith, length}
use Rattle.ja_holds.specs.Inner.{lacking}
use Rattle.ja_holds.proofs.Basics.{Has-within, lacking-set}
use Rattle.ja_holds.proofs.Searching.{visited, same-search}
use Rattle.ja_holds.proofs.search.visit.Goals as goal

pub returns-clause-search : goal.returns-clause-search
returns-clause-search c =
    same-search c.args.p.now c.args.c.now c.args.search.now.start _ _ _ _ _ _ refl c.add.ensures.set refl
    (visited c.args.p.now c.args.c.now c.args.search.now c.args.token c.follow.new.span c.own.new.held c.requires.search c.requires.found c.follow.ensures.size c.follow.ensures.has c.own.ensures.size c.own.ensures.has)

pub returns-clause-falls : goal.returns-clause-falls
returns-clause-falls c =
    let inside : c.args.token < length c.args.search.now.handled = omega (arith, Has-within c.args.search.now.span c.args.token c.requires.found, c.requires.search.span_size, c.requires.search.handled_size) in
    subst (λ (s : List Bool). lacking s < lacking c.args.search.now.handled) (sym c.add.ensures.set) (lacking-set c.args.search.now.handled c.args.token c.requires.new inside)
