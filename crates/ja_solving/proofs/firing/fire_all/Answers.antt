use Rattle.std.proofs.Common.{sym, subst}
use Rattle.std.proofs.lemmas.Result.{on_ok_weaker}
use Rattle.ja_sets.specs.Sets.{Has}
use Rattle.ja_network.specs.declared.cell.Action.{Action}
use Rattle.ja_network.specs.declared.cell.Action.TheVariants.{Copy}
use Rattle.ja_network.specs.Facts.{Extends, IsIn}
use Rattle.ja_solving.specs.InnerWorking.{FiresAll}
use Rattle.ja_solving.proofs.More.{extends-same, copies-all}
use Rattle.ja_solving.proofs.firing.fire_all.Goals as goal

pub returns-in-Copy-clause-extends : goal.returns-in-Copy-clause-extends
returns-in-Copy-clause-extends c =
    let old = c.args.net.now in
    let new = c.add_all.new.self in
    let p = c.args.p.now in
    let names = c.args.names.now in
    let set = c.args.set.now in
    let to = c.in-Copy.to in
    on_ok_weaker c.add_all.result
    (λ x. subst (λ (a : Action). Extends old new (FiresAll p names (Has set) a)) (sym c.in-Copy.is)
    (extends-same old new (IsIn to (Has set)) (FiresAll p names (Has set) (Copy to)) x (copies-all p names set to c.requires.set)))
    c.add_all.ensures.extends
