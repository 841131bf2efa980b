use Rattle.std.proofs.Common.{◌≡◌, ◌+◌, List, Some, take, sym, subst, ◌∙◌}
use Rattle.std.specs.Prelude.{Contains, slice_get}
use Rattle.ja_sets.specs.Sets.{Has}
use Rattle.ja_network.specs.declared.cell.Action.{Action}
use Rattle.ja_network.specs.Facts.{state_of}
use Rattle.ja_solving.specs.InnerWorking.{FiresAll, FiresEach}
use Rattle.ja_solving.proofs.More.{extends-more, each-next}
use Rattle.ja_solving.proofs.firing.fire_links.Goals as goal

pub loop-k-preserved : goal.loop-k-preserved
loop-k-preserved c =
    let kept = c.loop-k.invariant in
    let fired = c.in_ok-fire_all-in-Some.ensures in
    let p = c.args.p.now in
    let names = c.args.names.now in
    let S = Has c.args.set.now in
    let a = c.in-Some.action in
    let k = c.loop-k.k in
    let links = (state_of c.args.net.now c.args.cell).links in
    let at : slice_get links k ≡ Some a = subst (λ (xs : List Action). slice_get xs k ≡ Some a) (kept.extends.links c.args.cell) (sym c.in-Some.ensures) in
    record {
      network = fired.network;
      size = fired.extends.same_tokens ∙ kept.size;
      extends = extends-more c.args.net.now c.loop-k.net c.fire_all.new.net (FiresEach p names S (Contains (take k links))) (FiresAll p names S a)
          (FiresEach p names S (Contains (take (k + 1) links))) kept.extends fired.extends (each-next p names S links k a at);
    }
