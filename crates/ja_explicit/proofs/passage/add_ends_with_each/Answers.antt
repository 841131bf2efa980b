use Rattle.std.proofs.Common.{◌++◌, List, drop, sym, ap, ◌∙◌, ◌+◌, append_assoc}
use Rattle.ja_explicit.specs.declared.item.Item.{Item}
use Rattle.ja_explicit.specs.Tables.{items_of}
use Rattle.ja_explicit.specs.InnerSteps as steps
use Rattle.ja_explicit.specs.InnerRules.{standing, passage}
use Rattle.ja_explicit.proofs.Looping.{drop_one}
use Rattle.ja_explicit.proofs.passage.add_ends_with_each.Goals as goal

pub loop-k-preserved : goal.loop-k-preserved
loop-k-preserved c =
    let items = items_of c.args.table.now in
    let s = standing c.args.standing_at.now in
    let way = passage c.args.way.now in
    let rest = steps.ends_with_each s way (drop (c.loop-k.k + 1) items) in
    ap (λ (t : List Item). t ++ rest) c.in_ok-add_ends_with-in-Some.ensures ∙ append_assoc c.loop-k.out (steps.ends_with s way c.in-Some.item) rest
    ∙ ap (λ (t : List Item). c.loop-k.out ++ steps.ends_with_each s way t) (sym (drop_one items c.loop-k.k c.in-Some.item (sym c.at.ensures ∙ c.in-Some.is))) ∙ c.loop-k.invariant
