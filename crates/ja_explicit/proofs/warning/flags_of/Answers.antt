use Rattle.std.proofs.Common.{◌∷◌, [], ◌++◌, Bool, ap, ◌∙◌}
use Rattle.ja_explicit.specs.Tables.{items_of}
use Rattle.ja_explicit.specs.InnerRounds as rounds
use Rattle.ja_explicit.proofs.Looping.{map_more}
use Rattle.ja_explicit.proofs.warning.flags_of.Goals as goal

pub loop-site-preserved : goal.loop-site-preserved
loop-site-preserved c =
    let test = rounds.is_warned c.args.p.now (items_of c.args.table.now) in
    map_more test c.as_slice-site-items.result.now c.loop-site.site-index c.site-item.result c.loop-site.flags c.push.new.self _ c.loop-site-test.true
    (c.in_ok-push.ensures.ok ∙ ap (λ (x : Bool). c.loop-site.flags ++ x ∷ []) (c.is_warned.ensures ∙ ap test c.site-item.is)) c.loop-site.invariant
