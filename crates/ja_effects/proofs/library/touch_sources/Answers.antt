use Rattle.std.proofs.Common.{◌≡◌, arith}
use Rattle.ja_effects.specs.Inner.{ReachesSource, IsSourced}
use Rattle.ja_effects.proofs.Marking.{gains-same}
use Rattle.ja_effects.proofs.library.touch_sources.Goals as goal

pub touch_arguments-requires-clause-room : goal.touch_arguments-requires-clause-room
touch_arguments-requires-clause-room c = omega (arith, c.source_count-count.ensures.few, c.requires.room)

pub returns-clause-gains : goal.returns-clause-gains
returns-clause-gains c =
    gains-same c.args.p.now c.args.effects.now c.touch_arguments.new.effects (λ n r. (n ≡ c.args.m) × ReachesSource c.args.p.now c.args.s.now c.args.m c.args.i c.args.under c.source_count-count.result r)
    (λ n r. (n ≡ c.args.m) × IsSourced c.args.p.now c.args.s.now c.args.m c.args.i c.args.under c.args.call.now r) c.touch_arguments.ensures.gains
    (λ n s. (
      λ q. (q.0, record { x = q.1.x; source = (c.source_count-count.ensures.sources q.1.x).0 q.1.below; pair = q.1.pair }),
      λ q. (q.0, record { x = q.1.x; below = (c.source_count-count.ensures.sources q.1.x).1 q.1.source; pair = q.1.pair }),
    ))
