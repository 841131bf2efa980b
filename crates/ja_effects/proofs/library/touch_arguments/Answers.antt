use Rattle.std.proofs.Common.{◌+◌, arith}
use Rattle.ja_facts.specs.Sharing.{OfSlot}
use Rattle.ja_facts.specs.Slots.{argument}
use Rattle.ja_effects.proofs.Directing.{sources-more, stack-named}
use Rattle.ja_effects.proofs.library.touch_arguments.Goals as goal

pub loop-x-preserved : goal.loop-x-preserved
loop-x-preserved c =
    record {
      flags = c.touch.ensures.flags;
      gains = sources-more c.args.p.now c.args.s.now c.args.m c.args.i c.args.under c.args.effects.now c.loop-x.effects c.touch.new.effects c.loop-x.x c.loop-x.invariant.gains
          (c.touch.ensures.gains (OfSlot (argument c.args.under c.loop-x.x)) (stack-named c.args.method.now c.args.frame (c.args.under + c.loop-x.x) (c.args.frame.locals + c.args.under + c.loop-x.x) c.requires.frame (omega (arith, c.requires.room)) (omega arith)));
    }
