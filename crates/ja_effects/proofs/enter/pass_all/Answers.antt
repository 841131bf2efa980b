use Rattle.std.proofs.Common.{◌≡◌, ◌+◌, ◌<◌, Some, get_or, sym, ◌∙◌, arith}
use Rattle.std.specs.Prelude.{slice_get}
use Rattle.std.proofs.lemmas.Option.{slice_get-get_or}
use Rattle.ja_facts.specs.Sharing.{Arg, StaticFields, Statics, OfSlot}
use Rattle.ja_facts.specs.Slots.{argument}
use Rattle.ja_facts.specs.Told.{named_statics, effect_on_argument, effect_on_statics}
use Rattle.ja_effects.proofs.Directing.{stack-named}
use Rattle.ja_effects.proofs.Entering.{passes-start, passes-more, passes-all}
use Rattle.ja_effects.proofs.enter.pass_all.Goals as goal

pub loop-a-init : goal.loop-a-init
loop-a-init c =
    let there : slice_get c.args.p.now.methods c.args.n ≡ Some (get_or c.args.p.now.methods c.args.n c.args.method.now) = slice_get-get_or c.args.p.now.methods c.args.n c.args.method.now c.requires.callee in
    passes-start c.args.p.now c.args.g.now c.args.s.now c.args.m c.args.i c.args.n c.args.count c.args.under c.requires.enters c.args.effects.now c.pass-changed.new.effects c.pass-changed.result c.requires.flags c.requires.sound (record {
      flags = c.pass-changed.ensures.flags;
      gains = c.pass-changed.ensures.gains (get_or c.args.p.now.methods c.args.n c.args.method.now) StaticFields Statics there
          (effect_on_statics (c.frame_of-params.ensures.frame (get_or c.args.p.now.methods c.args.n c.args.method.now) there).params) (named_statics (omega (arith, c.statics-statics.ensures, c.requires.frame.locals, c.requires.frame.stack)));
      idle = c.pass-changed.ensures.idle;
      falls = c.pass-changed.ensures.falls;
    })

pub loop-a-preserved : goal.loop-a-preserved
loop-a-preserved c =
    let there : slice_get c.args.p.now.methods c.args.n ≡ Some (get_or c.args.p.now.methods c.args.n c.args.method.now) = slice_get-get_or c.args.p.now.methods c.args.n c.args.method.now c.requires.callee in
    let t = c.pass-changed-in-loop-a in
    let lt : c.loop-a.a < c.args.count = omega arith in
    passes-more c.args.p.now c.args.g.now c.args.s.now c.args.m c.args.i c.args.n c.args.count c.args.under c.requires.enters c.loop-a.changed c.pass-changed-in-loop-a.result c.loop-a.a c.args.effects.now c.loop-a.effects c.pass-changed-in-loop-a.new.effects lt c.loop-a.invariant (record {
      flags = t.ensures.flags;
      gains = t.ensures.gains (get_or c.args.p.now.methods c.args.n c.args.method.now) (Arg c.loop-a.a) (OfSlot (argument c.args.under c.loop-a.a)) there
          (effect_on_argument (omega (arith, c.requires.params (get_or c.args.p.now.methods c.args.n c.args.method.now) there)))
          (stack-named c.args.method.now c.args.frame (c.args.under + c.loop-a.a) (c.args.frame.locals + c.args.under + c.loop-a.a) c.requires.frame (omega (arith, c.requires.room)) (omega arith));
      idle = t.ensures.idle;
      falls = t.ensures.falls;
    })

pub returns-clause-closed : goal.returns-clause-closed
returns-clause-closed c =
    passes-all c.args.p.now c.args.g.now c.args.s.now c.args.m c.args.i c.args.n c.args.count c.args.under c.requires.enters c.loop-a.a c.args.effects.now c.loop-a.effects c.loop-a.changed (omega arith) c.loop-a.invariant
