use Rattle.std.proofs.Common.{◌≤◌, arith}
use Rattle.ja_names.proofs.Numbers.{root-of}
use Rattle.ja_effects.proofs.Marking.{touched-more, touched-all, both-idle, both-steady, both-fall}
use Rattle.ja_effects.proofs.marks.touch.Goals as goal

pub loop-k-preserved : goal.loop-k-preserved
loop-k-preserved c =
    let l = c.loop-k in
    let t = c.touch_root-changed in
    let root = root-of c.args.method.now c.loop-k.k (omega (arith, c.requires.frame.params)) in
    record {
      flags = t.ensures.flags;
      gains = λ a name. touched-more c.args.p.now c.args.s.now c.args.m c.args.i c.args.method.now a c.args.effects.now l.effects t.new.effects l.k root.0 (l.invariant.gains a name) root.1 (t.ensures.gains a root.0 name root.1);
      idle = both-idle l.changed t.result c.args.effects.now l.effects t.new.effects l.invariant.idle t.ensures.idle;
      steady = both-steady t.result c.args.effects.now l.effects t.new.effects l.invariant.steady t.ensures.idle t.ensures.falls;
      falls = both-fall l.changed t.result c.args.effects.now l.effects t.new.effects l.invariant.steady l.invariant.falls t.ensures.idle t.ensures.falls;
    }

pub returns-clause-gains : goal.returns-clause-gains
returns-clause-gains c = λ a name.
    touched-all c.args.p.now c.args.s.now c.args.m c.args.i c.args.method.now a c.args.effects.now c.loop-k.effects c.loop-k.k (omega (arith, c.requires.frame.params)) c.requires.found (c.loop-k.invariant.gains a name)
