use Rattle.std.proofs.Common.{sym, ◌∙◌, arith}
use Rattle.ja_explicit.specs.Tables.{items_of}
use Rattle.ja_explicit.proofs.Rounds.{both_false, listed_at, idle_more, settled_more, closed_after}
use Rattle.ja_explicit.proofs.solve.round.Goals as goal

pub loop-k-init : goal.loop-k-init
loop-k-init c = record {
  sound = c.in_ok-new.ensures.sound;
  idle = c.in_ok-new.ensures.idle;
  started = c.in_ok-new.ensures.all;
  settled = λ e j x lt at. absurd (omega (arith, lt));
}

pub settle-requires-clause-there : goal.settle-requires-clause-there
settle-requires-clause-there c = listed_at (items_of c.loop-k.table) c.loop-k.k c.in-Some.item (sym c.at.ensures ∙ c.in-Some.is)

pub settle-requires-clause-sound : goal.settle-requires-clause-sound
settle-requires-clause-sound c = c.loop-k.invariant.sound

pub loop-k-preserved : goal.loop-k-preserved
loop-k-preserved c =
    let p = c.args.p.now in
    let f = c.args.facts.now in
    let first = items_of c.args.table.now in
    let now = items_of c.loop-k.table in
    let new = items_of c.settle.new.table in
    let v = c.loop-k.invariant in
    let r = c.in_ok-new-in-Some.ensures in
    let at = sym c.at.ensures ∙ c.in-Some.is in
    record {
      sound = r.sound;
      idle = idle_more p f first now new c.loop-k.new c.in_ok-new-in-Some.field-0 c.loop-k.k c.in-Some.item at v.idle v.settled r.idle r.all;
      started = λ e. v.started (both_false c.loop-k.new c.in_ok-new-in-Some.field-0 e).0;
      settled = settled_more p f first now new c.loop-k.new c.in_ok-new-in-Some.field-0 c.loop-k.k c.in-Some.item at v.idle v.settled r.idle r.all;
    }

pub returns-in-None-clause-closed : goal.returns-in-None-clause-closed
returns-in-None-clause-closed c e =
    let v = c.loop-k.invariant in
    closed_after c.args.p.now c.args.facts.now (items_of c.args.table.now) (items_of c.loop-k.table) c.loop-k.k (sym c.at.ensures ∙ c.in-None.is) (v.idle e) (v.settled e) (v.started e)
