use Rattle.std.proofs.Common.{◌∙◌, refl}
use Rattle.ja_kinds.proofs.Visits.{on_the_way, at_the_end, falls_again}
use Rattle.ja_kinds.proofs.sweep.settle.Goals as goal

pub loop-changed-init : goal.loop-changed-init
loop-changed-init c = record { way = c.requires.way; closed = λ e. absurd cc; size = refl }

pub loop-changed-preserved : goal.loop-changed-preserved
loop-changed-preserved c = record {
  way = on_the_way c.args.pool.now c.args.code.now c.args.frame.now c.loop-changed.states c.sweep.new.states c.loop-changed.dirty c.sweep.new.dirty
      c.in_ok-changed.changed c.loop-changed.invariant.way c.in_ok-changed.ensures;
  closed = c.in_ok-changed.ensures.closed;
  size = c.in_ok-changed.ensures.rises.same_length ∙ c.loop-changed.invariant.size;
}

pub loop-changed-smaller : goal.loop-changed-smaller
loop-changed-smaller c =
    falls_again c.args.frame.now.max_locals c.loop-changed.states c.sweep.new.states c.loop-changed.changed c.in_ok-changed.changed c.loop-changed-test.true
    c.in_ok-changed.ensures.rises

pub returns-clause-least : goal.returns-clause-least
returns-clause-least c =
    at_the_end c.args.pool.now c.args.code.now c.args.frame.now c.loop-changed.states c.loop-changed.dirty c.loop-changed.invariant.way
    (c.loop-changed.invariant.closed c.loop-changed-test.false)
