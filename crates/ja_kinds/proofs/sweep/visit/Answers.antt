use Rattle.std.proofs.Common.{ℕ, Bool, false, set}
use Rattle.std.proofs.lemmas.List.{get_or_past}
use Rattle.ja_kinds.specs.InnerSolving.{Spreads, Visits}
use Rattle.ja_kinds.proofs.Effects.{if_ok}
use Rattle.ja_kinds.proofs.Visits.{visits_nothing, visits_spread}
use Rattle.ja_kinds.proofs.sweep.visit.Goals as goal

pub returns-then-pc-dirty : goal.returns-then-pc-dirty
returns-then-pc-dirty c =
    visits_nothing c.args.pool.now c.args.code.now c.args.frame.now c.args.instr.now c.args.states.now c.args.states.now c.args.dirty.now c.args.dirty.now false
    (get_or_past c.args.dirty.now c.args.instr.now.pc false c.if-pc-dirty.true) c.requires.member c.requires.states c.requires.clean

pub returns-then-not-dirty-pc : goal.returns-then-not-dirty-pc
returns-then-not-dirty-pc c =
    visits_nothing c.args.pool.now c.args.code.now c.args.frame.now c.args.instr.now c.args.states.now c.args.states.now c.args.dirty.now c.args.dirty.now false
    c.if-not-dirty-pc.true c.requires.member c.requires.states c.requires.clean

pub returns : goal.returns
returns c =
    let before = c.args.dirty.now in
    let pc : ℕ = c.args.instr.now.pc in
    if_ok (λ (changed : Bool). Spreads c.args.pool.now c.args.code.now c.args.frame.now c.args.instr.now c.args.states.now c.spread.new.states (set before pc false) c.spread.new.dirty changed)
    (λ (changed : Bool). Visits c.args.pool.now c.args.code.now c.args.frame.now c.args.instr.now c.args.states.now c.spread.new.states before c.spread.new.dirty changed)
    c.spread.result
    (λ changed s. visits_spread c.args.pool.now c.args.code.now c.args.frame.now c.args.instr.now c.args.states.now c.spread.new.states before c.spread.new.dirty changed
    c.requires.apart c.requires.member c.requires.clean s)
    c.spread.ensures
