use Rattle.std.proofs.Common.{◌≡◌, ◌≤◌, ◌+◌, ◌-◌, refl, arith}
use Rattle.std.proofs.lemmas.Option.{slice_get_within}
use Rattle.ja_ir.specs.Operations.{arguments}
use Rattle.ja_facts.specs.Told.{TellsGraph}
use Rattle.ja_effects.proofs.Directing.{instr-in, call-operands, height-room}
use Rattle.ja_effects.proofs.Closing.{call-passed}
use Rattle.ja_effects.proofs.calls.enter_call.Goals as goal

pub overflow_cast-under : goal.overflow_cast-under
overflow_cast-under c = omega (arith, call-operands c.args.p.now c.args.m c.args.i c.args.method.now c.args.frame c.args.instr.now c.methods-whole.ensures.whole c.requires.found c.requires.instr c.requires.runs c.requires.frame c.in-Call.call c.in-Call.is, height-room c.args.p.now c.args.m c.args.i c.args.method.now c.args.frame c.args.instr.now c.methods-whole.ensures.whole c.requires.found c.requires.instr c.requires.runs c.requires.frame, c.arguments.ensures, c.requires.small.values)

pub overflow_sub-under : goal.overflow_sub-under
overflow_sub-under c = omega (arith, call-operands c.args.p.now c.args.m c.args.i c.args.method.now c.args.frame c.args.instr.now c.methods-whole.ensures.whole c.requires.found c.requires.instr c.requires.runs c.requires.frame c.in-Call.call c.in-Call.is, c.arguments.ensures)

pub enter_targets-requires-clause-inside : goal.enter_targets-requires-clause-inside
enter_targets-requires-clause-inside c = slice_get_within c.args.method.now.code c.args.i c.args.instr.now c.requires.instr

pub enter_targets-requires-clause-call : goal.enter_targets-requires-clause-call
enter_targets-requires-clause-call c = record {
  height = c.args.instr.now.height;
  at = record { instr = c.args.instr.now; found = (instr-in c.args.p.now c.args.m c.args.i c.args.method.now c.args.instr.now c.requires.found c.requires.instr); is_op = c.in-Call.is; is_height = refl };
  under_is = omega (arith, call-operands c.args.p.now c.args.m c.args.i c.args.method.now c.args.frame c.args.instr.now c.methods-whole.ensures.whole c.requires.found c.requires.instr c.requires.runs c.requires.frame c.in-Call.call c.in-Call.is, c.arguments.ensures);
}

pub enter_targets-requires-clause-room : goal.enter_targets-requires-clause-room
enter_targets-requires-clause-room c = omega (arith, call-operands c.args.p.now c.args.m c.args.i c.args.method.now c.args.frame c.args.instr.now c.methods-whole.ensures.whole c.requires.found c.requires.instr c.requires.runs c.requires.frame c.in-Call.call c.in-Call.is, height-room c.args.p.now c.args.m c.args.i c.args.method.now c.args.frame c.args.instr.now c.methods-whole.ensures.whole c.requires.found c.requires.instr c.requires.runs c.requires.frame, c.arguments.ensures)

pub returns-in-Call-clause-closed : goal.returns-in-Call-clause-closed
returns-in-Call-clause-closed c = λ e.
    let height : c.args.instr.now.height ≡ (c.args.instr.now.height - c.arguments.result) + arguments c.in-Call.call = omega (arith, call-operands c.args.p.now c.args.m c.args.i c.args.method.now c.args.frame c.args.instr.now c.methods-whole.ensures.whole c.requires.found c.requires.instr c.requires.runs c.requires.frame c.in-Call.call c.in-Call.is, c.arguments.ensures) in
    λ n around other at goes. call-passed c.args.p.now (TellsGraph c.args.p.now c.args.g.now) c.args.s.now c.enter_targets.new.effects c.args.m c.args.i c.args.instr.now (instr-in c.args.p.now c.args.m c.args.i c.args.method.now c.args.instr.now c.requires.found c.requires.instr) c.in-Call.call (c.args.instr.now.height - c.arguments.result) c.in-Call.is height (c.enter_targets.ensures.closed e) n around other at goes
