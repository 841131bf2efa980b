use Rattle.std.proofs.Common.{◌≡◌, ◌≤◌, ◌+◌, ◌-◌, sym, ap, ◌∙◌, arith}
use Rattle.std.proofs.lemmas.Option.{slice_get_within}
use Rattle.ja_ir.specs.Operations.{arguments}
use Rattle.ja_facts.specs.Told.{TellsGraph}
use Rattle.ja_facts.specs.declared.targets.Targets.{Targets}
use Rattle.ja_effects.specs.Inner.{Direct, IsSourced}
use Rattle.ja_effects.proofs.Marking.{gains-same}
use Rattle.ja_effects.proofs.Directing.{instr-in, call-operands, height-room, direct-call}
use Rattle.ja_effects.proofs.direct.touch_call.Goals as goal

pub overflow_cast-under : goal.overflow_cast-under
overflow_cast-under c =
    let few = call-operands c.args.p.now c.args.m c.args.i c.args.method.now c.args.frame c.args.instr.now c.methods-whole.ensures.whole c.requires.found c.requires.instr c.requires.runs c.requires.frame c.args.call.now c.requires.call in
    let room = height-room c.args.p.now c.args.m c.args.i c.args.method.now c.args.frame c.args.instr.now c.methods-whole.ensures.whole c.requires.found c.requires.instr c.requires.runs c.requires.frame in
    omega (arith, c.arguments.ensures, c.requires.small.values)

pub overflow_sub-under : goal.overflow_sub-under
overflow_sub-under c =
    let few = call-operands c.args.p.now c.args.m c.args.i c.args.method.now c.args.frame c.args.instr.now c.methods-whole.ensures.whole c.requires.found c.requires.instr c.requires.runs c.requires.frame c.args.call.now c.requires.call in
    omega (arith, c.arguments.ensures)

pub touch_sources-requires-clause-inside : goal.touch_sources-requires-clause-inside
touch_sources-requires-clause-inside c = slice_get_within c.args.method.now.code c.args.i c.args.instr.now c.requires.instr

pub touch_sources-requires-clause-room : goal.touch_sources-requires-clause-room
touch_sources-requires-clause-room c =
    let few = call-operands c.args.p.now c.args.m c.args.i c.args.method.now c.args.frame c.args.instr.now c.methods-whole.ensures.whole c.requires.found c.requires.instr c.requires.runs c.requires.frame c.args.call.now c.requires.call in
    let room = height-room c.args.p.now c.args.m c.args.i c.args.method.now c.args.frame c.args.instr.now c.methods-whole.ensures.whole c.requires.found c.requires.instr c.requires.runs c.requires.frame in
    omega (arith, c.arguments.ensures)

pub returns-then-targets-clause-gains : goal.returns-then-targets-clause-gains
returns-then-targets-clause-gains c =
    let few = call-operands c.args.p.now c.args.m c.args.i c.args.method.now c.args.frame c.args.instr.now c.methods-whole.ensures.whole c.requires.found c.requires.instr c.requires.runs c.requires.frame c.args.call.now c.requires.call in
    let height : c.args.instr.now.height ≡ (c.args.instr.now.height - c.arguments.result) + arguments c.args.call.now = omega (arith, c.arguments.ensures) in
    let goes = sym (ap (λ (t : Targets). t.library) c.targets.ensures) ∙ c.if-targets.true in
    gains-same c.args.p.now c.args.effects.now c.touch_sources.new.effects (λ n r. (n ≡ c.args.m) × IsSourced c.args.p.now c.args.s.now c.args.m c.args.i (c.args.instr.now.height - c.arguments.result) c.args.call.now r)
    (λ n r. (n ≡ c.args.m) × Direct c.args.p.now (TellsGraph c.args.p.now c.args.g.now) c.args.s.now c.args.m c.args.i r) c.touch_sources.ensures.gains
    (λ n s.
    let both = direct-call c.args.p.now (TellsGraph c.args.p.now c.args.g.now) c.args.s.now c.args.m c.args.i c.args.instr.now (instr-in c.args.p.now c.args.m c.args.i c.args.method.now c.args.instr.now c.requires.found c.requires.instr) c.args.call.now (c.args.instr.now.height - c.arguments.result) s c.requires.call height c.requires.reached in
    (λ q. (q.0, both.1 (goes, q.1)), λ q. (q.0, (both.0 q.1).1)))
