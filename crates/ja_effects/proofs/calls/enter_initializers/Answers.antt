use Rattle.std.proofs.Common.{◌≡◌, ◌<◌, ℕ, List, Bool, Some, length, get_or, refl, sym, ap, subst, ◌∙◌, arith}
use Rattle.std.specs.Prelude.{Contains, slice_get}
use Rattle.std.proofs.lemmas.Option.{slice_get-get_or, same_Some}
use Rattle.ja_base.specs.declared.id.MethodId.{MethodId}
use Rattle.ja_ir.specs.Initializing.{inits_of}
use Rattle.ja_facts.specs.Crossings.{by_initializer}
use Rattle.ja_facts.specs.Told.{TellsGraph}
use Rattle.ja_effects.specs.Inner.{IsPassed}
use Rattle.ja_effects.proofs.Directing.{instr-in, op-at, height-room}
use Rattle.ja_effects.proofs.Entering.{stage-more}
use Rattle.ja_effects.proofs.Closing.{closed-more, init-listed, item-in, listed-place}
use Rattle.ja_effects.proofs.calls.enter_initializers.Goals as goal

pub enter-changed-requires-clause-room : goal.enter-changed-requires-clause-room
enter-changed-requires-clause-room c = omega (arith, height-room c.args.p.now c.args.m c.args.i c.args.method.now c.args.frame c.args.instr.now c.methods-whole.ensures.whole c.requires.found c.requires.instr c.requires.runs c.requires.frame)

pub enter-changed-requires-clause-enters : goal.enter-changed-requires-clause-enters
enter-changed-requires-clause-enters c =
    let lt : c.loop-n.n-index < length c.inits_of-list.result.now = omega arith in
    by_initializer c.requires.reached (record {
      instr = c.args.instr.now;
      found = (instr-in c.args.p.now c.args.m c.args.i c.args.method.now c.args.instr.now c.requires.found c.requires.instr);
      listed = subst (λ (l : List MethodId). Contains l (get_or c.inits_of-list.result.now c.loop-n.n-index (record { 0 = 0 }))) c.inits_of-list.ensures (item-in c.inits_of-list.result.now c.loop-n.n-index (record { 0 = 0 }) lt);
    }) (op-at c.args.p.now c.args.m c.args.i c.args.instr.now (instr-in c.args.p.now c.args.m c.args.i c.args.method.now c.args.instr.now c.requires.found c.requires.instr))

pub loop-n-preserved : goal.loop-n-preserved
loop-n-preserved c =
    let l = c.loop-n in
    let t = c.enter-changed in
    let lt : c.loop-n.n-index < length c.inits_of-list.result.now = omega arith in
    record {
      stage = stage-more c.args.p.now c.args.g.now c.args.s.now l.changed t.result c.args.effects.now l.effects t.new.effects l.invariant.stage t.ensures.step;
      closed = closed-more (λ (table : List (List Bool)) k. (n : MethodId) → slice_get c.inits_of-list.result.now k ≡ Some n → IsPassed c.args.p.now c.args.s.now table c.args.m c.args.i n.0 0 c.args.instr.now.height)
          l.changed t.result l.effects t.new.effects l.n-index l.invariant.closed t.ensures.step.idle
          (λ e n at. subst (λ (x : MethodId). IsPassed c.args.p.now c.args.s.now t.new.effects c.args.m c.args.i x.0 0 c.args.instr.now.height) (same_Some (get_or c.inits_of-list.result.now c.loop-n.n-index (record { 0 = 0 })) n (sym (slice_get-get_or c.inits_of-list.result.now c.loop-n.n-index (record { 0 = 0 }) lt) ∙ at)) (t.ensures.closed e));
    }

pub returns-clause-closed : goal.returns-clause-closed
returns-clause-closed c = λ e n init.
    let listed : Contains c.inits_of-list.result.now (record { 0 = n }) = subst (λ (l : List MethodId). Contains l (record { 0 = n })) (sym c.inits_of-list.ensures)
    (init-listed c.args.p.now (TellsGraph c.args.p.now c.args.g.now) c.args.s.now c.loop-n.effects c.args.m c.args.i c.args.instr.now (instr-in c.args.p.now c.args.m c.args.i c.args.method.now c.args.instr.now c.requires.found c.requires.instr) n init) in
    c.loop-n.invariant.closed e listed.0 (omega (arith, listed.1)) (record { 0 = n }) (listed-place c.inits_of-list.result.now (record { 0 = n }) listed)
