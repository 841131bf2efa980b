use Rattle.std.proofs.Common.{◌≡◌, ◌≤◌, ◌<◌, ◌+◌, ◌-◌, suc, sym, ap, ◌∙◌, arith}
use Rattle.std.proofs.lemmas.Option.{slice_get_within}
use Rattle.ja_facts.specs.Sharing.{OfSlot, Old, StaticFields}
use Rattle.ja_facts.specs.Slots.{OnStack}
use Rattle.ja_facts.specs.Told.{TellsGraph, PairHas, IsNamed, effect_on_statics}
use Rattle.ja_names.proofs.Numbers.{named-below}
use Rattle.ja_effects.specs.Inner.{Direct}
use Rattle.ja_effects.proofs.Marking.{gains-none, gains-same}
use Rattle.ja_effects.proofs.Directing.{instr-in, field-operands, element-operands, static-operands, height-room, stack-named, direct-field, direct-element, direct-static, direct-other}
use Rattle.ja_effects.proofs.direct.touch_op.Goals as goal

pub overflow_add-x : goal.overflow_add-x
overflow_add-x c = omega (arith, height-room c.args.p.now c.args.m c.args.i c.args.method.now c.args.frame c.args.instr.now c.methods-whole.ensures.whole c.requires.found c.requires.instr c.requires.runs c.requires.frame, c.requires.small.values)

pub overflow_sub-x : goal.overflow_sub-x
overflow_sub-x c = omega (arith, field-operands c.args.p.now c.args.m c.args.i c.args.method.now c.args.frame c.args.instr.now c.methods-whole.ensures.whole c.requires.found c.requires.instr c.requires.runs c.requires.frame c.in-PutField.field-0 c.in-PutField.is)

pub touch-requires-clause-inside : goal.touch-requires-clause-inside
touch-requires-clause-inside c = slice_get_within c.args.method.now.code c.args.i c.args.instr.now c.requires.instr

pub touch-requires-clause-name : goal.touch-requires-clause-name
touch-requires-clause-name c =
    let few = field-operands c.args.p.now c.args.m c.args.i c.args.method.now c.args.frame c.args.instr.now c.methods-whole.ensures.whole c.requires.found c.requires.instr c.requires.runs c.requires.frame c.in-PutField.field-0 c.in-PutField.is in
    let room = height-room c.args.p.now c.args.m c.args.i c.args.method.now c.args.frame c.args.instr.now c.methods-whole.ensures.whole c.requires.found c.requires.instr c.requires.runs c.requires.frame in
    named-below c.args.method.now (stack-named c.args.method.now c.args.frame (c.args.instr.now.height - 2) (c.args.frame.locals + c.args.instr.now.height - 2) c.requires.frame (omega arith) (omega arith))

pub returns-in-PutField-clause-gains : goal.returns-in-PutField-clause-gains
returns-in-PutField-clause-gains c =
    let few = field-operands c.args.p.now c.args.m c.args.i c.args.method.now c.args.frame c.args.instr.now c.methods-whole.ensures.whole c.requires.found c.requires.instr c.requires.runs c.requires.frame c.in-PutField.field-0 c.in-PutField.is in
    let room = height-room c.args.p.now c.args.m c.args.i c.args.method.now c.args.frame c.args.instr.now c.methods-whole.ensures.whole c.requires.found c.requires.instr c.requires.runs c.requires.frame in
    let height : c.args.instr.now.height ≡ suc (suc (c.args.instr.now.height - 2)) = omega arith in
    let name : IsNamed c.args.method.now (OfSlot (OnStack (c.args.instr.now.height - 2))) (c.args.frame.locals + c.args.instr.now.height - 2) =
    stack-named c.args.method.now c.args.frame (c.args.instr.now.height - 2) (c.args.frame.locals + c.args.instr.now.height - 2) c.requires.frame (omega arith) (omega arith) in
    gains-same c.args.p.now c.args.effects.now c.touch.new.effects (λ n r. (n ≡ c.args.m) × PairHas c.args.p.now c.args.s.now c.args.m c.args.i (OfSlot (OnStack (c.args.instr.now.height - 2))) (Old r))
    (λ n r. (n ≡ c.args.m) × Direct c.args.p.now (TellsGraph c.args.p.now c.args.g.now) c.args.s.now c.args.m c.args.i r) (c.touch.ensures.gains (OfSlot (OnStack (c.args.instr.now.height - 2))) name)
    (λ n s.
    let both = direct-field c.args.p.now (TellsGraph c.args.p.now c.args.g.now) c.args.s.now c.args.m c.args.i c.args.instr.now (instr-in c.args.p.now c.args.m c.args.i c.args.method.now c.args.instr.now c.requires.found c.requires.instr) c.in-PutField.field-0 (c.args.instr.now.height - 2) s c.in-PutField.is height c.requires.reached in
    (λ q. (q.0, both.1 q.1), λ q. (q.0, both.0 q.1)))

pub overflow_add-x-in-ArrStore : goal.overflow_add-x-in-ArrStore
overflow_add-x-in-ArrStore c = omega (arith, height-room c.args.p.now c.args.m c.args.i c.args.method.now c.args.frame c.args.instr.now c.methods-whole.ensures.whole c.requires.found c.requires.instr c.requires.runs c.requires.frame, c.requires.small.values)

pub overflow_sub-x-in-ArrStore : goal.overflow_sub-x-in-ArrStore
overflow_sub-x-in-ArrStore c = omega (arith, element-operands c.args.p.now c.args.m c.args.i c.args.method.now c.args.frame c.args.instr.now c.methods-whole.ensures.whole c.requires.found c.requires.instr c.requires.runs c.requires.frame c.in-ArrStore.field-0 c.in-ArrStore.is)

pub touch-requires-in-ArrStore-clause-inside : goal.touch-requires-in-ArrStore-clause-inside
touch-requires-in-ArrStore-clause-inside c = slice_get_within c.args.method.now.code c.args.i c.args.instr.now c.requires.instr

pub touch-requires-in-ArrStore-clause-name : goal.touch-requires-in-ArrStore-clause-name
touch-requires-in-ArrStore-clause-name c =
    let few = element-operands c.args.p.now c.args.m c.args.i c.args.method.now c.args.frame c.args.instr.now c.methods-whole.ensures.whole c.requires.found c.requires.instr c.requires.runs c.requires.frame c.in-ArrStore.field-0 c.in-ArrStore.is in
    let room = height-room c.args.p.now c.args.m c.args.i c.args.method.now c.args.frame c.args.instr.now c.methods-whole.ensures.whole c.requires.found c.requires.instr c.requires.runs c.requires.frame in
    named-below c.args.method.now (stack-named c.args.method.now c.args.frame (c.args.instr.now.height - 3) (c.args.frame.locals + c.args.instr.now.height - 3) c.requires.frame (omega arith) (omega arith))

pub returns-in-ArrStore-clause-gains : goal.returns-in-ArrStore-clause-gains
returns-in-ArrStore-clause-gains c =
    let few = element-operands c.args.p.now c.args.m c.args.i c.args.method.now c.args.frame c.args.instr.now c.methods-whole.ensures.whole c.requires.found c.requires.instr c.requires.runs c.requires.frame c.in-ArrStore.field-0 c.in-ArrStore.is in
    let room = height-room c.args.p.now c.args.m c.args.i c.args.method.now c.args.frame c.args.instr.now c.methods-whole.ensures.whole c.requires.found c.requires.instr c.requires.runs c.requires.frame in
    let height : c.args.instr.now.height ≡ suc (suc (suc (c.args.instr.now.height - 3))) = omega arith in
    let name : IsNamed c.args.method.now (OfSlot (OnStack (c.args.instr.now.height - 3))) (c.args.frame.locals + c.args.instr.now.height - 3) =
    stack-named c.args.method.now c.args.frame (c.args.instr.now.height - 3) (c.args.frame.locals + c.args.instr.now.height - 3) c.requires.frame (omega arith) (omega arith) in
    gains-same c.args.p.now c.args.effects.now c.touch-in-ArrStore.new.effects (λ n r. (n ≡ c.args.m) × PairHas c.args.p.now c.args.s.now c.args.m c.args.i (OfSlot (OnStack (c.args.instr.now.height - 3))) (Old r))
    (λ n r. (n ≡ c.args.m) × Direct c.args.p.now (TellsGraph c.args.p.now c.args.g.now) c.args.s.now c.args.m c.args.i r) (c.touch-in-ArrStore.ensures.gains (OfSlot (OnStack (c.args.instr.now.height - 3))) name)
    (λ n s.
    let both = direct-element c.args.p.now (TellsGraph c.args.p.now c.args.g.now) c.args.s.now c.args.m c.args.i c.args.instr.now (instr-in c.args.p.now c.args.m c.args.i c.args.method.now c.args.instr.now c.requires.found c.requires.instr) c.in-ArrStore.field-0 (c.args.instr.now.height - 3) s c.in-ArrStore.is height c.requires.reached in
    (λ q. (q.0, both.1 q.1), λ q. (q.0, both.0 q.1)))

pub returns-in-PutStatic-clause-gains : goal.returns-in-PutStatic-clause-gains
returns-in-PutStatic-clause-gains c =
    let few = static-operands c.args.p.now c.args.m c.args.i c.args.method.now c.args.frame c.args.instr.now c.methods-whole.ensures.whole c.requires.found c.requires.instr c.requires.runs c.requires.frame c.in-PutStatic.field-0 c.in-PutStatic.is in
    let height : c.args.instr.now.height ≡ suc (c.args.instr.now.height - 1) = omega arith in
    gains-same c.args.p.now c.args.effects.now c.mark.new.effects (λ n r. (n ≡ c.args.m) × (r ≡ StaticFields))
    (λ n r. (n ≡ c.args.m) × Direct c.args.p.now (TellsGraph c.args.p.now c.args.g.now) c.args.s.now c.args.m c.args.i r) (c.mark.ensures.gains StaticFields (effect_on_statics c.requires.frame.params))
    (λ n s.
    let both = direct-static c.args.p.now (TellsGraph c.args.p.now c.args.g.now) c.args.s.now c.args.m c.args.i c.args.instr.now (instr-in c.args.p.now c.args.m c.args.i c.args.method.now c.args.instr.now c.requires.found c.requires.instr) c.in-PutStatic.field-0 (c.args.instr.now.height - 1) s c.in-PutStatic.is height c.requires.reached in
    (λ q. (q.0, both.1 q.1), λ q. (q.0, both.0 q.1)))

pub returns-in_default : goal.returns-in_default
returns-in_default c = record {
  flags = c.requires.flags;
  gains = gains-none c.args.p.now c.args.effects.now (λ n r. (n ≡ c.args.m) × Direct c.args.p.now (TellsGraph c.args.p.now c.args.g.now) c.args.s.now c.args.m c.args.i r)
      (λ n s q. absurd (direct-other c.args.p.now (TellsGraph c.args.p.now c.args.g.now) c.args.s.now c.args.m c.args.i c.args.instr.now (instr-in c.args.p.now c.args.m c.args.i c.args.method.now c.args.instr.now c.requires.found c.requires.instr) s c.in_default.not-PutField c.in_default.not-ArrStore c.in_default.not-PutStatic c.in_default.not-Call q.1));
}
