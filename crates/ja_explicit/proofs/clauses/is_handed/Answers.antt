use Rattle.std.proofs.Common.{sym, ◌∙◌}
use Rattle.ja_explicit.proofs.Looping.{still_none}
use Rattle.std.specs.Prelude.{◌&&◌, nat_eq}
use Rattle.ja_ir.specs.Params as params
use Rattle.ja_facts.specs.Slots.{argument}
use Rattle.ja_work.proofs.Fitting.{some_any}
use Rattle.ja_explicit.specs.InnerWords as words
use Rattle.ja_explicit.proofs.clauses.is_handed.Goals as goal

pub returns-then-hands : goal.returns-then-hands
returns-then-hands c =
    let h = c.args.handing.now in
    sym
    (some_any (λ k. nat_eq (params.param_local h.callee.now k) c.args.local && (words.says h.caller.now h.word).slot (argument h.under k)) h.count c.loop-k.k c.loop-k-test.true
    (sym c.hands.ensures ∙ c.if-hands.true))

pub loop-k-preserved : goal.loop-k-preserved
loop-k-preserved c =
    let h = c.args.handing.now in
    still_none (λ k. nat_eq (params.param_local h.callee.now k) c.args.local && (words.says h.caller.now h.word).slot (argument h.under k)) c.loop-k.k c.loop-k.invariant
    (sym c.hands.ensures ∙ c.if-hands.false)
