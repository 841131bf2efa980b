use Rattle.std.proofs.Common.{◌≡◌, false}
use Rattle.ja_facts.specs.Formulas.{any_below}
use Rattle.std.specs.Prelude.{◌&&◌, nat_eq}
use Rattle.ja_ir.specs.Params as params
use Rattle.ja_facts.specs.Slots.{argument}
use Rattle.ja_explicit.specs.InnerWords as words
use Rattle.ja_explicit.proofs.clauses.is_handed.Given as goal

abbrev pub invariant-loop-k : goal.invariant-loop-k
invariant-loop-k l =
    any_below (λ k. nat_eq (params.param_local l.handing.callee.now k) l.local && (words.says l.handing.caller.now l.handing.word).slot (argument l.handing.under k)) l.k ≡ false
