use Rattle.std.proofs.Common.{◌≡◌, ◌++◌, drop}
use Rattle.ja_firing.specs.Tokens as tokens
use Rattle.ja_firing.proofs.object.add_fields_lead.Given as goal

abbrev pub invariant-loop-f : goal.invariant-loop-f
invariant-loop-f l = l.told ++ tokens.fields_lead l.p l.start l.token l.f (drop l.f l.fields) ≡ l.fn.told ++ tokens.fields_lead l.p l.start l.token 0 l.fields
