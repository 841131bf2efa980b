use Rattle.std.proofs.Common.{◌≡◌, true}
use Rattle.std.proofs.lemmas.Bool.{both_ways, not-true, not_from_false, false_from_ne_true}
use Rattle.ja_hier.proofs.MethodWays.{left-from, left-candidate, left-alone}
use Rattle.ja_hier.proofs.methods.is_left.Goals as goal

pub returns-then-is_candidate : goal.returns-then-is_candidate
returns-then-is_candidate c = (
  λ t. left-from c.args.tables.now.classes c.args.name.now c.args.desc.now c.args.class c.args.interface (c.is_candidate.ensures.0 c.if-is_candidate.true)
      (λ over. both_ways c.is_overridden.result (not-true c.is_overridden.result t) (c.is_overridden.ensures.1 over)),
  λ left. not_from_false c.is_overridden.result
      (false_from_ne_true c.is_overridden.result (λ t. left-alone c.args.tables.now.classes c.args.name.now c.args.desc.now c.args.class c.args.interface left (c.is_overridden.ensures.0 t))),
)

pub returns-else-is_candidate : goal.returns-else-is_candidate
returns-else-is_candidate c = (
  λ t. absurd (cc t),
  λ left.
      let t : c.is_candidate.result ≡ true = c.is_candidate.ensures.1 (left-candidate c.args.tables.now.classes c.args.name.now c.args.desc.now c.args.class c.args.interface left) in
      absurd (cc (t, c.if-is_candidate.false)),
)
