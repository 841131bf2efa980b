use Rattle.std.proofs.Common.{Bool, List, ℕ, length, cond, is_ok, not, ◌∷◌, [], ◌++◌, refl, ap, ◌∙◌, arith}
use Rattle.ja_facts.specs.declared.flat.Span.{Span}
use Rattle.ja_facts.proofs.Shared.{flat-invariant, flat-pushed, flat-kept}
use Rattle.ja_facts.proofs.flat.FlatRows.push.Goals as goal
use Rattle.ja_facts.proofs.flat.FlatRows.push.Goals.{in-Ok, in-Err}

pub invariant_of-self-2 : goal.invariant_of-self-2
invariant_of-self-2 c =
    flat-invariant c.self.inside.items.items c.args.row.now c.extend_from_slice.new.self.items c.self.inside.spans.items c.push.new.self.items _ (is_ok c.push.result) c.self.invariant
    (c.extend_from_slice.ensures.items ∙ ap (λ (b : Bool). cond b (c.self.inside.items.items ++ c.args.row.now) c.self.inside.items.items)
    (c.is_err.ensures.negation ∙ ap not c.if-is_err.false))
    c.push.ensures.items (omega arith) refl

pub returns-clause-ok : goal.returns-clause-ok
returns-clause-ok c = elim c.match-push.branch [
  | in-Ok w ↦ rw w.result-is
      (flat-pushed c.self.inside.items.items c.args.row.now c.extend_from_slice.new.self.items c.self.inside.spans.items c.push.new.self.items (record { from = c.len-from.result; count = length c.args.row.now }) c.self.invariant
      (c.extend_from_slice.ensures.items ∙ ap (λ (b : Bool). cond b (c.self.inside.items.items ++ c.args.row.now) c.self.inside.items.items)
      (c.is_err.ensures.negation ∙ ap not c.if-is_err.false))
      (c.push.ensures.items ∙ ap (λ (b : Bool). cond b (c.self.inside.spans.items ++ record { from = c.len-from.result; count = length c.args.row.now } ∷ []) c.self.inside.spans.items) (ap is_ok w.in-Ok.is))
      (omega arith) refl
      ∙ ap (λ (rows : List (List ℕ)). rows ++ c.args.row.now ∷ []) c.self.view_is)
  | in-Err w ↦ rw w.result-is tt
]

pub returns-clause-err : goal.returns-clause-err
returns-clause-err c = elim c.match-push.branch [
  | in-Ok w ↦ rw w.result-is tt
  | in-Err w ↦ rw w.result-is
      (flat-kept c.self.inside.items.items c.args.row.now c.extend_from_slice.new.self.items c.self.inside.spans.items c.push.new.self.items c.self.invariant
      (c.extend_from_slice.ensures.items ∙ ap (λ (b : Bool). cond b (c.self.inside.items.items ++ c.args.row.now) c.self.inside.items.items)
      (c.is_err.ensures.negation ∙ ap not c.if-is_err.false))
      (c.push.ensures.items ∙ ap (λ (b : Bool). cond b (c.self.inside.spans.items ++ record { from = c.len-from.result; count = length c.args.row.now } ∷ []) c.self.inside.spans.items) (ap is_ok w.in-Err.is))
      ∙ c.self.view_is)
]
