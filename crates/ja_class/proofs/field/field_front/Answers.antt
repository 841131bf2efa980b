use Rattle.std.proofs.Common.{◌≡◌, List, ℕ, inl, inr, refl, ap, subst, ◌∙◌}
use Rattle.std.proofs.lemmas.Bool.{MatchBool-at_true, MatchBool-at_false}
use Rattle.std.proofs.lemmas.Result.{err_from_is_err_and}
use Rattle.ja_bytes.specs.DescriptorText.{IsFieldDesc}
use Rattle.ja_pool.specs.Table.{text_at}
use Rattle.ja_class.proofs.field.field_front.Goals as goal

pub returns-in_err-front-clause-reads : goal.returns-in_err-front-clause-reads
returns-in_err-front-clause-reads c =
    let p = err_from_is_err_and c.from_residual.result c.from_residual.ensures.1 in
    rw (p.1, p.2) (inr (inl c.in_err-front.ensures.reads))

pub returns-then-not-branch-clause-reads : goal.returns-then-not-branch-clause-reads
returns-then-not-branch-clause-reads c =
    let f = c.in_ok-front.front in
    let text : c.utf8-2.result.now ≡ text_at c.args.pool.now f.descriptor = c.utf8-2.ensures ∙ ap (text_at c.args.pool.now) c.from.ensures in
    let right : Type 0 = IsFieldDesc c.utf8-2.result.now in
    let wrong : right → ⊥ = MatchBool-at_false right (right → ⊥) c.if-not-branch.true c.in_ok-is_field_desc.ensures in
    inr (inr (f, c.front_of.new.c, c.in_ok-front.ensures.reads, inl (subst (λ (t : List ℕ). (IsFieldDesc t) → ⊥) text wrong, refl)))

pub returns-clause-reads : goal.returns-clause-reads
returns-clause-reads c =
    let f = c.in_ok-front.front in
    let text : c.utf8-2.result.now ≡ text_at c.args.pool.now f.descriptor = c.utf8-2.ensures ∙ ap (text_at c.args.pool.now) c.from.ensures in
    let right : Type 0 = IsFieldDesc c.utf8-2.result.now in
    let holds : right = MatchBool-at_true right (right → ⊥) c.if-not-branch.false c.in_ok-is_field_desc.ensures in
    let mid = c.front_of.new.c in
    (f, mid, c.in_ok-front.ensures.reads, (tt, mid, (subst (λ (t : List ℕ). IsFieldDesc t) text holds, refl), (refl, refl)))
