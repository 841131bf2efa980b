use Rattle.std.proofs.Common.{◌≡◌, ℕ, ◌+◌, ◌-◌, suc, ◌⊎◌, inl, inr, [], ◌∷◌, ◌++◌, length, refl, sym, subst, ◌∙◌, arith}
use Rattle.std.proofs.lemmas.Result.{err_from_is_err_and}
use Rattle.std.proofs.lemmas.List.{length-append}
use Rattle.ja_attributes.specs.Part.{fold}
use Rattle.ja_attributes.proofs.Completes.{fold_step, fold_stop}
use Rattle.ja_class.specs.declared.fault.ClassFault.TheVariants.{Memory}
use Rattle.ja_class.specs.declared.method.MethodLists.{MethodLists}
use Rattle.ja_class.specs.ClassFault.{method, next_method}
use Rattle.ja_class.proofs.Counted.{or_later}
use Rattle.ja_class.proofs.method.methods.Goals as goal

pub returns-in_err-next : goal.returns-in_err-next
returns-in_err-next c =
    let p = err_from_is_err_and c.from_residual-in_err-next.result c.from_residual-in_err-next.ensures.1 in
    let table = c.args.pool.now in
    let count = c.in_ok-count.count in
    let before : MethodLists = record { heads = c.loop-number.heads; bodies = c.loop-number.bodies } in
    let none : MethodLists = record { heads = []; bodies = [] } in
    let mid = c.u2.new.c in
    let now = c.loop-number.c in
    let f = c.in_err-next.field-0.0 in
    let one : count - c.loop-number.number ≡ suc (count - c.loop-number.number - 1) = omega arith in
    let number : c.from.result ≡ length before.heads = c.from.ensures ∙ sym c.loop-number.invariant.0 in
    rw (p.1, p.2)
    (or_later f
    (λ wrong. inr (count, mid, c.in_ok-count.ensures, fold_stop (λ (s : MethodLists). s) (fold (next_method table) count none) mid (next_method table) now _ _ before one c.loop-number.invariant.1 f (inl wrong)))
    (subst (λ (n : ℕ). (f ≡ Memory) ⊎ (method table n).fault now f) number c.in_err-next.ensures))

pub loop-number-preserved : goal.loop-number-preserved
loop-number-preserved c =
    let table = c.args.pool.now in
    let count = c.in_ok-count.count in
    let before : MethodLists = record { heads = c.loop-number.heads; bodies = c.loop-number.bodies } in
    let none : MethodLists = record { heads = []; bodies = [] } in
    let mid = c.u2.new.c in
    let now = c.loop-number.c in
    let new = c.method.new.c in
    let m = c.in_ok-next.next in
    let one : count - c.loop-number.number ≡ suc (count - (c.loop-number.number + 1)) = omega arith in
    let number : c.from.result ≡ length before.heads = c.from.ensures ∙ sym c.loop-number.invariant.0 in
    let read = subst (λ (n : ℕ). (method table n).passes now m new) number c.in_ok-next.ensures in
    rw (c.in_ok-push.ensures.ok, c.in_ok-push-2.ensures.ok) (
      omega (arith, length-append before.heads (m.head ∷ []), c.loop-number.invariant.0),
      fold_step (λ (s : MethodLists). s) (fold (next_method table) count none) mid (next_method table) now _ _ before one c.loop-number.invariant.1
          (record { heads = before.heads ++ m.head ∷ []; bodies = before.bodies ++ m.body ∷ [] }) new (m, new, read, (refl, refl)),
    )
