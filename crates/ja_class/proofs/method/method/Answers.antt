use Rattle.std.proofs.Common.{◌≡◌, ◌⊎◌, inl, inr, Bool, ℕ, refl, ap, subst}
use Rattle.std.proofs.lemmas.Result.{err_from_is_err_and}
use Rattle.ja_attributes.specs.declared.fault.AttributeFault.TheVariants as attribute
use Rattle.ja_attributes.specs.Faults.{IsMethodFault}
use Rattle.ja_class.specs.Faults.{method_fault}
use Rattle.ja_class.specs.Meaning.{needs_code}
use Rattle.ja_class.proofs.Counted.{or_later}
use Rattle.ja_class.proofs.method.method.Goals as goal

pub returns-in_err-front : goal.returns-in_err-front
returns-in_err-front c =
    let p = err_from_is_err_and c.from_residual.result c.from_residual.ensures.1 in
    let old = c.args.c.now in
    rw (p.1, p.2) (or_later c.in_err-front.field-0.0 (λ h. inr (old.place, old, (refl, refl), inl h)) c.in_err-front.ensures.reads)

pub returns-in-Err : goal.returns-in-Err
returns-in-Err c =
    let old = c.args.c.now in
    let mid = c.method_front.new.c in
    let table = c.args.pool.now in
    let f = c.in_ok-front.front in
    let found = c.in-Err.found in
    let moved : (found ≡ attribute.Memory) ⊎ IsMethodFault table (needs_code f.flags) old.place mid found =
    subst (λ (n : ℕ). (found ≡ attribute.Memory) ⊎ IsMethodFault table (needs_code f.flags) n mid found) c.place-at.ensures
    (subst (λ (b : Bool). (found ≡ attribute.Memory) ⊎ IsMethodFault table b c.place-at.result mid found) c.needs_code.ensures c.in-Err.ensures.fault) in
    rw c.attribute_fault.ensures
    (elim moved [
      | inl e ↦ inl (ap (method_fault c.args.number) e)
      | inr h ↦ inr (inr (old.place, old, (refl, refl), inr (f, mid, c.in_ok-front.ensures.reads, inl (found, h, refl))))
    ])
