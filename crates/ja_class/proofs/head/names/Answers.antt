use Rattle.std.proofs.Common.{◌≡◌, ℕ, List, inl, inr, refl, ap, subst, ◌∙◌}
use Rattle.std.specs.Prelude.{Option}
use Rattle.std.proofs.lemmas.Result.{err_from_is_err_and}
use Rattle.ja_pool.specs.Table.{class_name_at}
use Rattle.ja_class.specs.declared.head.ClassNames.{ClassNames}
use Rattle.ja_class.specs.Meaning.{super_said}
use Rattle.ja_class.specs.ClassFault.{super_class}
use Rattle.ja_class.proofs.Counted.{or_later}
use Rattle.ja_class.proofs.head.names.Goals as goal

pub returns-in_err-this : goal.returns-in_err-this
returns-in_err-this c =
    let p = err_from_is_err_and c.from_residual-in_err-this.result c.from_residual-in_err-this.ensures.1 in
    rw (p.1, p.2) (inr (inr (c.in_ok-flags.flags, c.u2.new.c, c.in_ok-flags.ensures, inl c.in_err-this.ensures.reads)))

pub returns-in_err-above : goal.returns-in_err-above
returns-in_err-above c =
    let p = err_from_is_err_and c.from_residual-in_err-above.result c.from_residual-in_err-above.ensures.1 in
    let table = c.args.pool.now in
    let this = c.in_ok-this.this in
    let mid = c.this_class.new.c in
    let name : c.class_name-name.result.now ≡ class_name_at table this = c.class_name-name.ensures ∙ ap (class_name_at table) c.from.ensures in
    let wrong = subst (λ (n : List ℕ). (super_class table n).fault mid c.in_err-above.field-0.0) name c.in_err-above.ensures.reads in
    rw (p.1, p.2) (inr (inr (c.in_ok-flags.flags, c.u2.new.c, c.in_ok-flags.ensures, inr (this, mid, c.in_ok-this.ensures.reads, inl wrong))))

pub returns-in_err-interfaces : goal.returns-in_err-interfaces
returns-in_err-interfaces c =
    let p = err_from_is_err_and c.from_residual-in_err-interfaces.result c.from_residual-in_err-interfaces.ensures.1 in
    let table = c.args.pool.now in
    let this = c.in_ok-this.this in
    let above = c.in_ok-above.above in
    let mid = c.this_class.new.c in
    let next = c.super_class.new.c in
    let name : c.class_name-name.result.now ≡ class_name_at table this = c.class_name-name.ensures ∙ ap (class_name_at table) c.from.ensures in
    let read = subst (λ (n : List ℕ). (super_class table n).passes mid above next) name c.in_ok-above.ensures.reads in
    rw (p.1, p.2)
    (or_later c.in_err-interfaces.field-0.0 (λ h. inr (c.in_ok-flags.flags, c.u2.new.c, c.in_ok-flags.ensures, inr (this, mid, c.in_ok-this.ensures.reads, inr (above, next, read, inl h)))) c.in_err-interfaces.ensures)

pub returns : goal.returns
returns c =
    let table = c.args.pool.now in
    let flags = c.in_ok-flags.flags in
    let this = c.in_ok-this.this in
    let above = c.in_ok-above.above in
    let direct = c.in_ok-interfaces.interfaces in
    let mid = c.this_class.new.c in
    let next = c.super_class.new.c in
    let new = c.interfaces.new.c in
    let name : c.class_name-name.result.now ≡ class_name_at table this = c.class_name-name.ensures ∙ ap (class_name_at table) c.from.ensures in
    let read = subst (λ (n : List ℕ). (super_class table n).passes mid above next) name c.in_ok-above.ensures.reads in
    let make : ℕ → List ℕ → Option (List ℕ) → ClassNames = λ f n s. record { flags = f; name = n; superclass = s; interfaces = direct } in
    let is : make c.from-2.result c.in_ok-of.field-0 c.in_ok-superclass_name.field-0 ≡ make flags (class_name_at table this) (super_said table above) =
    ap (λ (f : ℕ). make f c.in_ok-of.field-0 c.in_ok-superclass_name.field-0) c.from-2.ensures
    ∙ ap (λ (n : List ℕ). make flags n c.in_ok-superclass_name.field-0) (c.in_ok-of.ensures ∙ name) ∙ ap (make flags (class_name_at table this)) c.in_ok-superclass_name.ensures in
    (flags, c.u2.new.c, c.in_ok-flags.ensures, (this, mid, c.in_ok-this.ensures.reads, (above, next, read, (direct, new, c.in_ok-interfaces.ensures, (is, refl)))))
