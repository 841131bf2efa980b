use Rattle.std.proofs.Common.{◌≡◌, ◌⊎◌, inr, ◌<◌, ◌≤◌, ℕ, List, length, refl, sym, ap, subst, ◌∙◌, arith}
use Rattle.std.specs.Prelude.{slice_get, Some}
use Rattle.std.proofs.lemmas.Option.{slice_get-get_or}
use Rattle.std.proofs.lemmas.Result.{err_from_is_err_and}
use Rattle.ja_ir.specs.declared.head.HeadMethod.{HeadMethod}
use Rattle.ja_class.specs.declared.class.ClassMethod.{ClassMethod}
use Rattle.ja_class.specs.Meaning.{ClassSpelled}
use Rattle.ja_class.specs.ClassFile.{IsSpelled}
use Rattle.ja_methods.specs.Refusal.{IsRefused}
use Rattle.ja_methods.proofs.Profile.{body-count, method-desc}
use Rattle.ja_methods.proofs.Coded.{code-refused, content-few}
use Rattle.ja_methods.proofs.method.method_or_refusal.Goals as goal

-- a method of the class behind a reference
moved-head : (inside now : ClassSpelled) → inside ≡ now → (m n : ℕ) → n ≡ m → (head : HeadMethod) → slice_get inside.head.methods n ≡ Some head → slice_get now.head.methods m ≡ Some head
moved-head inside now same m n e head at =
    subst (λ (x : ClassSpelled). slice_get x.head.methods m ≡ Some head) same (subst (λ (k : ℕ). slice_get inside.head.methods k ≡ Some head) e at)

pub returns-then-is_native-clause-refused : goal.returns-then-is_native-clause-refused
returns-then-is_native-clause-refused c =
    let inside : ClassSpelled = record { head = c.class.inside.head; pool = c.class.inside.pool; methods = c.class.inside.methods } in
    inr (IsRefused.native (moved-head inside c.args.class.now c.class.view_is c.args.m c.from.result c.from.ensures c.at-head.result.now c.at-head.ensures) (sym c.is_native.ensures ∙ c.if-is_native.true))

pub content_of-requires-clause-method : goal.content_of-requires-clause-method
content_of-requires-clause-method c =
    let spelled : IsSpelled c.args.class.now = subst IsSpelled c.class.view_is c.class.invariant in
    omega (arith, body-count c.args.class.now spelled, c.requires.method)

pub returns-in_err-content-clause-refused : goal.returns-in_err-content-clause-refused
returns-in_err-content-clause-refused c =
    let inside : ClassSpelled = record { head = c.class.inside.head; pool = c.class.inside.pool; methods = c.class.inside.methods } in
    let p = err_from_is_err_and c.from_residual.result c.from_residual.ensures.1 in
    rw (p.1, p.2)
    (code-refused c.args.hier.now c.args.class.now c.args.c.0 c.args.m c.at-head.result.now c.in_err-content.field-0.0
    (moved-head inside c.args.class.now c.class.view_is c.args.m c.from.result c.from.ensures c.at-head.result.now c.at-head.ensures) (sym c.is_native.ensures ∙ c.if-is_native.false) c.in_err-content.ensures.refused)

pub sites_of-requires : goal.sites_of-requires
sites_of-requires c =
    let spelled : IsSpelled c.args.class.now = subst IsSpelled c.class.view_is c.class.invariant in
    let lt : c.args.m < length c.args.class.now.methods = omega (arith, body-count c.args.class.now spelled, c.requires.method) in
    let none : ClassMethod = record { code = Rattle.std.specs.Prelude.None; max_stack = 0; max_locals = 0 } in
    let body : ClassMethod = Rattle.std.proofs.Common.get_or c.args.class.now.methods c.args.m none in
    let at : slice_get c.args.class.now.methods c.args.m ≡ Some body = slice_get-get_or c.args.class.now.methods c.args.m none lt in
    let few : length c.in_ok-content.content.code ≤ 65535 = content-few c.args.hier.now c.args.table.now c.args.class.now spelled c.args.c.0 c.args.m body body.code c.in_ok-content.content.code c.in_ok-content.content.handlers at refl (c.in_ok-content.ensures.ok body at) in
    omega (arith, few, ap length c.as_slice.ensures)

pub at-body-requires : goal.at-body-requires
at-body-requires c =
    let inside : ClassSpelled = record { head = c.class.inside.head; pool = c.class.inside.pool; methods = c.class.inside.methods } in
    let heads : length inside.head.methods ≡ length c.args.class.now.head.methods = ap (λ (x : ClassSpelled). length x.head.methods) c.class.view_is in
    omega (arith, body-count inside c.class.invariant, heads, c.requires.method, c.from-2.ensures)

pub desc_types-requires : goal.desc_types-requires
desc_types-requires c =
    let inside : ClassSpelled = record { head = c.class.inside.head; pool = c.class.inside.pool; methods = c.class.inside.methods } in
    let spelled : IsSpelled c.args.class.now = subst IsSpelled c.class.view_is c.class.invariant in
    let lt : c.args.m < length c.args.class.now.methods = omega (arith, body-count c.args.class.now spelled, c.requires.method) in
    let none : ClassMethod = record { code = Rattle.std.specs.Prelude.None; max_stack = 0; max_locals = 0 } in
    let body : ClassMethod = Rattle.std.proofs.Common.get_or c.args.class.now.methods c.args.m none in
    let at : slice_get c.args.class.now.methods c.args.m ≡ Some body = slice_get-get_or c.args.class.now.methods c.args.m none lt in
    let head = moved-head inside c.args.class.now c.class.view_is c.args.m c.from.result c.from.ensures c.at-head.result.now c.at-head.ensures in
    let said = method-desc c.args.class.now spelled c.args.m c.at-head.result.now body (record { head_at = head; body_at = at }) in
    record { params = said.params; result = said.result; method = said.method }
