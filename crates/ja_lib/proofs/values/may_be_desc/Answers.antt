use Rattle.std.proofs.Common.{Some, subst}
use Rattle.std.proofs.lemmas.Result.{err_from_is_err_and}
use Rattle.toml.specs.View.{view}
use Rattle.ja_lib.specs.File.{IsDesc, MayBeDesc}
use Rattle.ja_lib.specs.InnerReading.{seen_of}
use Rattle.ja_lib.proofs.Reading.{finds_without, desc_there}
use Rattle.ja_lib.proofs.values.may_be_desc.Goals as goal

pub returns-in_err-desc-in-Some : goal.returns-in_err-desc-in-Some
returns-in_err-desc-in-Some c =
    let p = err_from_is_err_and c.from_residual.result c.from_residual.ensures.1 in
    let value = view c.in-Some.value.now in
    rw (p.1, p.2) (finds_without (IsDesc (Some value)) (MayBeDesc (seen_of c.args.value)) (λ desc is. desc_there value desc (subst (λ v. MayBeDesc (seen_of v) desc) c.in-Some.is is))
    c.in_err-desc-in-Some.field-0.0 c.in_err-desc-in-Some.ensures)
