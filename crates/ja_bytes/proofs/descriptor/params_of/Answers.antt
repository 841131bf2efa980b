use Rattle.std.proofs.Common.{◌-◌, refl}
use Rattle.ja_bytes.specs.Longest.{IsStuck}
use Rattle.ja_bytes.specs.DescriptorText.{IsParamsText}
use Rattle.ja_bytes.proofs.DescParts.{bad_behind, params_wrong, params_end, params_more}
use Rattle.ja_bytes.proofs.descriptor.params_of.Goals as goal

pub returns-in-Err-clause-stuck : goal.returns-in-Err-clause-stuck
returns-in-Err-clause-stuck c =
    let rest = c.split_at.result.1.now in
    rw c.behind.ensures
    (bad_behind (IsStuck (IsParamsText (255 - c.params.words)) rest) (IsStuck (IsParamsText 255) c.args.bytes.now) c.params.len c.in-Err.fault
    (λ n stuck. params_wrong c.args.bytes.now rest c.params.len c.params.words n c.params.types c.params.invariant c.split_at.ensures.back stuck) c.in-Err.ensures.stuck)

pub returns-in-Ok-None-clause-ok : goal.returns-in-Ok-None-clause-ok
returns-in-Ok-None-clause-ok c =
    let rest = c.split_at.result.1.now in
    let end = c.in-Ok-None.ensures.end (rw c.in-Ok-None.field-0-is refl) in
    params_end c.args.bytes.now rest end.0 c.params.len c.params.words c.params.types c.params.invariant c.split_at.ensures.back end.1

pub params-preserved : goal.params-preserved
params-preserved c =
    let rest = c.split_at.result.1.now in
    let within = rw c.in-Ok-Some.field-0-is at c.in-Ok-Some.ensures.within in
    let field = rw c.in-Ok-Some.field-0-is at c.in-Ok-Some.ensures.ok in
    let fits = rw c.in-Ok-Some.field-0-is at c.in-Ok-Some.ensures.fits in
    rw (c.in-Ok.ensures.ok, c.words-taken.ensures)
    (params_more c.args.bytes.now rest c.params.len c.params.words c.in-Ok-Some.n c.params.types c.in-Ok-Some.next c.params.invariant c.split_at.ensures.back within field fits)
