use Rattle.std.proofs.Common.{◌+◌, ◌<◌, ℕ, length, sym, subst, ◌∙◌}
use Rattle.std.proofs.lemmas.Result.{err_from_is_err_and}
use Rattle.ja_attributes.specs.declared.fault.AttributeFault.TheVariants.{End}
use Rattle.ja_attributes.specs.Faults.{code_array}
use Rattle.ja_attributes.specs.InnerSteps.{onward}
use Rattle.ja_attributes.proofs.Heads.{onward_passes}
use Rattle.ja_attributes.proofs.Codes.{array_cut, array_wrong, array_end, array_read}
use Rattle.ja_attributes.proofs.code.code_array.Goals as goal

pub returns-in_err-len-clause-reads : goal.returns-in_err-len-clause-reads
returns-in_err-len-clause-reads c =
    let p = err_from_is_err_and c.from_residual.result c.from_residual.ensures.1 in
    rw (p.1, p.2) (array_cut c.args.at (onward c.args.base c.args.c.now) c.in_err-len.field-0.0 c.in_err-len.ensures)

pub returns-then-not-is_code_length-clause-reads : goal.returns-then-not-is_code_length-clause-reads
returns-then-not-is_code_length-clause-reads c =
    array_wrong c.args.at (onward c.args.base c.args.c.now) (onward c.args.base c.four_bytes.new.c) c.in_ok-len.len c.in_ok-len.ensures (sym c.is_code_length.ensures ∙ c.if-not-is_code_length.true)

pub returns-in-Ok-clause-reads : goal.returns-in-Ok-clause-reads
returns-in-Ok-clause-reads c =
    array_read c.args.at (onward c.args.base c.args.c.now) (onward c.args.base c.four_bytes.new.c) (onward c.args.base c.take.new.self) c.in_ok-len.len c.in-Ok.code.now c.in_ok-len.ensures
    (sym c.is_code_length.ensures ∙ c.if-not-is_code_length.false) (c.in-Ok.ensures.len ∙ c.from.ensures)
    (onward_passes c.args.base c.four_bytes.new.c c.take.new.self c.in-Ok.code.now c.in-Ok.ensures.ok)

pub returns-in-Err-clause-reads : goal.returns-in-Err-clause-reads
returns-in-Err-clause-reads c =
    let ends = c.in-Err.ensures.end in
    subst (λ (n : ℕ). (code_array c.args.at).fault (onward c.args.base c.args.c.now) (End (c.args.base + n))) (sym ends.at_place)
    (array_end c.args.at (onward c.args.base c.args.c.now) (onward c.args.base c.four_bytes.new.c) c.in_ok-len.len c.in_ok-len.ensures
    (sym c.is_code_length.ensures ∙ c.if-not-is_code_length.false) (subst (λ (n : ℕ). length c.four_bytes.new.c.rest < n) c.from.ensures ends.short))
