use Rattle.std.proofs.Common.{◌≡◌, ◌+◌, ◌-◌, ◌<◌, ◌^◌, ℕ, length, sym, ap, subst, ◌∙◌, arith}
use Rattle.std.proofs.lemmas.Result.{err_from_is_err_and}
use Rattle.ja_attributes.specs.declared.fault.AttributeFault.TheVariants.{End}
use Rattle.ja_attributes.specs.Part.{Reads}
use Rattle.std.specs.Prelude.{Err}
use Rattle.ja_attributes.specs.InnerSteps.{IsWithin, onward, seen, head}
use Rattle.ja_attributes.proofs.Heads.{head_name, head_length, head_cut, head_at, onward_passes, name_within, bytes_within, place_fits, front_within}
use Rattle.ja_attributes.proofs.attribute.attribute_in.Goals as goal

pub returns-in_err-name-clause-reads : goal.returns-in_err-name-clause-reads
returns-in_err-name-clause-reads c =
    let p = err_from_is_err_and c.from_residual.result c.from_residual.ensures.1 in
    rw (p.1, p.2) (head_name c.args.pool.now (onward c.args.base c.args.c.now) c.in_err-name.field-0.0 c.in_err-name.ensures)

pub four_bytes-requires : goal.four_bytes-requires
four_bytes-requires c = name_within c.args.pool.now c.args.base c.args.c.now c.name_index.new.c c.in_ok-name.name c.requires c.in_ok-name.ensures

pub returns-in_err-len-clause-reads : goal.returns-in_err-len-clause-reads
returns-in_err-len-clause-reads c =
    let p = err_from_is_err_and c.from_residual-in_err-len.result c.from_residual-in_err-len.ensures.1 in
    rw (p.1, p.2) (head_length c.args.pool.now (onward c.args.base c.args.c.now) (onward c.args.base c.name_index.new.c) c.in_ok-name.name c.in_err-len.field-0.0 c.in_ok-name.ensures c.in_err-len.ensures)

pub overflow_add-result : goal.overflow_add-result
overflow_add-result c =
    let v : IsWithin c.args.base c.four_bytes.new.c = front_within c.args.pool.now c.args.base c.args.c.now c.name_index.new.c c.four_bytes.new.c c.in_ok-name.name c.in_ok-len.len c.requires c.in_ok-name.ensures c.in_ok-len.ensures in
    grind (arith, c.in-Err.ensures, v)

pub returns-in-Err-clause-reads : goal.returns-in-Err-clause-reads
returns-in-Err-clause-reads c =
    let ends = c.in-Err.ensures.end in
    subst (λ (n : ℕ). Reads seen (head c.args.pool.now) (onward c.args.base c.args.c.now) (onward c.args.base c.take.new.self) (Err (End (c.args.base + n)))) (sym ends.at_place)
    (head_cut c.args.pool.now (onward c.args.base c.args.c.now) (onward c.args.base c.name_index.new.c) (onward c.args.base c.four_bytes.new.c) c.in_ok-name.name c.in_ok-len.len
    c.in_ok-name.ensures c.in_ok-len.ensures (subst (λ (n : ℕ). length c.four_bytes.new.c.rest < n) c.from.ensures ends.short))

pub overflow_add-end : goal.overflow_add-end
overflow_add-end c =
    let v : IsWithin c.args.base c.four_bytes.new.c = front_within c.args.pool.now c.args.base c.args.c.now c.name_index.new.c c.four_bytes.new.c c.in_ok-name.name c.in_ok-len.len c.requires c.in_ok-name.ensures c.in_ok-len.ensures in
    let u : IsWithin c.args.base c.take.new.self = bytes_within c.args.base c.four_bytes.new.c c.take.new.self c.in-Ok.content.now v c.in-Ok.ensures.ok in
    let f : c.args.base + c.place-2.result < 2 ^ 64 = place_fits c.args.base c.place-2.result c.take.new.self u (omega (arith, c.place-2.ensures)) (omega (arith, c.place-2.type_inv)) in
    omega arith

pub overflow_sub-result : goal.overflow_sub-result
overflow_sub-result c = omega (arith, c.place-2.ensures, c.in-Ok.ensures.ok.place, c.in-Ok.ensures.len, c.from.ensures, c.from-2.ensures)

pub returns-clause-reads : goal.returns-clause-reads
returns-clause-reads c =
    let passes = c.in-Ok.ensures.ok in
    let size : length c.in-Ok.content.now ≡ c.in_ok-len.len = c.in-Ok.ensures.len ∙ c.from.ensures in
    let from : c.args.base + c.place-2.result - c.from-2.result ≡ c.args.base + c.four_bytes.new.c.place = omega (arith, c.place-2.ensures, passes.place, size, c.from-2.ensures) in
    head_at c.args.pool.now (onward c.args.base c.args.c.now) (onward c.args.base c.name_index.new.c) (onward c.args.base c.four_bytes.new.c) (onward c.args.base c.take.new.self)
    c.in_ok-name.name c.in_ok-len.len c.in-Ok.content.now (c.args.base + c.place.result) (c.args.base + c.place-2.result - c.from-2.result)
    (ap (λ (n : ℕ). c.args.base + n) c.place.ensures) from c.in_ok-name.ensures c.in_ok-len.ensures size
    (onward_passes c.args.base c.four_bytes.new.c c.take.new.self c.in-Ok.content.now passes)

pub returns-clause-within : goal.returns-clause-within
returns-clause-within c =
    let passes = c.in-Ok.ensures.ok in
    let size : length c.in-Ok.content.now ≡ c.in_ok-len.len = c.in-Ok.ensures.len ∙ c.from.ensures in
    let v : IsWithin c.args.base c.four_bytes.new.c = front_within c.args.pool.now c.args.base c.args.c.now c.name_index.new.c c.four_bytes.new.c c.in_ok-name.name c.in_ok-len.len c.requires c.in_ok-name.ensures c.in_ok-len.ensures in
    let u : IsWithin c.args.base c.take.new.self = bytes_within c.args.base c.four_bytes.new.c c.take.new.self c.in-Ok.content.now v passes in
    let f : c.args.base + c.place-2.result < 2 ^ 64 = place_fits c.args.base c.place-2.result c.take.new.self u (omega (arith, c.place-2.ensures)) (omega (arith, c.place-2.type_inv)) in
    let from : c.args.base + c.place-2.result - c.from-2.result ≡ c.args.base + c.four_bytes.new.c.place = omega (arith, c.place-2.ensures, passes.place, size, c.from-2.ensures) in
    omega (arith, from, size, f, passes.place, c.place-2.ensures)
