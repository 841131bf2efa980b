use Rattle.ja_writable.proofs.judge_text.judge_field_desc.Goals as goal

pub returns-in-Ok : goal.returns-in-Ok
returns-in-Ok c =
    let ok = rw c.bytes.ensures at c.in-Ok.ensures.ok in
    λ none. none (record { type = record { kind = c.in-Ok.field-0; name = ok.0 }; field = ok.1 })
