use Rattle.ja_kinds.proofs.Effects.{field_named, field_unnamed}
use Rattle.ja_kinds.proofs.pool_kinds.field_kind.Goals as goal

pub returns-in-Ok : goal.returns-in-Ok
returns-in-Ok c =
    let found = c.in-Ok.ensures.ok in
    field_named c.args.pool.now c.args.instr.now c.in-Some.index c.member-member.result.desc.now c.in-Some.ensures.index c.member-member.ensures.desc
    c.in-Ok.kind found.0 c.in-Some.ensures.member found.1

pub returns-in-Err-Bad : goal.returns-in-Err-Bad
returns-in-Err-Bad c =
    field_unnamed c.args.pool.now c.args.instr.now c.in-Some.index c.member-member.result.desc.now c.in-Some.ensures.index c.member-member.ensures.desc
    c.in-Err-Bad.field-0-0 (rw c.in-Err-Bad.field-0-is at c.in-Err-Bad.ensures.wrong)
