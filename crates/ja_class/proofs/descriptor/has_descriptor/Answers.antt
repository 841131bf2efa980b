use Rattle.std.proofs.Common.{◌≡◌, get_or, None, sym, ◌∙◌}
use Rattle.std.specs.Prelude.{MatchBool}
use Rattle.std.proofs.lemmas.Result.{IfOk-weaker}
use Rattle.ja_bytes.specs.DescriptorText.{IsFieldDesc}
use Rattle.ja_pool.specs.Table.{entry_tag}
use Rattle.ja_class.specs.Member.{HasDescriptor}
use Rattle.ja_class.proofs.Descriptors.{tag_seen, field_right}
use Rattle.ja_class.proofs.descriptor.has_descriptor.Goals as goal

pub returns-in-9 : goal.returns-in-9
returns-in-9 c =
    let table = c.args.pool.now in
    let entry = get_or table c.args.i None in
    let text = c.member.result.desc.now in
    let tag : entry_tag entry ≡ 9 = sym (tag_seen table c.args.i) ∙ sym c.tag.ensures ∙ c.in-9.is in
    IfOk-weaker c.is_field_desc.result (λ right. MatchBool right (IsFieldDesc text) (IsFieldDesc text → ⊥)) (λ right. MatchBool right (HasDescriptor table entry) (HasDescriptor table entry → ⊥))
    (λ right. field_right table entry right text tag c.member.ensures.desc) c.is_field_desc.ensures
